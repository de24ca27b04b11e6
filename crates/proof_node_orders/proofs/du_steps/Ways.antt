-- A DU's changes as steps of the way down, and what it puts as orders of the uplink.
use Rattle.std.proofs.Common.{◌≡◌, ℕ, Bool, true, false, not, ◌&&◌, ◌||◌, if◌then◌else◌, nat_lt, List, [], ◌∷◌, ◌++◌, Option, Some, None, refl, sym, ap, subst, ◌∙◌}
use Rattle.std.proofs.lemmas.List.{append-nil}
use Rattle.gnb_types.specs.declared.names.NodeId.TheVariants.{CuUp}
use Rattle.gnb_types.specs.declared.names.BearerId.{BearerId}
use Rattle.gnb_types.specs.declared.names.SnBits.{SnBits}
use Rattle.gnb_types.specs.declared.plans.Peer.{Peer}
use Rattle.gnb_types.specs.declared.plans.Tunnel.{Tunnel}
use Rattle.gnb_types.specs.Orders.{bearer_cmp}
use Rattle.tables.specs.Tables.{find}
use Rattle.unit_defs.specs.Ways.{Pdu, packet_pdu, report_pdu, Load, fresh, numbered as with_count, frame, uplink, status, end_marker, Way}
use Rattle.unit_defs.specs.CuUpRecords.{DownlinkTunnel}
use Rattle.unit_defs.specs.Du.{Du, DuBearer, DuContext, context_with}
use Rattle.bearer_defs.specs.uplink_defs.Models as up
use Rattle.bearer_defs.specs.uplink_defs.Orders as ups
use Rattle.bearer_defs.specs.uplink_defs.Assumptions as up_assumptions
use Rattle.law_downlink_order.specs.path.Paths.{Frame, Path, gap_after, carried_by}
use Rattle.law_downlink_order.specs.path.Steps.{takes, begins_anew, fails, after, run, IsReady, IsAssumed, AreKept}
use Rattle.proof_node_orders.proofs.du_rows.Contexts.{made_there, marks_asked, marks_run}
use Rattle.proof_node_orders.proofs.du_rows.Frames.{carries_asked, carries_run}
use Rattle.proof_node_orders.specs.du_inputs.Changes.{DuModel, model_with, model_in, changed_in, takes as takes_frame}
use Rattle.proof_node_orders.specs.du_inputs.Puts.{carried_if, carried_of}
use Rattle.proof_node_orders.specs.du_steps.Steps.{IsOn, IsFresh, Receives, rest_of, loses_all, begins_in, was_received, order_of, item_of, place_of}

-- ---- a tunnel is closed

pub loses_kept : (fs : List Frame) (p : Path) → p.tunnel ≡ fs → AreKept p (loses_all fs)
unfolding AreKept IsReady IsAssumed after
loses_kept [] p is = tt
loses_kept (f ∷ fs) p is = (is, tt, loses_kept fs (record p { tunnel = fs }) refl)

pub loses_run : (fs : List Frame) (p : Path) → p.tunnel ≡ fs → run p (loses_all fs) ≡ record p { tunnel = [] }
unfolding run after
loses_run [] p is = ap (λ t. record p { tunnel = t }) is
loses_run (f ∷ fs) p is = loses_run fs (record p { tunnel = fs }) refl

-- ---- a frame is taken

pub takes_kept : (p : Path) (f : Frame) → p.tunnel ≡ f ∷ rest_of p.tunnel → AreKept p (takes f (rest_of p.tunnel) ∷ [])
unfolding AreKept IsReady IsAssumed
takes_kept p f stands = (stands, tt, tt)

same_gap : (d : DuModel) (p : Path) → IsOn d p → (f : Frame) (pdu : Option Pdu) → gap_after p.du f pdu ≡ gap_after d.bearer f pdu
same_gap d p on f None i = on.gap i || nat_lt (on.awaited i) f.number
same_gap d p on f (Some pdu) i = (on.gap i || nat_lt (on.awaited i) f.number) && not f.restart

pub takes_on : (d : DuModel) (p : Path) (f : Frame) → IsOn d p → IsOn (changed_in (takes_frame f) d) (run p (takes f (rest_of p.tunnel) ∷ []))
unfolding run after
takes_on d p f on = record { downlink = on.downlink; awaited = refl; gap = same_gap d p on f f.pdu }

none_carried : (t : Bool) → carried_by t None ≡ []
none_carried true = refl
none_carried false = refl

or_true : (t : Bool) → (t || true) ≡ true
or_true true = refl
or_true false = refl

one_received : (receives : Receives) (epoch : ℕ) (pdu : Pdu)
    → carried_by (not (receives epoch) || false) (Some pdu) ≡ was_received receives ((epoch, pdu) ∷ [])
unfolding was_received
one_received receives epoch (packet_pdu count packet) = by (receives epoch)
  where
    by : (t : Bool) → carried_by (not t || false) (Some (packet_pdu count packet)) ≡ (if t then (count, packet) ∷ [] else []) ++ []
    by true = refl
    by false = refl
one_received receives epoch (report_pdu fmc bits) = by (receives epoch)
  where
    by : (t : Bool) → carried_by (not t || false) (Some (report_pdu fmc bits)) ≡ []
    by true = refl
    by false = refl

-- where the terminal is on the radio of the DU's epoch, it hears what is carried
pub takes_received : (d : DuModel) (p : Path) (f : Frame) (receives : Receives) → IsOn d p → p.listens ≡ receives d.epoch
    → (run p (takes f (rest_of p.tunnel) ∷ [])).air ≡ p.air ++ was_received receives (carried_of (takes_frame f) d)
unfolding run after was_received
takes_received d p f receives on is =
    ap (λ xs. p.air ++ xs) (ap (λ g. carried_by (not p.listens || g) f.pdu) (same_gap d p on f f.pdu)
    ∙ ap (λ l. carried_by (not l || gap_after d.bearer f f.pdu) f.pdu) is
    ∙ by (gap_after d.bearer f f.pdu) f.pdu)
  where
    by : (g : Bool) (pdu : Option Pdu)
        → carried_by (not (receives d.epoch) || g) pdu ≡ was_received receives (carried_if g d.epoch pdu)
    by g None = none_carried (not (receives d.epoch) || g)
    by true (Some pdu) = ap (λ t. carried_by t (Some pdu)) (or_true (not (receives d.epoch)))
    by false (Some pdu) = one_received receives d.epoch pdu

-- ---- the way begins anew

pub begins_kept : (receives : Receives) (d : DuModel) (p : Path) (downlink : DownlinkTunnel) (fmc : ℕ) (bits : List Bool)
    → AreKept p (begins_in receives d downlink fmc bits)
unfolding AreKept IsReady IsAssumed after
begins_kept receives d p downlink fmc bits = (tt, tt, by (receives d.epoch) (after p (begins_anew downlink fmc bits)))
  where
    by : (t : Bool) (q : Path) → AreKept q (if t then [] else fails ∷ [])
    by true q = tt
    by false q = (tt, tt, tt)

module _ (receives : Receives) (d : DuModel) (p : Path) (downlink : DownlinkTunnel) (fmc : ℕ) (bits : List Bool) (fresh_there : IsFresh d)
    (is : downlink.teid ≡ d.bearer.downlink) where
  pub begins_on : IsOn d (run p (begins_in receives d downlink fmc bits))
  unfolding run after
  begins_on = by (receives d.epoch)
    where
      by : (t : Bool) → IsOn d (run (after p (begins_anew downlink fmc bits)) (if t then [] else fails ∷ []))
      by true = record { downlink = is; awaited = sym fresh_there.awaited; gap = sym fresh_there.gap }
      by false = record { downlink = is; awaited = sym fresh_there.awaited; gap = sym fresh_there.gap }

  pub begins_listen : (run p (begins_in receives d downlink fmc bits)).listens ≡ receives d.epoch
  unfolding run after
  begins_listen = by (receives d.epoch)
    where
      by : (t : Bool) → (run (after p (begins_anew downlink fmc bits)) (if t then [] else fails ∷ [])).listens ≡ t
      by true = refl
      by false = refl

-- a context that is set up is fresh
pub set_up_fresh : {M C : Type 0} (way : Way M C Pdu) (r : Du M C) (epoch : ℕ) (uplinks : List Tunnel) (sn : SnBits) (peer : Peer)
    (bearer : BearerId) (d : DuModel) → model_in bearer (Some (context_with way r epoch uplinks sn peer)) ≡ Some d → IsFresh d
set_up_fresh way r epoch uplinks sn peer bearer d there = by (find bearer_cmp now.bearers bearer) refl there
  where
    now : DuContext
    now = context_with way r epoch uplinks sn peer

    by : (o : Option DuBearer) → find bearer_cmp now.bearers bearer ≡ o → model_with now o ≡ Some d → IsFresh d
    by None found h = absurd cc
    by (Some b) found h =
        let same : record { epoch = now.epoch; sn = now.sn; bearer = b } ≡ d = cc in
        let is = made_there (CuUp peer.gnb peer.up) uplinks r.next_teid bearer b found in
        subst (λ (x : DuModel). IsFresh x) same (record { awaited = is.0; gap = is.1 })

-- ---- the uplink

pub puts_kept : (x : ℕ) (s : up.Model) (teid : ℕ) (load : Load Pdu)
    → ((count : ℕ) (packet : List ℕ) → load ≡ uplink (packet_pdu count packet) → s.air ≡ (count, packet) ∷ rest_of s.air)
    → up_assumptions.IsOpen (s.members s.station) (up.uplink_tunnel teid) → up_assumptions.NoEnd ((s.members s.station).uplink teid)
    → up_assumptions.AreKept s (order_of x s teid load)
unfolding up_assumptions.AreKept
puts_kept x s teid (uplink (packet_pdu count packet)) stands is_open no_end =
    carries_asked s count packet (rest_of s.air) teid (stands count packet refl) is_open no_end
puts_kept x s teid (uplink (report_pdu fmc bits)) stands is_open no_end = tt
puts_kept x s teid end_marker stands is_open no_end = marks_asked s x teid
puts_kept x s teid (fresh packet) stands is_open no_end = tt
puts_kept x s teid (with_count sn count packet) stands is_open no_end = tt
puts_kept x s teid (frame poll restart number pdu) stands is_open no_end = tt
puts_kept x s teid (status lost delivered) stands is_open no_end = tt

pub puts_run : (x : ℕ) (s : up.Model) (teid : ℕ) (load : Load Pdu)
    → ((ups.run s (order_of x s teid load)).members (place_of x s load)).uplink teid
    ≡ (s.members (place_of x s load)).uplink teid ++ item_of load
unfolding ups.run
puts_run x s teid (uplink (packet_pdu count packet)) = carries_run s count packet (rest_of s.air) teid
puts_run x s teid (uplink (report_pdu fmc bits)) = sym (append-nil ((s.members s.station).uplink teid))
puts_run x s teid end_marker = marks_run s x teid
puts_run x s teid (fresh packet) = sym (append-nil ((s.members x).uplink teid))
puts_run x s teid (with_count sn count packet) = sym (append-nil ((s.members x).uplink teid))
puts_run x s teid (frame poll restart number pdu) = sym (append-nil ((s.members x).uplink teid))
puts_run x s teid (status lost delivered) = sym (append-nil ((s.members x).uplink teid))

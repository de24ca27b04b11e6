-- Contexts of a DU: their end, new radios, and the rows that change none.
use Rattle.std.proofs.Common.{◌≡◌, ℕ, ◌+◌, Bool, true, false, cond, not, if◌then◌else◌, List, [], ◌∷◌, ◌++◌, length, map, Option, Some, None, refl, sym, ap, subst, ◌∙◌}
use Rattle.std.specs.Ordering.{is_eq}
use Rattle.gnb_types.specs.declared.names.NodeId.{NodeId}
use Rattle.gnb_types.specs.declared.names.UeId.{UeId}
use Rattle.gnb_types.specs.declared.names.BearerId.{BearerId}
use Rattle.gnb_types.specs.declared.names.SnBits.{SnBits}
use Rattle.gnb_types.specs.declared.keys.Channel.{Channel}
use Rattle.gnb_types.specs.declared.plans.Peer.{Peer}
use Rattle.gnb_types.specs.declared.plans.Tunnel.{Tunnel}
use Rattle.gnb_types.specs.declared.reasons.DropReason.TheVariants.{Unexpected}
use Rattle.gnb_types.specs.Orders.{bearer_cmp}
use Rattle.gnb_types.proofs.OrderLemmas.{ue_total}
use Rattle.tables.specs.Tables.{find}
use Rattle.tables.proofs.TableLaws.{find-put-same, find-without-same}
use Rattle.message_types.specs.declared.f1.F1.{F1}
use Rattle.message_types.specs.declared.f1.F1.TheVariants as f1s
use Rattle.message_types.specs.declared.rrc.Token.{Token}
use Rattle.transaction_defs.specs.Callees.{keep}
use Rattle.unit_defs.specs.Ways.{f1, Output, control, closed, Way, gives, spent, with_outputs, ◌then◌, drops, teids_spent}
use Rattle.unit_defs.specs.Messages.{bearers_of, are_first_bearers}
use Rattle.unit_defs.specs.Teids.{teids_are_left}
use Rattle.unit_defs.specs.Transactions.{replied}
use Rattle.unit_defs.specs.Du.{Du, DuBearer, DuContext, context_of, with_transactions, downlink_list, bearers_made, bearers_anew, replies, closings, openings, old_downlinks, replaced, replaces, context_with, setup, context_anew, modify_on, modify, end_markers, released_on, release, relayed_down, relay_down, relayed_up, relay_up, tick}
use Rattle.unit_defs.specs.CuUpRecords.{DownlinkTunnel}
use Rattle.law_downlink_order.specs.path.Paths.{Path}
use Rattle.law_downlink_order.specs.path.Steps.{begins_anew, after, run}
use Rattle.law_downlink_order.proofs.chain.Frames.{set_here}
use Rattle.bearer_defs.specs.chain_defs.Models.{set}
use Rattle.bearer_defs.specs.uplink_defs.Models.{Model, Member, end_marker}
use Rattle.bearer_defs.specs.uplink_defs.Orders as up
use Rattle.bearer_defs.specs.uplink_defs.Assumptions as up_assumptions
use Rattle.proof_node_orders.specs.du_rows.Shown.{Ends, Has, Keeps, renewed}

-- ---- an End Marker on an uplink tunnel

pub marks_asked : (s : Model) (x teid : ℕ) → up_assumptions.AreKept s (up.marks x teid ∷ [])
unfolding up_assumptions.AreKept up_assumptions.IsReady up_assumptions.IsAssumed
marks_asked s x teid = (tt, tt, tt)

pub marks_run : (s : Model) (x teid : ℕ)
    → ((up.run s (up.marks x teid ∷ [])).members x).uplink teid ≡ (s.members x).uplink teid ++ end_marker ∷ []
unfolding up.run up.after
marks_run s x teid =
    let m = s.members x in
    let more = m.uplink teid ++ end_marker ∷ [] in
    ap (λ (n : Member). n.uplink teid) (set_here s.members x (record m { uplink = set m.uplink teid more })) ∙ set_here m.uplink teid more

-- ---- bearers on new downlink tunnels

pub begins_run : (s : Path) (downlink : DownlinkTunnel) (fmc : ℕ) (bits : List Bool)
    → (run s (begins_anew downlink fmc bits ∷ [])).du ≡ renewed s.du downlink.teid
unfolding run after
begins_run s downlink fmc bits = refl

pub anew_there : (es : List (BearerId × DuBearer)) (next : ℕ) (k : BearerId) (b : DuBearer) → find bearer_cmp es k ≡ Some b
    → (teid : ℕ) × (find bearer_cmp (bearers_anew next es) k ≡ Some (renewed b teid))
unfolding find
anew_there [] next k b there = absurd cc
anew_there (e ∷ es) next k b there = by (is_eq (bearer_cmp k e.0)) there (anew_there es (next + 1) k b)
  where
    by : (t : Bool) → cond t (Some e.1) (find bearer_cmp es k) ≡ Some b
        → (find bearer_cmp es k ≡ Some b → (teid : ℕ) × (find bearer_cmp (bearers_anew (next + 1) es) k ≡ Some (renewed b teid)))
        → (teid : ℕ) × (cond t (Some (renewed e.1 next)) (find bearer_cmp (bearers_anew (next + 1) es) k) ≡ Some (renewed b teid))
    by true h again = let same : e.1 ≡ b = cc in (next, ap (λ (x : DuBearer). Some (renewed x next)) same)
    by false h again = again h

pub made_there : (up : NodeId) (ts : List Tunnel) (next : ℕ) (k : BearerId) (b : DuBearer) → find bearer_cmp (bearers_made up next ts) k ≡ Some b
    → (b.awaited ≡ 0) × (b.gap ≡ false)
unfolding find
made_there up [] next k b there = absurd cc
made_there up (t ∷ ts) next k b there = by (is_eq (bearer_cmp k t.bearer)) there (made_there up ts (next + 1) k b)
  where
    first : DuBearer
    first = record { up = up; uplink = t.teid; downlink = next; awaited = 0; gap = false }

    by : (c : Bool) → cond c (Some first) (find bearer_cmp (bearers_made up (next + 1) ts) k) ≡ Some b
        → (find bearer_cmp (bearers_made up (next + 1) ts) k ≡ Some b → (b.awaited ≡ 0) × (b.gap ≡ false))
        → (b.awaited ≡ 0) × (b.gap ≡ false)
    by true h again = let same : first ≡ b = cc in (sym (ap (λ (x : DuBearer). x.awaited) same), sym (ap (λ (x : DuBearer). x.gap) same))
    by false h again = again h

module _ {M C P : Type 0} (way : Way M C P) where
  -- ---- release

  pub release_ends : (ch : Channel) (ue : UeId) (instance : ℕ) (c : DuContext) (r : Du M C) → context_of r ue ≡ Some c
      → Ends ue (control ch.peer ch.ue (way.encode (f1 (f1s.UeContextReleaseComplete ue instance))) ∷ end_markers way ue c ++ closings way c)
      (release way ch ue instance r)
  unfolding release replied Ends
  release_ends ch ue instance c r is = subst
      (λ o. Ends ue (first ∷ end_markers way ue c ++ closings way c) (with_outputs (first ∷ []) (released_on way ue later o))) (sym is)
      (refl, find-without-same ue_total r.contexts ue)
    where
      first : Output M P
      first = control ch.peer ch.ue (way.encode (f1 (f1s.UeContextReleaseComplete ue instance)))

      later : Du M C
      later = with_transactions r (record r.transactions {
        callee = keep r.transactions.callee ch (way.encode (f1 (f1s.UeContextReleaseComplete ue instance)));
      })

  -- ---- new radios

  pub modify_has : (ch : Channel) (ue : UeId) (instance epoch : ℕ) (c : DuContext) (r : Du M C) → context_of r ue ≡ Some c
      → Has ue (context_anew way r epoch c) (modify way ch ue instance epoch r)
  unfolding modify replaces replied Has
  modify_has ch ue instance epoch c r is = subst (λ o. Has ue now (modify_on way ch ue instance epoch r o)) (sym is)
      (by (teids_are_left r.next_teid (length now.bearers)))
    where
      now : DuContext
      now = context_anew way r epoch c

      by : (t : Bool) → Has ue now ((if t then gives (map (λ teid. closed teid) (old_downlinks way (Some c)) ++ openings way now)
          (replaced way ue (Some c) now r) else spent teids_spent)
          then replies way ch (f1s.UeContextModificationResponse ue instance (downlink_list now)))
      by true = find-put-same ue_total r.contexts ue now
      by false = tt

  pub modify_held : (r : Du M C) (epoch : ℕ) (c : DuContext) (k : BearerId) (b : DuBearer) → find bearer_cmp c.bearers k ≡ Some b
      → (teid : ℕ) × (find bearer_cmp (context_anew way r epoch c).bearers k ≡ Some (renewed b teid))
  modify_held r epoch c k b there = anew_there c.bearers r.next_teid k b there

  pub setup_has : (ch : Channel) (ue : UeId) (instance epoch : ℕ) (uplinks : List Tunnel) (sn : SnBits) (peer : Peer) (r : Du M C)
      → are_first_bearers (bearers_of uplinks) ≡ true
      → Has ue (context_with way r epoch uplinks sn peer) (setup way ch ue instance epoch uplinks sn peer r)
  unfolding setup replaces replied Has
  setup_has ch ue instance epoch uplinks sn peer r is_first = subst (λ a. Has ue now a) (sym is)
      (by (teids_are_left r.next_teid (length now.bearers)))
    where
      now : DuContext
      now = context_with way r epoch uplinks sn peer

      answer : F1 C
      answer = f1s.UeContextSetupResponse ue instance (downlink_list now)

      is : setup way ch ue instance epoch uplinks sn peer r ≡ (replaces way ue (context_of r ue) now r then replies way ch answer)
      is i = if not (is_first i) then drops Unexpected r else (replaces way ue (context_of r ue) now r then replies way ch answer)

      by : (t : Bool) → Has ue now ((if t then gives (map (λ teid. closed teid) (old_downlinks way (context_of r ue)) ++ openings way now)
          (replaced way ue (context_of r ue) now r) else spent teids_spent) then replies way ch answer)
      by true = find-put-same ue_total r.contexts ue now
      by false = tt

  -- ---- rows that change no context

  pub relay_down_keeps : (ue : UeId) (container : C) (r : Du M C) → Keeps r (relay_down way ue container r)
  unfolding relay_down Keeps
  relay_down_keeps ue container r = by (context_of r ue)
    where
      by : (o : Option DuContext) → Keeps r (relayed_down way ue container r o)
      by None = (refl, refl)
      by (Some c) = (refl, refl)

  pub relay_up_keeps : (ue : UeId) (token : Token) (r : Du M C) → Keeps r (relay_up way ue token r)
  unfolding relay_up Keeps
  relay_up_keeps ue token r = by (context_of r ue)
    where
      by : (o : Option DuContext) → Keeps r (relayed_up way ue token r o)
      by None = (refl, refl)
      by (Some c) = (refl, refl)

  pub tick_keeps : (r : Du M C) → Keeps r (tick way r)
  unfolding tick Keeps
  tick_keeps r = (refl, refl)

-- Each state to which a script of packets down comes is in range.
use Rattle.std.proofs.Common.{◌≡◌, ◌≤◌, ◌<◌, ◌^◌, ℕ, ◌+◌, ◌&&◌, true, false, List, [], ◌∷◌, ◌++◌, Some, None, refl, sym, ap, ◌∙◌, subst, arith}
use Rattle.std.specs.List.{AllByRecursion}
use Rattle.gnb_types.specs.declared.names.Gnb.{Gnb}
use Rattle.gnb_types.specs.declared.names.Gnb.TheVariants.{A, B}
use Rattle.gnb_types.specs.declared.names.NodeId.{NodeId}
use Rattle.gnb_types.specs.declared.names.NodeId.TheVariants.{CuCp, CuUp as up_id, Du as du_id, Core, Ue}
use Rattle.gnb_types.specs.declared.names.SnBits.{SnBits}
use Rattle.gnb_types.specs.declared.names.UeId.{UeId}
use Rattle.gnb_types.specs.declared.names.BearerId.{BearerId}
use Rattle.gnb_types.specs.declared.names.Dir.TheVariants.{Dl}
use Rattle.gnb_types.specs.declared.keys.TunnelEnd.{TunnelEnd}
use Rattle.gnb_types.specs.Orders.{tunnel_cmp}
use Rattle.tables.specs.Tables.{find, at}
use Rattle.message_types.specs.declared.rrc.Token.{Token}
use Rattle.scenario_text.specs.declared.event.Event.{Event}
use Rattle.scenario_text.specs.declared.event.Event.TheVariants as events
use Rattle.unit_defs.specs.Ways.{Message, Pdu, packet_pdu, report_pdu, Load, fresh, numbered, frame, uplink, status, end_marker}
use Rattle.transaction_defs.specs.Callers.{rests as caller_rests}
use Rattle.unit_defs.specs.Transactions.{terminal_rests}
use Rattle.unit_defs.specs.CuCpRecords.{new_cu_cp}
use Rattle.unit_defs.specs.Teids.{last_teid}
use Rattle.run_defs.specs.Units.{requests_rest}
use Rattle.run_defs.specs.Written.{Written}
use Rattle.run_defs.specs.States.{new_state, goes, stops, radio_of, sn_of}
use Rattle.run_defs.specs.Runs.{Reading, plain_world, happens}
use Rattle.proof_run_steps.specs.steps.Reached.{reached_by, reached}
use Rattle.law_tunnels_are_owned.specs.open_tunnels.Open.{StandWhereOpen}
use Rattle.law_tunnels_are_owned.proofs.open_tunnels.Runs.{stand_where_open, first_stands}
use Rattle.law_tunnels_are_owned.specs.owner_facts.Owned.{AreOwned}
use Rattle.law_tunnels_are_owned.proofs.tunnel_owners.Placed.{first_owned}
use Rattle.law_tunnels_are_owned.proofs.tunnel_owners.Runs.{owned_later}
use Rattle.law_tunnels_are_owned.specs.link_items.Items.{ItemsShow}
use Rattle.law_tunnels_are_owned.proofs.link_items.Links.{items_in_run}
use Rattle.proof_run_steps.proofs.plan_facts.Along.{holds_along}
use Rattle.proof_run_steps.specs.facts.Facts.{Hold}
use Rattle.proof_run_steps.proofs.facts.Units.{first_hold}
use Rattle.law_tunnels_are_owned.specs.run_lengths.Lengths.{IsWrittenBy, IsWrittenOnAirBy, NumbersAreOfPlans}
use Rattle.law_tunnels_are_owned.proofs.run_lengths.Known.{length_is}
use Rattle.law_tunnels_are_owned.proofs.run_lengths.Answers.{allows, lengths, lengths_kept}
use Rattle.law_tunnels_are_owned.proofs.run_lengths.Runs.{first_lengths, planned}
use Rattle.law_downlink_scripts.proofs.downlink_only_facts.Views.{PlainState, OnTunnel, OnRadio, AllStand}
use Rattle.law_downlink_scripts.proofs.downlink_only_facts.Moves.{PlainStep, PlainOutcome, Fares}
use Rattle.law_downlink_scripts.specs.downlink_only_runs.Scripts.{IsDownlinkOnly}
use Rattle.law_downlink_scripts.proofs.downlink_only_runs.First.{at_first}
use Rattle.law_downlink_scripts.proofs.downlink_only_runs.Runs.{reached_more, event_fares}
use Rattle.law_octets_say_the_same.specs.octet_facts.Ranges.{IsDownWith, IsInRange, IsPduInRange, IsWrittenOn, IsWrittenAt, IsRanged, AreRanged}
use Rattle.law_octets_say_the_same.proofs.octet_facts.Facts.{IsOnLink, CpIn, Parts, ranges}
use Rattle.law_octets_say_the_same.proofs.octet_facts.Does.{Keeps}
use Rattle.law_octets_say_the_same.proofs.octet_facts.Gets.{open_up, open_du}
use Rattle.law_octets_say_the_same.proofs.octet_ranges.Events.{event_keeps}

downlink_only : (Acks : Type 0) (event : Event) → IsDownWith Acks event → IsDownlinkOnly event
downlink_only Acks (events.Static plan) h = tt
downlink_only Acks (events.Offer ue bearer Dl p) h = tt
downlink_only Acks (events.Get node teid) h = tt
downlink_only Acks (events.Air ue bearer dir) h = tt
downlink_only Acks (events.Ack ue bearer dir) h = tt
downlink_only Acks (events.Ask ue bearer) h = tt
downlink_only Acks event h = absurd h

and_one : (Acks : Type 0) (past : List Event) (event : Event) → AllByRecursion (IsDownWith Acks) past → IsDownWith Acks event → AllByRecursion (IsDownWith Acks) (past ++ event ∷ [])
and_one Acks [] event h one = (one, tt)
and_one Acks (x ∷ past) event h one = (h.0, and_one Acks past event h.1 one)

-- ---- at first

low_next : 1 ≤ last_teid + 1
low_next = omega arith

first_rest : (g : Gnb) → CpIn (new_cu_cp g)
unfolding terminal_rests caller_rests
first_rest g who = refl

first_ranges : (Acks : Type 0) → Hold (ranges Acks) new_state
unfolding at find
first_ranges Acks = record {
  units = first_hold Parts (λ g k. record { teids = (low_next, λ teid t e. absurd cc); bearers = λ ue c e bearer b f. absurd cc })
      (λ g k. (low_next, λ teid t e. absurd cc)) first_rest;
  core = tt;
  control_messages = tt;
  tunnels = λ end items found. absurd cc;
  radios = λ key. tt;
  few = λ counted. absurd counted;
}

module _ (Acks : Type 0) (reading : Reading) where
  -- a state to which such a script comes: each bearer stands, and all is in range
  pub record Comes (s : PlainState) : Type 0 where
    pub past : List Event
    pub are : AllByRecursion (IsDownWith Acks) past
    pub is : reached (plain_world reading) past new_state ≡ Some s
    pub standing : AllStand s
    pub in_range : Hold (ranges Acks) s

  pub begins : Comes new_state
  begins = record { past = []; are = tt; is = refl; standing = at_first; in_range = first_ranges Acks }

  module _ (s : PlainState) (c : Comes s) where
    pub stands_open : StandWhereOpen s
    stands_open = stand_where_open reading c.past new_state s (first_stands (Message Token) Token (Written (Load Pdu)) (Written Pdu)) c.is

    pub shows : ItemsShow s
    shows = items_in_run reading c.past s c.is

    pub comes_on : (event : Event) (after : PlainState) (steps : List PlainStep) → IsDownWith Acks event → happens (plain_world reading) event s ≡ goes steps after → Comes after
    comes_on event after steps one is = record {
      past = c.past ++ event ∷ [];
      are = and_one Acks c.past event c.are one;
      is = reached_more reading c.past event new_state s after c.is (ap (reached_by (plain_world reading) (λ x. Some x)) is);
      standing = λ who q. record { delivered = (fares who q).further; left = (fares who q).then_left; stage = (fares who q).stage };
      in_range = subst (Keeps Acks reading) is (event_keeps Acks reading event one s owned stands_open shows c.standing c.in_range);
    }
      where
        owned : AreOwned s.units
        owned = owned_later reading c.past new_state s c.is (first_owned (Message Token) Token)

        fares : (who : UeId) (q : BearerId) → Fares who q event (c.standing who q).delivered (c.standing who q).left (goes steps after)
        fares who q =
            subst (Fares who q event (c.standing who q).delivered (c.standing who q).left) is
            (event_fares reading event (downlink_only Acks event one) s owned stands_open shows c.standing who q)

  comes_to : (script : List Event) → AllByRecursion (IsDownWith Acks) script → (s t : PlainState) → Comes s → reached (plain_world reading) script s ≡ Some t → Comes t
  comes_to [] are s t c there = let same : s ≡ t = cc in subst Comes same c
  comes_to (event ∷ script) are s t c there =
      by (happens (plain_world reading) event s) refl (λ after d. comes_to script are.1 after t d) there
    where
      by : (e : PlainOutcome) → happens (plain_world reading) event s ≡ e
          → ((after : PlainState) → Comes after → reached (plain_world reading) script after ≡ Some t → Comes t)
          → reached_by (plain_world reading) (reached (plain_world reading) script) e ≡ Some t → Comes t
      by (goes steps after) is more further = more after (comes_on s c event after steps are.0 is) further
      by (stops steps why) is more further = absurd cc

-- ---- what is in range, as the law says it

in_range : (Acks : Type 0) (load : Load Pdu) → IsOnLink Acks load → IsInRange Acks load
in_range Acks (fresh p) h = h
in_range Acks (frame false restart number (Some (packet_pdu count p))) h = (h.0, h.2)
in_range Acks (frame false restart number (Some (report_pdu fmc bits))) h = absurd h
in_range Acks (frame false restart number None) h = absurd h
in_range Acks (frame true restart number pdu) h = absurd h
in_range Acks (numbered bits count p) h = absurd h
in_range Acks (uplink pdu) h = absurd h
in_range Acks (status [] (Some count)) h = h
in_range Acks (status [] None) h = absurd h
in_range Acks (status (range ∷ lost) delivered) h = absurd h
in_range Acks end_marker h = absurd h

abbrev Any : UeId → SnBits → Type 0
Any ue sn = Unit {0}

module _ (Acks : Type 0) (reading : Reading) (s : PlainState) (c : Comes Acks reading s) where
  long : Hold (lengths Any s.plans) s
  long =
      holds_along (plain_world reading) (lengths Any) (allows Any (λ dir p. Unit {0})) (lengths_kept Any (λ dir p. Unit {0}) reading) (λ plan. tt) (λ dir p. tt)
      c.past new_state s (first_lengths Any) c.is

  written : NumbersAreOfPlans s
  written = planned s long

  fits_node : (node : NodeId) (teid : ℕ) (item : OnTunnel) (rest : List OnTunnel) → find tunnel_cmp s.tunnels (record { node = node; teid = teid }) ≡ Some (item ∷ rest)
      → teid < 2 ^ 32
  fits_node (up_id g k) teid item rest found =
      let o = open_up s (stands_open Acks reading s c) (item ∷ rest) g k teid found in (c.in_range.units.0 g k).teids.1 teid o.0 o.1
  fits_node (du_id g k) teid item rest found =
      let o = open_du s (stands_open Acks reading s c) (item ∷ rest) g k teid found in (c.in_range.units.1 g k).1 teid o.0 o.1
  fits_node (CuCp g) teid item rest found = absurd ((shows Acks reading s c).tunnels (record { node = CuCp g; teid = teid }) (item ∷ rest) found).0.1
  fits_node Core teid item rest found = absurd ((shows Acks reading s c).tunnels (record { node = Core; teid = teid }) (item ∷ rest) found).0.1
  fits_node (Ue u) teid item rest found = absurd ((shows Acks reading s c).tunnels (record { node = Ue u; teid = teid }) (item ∷ rest) found).0.1

  on_tunnel : (teid : ℕ) (items : List OnTunnel) → teid < 2 ^ 32
      → AllByRecursion (λ (item : OnTunnel). IsWrittenBy (sn_of s item.key.ue) teid item) items → AllByRecursion (λ (item : OnTunnel). IsOnLink Acks item.content.says) items
      → AllByRecursion (IsWrittenOn Acks s teid) items
  on_tunnel teid [] fits p q = tt
  on_tunnel teid (item ∷ items) fits p q =
      ((fits, (λ i. record { says = item.content.says; octets = p.0.0 i }), in_range Acks item.content.says q.0), on_tunnel teid items fits p.1 q.1)

  on_radio : (items : List OnRadio) → AllByRecursion (λ (item : OnRadio). IsWrittenOnAirBy (sn_of s item.key.ue) item) items
      → AllByRecursion (λ (item : OnRadio). IsPduInRange item.content.says) items → AllByRecursion (IsWrittenAt s) items
  on_radio [] p q = tt
  on_radio (item ∷ items) p q = (((λ i. record { says = item.content.says; octets = p.0 i }), q.0), on_radio items p.1 q.1)

  -- no request is open or waits
  pub idle : (who : UeId) → requests_rest s.units who ≡ true
  idle who = λ i. c.in_range.units.2 A who i && c.in_range.units.2 B who i

  pub ranged : IsRanged Acks s
  ranged = record {
    tunnels = all_on;
    radios = λ key. on_radio (radio_of s key).items (written.radios key) (c.in_range.radios key);
    ups = λ g n ue x there. sym (written.ups g n ue x there);
    dus = λ g n ue x there. sym (written.dus g n ue x there);
    ues = λ ue u there. sym (length_is s.plans u.plan.ue u.plan.sn (long.units.3 ue u there).0) ∙ ap (sn_of s) (c.in_range.units.3 ue u there);
  }
    where
      all_on : (end : TunnelEnd) (items : List OnTunnel) → find tunnel_cmp s.tunnels end ≡ Some items → AllByRecursion (IsWrittenOn Acks s end.teid) items
      all_on end [] found = tt
      all_on end (item ∷ rest) found =
          on_tunnel end.teid (item ∷ rest) (fits_node end.node end.teid item rest found) (written.tunnels end (item ∷ rest) found) (c.in_range.tunnels end (item ∷ rest) found)

pub down_ranged : (Acks : Type 0) (reading : Reading) → AreRanged Acks reading
down_ranged Acks reading past s are is = ranged Acks reading s (comes_to Acks reading past are new_state s (begins Acks reading) is)

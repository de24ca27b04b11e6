-- Events of packets down: all stays in range.
use Rattle.std.proofs.Common.{◌≡◌, ◌≤◌, ◌<◌, ℕ, ◌+◌, ◌*◌, Bool, true, false, not, ◌&&◌, ◌||◌, cond, List, [], ◌∷◌, length, Option, Some, None, refl, sym, ap, ◌∙◌, arith}
use Rattle.std.proofs.lemmas.Bool.{and_parts}
use Rattle.std.proofs.lemmas.Bool.Decides.{nat_tests}
use Rattle.std.specs.Prelude.{if◌then◌else◌, nat_lt}
use Rattle.std.specs.List.{AllByRecursion}
use Rattle.std.specs.Ordering.{eq_by_cmp}
use Rattle.gnb_types.specs.declared.names.Gnb.{Gnb}
use Rattle.gnb_types.specs.declared.names.NodeId.TheVariants.{Core}
use Rattle.gnb_types.specs.declared.names.UeId.{UeId}
use Rattle.gnb_types.specs.declared.names.BearerId.{BearerId}
use Rattle.gnb_types.specs.declared.names.Dir.TheVariants.{Dl}
use Rattle.gnb_types.specs.declared.keys.TunnelEnd.{TunnelEnd}
use Rattle.gnb_types.specs.declared.plans.Plan.{Plan}
use Rattle.gnb_types.specs.declared.reasons.RefuseReason.TheVariants.{Attached, NoBearer, Quota, Size}
use Rattle.gnb_types.specs.Orders.{ue_cmp, bearer_cmp}
use Rattle.gnb_types.proofs.OrderLemmas.{ue_total}
use Rattle.tables.specs.Tables.{find}
use Rattle.tables.proofs.TableLaws.{find-put}
use Rattle.message_types.specs.declared.rrc.Token.{Token}
use Rattle.pdcp.specs.Near.{last_count}
use Rattle.link_defs.specs.Decoding.{IsSized}
use Rattle.scenario_text.specs.declared.event.Event.{Event}
use Rattle.scenario_text.specs.declared.event.Event.TheVariants as events
use Rattle.unit_defs.specs.Ways.{Message, teids_spent}
use Rattle.unit_defs.specs.Messages.{teid_of}
use Rattle.unit_defs.specs.Teids.{last_teid}
use Rattle.unit_defs.specs.CuUpRecords.{CuUpBearer, CuUpContext, CuUp}
use Rattle.unit_defs.specs.CuUpBearers.{last_frame, made}
use Rattle.unit_defs.specs.CuUp.{bearers_from, bearers_made}
use Rattle.unit_defs.specs.CuCpRecords.{CuCpRecord}
use Rattle.unit_defs.specs.Du.{Du}
use Rattle.unit_defs.specs.Core.{CorePath}
use Rattle.unit_defs.specs.Static.{cu_up_has_room, cu_up_has_teids, du_has_teids, with_downlinks, cu_up_context, cu_up_placed, du_placed, cu_cp_placed}
use Rattle.unit_defs.specs.Ue.{new_ue, placed, largest_packet}
use Rattle.run_defs.specs.Units.{cu_cp_of, cu_up_of, du_of}
use Rattle.run_defs.specs.States.{stops, ◌next◌, goes_on, as_step, prints, refused, spent_counter, entity, was_attached, has_bearer}
use Rattle.run_defs.specs.Steps.{put_on_tunnel, check_spans}
use Rattle.run_defs.specs.Conditions.{is_held_by_units, statically, ask_line}
use Rattle.run_defs.specs.Events.{static, offered, offer_on_path, offer, ask}
use Rattle.run_defs.specs.Runs.{Reading, plain_world, tunnel_end, happens}
use Rattle.proof_run_steps.specs.teids.Given.{below}
use Rattle.proof_run_steps.proofs.teids.Placed.{up_grows, du_grows}
use Rattle.law_tunnels_are_owned.specs.open_tunnels.Open.{StandWhereOpen}
use Rattle.law_tunnels_are_owned.specs.owner_facts.Owned.{AreOwned}
use Rattle.law_tunnels_are_owned.specs.link_items.Items.{ItemsShow}
use Rattle.proof_run_steps.specs.facts.Facts.{Hold}
use Rattle.proof_run_steps.proofs.facts.Units.{units_set_up}
use Rattle.proof_run_steps.proofs.facts.Within.{then_holds, keep_checked, keep_put_on_tunnel, same_links}
use Rattle.proof_run_steps.proofs.facts.Steps.{found_has}
use Rattle.proof_run_steps.proofs.facts.Runs.{step_holds, statically_holds}
use Rattle.law_downlink_scripts.proofs.downlink_only_facts.Views.{PlainState, OnTunnel, AllStand}
use Rattle.law_octets_say_the_same.specs.octet_facts.Ranges.{IsDownWith}
use Rattle.law_octets_say_the_same.proofs.octet_facts.Facts.{IsGood, AreGood, UpIn, DuIn, CpIn, Parts, ranges, left_fit, teids_fit}
use Rattle.law_octets_say_the_same.proofs.octet_facts.Does.{Keeps}
use Rattle.law_octets_say_the_same.proofs.octet_facts.Gets.{get_keeps}
use Rattle.law_octets_say_the_same.proofs.octet_facts.Airs.{air_keeps}
use Rattle.law_octets_say_the_same.proofs.octet_facts.Acks.{ack_keeps}

-- ---- a packet is offered

at_most : (a b : ℕ) → nat_lt a b ≡ false → b ≤ a
at_most a b e = grind (arith, nat_tests)

module _ (Acks : Type 0) (reading : Reading) (s : PlainState) (h : Hold (ranges Acks) s) (ue : UeId) (bearer : BearerId) (p : List ℕ) (some : 0 < length p) where
  abbrev now : PlainState
  now = offered (plain_world reading) (entity ue bearer Dl) s

  puts : (end : TunnelEnd) (item : OnTunnel) → (ranges Acks).on_tunnel end item
      → Keeps Acks reading (as_step (Some Core) (put_on_tunnel (plain_world reading) end item now next check_spans))
  puts end item sized =
      step_holds (plain_world reading) (ranges Acks) (Some Core) (put_on_tunnel (plain_world reading) end item now next check_spans)
      (then_holds (plain_world reading) (ranges Acks) 0 0 (put_on_tunnel (plain_world reading) end item now) check_spans
      (keep_put_on_tunnel (plain_world reading) (ranges Acks) end item sized 0 now (same_links (plain_world reading) (ranges Acks) 0 s now h refl refl refl refl refl))
      (λ t k. keep_checked (plain_world reading) (ranges Acks) 0 t k))

  on_path : (o : Option CorePath) → Keeps Acks reading (offer_on_path (plain_world reading) ue bearer p s o)
  on_path None = h
  on_path (Some path) = by (nat_lt largest_packet (length p)) refl
    where
      end : TunnelEnd
      end = record { node = path.up; teid = teid_of path.n3 bearer }

      item : OnTunnel
      item = record { key = entity ue bearer Dl; count = None; content = (plain_world reading).lay_n3 (teid_of path.n3 bearer) p }

      by : (t : Bool) → nat_lt largest_packet (length p) ≡ t
          → Keeps Acks reading (if t then refused Size s else as_step (Some Core) (put_on_tunnel (plain_world reading) end item now next check_spans))
      by true large = h
      by false fits = puts end item (some, at_most largest_packet (length p) fits)

  offer_keeps : Keeps Acks reading (offer (plain_world reading) ue bearer Dl p s)
  unfolding offer
  offer_keeps = by (has_bearer s ue bearer)
    where
      by : (t : Bool) → Keeps Acks reading (if t then offer_on_path (plain_world reading) ue bearer p s (find ue_cmp s.core.paths ue) else refused NoBearer s)
      by true = on_path (find ue_cmp s.core.paths ue)
      by false = h

-- ---- a terminal is set up without messages

no_count : 0 ≤ last_count + 1
no_count = omega arith

no_frame : 0 ≤ last_frame + 1
no_frame = omega arith

abbrev Begins : BearerId × CuUpBearer → Type 0
Begins e = (e.1.sender.next ≤ last_count + 1) × AllByRecursion IsSized e.1.waiting

made_begin : (target : Bool) (teid : ℕ) (bs : List BearerId) → AllByRecursion Begins (bearers_made target teid bs)
unfolding made
made_begin true teid [] = tt
made_begin false teid [] = tt
made_begin true teid (b ∷ bs) = ((no_count, tt), made_begin true (teid + 4) bs)
made_begin false teid (b ∷ bs) = ((no_count, tt), made_begin false (teid + 2) bs)

begin_good : (g : Gnb) (du teid : ℕ) (es : List (BearerId × CuUpBearer)) → AllByRecursion Begins es
    → AllByRecursion (λ (e : BearerId × CuUpBearer). IsGood e.1) (with_downlinks g du teid es)
begin_good g du teid [] h = tt
begin_good g du teid (e ∷ es) h = (((h.0.0, no_frame), h.0.1), begin_good g du (teid + 1) es h.1)

module _ (r : CuUp (Message Token) Token) (plan : Plan) (downlink : ℕ) (was : UpIn r) (left : cu_up_has_teids r plan ≡ true) where
  placed_good : AreGood IsGood (cu_up_placed r plan downlink)
  unfolding cu_up_placed
  placed_good who d found q x has =
      by (eq_by_cmp ue_cmp who plan.ue) (sym (find-put ue_total r.contexts plan.ue (cu_up_context r plan downlink) who) ∙ found)
    where
      by : (t : Bool) → cond t (Some (cu_up_context r plan downlink)) (find ue_cmp r.contexts who) ≡ Some d → IsGood x
      by true e =
          let same : cu_up_context r plan downlink ≡ d = cc in
          found_has bearer_cmp IsGood (cu_up_context r plan downlink).bearers q x
          (begin_good r.gnb plan.du downlink (bearers_made false r.next_teid (bearers_from 1 plan.bearers)) (made_begin false r.next_teid (bearers_from 1 plan.bearers)))
          (ap (λ (z : CuUpContext). find bearer_cmp z.bearers q) same ∙ has)
      by false e = was.bearers who d e q x has

  up_last : below (cu_up_placed r plan downlink).next_teid ≤ last_teid + 1
  unfolding cu_up_placed
  up_last = left_fit r.next_teid (2 * plan.bearers) left

  up_in : UpIn (cu_up_placed r plan downlink)
  up_in = record {
    teids = teids_fit r.next_teid r.tunnels (cu_up_placed r plan downlink).next_teid (cu_up_placed r plan downlink).tunnels (up_grows r plan downlink left) was.teids up_last;
    bearers = placed_good;
  }

module _ (r : Du (Message Token) Token) (plan : Plan) (uplink : ℕ) (was : DuIn r) (left : du_has_teids r plan ≡ true) where
  du_last : below (du_placed r plan uplink).next_teid ≤ last_teid + 1
  unfolding du_placed
  du_last = left_fit r.next_teid plan.bearers left

  du_in : DuIn (du_placed r plan uplink)
  du_in =
      teids_fit r.next_teid r.tunnels (du_placed r plan uplink).next_teid (du_placed r plan uplink).tunnels (du_grows r plan uplink left) was du_last

cp_in : (r : CuCpRecord (Message Token) Token) (plan : Plan) → CpIn r → CpIn (cu_cp_placed r plan)
unfolding cu_cp_placed
cp_in r plan k = k

placed_own : (plan : Plan) → (placed (new_ue plan)).plan.ue ≡ plan.ue
unfolding placed new_ue
placed_own plan = refl

module _ (Acks : Type 0) (reading : Reading) (s : PlainState) (h : Hold (ranges Acks) s) (plan : Plan) where
  seats : cu_up_has_teids (cu_up_of s.units plan.gnb plan.up) plan && du_has_teids (du_of s.units plan.gnb plan.du) plan ≡ true → Hold (ranges Acks) (statically plan s)
  seats teids =
      let both = and_parts (cu_up_has_teids (cu_up_of s.units plan.gnb plan.up) plan) (du_has_teids (du_of s.units plan.gnb plan.du) plan) teids in
      statically_holds (plain_world reading) (ranges Acks) plan s h
      (units_set_up Parts (λ g n r k. record { teids = k.teids; bearers = k.bearers }) (λ g n r k. k) (λ g r k. k) s.units plan h.units (placed_own plan)
      (up_in (cu_up_of s.units plan.gnb plan.up) plan (du_of s.units plan.gnb plan.du).next_teid (h.units.0 plan.gnb plan.up) both.0)
      (du_in (du_of s.units plan.gnb plan.du) plan ((cu_up_of s.units plan.gnb plan.up).next_teid + 1) (h.units.1 plan.gnb plan.du) both.1)
      (cp_in (cu_cp_of s.units plan.gnb) plan (h.units.2 plan.gnb)))
      tt

  static_keeps : Keeps Acks reading (static (plain_world reading) plan s)
  unfolding static
  static_keeps = fresh (was_attached s plan.ue || is_held_by_units plan s.units)
    where
      left : (t : Bool) → cu_up_has_teids (cu_up_of s.units plan.gnb plan.up) plan && du_has_teids (du_of s.units plan.gnb plan.du) plan ≡ t
          → Keeps Acks reading (if t then goes_on (statically plan s) else stops [] (spent_counter teids_spent))
      left true teids = seats teids
      left false teids = tt

      room : (t : Bool) → Keeps Acks reading (if t then refused Quota s else
          (if cu_up_has_teids (cu_up_of s.units plan.gnb plan.up) plan && du_has_teids (du_of s.units plan.gnb plan.du) plan
          then goes_on (statically plan s) else stops [] (spent_counter teids_spent)))
      room true = h
      room false = left (cu_up_has_teids (cu_up_of s.units plan.gnb plan.up) plan && du_has_teids (du_of s.units plan.gnb plan.du) plan) refl

      fresh : (t : Bool) → Keeps Acks reading (if t then refused Attached s else
          (if not (cu_up_has_room (cu_up_of s.units plan.gnb plan.up) plan) then refused Quota s else
          (if cu_up_has_teids (cu_up_of s.units plan.gnb plan.up) plan && du_has_teids (du_of s.units plan.gnb plan.du) plan
          then goes_on (statically plan s) else stops [] (spent_counter teids_spent))))
      fresh true = h
      fresh false = room (not (cu_up_has_room (cu_up_of s.units plan.gnb plan.up) plan))

-- ---- a question

ask_keeps : (Acks : Type 0) (reading : Reading) (s : PlainState) → Hold (ranges Acks) s → (ue : UeId) (bearer : BearerId) → Keeps Acks reading (ask (plain_world reading) ue bearer s)
unfolding ask
ask_keeps Acks reading s h ue bearer = by (has_bearer s ue bearer)
  where
    by : (t : Bool) → Keeps Acks reading (if t then prints (ask_line s ue bearer ∷ []) s else refused NoBearer s)
    by true = h
    by false = h

-- ---- each event

pub event_keeps : (Acks : Type 0) (reading : Reading) (event : Event) → IsDownWith Acks event → (s : PlainState) → AreOwned s.units → StandWhereOpen s → ItemsShow s → AllStand s → Hold (ranges Acks) s
    → Keeps Acks reading (happens (plain_world reading) event s)
unfolding happens
event_keeps Acks reading (events.Static plan) is s owned where_open shows all h = static_keeps Acks reading s h plan
event_keeps Acks reading (events.Offer ue bearer Dl p) is s owned where_open shows all h = offer_keeps Acks reading s h ue bearer p is
event_keeps Acks reading (events.Get node teid) is s owned where_open shows all h =
    get_keeps Acks reading s owned where_open shows all h (events.Get node teid) (tunnel_end (plain_world reading) node teid)
event_keeps Acks reading (events.Air ue bearer dir) is s owned where_open shows all h = air_keeps Acks reading s all h (events.Air ue bearer dir) ue bearer dir
event_keeps Acks reading (events.Ack ue bearer dir) is s owned where_open shows all h = ack_keeps Acks is reading s owned all h ue bearer dir
event_keeps Acks reading (events.Ask ue bearer) is s owned where_open shows all h = ask_keeps Acks reading s h ue bearer
event_keeps Acks reading event is s owned where_open shows all h = absurd is

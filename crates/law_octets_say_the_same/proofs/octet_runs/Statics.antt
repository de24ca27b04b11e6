-- A terminal that is set up without messages, over octets.
use Rattle.std.proofs.Common.{◌≡◌, ℕ, zero, suc, ◌+◌, ◌*◌, not, ◌&&◌, ◌||◌, List, [], refl, ap, ◌∙◌}
use Rattle.std.specs.Prelude.{if◌then◌else◌, is_some}
use Rattle.gnb_types.specs.declared.names.Gnb.{Gnb}
use Rattle.gnb_types.specs.declared.names.Gnb.TheVariants.{A, B}
use Rattle.gnb_types.specs.declared.names.NodeId.{NodeId}
use Rattle.gnb_types.specs.declared.names.NodeId.TheVariants.{CuUp as up_id, Du as du_id}
use Rattle.gnb_types.specs.declared.keys.TunnelEnd.{TunnelEnd}
use Rattle.gnb_types.specs.declared.plans.Plan.{Plan}
use Rattle.gnb_types.specs.declared.reasons.RefuseReason.TheVariants.{Attached, Quota}
use Rattle.gnb_types.specs.Orders.{ue_cmp, node_cmp}
use Rattle.message_types.specs.declared.rrc.Token.{Token}
use Rattle.tables.specs.Tables.{put, map_values}
use Rattle.tables.proofs.TableLaws.{put-mapped}
use Rattle.unit_defs.specs.Accessors.{place_of, cu_up_has_context, du_epoch}
use Rattle.unit_defs.specs.CuCpRecords.{CuCpRecord}
use Rattle.unit_defs.specs.Du.{Du}
use Rattle.unit_defs.specs.Static.{cu_up_has_room, cu_up_has_teids, du_has_teids, cu_up_placed, du_placed, cu_cp_placed, cu_cp_set_up, cu_up_set_up, du_set_up}
use Rattle.unit_defs.specs.Ue.{new_ue, placed}
use Rattle.unit_defs.specs.CuUpRecords.{CuUp}
use Rattle.unit_defs.specs.Ways.{Message, teids_spent}
use Rattle.unit_defs.specs.octet_defs.Codec.{Codec}
use Rattle.run_defs.specs.Units.{cu_cp_of, with_cu_cp, cu_up_of, with_cu_up, du_of, with_du, with_ue}
use Rattle.run_defs.specs.States.{spent_counter, stops, goes_on, refused, was_attached}
use Rattle.run_defs.specs.Steps.{with_tunnel}
use Rattle.run_defs.specs.Conditions.{all_set_up, units_placed, n3_from, tunnels_from, seated, statically, is_held_by_units}
use Rattle.run_defs.specs.Events.{static}
use Rattle.run_defs.specs.Runs.{Reading}
use Rattle.law_octets_say_the_same.specs.octet_rows.Octets.{up_again, du_again}
use Rattle.law_octets_say_the_same.specs.octet_runs.Again.{PlainState, PlainUnits, OctetUnits, cp_again, items_again, units_again}
use Rattle.law_octets_say_the_same.proofs.octet_runs.Lists.{values-twice}
use Rattle.law_octets_say_the_same.proofs.octet_runs.Endings.{PlainOutcome, OctetOutcome, over, outcome_again, choice}
use Rattle.law_octets_say_the_same.proofs.octet_runs.Puts.{OnTunnel, plain, octet, with_tunnel_again}
use Rattle.law_octets_say_the_same.proofs.octet_runs.Events.{up_of_again, du_of_again}

-- ---- units

abbrev PlainUp : Type 0
PlainUp = CuUp (Message Token) Token

abbrev PlainDu : Type 0
PlainDu = Du (Message Token) Token

abbrev PlainCp : Type 0
PlainCp = CuCpRecord (Message Token) Token

abbrev up_here : PlainUp → CuUp (List ℕ) (List ℕ)
up_here r = up_again r

abbrev du_here : PlainDu → Du (List ℕ) (List ℕ)
du_here r = du_again r

abbrev cp_here : PlainCp → CuCpRecord (List ℕ) (List ℕ)
cp_here r = cp_again r

cp_of_again : (u : PlainUnits) (g : Gnb) → cu_cp_of (units_again u) g ≡ cp_here (cu_cp_of u g)
cp_of_again u A = refl
cp_of_again u B = refl

pub with_up_again : (u : PlainUnits) (g : Gnb) (n : ℕ) (r : PlainUp) → with_cu_up (units_again u) g n (up_here r) ≡ units_again (with_cu_up u g n r)
with_up_again u g n r = ap (λ ups. record (units_again u) { ups = ups }) (put-mapped node_cmp up_again u.ups (up_id g n) r)

pub with_du_again : (u : PlainUnits) (g : Gnb) (n : ℕ) (r : PlainDu) → with_du (units_again u) g n (du_here r) ≡ units_again (with_du u g n r)
with_du_again u g n r = ap (λ dus. record (units_again u) { dus = dus }) (put-mapped node_cmp du_again u.dus (du_id g n) r)

with_cp_again : (u : PlainUnits) (g : Gnb) (r : PlainCp) → with_cu_cp (units_again u) g (cp_here r) ≡ units_again (with_cu_cp u g r)
with_cp_again u A r = refl
with_cp_again u B r = refl

up_placed_again : (r : PlainUp) (plan : Plan) (teid : ℕ) → cu_up_placed (up_here r) plan teid ≡ up_here (cu_up_placed r plan teid)
unfolding cu_up_placed
up_placed_again r plan teid = refl

du_placed_again : (r : PlainDu) (plan : Plan) (teid : ℕ) → du_placed (du_here r) plan teid ≡ du_here (du_placed r plan teid)
unfolding du_placed
du_placed_again r plan teid = refl

cp_placed_again : (r : PlainCp) (plan : Plan) → cu_cp_placed (cp_here r) plan ≡ cp_here (cu_cp_placed r plan)
unfolding cu_cp_placed
cp_placed_again r plan = refl

all_set_up_again : (u : PlainUnits) → all_set_up (units_again u) ≡ units_again (all_set_up u)
all_set_up_again u = λ i. record {
  cu_cp_a = cp_here (cu_cp_set_up u.cu_cp_a);
  cu_cp_b = cp_here (cu_cp_set_up u.cu_cp_b);
  ups = values-twice up_here cu_up_set_up cu_up_set_up up_here u.ups (λ r. refl) i;
  dus = values-twice du_here du_set_up du_set_up du_here u.dus (λ r. refl) i;
  ues = u.ues;
}

module _ (plan : Plan) (u : PlainUnits) where
  abbrev up : PlainUp
  up = cu_up_of u plan.gnb plan.up

  abbrev du : PlainDu
  du = du_of u plan.gnb plan.du

  abbrev with_terminal : PlainUnits
  with_terminal = with_ue u plan.ue (placed (new_ue plan))

  abbrev now_up : PlainUp
  now_up = cu_up_placed up plan du.next_teid

  abbrev now_du : PlainDu
  now_du = du_placed du plan (up.next_teid + 1)

  abbrev now_cp : PlainCp
  now_cp = cu_cp_placed (cu_cp_of u plan.gnb) plan

  placed_by : CuUp (List ℕ) (List ℕ) → Du (List ℕ) (List ℕ) → CuCpRecord (List ℕ) (List ℕ) → OctetUnits
  placed_by a b c = with_cu_cp (with_du (with_cu_up (units_again with_terminal) plan.gnb plan.up a) plan.gnb plan.du b) plan.gnb c

  placed_again : units_placed plan (units_again u) ≡ units_again (units_placed plan u)
  unfolding placed_by
  placed_again =
      (λ i. placed_by (cu_up_placed (up_of_again u plan.gnb plan.up i) plan (du_of_again u plan.gnb plan.du i).next_teid)
      (du_placed (du_of_again u plan.gnb plan.du i) plan ((up_of_again u plan.gnb plan.up i).next_teid + 1)) (cu_cp_placed (cp_of_again u plan.gnb i) plan))
      ∙ (λ i. placed_by (up_placed_again up plan du.next_teid i) (du_placed_again du plan (up.next_teid + 1) i) (cp_placed_again (cu_cp_of u plan.gnb) plan i))
      ∙ ap (λ v. with_cu_cp (with_du v plan.gnb plan.du (du_here now_du)) plan.gnb (cp_here now_cp)) (with_up_again with_terminal plan.gnb plan.up now_up)
      ∙ ap (λ v. with_cu_cp v plan.gnb (cp_here now_cp)) (with_du_again (with_cu_up with_terminal plan.gnb plan.up now_up) plan.gnb plan.du now_du)
      ∙ with_cp_again (with_du (with_cu_up with_terminal plan.gnb plan.up now_up) plan.gnb plan.du now_du) plan.gnb now_cp

  held_again : is_held_by_units plan (units_again u) ≡ is_held_by_units plan u
  held_again =
      λ i. is_some (place_of (cp_of_again u plan.gnb i) plan.ue) || cu_up_has_context (up_of_again u plan.gnb plan.up i) plan.ue
      || is_some (du_epoch (du_of_again u plan.gnb plan.du i) plan.ue)

-- ---- the state

module _ (codec : Codec) (reading : Reading) (plan : Plan) (s : PlainState) where
  tunnels_from_again : (node : NodeId) (teid count : ℕ) (ts : List (TunnelEnd × List OnTunnel))
      → tunnels_from node teid count (map_values items_again ts) ≡ map_values items_again (tunnels_from node teid count ts)
  tunnels_from_again node teid zero ts = refl
  tunnels_from_again node teid (suc count) ts =
      ap (tunnels_from node (teid + 1) count) (with_tunnel_again codec reading (record { node = node; teid = teid }) ts)
      ∙ tunnels_from_again node (teid + 1) count (with_tunnel (record { node = node; teid = teid }) ts)

  first_up : (cu_up_of (units_again s.units) plan.gnb plan.up).next_teid ≡ (cu_up_of s.units plan.gnb plan.up).next_teid
  first_up = ap (λ r. r.next_teid) (up_of_again s.units plan.gnb plan.up)

  first_du : (du_of (units_again s.units) plan.gnb plan.du).next_teid ≡ (du_of s.units plan.gnb plan.du).next_teid
  first_du = ap (λ r. r.next_teid) (du_of_again s.units plan.gnb plan.du)

  abbrev at_up : List (TunnelEnd × List OnTunnel)
  at_up = tunnels_from (up_id plan.gnb plan.up) (cu_up_of s.units plan.gnb plan.up).next_teid (2 * plan.bearers) s.tunnels

  tunnels_are : tunnels_from (du_id plan.gnb plan.du) (du_of (units_again s.units) plan.gnb plan.du).next_teid plan.bearers
      (tunnels_from (up_id plan.gnb plan.up) (cu_up_of (units_again s.units) plan.gnb plan.up).next_teid (2 * plan.bearers) (map_values items_again s.tunnels))
      ≡ map_values items_again (tunnels_from (du_id plan.gnb plan.du) (du_of s.units plan.gnb plan.du).next_teid plan.bearers at_up)
  tunnels_are =
      (λ i. tunnels_from (du_id plan.gnb plan.du) (first_du i) plan.bearers
      (tunnels_from (up_id plan.gnb plan.up) (first_up i) (2 * plan.bearers) (map_values items_again s.tunnels)))
      ∙ ap (tunnels_from (du_id plan.gnb plan.du) (du_of s.units plan.gnb plan.du).next_teid plan.bearers)
      (tunnels_from_again (up_id plan.gnb plan.up) (cu_up_of s.units plan.gnb plan.up).next_teid (2 * plan.bearers) s.tunnels)
      ∙ tunnels_from_again (du_id plan.gnb plan.du) (du_of s.units plan.gnb plan.du).next_teid plan.bearers at_up

  units_are : all_set_up (units_placed plan (units_again s.units)) ≡ units_again (all_set_up (units_placed plan s.units))
  units_are = ap all_set_up (placed_again plan s.units) ∙ all_set_up_again (units_placed plan s.units)

  statically_again : statically plan (over codec s) ≡ over codec (statically plan s)
  statically_again = λ i. record (seated plan (over codec s)) {
    units = units_are i;
    core = record (over codec s).core { paths = put ue_cmp s.core.paths plan.ue (record { up = up_id plan.gnb plan.up; n3 = n3_from 1 (first_up i) plan.bearers }) };
    tunnels = tunnels_are i;
    connected = put ue_cmp s.connected plan.ue 1;
  }

  -- what is left to decide
  by_teids : PlainOutcome
  by_teids =
      if cu_up_has_teids (cu_up_of s.units plan.gnb plan.up) plan && du_has_teids (du_of s.units plan.gnb plan.du) plan
      then goes_on (statically plan s) else stops [] (spent_counter teids_spent)

  by_teids_there : OctetOutcome
  by_teids_there =
      if cu_up_has_teids (cu_up_of (units_again s.units) plan.gnb plan.up) plan && du_has_teids (du_of (units_again s.units) plan.gnb plan.du) plan
      then goes_on (statically plan (over codec s)) else stops [] (spent_counter teids_spent)

  teids_again : by_teids_there ≡ outcome_again codec by_teids
  unfolding by_teids by_teids_there
  teids_again =
      (λ i. if cu_up_has_teids (up_of_again s.units plan.gnb plan.up i) plan && du_has_teids (du_of_again s.units plan.gnb plan.du i) plan
      then goes_on (statically plan (over codec s)) else stops [] (spent_counter teids_spent))
      ∙ choice (outcome_again codec) (cu_up_has_teids (cu_up_of s.units plan.gnb plan.up) plan && du_has_teids (du_of s.units plan.gnb plan.du) plan)
      (goes_on (statically plan s)) (stops [] (spent_counter teids_spent)) (goes_on (statically plan (over codec s))) (stops [] (spent_counter teids_spent))
      (ap goes_on statically_again) refl

  pub static_again : static (octet codec reading) plan (over codec s) ≡ outcome_again codec (static (plain codec reading) plan s)
  unfolding static by_teids by_teids_there
  static_again =
      (λ i. if was_attached s plan.ue || held_again plan s.units i then refused Attached (over codec s) else
      (if not (cu_up_has_room (up_of_again s.units plan.gnb plan.up i) plan) then refused Quota (over codec s) else by_teids_there))
      ∙ choice (outcome_again codec) (was_attached s plan.ue || is_held_by_units plan s.units) (refused Attached s)
      (if not (cu_up_has_room (cu_up_of s.units plan.gnb plan.up) plan) then refused Quota s else by_teids) (refused Attached (over codec s))
      (if not (cu_up_has_room (cu_up_of s.units plan.gnb plan.up) plan) then refused Quota (over codec s) else by_teids_there) refl
      (choice (outcome_again codec) (not (cu_up_has_room (cu_up_of s.units plan.gnb plan.up) plan)) (refused Quota s) by_teids (refused Quota (over codec s)) by_teids_there refl
      teids_again)

-- The tunnel of a DU's bearer is open as that bearer's, and no other tunnel is.
use Rattle.std.proofs.Common.{◌≡◌, ℕ, ◌+◌, ◌==◌, ◌≤◌, Bool, true, false, cond, List, Option, Some, None, refl, sym, ap, subst, ◌∙◌, eqb-true, arith}
use Rattle.std.specs.Prelude.{is_some}
use Rattle.std.specs.Ordering.{nat_cmp, eq_by_cmp}
use Rattle.gnb_types.specs.declared.names.Gnb.{Gnb}
use Rattle.gnb_types.specs.declared.names.NodeId.TheVariants.{Du as du_id}
use Rattle.gnb_types.specs.declared.names.UeId.{UeId}
use Rattle.gnb_types.specs.declared.names.BearerId.{BearerId}
use Rattle.gnb_types.specs.Orders.{bearer_cmp, node_cmp}
use Rattle.gnb_types.proofs.OrderLemmas.{node_total}
use Rattle.tables.specs.Tables.{find}
use Rattle.tables.proofs.TableLaws.{at-put}
use Rattle.message_types.specs.declared.rrc.Token.{Token}
use Rattle.unit_defs.specs.Ways.{Message}
use Rattle.unit_defs.specs.Du.{DuBearer, DuContext, DuTunnel, context_of, new_du}
use Rattle.run_defs.specs.Units.{Units, du_of, with_du}
use Rattle.proof_run_steps.specs.steps.Causes.{Cause, by_order, by_tick, by_octets, by_octets_on, by_attach, by_release, by_offer, by_item, by_air, by_ack, by_control_message}
use Rattle.proof_run_steps.proofs.steps.Frames.{units_by}
use Rattle.run_defs.specs.States.{World}
use Rattle.proof_run_steps.specs.teids.Given.{below}
use Rattle.proof_node_orders.specs.du_inputs.Changes.{DuModel, model_with, model_in, model_of}
use Rattle.law_tunnels_are_owned.specs.owner_facts.Owned.{is_downlink, du_context_names, DuOwns}
use Rattle.law_tunnels_are_owned.specs.open_tunnels.Open.{StandWhereOpen}
use Rattle.proof_bearer_refinement.specs.run_unit_inputs.Happenings.{DuRecord}
use Rattle.proof_bearer_refinement.specs.run_bearers.Things.{PlainUnits}
use Rattle.proof_bearer_refinement.specs.refinement_facts.Refinements.{RunState, RunItem}
use Rattle.proof_run_steps.specs.tunnel_steps.Standing.{standing}
use Rattle.proof_bearer_refinement.proofs.du_puts.Stands.{some_standing}
use Rattle.proof_bearer_refinement.specs.f1u_frames.Frames.{du_end}

number_same : (a : ℕ) → (a == a) ≡ true
number_same a = grind arith

module _ (ue : UeId) (bearer : BearerId) where
  abbrev pub its : DuTunnel
  its = record { ue = ue; bearer = bearer }

  named_by : (home : DuModel) (o : Option DuContext) → model_in bearer o ≡ Some home → du_context_names its home.bearer.downlink o ≡ true
  named_by home None is = absurd cc
  named_by home (Some c) is = by (find bearer_cmp c.bearers bearer) is
    where
      by : (o : Option DuBearer) → model_with c o ≡ Some home → is_downlink home.bearer.downlink o ≡ true
      by None at = absurd cc
      by (Some b) at =
          let same : record { epoch = c.epoch; sn = c.sn; bearer = b } ≡ home = cc in
          subst (λ (h : DuModel). (b.downlink == h.bearer.downlink) ≡ true) same (number_same b.downlink)

  names_it : (home : DuModel) (teid : ℕ) (o : Option DuContext) → model_in bearer o ≡ Some home → du_context_names its teid o ≡ true → home.bearer.downlink ≡ teid
  names_it home teid None is named = absurd cc
  names_it home teid (Some c) is named = by (find bearer_cmp c.bearers bearer) is named
    where
      by : (o : Option DuBearer) → model_with c o ≡ Some home → is_downlink teid o ≡ true → home.bearer.downlink ≡ teid
      by None at names = absurd cc
      by (Some b) at names =
          let same : record { epoch = c.epoch; sn = c.sn; bearer = b } ≡ home = cc in
          ap (λ (h : DuModel). h.bearer.downlink) (sym same) ∙ eqb-true b.downlink teid names

  module _ (r : DuRecord) (owns : DuOwns r) (home : DuModel) (there : model_of r ue bearer ≡ Some home) where
    pub home_found : find nat_cmp r.tunnels home.bearer.downlink ≡ Some its
    home_found = owns.0.stands home.bearer.downlink its (named_by home (context_of r ue) there)

    pub home_at : (teid : ℕ) → find nat_cmp r.tunnels teid ≡ Some its → home.bearer.downlink ≡ teid
    home_at teid found = names_it home teid (context_of r ue) there (owns.0.named teid its found)

    pub home_given : home.bearer.downlink + 1 ≤ below r.next_teid
    home_given = owns.2 home.bearer.downlink its home_found

  pub home_stands : (s : RunState) → StandWhereOpen s → (g : Gnb) (k : ℕ) → DuOwns (du_of s.units g k) → (home : DuModel)
      → model_of (du_of s.units g k) ue bearer ≡ Some home
      → (items : List RunItem) × (standing s (du_end g k home.bearer.downlink) ≡ Some items)
  home_stands s stand g k owns home there =
      some_standing (standing s (du_end g k home.bearer.downlink))
      (stand.1 g k home.bearer.downlink ∙ ap (λ (o : Option DuTunnel). is_some o) (home_found (du_of s.units g k) owns home there))

-- ---- a DU of units with another one

pub du_then : (u : PlainUnits) (gnb : Gnb) (number : ℕ) (r : DuRecord) (g : Gnb) (k : ℕ)
    → du_of (with_du u gnb number r) g k ≡ cond (eq_by_cmp node_cmp (du_id g k) (du_id gnb number)) r (du_of u g k)
du_then u gnb number r g k = at-put node_total (new_du g k) u.dus (du_id gnb number) r (du_id g k)

pub du_same : (u v : PlainUnits) → v.dus ≡ u.dus → (g : Gnb) (k : ℕ) → du_of v g k ≡ du_of u g k
du_same u v same g k = ap (λ ds. du_of (record u { dus = ds }) g k) same

-- a terminal that comes beside a step changes no DU
module _ {M C L P : Type 0} (world : World M C L P) where
  pub dus_stay : (cause : Cause M L P) (u : Units M C) → (units_by world cause u).dus ≡ u.dus
  dus_stay (by_order node order) u = refl
  dus_stay (by_tick node) u = refl
  dus_stay (by_octets from to octets) u = refl
  dus_stay (by_octets_on e octets) u = refl
  dus_stay (by_attach plan) u = refl
  dus_stay (by_release g w) u = refl
  dus_stay (by_offer w b q) u = refl
  dus_stay (by_item end item rest) u = refl
  dus_stay (by_air key home item) u = refl
  dus_stay (by_ack key home item rest) u = refl
  dus_stay (by_control_message k l to) u = refl

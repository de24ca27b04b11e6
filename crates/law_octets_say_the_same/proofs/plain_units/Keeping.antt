-- The tables keep terminals in range: their plans stay.
use Rattle.std.proofs.Common.{◌≡◌, ℕ, Bool, true, false, cond, List, Option, Some, None, refl, sym, ◌∙◌, subst}
use Rattle.std.specs.Prelude.{Ok, Err}
use Rattle.std.specs.Ordering.{eq_by_cmp}
use Rattle.gnb_types.specs.declared.names.NodeId.{NodeId}
use Rattle.gnb_types.specs.declared.names.NodeId.TheVariants.{CuCp, CuUp, Du, Core, Ue}
use Rattle.gnb_types.specs.declared.names.UeId.{UeId}
use Rattle.gnb_types.specs.declared.names.Gnb.{Gnb}
use Rattle.gnb_types.specs.declared.names.Gnb.TheVariants.{A, B}
use Rattle.gnb_types.specs.declared.plans.Plan.{Plan}
use Rattle.gnb_types.specs.declared.inputs.Input.{Input}
use Rattle.gnb_types.specs.Orders.{ue_cmp}
use Rattle.gnb_types.proofs.OrderLemmas.{ue_total}
use Rattle.tables.specs.Tables.{find, put}
use Rattle.tables.proofs.TableLaws.{find-put}
use Rattle.unit_defs.specs.Ways.{gives, spent}
use Rattle.unit_defs.specs.Ue.{UeNode, new_ue, placed, ue_acts}
use Rattle.unit_defs.specs.octet_defs.Codec.{Codec, octet_way}
use Rattle.unit_defs.specs.octet_defs.Reading.{ReadInput, read_at_ue}
use Rattle.unit_defs.specs.octet_defs.Units.{OctetAnswer, acts_on, cu_cp_steps, cu_up_steps, du_steps, ue_steps}
use Rattle.run_defs.specs.Units.{cu_up_of, du_of, cu_cp_of, ue_of, with_cu_cp, with_cu_up, with_du, with_ue}
use Rattle.run_defs.specs.Conditions.{units_placed, all_set_up}
use Rattle.run_defs.specs.UnitRuns.{Records, UnitAnswer, unit_gives, unit_spent, answered_with, ue_answers, tables}
use Rattle.proof_unit_steps.specs.answers.After.{HoldsAfter}
use Rattle.proof_run_steps.proofs.plans.Terminals.{terminal_stays}
use Rattle.run_defs.specs.plain_defs.Plain.{IsPlanned, KeepRange, IsPlain, ArePlanned}

module _ (codec : Codec) where
  -- ---- a terminal that is put in range leaves all in range

  put_planned : (r : Records) (ue : UeId) (x : UeNode) → ArePlanned r → IsPlanned x.plan → ArePlanned (with_ue r ue x)
  put_planned r ue x all is v u e = by (eq_by_cmp ue_cmp v ue) (sym (find-put ue_total r.ues ue x v) ∙ e)
    where
      by : (b : Bool) → cond b (Some x) (find ue_cmp r.ues v) ≡ Some u → IsPlanned u.plan
      by true h = let those : x ≡ u = cc in subst (λ (y : UeNode). IsPlanned y.plan) those is
      by false h = all v u h

  -- ---- an answer of a unit, and what all keep then

  AfterPlanned : UnitAnswer → Type 0
  AfterPlanned (unit_gives outputs after) = ArePlanned after
  AfterPlanned (unit_spent counter) = Unit {0}

  same_terminals : {R : Type 0} (r : Records) (back : R → Records) → ((x : R) → (back x).ues ≡ r.ues) → ArePlanned r → (a : OctetAnswer R)
      → AfterPlanned (answered_with codec back a)
  unfolding AfterPlanned
  same_terminals r back same all (gives outputs x) = λ v u e. all v u ((λ i. find ue_cmp (sym (same x) i) v) ∙ e)
  same_terminals r back same all (spent counter) = tt

  cp_same : (r : Records) (gnb : Gnb) (x : _) → (with_cu_cp r gnb x).ues ≡ r.ues
  cp_same r A x = refl
  cp_same r B x = refl

  StepPlanned : OctetAnswer UeNode → Type 0
  StepPlanned (gives outputs x) = IsPlanned x.plan
  StepPlanned (spent counter) = Unit {0}

  step_planned : (u : UeNode) (input : Input) → IsPlanned u.plan → StepPlanned (ue_steps codec u input)
  unfolding ue_steps StepPlanned
  step_planned u input is = by (read_at_ue codec u input)
    where
      by : (read : ReadInput) → StepPlanned (acts_on (ue_acts (octet_way codec) u) u read)
      by (Ok heard) = lifted (ue_acts (octet_way codec) u heard) (terminal_stays (octet_way codec) IsPlanned u heard is)
        where
          lifted : (a : OctetAnswer UeNode) → HoldsAfter (λ (x : UeNode). IsPlanned x.plan) a → StepPlanned a
          lifted (gives outputs x) h = h
          lifted (spent counter) h = tt
      by (Err reason) = is

  ue_planned : (r : Records) (ue : ℕ) (input : Input) → ArePlanned r → (o : Option UeNode) → ue_of r (record { 0 = ue }) ≡ o
      → AfterPlanned (ue_answers codec r ue input o)
  unfolding AfterPlanned StepPlanned
  ue_planned r ue input all None e = all
  ue_planned r ue input all (Some u) e = by (ue_steps codec u input) (step_planned u input (all (record { 0 = ue }) u e))
    where
      by : (a : OctetAnswer UeNode) → StepPlanned a → AfterPlanned (answered_with codec (with_ue r (record { 0 = ue })) a)
      by (gives outputs x) h = put_planned r (record { 0 = ue }) x all h
      by (spent counter) h = tt

  tables_planned : (r : Records) (node : NodeId) (input : Input) → ArePlanned r → AfterPlanned (tables codec r node input)
  unfolding tables AfterPlanned
  tables_planned r (CuCp gnb) input all = same_terminals r (with_cu_cp r gnb) (cp_same r gnb) all (cu_cp_steps codec (cu_cp_of r gnb) input)
  tables_planned r (CuUp gnb number) input all =
      same_terminals r (with_cu_up r gnb number) (λ x. refl) all (cu_up_steps codec (cu_up_of r gnb number) input)
  tables_planned r (Du gnb number) input all =
      same_terminals r (with_du r gnb number) (λ x. refl) all (du_steps codec (du_of r gnb number) input)
  tables_planned r (Ue ue) input all = ue_planned r ue input all (ue_of r (record { 0 = ue })) refl
  tables_planned r Core input all = all

  placed_planned : (r : Records) (plan : Plan) → IsPlanned plan → ArePlanned r → ArePlanned (all_set_up (units_placed plan r))
  unfolding placed new_ue
  placed_planned r plan is all =
      subst (λ (ues : List (UeId × UeNode)). (v : UeId) (u : UeNode) → find ue_cmp ues v ≡ Some u → IsPlanned u.plan) (sym (by plan.gnb))
      (put_planned r plan.ue (placed (new_ue plan)) all is)
    where
      by : (gnb : Gnb) → (all_set_up (units_placed plan r)).ues ≡ put ue_cmp r.ues plan.ue (placed (new_ue plan))
      by gnb = cp_same _ plan.gnb _

  pub tables_keep : KeepRange (tables codec) ArePlanned
  unfolding find new_ue AfterPlanned
  tables_keep = record {
    begins = λ ue u e. absurd cc;
    comes = λ r plan is all. put_planned r plan.ue (new_ue plan) all is;
    places = λ r plan is held room teids all. placed_planned r plan is all;
    answers = λ r after node input outputs all given e. subst AfterPlanned e (tables_planned r node input all);
  }

  pub tables_plain : IsPlain codec (tables codec) ArePlanned
  tables_plain = λ r node input all given. refl

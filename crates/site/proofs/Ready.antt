-- A site goes on to be ready: no unit has failed, and all tables are in order.
use Rattle.std.proofs.Common.{◌≡◌, ◌≤◌, ◌<◌, ℕ, Bool, false, List, Option, Some, None, ◌⊎◌, inl, inr, refl, sym, ap, ◌∙◌, subst, arith}
use Rattle.std.specs.Prelude.{Result, Ok, Err, OnOk, length}
use Rattle.gnb_types.specs.declared.inputs.Input.{Input}
use Rattle.gnb_types.specs.declared.inputs.Input.TheVariants as ins
use Rattle.gnb_types.specs.declared.names.NodeId.{NodeId}
use Rattle.gnb_types.specs.declared.outputs.Output.{Output}
use Rattle.gnb_types.specs.declared.plans.Plan.{Plan}
use Rattle.unit_defs.specs.Ue.{new_ue}
use Rattle.unit_defs.specs.octet_defs.Codec.{Codec}
use Rattle.run_defs.specs.Units.{new_units, with_ue}
use Rattle.run_defs.specs.UnitRuns.{Records, tables}
use Rattle.run_defs.specs.plain_defs.Plain.{IsGiven, IsPlanned}
use Rattle.run_units.specs.Steps.{StepGives, PlacingGives}
use Rattle.cu_up_contexts.specs.declared.contexts.placing.PlaceError.{PlaceError}
use Rattle.cu_up_contexts.specs.declared.contexts.placing.PlaceError.TheVariants as places
use Rattle.unit_messages.specs.declared.steps.StepError.{StepError}
use Rattle.ue_node.specs.Nodes.{HasPacket}
use Rattle.proof_site.specs.leaves.Settled.{AreSettled}
use Rattle.proof_site.proofs.leaves.Keeping.{settled_begin, settled_come, settled_place, settled_answer}
use Rattle.site.specs.declared.unit_set.UnitSet.{UnitSet}
use Rattle.site.specs.Sites.{records_of, AreWorking, AreReady}

-- ---- whether they have begun

pub begun : (units : Option UnitSet) (s : UnitSet) → units ≡ Some s → AreReady units → AreReady (Some s)
begun units s is ready = subst (λ (o : Option UnitSet). AreReady o) is ready

pub not_begun : (units : Option UnitSet) → units ≡ None → AreReady units → ⊥
not_begun units is ready = (subst (λ (o : Option UnitSet). AreReady o) is ready).0

pub ready_first : (s : UnitSet) → records_of s ≡ new_units → AreWorking s → AreReady (Some s)
ready_first s is w = (w, subst (λ (r : Records). AreSettled r) (sym is) settled_begin)

-- ---- what a plan says

module _ (plan : Plan) (planned : IsPlanned plan) where
  pub some_bearers : 1 ≤ plan.bearers
  some_bearers = planned.1.1.1.1.1.0.from

  pub few_bearers : plan.bearers ≤ 8
  few_bearers = planned.1.1.1.1.1.0.to

  pub least_quota : 4 ≤ plan.quota
  least_quota = planned.1.1.1.1.1.1.0.from

  pub most_quota : plan.quota ≤ 4096
  most_quota = planned.1.1.1.1.1.1.0.to

-- ---- after a call

pub given_packet : (input : Input) → IsGiven input → HasPacket input
given_packet (ins.Offer ue bearer packet) is = let some : 0 < length packet = is.some in omega (arith, some)
given_packet input is = tt

module _ (s t : UnitSet) (settled : AreSettled (records_of s)) where
  pub ready_step : (codec : Codec) (node : NodeId) (input : Input) (result : Result (List Output) StepError) → OnOk result (AreWorking t)
      → StepGives (tables codec (records_of s) node input) (records_of t) result → OnOk result (AreReady (Some t))
  ready_step codec node input (Ok outputs) w is = (w, settled_answer codec (records_of s) settled node input outputs (records_of t) is)
  ready_step codec node input (Err error) w is = tt

  pub ready_seat : {E : Type 0} (plan : Plan) (result : Result (Unit {0}) E) → OnOk result (AreWorking t)
      → OnOk result (records_of t ≡ with_ue (records_of s) plan.ue (new_ue plan)) → OnOk result (AreReady (Some t))
  ready_seat plan (Ok done) w is = (w, subst (λ (r : Records). AreSettled r) (sym is) (settled_come (records_of s) plan settled))
  ready_seat plan (Err error) w is = tt

  abbrev WhereKept : Result (Unit {0}) PlaceError → Type 0 → Type 0
  WhereKept result P = (result ≡ Ok tt) ⊎ (result ≡ Err places.NoQuota) → P

  pub ready_place : (plan : Plan) (result : Result (Unit {0}) PlaceError) → WhereKept result (AreWorking t)
      → PlacingGives plan (records_of s) (records_of t) result → WhereKept result (AreReady (Some t))
  ready_place plan (Ok done) w is kept = (w kept, subst (λ (r : Records). AreSettled r) (sym is.2) (settled_place (records_of s) plan settled))
  ready_place plan (Err places.NoQuota) w is kept = (w kept, subst (λ (r : Records). AreSettled r) (sym is.1) settled)
  ready_place plan (Err (places.Step error)) w is (inl kept) = absurd cc
  ready_place plan (Err (places.Step error)) w is (inr kept) = absurd cc

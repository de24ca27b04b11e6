-- In every run the record of a terminal is of its plan.
use Rattle.std.proofs.Common.{◌≡◌, ℕ, List, Option, Some, None, refl}
use Rattle.gnb_types.specs.declared.names.NodeId.{NodeId}
use Rattle.gnb_types.specs.declared.names.NodeId.TheVariants.{CuCp, CuUp as up_id, Du as du_id, Core, Ue}
use Rattle.gnb_types.specs.declared.plans.Plan.{Plan}
use Rattle.message_types.specs.declared.rrc.Token.{Token}
use Rattle.scenario_text.specs.declared.event.Event.{Event}
use Rattle.unit_defs.specs.Ways.{Message, Pdu, Load, Answer, gives, spent}
use Rattle.unit_defs.specs.Ue.{UeNode, new_ue, placed, ue_acts}
use Rattle.unit_defs.specs.CuUpRecords.{CuUp}
use Rattle.unit_defs.specs.CuUp.{cu_up_acts}
use Rattle.unit_defs.specs.Du.{Du, du_acts}
use Rattle.unit_defs.specs.CuCpRecords.{CuCpRecord}
use Rattle.unit_defs.specs.CuCp.{cu_cp_acts}
use Rattle.unit_defs.specs.Core.{CoreRecord, core_acts}
use Rattle.run_defs.specs.Written.{Written}
use Rattle.run_defs.specs.States.{State, new_state}
use Rattle.run_defs.specs.Runs.{Reading, plain_way, plain_world}
use Rattle.proof_run_steps.specs.steps.Reached.{reached}
use Rattle.proof_unit_steps.specs.answers.After.{HoldsAfter}
use Rattle.proof_run_steps.proofs.plans.Terminals.{terminal_stays}
use Rattle.proof_run_steps.specs.facts.UnitFacts.{UnitFacts, AnswerFits, UnitsKeep}
use Rattle.proof_run_steps.proofs.facts.Alone.{alone, answers_alone}
use Rattle.proof_run_steps.proofs.facts.Plain.{plain_run_holds}
use Rattle.law_downlink_scripts.specs.run_delivers.Next.{AreTheirOwn}

abbrev own_plans : UnitFacts
own_plans = alone (λ gnb number r. Unit {0}) (λ gnb number r. Unit {0}) (λ gnb r. Unit {0}) (λ ue u. u.plan.ue ≡ ue) (λ r. Unit {0})

any_after : {R : Type 0} (a : Answer (Message Token) Pdu R) → HoldsAfter (λ (r : R). Unit {0}) a
any_after (gives outputs r) = tt
any_after (spent counter) = tt

answers : {R : Type 0} (Q : R → Type 0) (node : NodeId) (taken : Option ℕ) (a : Answer (Message Token) Pdu R) → HoldsAfter Q a → AnswerFits own_plans Q node taken a
answers Q node taken a h =
    answers_alone (λ gnb number r. Unit {0}) (λ gnb number r. Unit {0}) (λ gnb r. Unit {0}) (λ ue u. u.plan.ue ≡ ue) (λ r. Unit {0}) Q node taken a h

plans_keep : UnitsKeep own_plans
unfolding new_ue placed
plans_keep = record {
  ups_act = λ gnb number r taken input p fits. answers (λ (x : CuUp (Message Token) Token). Unit {0}) (up_id gnb number) taken (cu_up_acts plain_way r input) (any_after (cu_up_acts plain_way r input));
  dus_act = λ gnb number r taken input p fits. answers (λ (x : Du (Message Token) Token). Unit {0}) (du_id gnb number) taken (du_acts plain_way r input) (any_after (du_acts plain_way r input));
  cps_act = λ gnb r taken input p fits. answers (λ (x : CuCpRecord (Message Token) Token). Unit {0}) (CuCp gnb) taken (cu_cp_acts plain_way r input) (any_after (cu_cp_acts plain_way r input));
  ues_act = λ ue u taken input p fits. answers (λ (x : UeNode). x.plan.ue ≡ ue) (Ue ue.0) taken (ue_acts plain_way u input) (terminal_stays plain_way (λ (plan : Plan). plan.ue ≡ ue) u input p);
  core_acts = λ r from message p fits. answers (λ (x : CoreRecord (Message Token) Token). Unit {0}) Core None (core_acts plain_way r from message) (any_after (core_acts plain_way r from message));
  lays = λ r ue bearer x path p found. tt;
  comes = λ plan. refl;
  places_ue = λ plan. refl;
  places_up = λ r plan downlink room teids p. tt;
  places_du = λ r plan uplink teids p. tt;
  places_cp = λ r plan p. tt;
  places_path = λ r plan n3 p. tt;
  sets_up = λ gnb number r p. tt;
  sets_du = λ gnb number r p. tt;
  sets_cp = λ gnb r p. tt;
  first_up = λ gnb number. tt;
  first_du = λ gnb number. tt;
  first_cp = λ gnb. tt;
  first_core = tt;
}

pub plans_are_own : (reading : Reading) (events : List Event) (t : State (Message Token) Token (Written (Load Pdu)) (Written Pdu))
    → reached (plain_world reading) events new_state ≡ Some t → AreTheirOwn t.units
plans_are_own reading events t is = (plain_run_holds own_plans plans_keep reading events t is).units.3

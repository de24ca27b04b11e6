-- In every run each terminal is kept as itself, and no TEID of a DU is two terminals'; so a step of a unit is one terminal's.
use Rattle.std.proofs.Common.{◌≡◌, ℕ, List, Some, None, refl}
use Rattle.gnb_types.specs.declared.names.Gnb.{Gnb}
use Rattle.gnb_types.specs.declared.names.NodeId.{NodeId}
use Rattle.gnb_types.specs.declared.names.NodeId.TheVariants.{CuCp, CuUp as up_id, Du as du_id, Core, Ue}
use Rattle.gnb_types.specs.declared.names.UeId.{UeId}
use Rattle.gnb_types.specs.declared.plans.Plan.{Plan}
use Rattle.message_types.specs.declared.rrc.Token.{Token}
use Rattle.scenario_text.specs.declared.event.Event.{Event}
use Rattle.unit_defs.specs.Ways.{Message, Pdu, Load, gives, spent}
use Rattle.unit_defs.specs.CuUpRecords.{CuUp}
use Rattle.unit_defs.specs.CuUp.{cu_up_acts}
use Rattle.unit_defs.specs.Du.{Du, du_acts}
use Rattle.unit_defs.specs.Ue.{UeNode, new_ue, placed, ue_acts}
use Rattle.unit_defs.specs.CuCpRecords.{CuCpRecord}
use Rattle.unit_defs.specs.CuCp.{cu_cp_acts}
use Rattle.unit_defs.specs.Core.{CoreRecord, core_acts}
use Rattle.run_defs.specs.Units.{du_of, ue_of}
use Rattle.run_defs.specs.Written.{Written}
use Rattle.run_defs.specs.States.{State, new_state, Lengths}
use Rattle.run_defs.specs.Runs.{Reading, PlainGiven, Plain, plain_way, plain_world}
use Rattle.proof_run_steps.specs.steps.Reached.{reached}
use Rattle.proof_unit_steps.specs.answers.After.{HoldsAfter}
use Rattle.proof_run_steps.proofs.plans.Terminals.{terminal_stays}
use Rattle.law_tunnels_are_owned.proofs.tunnel_owners.Placed.{first_owned}
use Rattle.law_tunnels_are_owned.proofs.tunnel_owners.Runs.{owned_later}
use Rattle.law_terminals_are_isolated.proofs.projection_owners.Owners.{apart_of}
use Rattle.proof_run_steps.specs.facts.UnitFacts.{UnitFacts, UnitsKeep, written_facts}
use Rattle.proof_run_steps.specs.facts.Facts.{Hold}
use Rattle.proof_run_steps.proofs.facts.Alone.{alone, answers_alone}
use Rattle.proof_run_steps.proofs.facts.Plain.{plain_run_holds}
use Rattle.law_terminals_are_isolated.specs.run_projections.Units.{given_ue, IsUnitsStepOf, AreApart}
use Rattle.law_terminals_are_isolated.proofs.run_projections.Units.{given_step}

-- ---- each terminal is kept as itself

abbrev OfUp : Gnb → ℕ → CuUp (Message Token) Token → Type 0
OfUp gnb number r = Unit {0}

abbrev OfDu : Gnb → ℕ → Du (Message Token) Token → Type 0
OfDu gnb number r = Unit {0}

abbrev OfCp : Gnb → CuCpRecord (Message Token) Token → Type 0
OfCp gnb r = Unit {0}

abbrev OfCore : CoreRecord (Message Token) Token → Type 0
OfCore r = Unit {0}

abbrev IsItself : UeId → UeNode → Type 0
IsItself ue u = u.plan.ue ≡ ue

abbrev pub themselves : UnitFacts
themselves = alone OfUp OfDu OfCp IsItself OfCore

any_after : {R : Type 0} (a : Plain R) → HoldsAfter (λ (r : R). Unit {0}) a
any_after (gives outputs r) = tt
any_after (spent counter) = tt

new_itself : (plan : Plan) → IsItself plan.ue (new_ue plan)
unfolding new_ue
new_itself plan = refl

placed_itself : (plan : Plan) → IsItself plan.ue (placed (new_ue plan))
unfolding new_ue placed
placed_itself plan = refl

pub keep : UnitsKeep themselves
keep = record {
  ups_act = λ gnb number r taken input p fits.
      answers_alone OfUp OfDu OfCp IsItself OfCore (OfUp gnb number) (up_id gnb number) taken (cu_up_acts plain_way r input) (any_after (cu_up_acts plain_way r input));
  dus_act = λ gnb number r taken input p fits.
      answers_alone OfUp OfDu OfCp IsItself OfCore (OfDu gnb number) (du_id gnb number) taken (du_acts plain_way r input) (any_after (du_acts plain_way r input));
  cps_act = λ gnb r taken input p fits.
      answers_alone OfUp OfDu OfCp IsItself OfCore (OfCp gnb) (CuCp gnb) taken (cu_cp_acts plain_way r input) (any_after (cu_cp_acts plain_way r input));
  ues_act = λ ue u taken input p fits.
      answers_alone OfUp OfDu OfCp IsItself OfCore (IsItself ue) (Ue ue.0) taken (ue_acts plain_way u input)
      (terminal_stays plain_way (λ (plan : Plan). plan.ue ≡ ue) u input p);
  core_acts = λ r from message p fits.
      answers_alone OfUp OfDu OfCp IsItself OfCore OfCore Core None (core_acts plain_way r from message) (any_after (core_acts plain_way r from message));
  lays = λ r ue bearer x path p found. tt;
  comes = new_itself;
  places_ue = placed_itself;
  places_up = λ r plan downlink room teids p. tt;
  places_du = λ r plan first teids p. tt;
  places_cp = λ r plan p. tt;
  places_path = λ r plan n3 p. tt;
  sets_up = λ gnb number r p. tt;
  sets_du = λ gnb number r p. tt;
  sets_cp = λ gnb r p. tt;
  first_up = λ gnb number. tt;
  first_du = λ gnb number. tt;
  first_cp = λ gnb. tt;
  first_core = tt;
}

-- ---- in a run

module _ (reading : Reading) (events : List Event) (t : State (Message Token) Token (Written (Load Pdu)) (Written Pdu))
    (there : reached (plain_world reading) events new_state ≡ Some t) where
  pub its_own : (ue : UeId) (u : UeNode) → ue_of t.units ue ≡ Some u → u.plan.ue ≡ ue
  its_own =
      let h : Hold (written_facts themselves) t = plain_run_holds themselves keep reading events t there in
      h.units.3

  apart : AreApart t.units
  apart gnb number = apart_of (du_of t.units gnb number) ((owned_later reading events new_state t there (first_owned (Message Token) Token)).1 gnb number)

  pub one_terminals : (lengths : Lengths) (node : NodeId) (given : PlainGiven) (ue : UeId) → given_ue reading t.units node given ≡ Some ue
      → IsUnitsStepOf ue t.units ((plain_world reading).answer lengths t.units node given)
  one_terminals lengths node given ue is = given_step reading t.units ue lengths node given apart (its_own ue) is

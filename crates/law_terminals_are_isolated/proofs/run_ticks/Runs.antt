-- After any steps of a run: the terminals of a CU-CP, and the open requests of each unit, are in order.
use Rattle.std.proofs.Common.{ℕ, None}
use Rattle.std.specs.List.Sorted.{IsStrictlySortedBy}
use Rattle.gnb_types.specs.declared.names.Gnb.{Gnb}
use Rattle.gnb_types.specs.declared.names.NodeId.{NodeId}
use Rattle.gnb_types.specs.declared.names.NodeId.TheVariants.{CuCp, CuUp as up_id, Du as du_id, Core, Ue}
use Rattle.gnb_types.specs.declared.names.UeId.{UeId}
use Rattle.gnb_types.specs.Orders.{channel_cmp, ue_cmp}
use Rattle.tables.specs.Tables.{IsSorted}
use Rattle.message_types.specs.declared.rrc.Token.{Token}
use Rattle.unit_defs.specs.Ways.{Message, gives, spent}
use Rattle.unit_defs.specs.CuUpRecords.{CuUp}
use Rattle.unit_defs.specs.CuUp.{cu_up_acts}
use Rattle.unit_defs.specs.Du.{Du, du_acts}
use Rattle.unit_defs.specs.Ue.{UeNode, ue_acts}
use Rattle.unit_defs.specs.CuCpRecords.{CuCpRecord, new_cu_cp}
use Rattle.unit_defs.specs.CuCp.{cu_cp_acts}
use Rattle.unit_defs.specs.Core.{CoreRecord, core_acts}
use Rattle.run_defs.specs.Units.{cu_cp_of}
use Rattle.run_defs.specs.States.{goes}
use Rattle.run_defs.specs.Runs.{Reading, Plain, plain_way, plain_world}
use Rattle.proof_unit_steps.specs.answers.After.{HoldsAfter}
use Rattle.proof_run_steps.specs.facts.UnitFacts.{UnitFacts, UnitsKeep, written_facts}
use Rattle.proof_run_steps.specs.facts.Facts.{Hold}
use Rattle.proof_run_steps.proofs.facts.Alone.{alone, answers_alone}
use Rattle.proof_run_steps.proofs.facts.Runs.{made_holds}
use Rattle.proof_run_steps.proofs.facts.Plain.{plain_kept, first_holds}
use Rattle.law_requests_act_once.proofs.channel.Kept.{good_of}
use Rattle.law_requests_act_once.proofs.channel_rows.Undated.{sorted_of}
use Rattle.proof_run_steps.specs.control.Control.{IsKept, control_of}
use Rattle.proof_run_steps.proofs.control.Runs.{made_holds as control_holds}
use Rattle.law_requests_act_once.specs.run_channels.Reached.{PlainControl, run_talk, kept_by, IsPassed, at_first, by_answer, by_coming, by_placing, by_core as by_core_step}
use Rattle.law_requests_act_once.proofs.run_once.Joint.{Joint}
use Rattle.law_requests_act_once.proofs.run_once.Passed.{joint}
use Rattle.law_terminals_are_isolated.specs.own_events.Events.{RunState}
use Rattle.law_terminals_are_isolated.specs.all_steps.Steps.{AfterSteps, none_yet, one_more}
use Rattle.law_terminals_are_isolated.proofs.run_ticks.Sorted.{cp_stays, placed_stays}

-- ---- terminals

abbrev OfUp : Gnb → ℕ → CuUp (Message Token) Token → Type 0
OfUp gnb number r = Unit {0}

abbrev OfDu : Gnb → ℕ → Du (Message Token) Token → Type 0
OfDu gnb number r = Unit {0}

abbrev OfCp : Gnb → CuCpRecord (Message Token) Token → Type 0
OfCp gnb r = IsSorted ue_cmp r.terminals

abbrev OfUe : UeId → UeNode → Type 0
OfUe ue u = Unit {0}

abbrev OfCore : CoreRecord (Message Token) Token → Type 0
OfCore r = Unit {0}

abbrev in_order : UnitFacts
in_order = alone OfUp OfDu OfCp OfUe OfCore

any_after : {R : Type 0} (a : Plain R) → HoldsAfter (λ (r : R). Unit {0}) a
any_after (gives outputs r) = tt
any_after (spent counter) = tt

none_sorted : (gnb : Gnb) → OfCp gnb (new_cu_cp gnb)
unfolding IsStrictlySortedBy
none_sorted gnb = tt

keep : UnitsKeep in_order
keep = record {
  ups_act = λ gnb number r taken input p fits.
      answers_alone OfUp OfDu OfCp OfUe OfCore (OfUp gnb number) (up_id gnb number) taken (cu_up_acts plain_way r input) (any_after (cu_up_acts plain_way r input));
  dus_act = λ gnb number r taken input p fits.
      answers_alone OfUp OfDu OfCp OfUe OfCore (OfDu gnb number) (du_id gnb number) taken (du_acts plain_way r input) (any_after (du_acts plain_way r input));
  cps_act = λ gnb r taken input p fits.
      answers_alone OfUp OfDu OfCp OfUe OfCore (OfCp gnb) (CuCp gnb) taken (cu_cp_acts plain_way r input) (cp_stays plain_way input r p);
  ues_act = λ ue u taken input p fits.
      answers_alone OfUp OfDu OfCp OfUe OfCore (OfUe ue) (Ue ue.0) taken (ue_acts plain_way u input) (any_after (ue_acts plain_way u input));
  core_acts = λ r from message p fits.
      answers_alone OfUp OfDu OfCp OfUe OfCore OfCore Core None (core_acts plain_way r from message) (any_after (core_acts plain_way r from message));
  lays = λ r ue bearer x path p found. tt;
  comes = λ plan. tt;
  places_ue = λ plan. tt;
  places_up = λ r plan downlink room teids p. tt;
  places_du = λ r plan first teids p. tt;
  places_cp = λ r plan p. placed_stays plain_way r plan p;
  places_path = λ r plan n3 p. tt;
  sets_up = λ gnb number r p. tt;
  sets_du = λ gnb number r p. tt;
  sets_cp = λ gnb r p. p;
  first_up = λ gnb number. tt;
  first_du = λ gnb number. tt;
  first_cp = none_sorted;
  first_core = tt;
}

module _ (reading : Reading) where
  ordered_on : (t : RunState) → AfterSteps reading t → Hold (written_facts in_order) t
  ordered_on t none_yet = first_holds in_order keep
  ordered_on t (one_more event x y told p made) =
      made_holds (plain_world reading) (written_facts in_order) (plain_kept in_order keep reading) event x (goes told y) made (ordered_on x p)

  pub terminals_on : (t : RunState) → AfterSteps reading t → (gnb : Gnb) → IsSorted ue_cmp (cu_cp_of t.units gnb).terminals
  terminals_on t p gnb = (ordered_on t p).units.2 gnb

  -- ---- open requests

  passes : IsKept (plain_world reading) (IsPassed reading)
  passes = record {
    answers = λ sn k v n given outputs h was is. by_answer sn k v n given outputs h was is;
    comes = λ k plan h. by_coming k plan h;
    placed = λ k plan n3 free room teids h. by_placing k plan n3 free h;
    core_answers = λ sn k q given outputs h was is. by_core_step sn k q given outputs h was is;
  }

  passed_on : (t : RunState) → AfterSteps reading t → IsPassed reading (control_of t)
  passed_on t none_yet = at_first
  passed_on t (one_more event x y told p made) = control_holds (plain_world reading) (IsPassed reading) passes event x (goes told y) made (passed_on x p)

  pub requests_on : (t : RunState) → AfterSteps reading t → (node : NodeId) → IsSorted channel_cmp (kept_by (control_of t) node).caller.opened
  requests_on t p node =
      let k : PlainControl = control_of t in
      let j : Joint k = joint reading k (passed_on t p) in
      sorted_of run_talk (good_of run_talk j.reached.orders j.reached.comes.may) node (kept_by k node) (j.reached.comes.nodes node)

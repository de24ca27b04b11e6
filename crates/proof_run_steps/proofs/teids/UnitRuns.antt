-- In every run of units that do what the tables say after decoding, each CU-UP and DU gives each TEID once.
use Rattle.std.proofs.Common.{◌≡◌, ℕ, List, Option, Some, None, subst}
use Rattle.std.specs.Prelude.{Ok, Err}
use Rattle.gnb_types.specs.declared.names.Gnb.{Gnb}
use Rattle.gnb_types.specs.declared.names.NodeId.{NodeId}
use Rattle.gnb_types.specs.declared.names.NodeId.TheVariants.{CuCp, CuUp as up_id, Du as du_id, Core, Ue}
use Rattle.gnb_types.specs.declared.inputs.Input.{Input as OctetInput}
use Rattle.scenario_text.specs.declared.event.Event.{Event}
use Rattle.unit_defs.specs.Ways.{gives, spent}
use Rattle.unit_defs.specs.Ue.{UeNode}
use Rattle.unit_defs.specs.CuUpRecords.{CuUp}
use Rattle.unit_defs.specs.CuUp.{cu_up_acts}
use Rattle.unit_defs.specs.Du.{Du, du_acts}
use Rattle.unit_defs.specs.CuCpRecords.{CuCpRecord}
use Rattle.unit_defs.specs.octet_defs.Codec.{Codec, octet_way}
use Rattle.unit_defs.specs.octet_defs.Reading.{ReadInput, read_at_cu_up, read_at_du}
use Rattle.unit_defs.specs.octet_defs.Units.{OctetAnswer, acts_on, cu_cp_steps, cu_up_steps, du_steps, ue_steps}
use Rattle.run_defs.specs.Units.{cu_cp_of, with_cu_cp, cu_up_of, with_cu_up, du_of, with_du, ue_of, with_ue}
use Rattle.run_defs.specs.States.{State, stepped, step_spent}
use Rattle.run_defs.specs.UnitRuns.{Records, UnitAnswer, unit_gives, unit_spent, OctetStepped, stepped_by, unit_world, answered_with, ue_answers, input_of, tables}
use Rattle.proof_run_steps.specs.steps.Reached.{reached}
use Rattle.proof_run_steps.proofs.steps.Frames.{reached_relates}
use Rattle.proof_run_steps.specs.teids.Given.{GiveOnce}
use Rattle.proof_run_steps.proofs.teids.Grows.{grows_less}
use Rattle.proof_run_steps.proofs.teids.CuUps.{Gives as UpGives, cu_up_gives}
use Rattle.proof_run_steps.proofs.teids.Dus.{Gives as DuGives, du_gives}
use Rattle.proof_run_steps.proofs.teids.Runs.{give_same, give_then, with_up_gives, with_du_gives, with_cp_gives, placed_gives}

module _ (codec : Codec) where
  abbrev Answered : Records → UnitAnswer → Type 0
  Answered u (unit_gives outputs v) = GiveOnce u v
  Answered u (unit_spent counter) = Unit {0}

  abbrev Stepped : Records → OctetStepped → Type 0
  Stepped u (stepped outputs v) = GiveOnce u v
  Stepped u (step_spent counter) = Unit {0}

  by_cp : (u : Records) (gnb : Gnb) (a : OctetAnswer (CuCpRecord (List ℕ) (List ℕ))) → Answered u (answered_with codec (with_cu_cp u gnb) a)
  by_cp u gnb (gives outputs r) = with_cp_gives u gnb r
  by_cp u gnb (spent counter) = tt

  by_up : (u : Records) (gnb : Gnb) (number : ℕ) (a : OctetAnswer (CuUp (List ℕ) (List ℕ))) → UpGives (octet_way codec) (cu_up_of u gnb number) a
      → Answered u (answered_with codec (with_cu_up u gnb number) a)
  by_up u gnb number (gives outputs r) p = with_up_gives u gnb number r p.1
  by_up u gnb number (spent counter) p = tt

  by_du : (u : Records) (gnb : Gnb) (number : ℕ) (a : OctetAnswer (Du (List ℕ) (List ℕ))) → DuGives (octet_way codec) (du_of u gnb number) a
      → Answered u (answered_with codec (with_du u gnb number) a)
  by_du u gnb number (gives outputs r) p = with_du_gives u gnb number r p.1
  by_du u gnb number (spent counter) p = tt

  by_ue : (u : Records) (ue : ℕ) (a : OctetAnswer UeNode) → Answered u (answered_with codec (with_ue u (record { 0 = ue })) a)
  by_ue u ue (gives outputs r) = give_same u
  by_ue u ue (spent counter) = tt

  -- what isn't read leaves the record
  up_read : (u : Records) (gnb : Gnb) (number : ℕ) (input : ReadInput)
      → Answered u (answered_with codec (with_cu_up u gnb number) (acts_on (cu_up_acts (octet_way codec) (cu_up_of u gnb number)) (cu_up_of u gnb number) input))
  up_read u gnb number (Ok input) =
      by_up u gnb number (cu_up_acts (octet_way codec) (cu_up_of u gnb number) input) (cu_up_gives (octet_way codec) (cu_up_of u gnb number) input)
  up_read u gnb number (Err reason) =
      let r : CuUp (List ℕ) (List ℕ) = cu_up_of u gnb number in with_up_gives u gnb number r (grows_less r.next_teid r.tunnels r.tunnels (λ teid owner e. e))

  du_read : (u : Records) (gnb : Gnb) (number : ℕ) (input : ReadInput)
      → Answered u (answered_with codec (with_du u gnb number) (acts_on (du_acts (octet_way codec) (du_of u gnb number)) (du_of u gnb number) input))
  du_read u gnb number (Ok input) =
      by_du u gnb number (du_acts (octet_way codec) (du_of u gnb number) input) (du_gives (octet_way codec) (du_of u gnb number) input)
  du_read u gnb number (Err reason) =
      let r : Du (List ℕ) (List ℕ) = du_of u gnb number in with_du_gives u gnb number r (grows_less r.next_teid r.tunnels r.tunnels (λ teid owner e. e))

  acted : (u : Records) (node : NodeId) (input : OctetInput) → Answered u (tables codec u node input)
  unfolding tables cu_up_steps du_steps
  acted u (CuCp gnb) input = by_cp u gnb (cu_cp_steps codec (cu_cp_of u gnb) input)
  acted u (up_id gnb number) input = up_read u gnb number (read_at_cu_up codec (cu_up_of u gnb number) input)
  acted u (du_id gnb number) input = du_read u gnb number (read_at_du codec (du_of u gnb number) input)
  acted u (Ue ue) input = there (ue_of u (record { 0 = ue }))
    where
      there : (o : Option UeNode) → Answered u (ue_answers codec u ue input o)
      there None = give_same u
      there (Some x) = by_ue u ue (ue_steps codec x input)
  acted u Core input = give_same u

  as_step : (u : Records) (a : UnitAnswer) → Answered u a → Stepped u (stepped_by a)
  as_step u (unit_gives outputs v) p = p
  as_step u (unit_spent counter) p = tt

  pub given_once_by_units : (events : List Event) (s t : State (List ℕ) (List ℕ) (List ℕ) (List ℕ))
      → reached (unit_world codec (tables codec)) events s ≡ Some t → GiveOnce s.units t.units
  given_once_by_units events s t is =
      reached_relates (unit_world codec (tables codec)) GiveOnce give_same give_then
      (λ lengths u v node given outputs e. subst (Stepped u) e (as_step u (tables codec u node (input_of given)) (acted u node (input_of given))))
      (λ u plan. give_same u) (λ u plan free room teids. placed_gives u plan teids) events s t is

-- In every run of units that do what the tables say after decoding, what receivers store is above what they await.
use Rattle.std.proofs.Common.{◌≡◌, ℕ, List, Option, Some, None, refl, subst}
use Rattle.std.specs.Prelude.{Ok, Err}
use Rattle.gnb_types.specs.declared.names.Gnb.{Gnb}
use Rattle.gnb_types.specs.declared.names.NodeId.{NodeId}
use Rattle.gnb_types.specs.declared.names.NodeId.TheVariants.{CuCp, CuUp as up_id, Du as du_id, Core, Ue}
use Rattle.gnb_types.specs.declared.inputs.Input.{Input as OctetInput}
use Rattle.scenario_text.specs.declared.event.Event.{Event}
use Rattle.unit_defs.specs.Ways.{gives, spent}
use Rattle.unit_defs.specs.Ue.{UeNode, new_ue, ue_acts}
use Rattle.unit_defs.specs.CuUpRecords.{CuUp}
use Rattle.unit_defs.specs.CuUp.{cu_up_acts}
use Rattle.unit_defs.specs.Du.{Du, du_acts}
use Rattle.unit_defs.specs.CuCpRecords.{CuCpRecord}
use Rattle.unit_defs.specs.octet_defs.Codec.{Codec, octet_way}
use Rattle.unit_defs.specs.octet_defs.Reading.{ReadInput, read_at_cu_up, read_at_du, read_at_ue}
use Rattle.unit_defs.specs.octet_defs.Units.{OctetAnswer, acts_on, cu_cp_steps, cu_up_steps, du_steps, ue_steps}
use Rattle.run_defs.specs.Units.{cu_cp_of, with_cu_cp, cu_up_of, with_cu_up, du_of, with_du, ue_of, with_ue}
use Rattle.run_defs.specs.States.{State, stepped, step_spent}
use Rattle.run_defs.specs.UnitRuns.{Records, UnitAnswer, unit_gives, unit_spent, OctetStepped, stepped_by, unit_world, answered_with, ue_answers, input_of, tables}
use Rattle.proof_run_steps.specs.steps.Reached.{reached}
use Rattle.proof_run_steps.proofs.steps.Frames.{reached_relates}
use Rattle.proof_unit_steps.specs.answers.After.{HoldsAfter}
use Rattle.proof_unit_steps.specs.receivers.Ready.{CuUpReady, UeReady}
use Rattle.proof_run_steps.specs.receivers.AllReady.{AreReady}
use Rattle.proof_unit_steps.proofs.receivers.CuUps.{cu_up_stores}
use Rattle.proof_unit_steps.proofs.receivers.Terminals.{terminal_stores}
use Rattle.proof_run_steps.proofs.receivers.Placed.{with_up_ready, with_ue_ready, with_cp_ready, with_du_ready, placed_ready, new_is_ready}
use Rattle.proof_run_steps.proofs.receivers.Runs.{GoesOn}

module _ (codec : Codec) where
  abbrev Answered : Records → UnitAnswer → Type 0
  Answered u (unit_gives outputs v) = GoesOn u v
  Answered u (unit_spent counter) = Unit {0}

  abbrev Stepped : Records → OctetStepped → Type 0
  Stepped u (stepped outputs v) = GoesOn u v
  Stepped u (step_spent counter) = Unit {0}

  by_cp : (u : Records) (gnb : Gnb) (a : OctetAnswer (CuCpRecord (List ℕ) (List ℕ))) → Answered u (answered_with codec (with_cu_cp u gnb) a)
  by_cp u gnb (gives outputs r) = λ p. with_cp_ready u gnb r p
  by_cp u gnb (spent counter) = tt

  by_up : (u : Records) (gnb : Gnb) (number : ℕ) (a : OctetAnswer (CuUp (List ℕ) (List ℕ))) → (CuUpReady (cu_up_of u gnb number) → HoldsAfter (λ (r : CuUp (List ℕ) (List ℕ)). CuUpReady r) a)
      → Answered u (answered_with codec (with_cu_up u gnb number) a)
  by_up u gnb number (gives outputs r) h = λ p. with_up_ready u gnb number r p (h (p.0 gnb number))
  by_up u gnb number (spent counter) h = tt

  by_du : (u : Records) (gnb : Gnb) (number : ℕ) (a : OctetAnswer (Du (List ℕ) (List ℕ))) → Answered u (answered_with codec (with_du u gnb number) a)
  by_du u gnb number (gives outputs r) = λ p. with_du_ready u gnb number r p
  by_du u gnb number (spent counter) = tt

  by_ue : (u : Records) (ue : ℕ) (a : OctetAnswer UeNode) → (AreReady u → HoldsAfter UeReady a) → Answered u (answered_with codec (with_ue u (record { 0 = ue })) a)
  by_ue u ue (gives outputs x) h = λ p. with_ue_ready u (record { 0 = ue }) x p (h p)
  by_ue u ue (spent counter) h = tt

  -- what isn't read leaves the record
  up_read : (u : Records) (gnb : Gnb) (number : ℕ) (input : ReadInput)
      → Answered u (answered_with codec (with_cu_up u gnb number) (acts_on (cu_up_acts (octet_way codec) (cu_up_of u gnb number)) (cu_up_of u gnb number) input))
  up_read u gnb number (Ok input) =
      by_up u gnb number (cu_up_acts (octet_way codec) (cu_up_of u gnb number) input) (cu_up_stores (octet_way codec) (cu_up_of u gnb number) input)
  up_read u gnb number (Err reason) = λ p. with_up_ready u gnb number (cu_up_of u gnb number) p (p.0 gnb number)

  du_read : (u : Records) (gnb : Gnb) (number : ℕ) (input : ReadInput)
      → Answered u (answered_with codec (with_du u gnb number) (acts_on (du_acts (octet_way codec) (du_of u gnb number)) (du_of u gnb number) input))
  du_read u gnb number (Ok input) =
      by_du u gnb number (du_acts (octet_way codec) (du_of u gnb number) input)
  du_read u gnb number (Err reason) = λ p. with_du_ready u gnb number (du_of u gnb number) p

  ue_read : (u : Records) (ue : ℕ) (x : UeNode) → ue_of u (record { 0 = ue }) ≡ Some x → (input : ReadInput)
      → Answered u (answered_with codec (with_ue u (record { 0 = ue })) (acts_on (ue_acts (octet_way codec) x) x input))
  ue_read u ue x is (Ok input) = by_ue u ue (ue_acts (octet_way codec) x input) (λ p. terminal_stores (octet_way codec) x input (p.1 (record { 0 = ue }) x is))
  ue_read u ue x is (Err reason) = λ p. with_ue_ready u (record { 0 = ue }) x p (p.1 (record { 0 = ue }) x is)

  acted : (u : Records) (node : NodeId) (input : OctetInput) → Answered u (tables codec u node input)
  unfolding tables cu_up_steps du_steps ue_steps
  acted u (CuCp gnb) input = by_cp u gnb (cu_cp_steps codec (cu_cp_of u gnb) input)
  acted u (up_id gnb number) input = up_read u gnb number (read_at_cu_up codec (cu_up_of u gnb number) input)
  acted u (du_id gnb number) input = du_read u gnb number (read_at_du codec (du_of u gnb number) input)
  acted u (Ue ue) input = there (ue_of u (record { 0 = ue })) refl
    where
      there : (o : Option UeNode) → ue_of u (record { 0 = ue }) ≡ o → Answered u (ue_answers codec u ue input o)
      there None is = λ p. p
      there (Some x) is = ue_read u ue x is (read_at_ue codec x input)
  acted u Core input = λ p. p

  as_step : (u : Records) (a : UnitAnswer) → Answered u a → Stepped u (stepped_by a)
  as_step u (unit_gives outputs v) p = p
  as_step u (unit_spent counter) p = tt

  pub ready_later_by_units : (events : List Event) (s t : State (List ℕ) (List ℕ) (List ℕ) (List ℕ))
      → reached (unit_world codec (tables codec)) events s ≡ Some t → AreReady s.units → AreReady t.units
  ready_later_by_units events s t is =
      reached_relates (unit_world codec (tables codec)) GoesOn (λ u p. p) (λ u v w first second p. second (first p))
      (λ lengths u v node given outputs e. subst (Stepped u) e (as_step u (tables codec u node (input_of given)) (acted u node (input_of given))))
      (λ u plan p. with_ue_ready u plan.ue (new_ue plan) p (new_is_ready plan)) (λ u plan free room teids. placed_ready u plan) events s t is

-- In every run the open TEIDs of each CU-UP and DU are those that its contexts name.
use Rattle.std.proofs.Common.{◌≡◌, ℕ, Option, Some, None, List, subst}
use Rattle.gnb_types.specs.declared.names.Gnb.{Gnb}
use Rattle.gnb_types.specs.declared.names.NodeId.{NodeId}
use Rattle.gnb_types.specs.declared.names.NodeId.TheVariants.{CuCp, CuUp as up_id, Du as du_id, Core, Ue}
use Rattle.message_types.specs.declared.rrc.Token.{Token}
use Rattle.scenario_text.specs.declared.event.Event.{Event}
use Rattle.unit_defs.specs.Ways.{Message, Pdu, Load, Put, Input, gives, spent}
use Rattle.unit_defs.specs.Ue.{UeNode, ue_acts}
use Rattle.unit_defs.specs.CuUpRecords.{CuUp}
use Rattle.unit_defs.specs.CuUp.{cu_up_acts}
use Rattle.unit_defs.specs.Du.{Du, du_acts}
use Rattle.unit_defs.specs.CuCpRecords.{CuCpRecord}
use Rattle.unit_defs.specs.CuCp.{cu_cp_acts}
use Rattle.run_defs.specs.Units.{Units, cu_cp_of, with_cu_cp, cu_up_of, with_cu_up, du_of, with_du, ue_of, with_ue}
use Rattle.run_defs.specs.Written.{Written, PlainStepped, WrittenStepped, written_step}
use Rattle.run_defs.specs.States.{State, Lengths, stepped, step_spent, goes, RunStep}
use Rattle.run_defs.specs.Runs.{Reading, PlainGiven, Plain, plain_way, input_of, stepped_with, ue_stepped, acts_on, plain_by, plain_world}
use Rattle.proof_run_steps.specs.steps.IsOutcome.{IsOutcome}
use Rattle.proof_run_steps.specs.steps.Reached.{reached}
use Rattle.proof_run_steps.proofs.steps.Frames.{made_relates, reached_relates}
use Rattle.law_tunnels_are_owned.specs.owner_facts.Owned.{CuUpOwns, DuOwns, AreOwned}
use Rattle.proof_unit_steps.specs.answers.After.{HoldsAfter}
use Rattle.law_tunnels_are_owned.proofs.tunnel_owners.CuUps.{cu_up_owns}
use Rattle.law_tunnels_are_owned.proofs.tunnel_owners.Dus.{du_owns}
use Rattle.law_tunnels_are_owned.proofs.tunnel_owners.Placed.{with_up_owned, with_du_owned, with_cp_owned, placed_owned}

-- ownership goes on from these units to those
abbrev pub GoesOn : {M C : Type 0} → Units M C → Units M C → Type 0
GoesOn u v = AreOwned u → AreOwned v

module _ (reading : Reading) where
  abbrev PlainUnits : Type 0
  PlainUnits = Units (Message Token) Token

  abbrev Answered : PlainUnits → PlainStepped → Type 0
  Answered u (stepped outputs v) = GoesOn u v
  Answered u (step_spent counter) = Unit {0}

  abbrev AnsweredWell : PlainUnits → WrittenStepped → Type 0
  AnsweredWell u (stepped outputs v) = GoesOn u v
  AnsweredWell u (step_spent counter) = Unit {0}

  by_cp : (u : PlainUnits) (gnb : Gnb) (a : Plain (CuCpRecord (Message Token) Token)) → Answered u (stepped_with reading (with_cu_cp u gnb) a)
  by_cp u gnb (gives outputs r) = λ p. with_cp_owned u gnb r p
  by_cp u gnb (spent counter) = tt

  by_up : (u : PlainUnits) (gnb : Gnb) (number : ℕ) (a : Plain (CuUp (Message Token) Token)) → (CuUpOwns (cu_up_of u gnb number) → HoldsAfter CuUpOwns a)
      → Answered u (stepped_with reading (with_cu_up u gnb number) a)
  by_up u gnb number (gives outputs r) h = λ p. with_up_owned u gnb number r p (h (p.0 gnb number))
  by_up u gnb number (spent counter) h = tt

  by_du : (u : PlainUnits) (gnb : Gnb) (number : ℕ) (a : Plain (Du (Message Token) Token)) → (DuOwns (du_of u gnb number) → HoldsAfter DuOwns a)
      → Answered u (stepped_with reading (with_du u gnb number) a)
  by_du u gnb number (gives outputs r) h = λ p. with_du_owned u gnb number r p (h (p.1 gnb number))
  by_du u gnb number (spent counter) h = tt

  by_ue : (u : PlainUnits) (ue : ℕ) (a : Plain UeNode) → Answered u (stepped_with reading (with_ue u (record { 0 = ue })) a)
  by_ue u ue (gives outputs r) = λ p. p
  by_ue u ue (spent counter) = tt

  acted : (u : PlainUnits) (node : NodeId) (input : Input Token Pdu) → Answered u (acts_on reading u node input)
  acted u (CuCp gnb) input = by_cp u gnb (cu_cp_acts plain_way (cu_cp_of u gnb) input)
  acted u (up_id gnb number) input =
      by_up u gnb number (cu_up_acts plain_way (cu_up_of u gnb number) input) (cu_up_owns plain_way (cu_up_of u gnb number) input)
  acted u (du_id gnb number) input =
      by_du u gnb number (du_acts plain_way (du_of u gnb number) input) (du_owns plain_way (du_of u gnb number) input)
  acted u (Ue ue) input = there (ue_of u (record { 0 = ue }))
    where
      there : (o : Option UeNode) → Answered u (ue_stepped reading u ue input o)
      there None = λ p. p
      there (Some x) = by_ue u ue (ue_acts plain_way x input)
  acted u Core input = λ p. p

  answered : (u : PlainUnits) (node : NodeId) (given : PlainGiven) (o : Option (Input Token Pdu)) → Answered u (plain_by reading u node given o)
  answered u node given None = λ p. p
  answered u node given (Some input) = acted u node input

  written : (lengths : Lengths) (u : PlainUnits) (x : PlainStepped) → Answered u x → AnsweredWell u (written_step lengths x)
  written lengths u (stepped outputs v) p = p
  written lengths u (step_spent counter) p = tt

  answers_own : (lengths : Lengths) (u v : PlainUnits) (node : NodeId) (given : PlainGiven) (outputs : List (Put (Message Token) (Written (Load Pdu)) (Written Pdu)))
      → (plain_world reading).answer lengths u node given ≡ stepped outputs v → GoesOn u v
  answers_own lengths u v node given outputs e = subst (AnsweredWell u) e
      (written lengths u (plain_by reading u node given (input_of reading given)) (answered u node given (input_of reading given)))

  -- within an event too
  pub owned_made : (event : Event) (s t : State (Message Token) Token (Written (Load Pdu)) (Written Pdu)) (told : List (RunStep (Message Token)))
      → IsOutcome (plain_world reading) event s (goes told t) → AreOwned s.units → AreOwned t.units
  owned_made event s t told made =
      made_relates (plain_world reading) GoesOn (λ u p. p) (λ u v w first second p. second (first p)) answers_own
      (λ u plan p. p) (λ u plan free room teids p. placed_owned u plan free teids p) event s (goes told t) made

  pub owned_later : (events : List Event) (s t : State (Message Token) Token (Written (Load Pdu)) (Written Pdu))
      → reached (plain_world reading) events s ≡ Some t → AreOwned s.units → AreOwned t.units
  owned_later events s t is =
      reached_relates (plain_world reading) GoesOn (λ u p. p) (λ u v w first second p. second (first p)) answers_own
      (λ u plan p. p) (λ u plan free room teids. placed_owned u plan free teids) events s t is

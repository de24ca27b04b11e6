-- In every run what happens is one list, and the units are what their tables make of it.
use Rattle.std.proofs.Common.{◌≡◌, ℕ, List, [], ◌∷◌, ◌++◌, Option, Some, None, refl, sym, ap, subst, ◌∙◌}
use Rattle.gnb_types.specs.declared.names.Gnb.{Gnb}
use Rattle.gnb_types.specs.declared.names.NodeId.{NodeId}
use Rattle.gnb_types.specs.declared.names.NodeId.TheVariants.{CuCp, CuUp as up_id, Du as du_id, Core, Ue}
use Rattle.message_types.specs.declared.rrc.Token.{Token}
use Rattle.scenario_text.specs.declared.event.Event.{Event}
use Rattle.unit_defs.specs.Ways.{Message, Pdu, Load, Input, gives, spent}
use Rattle.unit_defs.specs.Ue.{UeNode, ue_acts}
use Rattle.unit_defs.specs.CuUp.{cu_up_acts}
use Rattle.unit_defs.specs.CuUpRecords.{CuUp}
use Rattle.unit_defs.specs.Du.{Du, du_acts}
use Rattle.unit_defs.specs.CuCpRecords.{CuCpRecord}
use Rattle.unit_defs.specs.CuCp.{cu_cp_acts}
use Rattle.run_defs.specs.Units.{cu_cp_of, with_cu_cp, cu_up_of, with_cu_up, du_of, with_du, ue_of, with_ue}
use Rattle.run_defs.specs.Written.{Written, PlainStepped, WrittenStepped, written_step}
use Rattle.run_defs.specs.States.{State, stepped, step_spent, Lengths}
use Rattle.run_defs.specs.Runs.{Reading, PlainGiven, Plain, plain_way, input_of, stepped_with, ue_stepped, acts_on, plain_by, plain_world}
use Rattle.proof_run_steps.specs.steps.Reached.{reached}
use Rattle.proof_run_steps.proofs.steps.Frames.{reached_relates}
use Rattle.proof_bearer_refinement.specs.run_unit_inputs.Happenings.{kept_of}
use Rattle.proof_bearer_refinement.specs.run_bearers.Things.{Thing, comes, set_up, takes, PlainUnits, ue_after, after_thing, after_things}

abbrev Happened : PlainUnits → PlainUnits → Type 0
Happened u v = (things : List Thing) × (v ≡ after_things u things)

things-append : (u : PlainUnits) (hs ks : List Thing) → after_things u (hs ++ ks) ≡ after_things (after_things u hs) ks
unfolding after_things
things-append u [] ks = refl
things-append u (h ∷ hs) ks = things-append (after_thing u h) hs ks

nothing_happens : (u : PlainUnits) → Happened u u
unfolding after_things
nothing_happens u = ([], refl)

then_happens : (u v w : PlainUnits) → Happened u v → Happened v w → Happened u w
then_happens u v w p q = (p.0 ++ q.0, q.1 ∙ ap (λ x. after_things x q.0) p.1 ∙ sym (things-append u p.0 q.0))

one_happens : (u v : PlainUnits) (thing : Thing) → v ≡ after_thing u thing → Happened u v
unfolding after_things
one_happens u v thing is = (thing ∷ [], is)

module _ (reading : Reading) where
  abbrev Answered : PlainUnits → PlainStepped → Type 0
  Answered u (stepped outputs v) = Happened u v
  Answered u (step_spent counter) = Unit {0}

  abbrev AnsweredWell : PlainUnits → WrittenStepped → Type 0
  AnsweredWell u (stepped outputs v) = Happened u v
  AnsweredWell u (step_spent counter) = Unit {0}

  by_cp : (u : PlainUnits) (gnb : Gnb) (input : Input Token Pdu) (a : Plain (CuCpRecord (Message Token) Token)) → cu_cp_acts plain_way (cu_cp_of u gnb) input ≡ a
      → Answered u (stepped_with reading (with_cu_cp u gnb) a)
  by_cp u gnb input (gives outputs r) is =
      one_happens u (with_cu_cp u gnb r) (takes (CuCp gnb) input) (ap (with_cu_cp u gnb) (sym (ap (kept_of (cu_cp_of u gnb)) is)))
  by_cp u gnb input (spent counter) is = tt

  by_up : (u : PlainUnits) (gnb : Gnb) (number : ℕ) (input : Input Token Pdu) (a : Plain (CuUp (Message Token) Token))
      → cu_up_acts plain_way (cu_up_of u gnb number) input ≡ a → Answered u (stepped_with reading (with_cu_up u gnb number) a)
  by_up u gnb number input (gives outputs r) is =
      one_happens u (with_cu_up u gnb number r) (takes (up_id gnb number) input) (ap (with_cu_up u gnb number) (sym (ap (kept_of (cu_up_of u gnb number)) is)))
  by_up u gnb number input (spent counter) is = tt

  by_du : (u : PlainUnits) (gnb : Gnb) (number : ℕ) (input : Input Token Pdu) (a : Plain (Du (Message Token) Token))
      → du_acts plain_way (du_of u gnb number) input ≡ a → Answered u (stepped_with reading (with_du u gnb number) a)
  by_du u gnb number input (gives outputs r) is =
      one_happens u (with_du u gnb number r) (takes (du_id gnb number) input) (ap (with_du u gnb number) (sym (ap (kept_of (du_of u gnb number)) is)))
  by_du u gnb number input (spent counter) is = tt

  by_ue : (u : PlainUnits) (ue : ℕ) (x : UeNode) (input : Input Token Pdu) → ue_of u (record { 0 = ue }) ≡ Some x → (a : Plain UeNode)
      → ue_acts plain_way x input ≡ a → Answered u (stepped_with reading (with_ue u (record { 0 = ue })) a)
  by_ue u ue x input there (gives outputs y) is =
      one_happens u (with_ue u (record { 0 = ue }) y) (takes (Ue ue) input)
      (ap (with_ue u (record { 0 = ue })) (sym (ap (kept_of x) is)) ∙ sym (ap (ue_after u ue input) there))
  by_ue u ue x input there (spent counter) is = tt

  acted : (u : PlainUnits) (node : NodeId) (input : Input Token Pdu) → Answered u (acts_on reading u node input)
  acted u (CuCp gnb) input = by_cp u gnb input (cu_cp_acts plain_way (cu_cp_of u gnb) input) refl
  acted u (up_id gnb number) input = by_up u gnb number input (cu_up_acts plain_way (cu_up_of u gnb number) input) refl
  acted u (du_id gnb number) input = by_du u gnb number input (du_acts plain_way (du_of u gnb number) input) refl
  acted u (Ue ue) input = there (ue_of u (record { 0 = ue })) refl
    where
      there : (o : Option UeNode) → ue_of u (record { 0 = ue }) ≡ o → Answered u (ue_stepped reading u ue input o)
      there None is = nothing_happens u
      there (Some x) is = by_ue u ue x input is (ue_acts plain_way x input) refl
  acted u Core input = nothing_happens u

  answered : (u : PlainUnits) (node : NodeId) (given : PlainGiven) (o : Option (Input Token Pdu)) → Answered u (plain_by reading u node given o)
  answered u node given None = nothing_happens u
  answered u node given (Some input) = acted u node input

  written : (lengths : Lengths) (u : PlainUnits) (x : PlainStepped) → Answered u x → AnsweredWell u (written_step lengths x)
  written lengths u (stepped outputs v) p = p
  written lengths u (step_spent counter) p = tt

  pub things_happen : (events : List Event) (s t : State (Message Token) Token (Written (Load Pdu)) (Written Pdu))
      → reached (plain_world reading) events s ≡ Some t → Happened s.units t.units
  things_happen events s t is =
      reached_relates (plain_world reading) Happened nothing_happens then_happens
      (λ lengths u v node given outputs e. subst (AnsweredWell u) e
      (written lengths u (plain_by reading u node given (input_of reading given)) (answered u node given (input_of reading given))))
      (λ u plan. one_happens u (after_thing u (comes plan)) (comes plan) refl)
      (λ u plan free room teids. one_happens u (after_thing u (set_up plan)) (set_up plan) refl) events s t is

-- Which nodes put the answers that name tunnels.
use Rattle.std.specs.Prelude.{ℕ, List}
use Rattle.std.specs.List.{AllByRecursion}
use Rattle.gnb_types.specs.declared.names.NodeId.{NodeId}
use Rattle.gnb_types.specs.declared.names.NodeId.TheVariants.{CuUp, Du}
use Rattle.message_types.specs.declared.f1.F1.TheVariants as f1s
use Rattle.message_types.specs.declared.e1.E1Message.TheVariants as e1s
use Rattle.unit_defs.specs.Ways.{Message, f1, e1}
use Rattle.transport_defs.specs.declared.ControlMessage.{ControlMessage}

abbrev pub IsDu : NodeId → Type 0
IsDu (Du gnb number) = Unit {0}
IsDu node = ⊥

abbrev pub IsCuUp : NodeId → Type 0
IsCuUp (CuUp gnb number) = Unit {0}
IsCuUp node = ⊥

-- UE Context Setup and Modification Responses are a DU's, Bearer Context Setup Responses a CU-UP's
abbrev pub AnswersOwn : {C : Type 0} → NodeId → Message C → Type 0
AnswersOwn from (f1 (f1s.UeContextSetupResponse ue instance downlinks)) = IsDu from
AnswersOwn from (f1 (f1s.UeContextModificationResponse ue instance downlinks)) = IsDu from
AnswersOwn from (e1 (e1s.BearerContextSetupResponse ue instance uplinks n3 down up)) = IsCuUp from
AnswersOwn from message = Unit {0}

abbrev pub AllAnswerOwn : {C : Type 0} → List (ℕ × ControlMessage (Message C)) → Type 0
AllAnswerOwn control_messages = AllByRecursion (λ (e : ℕ × ControlMessage (Message _)). AnswersOwn e.1.from e.1.message) control_messages

-- A terminal with the error that ended it, if one did.
use Rattle.std.specs.Prelude.{◌≡◌, ℕ, ◌≤◌, List, [], length, Option, Some, None, Result, Ok, Err}
use Rattle.gnb_types.specs.declared.inputs.Input.{Input}
use Rattle.gnb_types.specs.declared.inputs.Input.TheVariants.{Control, Offer}
use Rattle.gnb_types.specs.declared.names.NodeId.{NodeId}
use Rattle.gnb_types.specs.declared.reasons.DropReason.{DropReason}
use Rattle.message_types.specs.declared.rrc.Token.{Token}
use Rattle.gnb_types.specs.declared.outputs.Output.{Output}
use Rattle.gnb_types.specs.declared.plans.Plan.{Plan}
use Rattle.unit_defs.specs.Ways.{drops}
use Rattle.unit_defs.specs.Ue.{UeNode, new_ue, placed, told}
use Rattle.unit_defs.specs.octet_defs.Codec.{Codec, octet_way}
use Rattle.unit_defs.specs.octet_defs.Units.{ue_steps}
use Rattle.unit_messages.specs.declared.message.Message.{Message}
use Rattle.unit_messages.specs.declared.message.Message.TheVariants.{Rrc}
use Rattle.unit_messages.specs.declared.steps.StepError.{StepError}
use Rattle.unit_messages.specs.declared.steps.StepError.TheVariants as errors
use Rattle.unit_messages.specs.steps.Steps.{Step, stepped, stopped, step_after}

-- After an error the record is unspecified.
pub record NodeState : Type 0 where
  pub node : UeNode
  pub failure : Option StepError

abbrev pub new_node : Plan → NodeState
new_node plan = record { node = new_ue plan; failure = None }

-- an offered packet isn't empty
abbrev pub HasPacket : Input → Type 0
HasPacket (Offer ue bearer packet) = 1 ≤ length packet
HasPacket input = Unit {0}

-- the error of a step that failed
abbrev pub failure_of : {X : Type 0} → Result X StepError → Option StepError
failure_of (Ok x) = None
failure_of (Err error) = Some error

-- The answer is that of this step: its outputs, and this is kept; or its spent counter. Out of memory nothing is said.
abbrev pub Answers : {R : Type 0} → Step R → R → Result (List Output) StepError → Type 0
Answers step after (Ok outputs) = step ≡ stepped outputs after
Answers step after (Err (errors.Spent counter)) = step ≡ stopped counter
Answers step after (Err errors.Memory) = Unit {0}

-- this step, by the error that was before; after one it comes again, and nothing changes
abbrev pub IsStepUnlessFailed : Step UeNode → Option StepError → NodeState → NodeState → Result (List Output) StepError → Type 0
IsStepUnlessFailed step None old new result = Answers step new.node result
IsStepUnlessFailed step (Some error) old new result = (result ≡ Err error) × (new ≡ old)

-- the step of the tables
abbrev pub IsNodeStep : Codec → NodeState → Input → NodeState → Result (List Output) StepError → Type 0
IsNodeStep codec old input new result = IsStepUnlessFailed (step_after [] (ue_steps codec old.node input)) old.failure old new result

-- the same of a terminal that is set up without messages
abbrev pub IsPlacedUnlessFailed : Option StepError → NodeState → NodeState → Result (Unit {0}) StepError → Type 0
IsPlacedUnlessFailed None old new result = (result ≡ Ok tt) × (new ≡ record old { node = placed old.node })
IsPlacedUnlessFailed (Some error) old new result = (result ≡ Err error) × (new ≡ old)

abbrev pub IsPlaced : NodeState → NodeState → Result (Unit {0}) StepError → Type 0
IsPlaced old new result = IsPlacedUnlessFailed old.failure old new result

-- the token that a message is
abbrev pub token_in : Message → Option Token
token_in (Rrc token) = Some token
token_in message = None

-- what octets of a node are to a terminal: a token, or nothing for this reason
abbrev pub IsHeard : Codec → UeNode → NodeId → List ℕ → Result Token DropReason → Type 0
IsHeard codec u from octets (Ok token) = ue_steps codec u (Control from octets) ≡ told (octet_way codec) token u
IsHeard codec u from octets (Err reason) = ue_steps codec u (Control from octets) ≡ drops reason u

-- What comes to a bearer of a context: an item of a tunnel, or a poll.
use Rattle.std.specs.Prelude.{◌≡◌, ◌==◌, ℕ, Bool, true, false, not, ◌||◌, if◌then◌else◌, List, [], ◌∷◌, ◌++◌, length, Option, Some, None, Result, Ok, Err}
use Rattle.gnb_types.specs.declared.names.UeId.{UeId}
use Rattle.gnb_types.specs.declared.names.BearerId.{BearerId}
use Rattle.gnb_types.specs.declared.outputs.Output.{Output}
use Rattle.gnb_types.specs.declared.outputs.Output.TheVariants as outs
use Rattle.gnb_types.specs.declared.outputs.Tag.TheVariants.{Absent}
use Rattle.gnb_types.specs.declared.reasons.DropReason.TheVariants.{NoContext}
use Rattle.gnb_types.specs.declared.reasons.RefuseReason.TheVariants.{Empty, NoRadio}
use Rattle.unit_defs.specs.Ways.{no, ◌then◌, nothing, puts}
use Rattle.unit_defs.specs.CuUpRecords.{CuUpBearer, CuUpContext, cu_up_scope}
use Rattle.unit_defs.specs.CuUpBearers.{has_downlink, framed}
use Rattle.unit_defs.specs.octet_defs.Codec.{Codec, octet_way}
use Rattle.unit_defs.specs.octet_defs.Units.{OctetAnswer}
use Rattle.unit_messages.specs.steps.Steps.{stepped, stopped, step_after}
use Rattle.unit_messages.specs.declared.steps.StepError.{StepError}
use Rattle.unit_messages.specs.declared.steps.StepError.TheVariants as errors
use Rattle.cu_up_items.specs.items.Coming.{Received, stays, takes, came}
use Rattle.cu_up_items.specs.declared.items.items.Kind.{Kind}
use Rattle.cu_up_contexts.specs.bearer_context.Contexts.{with_one, at_in}

-- octets of a tunnel of this bearer come, if it is there
abbrev pub came_in : Codec → UeId → CuUpContext → BearerId → Kind → ℕ → List ℕ → Option CuUpBearer → Received
came_in codec ue c bearer kind teid octets None = stays (outs.Drop NoContext)
came_in codec ue c bearer kind teid octets (Some b) = came codec (at_in ue c bearer) kind teid octets b

-- the code did so, and says whether an item was taken: then the context has the bearer as the answer leaves it
abbrev pub IsReceivedIn : Received → BearerId → List Output → List Output → CuUpContext → CuUpContext → Result Bool StepError → Type 0
IsReceivedIn (stays output) bearer old new c d (Ok true) = ⊥
IsReceivedIn (stays output) bearer old new c d (Ok false) = (new ≡ old ++ output ∷ []) × (d ≡ c)
IsReceivedIn (takes answer) bearer old new c d (Ok true) = step_after old (answer then (λ b. nothing (with_one c bearer b))) ≡ stepped new d
IsReceivedIn (takes answer) bearer old new c d (Ok false) = ⊥
IsReceivedIn (stays output) bearer old new c d (Err (errors.Spent counter)) = ⊥
IsReceivedIn (takes answer) bearer old new c d (Err (errors.Spent counter)) = step_after old answer ≡ stopped counter
IsReceivedIn came bearer old new c d (Err errors.Memory) = Unit {0}

-- a poll: refused where nothing is unconfirmed, and where no downlink is served
abbrev pub polled : Codec → UeId → CuUpContext → BearerId → Option CuUpBearer → OctetAnswer CuUpContext
polled codec ue c bearer None = puts (no Empty) c
polled codec ue c bearer (Some b) =
    if length b.sender.unconfirmed == 0 then puts (no Empty) c else
    (if c.flags.frozen || not (has_downlink b.downlink) then puts (no NoRadio) c else
    (framed (octet_way codec) (cu_up_scope ue c bearer) true false None Absent b then (λ d. nothing (with_one c bearer d))))

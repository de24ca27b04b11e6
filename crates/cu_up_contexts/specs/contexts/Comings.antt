-- Internal: the place of a tunnel, and what octets of it come to.
use Rattle.std.specs.Prelude.{◌≡◌, ℕ, Bool, true, false, List, [], ◌∷◌, ◌++◌, Option, Some, None, Result, Ok, Err}
use Rattle.gnb_types.specs.declared.outputs.Output.{Output}
use Rattle.gnb_types.specs.declared.outputs.Output.TheVariants as outs
use Rattle.gnb_types.specs.declared.reasons.DropReason.TheVariants.{NoContext}
use Rattle.gnb_types.specs.Orders.{ue_cmp, bearer_cmp}
use Rattle.tables.specs.Tables.{find, put}
use Rattle.unit_defs.specs.CuUpRecords.{CuUpContext, CuUpTunnel}
use Rattle.unit_defs.specs.octet_defs.Codec.{Codec}
use Rattle.unit_messages.specs.declared.steps.StepError.{StepError}
use Rattle.unit_messages.specs.declared.steps.StepError.TheVariants as errors
use Rattle.cu_up_items.specs.items.Items.{kind_as}
use Rattle.cu_up_contexts.specs.bearer_context.Items.{came_in, IsReceivedIn}
use Rattle.cu_up_contexts.specs.contexts.Tables.{CuUpTables}
use Rattle.cu_up_contexts.specs.declared.contexts.packets.TunnelPlace.{TunnelPlace}

abbrev pub place_as : TunnelPlace → ℕ → CuUpTunnel
place_as p context = record { ue = p.ue; bearer = p.bearer; kind = kind_as p.kind; context = context }

abbrev pub IsPlaceOf : Option CuUpTunnel → Option TunnelPlace → Type 0
IsPlaceOf None None = Unit {0}
IsPlaceOf (Some u) (Some p) = u ≡ place_as p u.context
IsPlaceOf None (Some p) = ⊥
IsPlaceOf (Some u) None = ⊥

-- without a context octets are dropped
abbrev pub IsDropped : List Output → List Output → CuUpTables → CuUpTables → Result Bool StepError → Type 0
IsDropped old new before after (Ok true) = ⊥
IsDropped old new before after (Ok false) = (new ≡ old ++ outs.Drop NoContext ∷ []) × (after ≡ before)
IsDropped old new before after (Err (errors.Spent counter)) = ⊥
IsDropped old new before after (Err errors.Memory) = Unit {0}

-- else they come to the context, whatever becomes of it
pub record ComesTo (codec : Codec) (p : TunnelPlace) (teid : ℕ) (octets : List ℕ) (c : CuUpContext) (old new : List Output) (before after : CuUpTables)
    (result : Result Bool StepError) : Type 0 where
  pub context : CuUpContext
  pub came : IsReceivedIn (came_in codec p.ue c p.bearer p.kind teid octets (find bearer_cmp c.bearers p.bearer)) p.bearer old new c context result
  pub kept : after ≡ record before { contexts = put ue_cmp before.contexts p.ue context }
  pub same : put ue_cmp before.contexts p.ue c ≡ before.contexts

abbrev pub HasReceivedAt : Codec → TunnelPlace → ℕ → List ℕ → List Output → List Output → CuUpTables → CuUpTables → Result Bool StepError → Option CuUpContext → Type 0
HasReceivedAt codec p teid octets old new before after result None = IsDropped old new before after result
HasReceivedAt codec p teid octets old new before after result (Some c) = ComesTo codec p teid octets c old new before after result

abbrev pub HasReceived : Codec → TunnelPlace → ℕ → List ℕ → List Output → List Output → CuUpTables → CuUpTables → Result Bool StepError → Type 0
HasReceived codec p teid octets old new before after result =
    HasReceivedAt codec p teid octets old new before after result (find ue_cmp before.contexts p.ue)

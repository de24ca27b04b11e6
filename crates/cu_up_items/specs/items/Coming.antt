-- What octets of a tunnel come to at a bearer.
use Rattle.std.specs.Prelude.{◌≡◌, ℕ, Bool, true, false, List, [], ◌∷◌, ◌++◌, Option, Some, None, Result, Ok, Err}
use Rattle.gnb_types.specs.declared.outputs.Output.{Output}
use Rattle.gnb_types.specs.declared.outputs.Output.TheVariants as outs
use Rattle.gnb_types.specs.declared.reasons.DropReason.TheVariants.{Undecodable}
use Rattle.gnb_types.specs.declared.reasons.HeldReason.{HeldReason}
use Rattle.link_defs.specs.Decoding.{Item}
use Rattle.unit_defs.specs.Ways.{Taken}
use Rattle.unit_defs.specs.CuUpRecords.{CuUpBearer}
use Rattle.unit_defs.specs.CuUpItems.{held_reason, took}
use Rattle.unit_defs.specs.octet_defs.Codec.{Codec, octet_way}
use Rattle.unit_defs.specs.octet_defs.Reading.{up_item, link_of}
use Rattle.unit_defs.specs.octet_defs.Units.{OctetAnswer}
use Rattle.unit_messages.specs.declared.steps.StepError.{StepError}
use Rattle.unit_messages.specs.declared.steps.StepError.TheVariants as errors
use Rattle.unit_messages.specs.steps.Steps.{IsStep, step_after}
use Rattle.cu_up_bearer.specs.declared.tunnels.at.Scope.{Scope}
use Rattle.cu_up_bearer.specs.tunnels.Tunnels.{at_as}
use Rattle.cu_up_items.specs.items.Items.{kind_as, item_as}
use Rattle.cu_up_items.specs.declared.items.items.Kind.{Kind}
use Rattle.cu_up_items.specs.declared.items.items.CuUpItem.{CuUpItem}

-- what an item says to a bearer, and why it is held
abbrev pub said : Scope → CuUpBearer → Kind → CuUpItem → Taken (List ℕ)
said a b kind item = up_item a.sn b (link_of (kind_as kind)) (item_as item)

abbrev pub held_of : Scope → CuUpBearer → Kind → CuUpItem → Option HeldReason
held_of a b kind item = held_reason (at_as a) b (kind_as kind) (said a b kind item)

-- the bearer stays as it is, and this is put out; or the item is taken
pub data Received : Type 0 where
  stays : (output : Output) → Received
  takes : (answer : OctetAnswer CuUpBearer) → Received

abbrev pub came_held : Option HeldReason → OctetAnswer CuUpBearer → Received
came_held (Some reason) answer = stays (outs.Held reason)
came_held None answer = takes answer

abbrev pub came_item : Codec → Scope → Kind → ℕ → CuUpBearer → Option Item → Received
came_item codec a kind teid b None = stays (outs.Drop Undecodable)
came_item codec a kind teid b (Some item) =
    let t : Taken (List ℕ) = up_item a.sn b (link_of (kind_as kind)) item in
    came_held (held_reason (at_as a) b (kind_as kind) t) (took (octet_way codec) (at_as a) (kind_as kind) teid t b)

-- an item comes
abbrev pub came_as : Codec → Scope → Kind → ℕ → CuUpItem → CuUpBearer → Received
came_as codec a kind teid item b = came_held (held_of a b kind item) (took (octet_way codec) (at_as a) (kind_as kind) teid (said a b kind item) b)

unfoldable pub came : Codec → Scope → Kind → ℕ → List ℕ → CuUpBearer → Received
came codec a kind teid octets b = came_item codec a kind teid b (codec.read_item (link_of (kind_as kind)) a.sn octets)

-- the code did so, and says whether the item was taken
abbrev pub IsReceived : Received → List Output → List Output → CuUpBearer → CuUpBearer → Result Bool StepError → Type 0
IsReceived (stays output) old new before after (Ok true) = ⊥
IsReceived (stays output) old new before after (Ok false) = (new ≡ old ++ output ∷ []) × (after ≡ before)
IsReceived (takes answer) old new before after (Ok true) = IsStep {X = Bool} (step_after old answer) new after (Ok true)
IsReceived (takes answer) old new before after (Ok false) = ⊥
IsReceived (stays output) old new before after (Err (errors.Spent counter)) = ⊥
IsReceived (takes answer) old new before after (Err (errors.Spent counter)) = IsStep {X = Bool} (step_after old answer) new after (Err (errors.Spent counter))
IsReceived c old new before after (Err errors.Memory) = Unit {0}

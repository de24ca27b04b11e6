-- What a terminal's inputs do to its radio up, beside the orders of one of its bearers: in which epoch it puts there, when it leaves the
-- radio, and what stands there then that was carried and isn't confirmed.
use Rattle.std.specs.Prelude.{◌≡◌, ℕ, Bool, true, false, if◌then◌else◌, List, [], ◌∷◌, Some, ⊤}
use Rattle.std.specs.List.{AllByRecursion}
use Rattle.std.specs.Ordering.{eq_by_cmp}
use Rattle.gnb_types.specs.declared.names.UeId.{UeId}
use Rattle.gnb_types.specs.declared.names.BearerId.{BearerId}
use Rattle.gnb_types.specs.declared.names.Dir.TheVariants.{Ul}
use Rattle.gnb_types.specs.Orders.{bearer_cmp}
use Rattle.unit_defs.specs.declared.UeState.{UeState}
use Rattle.unit_defs.specs.declared.UeState.TheVariants as states
use Rattle.unit_defs.specs.Ways.{packet_content, Input, confirm_input, Output, radio, Answer, gives, spent}
use Rattle.unit_defs.specs.Ue.{UeNode, is_connected}
use Rattle.bearer_defs.specs.uplink_defs.Orders.{ModelStep, offers, numbers, connects, leaves, arrives, acknowledges, reports}
use Rattle.proof_node_orders.specs.terminal_inputs.Inputs.{Models, Orders, carried_out, rest_of}

-- orders of the terminal
abbrev pub IsOfTerminal : ModelStep → Type 0
IsOfTerminal (offers packet) = ⊤
IsOfTerminal (numbers packet rest) = ⊤
IsOfTerminal connects = ⊤
IsOfTerminal leaves = ⊤
IsOfTerminal (arrives x) = ⊤
IsOfTerminal (acknowledges count rest) = ⊤
IsOfTerminal (reports fmc bits) = ⊤
IsOfTerminal order = ⊥

-- they leave the radio, or begin another
abbrev pub clears : List ModelStep → Bool
clears [] = false
clears (connects ∷ os) = true
clears (leaves ∷ os) = true
clears (arrives x ∷ os) = true
clears (o ∷ os) = clears os

-- what was carried and isn't confirmed, less what an input confirms
abbrev pub unknown_after : {C P : Type 0} → BearerId → Input C P → List ℕ → List ℕ
unknown_after bearer (confirm_input ue other Ul pdu (packet_content (Some count) packet)) carried =
    if eq_by_cmp bearer_cmp bearer other then rest_of carried else carried
unknown_after bearer input carried = carried

-- radios are connected while the terminal is connected or returning
abbrev pub is_on_radio : UeState → Bool
is_on_radio states.Connected = true
is_on_radio states.Returning = true
is_on_radio state = false

-- what is put on a radio is this terminal's, up, in this epoch, while it is connected
abbrev pub IsPutIn : {M P : Type 0} → UeId → ℕ → Bool → Output M P → Type 0
IsPutIn ue epoch on (radio who bearer dir e tag pdu) = (who ≡ ue) × (dir ≡ Ul) × (e ≡ epoch) × (on ≡ true)
IsPutIn ue epoch on output = Unit {0}

-- a connected terminal that leaves its radio is on none, and else it is connected on the same one
abbrev pub IsMoved : Bool → UeNode → UeNode → Type 0
IsMoved true u v = is_on_radio v.state ≡ false
IsMoved false u v = (is_connected v.state ≡ true) × (v.epoch ≡ u.epoch)

-- so much of what was carried isn't confirmed then
pub record IsReceived {M P : Type 0} (unknown : List ℕ) (b : Models) (o : Orders) (u v : UeNode) (outputs : List (Output M P)) : Type 0 where
  pub plan : v.plan ≡ u.plan
  pub puts : AllByRecursion (IsPutIn v.plan.ue v.epoch (is_connected v.state)) outputs
  pub own : AllByRecursion IsOfTerminal o.up
  pub carried : (carried_out b o).up.carried ≡ (if clears o.up then [] else unknown)
  pub moved : is_connected u.state ≡ true → IsMoved (clears o.up) u v

unfoldable pub Receives : {M P : Type 0} → List ℕ → Models → Orders → UeNode → Answer M P UeNode → Type 0
Receives unknown b o u (gives outputs v) = IsReceived unknown b o u v outputs
Receives unknown b o u (spent counter) = ⊤

-- What is still assumed of what a terminal is given, where its radio up refines the model's; and its step beside the models.
use Rattle.std.specs.Prelude.{◌≡◌, true, ℕ, List, map, Option}
use Rattle.std.specs.Ordering.{eq_by_cmp}
use Rattle.gnb_types.specs.declared.names.BearerId.{BearerId}
use Rattle.gnb_types.specs.declared.names.Dir.TheVariants.{Dl}
use Rattle.gnb_types.specs.Orders.{bearer_cmp}
use Rattle.message_types.specs.declared.rrc.Token.{Token}
use Rattle.unit_defs.specs.Ways.{Pdu, Input, radio_input, order_input}
use Rattle.unit_defs.specs.Ue.{UeNode}
use Rattle.run_defs.specs.Runs.{plain_way}
use Rattle.proof_node_orders.specs.terminal_inputs.Inputs.{Models, AssumedTaken, AssumedOrder}
use Rattle.proof_bearer_refinement.specs.runs.Steps.{Point}

-- the models of a point
abbrev pub both : Point → Models
both p = record { up = p.up; down = p.down }

-- a packet down is the first that stands on the model's radio, and a report says what was carried up; an arrival may lead where it
-- leads
abbrev pub AssumedStill : UeNode → Models → BearerId → Option ℕ → Input Token Pdu → Type 0
AssumedStill u b bearer to (radio_input ue other Dl pdu content) = eq_by_cmp bearer_cmp bearer other ≡ true → AssumedTaken plain_way u b content
AssumedStill u b bearer to (order_input order) = AssumedOrder plain_way u b to order
AssumedStill u b bearer to input = Unit {0}

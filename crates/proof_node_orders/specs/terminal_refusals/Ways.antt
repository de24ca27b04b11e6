-- The chain's model and the way over one DU, as the terminal sees them.
use Rattle.std.specs.Prelude.{◌≡◌, List, [], ◌∷◌}
use Rattle.bearer_defs.specs.chain_defs.Models.{Model}
use Rattle.bearer_defs.specs.chain_defs.Orders.{ModelStep, carries, fails}
use Rattle.law_downlink_order.specs.path.Paths.{Path}
use Rattle.law_downlink_order.specs.path.Steps as path
use Rattle.proof_node_orders.specs.terminal_inputs.Inputs.{rest_of}

-- one receiver, and the same packets delivered
pub record IsAlike (d : Model) (p : Path) : Type 0 where
  pub terminal : p.terminal ≡ d.terminal
  pub delivered : p.delivered ≡ d.delivered

-- What the chain's orders are on this way: the terminal takes the packet, whatever else stands on its radio; a failed radio.
-- What the CU-UP and the DU do there are steps of their own.
unfoldable pub steps_for : Path → List ModelStep → List path.Step
steps_for p [] = []
steps_for p (carries count packet rest ∷ os) =
    let step = path.carries count packet (rest_of p.air) in step ∷ steps_for (path.after p step) os
steps_for p (fails ∷ os) = path.fails ∷ steps_for (path.after p path.fails) os
steps_for p (o ∷ os) = steps_for p os

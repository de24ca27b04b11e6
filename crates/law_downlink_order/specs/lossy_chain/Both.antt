-- The downlink of one bearer over handovers, where frames of F1-U may be lost: the chain of contexts, and the way down from the context
-- that the terminal is at. The terminal takes from the way's radio alone: what stands on the chain's is what was put for the present
-- radio, lost or not.
use Rattle.std.specs.Prelude.{◌≡◌, ℕ, ◌+◌, ◌<◌, ◌≤◌, Bool, List, [], ◌∷◌, length, Some, slice_get, ⊤}
use Rattle.gnb_types.specs.declared.names.SnBits.{SnBits}
use Rattle.pdcp_defs.specs.Receivers.{is_duplicate, stored, deliver}
use Rattle.unit_defs.specs.CuUpRecords.{DownlinkTunnel}
use Rattle.unit_defs.specs.Du.{DuBearer}
use Rattle.bearer_defs.specs.chain_defs.Models.{Model}
use Rattle.bearer_defs.specs.chain_defs.Models as models
use Rattle.bearer_defs.specs.chain_defs.Orders.{ModelStep, handed}
use Rattle.bearer_defs.specs.chain_defs.Orders as orders
use Rattle.bearer_defs.specs.chain_defs.Assumptions as guards
use Rattle.law_downlink_order.specs.path.Paths.{Path}
use Rattle.law_downlink_order.specs.path.Paths as paths
use Rattle.law_downlink_order.specs.path.Steps as ways

pub record Both : Type 0 where
  pub chain : Model
  pub way : Path

pub data Step : Type 0 where
  -- an order of the chain, and a step of the way, but that the terminal takes from its radio
  by_chain : (order : ModelStep) → Step
  by_way : (step : ways.Step) → Step
  -- the terminal takes the next packet of the way's radio
  receives : (count : ℕ) (packet : List ℕ) (rest : List (ℕ × List ℕ)) → Step
  -- a way begins at the context that the terminal is at, with what this has; the next packet that it comes to hold has this COUNT
  moves : (comes : ℕ) (downlink : DownlinkTunnel) (fmc : ℕ) (bits : List Bool) → Step

unfoldable pub after : Both → Step → Both
after s (by_chain order) = record s { chain = orders.after s.chain order }
after s (by_way step) = record s { way = ways.after s.way step }
after s (receives count packet rest) = record {
  chain = handed s.chain (is_duplicate s.chain.terminal count) (deliver (stored s.chain.terminal count packet));
  way = ways.after s.way (ways.carries count packet rest);
}
after s (moves comes downlink fmc bits) = record s {
  way = ways.after (record s.way { bearer = (s.chain.members s.chain.station).bearer; comes = comes }) (ways.begins_anew downlink fmc bits);
}

unfoldable pub run : Both → List Step → Both
run s [] = s
run s (o ∷ os) = run (after s o) os

unfoldable pub start : ℕ → ℕ → DownlinkTunnel → DuBearer → Both
start first teid downlink du = record { chain = models.initial first teid; way = paths.start teid downlink du }

-- the packets that are offered
unfoldable pub orders_in : List Step → List ModelStep
orders_in [] = []
orders_in (by_chain order ∷ os) = order ∷ orders_in os
orders_in (o ∷ os) = orders_in os

abbrev pub offers_in : List Step → List (List ℕ)
offers_in os = orders.offers_in (orders_in os)

-- ---- what they ask for

abbrev pub IsOfChain : ModelStep → Type 0
IsOfChain (orders.carries count packet rest) = ⊥
IsOfChain order = ⊤

abbrev pub IsOfDownlinkPath : ways.Step → Type 0
IsOfDownlinkPath (ways.carries count packet rest) = ⊥
IsOfDownlinkPath step = ⊤

-- the packet that the CU-UP comes to hold next is the one that was offered at this place
abbrev pub IsNext : List (List ℕ) → Both → List ℕ → Type 0
IsNext offered s packet = (slice_get offered s.way.comes ≡ Some packet) × (s.way.comes < s.chain.offered)

abbrev pub Brings : List (List ℕ) → Both → ways.Step → Type 0
Brings offered s (ways.numbers packet) = IsNext offered s packet
Brings offered s (ways.sends count packet) = IsNext offered s packet
Brings offered s (ways.keeps count packet) = IsNext offered s packet
Brings offered s step = ⊤

-- after what is unconfirmed comes this COUNT; where nothing is, one that was received, or the next to be
abbrev pub Follows : ℕ → List (ℕ × List ℕ) → ℕ → Type 0
Follows deliv [] comes = comes ≤ deliv
Follows deliv (e ∷ es) comes = comes ≡ e.0 + length (e ∷ es)

module _ (sn : SnBits) (quota : ℕ) (offered : List (List ℕ)) where
  abbrev pub Asks : Both → Step → Type 0
  Asks s (by_chain order) = IsOfChain order × guards.IsReady sn quota s.chain order × guards.IsAssumed s.chain order
  Asks s (by_way step) = IsOfDownlinkPath step × ways.IsReady s.way step × ways.IsAssumed s.way step × Brings offered s step
  Asks s (receives count packet rest) = s.way.air ≡ (count, packet) ∷ rest
  Asks s (moves comes downlink fmc bits) =
      Follows s.chain.terminal.deliv (s.chain.members s.chain.station).bearer.sender.unconfirmed comes

  unfoldable pub AreKept : Both → List Step → Type 0
  AreKept s [] = ⊤
  AreKept s (o ∷ os) = Asks s o × AreKept (after s o) os

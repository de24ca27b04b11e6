-- What a terminal shows of a bearer's two models, and what is on its radio up.
use Rattle.std.specs.Prelude.{◌≡◌, ⊤}
use Rattle.unit_defs.specs.Ways.{Pdu, packet_pdu, Load, uplink}
use Rattle.bearer_defs.specs.chain_defs.Models as down_models
use Rattle.bearer_defs.specs.uplink_defs.Models as up_models
use Rattle.bearer_defs.specs.uplink_defs.Orders as up

-- it is the same of the model down, and of the model up
pub record DownSame (d e : down_models.Model) : Type 0 where
  pub terminal : e.terminal ≡ d.terminal
  pub epoch : e.epoch ≡ d.epoch

pub record UpSame (u v : up_models.Model) : Type 0 where
  pub terminal : v.terminal ≡ u.terminal
  pub connected : v.connected ≡ u.connected
  pub carried : v.carried ≡ u.carried
  pub air : v.air ≡ u.air

-- orders up of CU-UPs, and the End Markers of a DU
abbrev pub LeavesTerminal : up.ModelStep → Type 0
LeavesTerminal (up.offers packet) = ⊥
LeavesTerminal (up.numbers packet rest) = ⊥
LeavesTerminal up.connects = ⊥
LeavesTerminal up.leaves = ⊥
LeavesTerminal (up.arrives x) = ⊥
LeavesTerminal (up.carries teid count packet rest) = ⊥
LeavesTerminal (up.acknowledges count rest) = ⊥
LeavesTerminal (up.reports fmc bits) = ⊥
LeavesTerminal order = ⊤

-- no packet
abbrev pub IsNoPacket : Load Pdu → Type 0
IsNoPacket (uplink (packet_pdu count packet)) = ⊥
IsNoPacket load = Unit {0}

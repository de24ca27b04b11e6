-- A bearer of a terminal as the procedure tables see it, and the rows at one bearer.
use Rattle.std.specs.Prelude.{◌≡◌, ℕ, ◌++◌, List, [], ◌∷◌, length, None, nat_lt, nat_le, if◌then◌else◌}
use Rattle.gnb_types.specs.declared.names.BearerId.{BearerId}
use Rattle.gnb_types.specs.declared.reasons.RefuseReason.TheVariants.{Size, Quota}
use Rattle.unit_defs.specs.Ways.{Way, Answer, no, puts}
use Rattle.unit_defs.specs.Ue.{UeBearer, UeNode, largest_packet, used_uplink, number_waiting}
use Rattle.pdcp_bearers.specs.declared.ue_packets.terminal.Terminal.{Terminal}
use Rattle.pdcp_bearers.specs.declared.ue_packets.bearer.Bearer.{Bearer}

-- what the tables keep of it
abbrev pub kept : Bearer → UeBearer
kept b = record { sender = b.uplink.sender; waiting = b.uplink.waiting; receiver = b.downlink.receiver }

-- a terminal, of which the rows at a bearer read no more
abbrev pub terminal_of : Terminal → UeNode
terminal_of t = record { plan = t.plan; state = t.state; epoch = t.epoch; home = None; goal = None; token = None; bearers = [] }

-- the bearer has the terminal's numbers and quota
pub record IsOf (t : Terminal) (b : Bearer) : Type 0 where
  pub up_sn : b.uplink.sn ≡ t.plan.sn
  pub up_quota : b.uplink.quota ≡ t.plan.quota
  pub down_sn : b.downlink.sn ≡ t.plan.sn
  pub down_quota : b.downlink.quota ≡ t.plan.quota

module _ {M C P : Type 0} (way : Way M C P) where
  -- an offered packet, at its bearer
  abbrev pub offered_at : UeNode → BearerId → List ℕ → UeBearer → Answer M P UeBearer
  offered_at u bearer packet b =
      if nat_lt largest_packet (length packet) then puts (no Size) b else
      (if nat_le u.plan.quota (used_uplink way b) then puts (no Quota) b else
      number_waiting way u bearer (record b { waiting = b.waiting ++ packet ∷ [] }))

use Rattle.std.proofs.Common.{◌≡◌, ◌++◌, length}
use Rattle.unit_defs.specs.octet_defs.Codec.{Codec}
use Rattle.pdcp_bearers.specs.ue_bearers.Senders.{from_on}
use Rattle.pdcp_bearers.specs.ue_packets.Bearers.{terminal_of}
use Rattle.pdcp_bearers.proofs.ue_packets.RowLemmas.{again}
use Rattle.pdcp_bearers.proofs.ue_packets.bearer.Bearer.send_unconfirmed.Given as goal

-- what was sent, and what is sent from this COUNT on, is all
abbrev pub invariant-loop-count : goal.invariant-loop-count
invariant-loop-count l =
    (codec : Codec) → l.out ++ again codec (terminal_of l.terminal) l.bearer (from_on l.from l.self.uplink.sender.unconfirmed)
    ≡ l.initial.out ++ again codec (terminal_of l.terminal) l.bearer (from_on 0 l.self.uplink.sender.unconfirmed)

abbrev pub decreases-loop-count : goal.decreases-loop-count
decreases-loop-count l = length (from_on l.from l.self.uplink.sender.unconfirmed)

-- A bearer of a CU-UP as the procedure tables see it.
use Rattle.std.specs.Prelude.{◌≡◌}
use Rattle.std.specs.List.{AllByRecursion}
use Rattle.unit_defs.specs.CuUpRecords.{CuUpBearer}
use Rattle.pdcp_bearers.specs.ue_bearers.Receivers.{ReceiverState}
use Rattle.pdcp_bearers.specs.ue_bearers.Senders.{IsPacket}
use Rattle.cu_up_bearer.specs.declared.tunnels.at.Scope.{Scope}
use Rattle.cu_up_bearer.specs.tunnels.Tunnels.{downlink_as, hop_as}
use Rattle.cu_up_bearer.specs.downlink.Downlinks.{IsDown}
use Rattle.cu_up_bearer.specs.declared.bearers.bearer.Bearer.{Bearer}

-- a bearer with this receiver, whatever else it keeps
abbrev pub with_receiver : CuUpBearer → ReceiverState → CuUpBearer
with_receiver b d = record b { receiver = d.receiver }

-- what the tables keep of a bearer
abbrev pub kept : Bearer → CuUpBearer
kept b = record {
  n3 = b.n3;
  uplinks = b.uplinks;
  forward_down = b.forward_down;
  forward_up = b.forward_up;
  sender = b.down.sending.sender;
  waiting = b.down.sending.waiting;
  downlink = downlink_as b.down.frames.downlink;
  restart = b.down.frames.restart;
  receiver = b.receiving.receiver;
  dl_next = b.dl_next;
  down_ended = b.down_ended;
  up_ended = b.up_ended;
  hop = hop_as b.hop;
  loss_while_frozen = b.loss_while_frozen;
  taken_while_frozen = b.taken_while_frozen;
}

-- the entities have the numbers and the quota of the context, and what is stored is packets
abbrev pub IsUp : Scope → ReceiverState → Type 0
IsUp a d = (d.sn ≡ a.sn) × (d.quota ≡ a.quota) × AllByRecursion (λ e. IsPacket e.1) d.receiver.stored

abbrev pub IsOf : Scope → Bearer → Type 0
IsOf a b = IsDown a b.down × IsUp a b.receiving

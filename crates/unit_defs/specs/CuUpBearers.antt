-- What the orders of a CU-UP do to the packets of one bearer: its numbering and sending, its delivery, and the orders by which
-- control reaches it (made, uplinks added, switch, freeze, SN status, resume, release). Rows are told of these.
use Rattle.std.specs.Prelude.{◌==◌, ℕ, ◌+◌, Bool, true, false, not, ◌&&◌, ◌||◌, nat_lt, if◌then◌else◌, List, [], ◌∷◌, ◌++◌, length, map, filter, Option, Some, None}
use Rattle.std.specs.List.{list_any}
use Rattle.gnb_types.specs.declared.names.NodeId.{NodeId}
use Rattle.gnb_types.specs.declared.names.BearerId.{BearerId}
use Rattle.gnb_types.specs.declared.names.Dir.TheVariants.{Dl, Ul}
use Rattle.gnb_types.specs.declared.plans.SnStatus.{SnStatus}
use Rattle.gnb_types.specs.declared.outputs.Tag.{Tag}
use Rattle.gnb_types.specs.declared.outputs.Tag.TheVariants.{Absent, Own}
use Rattle.pdcp.specs.Near.{last_count}
use Rattle.pdcp_defs.specs.Senders.{new_sender, numbered as with_next, has_room, emptied}
use Rattle.pdcp_defs.specs.Receivers.{new_receiver, deliver as handed_up, received_bits}
use Rattle.unit_defs.specs.Ways.{packet_pdu, report_pdu, Load, fresh, numbered, frame, Output, packet, deliver, opened, Way, Answer, gives, spent, ◌then◌, nothing, puts, counts_spent, frames_spent}
use Rattle.unit_defs.specs.CuUpRecords.{DownlinkTunnel, SourceHop, CuUpBearer, CuUpFlags, CuUpScope}

-- the last NR-U number of a tunnel
abbrev pub last_frame : ℕ
last_frame = 16777215

-- how many blocks the downlink of a bearer has in use
abbrev pub used_downlink : CuUpBearer → ℕ
used_downlink b = length b.sender.unconfirmed + length b.waiting

abbrev pub has_downlink : Option DownlinkTunnel → Bool
has_downlink None = false
has_downlink (Some d) = true

-- ---- a context is made, with this bearer's TEIDs from this one on

unfoldable pub made : Bool → ℕ → CuUpBearer
made target first = record {
  n3 = Some first;
  uplinks = (first + 1) ∷ [];
  forward_down = if target then Some (first + 2) else None;
  forward_up = if target then Some (first + 3) else None;
  sender = new_sender 0;
  waiting = [];
  downlink = None;
  restart = false;
  receiver = new_receiver 0;
  dl_next = 0;
  down_ended = false;
  up_ended = false;
  hop = None;
  loss_while_frozen = false;
  taken_while_frozen = [];
}

-- how many TEIDs a bearer of a new context has
abbrev pub teids_of_bearer : Bool → ℕ
teids_of_bearer target = if target then 4 else 2

-- ---- the frozen state ends

abbrev pub thawed : CuUpBearer → CuUpBearer
thawed b = record b { hop = None; loss_while_frozen = false; taken_while_frozen = [] }

abbrev pub some_bits : List Bool → Option (List Bool)
some_bits [] = None
some_bits (bit ∷ bits) = Some (bit ∷ bits)

abbrev pub status_of : BearerId → CuUpBearer → SnStatus
status_of bearer b = record {
  bearer = bearer;
  dl_next = b.sender.next;
  ul_first = b.receiver.deliv;
  ul_received = some_bits (received_bits b.receiver);
}

abbrev pub bits_in : Option (List Bool) → List Bool
bits_in None = []
bits_in (Some bits) = bits

abbrev pub is_one_of : List ℕ → ℕ → Bool
is_one_of counts count = list_any (λ c. c == count) counts

abbrev pub owed : CuUpBearer → List (ℕ × List ℕ)
owed b = if b.loss_while_frozen then b.sender.unconfirmed else filter (λ e. is_one_of b.taken_while_frozen e.0) b.sender.unconfirmed

-- ---- release: no packet is kept any more

abbrev pub released : CuUpBearer → CuUpBearer
released b = record b { sender = emptied b.sender; waiting = []; receiver = record b.receiver { stored = [] } }

-- nothing comes any more
abbrev pub is_closed : Option ℕ → Bool
is_closed None = true
is_closed (Some teid) = false

abbrev pub no_uplink : List ℕ → Bool
no_uplink [] = true
no_uplink (teid ∷ teids) = false

abbrev pub hop_is_done : CuUpFlags → CuUpBearer → Bool
hop_is_done flags b = not flags.target || (b.down_ended && b.up_ended)

abbrev pub is_over : CuUpFlags → CuUpBearer → Bool
is_over flags b = is_closed b.n3 && no_uplink b.uplinks && hop_is_done flags b

-- the tunnels that are still open, in the order in which they are closed
abbrev pub teid_in : Option ℕ → List ℕ
teid_in None = []
teid_in (Some teid) = teid ∷ []

abbrev pub open_teids : CuUpBearer → List ℕ
open_teids b = teid_in b.n3 ++ teid_in b.forward_down ++ b.uplinks ++ teid_in b.forward_up

module _ {M C P : Type 0} (way : Way M C P) where
  -- ---- frames (TS 38.425, 5.4)

  -- a frame on the downlink tunnel, with the next NR-U number; where there is no tunnel, none
  abbrev pub framed_on : CuUpScope → CuUpBearer → Bool → Bool → Option P → Tag → Option DownlinkTunnel → Answer M P CuUpBearer
  framed_on at b poll restart pdu tag None = nothing b
  framed_on at b poll restart pdu tag (Some d) =
      if nat_lt last_frame d.next then spent frames_spent
      else puts (packet d.du d.teid at.ue at.bearer Dl tag (frame poll restart d.next pdu))
      (record b { downlink = Some (record d { next = d.next + 1 }); restart = b.restart && not restart })

  unfoldable pub framed : CuUpScope → Bool → Bool → Option P → Tag → CuUpBearer → Answer M P CuUpBearer
  framed at poll restart pdu tag b = framed_on at b poll restart pdu tag b.downlink

  -- a packet with its COUNT; the first one after a loss says so
  unfoldable pub sent : CuUpScope → ℕ → List ℕ → Tag → CuUpBearer → Answer M P CuUpBearer
  sent at count p tag b = framed at false b.restart (Some (way.write at.sn (packet_pdu count p))) tag b

  -- packets of the store, in their order
  unfoldable pub sent_again : CuUpScope → List (ℕ × List ℕ) → CuUpBearer → Answer M P CuUpBearer
  sent_again at [] b = nothing b
  sent_again at (e ∷ es) b = sent at e.0 e.1 (Own e.0) b then sent_again at es

  -- ---- numbering (TS 38.323, 5.2.1)

  -- those that wait get a COUNT while there is room, and are sent
  unfoldable pub number_each : CuUpScope → List (List ℕ) → CuUpBearer → Answer M P CuUpBearer
  number_each at [] b = nothing b
  number_each at (p ∷ ps) b =
      if not (has_room at.sn at.quota b.sender) then nothing b else
      (if nat_lt last_count b.sender.next then spent counts_spent else
      sent at b.sender.next p (Own b.sender.next) (record b { sender = with_next b.sender p; waiting = ps }) then number_each at ps)

  -- a CU-UP numbers only while it has a downlink tunnel and isn't frozen
  unfoldable pub number_waiting : CuUpScope → CuUpBearer → Answer M P CuUpBearer
  number_waiting at b =
      if at.flags.frozen || at.flags.released || not (has_downlink b.downlink) then nothing b else number_each at b.waiting b

  -- ---- delivery (TS 38.323, 5.2.2)

  abbrev pub delivered : CuUpScope → List (ℕ × List ℕ) → List (Output M P)
  delivered at es = map (λ e. deliver at.ue at.bearer Ul e.0 e.1) es

  unfoldable pub deliver_stored : CuUpScope → CuUpBearer → Answer M P CuUpBearer
  deliver_stored at b =
      let d = handed_up b.receiver in gives (delivered at d.packets) (record b { receiver = d.after })

  -- ---- forwarding to the target (TS 38.423, 8.2.1; TS 38.300, 9.2.3.2.3)

  abbrev pub put_down : CuUpScope → Tag → Load P → CuUpBearer → Option SourceHop → Answer M P CuUpBearer
  put_down at tag load b None = nothing b
  put_down at tag load b (Some hop) = puts (packet hop.peer hop.down at.ue at.bearer Dl tag load) b

  unfoldable pub forwarded_down : CuUpScope → Tag → Load P → CuUpBearer → Answer M P CuUpBearer
  forwarded_down at tag load b = put_down at tag load b b.hop

  abbrev pub put_up : CuUpScope → Tag → Load P → CuUpBearer → Option SourceHop → Answer M P CuUpBearer
  put_up at tag load b None = nothing b
  put_up at tag load b (Some hop) = puts (packet hop.peer hop.up at.ue at.bearer Ul tag load) b

  unfoldable pub forwarded_up : CuUpScope → Tag → Load P → CuUpBearer → Answer M P CuUpBearer
  forwarded_up at tag load b = put_up at tag load b b.hop

  -- ---- uplinks are added

  unfoldable pub with_uplink : ℕ → CuUpBearer → Answer M P CuUpBearer
  with_uplink teid b = puts (opened teid) (record b { uplinks = b.uplinks ++ teid ∷ [] })

  -- ---- switch: the downlink begins anew on this tunnel

  -- a status report, all that nothing confirmed, and what waits
  unfoldable pub begin_downlink : CuUpScope → ℕ → List Bool → CuUpBearer → Answer M P CuUpBearer
  begin_downlink at fmc bits b =
      framed at false false (Some (way.write at.sn (report_pdu fmc bits))) Absent b
      then (λ c. sent_again at c.sender.unconfirmed c)
      then number_waiting at

  abbrev pub begin_where_known : CuUpScope → CuUpBearer → Answer M P CuUpBearer
  begin_where_known at b = if at.flags.may_serve then begin_downlink at b.receiver.deliv (received_bits b.receiver) b else nothing b

  unfoldable pub switched : CuUpScope → NodeId → ℕ → CuUpBearer → Answer M P CuUpBearer
  switched at du teid b =
      deliver_stored at (record (thawed b) { downlink = Some (record { du = du; teid = teid; next = 0 }); restart = false })
      then begin_where_known at

  -- ---- freeze: all that is held goes to the target, and the SN status says where it is to go on

  abbrev pub forward_numbered : CuUpScope → List (ℕ × List ℕ) → CuUpBearer → Answer M P CuUpBearer
  forward_numbered at [] b = nothing b
  forward_numbered at (e ∷ es) b = forwarded_down at (Own e.0) (numbered at.sn e.0 e.1) b then forward_numbered at es

  abbrev pub forward_fresh : CuUpScope → List (List ℕ) → CuUpBearer → Answer M P CuUpBearer
  forward_fresh at [] b = nothing b
  forward_fresh at (p ∷ ps) b = forwarded_down at Absent (fresh p) b then forward_fresh at ps

  abbrev pub forward_late : CuUpScope → List (ℕ × List ℕ) → CuUpBearer → Answer M P CuUpBearer
  forward_late at [] b = nothing b
  forward_late at (e ∷ es) b = forwarded_up at (Own e.0) (numbered at.sn e.0 e.1) b then forward_late at es

  unfoldable pub frozen_to : CuUpScope → NodeId → ℕ → ℕ → CuUpBearer → Answer M P CuUpBearer
  frozen_to at peer down up b =
      let hop : SourceHop = record { peer = peer; down = down; up = up; up_ended = false } in
      forward_numbered at b.sender.unconfirmed (record b { hop = Some hop; loss_while_frozen = false; taken_while_frozen = [] })
      then (λ c. forward_fresh at c.waiting c)
      then (λ c. forward_late at c.receiver.stored c)

  -- ---- SN status: the target's entities go on where those of the source stand

  abbrev pub begin_where_arrived : CuUpScope → SnStatus → CuUpBearer → Answer M P CuUpBearer
  begin_where_arrived at s b =
      if at.flags.arrived then deliver_stored at b then begin_downlink at s.ul_first (bits_in s.ul_received) else nothing b

  unfoldable pub with_status : CuUpScope → SnStatus → CuUpBearer → Answer M P CuUpBearer
  with_status at s b = begin_where_arrived at s (record b {
    dl_next = s.dl_next;
    sender = record b.sender { next = s.dl_next };
    receiver = record b.receiver { deliv = s.ul_first };
  })

  -- ---- resume: what came while frozen is sent; all that nothing confirmed, where a loss was told meanwhile

  unfoldable pub resumed : CuUpScope → CuUpBearer → Answer M P CuUpBearer
  resumed at b =
      sent_again at (owed b) (record (thawed b) { restart = b.restart || b.loss_while_frozen })
      then deliver_stored at
      then number_waiting at

-- The receiving PDCP entity of an unacknowledged bearer (TS 38.323, 5.2.2 and 7): RX_DELIV with the packets that are stored,
-- RX_NEXT, RX_REORD, and the ticks that t-Reordering still has where it runs.
use Rattle.std.specs.Prelude.{◌==◌, ℕ, ◌+◌, ◌-◌, not, ◌&&◌, nat_lt, nat_le, max, if◌then◌else◌, List, [], ◌∷◌, ◌++◌, map, Option, Some, None, is_some, Result, Ok, Err}
use Rattle.std.specs.Ordering.{nat_cmp}
use Rattle.gnb_types.specs.declared.names.SnBits.{SnBits}
use Rattle.tables.specs.Tables.{find}
use Rattle.pdcp_defs.specs.Counts.{near_count}
use Rattle.pdcp_defs.specs.Receivers.{Receiver, new_receiver, Delivery, with_packet, deliver_from, deliver, stored}
use Rattle.um_defs.specs.declared.types.error.UmError.{UmError}
use Rattle.um_defs.specs.declared.types.error.UmError.TheVariants.{NoCount, Late, Duplicate, Ahead}
use Rattle.um_defs.specs.declared.types.out.Out.{Out}

pub record UmReceiver (X : Type 0) : Type 0 where
  pub receiver : Receiver X
  pub next : ℕ
  pub reord : ℕ
  pub left : Option ℕ

abbrev pub new_um_receiver : {X : Type 0} → UmReceiver X
new_um_receiver = record { receiver = new_receiver 0; next = 0; reord = 0; left = None }

-- what is handed up, and the entity after it
pub record UmDelivery (X : Type 0) : Type 0 where
  pub packets : List (ℕ × X)
  pub after : UmReceiver X

-- ---- the timer

-- it stops where nothing is awaited below RX_REORD any more
abbrev pub stopped : {X : Type 0} → UmReceiver X → UmReceiver X
stopped r = if is_some r.left && nat_le r.reord r.receiver.deliv then record r { left = None } else r

-- it starts, with all its ticks, where it doesn't run and something is awaited below RX_NEXT
abbrev pub started : {X : Type 0} → ℕ → UmReceiver X → UmReceiver X
started ticks r =
    if not (is_some r.left) && nat_lt r.receiver.deliv r.next then record r { reord = r.next; left = Some ticks } else r

-- ---- a packet is taken

-- why it isn't
abbrev pub room : ℕ
room = 1024

unfoldable pub refuses : {X : Type 0} → UmReceiver X → Option ℕ → Option UmError
refuses r None = Some NoCount
refuses r (Some count) =
    if nat_lt count r.receiver.deliv then Some (Late count) else
    (if is_some (find nat_cmp r.receiver.stored count) then Some (Duplicate count) else
    (if nat_le (r.receiver.deliv + room) count then Some (Ahead count) else None))

-- it is stored
abbrev pub kept : {X : Type 0} → UmReceiver X → ℕ → X → UmReceiver X
kept r count x = record r { receiver = stored r.receiver count x; next = max r.next (count + 1) }

-- the packets from RX_DELIV on without a gap are handed up
abbrev pub handed_up : {X : Type 0} → UmReceiver X → Delivery X → UmDelivery X
handed_up r d = record { packets = d.packets; after = record r { receiver = d.after } }

abbrev pub none_up : {X : Type 0} → UmReceiver X → UmDelivery X
none_up r = record { packets = []; after = r }

abbrev pub timed : {X : Type 0} → ℕ → UmDelivery X → UmDelivery X
timed ticks d = record d { after = started ticks (stopped d.after) }

abbrev pub arrived : {X : Type 0} → ℕ → UmReceiver X → UmDelivery X
arrived count r = if count == r.receiver.deliv then handed_up r (deliver r.receiver) else none_up r

unfoldable pub received : {X : Type 0} → ℕ → UmReceiver X → ℕ → X → UmDelivery X
received ticks r count x = timed ticks (arrived count (kept r count x))

-- a packet with this number: why it isn't taken, or what it brings
abbrev pub received_unless : {X : Type 0} → ℕ → UmReceiver X → Option ℕ → X → Option UmError → Result (UmDelivery X) UmError
received_unless ticks r found x (Some error) = Err error
received_unless ticks r None x None = Err NoCount
received_unless ticks r (Some count) x None = Ok (received ticks r count x)

unfoldable pub takes : {X : Type 0} → SnBits → ℕ → UmReceiver X → ℕ → X → Result (UmDelivery X) UmError
takes sn ticks r number x =
    let found = near_count sn r.receiver.deliv number in received_unless ticks r found x (refuses r found)

-- ---- a tick

-- The packets below RX_REORD are handed up, whatever is missing between them, and those from it on without a gap; RX_DELIV is the
-- first COUNT after these.
abbrev pub up_to_reord : {X : Type 0} → ℕ → List (ℕ × X) → Delivery X
up_to_reord reord [] = deliver_from reord []
up_to_reord reord (e ∷ es) = if nat_lt e.0 reord then with_packet e (up_to_reord reord es) else deliver_from reord (e ∷ es)

abbrev pub stops_running : {X : Type 0} → UmReceiver X → UmReceiver X
stops_running r = record r { left = None }

abbrev pub restarted : {X : Type 0} → ℕ → UmDelivery X → UmDelivery X
restarted ticks d = record d { after = started ticks d.after }

unfoldable pub expired : {X : Type 0} → ℕ → UmReceiver X → UmDelivery X
expired ticks r = restarted ticks (handed_up (stops_running r) (up_to_reord r.reord r.receiver.stored))

abbrev pub ticked_at : {X : Type 0} → ℕ → UmReceiver X → Option ℕ → UmDelivery X
ticked_at ticks r None = none_up r
ticked_at ticks r (Some left) = if nat_le left 1 then expired ticks r else none_up (record r { left = Some (left - 1) })

unfoldable pub ticked : {X : Type 0} → ℕ → UmReceiver X → UmDelivery X
ticked ticks r = ticked_at ticks r r.left

-- ---- packets as a list of the code

abbrev pub entry : Out → ℕ × List ℕ
entry out = (out.count, out.packet)

abbrev pub entries : List Out → List (ℕ × List ℕ)
entries outs = map entry outs

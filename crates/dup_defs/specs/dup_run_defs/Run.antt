-- The run of one downlink bearer with PDCP duplication (TS 38.323, 5.11): a transmitting entity, two legs, each first in, first out, on
-- which an item is first carried to the receiver and then confirmed, and the receiving entity, which drops what came before.
use Rattle.std.specs.Prelude.{◌==◌, ℕ, ◌+◌, ◌-◌, ◌%◌, Bool, true, false, not, ◌&&◌, nat_lt, nat_le, min, if◌then◌else◌, List, [], ◌∷◌, ◌++◌, length, map, filter, fold, Option, Some, None}
use Rattle.gnb_types.specs.declared.names.SnBits.{SnBits}
use Rattle.pdcp.specs.Numbers.{space}
use Rattle.pdcp.specs.Pdus.{radio_data}
use Rattle.pdcp.specs.declared.pdu.TheConstants.{PACKET_LIMIT}
use Rattle.pdcp_defs.specs.Counts.{near_count, count_below}
use Rattle.pdcp_defs.specs.Receivers.{Receiver, Delivery, new_receiver, is_duplicate, stored, deliver}
use Rattle.dup_defs.specs.declared.types.leg.Leg.{Leg}
use Rattle.dup_defs.specs.declared.types.leg.Leg.TheVariants as legs
use Rattle.dup_defs.specs.declared.types.leg.Mode.{Mode}
use Rattle.dup_defs.specs.declared.types.leg.Mode.TheVariants as modes
use Rattle.dup_defs.specs.declared.types.line.DupLine.{DupLine}
use Rattle.dup_defs.specs.declared.types.line.DupLine.TheVariants as lines
use Rattle.dup_defs.specs.declared.types.line.DupRefusal.{DupRefusal}
use Rattle.dup_defs.specs.declared.types.line.DupRefusal.TheVariants.{Size, Quota, Down, Empty, Up, Same}
use Rattle.dup_defs.specs.Senders.{DupSender, DupPut, DupNumbers, gives, spends, new_dup_sender, is_up, in_mode, is_full, rests, offered, confirmed, leg_is, mode_is}

-- What a leg holds: the COUNTs of items that were carried, and items that are to be carried, the oldest first. Those that were carried
-- came before the others.
pub record LegItems : Type 0 where
  pub carried : List ℕ
  pub coming : List (ℕ × List ℕ)

abbrev pub no_items : LegItems
no_items = record { carried = []; coming = [] }

pub record DupRun : Type 0 where
  pub entity : DupSender
  pub first : LegItems
  pub second : LegItems
  pub receiver : Receiver (List ℕ)

abbrev pub new_run : DupRun
new_run = record { entity = new_dup_sender; first = no_items; second = no_items; receiver = new_receiver 0 }

abbrev pub items_of : Leg → DupRun → LegItems
items_of legs.First s = s.first
items_of legs.Second s = s.second

abbrev pub with_items : Leg → LegItems → DupRun → DupRun
with_items legs.First items s = record s { first = items }
with_items legs.Second items s = record s { second = items }

abbrev pub other : Leg → Leg
other legs.First = legs.Second
other legs.Second = legs.First

-- lines, and the run after them; or the last COUNT was given
pub data DupOutcome : Type 0 where
  goes_on : List DupLine → DupRun → DupOutcome
  counts_spent : DupOutcome

abbrev pub refused : DupRefusal → DupRun → DupOutcome
refused reason s = goes_on (lines.Refused reason ∷ []) s

abbrev pub lines_first : List DupLine → DupOutcome → DupOutcome
lines_first printed (goes_on more s) = goes_on (printed ++ more) s
lines_first printed counts_spent = counts_spent

-- ---- what the transmitting entity puts stands on its legs

abbrev pub put_line : SnBits → DupPut → DupLine
put_line sn put = lines.Put put.leg put.count (radio_data sn put.count put.packet)

abbrev pub added : LegItems → ℕ → List ℕ → LegItems
added items count packet = record items { coming = items.coming ++ (count, packet) ∷ [] }

abbrev pub with_put : DupRun → DupPut → DupRun
with_put s put = with_items put.leg (added (items_of put.leg s) put.count put.packet) s

abbrev pub with_puts : List DupPut → DupRun → DupRun
with_puts puts s = fold with_put s puts

abbrev pub puts_out : SnBits → DupRun → DupNumbers → DupOutcome
puts_out sn s (gives puts after) = goes_on (map (put_line sn) puts) (with_puts puts (record s { entity = after }))
puts_out sn s spends = counts_spent

-- ---- items that are gone from a leg

abbrev pub lost_lines : Leg → ℕ → List DupLine
lost_lines leg items = if items == 0 then [] else lines.Lost leg items ∷ []

abbrev pub size_of : LegItems → ℕ
size_of items = length items.carried + length items.coming

-- all of them
abbrev pub lose_all : Leg → DupRun → DupOutcome
lose_all leg s = goes_on (lost_lines leg (size_of (items_of leg s))) (with_items leg no_items s)

-- those that weren't carried, up to a COUNT
abbrev pub above : ℕ → List (ℕ × List ℕ) → List (ℕ × List ℕ)
above count es = filter (λ e. nat_lt count e.0) es

abbrev pub lose_to : Leg → ℕ → DupRun → DupOutcome
lose_to leg count s =
    let items = items_of leg s in
    let left = above count items.coming in
    goes_on (lost_lines leg (length items.coming - length left)) (with_items leg (record items { coming = left }) s)

-- ---- a packet is offered

unfoldable pub offers : SnBits → ℕ → List ℕ → DupRun → DupOutcome
offers sn quota packet s =
    if nat_lt PACKET_LIMIT (length packet) then refused Size s else
    (if is_full quota s.entity then refused Quota s else puts_out sn s (offered sn quota packet s.entity))

-- ---- the oldest item that isn't carried comes to the receiving entity (5.2.2): the COUNT is found from the number

abbrev pub got : SnBits → Leg → ℕ × List ℕ → DupLine
got sn leg e = lines.Got leg e.0 (radio_data sn e.0 e.1)

abbrev pub handed_up : DupRun → Delivery (List ℕ) → DupOutcome
handed_up s d = goes_on (map (λ e. lines.Deliver e.0 e.1) d.packets) (record s { receiver = d.after })

abbrev pub received : List ℕ → DupRun → Option ℕ → DupOutcome
received packet s None = goes_on (lines.DropDuplicate ∷ []) s
received packet s (Some count) =
    if is_duplicate s.receiver count then goes_on (lines.DropDuplicate ∷ []) s else handed_up s (deliver (stored s.receiver count packet))

abbrev pub carried_one : SnBits → Leg → DupRun → LegItems → List (ℕ × List ℕ) → DupOutcome
carried_one sn leg s items [] = refused Empty s
carried_one sn leg s items (e ∷ es) =
    lines_first (got sn leg e ∷ [])
    (received e.1 (with_items leg (record { carried = items.carried ++ e.0 ∷ []; coming = es }) s)
    (near_count sn s.receiver.deliv (e.0 % space sn)))

abbrev pub carry : SnBits → Leg → DupRun → DupOutcome
carry sn leg s = carried_one sn leg s (items_of leg s) (items_of leg s).coming

-- ---- the oldest carried item is confirmed: items up to its COUNT are taken off the other leg

abbrev pub and_then : DupOutcome → (DupRun → DupOutcome) → DupOutcome
and_then (goes_on printed s) more = lines_first printed (more s)
and_then counts_spent more = counts_spent

abbrev pub loses_up_to : Leg → Option ℕ → DupRun → DupOutcome
loses_up_to leg None s = goes_on [] s
loses_up_to leg (Some count) s = lose_to leg count s

abbrev pub confirmed_one : SnBits → ℕ → Leg → DupRun → LegItems → List ℕ → DupOutcome
confirmed_one sn quota leg s items [] = refused Empty s
confirmed_one sn quota leg s items (count ∷ counts) =
    let number = count % space sn in
    and_then
    (loses_up_to (other leg) (count_below sn s.entity.sender.next number) (with_items leg (record items { carried = counts }) s))
    (λ t. puts_out sn t (confirmed sn quota number t.entity))

abbrev pub confirm : SnBits → ℕ → Leg → DupRun → DupOutcome
confirm sn quota leg s = confirmed_one sn quota leg s (items_of leg s) (items_of leg s).carried

-- ---- legs and modes

abbrev pub where_up : Leg → DupRun → DupOutcome → DupOutcome
where_up leg s does = if is_up s.entity leg then does else refused Down s

unfoldable pub fails : SnBits → Leg → DupRun → DupOutcome
fails sn leg s = where_up leg s (and_then (lose_all leg s) (λ t. puts_out sn t (leg_is leg false t.entity)))

unfoldable pub mends : SnBits → Leg → DupRun → DupOutcome
mends sn leg s = if is_up s.entity leg then refused Up s else puts_out sn s (leg_is leg true s.entity)

-- a leg that the new mode lacks loses all that it holds
abbrev pub leaves : Mode → Leg → DupRun → DupOutcome
leaves mode leg s = if in_mode mode leg then goes_on [] s else lose_all leg s

abbrev pub same_mode : Mode → Mode → Bool
same_mode modes.Both modes.Both = true
same_mode modes.First modes.First = true
same_mode modes.Second modes.Second = true
same_mode a b = false

unfoldable pub changes_mode : SnBits → Mode → DupRun → DupOutcome
changes_mode sn mode s =
    if same_mode mode s.entity.mode then refused Same s else
    (and_then (and_then (leaves mode legs.First s) (leaves mode legs.Second)) (λ t. puts_out sn t (mode_is mode t.entity)))

-- ---- the question

abbrev pub holds_nothing : LegItems → Bool
holds_nothing items = size_of items == 0

abbrev pub is_quiet : DupRun → Bool
is_quiet s = rests s.entity && holds_nothing s.first && holds_nothing s.second

abbrev pub asked : DupRun → DupOutcome
asked s = goes_on ((if is_quiet s then lines.Quiet s.receiver.deliv else lines.Busy) ∷ []) s

-- ---- what is outstanding: from the least COUNT that is undelivered or stands on a leg, up to the last that was given

abbrev pub undelivered : DupRun → List ℕ
undelivered s = if nat_lt s.receiver.deliv s.entity.sender.next then s.receiver.deliv ∷ [] else []

abbrev pub counts_on : LegItems → List ℕ
counts_on items = items.carried ++ map (λ e. e.0) items.coming

abbrev pub outstanding : DupRun → List ℕ
outstanding s = undelivered s ++ counts_on s.first ++ counts_on s.second

abbrev pub span_from : ℕ → List ℕ → ℕ
span_from next [] = 0
span_from next (count ∷ counts) = next - fold min count counts

unfoldable pub span : DupRun → ℕ
span s = span_from s.entity.sender.next (outstanding s)

-- The rules of a sound transcript. Each says what a line may show after the lines before it; where a line breaks several
-- rules, the first counts.
use Rattle.std.specs.Prelude.{◌≡◌, ◌⊎◌, ℕ, ◌+◌, ◌-◌, ◌≤◌, List, [], ◌∷◌, length, Some, slice_get}
use Rattle.gnb_types.specs.declared.names.Dir.TheVariants.{Dl, Ul}
use Rattle.gnb_types.specs.declared.keys.EntityKey.{EntityKey}
use Rattle.unit_defs.specs.Ways.{Message as ControlMessage}
use Rattle.scenario_text.specs.declared.event.Event.{Event}
use Rattle.scenario_text.specs.declared.line.Link.{Link}
use Rattle.scenario_text.specs.declared.line.Link.TheVariants.{Tunnel, Radio}
use Rattle.scenario_text.specs.declared.line.Item.{Item}
use Rattle.scenario_text.specs.declared.line.OutLine.TheVariants as lines
use Rattle.transcript_defs.specs.declared.line.TextLine.{TextLine}
use Rattle.transcript_defs.specs.declared.line.TextLine.TheVariants.{Printed, OutstandingWide}
use Rattle.transcript_defs.specs.declared.rule.Rule.{Rule}
use Rattle.transcript_defs.specs.declared.rule.Rule.TheVariants as rules
use Rattle.transcript_defs.specs.Past.{events_of, accepted, offered, standing, messages, delivered}
use Rattle.transcript_defs.specs.Packets.{Reading, packet_in, FitsCount, IsOfCount, IsAmong, IsAtReceiver, key_of}

-- ---- form

-- the last line of a text
abbrev pub IsLast : TextLine → Type 0
IsLast (Printed (lines.End events)) = Unit {0}
IsLast (Printed (lines.Stop code place reason)) = Unit {0}
IsLast line = ⊥

abbrev pub IsFirst : TextLine → Type 0
IsFirst (Printed (lines.Happens event)) = Unit {0}
IsFirst line = IsLast line

abbrev pub IsStop : TextLine → Type 0
IsStop (Printed (lines.Stop code place reason)) = Unit {0}
IsStop line = ⊥

-- nothing follows the last line, and a stop alone follows an `outstanding`
abbrev pub MayFollow : List TextLine → TextLine → Type 0
MayFollow [] line = IsFirst line
MayFollow (Printed (lines.End events) ∷ past) line = ⊥
MayFollow (Printed (lines.Stop code place reason) ∷ past) line = ⊥
MayFollow (Printed (lines.Outstanding ue bearer dir span window) ∷ past) line = IsStop line
MayFollow (OutstandingWide ue bearer dir span window ∷ past) line = IsStop line
MayFollow (other ∷ past) line = Unit {0}

-- `end` has the number of events
abbrev pub CountsEvents : List TextLine → TextLine → Type 0
CountsEvents past (Printed (lines.End events)) = events ≡ events_of past
CountsEvents past line = Unit {0}

-- ---- wire

-- a tunnel loses no more items than stand on it; a radio loses all, however many
abbrev pub CanLose : List TextLine → Link → ℕ → Type 0
CanLose past (Tunnel end teid) items = items ≤ length (standing (Tunnel end teid) past)
CanLose past (Radio ue bearer dir epoch) items = Unit {0}

-- what is taken is the oldest item that stands on the link; control messages are numbered 1, 2, .. in the order in which they are put, and
-- what is given is the message of that number
abbrev pub IsOnWire : List TextLine → TextLine → Type 0
IsOnWire past (Printed (lines.Got link item)) = slice_get (standing link past) 0 ≡ Some item
IsOnWire past (Printed (lines.PutMessage message)) = message.number ≡ length (messages past) + 1
IsOnWire past (Printed (lines.GotMessage message)) = slice_get (messages past) (message.number - 1) ≡ Some message
IsOnWire past (Printed (lines.Lost link items)) = CanLose past link items
IsOnWire past line = Unit {0}

-- ---- packet, count

abbrev pub IsReadable : List TextLine → TextLine → Type 0
IsReadable past (Printed (lines.Put link item)) = Reading (accepted (Printed (lines.Put link item)) past) link item
IsReadable past line = Unit {0}

-- What an item says fits its COUNT. An item without a reading breaks an earlier rule: a put has none, or what is taken wasn't put.
abbrev pub ReadsWithCount : List Event → Link → Item → Type 0
ReadsWithCount happened link item =
    (reading : Reading happened link item)
    × FitsCount (offered (key_of item) happened) reading.plan.sn item.count reading.says

abbrev pub ShowsCount : List TextLine → TextLine → Type 0
ShowsCount past (Printed (lines.Put link item)) = ReadsWithCount (accepted (Printed (lines.Put link item)) past) link item
ShowsCount past (Printed (lines.Got link item)) = ReadsWithCount (accepted (Printed (lines.Got link item)) past) link item
ShowsCount past (Printed (lines.Deliver ue bearer dir count packet)) =
    IsOfCount (offered (record { ue = ue; bearer = bearer; dir = dir }) (accepted (Printed (lines.Deliver ue bearer dir count packet)) past)) count (Some packet)
ShowsCount past line = Unit {0}

-- ---- order

-- so many packets were offered, and so many were delivered
abbrev pub AreDelivered : List Event → List TextLine → EntityKey → ℕ → Type 0
AreDelivered happened past key number = (number ≡ length (offered key happened)) × (number ≡ length (delivered key past))

-- a delivery is of the next COUNT; a quiet bearer has delivered all
abbrev pub IsInOrder : List TextLine → TextLine → Type 0
IsInOrder past (Printed (lines.Deliver ue bearer dir count packet)) =
    count ≡ length (delivered (record { ue = ue; bearer = bearer; dir = dir }) past)
IsInOrder past (Printed (lines.Quiet ue bearer downlink uplink)) =
    AreDelivered (accepted (Printed (lines.Quiet ue bearer downlink uplink)) past) past (record { ue = ue; bearer = bearer; dir = Dl }) downlink
    × AreDelivered (accepted (Printed (lines.Quiet ue bearer downlink uplink)) past) past (record { ue = ue; bearer = bearer; dir = Ul }) uplink
IsInOrder past line = Unit {0}

-- ---- seen

-- the packet of an item was offered before
abbrev pub CarriesOffered : List Event → Link → Item → Type 0
CarriesOffered happened link item =
    (reading : Reading happened link item) × IsAmong (offered (key_of item) happened) (packet_in reading.says)

-- the item was taken by the receiver, shows this COUNT and carries this packet
pub record Brings (happened : List Event) (link : Link) (item : Item) (count : ℕ) (packet : List ℕ) : Type 0 where
  pub receiver : IsAtReceiver link item.dir
  pub count_is : item.count ≡ Some count
  pub reading : Reading happened link item
  pub packet_is : packet_in reading.says ≡ Some packet

-- the line takes an item of the bearer and direction that brings the packet with that COUNT
abbrev pub Receives : EntityKey → ℕ → List ℕ → List TextLine → TextLine → Type 0
Receives key count packet past (Printed (lines.Got link item)) =
    (key_of item ≡ key) × Brings (accepted (Printed (lines.Got link item)) past) link item count packet
Receives key count packet past line = ⊥

abbrev pub WasReceived : EntityKey → ℕ → List ℕ → List TextLine → Type 0
WasReceived key count packet [] = ⊥
WasReceived key count packet (line ∷ past) = Receives key count packet past line ⊎ WasReceived key count packet past

abbrev pub WasSeen : List TextLine → TextLine → Type 0
WasSeen past (Printed (lines.Put link item)) = CarriesOffered (accepted (Printed (lines.Put link item)) past) link item
WasSeen past (Printed (lines.Deliver ue bearer dir count packet)) =
    WasReceived (record { ue = ue; bearer = bearer; dir = dir }) count packet past
WasSeen past line = Unit {0}

-- ---- spelling

-- How control messages are spelled is an argument, as it is of a run, so that this crate needs no codec.
abbrev pub Spelling : Type 0
Spelling = ControlMessage (List ℕ) → List ℕ

-- a control message is the spelling of some message, whatever its ends are
abbrev pub IsSpelled : Spelling → TextLine → Type 0
IsSpelled encode (Printed (lines.PutMessage message)) = (control : ControlMessage (List ℕ)) × (encode control ≡ message.bytes)
IsSpelled encode line = Unit {0}

-- ---- all rules

-- what stands at a place of a text
pub data AtPlace : Type 0 where
  a_line : (line : TextLine) → AtPlace
  -- a text that isn't a line
  no_line : AtPlace
  the_end : AtPlace

abbrev pub KeepsForm : List TextLine → AtPlace → Type 0
KeepsForm past (a_line line) = MayFollow past line × CountsEvents past line
KeepsForm past no_line = ⊥
KeepsForm past the_end = Unit {0}

-- the text may end after these lines
abbrev pub IsFinished : List TextLine → Type 0
IsFinished [] = ⊥
IsFinished (line ∷ past) = IsLast line

abbrev pub KeepsEnd : List TextLine → AtPlace → Type 0
KeepsEnd past the_end = IsFinished past
KeepsEnd past place = Unit {0}

-- a rule that speaks of lines alone
abbrev pub OfLine : (TextLine → Type 0) → AtPlace → Type 0
OfLine Holds (a_line line) = Holds line
OfLine Holds place = Unit {0}

abbrev pub Keeps : Spelling → Rule → List TextLine → AtPlace → Type 0
Keeps encode rules.Form past place = KeepsForm past place
Keeps encode rules.Wire past place = OfLine (IsOnWire past) place
Keeps encode rules.Packet past place = OfLine (IsReadable past) place
Keeps encode rules.Count past place = OfLine (ShowsCount past) place
Keeps encode rules.Order past place = OfLine (IsInOrder past) place
Keeps encode rules.Seen past place = OfLine (WasSeen past) place
Keeps encode rules.Spelling past place = OfLine (IsSpelled encode) place
Keeps encode rules.End past place = KeepsEnd past place

-- the number under which a broken rule is reported
abbrev pub rule_number : Rule → ℕ
rule_number rules.Form = 1
rule_number rules.Wire = 2
rule_number rules.Packet = 3
rule_number rules.Count = 4
rule_number rules.Order = 5
rule_number rules.Seen = 6
rule_number rules.Spelling = 7
rule_number rules.End = 8

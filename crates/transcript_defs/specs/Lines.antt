-- The lines of a transcript as text: names in their ranges, numbers of their types, octets.
use Rattle.std.specs.Prelude.{◌≡◌, ℕ, ◌++◌, ◌^◌, ◌<◌, ◌≤◌, List, All, length, Option, Some, None, codes}
use Rattle.std.specs.List.{AllByRecursion}
use Rattle.std.specs.Fmt.{decimal}
use Rattle.gnb_types.specs.Names.{ue_text, bearer_text, dir_text}
use Rattle.gnb_types.specs.declared.reasons.HeldReason.{HeldReason}
use Rattle.gnb_types.specs.declared.reasons.HeldReason.TheVariants as helds
use Rattle.scenario_text.specs.script_words.Ranges.{IsWithin, IsUe, IsBearer, IsNode, IsTunnel}
use Rattle.scenario_text.specs.script_words.Forms.{greatest_number}
use Rattle.scenario_text.specs.declared.line.Link.{Link}
use Rattle.scenario_text.specs.declared.line.Link.TheVariants.{Tunnel, Radio}
use Rattle.scenario_text.specs.declared.line.Item.{Item}
use Rattle.scenario_text.specs.declared.line.Message.{Message}
use Rattle.scenario_text.specs.declared.line.OutLine.{OutLine}
use Rattle.scenario_text.specs.declared.line.OutLine.TheVariants as lines
use Rattle.scenario_text.specs.Texts.{InRange}
use Rattle.scenario_text.specs.Print.{◌then◌, line_text}
use Rattle.transcript_defs.specs.declared.line.TextLine.{TextLine}
use Rattle.transcript_defs.specs.declared.line.TextLine.TheVariants.{Printed, LostMore, OutstandingWide}

-- ---- ranges of the lines that `run` can print

abbrev pub AreBytes : List ℕ → Type 0
AreBytes bytes = All (λ b. b < 256) bytes

abbrev pub IsLink : Link → Type 0
IsLink (Tunnel end teid) = IsTunnel (end, teid)
IsLink (Radio ue bearer dir epoch) = IsUe ue × IsBearer bearer × (epoch < 2 ^ 32)

abbrev pub IsCount : Option ℕ → Type 0
IsCount None = Unit {0}
IsCount (Some count) = count < 2 ^ 32

pub record IsItem (item : Item) : Type 0 where
  pub ue : IsUe item.ue
  pub bearer : IsBearer item.bearer
  pub count : IsCount item.count
  pub bytes : AreBytes item.bytes

-- number 0 stands for no terminal
pub record IsMessage (message : Message) : Type 0 where
  pub number : IsWithin 1 greatest_number message.number
  pub sender : IsNode message.from
  pub receiver : IsNode message.to
  pub ue : message.ue ≤ 16
  pub bytes : AreBytes message.bytes

abbrev pub IsLine : OutLine → Type 0
IsLine (lines.Happens event) = InRange event
IsLine (lines.Put link item) = IsLink link × IsItem item
IsLine (lines.Got link item) = IsLink link × IsItem item
IsLine (lines.PutMessage message) = IsMessage message
IsLine (lines.GotMessage message) = IsMessage message
IsLine (lines.Deliver ue bearer dir count packet) = IsUe ue × IsBearer bearer × (count < 2 ^ 32) × AreBytes packet
IsLine (lines.Lost link items) = IsLink link × (items < 2 ^ 64)
IsLine (lines.LostMessage message) = IsWithin 1 greatest_number message
IsLine (lines.Drop node reason) = IsNode node
IsLine (lines.Held link reason) = IsLink link
IsLine (lines.Failed node ue cause) = IsNode node × IsUe ue
IsLine (lines.Quiet ue bearer downlink uplink) = IsUe ue × IsBearer bearer × (downlink < 2 ^ 64) × (uplink < 2 ^ 64)
IsLine (lines.Busy ue bearer) = IsUe ue × IsBearer bearer
IsLine (lines.Settled rounds) = rounds < 2 ^ 64
IsLine (lines.Unsettled rounds) = rounds < 2 ^ 64
IsLine (lines.Refused reason) = Unit {0}
IsLine (lines.Outstanding ue bearer dir span window) = IsUe ue × IsBearer bearer × (span < 2 ^ 64) × (window < 2 ^ 32)
IsLine (lines.End events) = events < 2 ^ 64
IsLine (lines.Stop code place reason) = (code < 2 ^ 8) × (place < 2 ^ 64) × (reason < 2 ^ 16)

abbrev pub AreLines : List OutLine → Type 0
AreLines transcript = AllByRecursion IsLine transcript

-- ---- what a line says beyond its ranges

-- an item on a radio is of the radio's bearer and direction
abbrev pub IsOfLink : Link → Item → Type 0
IsOfLink (Tunnel end teid) item = Unit {0}
IsOfLink (Radio ue bearer dir epoch) item = (item.ue ≡ ue) × (item.bearer ≡ bearer) × (item.dir ≡ dir)

-- octets are never missing: an item, a control message and a packet have at least one
abbrev pub HasOctets : List ℕ → Type 0
HasOctets octets = 0 < length octets

-- on a radio an item is held for one reason alone
abbrev pub IsHeldOn : Link → HeldReason → Type 0
IsHeldOn (Tunnel end teid) reason = Unit {0}
IsHeldOn (Radio ue bearer dir epoch) reason = reason ≡ helds.Ahead

abbrev pub IsWhole : OutLine → Type 0
IsWhole (lines.Put link item) = IsOfLink link item × HasOctets item.bytes
IsWhole (lines.Got link item) = IsOfLink link item × HasOctets item.bytes
IsWhole (lines.PutMessage message) = HasOctets message.bytes
IsWhole (lines.GotMessage message) = HasOctets message.bytes
IsWhole (lines.Deliver ue bearer dir count packet) = HasOctets packet
IsWhole (lines.Lost link items) = 0 < items
IsWhole (lines.Held link reason) = IsHeldOn link reason
IsWhole line = Unit {0}

-- ---- texts

unfoldable pub text_of : TextLine → List ℕ
text_of (Printed line) = line_text line
text_of (LostMore message items) = codes "lost" then (codes "#" ++ decimal message) then decimal items
text_of (OutstandingWide ue bearer dir span window) =
    codes "outstanding" then ue_text ue then bearer_text bearer then dir_text dir then decimal span then decimal window

abbrev pub IsProper : TextLine → Type 0
IsProper (Printed line) = IsLine line × IsWhole line
IsProper (LostMore message items) = IsWithin 1 greatest_number message × (2 ≤ items) × (items < 2 ^ 64)
IsProper (OutstandingWide ue bearer dir span window) =
    IsUe ue × IsBearer bearer × (span < 2 ^ 64) × (2 ^ 32 ≤ window) × (window < 2 ^ 64)

-- The text is this line of a transcript; a text of which no line is said so is none.
pub record IsLineOf (text : List ℕ) (line : TextLine) : Type 0 where
  pub text_is : text ≡ text_of line
  pub proper : IsProper line

-- How a text is read as a line of a transcript: hexadecimal digits of either case are read, so a text is the line where the line is
-- written as the text.
use Rattle.std.specs.Prelude.{ℕ, ◌==◌, ◌&&◌, ◌-◌, ◌^◌, Bool, true, false, List, [], ◌∷◌, drop, Option, Result, Ok, Err, codes, nat_lt, if◌then◌else◌}
use Rattle.std.specs.List.{find}
use Rattle.std.specs.Option.{ok_or}
use Rattle.gnb_types.specs.declared.names.Dir.{Dir}
use Rattle.gnb_types.specs.declared.names.Dir.TheVariants.{Dl, Ul}
use Rattle.gnb_types.specs.declared.names.UeId.{UeId}
use Rattle.gnb_types.specs.declared.names.BearerId.{BearerId}
use Rattle.gnb_types.specs.declared.reasons.HeldReason.{HeldReason}
use Rattle.gnb_types.specs.declared.reasons.HeldReason.TheVariants as helds
use Rattle.scenario_text.specs.declared.script_words.reason.TextReason.{TextReason}
use Rattle.scenario_text.specs.declared.script_words.reason.TextReason.TheVariants.{Word, Name}
use Rattle.scenario_text.specs.script_words.Forms.{words, ◌is◌, ◌begins◌, greatest_number}
use Rattle.scenario_text.specs.script_words.Places.{AtUe, AtBearer, AtNode, AtDir, AtMessage, AtHex, next_word, result_then}
use Rattle.scenario_text.specs.Grammar.{names_message, event_of}
use Rattle.scenario_text.specs.declared.line.Link.{Link}
use Rattle.scenario_text.specs.declared.line.Link.TheVariants.{Tunnel, Radio}
use Rattle.scenario_text.specs.declared.line.Item.{Item}
use Rattle.scenario_text.specs.declared.line.Message.{Message}
use Rattle.scenario_text.specs.declared.line.OutLine.{OutLine}
use Rattle.scenario_text.specs.declared.line.OutLine.TheVariants as lines
use Rattle.transcript_defs.specs.declared.line.TextLine.{TextLine}
use Rattle.transcript_defs.specs.declared.line.TextLine.TheVariants.{Printed, LostMore, OutstandingWide}
use Rattle.transcript_lines.specs.declared.lines.forms.Keyword.{Keyword}
use Rattle.transcript_lines.specs.declared.lines.forms.Keyword.TheVariants as keywords
use Rattle.transcript_lines.specs.inside.Fields.{Field, OfEvent, OfNumber, OfOwner, OfCount, OfLink, OfDrop, OfHeld, OfCause, OfRefusal, ValuesOf, read_into}

-- ---- keywords

abbrev pub keyword_text : Keyword → List ℕ
keyword_text keywords.Put = codes "put"
keyword_text keywords.Got = codes "got"
keyword_text keywords.Deliver = codes "deliver"
keyword_text keywords.Lost = codes "lost"
keyword_text keywords.Drop = codes "drop"
keyword_text keywords.Held = codes "held"
keyword_text keywords.Failed = codes "failed"
keyword_text keywords.Quiet = codes "quiet"
keyword_text keywords.Busy = codes "busy"
keyword_text keywords.Settled = codes "settled"
keyword_text keywords.Unsettled = codes "unsettled"
keyword_text keywords.Refused = codes "refused"
keyword_text keywords.Outstanding = codes "outstanding"
keyword_text keywords.End = codes "end"
keyword_text keywords.Stop = codes "stop"

abbrev pub all_keywords : List Keyword
all_keywords =
    keywords.Put ∷ keywords.Got ∷ keywords.Deliver ∷ keywords.Lost ∷ keywords.Drop ∷ keywords.Held ∷ keywords.Failed
    ∷ keywords.Quiet ∷ keywords.Busy ∷ keywords.Settled ∷ keywords.Unsettled ∷ keywords.Refused ∷ keywords.Outstanding
    ∷ keywords.End ∷ keywords.Stop ∷ []

unfoldable pub keyword_of : List ℕ → Option Keyword
keyword_of word = find (λ k. word is keyword_text k) all_keywords

-- ---- forms

-- the fields after a keyword, and what their values make
pub record LineForm (Y : Type 0) : Type 0 where
  pub fields : List Field
  pub make : ValuesOf fields → Result Y TextReason

-- what words mean in a form
abbrev pub read_form : {Y : Type 0} → LineForm Y → List (List ℕ) → Result Y TextReason
read_form form left = read_into form.fields form.make left

abbrev pub greatest_count : ℕ
greatest_count = 2 ^ 64 - 1

abbrev pub printed : OutLine → Result TextLine TextReason
printed line = Ok (Printed line)

abbrev pub same_dir : Dir → Dir → Bool
same_dir Dl Dl = true
same_dir Ul Ul = true
same_dir a b = false

-- an item on a radio is of the radio's bearer and direction
abbrev pub is_of_link : Link → Item → Bool
is_of_link (Tunnel end teid) item = true
is_of_link (Radio ue bearer dir epoch) item = item.ue.0 == ue.0 && item.bearer.0 == bearer.0 && same_dir item.dir dir

abbrev pub item_on : Link → Item → Result (Link × Item) TextReason
item_on link item = if is_of_link link item then Ok (link, item) else Err Name

-- `LINK uU bB DIR C HEX`
abbrev pub item_form : LineForm (Link × Item)
item_form = record {
  fields = OfLink ∷ OfEvent AtUe ∷ OfEvent AtBearer ∷ OfEvent AtDir ∷ OfCount ∷ OfEvent AtHex ∷ [];
  make = λ (link, (ue, (bearer, (dir, (count, (bytes, end)))))).
      item_on link (record { ue = ue; bearer = bearer; dir = dir; count = count; bytes = bytes });
}

-- `#M FROM TO uU HEX`
abbrev pub message_form : LineForm Message
message_form = record {
  fields = OfEvent AtMessage ∷ OfEvent AtNode ∷ OfEvent AtNode ∷ OfOwner ∷ OfEvent AtHex ∷ [];
  make = λ (number, (from, (to, (ue, (bytes, end))))). Ok (record { number = number; from = from; to = to; ue = ue; bytes = bytes });
}

-- `uU bB DIR C HEX`
abbrev pub deliver_form : LineForm TextLine
deliver_form = record {
  fields = OfEvent AtUe ∷ OfEvent AtBearer ∷ OfEvent AtDir ∷ OfNumber 0 greatest_number ∷ OfEvent AtHex ∷ [];
  make = λ (ue, (bearer, (dir, (count, (packet, end))))). printed (lines.Deliver ue bearer dir count packet);
}

-- `LINK N`
abbrev pub lost_items_form : LineForm TextLine
lost_items_form = record {
  fields = OfLink ∷ OfNumber 1 greatest_count ∷ [];
  make = λ (link, (items, end)). printed (lines.Lost link items);
}

-- `run` prints that one message was lost
abbrev pub lost_message : ℕ → ℕ → TextLine
lost_message message items = if items == 1 then Printed (lines.LostMessage message) else LostMore message items

-- `#M N`
abbrev pub lost_message_form : LineForm TextLine
lost_message_form = record {
  fields = OfEvent AtMessage ∷ OfNumber 1 greatest_count ∷ [];
  make = λ (message, (items, end)). Ok (lost_message message items);
}

-- `NODE REASON`
abbrev pub drop_form : LineForm TextLine
drop_form = record { fields = OfEvent AtNode ∷ OfDrop ∷ []; make = λ (node, (reason, end)). printed (lines.Drop node reason) }

-- on a radio an item is held for one reason alone
abbrev pub is_held_on : Link → HeldReason → Bool
is_held_on (Tunnel end teid) reason = true
is_held_on (Radio ue bearer dir epoch) helds.Ahead = true
is_held_on (Radio ue bearer dir epoch) reason = false

abbrev pub held_on : Link → HeldReason → Result TextLine TextReason
held_on link reason = if is_held_on link reason then printed (lines.Held link reason) else Err Word

-- `LINK REASON`
abbrev pub held_form : LineForm TextLine
held_form = record { fields = OfLink ∷ OfHeld ∷ []; make = λ (link, (reason, end)). held_on link reason }

-- `NODE uU CAUSE`
abbrev pub failed_form : LineForm TextLine
failed_form = record {
  fields = OfEvent AtNode ∷ OfEvent AtUe ∷ OfCause ∷ [];
  make = λ (node, (ue, (cause, end))). printed (lines.Failed node ue cause);
}

-- `uU bB DL UL`
abbrev pub quiet_form : LineForm TextLine
quiet_form = record {
  fields = OfEvent AtUe ∷ OfEvent AtBearer ∷ OfNumber 0 greatest_count ∷ OfNumber 0 greatest_count ∷ [];
  make = λ (ue, (bearer, (downlink, (uplink, end)))). printed (lines.Quiet ue bearer downlink uplink);
}

-- `uU bB`
abbrev pub busy_form : LineForm TextLine
busy_form = record { fields = OfEvent AtUe ∷ OfEvent AtBearer ∷ []; make = λ (ue, (bearer, end)). printed (lines.Busy ue bearer) }

-- `N`
abbrev pub number_form : (ℕ → OutLine) → LineForm TextLine
number_form line = record { fields = OfNumber 0 greatest_count ∷ []; make = λ (number, end). printed (line number) }

-- `REASON`
abbrev pub refused_form : LineForm TextLine
refused_form = record { fields = OfRefusal ∷ []; make = λ (reason, end). printed (lines.Refused reason) }

-- `run` prints a window of 32 bits
abbrev pub outstanding_line : UeId → BearerId → Dir → ℕ → ℕ → TextLine
outstanding_line ue bearer dir span window =
    if nat_lt window (2 ^ 32) then Printed (lines.Outstanding ue bearer dir span window) else OutstandingWide ue bearer dir span window

-- `uU bB DIR SPAN W`
abbrev pub outstanding_form : LineForm TextLine
outstanding_form = record {
  fields = OfEvent AtUe ∷ OfEvent AtBearer ∷ OfEvent AtDir ∷ OfNumber 0 greatest_count ∷ OfNumber 0 greatest_count ∷ [];
  make = λ (ue, (bearer, (dir, (span, (window, end))))). Ok (outstanding_line ue bearer dir span window);
}

-- `CODE PLACE REASON`
abbrev pub stop_form : LineForm TextLine
stop_form = record {
  fields = OfNumber 0 (2 ^ 8 - 1) ∷ OfNumber 0 greatest_count ∷ OfNumber 0 (2 ^ 16 - 1) ∷ [];
  make = λ (code, (place, (reason, end))). printed (lines.Stop code place reason);
}

-- ---- lines

-- a message or an item that is put or got
abbrev pub moved : (Link → Item → OutLine) → (Message → OutLine) → List (List ℕ) → Result TextLine TextReason
moved of_item of_message left =
    if names_message left then result_then (read_form message_form left) (λ message. printed (of_message message))
    else result_then (read_form item_form left) (λ read. printed (of_item read.0 read.1))

abbrev pub lost : List (List ℕ) → Result TextLine TextReason
lost left = if names_message left then read_form lost_message_form left else read_form lost_items_form left

-- the line of a keyword and the words after it
unfoldable pub keyword_line : Keyword → List (List ℕ) → Result TextLine TextReason
keyword_line keywords.Put left = moved lines.Put lines.PutMessage left
keyword_line keywords.Got left = moved lines.Got lines.GotMessage left
keyword_line keywords.Deliver left = read_form deliver_form left
keyword_line keywords.Lost left = lost left
keyword_line keywords.Drop left = read_form drop_form left
keyword_line keywords.Held left = read_form held_form left
keyword_line keywords.Failed left = read_form failed_form left
keyword_line keywords.Quiet left = read_form quiet_form left
keyword_line keywords.Busy left = read_form busy_form left
keyword_line keywords.Settled left = read_form (number_form lines.Settled) left
keyword_line keywords.Unsettled left = read_form (number_form lines.Unsettled) left
keyword_line keywords.Refused left = read_form refused_form left
keyword_line keywords.Outstanding left = read_form outstanding_form left
keyword_line keywords.End left = read_form (number_form lines.End) left
keyword_line keywords.Stop left = read_form stop_form left

-- the line of a first word and those after it
abbrev pub words_line : List ℕ × List (List ℕ) → Result TextLine TextReason
words_line next = result_then (ok_or (keyword_of next.0) Word) (λ keyword. keyword_line keyword next.1)

-- the event after `> `
abbrev pub event_line : List ℕ → Result TextLine TextReason
event_line text = result_then (event_of text) (λ event. printed (lines.Happens event))

-- what a text is read as
unfoldable pub line_of : List ℕ → Result TextLine TextReason
line_of text = if text begins codes "> " then event_line (drop 2 text) else result_then (next_word (words text)) words_line

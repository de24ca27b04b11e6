-- The words of a transcript's line: those that events have too, and those that lines alone have.
use Rattle.std.specs.Prelude.{ℕ, ◌≤◌, ◌==◌, ◌++◌, List, [], ◌∷◌, drop, Option, Some, None, Result, Ok, codes, if◌then◌else◌}
use Rattle.std.specs.List.{find, before_first, after_first}
use Rattle.std.specs.Option.{ok_or, option_map}
use Rattle.std.specs.Fmt.{decimal}
use Rattle.gnb_types.specs.Reasons.{drop_text, held_text, cause_text, refuse_text}
use Rattle.gnb_types.specs.declared.reasons.DropReason.{DropReason}
use Rattle.gnb_types.specs.declared.reasons.DropReason.TheVariants as drops
use Rattle.gnb_types.specs.declared.reasons.HeldReason.{HeldReason}
use Rattle.gnb_types.specs.declared.reasons.HeldReason.TheVariants as helds
use Rattle.gnb_types.specs.declared.reasons.CauseName.{CauseName}
use Rattle.gnb_types.specs.declared.reasons.CauseName.TheVariants as causes
use Rattle.gnb_types.specs.declared.reasons.RefuseReason.{RefuseReason}
use Rattle.gnb_types.specs.declared.reasons.RefuseReason.TheVariants as refuses
use Rattle.scenario_text.specs.declared.script_words.reason.TextReason.{TextReason}
use Rattle.scenario_text.specs.declared.script_words.reason.TextReason.TheVariants.{Word, Number, Name}
use Rattle.scenario_text.specs.script_words.Forms.{◌is◌, ◌begins◌, Form, greatest_number, number_of, number, ue, bearer, dir, tunnel}
use Rattle.scenario_text.specs.script_words.Places.{Place, Meaning, read_word, word_text, InPlace, result_then, place, line_end}
use Rattle.scenario_text.specs.script_words.Ranges.{IsWithin}
use Rattle.scenario_text.specs.declared.line.Link.{Link}
use Rattle.scenario_text.specs.declared.line.Link.TheVariants.{Tunnel, Radio}
use Rattle.scenario_text.specs.Print.{link_text, count_text}
use Rattle.transcript_defs.specs.Lines.{IsLink, IsCount}

-- ---- words of lines alone

-- the terminal of a control message: `u0` to `u16`, where 0 stands for none
abbrev pub owner_of : List ℕ → Option ℕ
owner_of word = if word begins codes "u" then number_of 0 16 (drop 1 word) else None

-- a COUNT, or `-`
abbrev pub count_of : List ℕ → Option (Option ℕ)
count_of word = if word is codes "-" then Some None else option_map (λ n. Some n) (number_of 0 greatest_number word)

-- before and after the first slash
abbrev pub front_of : List ℕ → List ℕ
front_of text = before_first (λ c. c == 47) text

abbrev pub after_of : List ℕ → List ℕ
after_of text = after_first (λ c. c == 47) text

-- what stands after `r/`: `uU/bB/DIR/EPOCH`
abbrev pub radio : Form Link
radio text =
    result_then (ue (front_of text)) (λ u. result_then (bearer (front_of (after_of text))) (λ b.
    result_then (dir (front_of (after_of (after_of text)))) (λ d.
    result_then (number 0 greatest_number (after_of (after_of (after_of text)))) (λ e. Ok (Radio u b d e)))))

abbrev pub link : Form Link
link word = if word begins codes "r/" then radio (drop 2 word) else result_then (tunnel word) (λ t. Ok (Tunnel t.0 t.1))

-- ---- reasons

abbrev pub all_drops : List DropReason
all_drops =
    drops.Undecodable ∷ drops.Criticality ∷ drops.NoContext ∷ drops.NoTunnel ∷ drops.Stale ∷ drops.Busy
    ∷ drops.Duplicate ∷ drops.Gap ∷ drops.Unexpected ∷ []

unfoldable pub drop_of : List ℕ → Option DropReason
drop_of word = find (λ r. word is drop_text r) all_drops

abbrev pub all_helds : List HeldReason
all_helds = helds.Quota ∷ helds.Ahead ∷ helds.NoStatus ∷ helds.NotArrived ∷ helds.Early ∷ []

unfoldable pub held_of : List ℕ → Option HeldReason
held_of word = find (λ r. word is held_text r) all_helds

abbrev pub all_causes : List CauseName
all_causes = causes.Quota ∷ causes.Busy ∷ causes.Unit ∷ causes.Timeout ∷ []

unfoldable pub cause_of : List ℕ → Option CauseName
cause_of word = find (λ r. word is cause_text r) all_causes

abbrev pub all_refusals : List RefuseReason
all_refusals =
    refuses.Attached ∷ refuses.NotStarted ∷ refuses.NoBearer ∷ refuses.NoPath ∷ refuses.Size ∷ refuses.Quota
    ∷ refuses.NoSuch ∷ refuses.Empty ∷ refuses.NoRadio ∷ refuses.NotAllowed ∷ refuses.NoUe ∷ refuses.NotAccessing
    ∷ refuses.NoHome ∷ refuses.Busy ∷ refuses.Same ∷ refuses.TooLate ∷ refuses.NoLink ∷ refuses.Decodable ∷ []

unfoldable pub refusal_of : List ℕ → Option RefuseReason
refusal_of word = find (λ r. word is refuse_text r) all_refusals

-- ---- fields

pub data Field : Type 0 where
  OfEvent : Place → Field  -- a word that events have too
  OfNumber : (low high : ℕ) → Field  -- plain decimal
  OfOwner : Field  -- `u0` to `u16`
  OfCount : Field  -- a COUNT or `-`
  OfLink : Field  -- as `A.up1/1`, and `r/u1/b1/dl/1`
  OfDrop : Field  -- a reason of `drop`
  OfHeld : Field  -- a reason of `held`
  OfCause : Field  -- a cause of `failed`
  OfRefusal : Field  -- a reason of `refused`

abbrev pub ValueOf : Field → Type 0
ValueOf (OfEvent p) = Meaning p
ValueOf (OfNumber low high) = ℕ
ValueOf OfOwner = ℕ
ValueOf OfCount = Option ℕ
ValueOf OfLink = Link
ValueOf OfDrop = DropReason
ValueOf OfHeld = HeldReason
ValueOf OfCause = CauseName
ValueOf OfRefusal = RefuseReason

-- what a word means there
abbrev pub read_field : (f : Field) → Form (ValueOf f)
read_field (OfEvent p) word = read_word p word
read_field (OfNumber low high) word = number low high word
read_field OfOwner word = ok_or (owner_of word) Name
read_field OfCount word = ok_or (count_of word) Number
read_field OfLink word = link word
read_field OfDrop word = ok_or (drop_of word) Word
read_field OfHeld word = ok_or (held_of word) Word
read_field OfCause word = ok_or (cause_of word) Word
read_field OfRefusal word = ok_or (refusal_of word) Word

-- how a value is written there
abbrev pub field_text : (f : Field) → ValueOf f → List ℕ
field_text (OfEvent p) x = word_text p x
field_text (OfNumber low high) n = decimal n
field_text OfOwner n = codes "u" ++ decimal n
field_text OfCount count = count_text count
field_text OfLink link = link_text link
field_text OfDrop reason = drop_text reason
field_text OfHeld reason = held_text reason
field_text OfCause cause = cause_text cause
field_text OfRefusal reason = refuse_text reason

-- which values stand there
abbrev pub InField : (f : Field) → ValueOf f → Type 0
InField (OfEvent p) x = InPlace p x
InField (OfNumber low high) n = IsWithin low high n
InField OfOwner n = n ≤ 16
InField OfCount count = IsCount count
InField OfLink link = IsLink link
InField OfDrop reason = Unit {0}
InField OfHeld reason = Unit {0}
InField OfCause cause = Unit {0}
InField OfRefusal reason = Unit {0}

-- ---- fields in a row

abbrev pub ValuesOf : List Field → Type 0
ValuesOf [] = Unit {0}
ValuesOf (f ∷ fields) = ValueOf f × ValuesOf fields

abbrev pub InFields : (fields : List Field) → ValuesOf fields → Type 0
InFields [] values = Unit {0}
InFields (f ∷ fields) values = InField f values.0 × InFields fields values.1

abbrev pub field_words : (fields : List Field) → ValuesOf fields → List (List ℕ)
field_words [] values = []
field_words (f ∷ fields) values = field_text f values.0 ∷ field_words fields values.1

-- the words of these fields and no more, and what is made of their values
abbrev pub read_into : {Y : Type 0} → (fields : List Field) → (ValuesOf fields → Result Y TextReason) → List (List ℕ) → Result Y TextReason
read_into [] make left = result_then (line_end left) (λ end. make tt)
read_into (f ∷ fields) make left =
    result_then (place (read_field f) left) (λ read. read_into fields (λ values. make (read.0, values)) read.1)

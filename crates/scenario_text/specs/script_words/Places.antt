-- Words that stand at places: what a word means at each kind of place, which words mean a value, and how a value is written.
-- An event is a keyword and a list of places; whoever reads further commands takes these places.
use Rattle.std.specs.Prelude.{◌≡◌, ℕ, List, [], ◌∷◌, ◌++◌, Result, Ok, Err, codes}
use Rattle.std.specs.Fmt.{decimal}
use Rattle.gnb_types.specs.Hex.{hex_of, IsHexOf}
use Rattle.gnb_types.specs.Names.{gnb_text, node_text, ue_text, bearer_text, dir_text}
use Rattle.gnb_types.specs.declared.names.Gnb.{Gnb}
use Rattle.gnb_types.specs.declared.names.Dir.{Dir}
use Rattle.gnb_types.specs.declared.names.SnBits.{SnBits}
use Rattle.gnb_types.specs.declared.names.SnBits.TheVariants.{Len12, Len18}
use Rattle.gnb_types.specs.declared.names.NodeId.{NodeId}
use Rattle.gnb_types.specs.declared.names.UeId.{UeId}
use Rattle.gnb_types.specs.declared.names.BearerId.{BearerId}
use Rattle.scenario_text.specs.declared.script_words.reason.TextReason.{TextReason}
use Rattle.scenario_text.specs.declared.script_words.reason.TextReason.TheVariants.{Word, Extra}
use Rattle.scenario_text.specs.script_words.Forms.{greatest_number, Form, gnb, ue, bearer, node, dir, number, sn_bits, message, tunnel, hex}
use Rattle.scenario_text.specs.script_words.Ranges.{IsWithin, IsUe, IsBearer, IsNode, IsPacket, IsTunnel}

pub data Place : Type 0 where
  AtUe : Place  -- `u1` to `u16`
  AtBearer : Place  -- `b1` to `b8`
  AtGnb : Place  -- `A` or `B`
  AtNode : Place  -- as `A.up1`
  AtDir : Place  -- `dl` or `ul`
  AtNumber : (low high : ℕ) → Place  -- plain decimal
  AtSnBits : Place  -- `12` or `18`
  AtMessage : Place  -- `#M`
  AtTunnel : Place  -- `NODE/TEID`
  AtHex : Place  -- hexadecimal digits of a packet

abbrev pub Meaning : Place → Type 0
Meaning AtUe = UeId
Meaning AtBearer = BearerId
Meaning AtGnb = Gnb
Meaning AtNode = NodeId
Meaning AtDir = Dir
Meaning (AtNumber low high) = ℕ
Meaning AtSnBits = SnBits
Meaning AtMessage = ℕ
Meaning AtTunnel = NodeId × ℕ
Meaning AtHex = List ℕ

-- what a word means there
abbrev pub read_word : (p : Place) → Form (Meaning p)
read_word AtUe = ue
read_word AtBearer = bearer
read_word AtGnb = gnb
read_word AtNode = node
read_word AtDir = dir
read_word (AtNumber low high) = number low high
read_word AtSnBits = sn_bits
read_word AtMessage = message
read_word AtTunnel = tunnel
read_word AtHex = hex

-- how a value is written there
abbrev pub sn_bits_text : SnBits → List ℕ
sn_bits_text Len12 = codes "12"
sn_bits_text Len18 = codes "18"

abbrev pub word_text : (p : Place) → Meaning p → List ℕ
word_text AtUe ue = ue_text ue
word_text AtBearer bearer = bearer_text bearer
word_text AtGnb gnb = gnb_text gnb
word_text AtNode node = node_text node
word_text AtDir dir = dir_text dir
word_text (AtNumber low high) n = decimal n
word_text AtSnBits bits = sn_bits_text bits
word_text AtMessage n = codes "#" ++ decimal n
word_text AtTunnel tunnel = node_text tunnel.0 ++ codes "/" ++ decimal tunnel.1
word_text AtHex bytes = hex_of bytes

-- which values stand there
abbrev pub InPlace : (p : Place) → Meaning p → Type 0
InPlace AtUe ue = IsUe ue
InPlace AtBearer bearer = IsBearer bearer
InPlace AtGnb _ = Unit {0}
InPlace AtNode node = IsNode node
InPlace AtDir _ = Unit {0}
InPlace (AtNumber low high) n = IsWithin low high n
InPlace AtSnBits _ = Unit {0}
InPlace AtMessage n = IsWithin 1 greatest_number n
InPlace AtTunnel tunnel = IsTunnel tunnel
InPlace AtHex bytes = IsPacket bytes

-- the word is a text of the value: hexadecimal digits of either case, any other value in its one way
abbrev pub IsWordOf : (p : Place) → List ℕ → Meaning p → Type 0
IsWordOf AtHex word bytes = IsHexOf word bytes
IsWordOf p word value = word ≡ word_text p value

-- ---- places in a row

-- a value for each place
abbrev pub Values : List Place → Type 0
Values [] = Unit {0}
Values (p ∷ places) = Meaning p × Values places

-- how they are written, a word each
abbrev pub value_words : (places : List Place) → Values places → List (List ℕ)
value_words [] values = []
value_words (p ∷ places) values = word_text p values.0 ∷ value_words places values.1

abbrev pub InPlaces : (places : List Place) → Values places → Type 0
InPlaces [] values = Unit {0}
InPlaces (p ∷ places) values = InPlace p values.0 × InPlaces places values.1

-- the words are texts of the values, one each
abbrev pub AreWordsOf : (places : List Place) → List (List ℕ) → Values places → Type 0
AreWordsOf [] [] values = Unit {0}
AreWordsOf [] (word ∷ rest) values = ⊥
AreWordsOf (p ∷ places) [] values = ⊥
AreWordsOf (p ∷ places) (word ∷ rest) values = IsWordOf p word values.0 × AreWordsOf places rest values.1

-- ---- reading

-- the next word, and those after it
abbrev pub next_word : List (List ℕ) → Result (List ℕ × List (List ℕ)) TextReason
next_word [] = Err Word
next_word (word ∷ rest) = Ok (word, rest)

abbrev pub result_then : {X Y : Type 0} → Result X TextReason → (X → Result Y TextReason) → Result Y TextReason
result_then (Ok x) more = more x
result_then (Err reason) more = Err reason

-- one place: a word of the form, and its value beside the words after it
abbrev pub place : {X : Type 0} → Form X → List (List ℕ) → Result (X × List (List ℕ)) TextReason
place form left = result_then (next_word left) (λ next. result_then (form next.0) (λ x. Ok (x, next.1)))

-- no word is left
abbrev pub line_end : List (List ℕ) → Result (Unit {0}) TextReason
line_end [] = Ok tt
line_end (word ∷ rest) = Err Extra

-- the words of these places and no more, from the left: the first wrong one decides the reason
abbrev pub read_into : {Y : Type 0} → (places : List Place) → (Values places → Y) → List (List ℕ) → Result Y TextReason
read_into [] make left = result_then (line_end left) (λ end. Ok (make tt))
read_into (p ∷ places) make left =
    result_then (place (read_word p) left) (λ read. read_into places (λ values. make (read.0, values)) read.1)

abbrev pub read_places : (places : List Place) → List (List ℕ) → Result (Values places) TextReason
read_places places left = read_into places (λ values. values) left

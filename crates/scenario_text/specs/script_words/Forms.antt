-- Words with one blank between two of them, and what a word may be: a number, a name, a direction, hexadecimal digits.
use Rattle.std.specs.Prelude.{◌≡◌, ℕ, ◌-◌, ◌^◌, ◌==◌, ◌&&◌, ◌||◌, not, Bool, List, [], ◌∷◌, length, take, drop, slice_index, Option, Some, None, Result, Ok, Err, codes, nat_lt, nat_le, if◌then◌else◌}
use Rattle.std.specs.List.{list_all, slice_split, before_first, after_first}
use Rattle.std.specs.Option.{ok_or, option_map}
use Rattle.std.specs.Char.{is_ascii_digit}
use Rattle.std.specs.Str.{bytes_eq}
use Rattle.std.specs.Str.Parse.{digits_value}
use Rattle.gnb_types.specs.Hex.{read_hex}
use Rattle.gnb_types.specs.declared.names.Gnb.{Gnb}
use Rattle.gnb_types.specs.declared.names.Gnb.TheVariants.{A, B}
use Rattle.gnb_types.specs.declared.names.Dir.{Dir}
use Rattle.gnb_types.specs.declared.names.Dir.TheVariants.{Dl, Ul}
use Rattle.gnb_types.specs.declared.names.SnBits.{SnBits}
use Rattle.gnb_types.specs.declared.names.SnBits.TheVariants.{Len12, Len18}
use Rattle.gnb_types.specs.declared.names.NodeId.{NodeId}
use Rattle.gnb_types.specs.declared.names.NodeId.TheVariants.{CuCp, CuUp, Du, Core, Ue}
use Rattle.gnb_types.specs.declared.names.UeId.{UeId}
use Rattle.gnb_types.specs.declared.names.BearerId.{BearerId}
use Rattle.scenario_text.specs.declared.script_words.reason.TextReason.{TextReason}
use Rattle.scenario_text.specs.declared.script_words.reason.TextReason.TheVariants.{Word, Number, Hex, Name}

-- the words of a line; two blanks in a row make an empty word
abbrev pub words : List ℕ → List (List ℕ)
words line = slice_split (λ c. c == 32) line

-- the word is this text
infixl 6 ◌is◌
abbrev pub ◌is◌ : List ℕ → List ℕ → Bool
word is text = bytes_eq word text

-- the word begins with this text
infixl 6 ◌begins◌
abbrev pub ◌begins◌ : List ℕ → List ℕ → Bool
word begins text = bytes_eq (take (length text) word) text

-- What a word means, or the reason reported for it.
abbrev pub Form : Type 0 → Type 0
Form X = List ℕ → Result X TextReason

-- this word and no other
abbrev pub fixed : List ℕ → TextReason → Form (Unit {0})
fixed text reason word = if word is text then Ok tt else Err reason

-- ---- numbers

-- digits alone, at least one, and no leading zero
abbrev pub is_plain : List ℕ → Bool
is_plain word = nat_lt 0 (length word) && list_all is_ascii_digit word && (not (slice_index word 0 == 48) || length word == 1)

-- a number from low to high in plain decimal
abbrev pub number_of : ℕ → ℕ → List ℕ → Option ℕ
number_of low high word =
    if is_plain word && nat_le low (digits_value 10 word) && nat_le (digits_value 10 word) high then Some (digits_value 10 word) else None

-- a TEID or the number of a message
abbrev pub greatest_number : ℕ
greatest_number = 2 ^ 32 - 1

-- `12` or `18`: the bits of a sequence number
abbrev pub sn_bits_of : List ℕ → Option SnBits
sn_bits_of word = if word is codes "12" then Some Len12 else (if word is codes "18" then Some Len18 else None)

-- `#M`, a message by its number
abbrev pub message_of : List ℕ → Option ℕ
message_of word = if word begins codes "#" then number_of 1 greatest_number (drop 1 word) else None

-- ---- names and directions

-- `A` or `B`
abbrev pub gnb_of : List ℕ → Option Gnb
gnb_of word = if word is codes "A" then Some A else (if word is codes "B" then Some B else None)

-- `u1` to `u16`
abbrev pub ue_of : List ℕ → Option UeId
ue_of word = if word begins codes "u" then option_map (λ n. record { 0 = n }) (number_of 1 16 (drop 1 word)) else None

-- `b1` to `b8`
abbrev pub bearer_of : List ℕ → Option BearerId
bearer_of word = if word begins codes "b" then option_map (λ n. record { 0 = n }) (number_of 1 8 (drop 1 word)) else None

-- a unit of a gNB after its letter and the dot: `cp`, `up1`, `up2`, `du1` or `du2`
abbrev pub unit_of : Gnb → List ℕ → Option NodeId
unit_of gnb word =
    if word is codes "cp" then Some (CuCp gnb) else
    (if word begins codes "up" then option_map (λ n. CuUp gnb n) (number_of 1 2 (drop 2 word)) else
    (if word begins codes "du" then option_map (λ n. Du gnb n) (number_of 1 2 (drop 2 word)) else None))

-- a unit of a gNB, the core, or a terminal
abbrev pub node_of : List ℕ → Option NodeId
node_of word =
    if word is codes "core" then Some Core else
    (if word begins codes "u" then option_map (λ n. Ue n) (number_of 1 16 (drop 1 word)) else
    (if word begins codes "A." then unit_of A (drop 2 word) else
    (if word begins codes "B." then unit_of B (drop 2 word) else None)))

-- `dl` or `ul`
abbrev pub dir_of : List ℕ → Option Dir
dir_of word = if word is codes "dl" then Some Dl else (if word is codes "ul" then Some Ul else None)

-- ---- forms

abbrev pub number : ℕ → ℕ → Form ℕ
number low high word = ok_or (number_of low high word) Number

abbrev pub sn_bits : Form SnBits
sn_bits word = ok_or (sn_bits_of word) Number

abbrev pub message : Form ℕ
message word = ok_or (message_of word) Number

abbrev pub gnb : Form Gnb
gnb word = ok_or (gnb_of word) Name

abbrev pub ue : Form UeId
ue word = ok_or (ue_of word) Name

abbrev pub bearer : Form BearerId
bearer word = ok_or (bearer_of word) Name

abbrev pub node : Form NodeId
node word = ok_or (node_of word) Name

abbrev pub dir : Form Dir
dir word = ok_or (dir_of word) Word

-- an even number of hexadecimal digits of either case, at least two
abbrev pub hex : Form (List ℕ)
hex word = if nat_lt 0 (length word) then ok_or (read_hex word) Hex else Err Hex

-- both values, or the first reason
abbrev pub both : {X Y : Type 0} → Result X TextReason → Result Y TextReason → Result (X × Y) TextReason
both (Ok x) (Ok y) = Ok (x, y)
both (Ok x) (Err reason) = Err reason
both (Err reason) y = Err reason

-- `NODE/TEID`; after a missing slash stands no number
abbrev pub tunnel : Form (NodeId × ℕ)
tunnel word = both (node (before_first (λ c. c == 47) word)) (number 1 greatest_number (after_first (λ c. c == 47) word))

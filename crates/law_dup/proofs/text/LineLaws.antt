-- A line's text is read back as the line.
use Rattle.std.proofs.Common.{◌≡◌, ℕ, ◌<◌, ◌^◌, cond, List, Option, Some, None, [], ◌∷◌, refl, ap, ◌∙◌, arith, nat_eq, codes}
use Rattle.std.specs.Fmt.{decimal}
use Rattle.std.specs.List.{find, slice_split, join_with_byte}
use Rattle.gnb_types.specs.Hex.{hex_of, read_hex}
use Rattle.gnb_types.proofs.HexLemmas.{hex_of_is_hex}
use Rattle.scenario_text.specs.script_words.Forms.{◌is◌}
use Rattle.transcript_defs.specs.Lines.{AreBytes}
use Rattle.proof_transcript_lines.proofs.Solid.{Solid, solid-decimal, solid-hex, AllSolid, solid_words}
use Rattle.proof_transcript_lines.proofs.ReadLines.{opt_then, then_some, count_of, count_of-decimal, hex_back, same_some}
use Rattle.dup_defs.specs.declared.types.leg.Leg.{Leg}
use Rattle.dup_defs.specs.declared.types.leg.Leg.TheVariants as legs
use Rattle.dup_defs.specs.declared.types.line.DupLine.{DupLine}
use Rattle.dup_defs.specs.declared.types.line.DupLine.TheVariants as lines
use Rattle.dup_defs.specs.declared.types.line.DupRefusal.{DupRefusal}
use Rattle.dup_defs.specs.declared.types.line.DupRefusal.TheVariants as refusals
use Rattle.dup.specs.text.Print.{leg_name, refusal_text, line_text}
use Rattle.law_dup.specs.text.Lines.{IsLine}

-- ---- legs and reasons

leg_named : List ℕ → Option Leg
leg_named word = find (λ leg. word is leg_name leg) (legs.First ∷ legs.Second ∷ [])

leg_back : (leg : Leg) → leg_named (leg_name leg) ≡ Some leg
unfolding leg_named
leg_back legs.First = refl
leg_back legs.Second = refl

leg_solid : (leg : Leg) → Solid (leg_name leg)
leg_solid legs.First = refl
leg_solid legs.Second = refl

all_refusals : List DupRefusal
all_refusals = refusals.Size ∷ refusals.Quota ∷ refusals.Down ∷ refusals.Empty ∷ refusals.Up ∷ refusals.Same ∷ []

refusal_of : List ℕ → Option DupRefusal
refusal_of word = find (λ r. word is refusal_text r) all_refusals

refusal_back : (r : DupRefusal) → refusal_of (refusal_text r) ≡ Some r
unfolding refusal_of all_refusals
refusal_back refusals.Size = refl
refusal_back refusals.Quota = refl
refusal_back refusals.Down = refl
refusal_back refusals.Empty = refl
refusal_back refusals.Up = refl
refusal_back refusals.Same = refl

refusal_solid : (r : DupRefusal) → Solid (refusal_text r)
refusal_solid refusals.Size = refl
refusal_solid refusals.Quota = refl
refusal_solid refusals.Down = refl
refusal_solid refusals.Empty = refl
refusal_solid refusals.Up = refl
refusal_solid refusals.Same = refl

-- ---- the line of its words

moved : (Leg → ℕ → List ℕ → DupLine) → List (List ℕ) → Option DupLine
moved line (l ∷ c ∷ h ∷ []) = opt_then (leg_named l) (λ leg. opt_then (count_of c) (λ count. opt_then (read_hex h) (λ pdu. Some (line leg count pdu))))
moved line words = None

delivered : List (List ℕ) → Option DupLine
delivered (c ∷ h ∷ []) = opt_then (count_of c) (λ count. opt_then (read_hex h) (λ packet. Some (lines.Deliver count packet)))
delivered words = None

dropped : List (List ℕ) → Option DupLine
dropped (word ∷ []) = cond (word is codes "Duplicate") (Some lines.DropDuplicate) None
dropped words = None

lost : List (List ℕ) → Option DupLine
lost (l ∷ n ∷ []) = opt_then (leg_named l) (λ leg. opt_then (count_of n) (λ items. Some (lines.Lost leg items)))
lost words = None

refused : List (List ℕ) → Option DupLine
refused (word ∷ []) = opt_then (refusal_of word) (λ reason. Some (lines.Refused reason))
refused words = None

quiet : List (List ℕ) → Option DupLine
quiet (n ∷ []) = opt_then (count_of n) (λ packets. Some (lines.Quiet packets))
quiet words = None

busy : List (List ℕ) → Option DupLine
busy [] = Some lines.Busy
busy (word ∷ words) = None

outstanding : List (List ℕ) → Option DupLine
outstanding (s ∷ w ∷ []) = opt_then (count_of s) (λ span. opt_then (count_of w) (λ window. Some (lines.Outstanding span window)))
outstanding words = None

line_of_words : List (List ℕ) → Option DupLine
line_of_words [] = None
line_of_words (word ∷ rest) =
    cond (word is codes "put") (moved lines.Put rest)
    (cond (word is codes "got") (moved lines.Got rest)
    (cond (word is codes "deliver") (delivered rest)
    (cond (word is codes "drop") (dropped rest)
    (cond (word is codes "lost") (lost rest)
    (cond (word is codes "refused") (refused rest)
    (cond (word is codes "quiet") (quiet rest)
    (cond (word is codes "busy") (busy rest)
    (cond (word is codes "outstanding") (outstanding rest) None))))))))

line_of : List ℕ → Option DupLine
line_of text = line_of_words (slice_split (λ x. nat_eq x 32) text)

-- a text of words from which the line is read back
record ReadsBack (line : DupLine) (text : List ℕ) : Type 0 where
  word : List ℕ
  rest : List (List ℕ)
  words_are : text ≡ join_with_byte 32 (word ∷ rest)
  solid_word : Solid word
  solid_rest : AllSolid rest
  tell : line_of_words (word ∷ rest) ≡ Some line

reads_back : (line : DupLine) (text : List ℕ) → ReadsBack line text → line_of text ≡ Some line
unfolding line_of
reads_back line text h =
    ap line_of_words (ap (slice_split (λ x. nat_eq x 32)) h.words_are ∙ solid_words h.word h.rest h.solid_word h.solid_rest) ∙ h.tell

-- ---- of each line

hex_solid : (bytes : List ℕ) → AreBytes bytes → Solid (hex_of bytes)
hex_solid bytes h = solid-hex (hex_of bytes) bytes (hex_of_is_hex bytes h)

count_solid : (n : ℕ) → n < 2 ^ 32 → Solid (decimal n)
count_solid n h = solid-decimal n (omega (arith, h))

count_back : (n : ℕ) → n < 2 ^ 32 → count_of (decimal n) ≡ Some n
count_back n h = count_of-decimal n (omega (arith, h))

moved_back : (line : Leg → ℕ → List ℕ → DupLine) (leg : Leg) (count : ℕ) (pdu : List ℕ) → count < 2 ^ 32 → AreBytes pdu
    → moved line (leg_name leg ∷ decimal count ∷ hex_of pdu ∷ []) ≡ Some (line leg count pdu)
unfolding moved
moved_back line leg count pdu k l =
    then_some (leg_back leg) (λ e. opt_then (count_of (decimal count)) (λ c. opt_then (read_hex (hex_of pdu)) (λ p. Some (line e c p))))
    ∙ then_some (count_back count k) (λ c. opt_then (read_hex (hex_of pdu)) (λ p. Some (line leg c p)))
    ∙ then_some (hex_back pdu l) (λ p. Some (line leg count p))

line_reads : (line : DupLine) → IsLine line → ReadsBack line (line_text line)
unfolding line_text line_of_words delivered dropped lost refused quiet busy outstanding
line_reads (lines.Put leg count pdu) h = record {
  word = codes "put";
  rest = leg_name leg ∷ decimal count ∷ hex_of pdu ∷ [];
  words_are = refl;
  solid_word = refl;
  solid_rest = (leg_solid leg, (count_solid count h.0, (hex_solid pdu h.1, tt)));
  tell = moved_back lines.Put leg count pdu h.0 h.1;
}
line_reads (lines.Got leg count pdu) h = record {
  word = codes "got";
  rest = leg_name leg ∷ decimal count ∷ hex_of pdu ∷ [];
  words_are = refl;
  solid_word = refl;
  solid_rest = (leg_solid leg, (count_solid count h.0, (hex_solid pdu h.1, tt)));
  tell = moved_back lines.Got leg count pdu h.0 h.1;
}
line_reads (lines.Deliver count packet) h = record {
  word = codes "deliver";
  rest = decimal count ∷ hex_of packet ∷ [];
  words_are = refl;
  solid_word = refl;
  solid_rest = (count_solid count h.0, (hex_solid packet h.1, tt));
  tell = then_some (count_back count h.0) (λ c. opt_then (read_hex (hex_of packet)) (λ p. Some (lines.Deliver c p)))
      ∙ then_some (hex_back packet h.1) (λ p. Some (lines.Deliver count p));
}
line_reads lines.DropDuplicate h = record {
  word = codes "drop";
  rest = codes "Duplicate" ∷ [];
  words_are = refl;
  solid_word = refl;
  solid_rest = (refl, tt);
  tell = refl;
}
line_reads (lines.Lost leg items) h = record {
  word = codes "lost";
  rest = leg_name leg ∷ decimal items ∷ [];
  words_are = refl;
  solid_word = refl;
  solid_rest = (leg_solid leg, (count_solid items h, tt));
  tell = then_some (leg_back leg) (λ l. opt_then (count_of (decimal items)) (λ n. Some (lines.Lost l n)))
      ∙ then_some (count_back items h) (λ n. Some (lines.Lost leg n));
}
line_reads (lines.Refused reason) h = record {
  word = codes "refused";
  rest = refusal_text reason ∷ [];
  words_are = refl;
  solid_word = refl;
  solid_rest = (refusal_solid reason, tt);
  tell = then_some (refusal_back reason) (λ r. Some (lines.Refused r));
}
line_reads (lines.Quiet packets) h = record {
  word = codes "quiet";
  rest = decimal packets ∷ [];
  words_are = refl;
  solid_word = refl;
  solid_rest = (count_solid packets h, tt);
  tell = then_some (count_back packets h) (λ n. Some (lines.Quiet n));
}
line_reads lines.Busy h = record {
  word = codes "busy";
  rest = [];
  words_are = refl;
  solid_word = refl;
  solid_rest = tt;
  tell = refl;
}
line_reads (lines.Outstanding span window) h = record {
  word = codes "outstanding";
  rest = decimal span ∷ decimal window ∷ [];
  words_are = refl;
  solid_word = refl;
  solid_rest = (count_solid span h.0, (count_solid window h.1, tt));
  tell = then_some (count_back span h.0) (λ s. opt_then (count_of (decimal window)) (λ w. Some (lines.Outstanding s w)))
      ∙ then_some (count_back window h.1) (λ w. Some (lines.Outstanding span w));
}

line_back : (line : DupLine) → IsLine line → line_of (line_text line) ≡ Some line
line_back line h = reads_back line (line_text line) (line_reads line h)

-- No two lines have one text.
pub one_line : (a b : DupLine) → IsLine a → IsLine b → line_text a ≡ line_text b → a ≡ b
one_line a b h k e = same_some (line_of (line_text a)) a b (line_back a h) (ap line_of e ∙ line_back b k)

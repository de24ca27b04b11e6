-- A line's text is read back as the line.
use Rattle.std.proofs.Common.{◌≡◌, ℕ, ◌<◌, ◌^◌, cond, List, Option, Some, None, [], ◌∷◌, refl, ap, ◌∙◌, arith, nat_eq, codes}
use Rattle.std.specs.Fmt.{decimal}
use Rattle.std.specs.List.{slice_split, join_with_byte}
use Rattle.gnb_types.specs.Hex.{hex_of, read_hex}
use Rattle.gnb_types.proofs.HexLemmas.{hex_of_is_hex}
use Rattle.gnb_types.specs.Reasons.{refuse_text}
use Rattle.scenario_text.specs.script_words.Forms.{◌is◌, message_of}
use Rattle.transcript_defs.specs.Lines.{AreBytes}
use Rattle.proof_transcript_lines.proofs.Solid.{Solid, solid-append, solid-decimal, solid-hex, AllSolid, solid_words}
use Rattle.proof_transcript_lines.proofs.ReadLines.{opt_then, then_some, count_of, count_of-decimal, hex_back, refuse_of, refuse_back, refuse_solid, message_back, same_some}
use Rattle.um_defs.specs.declared.types.line.UmLine.{UmLine}
use Rattle.um_defs.specs.declared.types.line.UmLine.TheVariants as lines
use Rattle.um.specs.text.Print.{number_text, line_text}
use Rattle.law_um.specs.text.Lines.{IsMessage, IsLine}

-- ---- the line of its words

moved : (ℕ → ℕ → List ℕ → UmLine) → List (List ℕ) → Option UmLine
moved line (n ∷ c ∷ h ∷ []) = opt_then (message_of n) (λ number. opt_then (count_of c) (λ count. opt_then (read_hex h) (λ pdu. Some (line number count pdu))))
moved line words = None

delivered : List (List ℕ) → Option UmLine
delivered (c ∷ h ∷ []) = opt_then (count_of c) (λ count. opt_then (read_hex h) (λ packet. Some (lines.Deliver count packet)))
delivered words = None

of_message : (ℕ → UmLine) → List (List ℕ) → Option UmLine
of_message line (n ∷ word ∷ []) = opt_then (message_of n) (λ number. Some (line number))
of_message line words = None

dropped : List (List ℕ) → Option UmLine
dropped (word ∷ []) = cond (word is codes "Late") (Some lines.DropLate) (cond (word is codes "Duplicate") (Some lines.DropDuplicate) None)
dropped words = None

waiting : List (List ℕ) → Option UmLine
waiting (d ∷ n ∷ s ∷ []) = opt_then (count_of d) (λ deliv. opt_then (count_of n) (λ next. opt_then (count_of s) (λ stored. Some (lines.Waiting deliv next stored))))
waiting words = None

refused : List (List ℕ) → Option UmLine
refused (word ∷ []) = opt_then (refuse_of word) (λ reason. Some (lines.Refused reason))
refused words = None

outstanding : List (List ℕ) → Option UmLine
outstanding (s ∷ w ∷ []) = opt_then (count_of s) (λ span. opt_then (count_of w) (λ window. Some (lines.Outstanding span window)))
outstanding words = None

line_of_words : List (List ℕ) → Option UmLine
line_of_words [] = None
line_of_words (word ∷ rest) =
    cond (word is codes "put") (moved lines.Put rest)
    (cond (word is codes "got") (moved lines.Got rest)
    (cond (word is codes "lost") (of_message lines.Lost rest)
    (cond (word is codes "deliver") (delivered rest)
    (cond (word is codes "drop") (dropped rest)
    (cond (word is codes "held") (of_message lines.Held rest)
    (cond (word is codes "waiting") (waiting rest)
    (cond (word is codes "refused") (refused rest)
    (cond (word is codes "outstanding") (outstanding rest) None))))))))

line_of : List ℕ → Option UmLine
line_of text = line_of_words (slice_split (λ x. nat_eq x 32) text)

-- a text of words from which the line is read back
record ReadsBack (line : UmLine) (text : List ℕ) : Type 0 where
  word : List ℕ
  rest : List (List ℕ)
  words_are : text ≡ join_with_byte 32 (word ∷ rest)
  solid_word : Solid word
  solid_rest : AllSolid rest
  tell : line_of_words (word ∷ rest) ≡ Some line

reads_back : (line : UmLine) (text : List ℕ) → ReadsBack line text → line_of text ≡ Some line
unfolding line_of
reads_back line text h =
    ap line_of_words (ap (slice_split (λ x. nat_eq x 32)) h.words_are ∙ solid_words h.word h.rest h.solid_word h.solid_rest) ∙ h.tell

-- ---- of each line

message_solid : (n : ℕ) → IsMessage n → Solid (number_text n)
message_solid n h = solid-append (codes "#") (decimal n) refl (solid-decimal n (omega (arith, h.to)))

hex_solid : (bytes : List ℕ) → AreBytes bytes → Solid (hex_of bytes)
hex_solid bytes h = solid-hex (hex_of bytes) bytes (hex_of_is_hex bytes h)

count_solid : (n : ℕ) → n < 2 ^ 32 → Solid (decimal n)
count_solid n h = solid-decimal n (omega (arith, h))

count_back : (n : ℕ) → n < 2 ^ 32 → count_of (decimal n) ≡ Some n
count_back n h = count_of-decimal n (omega (arith, h))

moved_back : (line : ℕ → ℕ → List ℕ → UmLine) (number count : ℕ) (pdu : List ℕ) → IsMessage number → count < 2 ^ 32 → AreBytes pdu
    → moved line (number_text number ∷ decimal count ∷ hex_of pdu ∷ []) ≡ Some (line number count pdu)
unfolding moved
moved_back line number count pdu h k l =
    then_some (message_back number h) (λ n. opt_then (count_of (decimal count)) (λ c. opt_then (read_hex (hex_of pdu)) (λ p. Some (line n c p))))
    ∙ then_some (count_back count k) (λ c. opt_then (read_hex (hex_of pdu)) (λ p. Some (line number c p)))
    ∙ then_some (hex_back pdu l) (λ p. Some (line number count p))

line_reads : (line : UmLine) → IsLine line → ReadsBack line (line_text line)
unfolding line_text line_of_words delivered of_message dropped waiting refused outstanding
line_reads (lines.Put number count pdu) h = record {
  word = codes "put";
  rest = number_text number ∷ decimal count ∷ hex_of pdu ∷ [];
  words_are = refl;
  solid_word = refl;
  solid_rest = (message_solid number h.0, (count_solid count h.1, (hex_solid pdu h.2, tt)));
  tell = moved_back lines.Put number count pdu h.0 h.1 h.2;
}
line_reads (lines.Got number count pdu) h = record {
  word = codes "got";
  rest = number_text number ∷ decimal count ∷ hex_of pdu ∷ [];
  words_are = refl;
  solid_word = refl;
  solid_rest = (message_solid number h.0, (count_solid count h.1, (hex_solid pdu h.2, tt)));
  tell = moved_back lines.Got number count pdu h.0 h.1 h.2;
}
line_reads (lines.Lost number) h = record {
  word = codes "lost";
  rest = number_text number ∷ codes "1" ∷ [];
  words_are = refl;
  solid_word = refl;
  solid_rest = (message_solid number h, (refl, tt));
  tell = then_some (message_back number h) (λ n. Some (lines.Lost n));
}
line_reads (lines.Deliver count packet) h = record {
  word = codes "deliver";
  rest = decimal count ∷ hex_of packet ∷ [];
  words_are = refl;
  solid_word = refl;
  solid_rest = (count_solid count h.0, (hex_solid packet h.1, tt));
  tell = then_some (count_back count h.0) (λ c. opt_then (read_hex (hex_of packet)) (λ p. Some (lines.Deliver c p)))
      ∙ then_some (hex_back packet h.1) (λ p. Some (lines.Deliver count p));
}
line_reads lines.DropLate h = record {
  word = codes "drop";
  rest = codes "Late" ∷ [];
  words_are = refl;
  solid_word = refl;
  solid_rest = (refl, tt);
  tell = refl;
}
line_reads lines.DropDuplicate h = record {
  word = codes "drop";
  rest = codes "Duplicate" ∷ [];
  words_are = refl;
  solid_word = refl;
  solid_rest = (refl, tt);
  tell = refl;
}
line_reads (lines.Held number) h = record {
  word = codes "held";
  rest = number_text number ∷ codes "Ahead" ∷ [];
  words_are = refl;
  solid_word = refl;
  solid_rest = (message_solid number h, (refl, tt));
  tell = then_some (message_back number h) (λ n. Some (lines.Held n));
}
line_reads (lines.Waiting deliv next stored) h = record {
  word = codes "waiting";
  rest = decimal deliv ∷ decimal next ∷ decimal stored ∷ [];
  words_are = refl;
  solid_word = refl;
  solid_rest = (count_solid deliv h.0, (count_solid next h.1, (count_solid stored h.2, tt)));
  tell = then_some (count_back deliv h.0) (λ d. opt_then (count_of (decimal next)) (λ n. opt_then (count_of (decimal stored)) (λ s. Some (lines.Waiting d n s))))
      ∙ then_some (count_back next h.1) (λ n. opt_then (count_of (decimal stored)) (λ s. Some (lines.Waiting deliv n s)))
      ∙ then_some (count_back stored h.2) (λ s. Some (lines.Waiting deliv next s));
}
line_reads (lines.Refused reason) h = record {
  word = codes "refused";
  rest = refuse_text reason ∷ [];
  words_are = refl;
  solid_word = refl;
  solid_rest = (refuse_solid reason, tt);
  tell = then_some (refuse_back reason) (λ r. Some (lines.Refused r));
}
line_reads (lines.Outstanding span window) h = record {
  word = codes "outstanding";
  rest = decimal span ∷ decimal window ∷ [];
  words_are = refl;
  solid_word = refl;
  solid_rest = (count_solid span h.0, (count_solid window h.1, tt));
  tell = then_some (count_back span h.0) (λ s. opt_then (count_of (decimal window)) (λ w. Some (lines.Outstanding s w)))
      ∙ then_some (count_back window h.1) (λ w. Some (lines.Outstanding span w));
}

line_back : (line : UmLine) → IsLine line → line_of (line_text line) ≡ Some line
line_back line h = reads_back line (line_text line) (line_reads line h)

-- No two lines have one text.
pub one_line : (a b : UmLine) → IsLine a → IsLine b → line_text a ≡ line_text b → a ≡ b
one_line a b h k e = same_some (line_of (line_text a)) a b (line_back a h) (ap line_of e ∙ line_back b k)

-- Octets after the words of a line.
use Rattle.std.proofs.Common.{◌≡◌, ℕ, List, [], ◌∷◌, ◌++◌, Result, Ok, Err, ap, ◌∙◌, codes, append_assoc}
use Rattle.std.specs.Prelude.{IfOk}
use Rattle.std.specs.Fmt.{decimal}
use Rattle.gnb_types.specs.Hex.{hex_of}
use Rattle.um.specs.text.Print.{pdu_line, packet_line}
use Rattle.um.specs.text.inside.Fronts.{message_words, delivery_words}

whole : {E : Type 0} (r : Result (List ℕ) E) (a b : List ℕ) → a ≡ b → IfOk r (λ text. text ≡ a) → IfOk r (λ text. text ≡ b)
whole (Ok text) a b e h = h ∙ e
whole (Err error) a b e h = tt

delivery : (count : ℕ) (digits : List ℕ) → delivery_words count ++ digits ≡ codes "deliver " ++ decimal count ++ 32 ∷ digits
delivery count digits = ap (λ (t : List ℕ). codes "deliver " ++ t) (append_assoc (decimal count) (32 ∷ []) digits)

message : (word : List ℕ) (number count : ℕ) (digits : List ℕ)
    → message_words word number count ++ digits ≡ word ++ (32 ∷ (35 ∷ (decimal number ++ (32 ∷ (decimal count ++ (32 ∷ digits))))))
message word number count digits =
    let last = 32 ∷ digits in
    let second = 32 ∷ (decimal count ++ last) in
    append_assoc (word ++ codes " #" ++ decimal number ++ codes " " ++ decimal count) (32 ∷ []) digits
    ∙ append_assoc (word ++ codes " #" ++ decimal number ++ codes " ") (decimal count) last
    ∙ append_assoc (word ++ codes " #" ++ decimal number) (32 ∷ []) (decimal count ++ last)
    ∙ append_assoc (word ++ codes " #") (decimal number) second
    ∙ append_assoc word (codes " #") (decimal number ++ second)

pub message_line : {E : Type 0} (r : Result (List ℕ) E) (word front pdu : List ℕ) (number count : ℕ) → front ≡ message_words word number count
    → IfOk r (λ text. text ≡ front ++ hex_of pdu) → IfOk r (λ text. text ≡ pdu_line word number count pdu)
message_line r word front pdu number count e h =
    whole r (front ++ hex_of pdu) (pdu_line word number count pdu) (ap (λ (t : List ℕ). t ++ hex_of pdu) e ∙ message word number count (hex_of pdu)) h

pub delivery_line : {E : Type 0} (r : Result (List ℕ) E) (front packet : List ℕ) (count : ℕ) → front ≡ delivery_words count
    → IfOk r (λ text. text ≡ front ++ hex_of packet) → IfOk r (λ text. text ≡ packet_line count packet)
delivery_line r front packet count e h =
    whole r (front ++ hex_of packet) (packet_line count packet) (ap (λ (t : List ℕ). t ++ hex_of packet) e ∙ delivery count (hex_of packet)) h

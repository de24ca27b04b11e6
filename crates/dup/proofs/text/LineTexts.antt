-- Octets after the words of a line.
use Rattle.std.proofs.Common.{◌≡◌, ℕ, List, [], ◌∷◌, ◌++◌, Result, Ok, Err, ap, ◌∙◌, codes, append_assoc}
use Rattle.std.specs.Prelude.{IfOk}
use Rattle.std.specs.Fmt.{decimal}
use Rattle.gnb_types.specs.Hex.{hex_of}
use Rattle.dup_defs.specs.declared.types.leg.Leg.{Leg}
use Rattle.dup.specs.text.Arguments.{leg_text}
use Rattle.dup.specs.text.Print.{pdu_line, packet_line}
use Rattle.dup.specs.text.inside.Fronts.{pdu_words, delivery_words}

whole : {E : Type 0} (r : Result (List ℕ) E) (a b : List ℕ) → a ≡ b → IfOk r (λ text. text ≡ a) → IfOk r (λ text. text ≡ b)
whole (Ok text) a b e h = h ∙ e
whole (Err error) a b e h = tt

delivery : (count : ℕ) (digits : List ℕ) → delivery_words count ++ digits ≡ codes "deliver " ++ decimal count ++ 32 ∷ digits
delivery count digits = ap (λ (t : List ℕ). codes "deliver " ++ t) (append_assoc (decimal count) (32 ∷ []) digits)

pdu : (word : List ℕ) (leg : Leg) (count : ℕ) (digits : List ℕ)
    → pdu_words word leg count ++ digits ≡ word ++ (32 ∷ (76 ∷ (leg_text leg ++ (32 ∷ (decimal count ++ (32 ∷ digits))))))
pdu word leg count digits =
    let last = 32 ∷ digits in
    let second = 32 ∷ (decimal count ++ last) in
    append_assoc (word ++ codes " L" ++ leg_text leg ++ codes " " ++ decimal count) (32 ∷ []) digits
    ∙ append_assoc (word ++ codes " L" ++ leg_text leg ++ codes " ") (decimal count) last
    ∙ append_assoc (word ++ codes " L" ++ leg_text leg) (32 ∷ []) (decimal count ++ last)
    ∙ append_assoc (word ++ codes " L") (leg_text leg) second
    ∙ append_assoc word (codes " L") (leg_text leg ++ second)

pub pdu_text_is : {E : Type 0} (r : Result (List ℕ) E) (word front octets : List ℕ) (leg : Leg) (count : ℕ) → front ≡ pdu_words word leg count
    → IfOk r (λ text. text ≡ front ++ hex_of octets) → IfOk r (λ text. text ≡ pdu_line word leg count octets)
pdu_text_is r word front octets leg count e h =
    whole r (front ++ hex_of octets) (pdu_line word leg count octets) (ap (λ (t : List ℕ). t ++ hex_of octets) e ∙ pdu word leg count (hex_of octets)) h

pub delivery_line : {E : Type 0} (r : Result (List ℕ) E) (front packet : List ℕ) (count : ℕ) → front ≡ delivery_words count
    → IfOk r (λ text. text ≡ front ++ hex_of packet) → IfOk r (λ text. text ≡ packet_line count packet)
delivery_line r front packet count e h =
    whole r (front ++ hex_of packet) (packet_line count packet) (ap (λ (t : List ℕ). t ++ hex_of packet) e ∙ delivery count (hex_of packet)) h

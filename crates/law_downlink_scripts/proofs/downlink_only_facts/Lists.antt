-- Packets on a link, one after another.
use Rattle.std.proofs.Common.{◌≡◌, ℕ, ◌+◌, List, [], ◌∷◌, ◌++◌, length, refl, sym, ap, ◌∙◌, append_assoc, arith, false, Some}
use Rattle.unit_defs.specs.Ways.{Pdu, packet_pdu, Load, fresh, frame}
use Rattle.law_downlink_scripts.proofs.downlink_only_facts.Views.{pdus_from, frames_from, fresh_ones}

abbrev Packets : Type 0
Packets = List (List ℕ)

pub frames_append : (number count : ℕ) (xs ys : Packets)
    → frames_from number count (xs ++ ys) ≡ frames_from number count xs ++ frames_from (number + length xs) (count + length xs) ys
frames_append number count [] ys = λ i. frames_from (a i) (b i) ys
  where
    a : number ≡ number + 0
    a = omega arith

    b : count ≡ count + 0
    b = omega arith
frames_append number count (x ∷ xs) ys =
    ap (λ (ls : List (Load Pdu)). frame false false number (Some (packet_pdu count x)) ∷ ls) (frames_append (number + 1) (count + 1) xs ys
    ∙ (λ i. frames_from (number + 1) (count + 1) xs ++ frames_from (a i) (b i) ys))
  where
    a : number + 1 + length xs ≡ number + length (x ∷ xs)
    a = omega arith

    b : count + 1 + length xs ≡ count + length (x ∷ xs)
    b = omega arith

pub pdus_append : (count : ℕ) (xs ys : Packets) → pdus_from count (xs ++ ys) ≡ pdus_from count xs ++ pdus_from (count + length xs) ys
pdus_append count [] ys = let a : count ≡ count + 0 = omega arith in ap (λ c. pdus_from c ys) a
pdus_append count (x ∷ xs) ys =
    let a : count + 1 + length xs ≡ count + length (x ∷ xs) = omega arith in
    ap (λ (ls : List Pdu). packet_pdu count x ∷ ls) (pdus_append (count + 1) xs ys ∙ ap (λ c. pdus_from (count + 1) xs ++ pdus_from c ys) a)

pub fresh_append : (xs ys : Packets) → fresh_ones (xs ++ ys) ≡ fresh_ones xs ++ fresh_ones ys
fresh_append [] ys = refl
fresh_append (x ∷ xs) ys = ap (λ (ls : List (Load Pdu)). fresh x ∷ ls) (fresh_append xs ys)

-- a packet more waits, and the first of what waits are sent
pub sent_from : (aired framed waiting offered sent then_waiting : Packets) (p : List ℕ) → waiting ++ p ∷ [] ≡ sent ++ then_waiting
    → aired ++ (framed ++ (waiting ++ (p ∷ offered))) ≡ aired ++ ((framed ++ sent) ++ (then_waiting ++ offered))
sent_from aired framed waiting offered sent then_waiting p is =
    ap (λ (xs : Packets). aired ++ xs)
    (ap (λ (xs : Packets). framed ++ xs) (sym (append_assoc waiting (p ∷ []) offered) ∙ ap (λ (xs : Packets). xs ++ offered) is ∙ append_assoc sent then_waiting offered)
    ∙ sym (append_assoc framed sent (then_waiting ++ offered)))

pub sent_on : (aired framed waiting offered sent then_waiting : Packets) → waiting ≡ sent ++ then_waiting
    → aired ++ (framed ++ (waiting ++ offered)) ≡ aired ++ ((framed ++ sent) ++ (then_waiting ++ offered))
sent_on aired framed waiting offered sent then_waiting is =
    ap (λ (xs : Packets). aired ++ xs)
    (ap (λ (xs : Packets). framed ++ xs) (ap (λ (xs : Packets). xs ++ offered) is ∙ append_assoc sent then_waiting offered)
    ∙ sym (append_assoc framed sent (then_waiting ++ offered)))

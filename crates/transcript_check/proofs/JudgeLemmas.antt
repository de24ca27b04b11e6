-- The first rule that a line breaks.
use Rattle.std.proofs.Common.{◌≡◌, ◌<◌, ◌↔◌, ℕ, Bool, true, false, List, refl, sym, ◌∙◌, true≢false, arith}
use Rattle.std.specs.Prelude.{IsTrue}
use Rattle.transcript_defs.specs.declared.line.TextLine.{TextLine}
use Rattle.transcript_defs.specs.declared.rule.Rule.{Rule}
use Rattle.transcript_defs.specs.declared.rule.Rule.TheVariants as rules
use Rattle.transcript_defs.specs.Rules.{Spelling, a_line, KeepsForm, IsOnWire, IsReadable, ShowsCount, IsInOrder, WasSeen, IsSpelled, Keeps, rule_number}
use Rattle.transcript_check.specs.inside.Judge.{FirstBroken, first_failed}

pub unkept : (b : Bool) (P : Type 0) → (IsTrue b ↔ P) → b ≡ false → P → ⊥
unkept b P test is p = true≢false (sym (test.1 p) ∙ is)

-- the rules before number n are kept
pub kept_below : (encode : Spelling) (past : List TextLine) (line : TextLine) (n : ℕ)
    → (1 < n → KeepsForm past (a_line line)) → (2 < n → IsOnWire past line) → (3 < n → IsReadable past line) → (4 < n → ShowsCount past line)
    → (5 < n → IsInOrder past line) → (6 < n → WasSeen past line) → (7 < n → IsSpelled encode line)
    → (rule : Rule) → rule_number rule < n → Keeps encode rule past (a_line line)
kept_below encode past line n form wire packet count order seen spelling rules.Form less = form less
kept_below encode past line n form wire packet count order seen spelling rules.Wire less = wire less
kept_below encode past line n form wire packet count order seen spelling rules.Packet less = packet less
kept_below encode past line n form wire packet count order seen spelling rules.Count less = count less
kept_below encode past line n form wire packet count order seen spelling rules.Order less = order less
kept_below encode past line n form wire packet count order seen spelling rules.Seen less = seen less
kept_below encode past line n form wire packet count order seen spelling rules.Spelling less = spelling less
kept_below encode past line n form wire packet count order seen spelling rules.End less = tt

pub kept_all : (encode : Spelling) (past : List TextLine) (line : TextLine)
    → KeepsForm past (a_line line) → IsOnWire past line → IsReadable past line → ShowsCount past line
    → IsInOrder past line → WasSeen past line → IsSpelled encode line
    → (rule : Rule) → Keeps encode rule past (a_line line)
kept_all encode past line form wire packet count order seen spelling rules.Form = form
kept_all encode past line form wire packet count order seen spelling rules.Wire = wire
kept_all encode past line form wire packet count order seen spelling rules.Packet = packet
kept_all encode past line form wire packet count order seen spelling rules.Count = count
kept_all encode past line form wire packet count order seen spelling rules.Order = order
kept_all encode past line form wire packet count order seen spelling rules.Seen = seen
kept_all encode past line form wire packet count order seen spelling rules.Spelling = spelling
kept_all encode past line form wire packet count order seen spelling rules.End = tt

-- the first test that fails tells the first rule that is broken
pub failed_meets : (encode : Spelling) (past : List TextLine) (line : TextLine) (form wire packet count order seen spelling : Bool)
    → (IsTrue form ↔ KeepsForm past (a_line line)) → (IsTrue wire ↔ IsOnWire past line) → (IsTrue packet ↔ IsReadable past line) → (IsTrue count ↔ ShowsCount past line)
    → (IsTrue order ↔ IsInOrder past line) → (IsTrue seen ↔ WasSeen past line) → (IsTrue spelling ↔ IsSpelled encode line)
    → FirstBroken encode past line (first_failed form wire packet count order seen spelling)
failed_meets encode past line false b1 b2 b3 b4 b5 b6 t0 t1 t2 t3 t4 t5 t6 =
    (unkept false (KeepsForm past (a_line line)) t0 refl, kept_below encode past line 1 (λ h. absurd (omega (arith, h))) (λ h. absurd (omega (arith, h))) (λ h. absurd (omega (arith, h))) (λ h. absurd (omega (arith, h))) (λ h. absurd (omega (arith, h))) (λ h. absurd (omega (arith, h))) (λ h. absurd (omega (arith, h))))
failed_meets encode past line true false b2 b3 b4 b5 b6 t0 t1 t2 t3 t4 t5 t6 =
    (unkept false (IsOnWire past line) t1 refl, kept_below encode past line 2 (λ _. t0.0 refl) (λ h. absurd (omega (arith, h))) (λ h. absurd (omega (arith, h))) (λ h. absurd (omega (arith, h))) (λ h. absurd (omega (arith, h))) (λ h. absurd (omega (arith, h))) (λ h. absurd (omega (arith, h))))
failed_meets encode past line true true false b3 b4 b5 b6 t0 t1 t2 t3 t4 t5 t6 =
    (unkept false (IsReadable past line) t2 refl, kept_below encode past line 3 (λ _. t0.0 refl) (λ _. t1.0 refl) (λ h. absurd (omega (arith, h))) (λ h. absurd (omega (arith, h))) (λ h. absurd (omega (arith, h))) (λ h. absurd (omega (arith, h))) (λ h. absurd (omega (arith, h))))
failed_meets encode past line true true true false b4 b5 b6 t0 t1 t2 t3 t4 t5 t6 =
    (unkept false (ShowsCount past line) t3 refl, kept_below encode past line 4 (λ _. t0.0 refl) (λ _. t1.0 refl) (λ _. t2.0 refl) (λ h. absurd (omega (arith, h))) (λ h. absurd (omega (arith, h))) (λ h. absurd (omega (arith, h))) (λ h. absurd (omega (arith, h))))
failed_meets encode past line true true true true false b5 b6 t0 t1 t2 t3 t4 t5 t6 =
    (unkept false (IsInOrder past line) t4 refl, kept_below encode past line 5 (λ _. t0.0 refl) (λ _. t1.0 refl) (λ _. t2.0 refl) (λ _. t3.0 refl) (λ h. absurd (omega (arith, h))) (λ h. absurd (omega (arith, h))) (λ h. absurd (omega (arith, h))))
failed_meets encode past line true true true true true false b6 t0 t1 t2 t3 t4 t5 t6 =
    (unkept false (WasSeen past line) t5 refl, kept_below encode past line 6 (λ _. t0.0 refl) (λ _. t1.0 refl) (λ _. t2.0 refl) (λ _. t3.0 refl) (λ _. t4.0 refl) (λ h. absurd (omega (arith, h))) (λ h. absurd (omega (arith, h))))
failed_meets encode past line true true true true true true false t0 t1 t2 t3 t4 t5 t6 =
    (unkept false (IsSpelled encode line) t6 refl, kept_below encode past line 7 (λ _. t0.0 refl) (λ _. t1.0 refl) (λ _. t2.0 refl) (λ _. t3.0 refl) (λ _. t4.0 refl) (λ _. t5.0 refl) (λ h. absurd (omega (arith, h))))
failed_meets encode past line true true true true true true true t0 t1 t2 t3 t4 t5 t6 =
    kept_all encode past line (t0.0 refl) (t1.0 refl) (t2.0 refl) (t3.0 refl) (t4.0 refl) (t5.0 refl) (t6.0 refl)

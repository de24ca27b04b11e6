-- Facts that are decided: each holds, or it doesn't.
use Rattle.std.proofs.Common.{ℕ, ◌≤◌, ◌⊎◌, inl, inr, arith}
use Rattle.std.proofs.lemmas.Bool.{cases_lt}

abbrev pub Decided : Type 0 → Type 0
Decided A = A ⊎ (A → ⊥)

pub two : {A B : Type 0} → Decided A → Decided B → Decided (A × B)
two (inl a) (inl b) = inl (a, b)
two (inl a) (inr never) = inr (λ h. never h.1)
two (inr never) b = inr (λ h. never h.0)

pub at_most : (a b : ℕ) → Decided (a ≤ b)
at_most a b = elim (cases_lt b a) [ inl h ↦ inr (λ (l : a ≤ b). absurd (omega arith)) | inr h ↦ inl h ]

-- Units that are put after what is asked before them.
use Rattle.std.proofs.Common.{◌≡◌, ℕ, ◌+◌, ◌-◌, ◌<◌, ◌==◌, cond, nat_lt, List, [], ◌++◌, length, Bool, false, Some, Result, Ok, Err, refl, sym, ap, ◌∙◌}
use Rattle.asn1_syntax.specs.declared.types.definition.Size.{Size}
use Rattle.aper_defs.specs.Fields.{Path, pad}
use Rattle.aper_defs.specs.Fields as fields
use Rattle.aper_defs.specs.Parts.{Content, pad_limit}
use Rattle.aper_defs.specs.Questions.{Prog, ask, ask_units, ask_number, ask_extension, ask_sized, ask_string, ask_string_by}
use Rattle.aper_defs.specs.Reading.{Cursor, run}
use Rattle.proof_aper.proofs.answers.NumberFacts.{is_below, is_same, by_cases, same}
use Rattle.aper_cursor.specs.declared.error.Unanswered.{Unanswered}
use Rattle.aper_cursor.specs.declared.error.Unanswered.TheVariants.{Wrong, Memory}
use Rattle.aper_cursor.specs.asking.Going.{GoesOnOrMemory, PutsOn}

module _ (P Q : Path → (List ℕ → Prog) → Prog) (old mid new : Cursor) (first before : List ℕ) where
  -- what is refused after it
  pub refused_after : (e : Unanswered) (left after : List ℕ) (L : Path → (List ℕ → Prog) → List ℕ → Prog)
      → ((p : Path) (K : List ℕ → Prog) → run (P p (λ us. K (first ++ us))) old ≡ run (Q p (λ us. L p K (before ++ us))) mid)
      → PutsOn Q mid new before after (Err e) → PutsOn P old new first left (Err e)
  refused_after (Wrong reason) left after L e h = λ p K. e p K ∙ h p (L p K)
  refused_after Memory left after L e h = tt

  -- what is put after it
  pub puts_after : (r : Result (Unit {0}) Unanswered) (after : List ℕ)
      → ((p : Path) (K : List ℕ → Prog) → run (P p (λ us. K (first ++ us))) old ≡ run (Q p (λ us. K (before ++ us))) mid)
      → PutsOn Q mid new before after r → PutsOn P old new first after r
  puts_after (Ok done) after e h = λ p K. e p K ∙ h p K
  puts_after (Err (Wrong reason)) after e h = λ p K. e p K ∙ h p K
  puts_after (Err Memory) after e h = tt

-- a string of which nothing was there
pub refused_first : (Q : Path → (List ℕ → Prog) → Prog) (old new : Cursor) (e : Unanswered) (before after : List ℕ)
    → before ≡ [] → PutsOn Q old new before after (Err e) → GoesOnOrMemory Q old new (Err e)
refused_first Q old new (Wrong reason) before after e h =
    λ p K. sym (ap (λ (os : List ℕ). run (Q p (λ us. K (os ++ us))) old) e) ∙ h p K
refused_first Q old new Memory before after e h = tt

-- ---- sizes
pub fixed_as : (p : Path) (content : Content) (size : Size) (K : List ℕ → Prog) → size.low ≡ size.high
    → pad_limit content < size.low
    → ask_sized p content size K ≡ ask p pad (λ z. ask_units p content size.low K)
fixed_as p content size K e h =
    let padded = ask p pad (λ z. ask_units p content size.low K) in
    let bare = ask_units p content size.low K in
    let varying = ask_number p fields.length (size.high - size.low) (λ n. ask p pad (λ z. ask_units p content (size.low + n) K)) in
    ap (λ (b : Bool). cond b (cond (nat_lt (pad_limit content) size.low) padded bare) varying) (is_same size.low size.high e)
    ∙ ap (λ (b : Bool). cond b padded bare) (is_below (pad_limit content) size.low h)

not_same : (a b : ℕ) → (a ≡ b → ⊥) → (a == b) ≡ false
not_same a b h = by_cases (a == b) (λ x. x ≡ false) (λ e. absurd (h (same a b e))) (λ e. refl)

pub varying_as : (p : Path) (content : Content) (size : Size) (K : List ℕ → Prog) → (size.low ≡ size.high → ⊥)
    → ask_sized p content size K
    ≡ ask_number p fields.length (size.high - size.low) (λ n. ask p pad (λ z. ask_units p content (size.low + n) K))
varying_as p content size K h =
    let padded = ask p pad (λ z. ask_units p content size.low K) in
    let bare = ask_units p content size.low K in
    let varying = ask_number p fields.length (size.high - size.low) (λ n. ask p pad (λ z. ask_units p content (size.low + n) K)) in
    ap (λ (b : Bool). cond b (cond (nat_lt (pad_limit content) size.low) padded bare) varying) (not_same size.low size.high h)

pub string_as : (p : Path) (content : Content) (size : Size) (K : List ℕ → Prog)
    → ask_string p content (Some size) K ≡ ask_extension p size.extensible (ask_string_by p content size K)
unfolding ask_string
string_as p content size K = refl

-- A question, and what is left of a string after its answer.
use Rattle.std.proofs.Common.{◌≡◌, ℕ, suc, ◌+◌, ◌-◌, ◌==◌, ◌<◌, ◌≤◌, cond, nat_lt, List, [], ◌∷◌, ◌++◌, Bool, true, false, Option, None, Some, Ok, Err, refl, sym, ap, ◌∙◌, append_assoc, append-nil, arith}
use mathlib.Core.Path.{fun_ext}
use Rattle.asn1_syntax.specs.declared.types.definition.Size.{Size}
use Rattle.aper_defs.specs.declared.reason.Reason.{Reason}
use Rattle.aper_defs.specs.Fields.{Path, extent, part, pad}
use Rattle.aper_defs.specs.Fields as fields
use Rattle.aper_defs.specs.Bits.{part_units}
use Rattle.aper_defs.specs.Parts.{Content, pad_limit}
use Rattle.aper_defs.specs.Questions.{Prog, ask, ask_aligned, ask_number, ask_units, ask_sized, ask_parts}
use Rattle.aper_defs.specs.Reading.{Cursor, run}
use Rattle.proof_aper.proofs.answers.NumberFacts.{is_below, is_not_below, is_same}
use Rattle.proof_aper.specs.pieces.Onto.{onto}
use Rattle.proof_aper.proofs.followed.Stays.{Told, stays}
use Rattle.proof_aper.proofs.followed.Shut.{keeps}
use Rattle.aper_cursor.specs.asking.Going.{fault_at, GoesOn}
use Rattle.aper_stream.specs.declared.string_turns.field.Parts.{Parts}
use Rattle.aper_stream.specs.declared.string_turns.field.StringField.TheVariants as next
use Rattle.aper_stream.specs.string_turns.Strings.{parts_left, with_parts, field_left}

module _ {A : Type 0} (question : Path → (A → Prog) → Prog) (all : Path → (List ℕ → Prog) → Prog)
    (rest : Path → (List ℕ → Prog) → A → Prog) (is : (p : Path) (K : List ℕ → Prog) → all p K ≡ question p (rest p K))
    (old new : Cursor) where
  pub answered_on : Told question → (x : A) (left : Path → (List ℕ → Prog) → Prog)
      → ((p : Path) (J : A → Prog) → run (question p J) old ≡ run (J x) new)
      → ((p : Path) (K : List ℕ → Prog) → rest p K x ≡ left p K)
      → (new.octets ≡ old.octets) × ((more : List ℕ) (p : Path) (K : List ℕ → Prog)
      → run (all p K) (onto more old) ≡ run (left p K) (onto more new))
  answered_on told x left asked on = (
    keeps question told old new x asked,
    λ more p K.
        ap (λ (P : Prog). run P (onto more old)) (is p K)
        ∙ stays question told old new x asked more p (rest p K)
        ∙ ap (λ (P : Prog). run P (onto more new)) (on p K),
  )

  pub refused_on : (reason : Reason) → GoesOn question old new (Err reason)
      → (p : Path) (K : List ℕ → Prog) → run (all p K) old ≡ Err (fault_at new reason p)
  refused_on reason asked = λ p K. ap (λ (P : Prog). run P old) (is p K) ∙ asked p (rest p K)

-- Nothing is asked.
pub goes_as : (all left : Path → (List ℕ → Prog) → Prog) (c : Cursor) → ((p : Path) (K : List ℕ → Prog) → all p K ≡ left p K)
    → (c.octets ≡ c.octets) × ((more : List ℕ) (p : Path) (K : List ℕ → Prog) → run (all p K) (onto more c) ≡ run (left p K) (onto more c))
goes_as all left c same = (refl, λ more p K. ap (λ (P : Prog). run P (onto more c)) (same p K))

-- ---- the length of a part
-- what is asked after it
abbrev pub after_length : Content → Parts → (turns : ℕ) → Path → (List ℕ → Prog) → ℕ → Prog
after_length content parts turns p K n = ask_units p content n (λ units.
    cond (nat_lt n part_units) (K units) (ask_parts p content parts.outside turns (parts.before + n) n (λ more. K (units ++ more))))

pub length_as : (content : Content) (parts : Parts) (turns : ℕ) → parts.turns ≡ turns + 1 → (p : Path) (K : List ℕ → Prog)
    → parts_left content parts p K
    ≡ ask_aligned p (extent (part parts.before parts.previous parts.outside)) (after_length content parts turns p K)
unfolding ask_parts
length_as content parts turns e p K =
    let more : parts.turns ≡ suc turns = omega (arith, e) in
    ap (λ (k : ℕ). ask_parts p content parts.outside k parts.before parts.previous K) more

pub last_part : (content : Content) (parts : Parts) (turns n : ℕ) → n < part_units → (p : Path) (K : List ℕ → Prog)
    → after_length content parts turns p K n ≡ ask_units p content n (with_parts content None p K)
last_part content parts turns n few p K =
    ap (λ (b : Bool). ask_units p content n (λ units.
    cond b (K units) (ask_parts p content parts.outside turns (parts.before + n) n (λ more. K (units ++ more))))) (is_below n part_units few)

pub further_part : (content : Content) (parts others : Parts) (turns n : ℕ) → part_units ≤ n
    → others ≡ record { outside = parts.outside; turns = turns; before = parts.before + n; previous = n } → (p : Path) (K : List ℕ → Prog)
    → after_length content parts turns p K n ≡ ask_units p content n (with_parts content (Some others) p K)
further_part content parts others turns n many is p K =
    ap (λ (b : Bool). ask_units p content n (λ units.
    cond b (K units) (ask_parts p content parts.outside turns (parts.before + n) n (λ more. K (units ++ more))))) (is_not_below n part_units many)
    ∙ ap (λ (o : Parts). ask_units p content n (with_parts content (Some o) p K)) (sym is)

-- ---- units
-- Units that are taken one after another are those that are taken together.
pub units_on : (content : Content) (others : Option Parts) (p : Path) (K : List ℕ → Prog) (out first more : List ℕ)
    → with_parts content others p (λ us. K (out ++ us)) (first ++ more) ≡ with_parts content others p (λ us. K ((out ++ first) ++ us)) more
units_on content None p K out first more = ap K (sym (append_assoc out first more))
units_on content (Some others) p K out first more =
    ap (parts_left content others p) (fun_ext (λ (us : List ℕ). ap K
    (ap (λ (x : List ℕ). out ++ x) (append_assoc first more us) ∙ sym (append_assoc out first (more ++ us)))))

-- a short string of a fixed size
pub bare_as : (p : Path) (content : Content) (size : Size) (K : List ℕ → Prog) → size.low ≡ size.high → size.low ≤ pad_limit content
    → ask_sized p content size K ≡ ask_units p content size.low K
bare_as p content size K e h =
    let padded = ask p pad (λ z. ask_units p content size.low K) in
    let bare = ask_units p content size.low K in
    let varying = ask_number p fields.length (size.high - size.low) (λ n. ask p pad (λ z. ask_units p content (size.low + n) K)) in
    ap (λ (b : Bool). cond b (cond (nat_lt (pad_limit content) size.low) padded bare) varying) (is_same size.low size.high e)
    ∙ ap (λ (b : Bool). cond b padded bare) (is_not_below (pad_limit content) size.low h)

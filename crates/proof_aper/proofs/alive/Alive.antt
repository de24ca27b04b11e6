-- Every right answer can be gone on with up to a value: simple types.
use Rattle.std.proofs.Common.{◌≡◌, ℕ, zero, suc, ◌+◌, ◌-◌, ◌*◌, ◌^◌, ◌<◌, ◌≤◌, ◌==◌, nat_lt, cond, Bool, true, false, List, [], ◌∷◌, ◌++◌, length, replicate, None, Some, Option, refl, sym, ap, subst, ◌∙◌, arith}
use Rattle.std.specs.Prelude.{ℤ, pos, ◌+ℤ◌}
use Rattle.std.proofs.lemmas.List.{length-replicate}
use Rattle.std.proofs.lemmas.Nat.{pow-add, pow_pos}
use Rattle.std.proofs.Math.Nat.{pow-le-pow_right}
use Rattle.bits_core.specs.Bits.{bits_of, pad_of}
use Rattle.asn1_syntax.specs.declared.types.definition.Size.{Size}
use Rattle.aper_defs.specs.Values.{Value, raw}
use Rattle.aper_defs.specs.Numbers.{bits_for, octets_for, signed_number, above}
use Rattle.aper_defs.specs.Fields.{Path, Role, Ask, RunUnit, Field, flag, constrained, digits, signed, small, extent, character, addition_bits, pad, opening, closing, end, whole, part, bit, octet, asked, run as run_field}
use Rattle.aper_defs.specs.Fields as fields
use Rattle.aper_defs.specs.Bits.{part_units, width_at, unit_width, extent_width}
use Rattle.aper_defs.specs.Parts.{Content, of_bits, of_octets, of_characters, pad_limit}
use Rattle.aper_defs.specs.Questions.{Prog, done, ask, take, never, ask_aligned, ask_large, ask_number, ask_extension, ask_integer, ask_integer_by, ask_index, ask_index_by, ask_characters, ask_units, ask_parts, ask_all_parts, ask_sized, ask_string, ask_string_by, ask_count, ask_count_by, ask_open, ask_raw}
use Rattle.aper_defs.specs.Asking.{ask_marks}
use Rattle.aper_defs.specs.Reading.{bit_limit}
use Rattle.proof_aper.proofs.answers.NumberFacts.{by_cases, below, not_below, at_most, octets_least}
use Rattle.proof_aper.proofs.places.Placed.{AreBelow}
use Rattle.proof_aper.proofs.values.FoundNumbers.{IsDigits}
use Rattle.proof_aper.proofs.alive.Allowed.{Allowed, few, IsSigned}
use Rattle.proof_aper.proofs.alive.Steps.{Steps}

-- some fields lead to a value
abbrev pub Ends : Prog → Type 0
Ends P = (fs : List Field) × (w : Value) × Steps fs P (done w)

-- So it is here, and after every answer as far as it ends within the limit.
unfoldable pub Live : ℕ → Prog → Type 0
Live place (done v) = Unit {0}
Live place (ask p question next) = Ends (ask p question next)
    × ((n : ℕ) → Allowed question n → place + width_at place question n ≤ bit_limit → Live (place + width_at place question n) (next n))
Live place (take p unit count next) = Ends (take p unit count next)
    × ((us : List ℕ) → length us ≡ count → place + unit_width unit * count ≤ bit_limit
    → Live (place + unit_width unit * count) (next us))
Live place never = ⊥

abbrev pub Always : Prog → Type 0
Always P = (place : ℕ) → place ≤ bit_limit → Live place P

live_ends : (place : ℕ) (P : Prog) → Live place P → Ends P
unfolding Live Steps
live_ends place (done v) h = ([], v, refl)
live_ends place (ask p question next) h = h.0
live_ends place (take p unit count next) h = h.0
live_ends place never h = absurd h

pub always_ends : (P : Prog) → Always P → Ends P
always_ends P h = live_ends 0 P (h 0 (omega arith))

-- ---- one question, and a run
ends_ask : (p : Path) (question : Ask) (K : ℕ → Prog) (n : ℕ) → Allowed question n → Ends (K n) → Ends (ask p question K)
unfolding Steps
ends_ask p question K n a e = (asked p question n ∷ e.0, e.1, (a, (K, refl, e.2)))

ends_take : (p : Path) (unit : RunUnit) (count : ℕ) (us : List ℕ) (K : List ℕ → Prog) → length us ≡ count
    → AreBelow (2 ^ unit_width unit) us → Ends (K us) → Ends (take p unit count K)
unfolding Steps
ends_take p unit count us K size below_it e =
    (run_field p unit us ∷ e.0, e.1, (below_it, (K, ap (λ (n : ℕ). take p unit n K) (sym size), e.2)))

pub always_ask : (p : Path) (question : Ask) (K : ℕ → Prog) (n : ℕ) → Allowed question n → ((m : ℕ) → Allowed question m → Always (K m))
    → Always (ask p question K)
unfolding Live
always_ask p question K n a h = λ place within. (
  ends_ask p question K n a (always_ends (K n) (h n a)),
  λ m b fits. h m b (place + width_at place question m) fits,
)

pub always_aligned : (p : Path) (question : Ask) (K : ℕ → Prog) (n : ℕ) → Allowed question n
    → ((m : ℕ) → Allowed question m → Always (K m)) → Always (ask_aligned p question K)
always_aligned p question K n a h = always_ask p pad (λ z. ask p question K) 0 refl (λ m b. always_ask p question K n a h)

copies_below : (x n most : ℕ) → x < most → AreBelow most (replicate n x)
copies_below x zero most h = tt
copies_below x (suc n) most h = (h, copies_below x n most h)

pub always_octets : (p : Path) (count : ℕ) (K : List ℕ → Prog) → ((us : List ℕ) → length us ≡ count → Always (K us))
    → Always (take p octet count K)
unfolding Live
always_octets p count K h = λ place within. (
  ends_take p octet count (replicate count 0) K (length-replicate count 0) (copies_below 0 count (2 ^ 8) (omega arith))
      (always_ends (K (replicate count 0)) (h (replicate count 0) (length-replicate count 0))),
  λ us size fits. h us size (place + 8 * count) fits,
)

pub always_by : (b : Bool) (A B : Prog) → (b ≡ true → Always A) → (b ≡ false → Always B) → Always (cond b A B)
always_by true A B first second = first refl
always_by false A B first second = second refl

-- ---- numbers
some_digits : ℕ → ℕ
some_digits zero = 0
some_digits (suc k) = 2 ^ (8 * suc k)

digits_there : (k span : ℕ) → k ≤ octets_for span - 1 → IsDigits (k + 1) span (some_digits k)
unfolding some_digits
digits_there zero span h = record { most-is = omega arith; fits = omega (arith, pow_pos 8); least = λ g. absurd (omega (arith, g)) }
digits_there (suc k) span h =
    let many : 1 < octets_for span = omega (arith, h) in
    let up : 2 ^ (8 * suc k) ≤ 2 ^ (8 * (octets_for span - 1)) = pow-le-pow_right {n = 2} (omega arith)
    (let g : 8 * suc k ≤ 8 * (octets_for span - 1) = omega (arith, h) in g) in
    let e : 8 * (suc k + 1) ≡ 8 * suc k + 8 = omega arith in
    let more : 2 ^ (8 * (suc k + 1)) ≡ 2 ^ (8 * suc k) * 2 ^ 8 = ap (λ (n : ℕ). 2 ^ n) e ∙ pow-add 2 (8 * suc k) 8 in
    let same : suc k + 1 - 1 ≡ suc k = omega arith in record {
      most-is = omega (arith, up, octets_least span many);
      fits = omega (arith, more, pow_pos (8 * suc k));
      least = λ g. subst (λ (n : ℕ). 2 ^ (8 * n) ≤ 2 ^ (8 * suc k)) (sym same) (omega arith);
    }

always_large : (p : Path) (span : ℕ) (K : ℕ → Prog) → ((n : ℕ) → n ≤ span → Always (K n)) → Always (ask_large p span K)
always_large p span K h =
    let most = octets_for span - 1 in
    always_ask p (constrained fields.value (bits_for most) most) (λ k. ask_aligned p (digits (k + 1) span) K) 0 (omega arith)
    (λ k low. always_aligned p (digits (k + 1) span) K (some_digits k) (digits_there k span low)
    (λ n (d : IsDigits (k + 1) span n). h n d.most-is))

pub always_number : (p : Path) (role : Role) (span : ℕ) (K : ℕ → Prog) → ((n : ℕ) → n ≤ span → Always (K n))
    → Always (ask_number p role span K)
unfolding ask_number
always_number p role span K h =
    always_by (span == 0) _ _ (λ e. h 0 (omega arith))
    (λ e. always_by (nat_lt span 255) _ _ (λ e. always_ask p (constrained role (bits_for span) span) K 0 (omega arith) h)
    (λ e. always_by (span == 255) _ _ (λ e. always_aligned p (constrained role 8 span) K 0 (omega arith) h)
    (λ e. always_by (nat_lt span 65536) _ _ (λ e. always_aligned p (constrained role 16 span) K 0 (omega arith) h)
    (λ e. always_large p span K h))))

pub always_extension : (p : Path) (extensible : Bool) (K : Bool → Prog) → ((b : Bool) → Always (K b)) → Always (ask_extension p extensible K)
always_extension p true K h = always_ask p flag (λ b. K (b == 1)) 0 (omega arith) (λ m a. h (m == 1))
always_extension p false K h = h false

-- a number outside a range, of so many octets
some_signed : ℕ → ℕ
some_signed count = 2 ^ (8 * (count - 1))

signed_there : (count : ℕ) → 1 ≤ count → count ≤ 8 → IsSigned count (some_signed count)
unfolding some_signed
signed_there zero h k = absurd (omega (arith, h))
signed_there (suc zero) h k = record { least = at_most 1 _ refl; fits = below _ _ refl }
signed_there (suc (suc zero)) h k = record { least = at_most 2 _ refl; fits = below _ _ refl }
signed_there (suc (suc (suc zero))) h k = record { least = at_most 3 _ refl; fits = below _ _ refl }
signed_there (suc (suc (suc (suc zero)))) h k = record { least = at_most 4 _ refl; fits = below _ _ refl }
signed_there (suc (suc (suc (suc (suc zero))))) h k = record { least = at_most 5 _ refl; fits = below _ _ refl }
signed_there (suc (suc (suc (suc (suc (suc zero)))))) h k = record { least = at_most 6 _ refl; fits = below _ _ refl }
signed_there (suc (suc (suc (suc (suc (suc (suc zero))))))) h k = record { least = at_most 7 _ refl; fits = below _ _ refl }
signed_there (suc (suc (suc (suc (suc (suc (suc (suc zero)))))))) h k = record { least = at_most 8 _ refl; fits = below _ _ refl }
signed_there (suc (suc (suc (suc (suc (suc (suc (suc (suc n))))))))) h k = absurd (omega (arith, k))

pub always_integer : (p : Path) (low high : ℤ) (extensible : Bool) (K : ℤ → Prog) → ((z : ℤ) → Always (K z))
    → Always (ask_integer p low high extensible K)
unfolding ask_integer
always_integer p low high extensible K h = always_extension p extensible (ask_integer_by p low high K) by
  where
    by : (b : Bool) → Always (ask_integer_by p low high K b)
    by false = always_number p fields.value (above low high) (λ n. K (low +ℤ pos n)) (λ n fits. h (low +ℤ pos n))
    by true = always_aligned p (extent (whole 1 8 None)) (λ count. ask p (signed count low high) (λ n. K (signed_number count n))) 1
        (omega arith, omega arith)
        (λ count a. always_ask p (signed count low high) (λ n. K (signed_number count n)) (some_signed count) (signed_there count a.0 a.1)
        (λ n b. h (signed_number count n)))

pub always_index : (p : Path) (count : ℕ) (extensible : Bool) (K : ℕ → Prog) → ((i : ℕ) → Always (K i))
    → Always (ask_index p count extensible K)
unfolding ask_index
always_index p count extensible K h = always_extension p extensible (ask_index_by p count K) by
  where
    by : (b : Bool) → Always (ask_index_by p count K b)
    by false = always_number p fields.index (count - 1) K (λ n fits. h n)
    by true = always_ask p (small fields.index) (λ n. K (count + n)) 0 (omega arith) (λ n a. h (count + n))

-- ---- units of strings
some_units : Content → ℕ → List ℕ
some_units of_bits n = replicate n 0
some_units of_octets n = replicate n 0
some_units of_characters n = replicate n 97

some_size : (content : Content) (n : ℕ) → length (some_units content n) ≡ n
unfolding some_units
some_size of_bits n = length-replicate n 0
some_size of_octets n = length-replicate n 0
some_size of_characters n = length-replicate n 97

ends_characters : (p : Path) (n : ℕ) (K : List ℕ → Prog) → Ends (K (replicate n 97)) → Ends (ask_characters p n K)
ends_characters p zero K e = e
ends_characters p (suc n) K e =
    ends_ask p character (λ x. ask_characters p n (λ xs. K (x ∷ xs))) 97 refl (ends_characters p n (λ xs. K (97 ∷ xs)) e)

ends_units : (p : Path) (content : Content) (n : ℕ) (K : List ℕ → Prog) → Ends (K (some_units content n)) → Ends (ask_units p content n K)
unfolding some_units
ends_units p of_bits n K e = ends_take p bit n (replicate n 0) K (length-replicate n 0) (copies_below 0 n (2 ^ 1) (omega arith)) e
ends_units p of_octets n K e = ends_take p octet n (replicate n 0) K (length-replicate n 0) (copies_below 0 n (2 ^ 8) (omega arith)) e
ends_units p of_characters n K e = ends_characters p n K e

live_characters : (p : Path) (n : ℕ) (K : List ℕ → Prog) (place : ℕ) → place ≤ bit_limit
    → ((us : List ℕ) → length us ≡ n → Ends (K us))
    → ((us : List ℕ) (d : ℕ) → length us ≡ n → place + n ≤ d → d ≤ bit_limit → Live d (K us))
    → Live place (ask_characters p n K)
unfolding Live
live_characters p zero K place within e l = l [] place refl (omega arith) within
live_characters p (suc n) K place within e l = (
  ends_ask p character (λ x. ask_characters p n (λ xs. K (x ∷ xs))) 97 refl
      (ends_characters p n (λ xs. K (97 ∷ xs)) (e (97 ∷ replicate n 97) (ap suc (length-replicate n 97)))),
  λ x a fits. live_characters p n (λ xs. K (x ∷ xs)) (place + 8) fits (λ us size. e (x ∷ us) (ap suc size))
      (λ us d size far near. l (x ∷ us) d (ap suc size) (omega (arith, far)) near),
)

live_units : (p : Path) (content : Content) (n : ℕ) (K : List ℕ → Prog) (place : ℕ) → place ≤ bit_limit
    → ((us : List ℕ) → length us ≡ n → Ends (K us))
    → ((us : List ℕ) (d : ℕ) → length us ≡ n → place + n ≤ d → d ≤ bit_limit → Live d (K us))
    → Live place (ask_units p content n K)
unfolding Live
live_units p of_bits n K place within e l = (
  ends_units p of_bits n K (e (some_units of_bits n) (some_size of_bits n)),
  λ us size fits. l us (place + 1 * n) size (omega arith) fits,
)
live_units p of_octets n K place within e l = (
  ends_units p of_octets n K (e (some_units of_octets n) (some_size of_octets n)),
  λ us size fits. l us (place + 8 * n) size (omega arith) fits,
)
live_units p of_characters n K place within e l = live_characters p n K place within e l

always_units : (p : Path) (content : Content) (n : ℕ) (K : List ℕ → Prog) → ((us : List ℕ) → Always (K us))
    → Always (ask_units p content n K)
always_units p content n K h = λ place within. live_units p content n K place within (λ us size. always_ends (K us) (h us))
    (λ us d size far near. h us d near)

-- ---- strings in parts
next_part : Path → Content → Option Size → ℕ → ℕ → (List ℕ → Prog) → ℕ → List ℕ → Prog
next_part p content outside turns before K n us =
    cond (nat_lt n part_units) (K us) (ask_parts p content outside turns (before + n) n (λ others. K (us ++ others)))

ends_parts : (p : Path) (content : Content) (outside : Option Size) (turns before previous : ℕ) (K : List ℕ → Prog)
    → ((us : List ℕ) → Ends (K us)) → Ends (ask_parts p content outside (suc turns) before previous K)
unfolding ask_parts
ends_parts p content outside turns before previous K e =
    let question : Ask = extent (part before previous outside) in
    let next = λ (n : ℕ). ask_units p content n (λ us. cond (nat_lt n part_units) (K us)
    (ask_parts p content outside turns (before + n) n (λ others. K (us ++ others)))) in
    ends_ask p pad (λ z. ask p question next) 0 refl
    (ends_ask p question next 0 (few (omega arith)) (ends_units p content 0 K (e (some_units content 0))))

extent_wide : (n : ℕ) → 8 ≤ extent_width n
extent_wide n = by_cases (nat_lt n 128) (λ b. 8 ≤ cond b 8 (cond (nat_lt n part_units) 16 8)) (λ e. omega arith)
    (λ e. by_cases (nat_lt n part_units) (λ b. 8 ≤ cond b 16 8) (λ g. omega arith) (λ g. omega arith))

-- the first part, where more may come only before the limit
live_part : (p : Path) (content : Content) (outside : Option Size) (turns before previous : ℕ) (K : List ℕ → Prog) (place : ℕ)
    → ((us : List ℕ) → Always (K us))
    → ((n : ℕ) (us : List ℕ) (d : ℕ) → length us ≡ n → part_units ≤ n → place + n + 8 ≤ d → d ≤ bit_limit
    → Live d (ask_parts p content outside turns (before + n) n (λ others. K (us ++ others))))
    → ((n : ℕ) (us : List ℕ) → place + 8 ≤ bit_limit → part_units ≤ n
    → Ends (ask_parts p content outside turns (before + n) n (λ others. K (us ++ others))))
    → Live place (ask_parts p content outside (suc turns) before previous K)
unfolding ask_parts Live
live_part p content outside turns before previous K place h more ends =
    let question : Ask = extent (part before previous outside) in
    let next = λ (n : ℕ). ask_units p content n (λ us. cond (nat_lt n part_units) (K us)
    (ask_parts p content outside turns (before + n) n (λ others. K (us ++ others)))) in
    let last : Ends (ask p question next) =
    ends_ask p question next 0 (few (omega arith)) (ends_units p content 0 K (always_ends (K (some_units content 0)) (h (some_units content 0)))) in (
      ends_ask p pad (λ z. ask p question next) 0 refl last,
      λ z a fits. (
        last,
        λ n b fits2. live_units p content n (λ us. cond (nat_lt n part_units) (K us)
            (ask_parts p content outside turns (before + n) n (λ others. K (us ++ others))))
            (place + pad_of place + extent_width n) fits2
            (λ us size. by_cases (nat_lt n part_units)
            (λ c. Ends (cond c (K us) (ask_parts p content outside turns (before + n) n (λ others. K (us ++ others)))))
            (λ e. always_ends (K us) (h us))
            (λ e. ends n us (omega (arith, extent_wide n, fits2)) (not_below n part_units e)))
            (λ us d size far near. by_cases (nat_lt n part_units)
            (λ c. Live d (cond c (K us) (ask_parts p content outside turns (before + n) n (λ others. K (us ++ others)))))
            (λ e. h us d near)
            (λ e. more n us d size (not_below n part_units e) (omega (arith, extent_wide n, far)) near)),
      ),
    )

live_parts : (p : Path) (content : Content) (outside : Option Size) (turns before previous : ℕ) (K : List ℕ → Prog) (place : ℕ)
    → bit_limit ≤ part_units * turns + place → ((us : List ℕ) → Always (K us))
    → Live place (ask_parts p content outside (suc turns) before previous K)
live_parts p content outside zero before previous K place room h =
    live_part p content outside zero before previous K place h
    (λ n us d size many far near. absurd (omega (arith, room, far, near)))
    (λ n us within many. absurd (omega (arith, room, within)))
live_parts p content outside (suc turns) before previous K place room h =
    live_part p content outside (suc turns) before previous K place h
    (λ n us d size many far near. live_parts p content outside turns (before + n) n (λ others. K (us ++ others)) d
    (omega (arith, room, many, far)) (λ others. h (us ++ others)))
    (λ n us within many. ends_parts p content outside turns (before + n) n (λ others. K (us ++ others))
    (λ others. always_ends (K (us ++ others)) (h (us ++ others))))

always_parts : (p : Path) (content : Content) (outside : Option Size) (K : List ℕ → Prog) → ((us : List ℕ) → Always (K us))
    → Always (ask_all_parts p content outside K)
always_parts p content outside K h = λ place within. live_parts p content outside 64 0 (4 * part_units) K place (omega arith) h

always_sized : (p : Path) (content : Content) (size : Size) (K : List ℕ → Prog) → ((us : List ℕ) → Always (K us))
    → Always (ask_sized p content size K)
always_sized p content size K h =
    always_by (size.low == size.high) _ _
    (λ e. always_by (nat_lt (pad_limit content) size.low) _ _
    (λ g. always_ask p pad (λ z. ask_units p content size.low K) 0 refl (λ z a. always_units p content size.low K h))
    (λ g. always_units p content size.low K h))
    (λ e. always_number p fields.length (size.high - size.low) (λ n. ask p pad (λ z. ask_units p content (size.low + n) K))
    (λ n fits. always_ask p pad (λ z. ask_units p content (size.low + n) K) 0 refl (λ z a. always_units p content (size.low + n) K h)))

pub always_string : (p : Path) (content : Content) (size : Option Size) (K : List ℕ → Prog) → ((us : List ℕ) → Always (K us))
    → Always (ask_string p content size K)
unfolding ask_string
always_string p content None K h = always_parts p content None K h
always_string p content (Some size) K h = always_extension p size.extensible (ask_string_by p content size K) by
  where
    by : (b : Bool) → Always (ask_string_by p content size K b)
    by false = always_sized p content size K h
    by true = always_parts p content (Some size) K h

pub always_count : (p : Path) (size : Option Size) (K : ℕ → Prog) → ((n : ℕ) → Always (K n)) → Always (ask_count p size K)
unfolding ask_count
always_count p None K h = always_aligned p (extent (whole 0 16383 None)) K 0 (omega arith, omega arith) (λ n a. h n)
always_count p (Some size) K h = always_extension p size.extensible (ask_count_by p size K) by
  where
    by : (b : Bool) → Always (ask_count_by p size K b)
    by false = always_number p fields.length (size.high - size.low) (λ n. K (size.low + n)) (λ n fits. h (size.low + n))
    by true = always_aligned p (extent (whole 0 16383 (Some size))) K 0 (omega arith, omega arith) (λ n a. h n)

-- ---- open types, raw octets and marks of additions
pub always_open : (p inside : Path) (contents : (Value → Prog) → Prog) (K : Value → Prog)
    → ((L : Value → Prog) → ((v : Value) → Always (L v)) → Always (contents L)) → ((v : Value) → Always (K v))
    → Always (ask_open p inside contents K)
always_open p inside contents K inner h =
    let after = λ (v : Value). ask inside closing (λ m. ask inside end (λ z. K v)) in
    always_aligned p opening (λ n. contents after) 1 (omega arith, omega arith)
    (λ n a. inner after (λ v. always_ask inside closing (λ m. ask inside end (λ z. K v)) 0 (omega arith)
    (λ m b. always_ask inside end (λ z. K v) 0 refl (λ z c. h v))))

pub always_raw : (p inside : Path) (K : Value → Prog) → ((v : Value) → Always (K v)) → Always (ask_raw p inside K)
always_raw p inside K h =
    always_aligned p (extent (whole 1 16383 None)) (λ n. take inside octet n (λ os. K (raw os))) 1 (omega arith, omega arith)
    (λ n a. always_octets inside n (λ os. K (raw os)) (λ os size. h (raw os)))

one_below : (n : ℕ) → 1 < 2 ^ (n + 1)
one_below n =
    let e : n + 1 ≡ 1 + n = omega arith in
    let twice : 2 ^ (n + 1) ≡ 2 ^ 1 * 2 ^ n = ap (λ (m : ℕ). 2 ^ m) e ∙ pow-add 2 1 n in
    omega (arith, twice, pow_pos n)

pub always_marks : (p : Path) (b : Bool) (K : List Bool → Prog) → ((bs : List Bool) → Always (K bs)) → Always (ask_marks p b K)
always_marks p false K h = h []
always_marks p true K h =
    always_ask p (small fields.length) (λ n. ask p (addition_bits (n + 1)) (λ m. K (bits_of (n + 1) m))) 0 (omega arith)
    (λ n a. always_ask p (addition_bits (n + 1)) (λ m. K (bits_of (n + 1) m)) 1 (record { some = omega arith; fits = one_below n }) (λ m b. h (bits_of (n + 1) m)))

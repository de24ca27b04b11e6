-- What is asked of the octets, one question after another: a type as a tree of questions. What comes after an answer depends on it.
use Rattle.std.specs.Prelude.{ℕ, zero, suc, ◌+◌, ◌-◌, ◌*◌, ◌==◌, List, [], ◌∷◌, ◌++◌, Bool, true, false, Option, Some, None, nat_lt, if◌then◌else◌, ℤ, pos, ◌+ℤ◌}
use Rattle.asn1_syntax.specs.declared.types.definition.Size.{Size}
use Rattle.aper_defs.specs.Trees.{Parts, Slot, slots_left}
use Rattle.aper_defs.specs.Trees as trees
use Rattle.aper_defs.specs.Values.{Value, Values, Options, Ies, raw, no_values, value, no_options, absent, present, no_ies, ie}
use Rattle.aper_defs.specs.Numbers.{bits_for, octets_for, signed_number, above}
use Rattle.aper_defs.specs.Fields.{Path, Role, Ask, RunUnit, flag, constrained, digits, signed, small, extent, character, ie_id, pad, opening, closing, end, whole, part, bit, octet}
use Rattle.aper_defs.specs.Fields as fields
use Rattle.aper_defs.specs.Bits.{part_units}
use Rattle.aper_defs.specs.Parts.{Content, of_bits, of_octets, of_characters, pad_limit}

pub data Prog : Type 0 where
  -- this is the value
  done : (v : Value) → Prog
  ask : (path : Path) (question : Ask) (next : ℕ → Prog) → Prog
  -- so many units as they stand
  take : (path : Path) (unit : RunUnit) (count : ℕ) (next : List ℕ → Prog) → Prog
  -- no value goes on so
  never : Prog

-- a question after a pad
abbrev pub ask_aligned : Path → Ask → (ℕ → Prog) → Prog
ask_aligned p question K = ask p pad (λ z. ask p question K)

abbrev pub ask_large : Path → ℕ → (ℕ → Prog) → Prog
ask_large p span K =
    let most = octets_for span - 1 in
    ask p (constrained fields.value (bits_for most) most) (λ k. ask_aligned p (digits (k + 1) span) K)

-- a number from 0 to the span
unfoldable pub ask_number : Path → Role → ℕ → (ℕ → Prog) → Prog
ask_number p role span K =
    if span == 0 then K 0
    else if nat_lt span 255 then ask p (constrained role (bits_for span) span) K
    else if span == 255 then ask_aligned p (constrained role 8 span) K
    else if nat_lt span 65536 then ask_aligned p (constrained role 16 span) K
    else ask_large p span K

-- an extension bit, where the type is extensible
abbrev pub ask_extension : Path → Bool → (Bool → Prog) → Prog
ask_extension p extensible K = if extensible then ask p flag (λ b. K (b == 1)) else K false

-- after the extension bit
abbrev pub ask_integer_by : Path → ℤ → ℤ → (ℤ → Prog) → Bool → Prog
ask_integer_by p low high K false = ask_number p fields.value (above low high) (λ n. K (low +ℤ pos n))
ask_integer_by p low high K true =
    ask_aligned p (extent (whole 1 8 None)) (λ count. ask p (signed count low high) (λ n. K (signed_number count n)))

unfoldable pub ask_integer : Path → ℤ → ℤ → Bool → (ℤ → Prog) → Prog
ask_integer p low high extensible K = ask_extension p extensible (ask_integer_by p low high K)

abbrev pub ask_index_by : Path → ℕ → (ℕ → Prog) → Bool → Prog
ask_index_by p count K false = ask_number p fields.index (count - 1) K
ask_index_by p count K true = ask p (small fields.index) (λ n. K (count + n))

unfoldable pub ask_index : Path → ℕ → Bool → (ℕ → Prog) → Prog
ask_index p count extensible K = ask_extension p extensible (ask_index_by p count K)

-- so many characters
abbrev pub ask_characters : Path → ℕ → (List ℕ → Prog) → Prog
ask_characters p zero K = K []
ask_characters p (suc count) K = ask p character (λ c. ask_characters p count (λ cs. K (c ∷ cs)))

abbrev pub ask_units : Path → Content → ℕ → (List ℕ → Prog) → Prog
ask_units p of_bits count K = take p bit count K
ask_units p of_octets count K = take p octet count K
ask_units p of_characters count K = ask_characters p count K

-- The rest of a string in parts, of which so many may still come before the last one. What fits an encoding has at most 64 of 16,384
-- units.
unfoldable pub ask_parts : Path → Content → Option Size → (turns before previous : ℕ) → (List ℕ → Prog) → Prog
ask_parts p content outside zero before previous K = never
ask_parts p content outside (suc turns) before previous K =
    ask_aligned p (extent (part before previous outside)) (λ n. ask_units p content n (λ units.
    if nat_lt n part_units then K units else ask_parts p content outside turns (before + n) n (λ more. K (units ++ more))))

abbrev pub turn_limit : ℕ
turn_limit = 65

abbrev pub ask_all_parts : Path → Content → Option Size → (List ℕ → Prog) → Prog
ask_all_parts p content outside K = ask_parts p content outside turn_limit 0 (4 * part_units) K

abbrev pub ask_sized : Path → Content → Size → (List ℕ → Prog) → Prog
ask_sized p content size K = if size.low == size.high
    then (if nat_lt (pad_limit content) size.low then ask p pad (λ z. ask_units p content size.low K) else ask_units p content size.low K)
    else ask_number p fields.length (size.high - size.low) (λ n. ask p pad (λ z. ask_units p content (size.low + n) K))

abbrev pub ask_string_by : Path → Content → Size → (List ℕ → Prog) → Bool → Prog
ask_string_by p content size K false = ask_sized p content size K
ask_string_by p content size K true = ask_all_parts p content (Some size) K

unfoldable pub ask_string : Path → Content → Option Size → (List ℕ → Prog) → Prog
ask_string p content None K = ask_all_parts p content None K
ask_string p content (Some size) K = ask_extension p size.extensible (ask_string_by p content size K)

abbrev pub ask_count_by : Path → Size → (ℕ → Prog) → Bool → Prog
ask_count_by p size K false = ask_number p fields.length (size.high - size.low) (λ n. K (size.low + n))
ask_count_by p size K true = ask_aligned p (extent (whole 0 16383 (Some size))) K

unfoldable pub ask_count : Path → Option Size → (ℕ → Prog) → Prog
ask_count p None K = ask_aligned p (extent (whole 0 16383 None)) K
ask_count p (Some size) K = ask_extension p size.extensible (ask_count_by p size K)

-- an open type, around what is asked of its contents
abbrev pub ask_open : Path → Path → ((Value → Prog) → Prog) → (Value → Prog) → Prog
ask_open p inside contents K = ask_aligned p opening (λ n. contents (λ v. ask inside closing (λ m. ask inside end (λ z. K v))))

abbrev pub ask_raw : Path → Path → (Value → Prog) → Prog
ask_raw p inside K = ask_aligned p (extent (whole 1 16383 None)) (λ n. take inside octet n (λ os. K (raw os)))

-- a bit for each OPTIONAL component: which are there, with the mandatory ones
abbrev pub ask_flags : Path → Parts → (List Bool → Prog) → Prog
ask_flags p trees.no_parts K = K []
ask_flags p (trees.part name optional t others) K = if optional
    then ask p flag (λ b. ask_flags p others (λ there. K ((b == 1) ∷ there)))
    else ask_flags p others (λ there. K (true ∷ there))

-- so many members, the first of them with this number
abbrev pub ask_members : (ℕ → (Value → Prog) → Prog) → (first count : ℕ) → (Values → Prog) → Prog
ask_members one i zero K = K no_values
ask_members one i (suc count) K = one i (λ v. ask_members one (suc i) count (λ vs. K (value v vs)))

-- additions that aren't named
abbrev pub ask_raw_additions : Path → List Bool → (Options → Prog) → Prog
ask_raw_additions p [] K = K no_options
ask_raw_additions p (false ∷ there) K = ask_raw_additions p there (λ more. K (absent more))
ask_raw_additions p (true ∷ there) K = ask_raw p p (λ v. ask_raw_additions p there (λ more. K (present v more)))

-- so many information elements
abbrev pub ask_ies : Path → List Slot → (ℕ → (Value → Prog) → Prog) → (count : ℕ) → List Slot → (Ies → Prog) → Prog
ask_ies p known body zero left K = K no_ies
ask_ies p known body (suc count) left K =
    ask_aligned p (ie_id known left count) (λ id. ask p (constrained fields.index 2 2) (λ criticality.
    body id (λ v. ask_ies p known body count (slots_left known id left) (λ others. K (ie id criticality v others)))))

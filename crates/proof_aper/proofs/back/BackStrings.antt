-- What answers the questions of a string or a count is a loose layout of one.
use Rattle.std.proofs.Common.{◌≡◌, ℕ, zero, suc, ◌+◌, ◌-◌, ◌*◌, ◌/◌, ◌≤◌, ◌==◌, nat_lt, cond, ◌&&◌, Bool, true, false, List, [], ◌∷◌, ◌++◌, length, None, Some, Option, refl, sym, ap, subst, ◌∙◌, arith, append-nil, append_assoc}
use Rattle.std.specs.List.{list_all}
use Rattle.asn1_syntax.specs.declared.types.definition.Size.{Size}
use Rattle.aper_defs.specs.Values.{Value}
use Rattle.aper_defs.specs.Fields.{Path, Ask, Field, bit, octet, character, extent, pad, whole, part, asked, run as run_field}
use Rattle.aper_defs.specs.Fields as fields
use Rattle.aper_defs.specs.Bits.{part_units}
use Rattle.aper_defs.specs.Parts.{Content, of_bits, of_octets, of_characters, unit_fields, pad_limit, in_size, part_of_fields, all_part_fields, sized_fields, extension_fields, number_fields}
use Rattle.aper_defs.specs.Membership.{is_printable}
use Rattle.aper_defs.specs.Bounds.{IsSizeBounded}
use Rattle.aper_defs.specs.Questions.{Prog, done, ask, take, never, ask_units, ask_characters, ask_parts, ask_all_parts, turn_limit, ask_sized, ask_string, ask_string_by, ask_count, ask_count_by, ask_number}
use Rattle.proof_aper.proofs.answers.NumberFacts.{is_below, is_not_below}
use Rattle.proof_aper.proofs.places.Placed.{AreBelow}
use Rattle.proof_aper.proofs.places.PlacedStrings.{AreUnits}
use Rattle.proof_aper.proofs.values.FoundIndices.{extensible_is}
use Rattle.proof_aper.proofs.values.FoundStrings.{whole_parts, last_fields, further_fields, in_the_root, units_joined}
use Rattle.aper_defs.specs.loose_defs.Forms.{string_form, HasStringForm, count_form, HasCountForm}
use Rattle.proof_aper.proofs.loose.Determined.{is_ask}
use Rattle.proof_aper.proofs.alive.Allowed.{IsPart, few, full}
use Rattle.proof_aper.proofs.alive.Steps.{Steps, Parted, parted_none, parted_as, parted_then, parted_by, joined_is, parted_ask, parted_take, parted_aligned}
use Rattle.proof_aper.proofs.back.Back.{back_number, back_extension}

-- ---- units
abbrev pub AreSo : Content → ℕ → List ℕ → Type 0
AreSo content count us = (length us ≡ count) × AreUnits content us

abbrev UnitsAre : Path → Content → ℕ → List ℕ → List Field → Type 0
UnitsAre p content count us gs = AreSo content count us × (gs ≡ unit_fields p content us)

back_characters : (p : Path) (count : ℕ) (K : List ℕ → Prog) (fs : List Field) (w : Value) → Steps fs (ask_characters p count K) (done w)
    → Parted (UnitsAre p of_characters count) K fs w
back_characters p zero K fs w s = parted_none (UnitsAre p of_characters 0) K fs w [] ((refl, refl), refl) s
back_characters p (suc count) K fs w s =
    parted_then (λ x gs. (is_printable x ≡ true) × (gs ≡ asked p character x ∷ [])) (UnitsAre p of_characters (suc count))
    (λ x. ask_characters p count (λ xs. K (x ∷ xs))) K fs w
    (parted_ask p character (λ x. ask_characters p count (λ xs. K (x ∷ xs))) fs w s)
    (λ x front gs h s2. parted_as (UnitsAre p of_characters count) (λ us hs. UnitsAre p of_characters (suc count) us (front ++ hs))
    (λ xs. K (x ∷ xs)) K gs w (λ xs. x ∷ xs)
    (λ xs hs g. (
      (ap suc g.0.0, ap (λ b. b && list_all is_printable xs) h.0 ∙ g.0.1),
      joined_is front hs (asked p character x ∷ []) (unit_fields p of_characters xs) h.1 g.1,
    ))
    (λ xs hs g. refl) (back_characters p count (λ xs. K (x ∷ xs)) gs w s2))

pub back_units : (p : Path) (content : Content) (count : ℕ) (K : List ℕ → Prog) (fs : List Field) (w : Value)
    → Steps fs (ask_units p content count K) (done w) → Parted (UnitsAre p content count) K fs w
back_units p of_bits count K fs w s =
    parted_as (λ us gs. (length us ≡ count) × AreBelow 2 us × (gs ≡ run_field p bit us ∷ [])) (UnitsAre p of_bits count) K K fs w (λ us. us) (λ us gs h. ((h.0, h.1), h.2)) (λ us gs h. refl)
    (parted_take p bit count K fs w s)
back_units p of_octets count K fs w s =
    parted_as (λ us gs. (length us ≡ count) × AreBelow 256 us × (gs ≡ run_field p octet us ∷ [])) (UnitsAre p of_octets count) K K fs w (λ us. us) (λ us gs h. ((h.0, h.1), h.2)) (λ us gs h. refl)
    (parted_take p octet count K fs w s)
back_units p of_characters count K fs w s = back_characters p count K fs w s

-- ---- strings in parts
-- units of a kind in parts, the first of which comes after one of so many
record AreParts (p : Path) (content : Content) (outside : Option Size) (before previous : ℕ) (us : List ℕ) (gs : List Field) : Type 0 where
  pub units : AreUnits content us
  pub full_before : part_units ≤ length us → 65536 ≤ previous
  pub is : gs ≡ whole_parts p content outside before previous us

part_next : Path → Content → Option Size → ℕ → ℕ → (List ℕ → Prog) → ℕ → List ℕ → Prog
part_next p content outside tries before K n us =
    cond (nat_lt n part_units) (K us) (ask_parts p content outside tries (before + n) n (λ others. K (us ++ others)))

-- a part, and those after it
back_part : (p : Path) (content : Content) (outside : Option Size) (tries before previous : ℕ) (K : List ℕ → Prog) (w : Value)
    (us : List ℕ) (front gs : List Field)
    → ((b q : ℕ) (L : List ℕ → Prog) (hs : List Field) → Steps hs (ask_parts p content outside tries b q L) (done w)
    → Parted (AreParts p content outside b q) L hs w)
    → AreUnits content us → IsPart previous (length us) → front ≡ part_of_fields p content outside before previous us
    → Steps gs (part_next p content outside tries before K (length us) us) (done w)
    → Parted (λ xs hs. AreParts p content outside before previous xs (front ++ hs)) K gs w
unfolding part_next whole_parts
back_part p content outside tries before previous K w us front gs inner are (few short) e s =
    let go_on : Steps gs (K us) (done w) =
    subst (λ b. Steps gs (cond b (K us) (ask_parts p content outside tries (before + length us) (length us) (λ others. K (us ++ others))))
    (done w)) (is_below (length us) part_units short) s in
    parted_none (λ xs hs. AreParts p content outside before previous xs (front ++ hs)) K gs w us
    (record {
      units = are;
      full_before = λ long. absurd (omega (arith, long, short));
      is = joined_is front [] (part_of_fields p content outside before previous us) [] e refl
          ∙ append-nil (part_of_fields p content outside before previous us)
          ∙ sym (last_fields p content outside (length us / part_units) before previous us short);
    })
    go_on
back_part p content outside tries before previous K w us front gs inner are (full count size some most big) e s =
    let n = length us in
    let go_on : Steps gs (ask_parts p content outside tries (before + n) n (λ others. K (us ++ others))) (done w) =
    subst (λ b. Steps gs (cond b (K us) (ask_parts p content outside tries (before + n) n (λ others. K (us ++ others)))) (done w))
    (is_not_below n part_units (omega (arith, size, some))) s in
    parted_as (AreParts p content outside (before + n) n) (λ xs hs. AreParts p content outside before previous xs (front ++ hs))
    (λ others. K (us ++ others)) K gs w (λ others. us ++ others)
    (λ others hs g. record {
      units = units_joined content us others are g.units;
      full_before = λ long. big;
      is = joined_is front hs (part_of_fields p content outside before previous us) (whole_parts p content outside (before + n) n others)
          e g.is
          ∙ further_fields p content outside before previous count us others size some most g.full_before;
    })
    (λ others hs g. refl) (inner (before + n) n (λ others. K (us ++ others)) gs go_on)

pub no_never : (fs : List Field) (w : Value) → Steps fs never (done w) → ⊥
unfolding Steps
no_never [] w s = let g : is_ask never ≡ is_ask (done w) = ap is_ask s in absurd (omega (arith, g))
no_never (asked p question n ∷ fs) w s =
    let a = s.1 in let g : is_ask never ≡ is_ask (ask p question a.0) = ap is_ask a.1 in absurd (omega (arith, g))
no_never (run_field p unit units ∷ fs) w s =
    let a = s.1 in let g : is_ask never ≡ is_ask (take p unit (length units) a.0) = ap is_ask a.1 in absurd (omega (arith, g))

back_parts : (p : Path) (content : Content) (outside : Option Size) (tries before previous : ℕ) (K : List ℕ → Prog) (fs : List Field)
    (w : Value)
    → Steps fs (ask_parts p content outside tries before previous K) (done w)
    → Parted (AreParts p content outside before previous) K fs w
unfolding ask_parts part_next
back_parts p content outside zero before previous K fs w s = absurd (no_never fs w s)
back_parts p content outside (suc tries) before previous K fs w s =
    let question : Ask = extent (part before previous outside) in
    let next = part_next p content outside tries before K in
    let A = AreParts p content outside before previous in
    parted_then (λ n gs. IsPart previous n × (gs ≡ asked p pad 0 ∷ asked p question n ∷ [])) A
    (λ n. ask_units p content n (next n)) K fs w
    (parted_aligned p question (λ n. ask_units p content n (next n)) fs w s)
    (λ n front gs h s2. parted_then (UnitsAre p content n) (λ xs hs. A xs (front ++ hs)) (next n) K gs w
    (back_units p content n (next n) gs w s2)
    (λ us front2 gs2 g s3. parted_as (λ xs hs. A xs ((front ++ front2) ++ hs)) (λ xs hs. A xs (front ++ (front2 ++ hs))) K K gs2 w
    (λ xs. xs) (λ xs hs a. subst (A xs) (append_assoc front front2 hs) a) (λ xs hs a. refl)
    (back_part p content outside tries before previous K w us (front ++ front2) gs2
    (λ b q L hs s4. back_parts p content outside tries b q L hs w s4) g.0.1
    (subst (IsPart previous) (sym g.0.0) h.0)
    (joined_is front front2 (asked p pad 0 ∷ asked p question n ∷ []) (unit_fields p content us) h.1 g.1
    ∙ ap (λ (m : ℕ). asked p pad 0 ∷ asked p question m ∷ unit_fields p content us) (sym g.0.0))
    (subst (λ (m : ℕ). Steps gs2 (next m us) (done w)) (sym g.0.0) s3))))

-- ---- strings of a size
abbrev InRoot : Content → Size → List ℕ → Type 0
InRoot content size us = (in_size size (length us) ≡ true) × AreUnits content us

back_padded : (p : Path) (content : Content) (count : ℕ) (K : List ℕ → Prog) (fs : List Field) (w : Value)
    → Steps fs (ask p pad (λ z. ask_units p content count K)) (done w)
    → Parted (λ us gs. AreSo content count us × (gs ≡ asked p pad 0 ∷ unit_fields p content us)) K fs w
back_padded p content count K fs w s =
    let Q = λ (us : List ℕ) (gs : List Field). AreSo content count us × (gs ≡ asked p pad 0 ∷ unit_fields p content us) in
    parted_then (λ z gs. (z ≡ 0) × (gs ≡ asked p pad z ∷ [])) Q (λ z. ask_units p content count K) K fs w
    (parted_ask p pad (λ z. ask_units p content count K) fs w s)
    (λ z front gs h s2. parted_as (UnitsAre p content count) (λ us hs. Q us (front ++ hs)) K K gs w (λ us. us)
    (λ us hs g. (
      g.0,
      joined_is front hs (asked p pad z ∷ []) (unit_fields p content us) h.1 g.1
          ∙ ap (λ (x : ℕ). asked p pad x ∷ unit_fields p content us) h.0,
    ))
    (λ us hs g. refl) (back_units p content count K gs w s2))

-- of so many units, told otherwise
rooted : (content : Content) (size : Size) (n : ℕ) (f : List ℕ → List Field) (K : List ℕ → Prog) (fs : List Field) (w : Value)
    → in_size size n ≡ true
    → Parted (λ us gs. AreSo content n us × (gs ≡ f us)) K fs w → Parted (λ us gs. InRoot content size us × (gs ≡ f us)) K fs w
rooted content size n f K fs w root =
    parted_as (λ us gs. AreSo content n us × (gs ≡ f us)) (λ us gs. InRoot content size us × (gs ≡ f us)) K K fs w (λ us. us)
    (λ us gs h. ((ap (in_size size) h.0.0 ∙ root, h.0.1), h.1)) (λ us gs h. refl)

back_told : (p : Path) (content : Content) (size : Size) (K : List ℕ → Prog) (fs : List Field) (w : Value) → size.low ≤ size.high
    → Steps fs (ask_number p fields.length (size.high - size.low) (λ n. ask p pad (λ z. ask_units p content (size.low + n) K))) (done w)
    → Parted (λ us gs. InRoot content size us × (gs ≡ number_fields p fields.length (size.high - size.low) (length us - size.low)
    ++ asked p pad 0 ∷ unit_fields p content us)) K fs w
back_told p content size K fs w ordered s =
    let span = size.high - size.low in
    let Q = λ (us : List ℕ) (gs : List Field). InRoot content size us × (gs ≡ number_fields p fields.length span (length us - size.low)
    ++ asked p pad 0 ∷ unit_fields p content us) in
    let next = λ (n : ℕ). ask p pad (λ z. ask_units p content (size.low + n) K) in
    parted_then (λ n gs. (n ≤ span) × (gs ≡ number_fields p fields.length span n)) Q next K fs w
    (back_number p fields.length span next fs w s)
    (λ n front gs h s2. parted_as (λ us hs. AreSo content (size.low + n) us × (hs ≡ asked p pad 0 ∷ unit_fields p content us))
    (λ us hs. Q us (front ++ hs)) K K gs w (λ us. us)
    (λ us hs g. let few_more : n ≤ span = h.0 in let count : length us ≡ size.low + n = g.0.0 in (
      (in_the_root size (length us) (omega (arith, count)) (omega (arith, count, few_more, ordered)), g.0.1),
      joined_is front hs (number_fields p fields.length span n) (asked p pad 0 ∷ unit_fields p content us) h.1 g.1
          ∙ ap (λ (m : ℕ). number_fields p fields.length span m ++ asked p pad 0 ∷ unit_fields p content us)
          (let e : n ≡ length us - size.low = omega (arith, count) in e),
    ))
    (λ us hs g. refl) (back_padded p content (size.low + n) K gs w s2))

back_sized : (p : Path) (content : Content) (size : Size) (K : List ℕ → Prog) (fs : List Field) (w : Value) → size.low ≤ size.high
    → Steps fs (ask_sized p content size K) (done w)
    → Parted (λ us gs. InRoot content size us × (gs ≡ sized_fields p content size us)) K fs w
back_sized p content size K fs w ordered =
    parted_by (InRoot content size) (size.low == size.high) _ _ _ _ K fs w
    (parted_by (InRoot content size) (nat_lt (pad_limit content) size.low) _ _ _ _ K fs w
    (λ s. rooted content size size.low (λ us. asked p pad 0 ∷ unit_fields p content us) K fs w at_low (back_padded p content size.low K fs w s))
    (λ s. rooted content size size.low (λ us. unit_fields p content us) K fs w at_low (back_units p content size.low K fs w s)))
    (back_told p content size K fs w ordered)
  where
    at_low : in_size size size.low ≡ true
    at_low = in_the_root size size.low (omega arith) ordered

back_all_parts : (p : Path) (content : Content) (outside : Option Size) (K : List ℕ → Prog) (fs : List Field) (w : Value)
    → Steps fs (ask_all_parts p content outside K) (done w)
    → Parted (λ us gs. AreUnits content us × (gs ≡ all_part_fields p content outside us)) K fs w
unfolding whole_parts
back_all_parts p content outside K fs w s =
    parted_as (AreParts p content outside 0 (4 * part_units)) (λ us gs. AreUnits content us × (gs ≡ all_part_fields p content outside us))
    K K fs w (λ us. us) (λ us gs h. (h.units, h.is)) (λ us gs h. refl) (back_parts p content outside turn_limit 0 (4 * part_units) K fs w s)

-- a string in a form
abbrev pub IsLooseString : Path → Content → Option Size → List ℕ → List Field → Type 0
IsLooseString p content size us gs = AreUnits content us
    × ((outside : Bool) × HasStringForm size outside (length us) × (gs ≡ string_form p content size outside us))

pub back_string : (p : Path) (content : Content) (size : Option Size) (K : List ℕ → Prog) (fs : List Field) (w : Value)
    → IsSizeBounded size → Steps fs (ask_string p content size K) (done w) → Parted (IsLooseString p content size) K fs w
unfolding ask_string
back_string p content None K fs w bound s =
    parted_as (λ us gs. AreUnits content us × (gs ≡ all_part_fields p content None us)) (IsLooseString p content None) K K fs w
    (λ us. us) (λ us gs h. (h.0, (false, tt, h.1))) (λ us gs h. refl) (back_all_parts p content None K fs w s)
back_string p content (Some size) K fs w bound s =
    parted_then (λ b gs. (size.extensible ≡ false → b ≡ false) × (gs ≡ extension_fields p size.extensible b))
    (IsLooseString p content (Some size))
    (ask_string_by p content size K) K fs w (back_extension p size.extensible (ask_string_by p content size K) fs w s) by
  where
    by : (b : Bool) (front gs : List Field) → (size.extensible ≡ false → b ≡ false) × (front ≡ extension_fields p size.extensible b)
        → Steps gs (ask_string_by p content size K b) (done w)
        → Parted (λ us hs. IsLooseString p content (Some size) us (front ++ hs)) K gs w
    by false front gs h s2 =
        parted_as (λ us hs. InRoot content size us × (hs ≡ sized_fields p content size us))
        (λ us hs. IsLooseString p content (Some size) us (front ++ hs)) K K gs w (λ us. us)
        (λ us hs g. (
          g.0.1,
          (
            false,
            g.0.0,
            joined_is front hs (extension_fields p size.extensible false) (sized_fields p content size us) h.1 g.1,
          ),
        ))
        (λ us hs g. refl) (back_sized p content size K gs w bound.0 s2)
    by true front gs h s2 =
        parted_as (λ us hs. AreUnits content us × (hs ≡ all_part_fields p content (Some size) us))
        (λ us hs. IsLooseString p content (Some size) us (front ++ hs)) K K gs w (λ us. us)
        (λ us hs g. (
          g.0,
          (
            true,
            extensible_is size.extensible h.0,
            joined_is front hs (extension_fields p size.extensible true) (all_part_fields p content (Some size) us) h.1 g.1,
          ),
        ))
        (λ us hs g. refl) (back_all_parts p content (Some size) K gs w s2)

-- ---- counts
abbrev pub IsLooseCount : Path → Option Size → ℕ → List Field → Type 0
IsLooseCount p size n gs = (outside : Bool) × HasCountForm size outside n × (gs ≡ count_form p size outside n)

pub back_count : (p : Path) (size : Option Size) (K : ℕ → Prog) (fs : List Field) (w : Value) → IsSizeBounded size
    → Steps fs (ask_count p size K) (done w) → Parted (IsLooseCount p size) K fs w
unfolding ask_count
back_count p None K fs w bound s =
    parted_as (λ n gs. ((0 ≤ n) × (n ≤ 16383)) × (gs ≡ asked p pad 0 ∷ asked p (extent (whole 0 16383 None)) n ∷ []))
    (IsLooseCount p None) K K fs w
    (λ n. n) (λ n gs h. (false, h.0.1, h.1)) (λ n gs h. refl) (parted_aligned p (extent (whole 0 16383 None)) K fs w s)
back_count p (Some size) K fs w bound s =
    parted_then (λ b gs. (size.extensible ≡ false → b ≡ false) × (gs ≡ extension_fields p size.extensible b)) (IsLooseCount p (Some size))
    (ask_count_by p size K) K fs w (back_extension p size.extensible (ask_count_by p size K) fs w s) by
  where
    by : (b : Bool) (front gs : List Field) → (size.extensible ≡ false → b ≡ false) × (front ≡ extension_fields p size.extensible b)
        → Steps gs (ask_count_by p size K b) (done w)
        → Parted (λ n hs. IsLooseCount p (Some size) n (front ++ hs)) K gs w
    by false front gs h s2 =
        let span = size.high - size.low in
        parted_as (λ n hs. (n ≤ span) × (hs ≡ number_fields p fields.length span n))
        (λ n hs. IsLooseCount p (Some size) n (front ++ hs)) (λ n. K (size.low + n)) K gs w (λ n. size.low + n)
        (λ n hs g. let low : n ≤ span = g.0 in (
          false,
          in_the_root size (size.low + n) (omega arith) (omega (arith, bound.0, low)),
          joined_is front hs (extension_fields p size.extensible false) (number_fields p fields.length span n) h.1 g.1
              ∙ ap (λ (m : ℕ). extension_fields p size.extensible false ++ number_fields p fields.length span m)
              (let u : n ≡ size.low + n - size.low = omega arith in u),
        ))
        (λ n hs g. refl) (back_number p fields.length span (λ n. K (size.low + n)) gs w s2)
    by true front gs h s2 =
        let question : Ask = extent (whole 0 16383 (Some size)) in
        parted_as (λ n hs. ((0 ≤ n) × (n ≤ 16383)) × (hs ≡ asked p pad 0 ∷ asked p question n ∷ []))
        (λ n hs. IsLooseCount p (Some size) n (front ++ hs)) K K gs w (λ n. n)
        (λ n hs g. (
          true,
          (extensible_is size.extensible h.0, g.0.1),
          joined_is front hs (extension_fields p size.extensible true) (asked p pad 0 ∷ asked p question n ∷ []) h.1 g.1,
        ))
        (λ n hs g. refl) (parted_aligned p question K gs w s2)

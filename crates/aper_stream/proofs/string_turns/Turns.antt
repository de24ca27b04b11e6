-- What each field of a string leads to.
use Rattle.std.proofs.Common.{◌≡◌, ℕ, suc, ◌+◌, ◌-◌, ◌<◌, ◌≤◌, List, [], ◌∷◌, ◌++◌, Bool, true, false, Option, None, Some, Result, Ok, Err, refl, sym, ap, subst, ◌∙◌, append-nil, arith}
use mathlib.Core.Path.{fun_ext}
use Rattle.asn1_syntax.specs.declared.types.definition.Size.{Size}
use Rattle.aper_defs.specs.declared.reason.Reason.{Reason}
use Rattle.aper_defs.specs.Fields.{Path, RunUnit, extent, part, pad, character}
use Rattle.aper_defs.specs.Fields as fields
use Rattle.aper_defs.specs.Bits.{part_units}
use Rattle.aper_defs.specs.Parts.{Content, of_characters}
use Rattle.aper_defs.specs.Questions.{Prog, ask, take, ask_aligned, ask_number, ask_extension, ask_string, ask_units, ask_characters, ask_string_by, ask_all_parts}
use Rattle.aper_defs.specs.Reading.{Cursor, run}
use Rattle.proof_aper.proofs.followed.Plain.{plain_ask, plain_number}
use Rattle.proof_aper.proofs.followed.Told.{told_number, told_extension, told_aligned, told_take}
use Rattle.aper_cursor.specs.asking.Going.{fault_at, GoesOn, PutsOn}
use Rattle.aper_cursor.specs.strings.Contents.{content_of}
use Rattle.aper_cursor.proofs.strings.Onward.{string_as, varying_as}
use Rattle.aper_cursor.specs.declared.error.Unanswered.{Unanswered}
use Rattle.aper_cursor.specs.declared.error.Unanswered.TheVariants.{Wrong, Memory}
use Rattle.aper_stream.specs.declared.string_turns.field.Parts.{Parts}
use Rattle.aper_stream.specs.declared.string_turns.field.StringField.{StringField}
use Rattle.aper_stream.specs.declared.string_turns.field.StringField.TheVariants as next
use Rattle.aper_stream.specs.declared.string_turns.string.StringLeft.{StringLeft}
use Rattle.aper_stream.specs.string_turns.Strings.{parts_left, with_parts, field_left, string_left, IsRunOf, IsSameField, TakesField, TakesString, IsFieldBounded, AreOthersBounded}
use Rattle.aper_stream.proofs.string_turns.Fields.{answered_on, refused_on, goes_as, after_length, length_as, last_part, further_part, units_on}

-- ---- fields before units
-- nothing is asked
pub same_on : (content : Content) (field other : StringField) (c : Cursor) → IsSameField content field other
    → TakesField content field c c (Ok other)
same_on content field other c same = goes_as (field_left content field) (field_left content other) c same

pub all_parts_as : (content : Content) (outside : Option Size) (parts : Parts)
    → parts ≡ record { outside = outside; turns = 65; before = 0; previous = 65536 } → (p : Path) (K : List ℕ → Prog)
    → ask_all_parts p content outside K ≡ parts_left content parts p K
all_parts_as content outside parts e p K = ap (λ (o : Parts). parts_left content o p K) (sym e)

-- a string without a size
pub none_on : (content : Content) (field : StringField) (size : Option Size) (parts : Parts) (c : Cursor) → field ≡ next.All size → size ≡ None
    → parts ≡ record { outside = None; turns = 65; before = 0; previous = 65536 }
    → TakesField content field c c (Ok (next.Length parts))
unfolding ask_string
none_on content field size parts c is none e =
    same_on content field (next.Length parts) c (λ p K.
    ap (λ (f : StringField). field_left content f p K) is
    ∙ ap (λ (s : Option Size). ask_string p content s K) none
    ∙ all_parts_as content None parts e p K)

module _ (content : Content) (size : Size) (old new : Cursor) where
  extended_as : (p : Path) (K : List ℕ → Prog)
      → field_left content (next.All (Some size)) p K ≡ ask_extension p size.extensible (ask_string_by p content size K)
  extended_as p K = string_as p content size K

  pub extension_on : (b : Bool) (other : StringField) → GoesOn (λ p. ask_extension p size.extensible) old new (Ok b)
      → ((p : Path) (K : List ℕ → Prog) → ask_string_by p content size K b ≡ field_left content other p K)
      → TakesField content (next.All (Some size)) old new (Ok other)
  extension_on b other asked on =
      answered_on (λ p. ask_extension p size.extensible) (field_left content (next.All (Some size))) (λ p K. ask_string_by p content size K)
      extended_as old new (told_extension size.extensible) b (field_left content other) asked on

  pub extension_wrong : (reason : Reason) → GoesOn (λ p. ask_extension p size.extensible) old new (Err reason)
      → TakesField content (next.All (Some size)) old new (Err reason)
  extension_wrong reason asked =
      refused_on (λ p. ask_extension p size.extensible) (field_left content (next.All (Some size))) (λ p K. ask_string_by p content size K)
      extended_as old new reason asked

  module _ (span : ℕ) (span_is : span ≡ size.high - size.low) (varies : size.low ≡ size.high → ⊥) where
    sized_as : (p : Path) (K : List ℕ → Prog) → field_left content (next.Sized size) p K
        ≡ ask_number p fields.length span (λ n. ask p pad (λ z. ask_units p content (size.low + n) K))
    sized_as p K =
        varying_as p content size K varies
        ∙ ap (λ (k : ℕ). ask_number p fields.length k (λ n. ask p pad (λ z. ask_units p content (size.low + n) K))) (sym span_is)

    pub size_on : (n count : ℕ) → GoesOn (λ p. ask_number p fields.length span) old new (Ok n) → count ≡ size.low + n
        → TakesField content (next.Sized size) old new (Ok (next.Padded count))
    size_on n count asked e =
        answered_on (λ p. ask_number p fields.length span) (field_left content (next.Sized size))
        (λ p K n. ask p pad (λ z. ask_units p content (size.low + n) K)) sized_as old new
        (told_number (λ p. ask_number p fields.length span) (plain_number fields.length span)) n (field_left content (next.Padded count)) asked
        (λ p K. ap (λ (k : ℕ). ask p pad (λ z. ask_units p content k K)) (sym e))

    pub size_wrong : (reason : Reason) → GoesOn (λ p. ask_number p fields.length span) old new (Err reason)
        → TakesField content (next.Sized size) old new (Err reason)
    size_wrong reason asked =
        refused_on (λ p. ask_number p fields.length span) (field_left content (next.Sized size))
        (λ p K n. ask p pad (λ z. ask_units p content (size.low + n) K)) sized_as old new reason asked

module _ (content : Content) (count : ℕ) (old new : Cursor) where
  pub pad_on : (z : ℕ) → GoesOn (λ p. ask p pad) old new (Ok z)
      → TakesField content (next.Padded count) old new (Ok (next.Units count None))
  pad_on z asked =
      answered_on (λ p. ask p pad) (field_left content (next.Padded count)) (λ p K z. ask_units p content count K) (λ p K. refl) old new
      (told_number (λ p. ask p pad) (plain_ask pad)) z (field_left content (next.Units count None)) asked
      (λ p K. ap (λ (L : List ℕ → Prog). ask_units p content count L) (fun_ext (λ (us : List ℕ). refl)))

  pub pad_wrong : (reason : Reason) → GoesOn (λ p. ask p pad) old new (Err reason)
      → TakesField content (next.Padded count) old new (Err reason)
  pad_wrong reason asked =
      refused_on (λ p. ask p pad) (field_left content (next.Padded count)) (λ p K z. ask_units p content count K) (λ p K. refl) old new
      reason asked

module _ (content : Content) (parts : Parts) (turns : ℕ) (turns_is : parts.turns ≡ turns + 1) (old new : Cursor) where
  pub last_on : (n : ℕ) → GoesOn (λ p. ask_aligned p (extent (part parts.before parts.previous parts.outside))) old new (Ok n)
      → n < part_units → TakesField content (next.Length parts) old new (Ok (next.Units n None))
  last_on n asked few =
      answered_on (λ p. ask_aligned p (extent (part parts.before parts.previous parts.outside))) (field_left content (next.Length parts))
      (after_length content parts turns) (length_as content parts turns turns_is) old new
      (told_aligned (extent (part parts.before parts.previous parts.outside))) n (field_left content (next.Units n None)) asked
      (last_part content parts turns n few)

  pub further_on : (n : ℕ) (others : Parts)
      → GoesOn (λ p. ask_aligned p (extent (part parts.before parts.previous parts.outside))) old new (Ok n)
      → part_units ≤ n → others ≡ record { outside = parts.outside; turns = turns; before = parts.before + n; previous = n }
      → TakesField content (next.Length parts) old new (Ok (next.Units n (Some others)))
  further_on n others asked many is =
      answered_on (λ p. ask_aligned p (extent (part parts.before parts.previous parts.outside))) (field_left content (next.Length parts))
      (after_length content parts turns) (length_as content parts turns turns_is) old new
      (told_aligned (extent (part parts.before parts.previous parts.outside))) n (field_left content (next.Units n (Some others))) asked
      (further_part content parts others turns n many is)

  pub length_wrong : (reason : Reason)
      → GoesOn (λ p. ask_aligned p (extent (part parts.before parts.previous parts.outside))) old new (Err reason)
      → TakesField content (next.Length parts) old new (Err reason)
  length_wrong reason asked =
      refused_on (λ p. ask_aligned p (extent (part parts.before parts.previous parts.outside))) (field_left content (next.Length parts))
      (after_length content parts turns) (length_as content parts turns turns_is) old new reason asked

-- ---- units
abbrev FollowsUnits : Option Parts → StringField → Type 0
FollowsUnits others field = (content : Content) (p : Path) (K : List ℕ → Prog) → field_left content field p K ≡ with_parts content others p K []

module _ (s : StringLeft) (count : ℕ) (others : Option Parts) (is : s.field ≡ next.Units count others) (old new : Cursor) where
  units_as : (p : Path) (K : List ℕ → Prog) → string_left s p K
      ≡ ask_units p (content_of s.content) count (with_parts (content_of s.content) others p (λ more. K (s.units.items ++ more)))
  units_as p K = ap (λ (f : StringField). field_left (content_of s.content) f p (λ more. K (s.units.items ++ more))) is

  module _ (unit : RunUnit) (kind : IsRunOf (content_of s.content) unit) where
    run_as : (p : Path) (K : List ℕ → Prog) → string_left s p K
        ≡ take p unit count (with_parts (content_of s.content) others p (λ more. K (s.units.items ++ more)))
    run_as p K = units_as p K ∙ kind p count (with_parts (content_of s.content) others p (λ more. K (s.units.items ++ more)))

    pub run_on : (us : List ℕ) (t : StringLeft) → GoesOn (λ p. take p unit count) old new (Ok us) → t.content ≡ s.content
        → t.units.items ≡ s.units.items ++ us → FollowsUnits others t.field → TakesString s t old new (Ok tt)
    run_on us t asked same put follows =
        answered_on (λ p. take p unit count) (string_left s)
        (λ p K. with_parts (content_of s.content) others p (λ more. K (s.units.items ++ more))) run_as old new (told_take unit count) us
        (string_left t) asked
        (λ p K. ap (with_parts (content_of s.content) others p (λ more. K (s.units.items ++ more))) (sym (append-nil us))
        ∙ units_on (content_of s.content) others p K s.units.items us []
        ∙ ap (λ (os : List ℕ). with_parts (content_of s.content) others p (λ more. K (os ++ more)) []) (sym put)
        ∙ sym (follows (content_of s.content) p (λ more. K (t.units.items ++ more)))
        ∙ ap (λ x. field_left (content_of x) t.field p (λ more. K (t.units.items ++ more))) (sym same))

    -- a run that is put into an empty list
    pub run_refused : (e : Unanswered) (before after : List ℕ) → before ≡ []
        → PutsOn (λ p. take p unit count) old new before after (Err e) → TakesString s s old new (Err e)
    run_refused (Wrong reason) before after e h = (
      refused_on (λ p. take p unit count) (string_left s)
          (λ p K. with_parts (content_of s.content) others p (λ more. K (s.units.items ++ more))) run_as old new reason
          (λ p K. sym (ap (λ (os : List ℕ). run (take p unit count (λ us. K (os ++ us))) old) e) ∙ h p K),
      refl,
    )
    run_refused Memory before after e h = tt

  module _ (kind : content_of s.content ≡ of_characters) where
    characters_as : (p : Path) (K : List ℕ → Prog) → string_left s p K
        ≡ ask_characters p count (with_parts (content_of s.content) others p (λ more. K (s.units.items ++ more)))
    characters_as p K =
        units_as p K
        ∙ ap (λ (x : Content). ask_units p x count (with_parts (content_of s.content) others p (λ more. K (s.units.items ++ more)))) kind

    -- none is left
    pub no_character : (t : StringLeft) → count ≡ 0 → t.content ≡ s.content → t.units.items ≡ s.units.items → FollowsUnits others t.field
        → TakesString s t old old (Ok tt)
    no_character t none same put follows =
        goes_as (string_left s) (string_left t) old
        (λ p K. characters_as p K
        ∙ ap (λ (n : ℕ). ask_characters p n (with_parts (content_of s.content) others p (λ more. K (s.units.items ++ more)))) none
        ∙ ap (λ (os : List ℕ). with_parts (content_of s.content) others p (λ more. K (os ++ more)) []) (sym put)
        ∙ sym (follows (content_of s.content) p (λ more. K (t.units.items ++ more)))
        ∙ ap (λ x. field_left (content_of x) t.field p (λ more. K (t.units.items ++ more))) (sym same))

    module _ (left : ℕ) (some : count ≡ suc left) where
      character_as : (p : Path) (K : List ℕ → Prog) → string_left s p K ≡ ask p character (λ x. ask_characters p left
          (λ xs. with_parts (content_of s.content) others p (λ more. K (s.units.items ++ more)) (x ∷ xs)))
      character_as p K =
          characters_as p K
          ∙ ap (λ (n : ℕ). ask_characters p n (with_parts (content_of s.content) others p (λ more. K (s.units.items ++ more)))) some

      pub character_on : (x : ℕ) (t : StringLeft) → GoesOn (λ p. ask p character) old new (Ok x) → t.content ≡ s.content
          → t.units.items ≡ s.units.items ++ x ∷ [] → t.field ≡ next.Units left others → TakesString s t old new (Ok tt)
      character_on x t asked same put field =
          answered_on (λ p. ask p character) (string_left s)
          (λ p K x. ask_characters p left (λ xs. with_parts (content_of s.content) others p (λ more. K (s.units.items ++ more)) (x ∷ xs)))
          character_as old new (told_number (λ p. ask p character) (plain_ask character)) x (string_left t) asked
          (λ p K. ap (λ (L : List ℕ → Prog). ask_characters p left L)
          (fun_ext (λ (xs : List ℕ). units_on (content_of s.content) others p K s.units.items (x ∷ []) xs))
          ∙ ap (λ (os : List ℕ). ask_characters p left (with_parts (content_of s.content) others p (λ more. K (os ++ more)))) (sym put)
          ∙ ap (λ (y : Content). ask_units p y left (with_parts (content_of s.content) others p (λ more. K (t.units.items ++ more)))) (sym kind)
          ∙ ap (λ (f : StringField). field_left (content_of s.content) f p (λ more. K (t.units.items ++ more))) (sym field)
          ∙ ap (λ y. field_left (content_of y) t.field p (λ more. K (t.units.items ++ more))) (sym same))

      pub character_wrong : (reason : Reason) → GoesOn (λ p. ask p character) old new (Err reason)
          → TakesString s s old new (Err (Wrong reason))
      character_wrong reason asked = (
        refused_on (λ p. ask p character) (string_left s)
            (λ p K x. ask_characters p left (λ xs. with_parts (content_of s.content) others p (λ more. K (s.units.items ++ more)) (x ∷ xs)))
            character_as old new reason asked,
        refl,
      )

-- ---- bounds
others_later : (place later : ℕ) (others : Option Parts) → place ≤ later → AreOthersBounded place others → AreOthersBounded later others
others_later place later None h b = tt
others_later place later (Some others) h b = (omega (arith, h, b.0), b.1)

module _ (place later count : ℕ) (others : Option Parts) (field : StringField) (is : field ≡ next.Units count others)
    (bounded : IsFieldBounded place field) where
  here : (count ≤ 65536) × AreOthersBounded (place + count) others
  here = subst (λ (f : StringField). IsFieldBounded place f) is bounded

  pub after_bounded : (after : StringField) → place + count ≤ later
      → ((at : ℕ) → AreOthersBounded at others → IsFieldBounded at after) → IsFieldBounded later after
  after_bounded after h leads = leads later (others_later (place + count) later others h here.1)

  pub left_bounded : (left : ℕ) → count ≡ left + 1 → place + 1 ≤ later → IsFieldBounded later (next.Units left others)
  left_bounded left e h = (omega (arith, here.0, e), others_later (place + count) (later + left) others (omega (arith, e, h)) here.1)

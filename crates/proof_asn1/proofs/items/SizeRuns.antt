-- Sizes, and the type INTEGER.
use Rattle.std.proofs.Common.{◌≡◌, ℕ, ◌-◌, ◌^◌, suc, List, ◌∷◌, Bool, true, false, not, ◌||◌, ◌&&◌, refl, sym, ap, ◌∙◌, Option, Some, None}
use Rattle.std.specs.Prelude.{Err, ℤ, pos}
use Rattle.std.specs.Int.Signed.{le_z}
use Rattle.gnb_types.proofs.Choices.{by_test, by_choice}
use Rattle.asn1_tokens.specs.declared.token.Word.TheVariants as words
use Rattle.asn1_tokens.specs.declared.token.Sign.TheVariants as signs
use Rattle.asn1_tokens.specs.declared.token.Token.{Token}
use Rattle.asn1_tokens.specs.declared.token.Token.TheVariants as tokens
use Rattle.asn1_syntax.specs.declared.types.fault.ModuleReason.TheVariants as reasons
use Rattle.asn1_syntax.specs.declared.types.definition.Size.{Size}
use Rattle.asn1_syntax.specs.declared.types.definition.Definition.TheVariants as types
use Rattle.asn1_syntax.specs.types.Reading.{Left, begins_with_sign}
use Rattle.asn1_syntax.specs.types.inside.Reading.{fault_at}
use Rattle.asn1_syntax.specs.types.Sizes.{natural, least_high, integer_least, integer_greatest, greatest_beside}
use Rattle.asn1_syntax.specs.types.inside.Sizes.{ellipsis_at, size_end_at, size_rest_at, size_at, optional_size_at, integer_ellipsis_at, integer_at}
use Rattle.asn1_defs.specs.Bounds.{from_to, range_behind, sizes_text, is_wide, is_one_size}
use Rattle.asn1_defs.specs.Repetitions.{listed, numbers_behind, begins_assignment, assigned, types_assigned}
use Rattle.asn1_defs.specs.ItemFaults.{passes_bound, is_repeated}
use Rattle.proof_asn1.specs.items.JudgedItems.{bounds}
use Rattle.proof_asn1.proofs.asn1_proof_syntax.Exact.{a_sign}
use Rattle.proof_asn1.proofs.items.Runs.{Run, and_then, done, wrong, took, sign_first, sign_when, sign_then, word_then, bounded_then, natural_then}
use Rattle.proof_asn1.proofs.items.Views.{Same}
use Rattle.proof_asn1.proofs.items.Insides.{Inside, ended, nowhere, comma_inside, ellipsis_inside, bracket_ends}

-- behind the `, ...` of a size or an INTEGER, or where it doesn't stand
record Marked (deep : ℕ) (outer : List Token) (ts : Left) (here : List Token) : Type 0 where
  inside : Inside deep outer here
  ends : begins_with_sign signs.RightParenthesis ts ≡ true → is_one_size here ≡ false

ellipsis_run : {deep : ℕ} {outer before : List Token} (ts : Left) → Inside (suc deep) outer before → is_wide (tokens.Sign signs.Comma ∷ before) ≡ false → (begins_with_sign signs.Comma ts ≡ true → is_one_size before ≡ false) → (begins_with_sign signs.RightParenthesis ts ≡ true → is_one_size before ≡ false) → Run before ts (λ a. a.1) (λ a after. Marked (suc deep) outer a.1 after) (ellipsis_at ts)
unfolding ellipsis_at is_one_size
ellipsis_run {deep} {outer} {before} ts inside wide one_comma one_end = by_choice (Run before ts (λ (a : Bool × Left). a.1) (λ (a : Bool × Left) after. Marked (suc deep) outer a.1 after)) (begins_with_sign signs.Comma ts) _ _
    (λ h. sign_then signs.Comma ts (one_comma h) (λ a. sign_then signs.Ellipsis a wide (λ b. done (true, b) (record { inside = ellipsis_inside (comma_inside inside); ends = λ _. refl }))))
    (λ h. done (false, ts) (record { inside = inside; ends = one_end }))

-- the end of a size
size_end_run : {outer before : List Token} (low high : ℕ) (ts : Left) → Inside 2 outer before → is_wide (tokens.Sign signs.Comma ∷ before) ≡ false → (begins_with_sign signs.Comma ts ≡ true → is_one_size before ≡ false) → (begins_with_sign signs.RightParenthesis ts ≡ true → is_one_size before ≡ false) → Run before ts (λ a. a.1) (λ a after. Same outer after) (size_end_at low high ts)
unfolding size_end_at is_one_size
size_end_run low high ts inside wide one_comma one_end =
    and_then (ellipsis_run ts inside wide one_comma one_end) (λ extensible after marked.
    sign_when signs.RightParenthesis extensible.1 marked.ends (λ a.
    sign_then signs.RightParenthesis a refl (λ b.
    done (record { low = low; high = high; extensible = extensible.0 }, b) (ended refl (bracket_ends (bracket_ends marked.inside))))))

-- behind the first number of a size
size_rest_run : {outer : List Token} (is_text : Bool) (low : ℕ) (value : ℤ) (ts : Left) → sizes_text outer ≡ is_text → low ≡ natural value → Run (tokens.Number value ∷ tokens.Sign signs.LeftParenthesis ∷ tokens.Word words.Size ∷ tokens.Sign signs.LeftParenthesis ∷ outer) ts (λ a. a.1) (λ a after. Same outer after) (size_rest_at is_text low ts)
unfolding size_rest_at is_one_size is_wide range_behind passes_bound listed numbers_behind assigned types_assigned
size_rest_run {outer} is_text low value ts text is = by_choice (Run _ ts (λ (a : Size × Left). a.1) (λ (a : Size × Left) after. Same outer after)) (begins_with_sign signs.Range ts) _ _
    (λ h. sign_then signs.Range ts refl (λ a.
    natural_then (least_high is_text low) 65535 a high_range (λ n. refl) (λ high most _.
    size_end_run low high.0 high.1 (record { lists = λ depth. refl; ids = refl; codes = refl; names = refl; types = refl }) refl (λ _. refl) (λ _. refl))))
    (λ h. by_choice (Run _ ts (λ (a : Size × Left). a.1) (λ (a : Size × Left) after. Same outer after)) (is_text && (begins_with_sign signs.Comma ts || begins_with_sign signs.RightParenthesis ts)) _ _
    (λ both. fixed (and_parts _ _ both).0 (and_parts _ _ both).1)
    (λ neither. size_end_run low low ts (record { lists = λ depth. refl; ids = refl; codes = refl; names = refl; types = refl }) refl
    (λ comma. text ∙ no_text is_text _ _ neither comma)
    (λ bracket. text ∙ no_text_end is_text _ _ neither bracket)))
  where
    high_range : from_to (pos (least_high (sizes_text outer) (natural value))) (pos 65535) ≡ from_to (pos (least_high is_text low)) (pos 65535)
    high_range = ap (λ (b : Bool). from_to (pos (least_high b (natural value))) (pos 65535)) text ∙ ap (λ (n : ℕ). from_to (pos (least_high is_text n)) (pos 65535)) (sym is)

    and_parts : (a b : Bool) → a && b ≡ true → (a ≡ true) × (b ≡ true)
    and_parts true b h = (refl, h)
    and_parts false b h = cc

    no_text : (a b c : Bool) → a && (b || c) ≡ false → b ≡ true → a ≡ false
    no_text false b c h e = refl
    no_text true true c h e = cc
    no_text true false c h e = cc

    no_text_end : (a b c : Bool) → a && (b || c) ≡ false → c ≡ true → a ≡ false
    no_text_end false b c h e = refl
    no_text_end true b true h e = never b h
      where
        never : (b : Bool) → b || true ≡ false → true ≡ false
        never true f = f
        never false f = f
    no_text_end true b false h e = cc

    fixed : is_text ≡ true → begins_with_sign signs.Comma ts || begins_with_sign signs.RightParenthesis ts ≡ true → Run (tokens.Number value ∷ tokens.Sign signs.LeftParenthesis ∷ tokens.Word words.Size ∷ tokens.Sign signs.LeftParenthesis ∷ outer) ts (λ (a : Size × Left). a.1) (λ (a : Size × Left) after. Same outer after) (Err (fault_at reasons.Bounds ts))
    fixed for_text there = by_test (Run (tokens.Number value ∷ tokens.Sign signs.LeftParenthesis ∷ tokens.Word words.Size ∷ tokens.Sign signs.LeftParenthesis ∷ outer) ts (λ (a : Size × Left). a.1) (λ (a : Size × Left) after. Same outer after) (Err (fault_at reasons.Bounds ts))) (begins_with_sign signs.Comma ts)
        (λ comma. wrong {t = tokens.Sign signs.Comma} (record { is = a_sign signs.Comma _ comma; behind = refl }) refl (bounds (text ∙ for_text)))
        (λ not. wrong {t = tokens.Sign signs.RightParenthesis} (record { is = a_sign signs.RightParenthesis _ (or_right _ _ there not); behind = refl }) refl (bounds (text ∙ for_text)))
      where
        or_right : (a b : Bool) → a || b ≡ true → a ≡ false → b ≡ true
        or_right true b h g = cc
        or_right false b h g = h

pub size_run : {before : List Token} (is_text : Bool) (ts : Left) → sizes_text before ≡ is_text → Run before ts (λ a. a.1) (λ a after. Same before after) (size_at is_text ts)
unfolding size_at range_behind
size_run is_text ts text =
    sign_then signs.LeftParenthesis ts refl (λ a.
    word_then words.Size a (λ b.
    sign_then signs.LeftParenthesis b refl (λ c.
    natural_then 1 65535 c refl (λ n. refl) (λ low value is.
    size_rest_run is_text low.0 value low.1 text is))))

-- a size, or none, where a type may end
pub optional_size_run : {before : List Token} (is_text : Bool) (ts : Left) → begins_assignment before ≡ true → sizes_text before ≡ is_text → Run before ts (λ a. a.1) (λ a after. Same before after) (optional_size_at is_text ts)
unfolding optional_size_at
optional_size_run {before} is_text ts ends text = by_choice (Run before ts (λ (a : Option Size × Left). a.1) (λ (a : Option Size × Left) after. Same before after)) (begins_with_sign signs.LeftParenthesis ts) _ _
    (λ h. and_then (size_run is_text ts text) (λ found after same. done (Some found.0, found.1) same))
    (λ h. done (None, ts) (ended ends nowhere))

-- behind the bounds of an INTEGER
integer_ellipsis_run : {outer : List Token} (low high : ℤ) (ts : Left) → Run (tokens.Number high ∷ tokens.Sign signs.Range ∷ tokens.Number low ∷ tokens.Sign signs.LeftParenthesis ∷ tokens.Word words.Integer ∷ outer) ts (λ a. a.1) (λ a after. Marked 1 (tokens.Word words.Integer ∷ outer) a.1 after) (integer_ellipsis_at high ts)
unfolding integer_ellipsis_at is_one_size is_wide passes_bound is_repeated listed numbers_behind assigned types_assigned
integer_ellipsis_run {outer} low high ts = by_choice (Run _ ts (λ (a : Bool × Left). a.1) (λ (a : Bool × Left) after. Marked 1 (tokens.Word words.Integer ∷ outer) a.1 after)) (begins_with_sign signs.Comma ts) _ _
    (λ h. sign_then signs.Comma ts refl (λ a.
    sign_first signs.Ellipsis a (λ b _ stands.
    by_choice (Run _ a (λ (x : Bool × Left). x.1) (λ (x : Bool × Left) after. Marked 1 (tokens.Word words.Integer ∷ outer) x.1 after)) (le_z high (pos (2 ^ 63 - 1))) _ _
    (λ small. took stands refl (ap not small) refl (done (true, b) (record { inside = record { lists = λ depth. refl; ids = refl; codes = refl; names = refl; types = refl }; ends = λ _. refl })))
    (λ great. wrong stands refl (bounds (ap not great))))))
    (λ h. done (false, ts) (record { inside = record { lists = λ depth. refl; ids = refl; codes = refl; names = refl; types = refl }; ends = λ _. refl }))

-- behind the word INTEGER
pub integer_run : {outer : List Token} (ts : Left) → Run (tokens.Word words.Integer ∷ outer) ts (λ a. a.1) (λ a after. Same (tokens.Word words.Integer ∷ outer) after) (integer_at ts)
unfolding integer_at range_behind is_one_size
integer_run ts =
    sign_then signs.LeftParenthesis ts refl (λ a.
    bounded_then integer_least integer_greatest a refl (λ n. refl) (λ low.
    sign_then signs.Range low.1 refl (λ b.
    bounded_then low.0 (greatest_beside low.0) b refl (λ n. refl) (λ high.
    and_then (integer_ellipsis_run low.0 high.0 high.1) (λ extensible after marked.
    sign_when signs.RightParenthesis extensible.1 marked.ends (λ c.
    done (types.Integer low.0 high.0 extensible.0, c) (ended refl (bracket_ends marked.inside))))))))

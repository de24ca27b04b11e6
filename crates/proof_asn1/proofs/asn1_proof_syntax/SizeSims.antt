-- Numbers, sizes and bounds.
use Rattle.std.proofs.Common.{◌≡◌, ℕ, ◌-◌, ◌^◌, List, [], ◌∷◌, Bool, true, false, ◌||◌, ◌&&◌, refl, inl, inr, Some, None}
use Rattle.std.specs.Prelude.{Ok, Err, ℤ, pos}
use Rattle.std.specs.Int.Signed.{le_z}
use Rattle.gnb_types.proofs.Choices.{by_test, by_choice}
use Rattle.asn1_tokens.specs.declared.token.Word.TheVariants as words
use Rattle.asn1_tokens.specs.declared.token.Sign.TheVariants as signs
use Rattle.asn1_tokens.specs.Stream.{Placed, first_token}
use Rattle.asn1_syntax.specs.declared.types.fault.ModuleReason.TheVariants as reasons
use Rattle.asn1_syntax.specs.types.Reading.{begins_with_sign}
use Rattle.asn1_syntax.specs.types.inside.Reading.{fault_at}
use Rattle.asn1_syntax.specs.types.Sizes.{natural, least_high, integer_least, integer_greatest, greatest_beside}
use Rattle.asn1_syntax.specs.types.inside.Sizes.{bounded_at, natural_at, ellipsis_at, size_end_at, size_rest_at, size_at, optional_size_at, integer_ellipsis_at, integer_at}
use Rattle.asn1_defs.specs.Grammar.{ANumber, Mark, OptionalSize, HighSize, Symbol, Item, Whole, sign, size, comma, ellipsis, open_bracket, close_bracket, productions}
use Rattle.proof_asn1.proofs.grammar.Predict.{chosen}
use Rattle.proof_asn1.proofs.grammar.Steps.{here}
use Rattle.proof_asn1.proofs.asn1_proof_syntax.Sim.{Sim, goes, fails, fit, and_then, and_so, first, next, maybe, fits_sign, chosen_one, chosen_other, word_sim, sign_sim, number_sim, weaker, done, expands, misused}

pub bounded_sim : (low high : ℤ) (symbols : List Symbol) (ts : List Placed) → Sim 1 (Item ANumber ∷ symbols) ts (λ _. symbols) (λ a. a.1) (bounded_at low high ts)
unfolding bounded_at
bounded_sim low high symbols ts = and_so (number_sim symbols ts) (λ value e steps le.
    by_choice (Sim 1 (Item ANumber ∷ symbols) ts (λ _. symbols) (λ a. a.1)) (le_z low value.0 && le_z value.0 high) (Ok (value.0, value.1)) (Err (fault_at reasons.Bounds ts))
    (λ h. goes steps le)
    (λ h. misused (fault_at reasons.Bounds ts) steps le refl (inl refl)))

pub natural_sim : (low high : ℕ) (symbols : List Symbol) (ts : List Placed) → Sim 1 (Item ANumber ∷ symbols) ts (λ _. symbols) (λ a. a.1) (natural_at low high ts)
unfolding natural_at
natural_sim low high symbols ts = and_then (bounded_sim (pos low) (pos high) symbols ts) (λ value e le. done (natural value.0, value.1) refl refl)

-- whether `, ...` stands there
mark_there : (ts : List Placed) → begins_with_sign signs.Comma ts ≡ true → chosen Mark (first_token ts) ≡ Some (comma ∷ ellipsis ∷ [])
unfolding chosen productions
mark_there ts h = chosen_one _ _ _ (fits_sign signs.Comma ts true h)

no_mark : (ts : List Placed) → begins_with_sign signs.Comma ts ≡ false → chosen Mark (first_token ts) ≡ Some []
unfolding chosen productions
no_mark ts h = chosen_other _ _ _ _ (fits_sign signs.Comma ts false h) refl

pub ellipsis_sim : (symbols : List Symbol) (ts : List Placed) → Sim 0 (Whole Mark ∷ symbols) ts (λ _. symbols) (λ a. a.1) (ellipsis_at ts)
unfolding ellipsis_at
ellipsis_sim symbols ts = by_choice (Sim 0 (Whole Mark ∷ symbols) ts (λ _. symbols) (λ a. a.1)) (begins_with_sign signs.Comma ts) _ _
    (λ h. expands Mark (comma ∷ ellipsis ∷ []) (mark_there ts h)
    (next (sign_sim signs.Comma (ellipsis ∷ symbols) ts) (λ a _.
    next (sign_sim signs.Ellipsis symbols a) (λ b _. done (true, b) refl refl))))
    (λ h. expands Mark [] (no_mark ts h) (done (false, ts) refl refl))

-- the end of a size
size_end : List Symbol → List Symbol
size_end symbols = Whole Mark ∷ close_bracket ∷ close_bracket ∷ symbols

size_end_sim : (low high : ℕ) (symbols : List Symbol) (ts : List Placed) → Sim 0 (size_end symbols) ts (λ _. symbols) (λ a. a.1) (size_end_at low high ts)
unfolding size_end_at size_end
size_end_sim low high symbols ts =
    maybe (ellipsis_sim (close_bracket ∷ close_bracket ∷ symbols) ts) (λ extensible _.
    next (sign_sim signs.RightParenthesis (close_bracket ∷ symbols) extensible.1) (λ a _.
    next (sign_sim signs.RightParenthesis symbols a) (λ b _. done (record { low = low; high = high; extensible = extensible.0 }, b) refl refl)))

high_there : (ts : List Placed) → begins_with_sign signs.Range ts ≡ true → chosen HighSize (first_token ts) ≡ Some (sign signs.Range ∷ Item ANumber ∷ [])
unfolding chosen productions
high_there ts h = chosen_one _ _ _ (fits_sign signs.Range ts true h)

no_high : (ts : List Placed) → begins_with_sign signs.Range ts ≡ false → chosen HighSize (first_token ts) ≡ Some []
unfolding chosen productions
no_high ts h = chosen_other _ _ _ _ (fits_sign signs.Range ts false h) refl

-- a size of a text without a high bound is outside the bounds where the grammar goes on
fixed_wrong : {A : Type 0} {left : A → List Symbol} {rest : A → List Placed} (symbols : List Symbol) (ts : List Placed) → begins_with_sign signs.Comma ts || begins_with_sign signs.RightParenthesis ts ≡ true → Sim 0 (size_end symbols) ts left rest (Err (fault_at reasons.Bounds ts))
unfolding size_end
fixed_wrong symbols ts h = by_test _ (begins_with_sign signs.Comma ts)
    (λ there. expands Mark (comma ∷ ellipsis ∷ []) (mark_there ts there)
    (fails (record { left = _; us = ts; steps = here; at = refl; why = inr (fit (fits_sign signs.Comma ts true there), inl refl) })))
    (λ not. expands Mark [] (no_mark ts not)
    (fails (record { left = close_bracket ∷ close_bracket ∷ symbols; us = ts; steps = here; at = refl; why = inr (fit (fits_sign signs.RightParenthesis ts true (or_right _ _ h not)), inl refl) })))
  where
    or_right : (a b : Bool) → a || b ≡ true → a ≡ false → b ≡ true
    or_right true b h g = cc
    or_right false b h g = h

size_rest_sim : (is_text : Bool) (low : ℕ) (symbols : List Symbol) (ts : List Placed) → Sim 0 (Whole HighSize ∷ size_end symbols) ts (λ _. symbols) (λ a. a.1) (size_rest_at is_text low ts)
unfolding size_rest_at
size_rest_sim is_text low symbols ts = by_choice (Sim 0 (Whole HighSize ∷ size_end symbols) ts (λ _. symbols) (λ a. a.1)) (begins_with_sign signs.Range ts) _ _
    (λ h. expands HighSize (sign signs.Range ∷ Item ANumber ∷ []) (high_there ts h)
    (next (sign_sim signs.Range (Item ANumber ∷ size_end symbols) ts) (λ a _.
    next (natural_sim (least_high is_text low) 65535 (size_end symbols) a) (λ high _.
    size_end_sim low high.0 symbols high.1))))
    (λ h. expands HighSize [] (no_high ts h)
    (by_choice (Sim 0 (size_end symbols) ts (λ _. symbols) (λ a. a.1)) (is_text && (begins_with_sign signs.Comma ts || begins_with_sign signs.RightParenthesis ts)) _ _
    (λ both. fixed_wrong symbols ts (and_other is_text _ both))
    (λ _. size_end_sim low low symbols ts)))
  where
    and_other : (a b : Bool) → a && b ≡ true → b ≡ true
    and_other true b h = h
    and_other false b h = cc

pub size_sim : (is_text : Bool) (symbols : List Symbol) (ts : List Placed) → Sim 1 (size symbols) ts (λ _. symbols) (λ a. a.1) (size_at is_text ts)
unfolding size_at size_end
size_sim is_text symbols ts =
    first (sign_sim signs.LeftParenthesis _ ts) (λ a _.
    next (word_sim words.Size _ a) (λ b _.
    next (sign_sim signs.LeftParenthesis _ b) (λ c _.
    next (natural_sim 1 65535 (Whole HighSize ∷ size_end symbols) c) (λ low _.
    size_rest_sim is_text low.0 symbols low.1))))

size_there : (ts : List Placed) → begins_with_sign signs.LeftParenthesis ts ≡ true → chosen OptionalSize (first_token ts) ≡ Some (size [])
unfolding chosen productions
size_there ts h = chosen_one _ _ _ (fits_sign signs.LeftParenthesis ts true h)

no_size : (ts : List Placed) → begins_with_sign signs.LeftParenthesis ts ≡ false → chosen OptionalSize (first_token ts) ≡ Some []
unfolding chosen productions
no_size ts h = chosen_other _ _ _ _ (fits_sign signs.LeftParenthesis ts false h) refl

pub optional_size_sim : (is_text : Bool) (symbols : List Symbol) (ts : List Placed) → Sim 0 (Whole OptionalSize ∷ symbols) ts (λ _. symbols) (λ a. a.1) (optional_size_at is_text ts)
unfolding optional_size_at
optional_size_sim is_text symbols ts = by_choice (Sim 0 (Whole OptionalSize ∷ symbols) ts (λ _. symbols) (λ a. a.1)) (begins_with_sign signs.LeftParenthesis ts) _ _
    (λ h. expands OptionalSize (size []) (size_there ts h) (next (size_sim is_text symbols ts) (λ found _. done (Some found.0, found.1) refl refl)))
    (λ h. expands OptionalSize [] (no_size ts h) (done (None, ts) refl refl))

integer_ellipsis_sim : (high : ℤ) (symbols : List Symbol) (ts : List Placed) → Sim 0 (Whole Mark ∷ symbols) ts (λ _. symbols) (λ a. a.1) (integer_ellipsis_at high ts)
unfolding integer_ellipsis_at
integer_ellipsis_sim high symbols ts = by_choice (Sim 0 (Whole Mark ∷ symbols) ts (λ _. symbols) (λ a. a.1)) (begins_with_sign signs.Comma ts) _ _
    (λ h. expands Mark (comma ∷ ellipsis ∷ []) (mark_there ts h)
    (next (sign_sim signs.Comma (ellipsis ∷ symbols) ts) (λ a _.
    weaker (and_so (sign_sim signs.Ellipsis symbols a) (λ b e steps le.
    by_choice (Sim 1 (ellipsis ∷ symbols) a (λ _. symbols) (λ x. x.1)) (le_z high (pos (2 ^ 63 - 1))) _ _
    (λ _. goes steps le)
    (λ _. misused (fault_at reasons.Bounds a) steps le refl (inl refl)))))))
    (λ h. expands Mark [] (no_mark ts h) (done (false, ts) refl refl))

-- behind the word INTEGER
pub integer_sim : (symbols : List Symbol) (ts : List Placed) → Sim 1 (open_bracket ∷ Item ANumber ∷ sign signs.Range ∷ Item ANumber ∷ Whole Mark ∷ close_bracket ∷ symbols) ts (λ _. symbols) (λ a. a.1) (integer_at ts)
unfolding integer_at
integer_sim symbols ts =
    first (sign_sim signs.LeftParenthesis _ ts) (λ a _.
    next (bounded_sim integer_least integer_greatest _ a) (λ low _.
    next (sign_sim signs.Range _ low.1) (λ b _.
    next (bounded_sim low.0 (greatest_beside low.0) _ b) (λ high _.
    maybe (integer_ellipsis_sim high.0 (close_bracket ∷ symbols) high.1) (λ extensible _.
    next (sign_sim signs.RightParenthesis symbols extensible.1) (λ c _. done (_, c) refl refl))))))

-- What single items and sizes that were read mean.
use Rattle.std.proofs.Common.{◌≡◌, ℕ, ◌^◌, ◌-◌, List, [], ◌∷◌, Bool, true, ◌&&◌, ◌||◌, refl, Option}
use Rattle.std.specs.Prelude.{Ok, Err, ℤ, pos, negsuc}
use Rattle.std.specs.Int.Signed.{le_z}
use Rattle.gnb_types.proofs.Choices.{by_choice}
use Rattle.asn1_tokens.specs.declared.token.Word.{Word}
use Rattle.asn1_tokens.specs.declared.token.Word.TheVariants as words
use Rattle.asn1_tokens.specs.declared.token.Sign.{Sign}
use Rattle.asn1_tokens.specs.declared.token.Sign.TheVariants as signs
use Rattle.asn1_tokens.specs.declared.token.Token.{Token}
use Rattle.asn1_tokens.specs.declared.token.Token.TheVariants as tokens
use Rattle.asn1_tokens.specs.Stream.{first_token, others}
use Rattle.asn1_syntax.specs.declared.types.definition.Size.{Size}
use Rattle.asn1_syntax.specs.declared.types.fault.ModuleReason.TheVariants as reasons
use Rattle.asn1_syntax.specs.types.Reading.{Left, begins_with, begins_with_sign}
use Rattle.asn1_syntax.specs.types.inside.Reading.{fault_at, unexpected, word_at, sign_at, upper_of, upper_at, lower_of, lower_at, number_of, number_at}
use Rattle.asn1_syntax.specs.types.Sizes.{natural, least_high}
use Rattle.asn1_syntax.specs.types.inside.Sizes.{bounded_at, natural_at, ellipsis_at, size_end_at, size_rest_at, size_at, optional_size_at, integer_ellipsis_at}
use Rattle.proof_asn1.proofs.asn1_proof_syntax.Gives.{Gives, ok, no_value, and_gives, gives_so, and_parts}
use Rattle.proof_asn1.proofs.asn1_proof_syntax.Exact.{a_word, a_sign}
use Rattle.asn1_defs.specs.ItemMeanings.{The, is, Extends, extends, doesn't, HighBound, given, same, ASize, size, OptionalSize, sized, unsized}

-- what stands first, where something does
pub the_first : (token : Token) (ts : Left) → first_token ts ≡ token → (tokens.EndOfText ≡ token → ⊥) → The token ts (others ts)
the_first token [] first some = absurd (some first)
the_first token (p ∷ ts) first some = is first

pub the_word_gives : (w : Word) (ts : Left) → Gives (λ us. The (tokens.Word w) ts us) (word_at w ts)
unfolding word_at
the_word_gives w ts = by_choice (Gives (λ us. The (tokens.Word w) ts us)) (begins_with w ts) (Ok (others ts)) (Err (unexpected ts))
    (λ h. ok (the_first (tokens.Word w) ts (a_word w (first_token ts) h) (λ e. cc)))
    (λ h. no_value)

pub the_sign_gives : (s : Sign) (ts : Left) → Gives (λ us. The (tokens.Sign s) ts us) (sign_at s ts)
unfolding sign_at
the_sign_gives s ts = by_choice (Gives (λ us. The (tokens.Sign s) ts us)) (begins_with_sign s ts) (Ok (others ts)) (Err (unexpected ts))
    (λ h. ok (the_first (tokens.Sign s) ts (a_sign s (first_token ts) h) (λ e. cc)))
    (λ h. no_value)

pub the_upper_gives : (ts : Left) → Gives (λ (a : List ℕ × Left). The (tokens.Upper a.0) ts a.1) (upper_at ts)
unfolding upper_at
the_upper_gives ts = go (first_token ts) refl
  where
    go : (t : Token) → first_token ts ≡ t → Gives (λ (a : List ℕ × Left). The (tokens.Upper a.0) ts a.1) (upper_of t ts)
    go (tokens.Upper name) e = ok (the_first (tokens.Upper name) ts e (λ f. cc))
    go _ e = no_value

pub the_lower_gives : (ts : Left) → Gives (λ (a : List ℕ × Left). The (tokens.Lower a.0) ts a.1) (lower_at ts)
unfolding lower_at
the_lower_gives ts = go (first_token ts) refl
  where
    go : (t : Token) → first_token ts ≡ t → Gives (λ (a : List ℕ × Left). The (tokens.Lower a.0) ts a.1) (lower_of t ts)
    go (tokens.Lower name) e = ok (the_first (tokens.Lower name) ts e (λ f. cc))
    go _ e = no_value

pub any_number_gives : (ts : Left) → Gives (λ (a : ℤ × Left). The (tokens.Number a.0) ts a.1) (number_at ts)
unfolding number_at
any_number_gives ts = go (first_token ts) refl
  where
    go : (t : Token) → first_token ts ≡ t → Gives (λ (a : ℤ × Left). The (tokens.Number a.0) ts a.1) (number_of t ts)
    go (tokens.Number value) e = ok (the_first (tokens.Number value) ts e (λ f. cc))
    go _ e = no_value

-- a number that isn't below this one
abbrev FromLow : ℤ → Left → ℤ × Left → Type 0
FromLow low ts a = The (tokens.Number a.0) ts a.1 × (le_z low a.0 ≡ true)

bounded_gives : (low high : ℤ) (ts : Left) → Gives (FromLow low ts) (bounded_at low high ts)
unfolding bounded_at
bounded_gives low high ts = and_gives (any_number_gives ts) (λ value t.
    by_choice (Gives (FromLow low ts)) (le_z low value.0 && le_z value.0 high) (Ok (value.0, value.1)) (Err (fault_at reasons.Bounds ts))
    (λ h. ok (t, (and_parts _ _ h).0))
    (λ h. no_value))

pub the_number_gives : (low high : ℤ) (ts : Left) → Gives (λ (a : ℤ × Left). The (tokens.Number a.0) ts a.1) (bounded_at low high ts)
the_number_gives low high ts = gives_so (bounded_gives low high ts) (λ a t. t.0)

pub the_natural_gives : (low high : ℕ) (ts : Left) → Gives (λ (a : ℕ × Left). The (tokens.Number (pos a.0)) ts a.1) (natural_at low high ts)
unfolding natural_at
the_natural_gives low high ts = and_gives (bounded_gives (pos low) (pos high) ts) (λ value t. go value.0 value.1 t)
  where
    go : (value : ℤ) (us : Left) → FromLow (pos low) ts (value, us) → Gives (λ (a : ℕ × Left). The (tokens.Number (pos a.0)) ts a.1) (Ok (natural value, us))
    go (pos n) us t = ok t.0
    go (negsuc n) us t = absurd (never t.1)
      where
        never : le_z (pos low) (negsuc n) ≡ true → ⊥
        never e = cc

-- ---- extension marks

abbrev Marks : Left → Bool × Left → Type 0
Marks ts a = Extends ts a.0 a.1

extends_gives : (ts : Left) → Gives (Marks ts) (ellipsis_at ts)
unfolding ellipsis_at
extends_gives ts = by_choice (Gives (Marks ts)) (begins_with_sign signs.Comma ts) _ _
    (λ _. and_gives (the_sign_gives signs.Comma ts) (λ a t1.
    and_gives (the_sign_gives signs.Ellipsis a) (λ b t2. ok (extends t1 t2))))
    (λ h. ok (doesn't h))

pub integer_extends_gives : (high : ℤ) (ts : Left) → Gives (λ (a : Bool × Left). Extends ts a.0 a.1) (integer_ellipsis_at high ts)
unfolding integer_ellipsis_at
integer_extends_gives high ts = by_choice (Gives (Marks ts)) (begins_with_sign signs.Comma ts) _ _
    (λ _. and_gives (the_sign_gives signs.Comma ts) (λ a t1.
    and_gives (the_sign_gives signs.Ellipsis a) (λ b t2.
    by_choice (Gives (Marks ts)) (le_z high (pos (2 ^ 63 - 1))) _ _ (λ _. ok (extends t1 t2)) (λ _. no_value))))
    (λ h. ok (doesn't h))

-- ---- sizes

-- the end of a size, behind its numbers, and behind its first one
data SizeEnd (low high : ℕ) (ts : Left) : Size × Left → Type 0 where
  size_end : {extensible : Bool} {f g rest : Left} → Extends ts extensible f → The (tokens.Sign signs.RightParenthesis) f g → The (tokens.Sign signs.RightParenthesis) g rest
      → SizeEnd low high ts (record { low = low; high = high; extensible = extensible }, rest)

data SizeRest (low : ℕ) (ts : Left) : Size × Left → Type 0 where
  size_rest : {high : ℕ} {e : Left} {a : Size × Left} → HighBound low ts high e → SizeEnd low high e a → SizeRest low ts a

size_end_gives : (low high : ℕ) (ts : Left) → Gives (SizeEnd low high ts) (size_end_at low high ts)
unfolding size_end_at
size_end_gives low high ts = and_gives (extends_gives ts) (λ extensible t1.
    and_gives (the_sign_gives signs.RightParenthesis extensible.1) (λ a t2.
    and_gives (the_sign_gives signs.RightParenthesis a) (λ b t3. ok (size_end t1 t2 t3))))

size_rest_gives : (is_text : Bool) (low : ℕ) (ts : Left) → Gives (SizeRest low ts) (size_rest_at is_text low ts)
unfolding size_rest_at
size_rest_gives is_text low ts = by_choice (Gives (SizeRest low ts)) (begins_with_sign signs.Range ts) _ _
    (λ _. and_gives (the_sign_gives signs.Range ts) (λ a t1.
    and_gives (the_natural_gives (least_high is_text low) 65535 a) (λ high t2.
    gives_so (size_end_gives low high.0 high.1) (λ b t3. size_rest (given t1 t2) t3))))
    (λ h. by_choice (Gives (SizeRest low ts)) (is_text && (begins_with_sign signs.Comma ts || begins_with_sign signs.RightParenthesis ts)) _ _
    (λ _. no_value)
    (λ _. gives_so (size_end_gives low low ts) (λ b t. size_rest (same h) t)))

pub size_gives : (is_text : Bool) (ts : Left) → Gives (λ (a : Size × Left). ASize ts a.0 a.1) (size_at is_text ts)
unfolding size_at
size_gives is_text ts = and_gives (the_sign_gives signs.LeftParenthesis ts) (λ a t1.
    and_gives (the_word_gives words.Size a) (λ b t2.
    and_gives (the_sign_gives signs.LeftParenthesis b) (λ c t3.
    and_gives (the_natural_gives 1 65535 c) (λ low t4.
    gives_so (size_rest_gives is_text low.0 low.1) (λ found t5. go a b c low t1 t2 t3 t4 found t5)))))
  where
    go : (a b c : Left) (low : ℕ × Left) → The (tokens.Sign signs.LeftParenthesis) ts a → The (tokens.Word words.Size) a b → The (tokens.Sign signs.LeftParenthesis) b c → The (tokens.Number (pos low.0)) c low.1 → (found : Size × Left) → SizeRest low.0 low.1 found → ASize ts found.0 found.1
    go a b c low t1 t2 t3 t4 found (size_rest bound (size_end mark t6 t7)) = size t1 t2 t3 t4 bound mark t6 t7

pub optional_size_gives : (is_text : Bool) (ts : Left) → Gives (λ (a : Option Size × Left). OptionalSize ts a.0 a.1) (optional_size_at is_text ts)
unfolding optional_size_at
optional_size_gives is_text ts = by_choice (Gives (λ (a : Option Size × Left). OptionalSize ts a.0 a.1)) (begins_with_sign signs.LeftParenthesis ts) _ _
    (λ _. and_gives (size_gives is_text ts) (λ found t. ok (sized t)))
    (λ h. ok (unsized h))

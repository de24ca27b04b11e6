-- Numbers and sizes.
use Rattle.std.proofs.Common.{◌≡◌, ℕ, ◌-◌, ◌^◌, List, ◌∷◌, Bool, true, false, cond, ◌&&◌, refl, sym, ap, ◌∙◌, subst, arith, Option}
use Rattle.std.specs.Prelude.{Ok, Err, ℤ, pos, negsuc, nat_le, ◌==◌}
use Rattle.std.specs.Int.Signed.{le_z}
use Rattle.gnb_types.proofs.Choices.{by_choice}
use Rattle.asn1_tokens.specs.declared.token.Word.TheVariants as words
use Rattle.asn1_tokens.specs.declared.token.Sign.TheVariants as signs
use Rattle.asn1_tokens.specs.declared.token.Token.{Token}
use Rattle.asn1_tokens.specs.declared.token.Token.TheVariants as tokens
use Rattle.asn1_tokens.specs.Stream.{Placed}
use Rattle.asn1_syntax.specs.declared.types.fault.ModuleReason.TheVariants as reasons
use Rattle.asn1_syntax.specs.declared.types.definition.Size.{Size}
use Rattle.asn1_syntax.specs.declared.types.definition.Definition.{Definition}
use Rattle.asn1_syntax.specs.types.Reading.{Left, begins_with_sign}
use Rattle.asn1_syntax.specs.types.inside.Reading.{fault_at}
use Rattle.asn1_syntax.specs.types.Sizes.{natural as natural_of, least_high, integer_least, integer_greatest, greatest_beside}
use Rattle.asn1_syntax.specs.types.inside.Sizes.{bounded_at, natural_at, ellipsis_at, size_end_at, size_rest_at, size_at, optional_size_at, integer_ellipsis_at, integer_at}
use Rattle.law_asn1.specs.text.Written.{Written, word, sign, natural, mark_text, high_text, size_text, optional_size_text, definition_text}
use Rattle.proof_asn1.proofs.asn1_proof_syntax.Gives.{Gives, ok, no_value, and_gives, gives_so, and_parts}
use Rattle.law_asn1.proofs.text.Taken.{Taken, ◌then◌, nothing_taken, written_as, word_gives, sign_gives, number_gives}

pub bounded_gives : (low high : ℤ) (ts : List Placed) → Gives (λ (a : ℤ × Left). Taken (λ t. tokens.Number a.0 ∷ t) ts a.1 × (le_z low a.0 ≡ true)) (bounded_at low high ts)
unfolding bounded_at
bounded_gives low high ts = and_gives (number_gives ts) (λ value took.
    by_choice (Gives (λ (a : ℤ × Left). Taken (λ t. tokens.Number a.0 ∷ t) ts a.1 × (le_z low a.0 ≡ true))) (le_z low value.0 && le_z value.0 high) (Ok (value.0, value.1)) (Err (fault_at reasons.Bounds ts))
    (λ h. ok (took, (and_parts _ _ h).0))
    (λ h. no_value))

-- a number that isn't below a natural one
natural_is : (low : ℕ) (value : ℤ) → le_z (pos low) value ≡ true → (n : ℕ) × (value ≡ pos n) × (nat_le low n ≡ true)
natural_is low (pos n) h = (n, refl, h)
natural_is low (negsuc n) h = cc

pub natural_gives : (low high : ℕ) (ts : List Placed) → Gives (λ (a : ℕ × Left). Taken (natural a.0) ts a.1 × (nat_le low a.0 ≡ true)) (natural_at low high ts)
unfolding natural_at
natural_gives low high ts = and_gives (bounded_gives (pos low) (pos high) ts) (λ value took.
    go value.0 value.1 took.0 (natural_is low value.0 took.1))
  where
    go : (value : ℤ) (us : Left) → Taken (λ t. tokens.Number value ∷ t) ts us → ((n : ℕ) × (value ≡ pos n) × (nat_le low n ≡ true)) → Gives (λ (a : ℕ × Left). Taken (natural a.0) ts a.1 × (nat_le low a.0 ≡ true)) (Ok (natural_of value, us))
    go (pos n) us took (m, is, le) = ok (took, subst (λ (k : ℕ). nat_le low k ≡ true) (same is) le)
      where
        same : pos n ≡ pos m → m ≡ n
        same e = cc
    go (negsuc n) us took (m, is, le) = cc

pub ellipsis_gives : (ts : List Placed) → Gives (λ (a : Bool × Left). Taken (mark_text a.0) ts a.1) (ellipsis_at ts)
unfolding ellipsis_at
ellipsis_gives ts = by_choice (Gives (λ (a : Bool × Left). Taken (mark_text a.0) ts a.1)) (begins_with_sign signs.Comma ts) _ _
    (λ _. and_gives (sign_gives signs.Comma ts) (λ a t1.
    and_gives (sign_gives signs.Ellipsis a) (λ b t2. ok (t1 then t2))))
    (λ _. ok (nothing_taken ts))

abbrev end_text : Bool → Written
end_text extensible tail = mark_text extensible (sign signs.RightParenthesis (sign signs.RightParenthesis tail))

size_end_gives : (low high : ℕ) (ts : List Placed) → Gives (λ (a : Size × Left). (a.0.low ≡ low) × (a.0.high ≡ high) × Taken (end_text a.0.extensible) ts a.1) (size_end_at low high ts)
unfolding size_end_at
size_end_gives low high ts = and_gives (ellipsis_gives ts) (λ extensible t1.
    and_gives (sign_gives signs.RightParenthesis extensible.1) (λ a t2.
    and_gives (sign_gives signs.RightParenthesis a) (λ b t3. ok (refl, refl, t1 then t2 then t3))))

-- a high bound is above the low one
differs : (is_text : Bool) (low high : ℕ) → nat_le (least_high is_text low) high ≡ true → low == high ≡ false
differs false low high h = grind arith
differs true low high h = grind arith

same_eq : (n : ℕ) → n == n ≡ true
same_eq n = grind arith

size_rest_gives : (is_text : Bool) (low : ℕ) (ts : List Placed) → Gives (λ (a : Size × Left). (a.0.low ≡ low) × Taken (λ t. high_text low a.0.high (end_text a.0.extensible t)) ts a.1) (size_rest_at is_text low ts)
unfolding size_rest_at
size_rest_gives is_text low ts = by_choice (Gives (λ (a : Size × Left). (a.0.low ≡ low) × Taken (λ t. high_text low a.0.high (end_text a.0.extensible t)) ts a.1)) (begins_with_sign signs.Range ts) _ _
    (λ _. and_gives (sign_gives signs.Range ts) (λ a t1.
    and_gives (natural_gives (least_high is_text low) 65535 a) (λ high t2.
    gives_so (size_end_gives low high.0 high.1) (λ b t3.
    (t3.0, written_as (λ t. high_text low b.0.high (end_text b.0.extensible t)) (λ t. ranged high.0 b.0.high (end_text b.0.extensible t) t3.1 (differs is_text low high.0 t2.1)) (t1 then t2.0 then t3.2))))))
    (λ _. by_choice (Gives (λ (a : Size × Left). (a.0.low ≡ low) × Taken (λ t. high_text low a.0.high (end_text a.0.extensible t)) ts a.1)) (is_text && _) _ _
    (λ _. no_value)
    (λ _. gives_so (size_end_gives low low ts) (λ b t. (t.0, written_as (λ t. high_text low b.0.high (end_text b.0.extensible t)) (λ t'. single b.0.high (end_text b.0.extensible t') t.1) t.2))))
  where
    ranged : (high other : ℕ) (x : List Token) → other ≡ high → low == high ≡ false → sign signs.Range (natural high x) ≡ high_text low other x
    ranged high other x is not = sym (ap (λ (n : ℕ). high_text low n x) is ∙ ap (λ (b : Bool). cond b x (sign signs.Range (natural high x))) not)

    single : (other : ℕ) (x : List Token) → other ≡ low → x ≡ high_text low other x
    single other x is = sym (ap (λ (n : ℕ). high_text low n x) is ∙ ap (λ (b : Bool). cond b x (sign signs.Range (natural low x))) (same_eq low))

pub size_gives : (is_text : Bool) (ts : List Placed) → Gives (λ (a : Size × Left). Taken (size_text a.0) ts a.1) (size_at is_text ts)
unfolding size_at
size_gives is_text ts = and_gives (sign_gives signs.LeftParenthesis ts) (λ a t1.
    and_gives (word_gives words.Size a) (λ b t2.
    and_gives (sign_gives signs.LeftParenthesis b) (λ c t3.
    and_gives (natural_gives 1 65535 c) (λ low t4.
    gives_so (size_rest_gives is_text low.0 low.1) (λ found t5.
    (written_as (size_text found.0) (λ t. ap (λ (n : ℕ). sign signs.LeftParenthesis (word words.Size (sign signs.LeftParenthesis (natural n (high_text n found.0.high (end_text found.0.extensible t)))))) (sym t5.0)) (t1 then t2 then t3 then t4.0 then t5.1)))))))

pub optional_size_gives : (is_text : Bool) (ts : List Placed) → Gives (λ (a : Option Size × Left). Taken (optional_size_text a.0) ts a.1) (optional_size_at is_text ts)
unfolding optional_size_at
optional_size_gives is_text ts = by_choice (Gives (λ (a : Option Size × Left). Taken (optional_size_text a.0) ts a.1)) (begins_with_sign signs.LeftParenthesis ts) _ _
    (λ _. and_gives (size_gives is_text ts) (λ found t. ok t))
    (λ _. ok (nothing_taken ts))

integer_ellipsis_gives : (high : ℤ) (ts : List Placed) → Gives (λ (a : Bool × Left). Taken (mark_text a.0) ts a.1) (integer_ellipsis_at high ts)
unfolding integer_ellipsis_at
integer_ellipsis_gives high ts = by_choice (Gives (λ (a : Bool × Left). Taken (mark_text a.0) ts a.1)) (begins_with_sign signs.Comma ts) _ _
    (λ _. and_gives (sign_gives signs.Comma ts) (λ a t1.
    and_gives (sign_gives signs.Ellipsis a) (λ b t2.
    by_choice (Gives (λ (a : Bool × Left). Taken (mark_text a.0) ts a.1)) (le_z high (pos (2 ^ 63 - 1))) _ _ (λ _. ok (t1 then t2)) (λ _. no_value))))
    (λ _. ok (nothing_taken ts))

-- behind the word INTEGER
pub integer_gives : (texts : List Written) (start ts : List Placed) → Taken (word words.Integer) start ts → Gives (λ (a : Definition × Left). Taken (definition_text texts a.0) start a.1) (integer_at ts)
unfolding integer_at definition_text
integer_gives texts start ts begun = and_gives (sign_gives signs.LeftParenthesis ts) (λ a t1.
    and_gives (bounded_gives integer_least integer_greatest a) (λ low t2.
    and_gives (sign_gives signs.Range low.1) (λ b t3.
    and_gives (bounded_gives low.0 (greatest_beside low.0) b) (λ high t4.
    and_gives (integer_ellipsis_gives high.0 high.1) (λ extensible t5.
    and_gives (sign_gives signs.RightParenthesis extensible.1) (λ c t6. ok (begun then t1 then t2.0 then t3 then t4.0 then t5 then t6)))))))

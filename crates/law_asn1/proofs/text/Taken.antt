-- What a reading function took, as the items that its value is written with.
use Rattle.std.proofs.lemmas.List.{append_assoc}
use Rattle.std.proofs.Common.{◌≡◌, ℕ, List, [], ◌∷◌, ◌++◌, refl, sym, ap, ◌∙◌}
use Rattle.std.specs.Prelude.{ℤ}
use Rattle.asn1_tokens.specs.declared.token.Word.{Word}
use Rattle.asn1_tokens.specs.declared.token.Sign.{Sign}
use Rattle.asn1_tokens.specs.declared.token.Token.{Token}
use Rattle.asn1_tokens.specs.declared.token.Token.TheVariants as tokens
use Rattle.asn1_tokens.specs.Stream.{Placed}
use Rattle.asn1_syntax.specs.types.Reading.{Left}
use Rattle.asn1_syntax.specs.types.inside.Reading.{word_at, sign_at, upper_at, lower_at, number_at}
use Rattle.asn1_defs.specs.Spelling.{tokens_of}
use Rattle.proof_asn1.proofs.asn1_proof_syntax.Gives.{Gives, gives_so}
use Rattle.asn1_defs.specs.ItemMeanings.{The, is}
use Rattle.proof_asn1.proofs.values.Taken.{the_word_gives, the_sign_gives, the_upper_gives, the_lower_gives, any_number_gives}
use Rattle.law_asn1.specs.text.Written.{Written, word, sign, lower, upper}

-- the items from here to there are written so, whatever follows
pub record Taken (text : Written) (ts us : List Placed) : Type 0 where
  pub front : List Placed
  pub split : ts ≡ front ++ us
  pub said : (tail : List Token) → tokens_of front ++ tail ≡ text tail

tokens_append : (xs ys : List Placed) (t : List Token) → tokens_of (xs ++ ys) ++ t ≡ tokens_of xs ++ (tokens_of ys ++ t)
tokens_append [] ys t = refl
tokens_append (x ∷ xs) ys t = ap (λ (l : List Token). x.token ∷ l) (tokens_append xs ys t)

infixr 5 ◌then◌
pub ◌then◌ : {a b : Written} {ts us vs : List Placed} → Taken a ts us → Taken b us vs → Taken (λ t. a (b t)) ts vs
◌then◌ {a} {b} one two = record {
  front = one.front ++ two.front;
  split = one.split ∙ ap (λ (l : List Placed). one.front ++ l) two.split ∙ sym (append_assoc one.front two.front _);
  said = λ tail. tokens_append one.front two.front tail ∙ one.said (tokens_of two.front ++ tail) ∙ ap a (two.said tail);
}

pub nothing_taken : (ts : List Placed) → Taken (λ t. t) ts ts
nothing_taken ts = record { front = []; split = refl; said = λ tail. refl }

pub written_as : {a : Written} (b : Written) {ts us : List Placed} → ((t : List Token) → a t ≡ b t) → Taken a ts us → Taken b ts us
written_as b same one = record { front = one.front; split = one.split; said = λ tail. one.said tail ∙ same tail }

-- ---- single items

one_taken : (t : Token) (ts us : List Placed) → The t ts us → Taken (λ tail. t ∷ tail) ts us
one_taken t ts us (is {p} same) = record { front = p ∷ []; split = refl; said = λ tail. ap (λ (x : Token). x ∷ tail) same }

pub word_gives : (w : Word) (ts : List Placed) → Gives (λ us. Taken (word w) ts us) (word_at w ts)
word_gives w ts = gives_so (the_word_gives w ts) (λ us t. one_taken (tokens.Word w) ts us t)

pub sign_gives : (s : Sign) (ts : List Placed) → Gives (λ us. Taken (sign s) ts us) (sign_at s ts)
sign_gives s ts = gives_so (the_sign_gives s ts) (λ us t. one_taken (tokens.Sign s) ts us t)

pub upper_gives : (ts : List Placed) → Gives (λ (a : List ℕ × Left). Taken (upper a.0) ts a.1) (upper_at ts)
upper_gives ts = gives_so (the_upper_gives ts) (λ a t. one_taken (tokens.Upper a.0) ts a.1 t)

pub lower_gives : (ts : List Placed) → Gives (λ (a : List ℕ × Left). Taken (lower a.0) ts a.1) (lower_at ts)
lower_gives ts = gives_so (the_lower_gives ts) (λ a t. one_taken (tokens.Lower a.0) ts a.1 t)

pub number_gives : (ts : List Placed) → Gives (λ (a : ℤ × Left). Taken (λ t. tokens.Number a.0 ∷ t) ts a.1) (number_at ts)
number_gives ts = gives_so (any_number_gives ts) (λ a t. one_taken (tokens.Number a.0) ts a.1 t)

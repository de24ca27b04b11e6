-- Reading with one item of look-ahead: what is left to be spelled, and what is left of the items.
use Rattle.std.proofs.Common.{◌≡◌, List, [], ◌∷◌, ◌++◌, true, false, refl, sym, ap, subst, Some, None}
use Rattle.asn1_tokens.specs.declared.token.Token.{Token}
use Rattle.asn1_tokens.specs.Stream.{Placed, first_token, others}
use Rattle.asn1_defs.specs.Grammar.{Terminal, fits, Part, Symbol, Item, Whole}
use Rattle.asn1_defs.specs.Spelling.{tokens_of, Spells, item, part}
use Rattle.proof_asn1.proofs.grammar.Predict.{chosen, is_clear}
use Rattle.proof_asn1.proofs.grammar.Decide.{and_left, item_spells, chosen_spells, unchosen, one_of, clear_expanded}

-- from symbols and items to those that are left, by items that fit and productions that the next item chooses
pub data Steps : List Symbol → List Placed → List Symbol → List Placed → Type 0 where
  here : {symbols : List Symbol} {ts : List Placed} → Steps symbols ts symbols ts
  shift : {k : Terminal} {symbols left : List Symbol} {ts us : List Placed} → fits k (first_token ts) ≡ true → Steps symbols (others ts) left us → Steps (Item k ∷ symbols) ts left us
  expand : {n : Part} (b : List Symbol) {symbols left : List Symbol} {ts us : List Placed} → chosen n (first_token ts) ≡ Some b → Steps (b ++ symbols) ts left us → Steps (Whole n ∷ symbols) ts left us

pub then : {a b c : List Symbol} {ts us vs : List Placed} → Steps a ts b us → Steps b us c vs → Steps a ts c vs
then here more = more
then (shift f rest) more = shift f (then rest more)
then (expand b h rest) more = expand b h (then rest more)

pub record Path (symbols : List Symbol) (ts : List Placed) (left : List Symbol) (us : List Placed) : Type 0 where
  pub front : List Placed
  pub split : ts ≡ front ++ us
  pub back : (vs : List Token) → Spells left vs → Spells symbols (tokens_of front ++ vs)
  pub forth : is_clear symbols ≡ true → (is_clear left ≡ true) × ((vs : List Token) → Spells symbols (tokens_of front ++ first_token us ∷ vs) → Spells left (first_token us ∷ vs))

-- the items before and the first one behind begin with the first one of all
begun : (ts front us : List Placed) (vs : List Token) → ts ≡ front ++ us → (rest : List Token) × (tokens_of front ++ first_token us ∷ vs ≡ first_token ts ∷ rest)
begun ts [] us vs split = (vs, ap (λ (xs : List Placed). first_token xs ∷ vs) (sym split))
begun ts (p ∷ front) us vs split = (tokens_of front ++ first_token us ∷ vs, ap (λ (xs : List Placed). first_token xs ∷ tokens_of front ++ first_token us ∷ vs) (sym split))

pub path : {symbols left : List Symbol} {ts us : List Placed} → Steps symbols ts left us → Path symbols ts left us
path here = record { front = []; split = refl; back = λ vs s. s; forth = λ c. (c, λ vs s. s) }
path (shift {ts = []} f rest) = absurd (none f)
  where
    none : false ≡ true → ⊥
    none e = cc
path (shift {ts = p ∷ ps} f rest) =
    let inner = path rest in
    record {
      front = p ∷ inner.front;
      split = ap (λ (xs : List Placed). p ∷ xs) inner.split;
      back = λ vs s. item f (inner.back vs s);
      forth = λ c. ((inner.forth c).0, λ vs s. (inner.forth c).1 vs (item_spells s).1);
    }
path (expand {n} b {symbols} {left} {ts} {us} h rest) =
    let inner = path rest in
    let one = one_of n (first_token ts) b h in
    record {
      front = inner.front;
      split = inner.split;
      back = λ vs s. part b one (inner.back vs s);
      forth = λ c. let on = inner.forth (clear_expanded n b symbols one c) in (
        on.0,
        λ vs s.
            let first = begun ts inner.front us vs inner.split in
            on.1 vs (subst (Spells (b ++ symbols)) (sym first.1) (chosen_spells n (first_token ts) symbols first.0 b (and_left _ _ c) h (subst (Spells (Whole n ∷ symbols)) first.1 s))),
      );
    }

-- no production goes on with this item
pub data IsStuck : List Symbol → Token → Type 0 where
  at_item : {k : Terminal} {symbols : List Symbol} {t : Token} → fits k t ≡ false → IsStuck (Item k ∷ symbols) t
  at_part : {n : Part} {symbols : List Symbol} {t : Token} → chosen n t ≡ None → IsStuck (Whole n ∷ symbols) t

pub stuck : {symbols : List Symbol} {t : Token} (ts : List Token) → IsStuck symbols t → Spells symbols (t ∷ ts) → ⊥
stuck ts (at_item {k} {t} f) s = clash (item_spells s).0
  where
    clash : fits k t ≡ true → ⊥
    clash e = cc
stuck ts (at_part {n} {symbols} {t} h) s = unchosen n t symbols ts h s

-- What a type leaves of what is told of the items before it, and these views of a list with one more.
use Rattle.std.proofs.Common.{◌≡◌, ℕ, ◌+◌, List, [], ◌∷◌, ◌++◌, map, Bool, true, false, cond, ◌||◌, refl, ap, ◌∙◌, arith}
use Rattle.std.specs.List.{list_any, count_by}
use Rattle.std.proofs.lemmas.List.Sums.{sum_by-append}
use Rattle.asn1_tokens.specs.declared.token.Sign.TheVariants as signs
use Rattle.asn1_tokens.specs.declared.token.Token.{Token}
use Rattle.asn1_tokens.specs.declared.token.Token.TheVariants as tokens
use Rattle.asn1_defs.specs.Bounds.{is_wide, is_one_size}
use Rattle.asn1_defs.specs.Repetitions.{listed, ids, codes_given, begins_assignment, assigned, types_assigned}

pub record Same (before after : List Token) : Type 0 where
  pub ends : begins_assignment after ≡ true
  pub lists : (depth : ℕ) → listed depth after ≡ listed depth before
  pub ids : ids after ≡ ids before
  pub codes : codes_given after ≡ codes_given before
  pub names : assigned after ≡ assigned before
  pub types : types_assigned after ≡ types_assigned before

pub same_then : {a b c : List Token} → Same a b → Same b c → Same a c
same_then one two = record {
  ends = two.ends;
  lists = λ depth. two.lists depth ∙ one.lists depth;
  ids = two.ids ∙ one.ids;
  codes = two.codes ∙ one.codes;
  names = two.names ∙ one.names;
  types = two.types ∙ one.types;
}

-- ---- behind a type no bound of an INTEGER or a size is open

pub not_one_size : (x : List Token) → begins_assignment x ≡ true → is_one_size x ≡ false
unfolding is_one_size
not_one_size [] h = refl
not_one_size (tokens.Number value ∷ before) h = cc
not_one_size (tokens.Upper name ∷ before) h = refl
not_one_size (tokens.Lower name ∷ before) h = refl
not_one_size (tokens.Word word ∷ before) h = refl
not_one_size (tokens.Sign sign ∷ before) h = refl
not_one_size (tokens.OutOfProfile ∷ before) h = refl
not_one_size (tokens.Nothing ∷ before) h = refl
not_one_size (tokens.EndOfText ∷ before) h = refl

pub not_wide : (x : List Token) → begins_assignment x ≡ true → is_wide (tokens.Sign signs.Comma ∷ x) ≡ false
unfolding is_wide
not_wide [] h = refl
not_wide (tokens.Number value ∷ before) h = cc
not_wide (tokens.Upper name ∷ before) h = refl
not_wide (tokens.Lower name ∷ before) h = refl
not_wide (tokens.Word word ∷ before) h = refl
not_wide (tokens.Sign sign ∷ before) h = refl
not_wide (tokens.OutOfProfile ∷ before) h = refl
not_wide (tokens.Nothing ∷ before) h = refl
not_wide (tokens.EndOfText ∷ before) h = refl

-- ---- one more

pub map_snoc : {X Y : Type 0} (f : X → Y) (xs : List X) (x : X) → map f (xs ++ x ∷ []) ≡ map f xs ++ f x ∷ []
map_snoc f [] x = refl
map_snoc f (y ∷ ys) x = ap (λ (l : List _). f y ∷ l) (map_snoc f ys x)

pub any_map : {X Y : Type 0} (p : Y → Bool) (f : X → Y) (xs : List X) → list_any p (map f xs) ≡ list_any (λ x. p (f x)) xs
any_map p f [] = refl
any_map p f (x ∷ xs) = ap (λ (b : Bool). p (f x) || b) (any_map p f xs)

pub count_snoc : {X : Type 0} (p : X → Bool) (xs : List X) (x : X) → count_by p (xs ++ x ∷ []) ≡ count_by p xs + cond (p x) 1 0
count_snoc p xs x = omega (arith, sum_by-append (λ y. cond (p y) 1 0) xs (x ∷ []), one)
  where
    one : count_by p (x ∷ []) ≡ cond (p x) 1 0
    one = omega arith

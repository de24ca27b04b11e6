-- Single items and short rows of them have one meaning: where they are the same, so are their values and what follows them.
use Rattle.std.proofs.Common.{◌≡◌, ℕ, List, [], ◌∷◌, Bool, true, false, refl, sym, ap, ◌∙◌, Option, Some, None}
use Rattle.std.specs.Prelude.{ℤ, pos}
use Rattle.asn1_tokens.specs.declared.token.Word.{Word}
use Rattle.asn1_tokens.specs.declared.token.Sign.{Sign}
use Rattle.asn1_tokens.specs.declared.token.Sign.TheVariants as signs
use Rattle.asn1_tokens.specs.declared.token.Token.{Token}
use Rattle.asn1_tokens.specs.declared.token.Token.TheVariants as tokens
use Rattle.asn1_tokens.specs.Words.{word_number, sign_number}
use Rattle.asn1_tokens.specs.Stream.{first_token}
use Rattle.asn1_syntax.specs.declared.types.definition.Size.{Size}
use Rattle.asn1_syntax.specs.declared.types.definition.Extensible.{Extensible}
use Rattle.asn1_syntax.specs.types.Reading.{Left, begins_with, begins_with_sign, is_word_token, is_sign_token}
use Rattle.std.proofs.lemmas.Bool.{eq-eqb}
use Rattle.asn1_defs.specs.ItemMeanings.{The, is, Without, start_of, Extends, extends, doesn't, HighBound, given, same, ASize, size, OptionalSize, sized, unsized, SetName, set_name, AddedNames, none, one as another, Names, mark, last, more}

-- the same value, and the same items behind it
pub record One {A : Type 0} (a b : A) (ts us : Left) : Type 0 where
  pub value : a ≡ b
  pub rest : ts ≡ us

pub the_same : {t u : Token} {ts us a b : Left} → ts ≡ us → The t ts a → The u us b → One t u a b
the_same h (is {p} {rest = a} e) (is {p = q} {rest = b} f) = record { value = sym e ∙ ap first_token h ∙ f; rest = cc }

-- a sign that stands first, and doesn't
pub sign_clash : {P : Type 0} {s : Sign} {ts us a : Left} → ts ≡ us → The (tokens.Sign s) ts a → Without s us → P
sign_clash {s} h (is e) without = absurd (no (sym (eq-eqb (sign_number s) (sign_number s) refl) ∙ sym (ap (is_sign_token s) e) ∙ ap (begins_with_sign s) h ∙ without))
  where
    no : true ≡ false → ⊥
    no e = cc

pub word_clash : {P : Type 0} {w : Word} {ts us a : Left} → ts ≡ us → The (tokens.Word w) ts a → begins_with w us ≡ false → P
word_clash {w} h (is e) without = absurd (no (sym (eq-eqb (word_number w) (word_number w) refl) ∙ sym (ap (is_word_token w) e) ∙ ap (begins_with w) h ∙ without))
  where
    no : true ≡ false → ⊥
    no e = cc

pub extends_one : {x y : Bool} {ts us a b : Left} → ts ≡ us → Extends ts x a → Extends us y b → One x y a b
extends_one h (extends a b) (extends c d) = record { value = refl; rest = (the_same (the_same h a c).rest b d).rest }
extends_one h (extends a b) (doesn't w) = sign_clash h a w
extends_one h (doesn't w) (extends a b) = sign_clash (sym h) a w
extends_one h (doesn't w) (doesn't v) = record { value = refl; rest = h }

pub value_one : {m n : ℤ} {ts us a b : Left} → ts ≡ us → The (tokens.Number m) ts a → The (tokens.Number n) us b → One m n a b
value_one h a b = let one = the_same h a b in record { value = cc one.value; rest = one.rest }

pub number_one : {m n : ℕ} {ts us a b : Left} → ts ≡ us → The (tokens.Number (pos m)) ts a → The (tokens.Number (pos n)) us b → One m n a b
number_one h a b = let one = the_same h a b in record { value = cc one.value; rest = one.rest }

pub upper_one : {m n : List ℕ} {ts us a b : Left} → ts ≡ us → The (tokens.Upper m) ts a → The (tokens.Upper n) us b → One m n a b
upper_one h a b = let one = the_same h a b in record { value = cc one.value; rest = one.rest }

pub lower_one : {m n : List ℕ} {ts us a b : Left} → ts ≡ us → The (tokens.Lower m) ts a → The (tokens.Lower n) us b → One m n a b
lower_one h a b = let one = the_same h a b in record { value = cc one.value; rest = one.rest }

pub word_one : {m n : Word} {ts us a b : Left} → ts ≡ us → The (tokens.Word m) ts a → The (tokens.Word n) us b → One m n a b
word_one h a b = let one = the_same h a b in record { value = cc one.value; rest = one.rest }

-- the same item here and there, and what follows it
pub rest_one : {t : Token} {ts us a b : Left} → ts ≡ us → The t ts a → The t us b → a ≡ b
rest_one h a b = (the_same h a b).rest

pub high_one : {low other m n : ℕ} {ts us a b : Left} → low ≡ other → ts ≡ us → HighBound low ts m a → HighBound other us n b → One m n a b
high_one l h (given a b) (given c d) = number_one (rest_one h a c) b d
high_one l h (given a b) (same w) = sign_clash h a w
high_one l h (same w) (given a b) = sign_clash (sym h) a w
high_one l h (same w) (same v) = record { value = l; rest = h }

size_value : {l m h i : ℕ} {x y : Bool} {a b : Left} → l ≡ m → h ≡ i → x ≡ y → a ≡ b → One {A = Size} (record { low = l; high = h; extensible = x }) (record { low = m; high = i; extensible = y }) a b
size_value low high extensible rest = record { value = λ i. record { low = low i; high = high i; extensible = extensible i }; rest = rest }

pub a_size_one : {x y : Size} {ts us a b : Left} → ts ≡ us → ASize ts x a → ASize us y b → One x y a b
a_size_one h (size a b c low high extension d e) (size a' b' c' low' high' extension' d' e') =
    let l = number_one (rest_one (rest_one (rest_one h a a') b b') c c') low low' in
    let u = high_one l.value l.rest high high' in
    let x = extends_one u.rest extension extension' in
    size_value l.value u.value x.value (rest_one (rest_one x.rest d d') e e')

pub opens_with : {x : Size} {ts a : Left} → ASize ts x a → (b : Left) × The (tokens.Sign signs.LeftParenthesis) ts b
opens_with (size a b c low high extension d e) = (_, a)

pub size_one : {x y : Option Size} {ts us a b : Left} → ts ≡ us → OptionalSize ts x a → OptionalSize us y b → One x y a b
size_one h (sized x) (sized y) = let one = a_size_one h x y in record { value = ap (λ (s : Size). Some s) one.value; rest = one.rest }
size_one h (sized x) (unsized w) = sign_clash h (opens_with x).1 w
size_one h (unsized w) (sized x) = sign_clash (sym h) (opens_with x).1 w
size_one h (unsized w) (unsized v) = record { value = refl; rest = h }

-- the same set, the same place and the same items behind it
pub record OneSet (m n : List ℕ) (p q : ℕ) (ts us : Left) : Type 0 where
  pub set : m ≡ n
  pub place : p ≡ q
  pub rest : ts ≡ us

pub set_one : {m n : List ℕ} {p q : ℕ} {ts us a b : Left} → ts ≡ us → SetName ts m p a → SetName us n q b → OneSet m n p q a b
set_one h (set_name a b n c d) (set_name a' b' n' c' d') =
    let at = rest_one (rest_one h a a') b b' in
    let one = upper_one at n n' in
    record { set = one.value; place = ap start_of at; rest = rest_one (rest_one one.rest c c') d d' }

pub lower_sign : {n : List ℕ} {s : Sign} {ts us : Left} → One (tokens.Lower n) (tokens.Sign s) ts us → ⊥
lower_sign one = let e = one.value in cc

pub comma_brace : {ts us : Left} → One (tokens.Sign signs.Comma) (tokens.Sign signs.RightBrace) ts us → ⊥
comma_brace one = let e = one.value in cc

-- In a list, what follows a comma follows no brace.
added_one : {x y : List (List ℕ)} {ts us a b : Left} → ts ≡ us → AddedNames ts x a → AddedNames us y b → One x y a b
added_one h (none e) (none f) = record { value = refl; rest = rest_one h e f }
added_one h (another e n r) (another f m q) =
    let name = lower_one (rest_one h e f) n m in
    let names = added_one name.rest r q in
    record { value = λ i. name.value i ∷ names.value i; rest = names.rest }
added_one h (none e) (another f m q) = absurd (comma_brace (the_same (sym h) f e))
added_one h (another e n r) (none f) = absurd (comma_brace (the_same h e f))

pub names_one : {x y : Extensible (List ℕ)} {ts us a b : Left} → ts ≡ us → Names ts x a → Names us y b → One x y a b
names_one h (mark e r) (mark f q) =
    let added = added_one (rest_one h e f) r q in
    record { value = λ i. record { root = []; additions = Some (added.value i) }; rest = added.rest }
names_one h (last n e) (last m f) =
    let name = lower_one h n m in
    record { value = λ i. record { root = name.value i ∷ []; additions = None }; rest = rest_one name.rest e f }
names_one h (more n e r) (more m f q) =
    let name = lower_one h n m in
    let names = names_one (rest_one name.rest e f) r q in
    record { value = λ i. record { root = name.value i ∷ (names.value i).root; additions = (names.value i).additions }; rest = names.rest }
names_one h (last n e) (more m f q) = absurd (comma_brace (the_same (sym (lower_one h n m).rest) f e))
names_one h (more n e r) (last m f) = absurd (comma_brace (the_same (lower_one h n m).rest e f))
names_one h (mark e r) (last m f) = absurd (lower_sign (the_same (sym h) m e))
names_one h (mark e r) (more m f q) = absurd (lower_sign (the_same (sym h) m e))
names_one h (last n e) (mark f q) = absurd (lower_sign (the_same h n f))
names_one h (more n e r) (mark f q) = absurd (lower_sign (the_same h n f))

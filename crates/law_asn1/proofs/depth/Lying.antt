-- Items that are passed, and the levels at them.
use Rattle.std.proofs.Common.{◌≡◌, ℕ, ◌≤◌, List, [], ◌∷◌, ◌++◌, Bool, true, refl, sym, ap, ◌∙◌, subst, append_assoc, arith}
use Rattle.std.specs.Prelude.{Option, Some, None, ℤ, pos}
use Rattle.asn1_tokens.specs.declared.token.Word.TheVariants as words
use Rattle.asn1_tokens.specs.declared.token.Sign.TheVariants as signs
use Rattle.asn1_tokens.specs.declared.token.Token.{Token}
use Rattle.asn1_tokens.specs.declared.token.Token.TheVariants as tokens
use Rattle.asn1_tokens.specs.Stream.{Placed}
use Rattle.asn1_syntax.specs.declared.types.definition.Size.{Size}
use Rattle.asn1_syntax.specs.declared.types.definition.Extensible.{Extensible}
use Rattle.asn1_defs.specs.declared.names.Kind.{Kind}
use Rattle.asn1_defs.specs.ItemMeanings.{The, is, Extends, extends, doesn't, HighBound, given, same as no_second, ASize, size, OptionalSize, sized, unsized, AddedNames, none, one as another, Names, mark, last, more}
use Rattle.law_asn1.specs.names.Held.{given_kind}
use Rattle.law_asn1.proofs.names.Passing.{is_plain}
use Rattle.law_asn1.specs.depth.Levels.{behind, innermost, Item, Assigned, item_from, items_in, assigned_from, assigned}

-- These are the items from ts to rest, where the levels before and behind them are these; no assignment begins there.
pub record Lies (before after : List ℕ) (ts rest : List Placed) (items : List Item) : Type 0 where
  pub shown : items_in before ts ≡ items ++ items_in after rest
  pub assigned : assigned ts ≡ assigned rest

infixr 5 ◌then◌
pub ◌then◌ : {a b c : List ℕ} {ts us vs : List Placed} {ms ns : List Item} → Lies a b ts us ms → Lies b c us vs ns → Lies a c ts vs (ms ++ ns)
◌then◌ {c} {vs} {ms} {ns} one two = record {
  shown = one.shown ∙ ap (λ (l : List Item). ms ++ l) two.shown ∙ sym (append_assoc ms ns (items_in c vs));
  assigned = one.assigned ∙ two.assigned;
}

pub nothing_lies : (stack : List ℕ) (ts : List Placed) → Lies stack stack ts ts []
nothing_lies stack ts = record { shown = refl; assigned = refl }

-- ---- single items

abbrev pub bare : ℕ → Item
bare level = record { level = level; name = None }

plain_item : (t : Token) → is_plain t ≡ true → (following : Option Kind) (level : ℕ) (later : List Item) → item_from t following level later ≡ bare level ∷ later
plain_item (tokens.Upper name) h following level later = cc
plain_item (tokens.Word words.End) h following level later = cc
plain_item _ h following level later = refl

plain_assigned : (t : Token) → is_plain t ≡ true → (following : Option Kind) (items : List Item) (later : List Assigned) → assigned_from t following items later ≡ later
plain_assigned (tokens.Upper name) h following items later = cc
plain_assigned (tokens.Word words.End) h following items later = cc
plain_assigned _ h following items later = refl

pub plain_lies : (t : Token) {ts rest : List Placed} → is_plain t ≡ true → (stack : List ℕ) → The t ts rest → Lies stack (behind t stack) ts rest (bare (innermost (behind t stack)) ∷ [])
unfolding items_in assigned
plain_lies t h stack (is {p} {rest} same) = record {
  shown = subst (λ (x : Token). item_from x (given_kind rest) (innermost (behind x stack)) (items_in (behind x stack) rest) ≡ bare (innermost (behind t stack)) ∷ items_in (behind t stack) rest) (sym same)
      (plain_item t h (given_kind rest) (innermost (behind t stack)) (items_in (behind t stack) rest));
  assigned = subst (λ (x : Token). assigned_from x (given_kind rest) (items_in (0 ∷ []) rest) (assigned rest) ≡ assigned rest) (sym same)
      (plain_assigned t h (given_kind rest) (items_in (0 ∷ []) rest) (assigned rest));
}

-- a name of upper form that isn't an assignment's
pub upper_lies : (name : List ℕ) {ts rest : List Placed} (stack : List ℕ) → given_kind rest ≡ None → The (tokens.Upper name) ts rest
    → Lies stack stack ts rest (record { level = innermost stack; name = Some name } ∷ [])
unfolding items_in assigned
upper_lies name stack follows (is {p} {rest} same) = record {
  shown = subst (λ (x : Token). item_from x (given_kind rest) (innermost (behind x stack)) (items_in (behind x stack) rest) ≡ record { level = innermost stack; name = Some name } ∷ items_in stack rest) (sym same)
      (ap (λ (o : Option Kind). item_from (tokens.Upper name) o (innermost stack) (items_in stack rest)) follows);
  assigned = subst (λ (x : Token). assigned_from x (given_kind rest) (items_in (0 ∷ []) rest) (assigned rest) ≡ assigned rest) (sym same)
      (ap (λ (o : Option Kind). assigned_from (tokens.Upper name) o (items_in (0 ∷ []) rest) (assigned rest)) follows);
}

-- an assignment's name
pub name_assigned : (name : List ℕ) {ts rest : List Placed} (kind : Kind) → given_kind rest ≡ Some kind → The (tokens.Upper name) ts rest
    → assigned ts ≡ record { name = name; items = items_in (0 ∷ []) rest } ∷ assigned rest
unfolding assigned
name_assigned name kind follows (is {p} {rest} same) =
    subst (λ (x : Token). assigned_from x (given_kind rest) (items_in (0 ∷ []) rest) (assigned rest) ≡ record { name = name; items = items_in (0 ∷ []) rest } ∷ assigned rest) (sym same)
    (ap (λ (o : Option Kind). assigned_from (tokens.Upper name) o (items_in (0 ∷ []) rest) (assigned rest)) follows)

-- no item stands before an assignment's name, or before END
pub name_ends : (name : List ℕ) {ts rest : List Placed} (stack : List ℕ) (kind : Kind) → given_kind rest ≡ Some kind → The (tokens.Upper name) ts rest → items_in stack ts ≡ []
unfolding items_in
name_ends name stack kind follows (is {p} {rest} same) =
    subst (λ (x : Token). item_from x (given_kind rest) (innermost (behind x stack)) (items_in (behind x stack) rest) ≡ []) (sym same)
    (ap (λ (o : Option Kind). item_from (tokens.Upper name) o (innermost stack) (items_in stack rest)) follows)

pub end_ends : {ts rest : List Placed} (stack : List ℕ) → The (tokens.Word words.End) ts rest → (items_in stack ts ≡ []) × (assigned ts ≡ [])
unfolding items_in assigned
end_ends stack (is {p} {rest} same) = (
  subst (λ (x : Token). item_from x (given_kind rest) (innermost (behind x stack)) (items_in (behind x stack) rest) ≡ []) (sym same) refl,
  subst (λ (x : Token). assigned_from x (given_kind rest) (items_in (0 ∷ []) rest) (assigned rest) ≡ []) (sym same) refl,
)

-- ---- items without a name of upper form

-- no names, and no deeper than this
abbrev pub AreBare : ℕ → List Item → Type 0
AreBare y [] = Unit {0}
AreBare y (item ∷ ms) = ((item.level ≤ y) × (item.name ≡ None)) × AreBare y ms

pub bare-append : (y : ℕ) (ms ns : List Item) → AreBare y ms → AreBare y ns → AreBare y (ms ++ ns)
bare-append y [] ns h k = k
bare-append y (m ∷ ms) ns h k = (h.0, bare-append y ms ns h.1 k)

pub record Flat (y : ℕ) (before after : List ℕ) (ts rest : List Placed) : Type 0 where
  pub items : List Item
  pub lies : Lies before after ts rest items
  pub bare : AreBare y items

infixr 5 ◌and◌
pub ◌and◌ : {y : ℕ} {a b c : List ℕ} {ts us vs : List Placed} → Flat y a b ts us → Flat y b c us vs → Flat y a c ts vs
◌and◌ {y} one two = record { items = one.items ++ two.items; lies = one.lies then two.lies; bare = bare-append y one.items two.items one.bare two.bare }

pub none_flat : (y : ℕ) (stack : List ℕ) (ts : List Placed) → Flat y stack stack ts ts
none_flat y stack ts = record { items = []; lies = nothing_lies stack ts; bare = tt }

pub at_level : (y : ℕ) → y ≤ y
at_level y = omega arith

pub flat : (t : Token) {ts rest : List Placed} → is_plain t ≡ true → (y : ℕ) (stack : List ℕ) → innermost (behind t stack) ≤ y → The t ts rest → Flat y stack (behind t stack) ts rest
flat t h y stack le the = record { items = bare (innermost (behind t stack)) ∷ []; lies = plain_lies t h stack the; bare = ((le, refl), tt) }

pub number_flat : (n : ℤ) {ts rest : List Placed} (y : ℕ) (xs : List ℕ) → The (tokens.Number n) ts rest → Flat y (y ∷ xs) (y ∷ xs) ts rest
number_flat n y xs the = flat (tokens.Number n) refl y (y ∷ xs) (at_level y) the

pub lower_flat : (name : List ℕ) {ts rest : List Placed} (y : ℕ) (xs : List ℕ) → The (tokens.Lower name) ts rest → Flat y (y ∷ xs) (y ∷ xs) ts rest
lower_flat name y xs the = flat (tokens.Lower name) refl y (y ∷ xs) (at_level y) the

-- a bracket opens, and closes, and a comma stands between two
pub brace_flat : {ts rest : List Placed} (y : ℕ) (xs : List ℕ) → The (tokens.Sign signs.LeftBrace) ts rest → Flat y (y ∷ xs) (y ∷ y ∷ xs) ts rest
brace_flat y xs the = flat (tokens.Sign signs.LeftBrace) refl y (y ∷ xs) (at_level y) the

pub end_flat : {ts rest : List Placed} (t y : ℕ) (xs : List ℕ) → The (tokens.Sign signs.RightBrace) ts rest → Flat y (t ∷ y ∷ xs) (y ∷ xs) ts rest
end_flat t y xs the = flat (tokens.Sign signs.RightBrace) refl y (t ∷ y ∷ xs) (at_level y) the

pub comma_flat : {ts rest : List Placed} (t y : ℕ) (xs : List ℕ) → The (tokens.Sign signs.Comma) ts rest → Flat y (t ∷ y ∷ xs) (y ∷ y ∷ xs) ts rest
comma_flat t y xs the = flat (tokens.Sign signs.Comma) refl y (t ∷ y ∷ xs) (at_level y) the

pub dots_flat : {ts rest : List Placed} (y : ℕ) (xs : List ℕ) → The (tokens.Sign signs.Ellipsis) ts rest → Flat y (y ∷ xs) (y ∷ xs) ts rest
dots_flat y xs the = flat (tokens.Sign signs.Ellipsis) refl y (y ∷ xs) (at_level y) the

range_flat : {ts rest : List Placed} (y : ℕ) (xs : List ℕ) → The (tokens.Sign signs.Range) ts rest → Flat y (y ∷ xs) (y ∷ xs) ts rest
range_flat y xs the = flat (tokens.Sign signs.Range) refl y (y ∷ xs) (at_level y) the

left_flat : {ts rest : List Placed} (y : ℕ) (xs : List ℕ) → The (tokens.Sign signs.LeftParenthesis) ts rest → Flat y (y ∷ xs) (y ∷ y ∷ xs) ts rest
left_flat y xs the = flat (tokens.Sign signs.LeftParenthesis) refl y (y ∷ xs) (at_level y) the

right_flat : {ts rest : List Placed} (y : ℕ) (xs : List ℕ) → The (tokens.Sign signs.RightParenthesis) ts rest → Flat y (y ∷ y ∷ xs) (y ∷ xs) ts rest
right_flat y xs the = flat (tokens.Sign signs.RightParenthesis) refl y (y ∷ y ∷ xs) (at_level y) the

extends_flat : {x : Bool} {ts rest : List Placed} (y : ℕ) (xs : List ℕ) → Extends ts x rest → Flat y (y ∷ y ∷ xs) (y ∷ y ∷ xs) ts rest
extends_flat y xs (extends a b) = comma_flat y y xs a and dots_flat y (y ∷ xs) b
extends_flat {rest} y xs (doesn't w) = none_flat y (y ∷ y ∷ xs) rest

high_flat : {low high : ℕ} {ts rest : List Placed} (y : ℕ) (xs : List ℕ) → HighBound low ts high rest → Flat y (y ∷ xs) (y ∷ xs) ts rest
high_flat y xs (given {high} r n) = range_flat y xs r and number_flat (pos high) y xs n
high_flat {rest} y xs (no_second w) = none_flat y (y ∷ xs) rest

size_flat : {found : Size} {ts rest : List Placed} (y : ℕ) (xs : List ℕ) → ASize ts found rest → Flat y (y ∷ xs) (y ∷ xs) ts rest
size_flat y xs (size {low} a b c n h e f g) =
    left_flat y xs a and flat (tokens.Word words.Size) refl y (y ∷ y ∷ xs) (at_level y) b and left_flat y (y ∷ xs) c and
    number_flat (pos low) y (y ∷ y ∷ xs) n and high_flat y (y ∷ y ∷ xs) h and extends_flat y (y ∷ xs) e and right_flat y (y ∷ xs) f and right_flat y xs g

pub optional_size_flat : {found : Option Size} {ts rest : List Placed} (y : ℕ) (xs : List ℕ) → OptionalSize ts found rest → Flat y (y ∷ xs) (y ∷ xs) ts rest
optional_size_flat y xs (sized s) = size_flat y xs s
optional_size_flat {rest} y xs (unsized w) = none_flat y (y ∷ xs) rest

pub bounds_flat : {low high : ℤ} {x : Bool} {ts a b c d e rest : List Placed} (y : ℕ) (xs : List ℕ)
    → The (tokens.Sign signs.LeftParenthesis) ts a → The (tokens.Number low) a b → The (tokens.Sign signs.Range) b c → The (tokens.Number high) c d → Extends d x e → The (tokens.Sign signs.RightParenthesis) e rest
    → Flat y (y ∷ xs) (y ∷ xs) ts rest
bounds_flat {low} {high} y xs a l r h x e =
    left_flat y xs a and number_flat low y (y ∷ xs) l and range_flat y (y ∷ xs) r and number_flat high y (y ∷ xs) h and extends_flat y xs x and right_flat y xs e

added_flat : {names : List (List ℕ)} {ts rest : List Placed} (y : ℕ) (xs : List ℕ) → AddedNames ts names rest → Flat y (y ∷ y ∷ xs) (y ∷ xs) ts rest
added_flat y xs (none e) = end_flat y y xs e
added_flat y xs (another {name} e n r) = comma_flat y y xs e and lower_flat name y (y ∷ xs) n and added_flat y xs r

pub names_flat : {names : Extensible (List ℕ)} {ts rest : List Placed} (y : ℕ) (xs : List ℕ) → Names ts names rest → Flat y (y ∷ y ∷ xs) (y ∷ xs) ts rest
names_flat y xs (mark e r) = dots_flat y (y ∷ xs) e and added_flat y xs r
names_flat y xs (last {name} n e) = lower_flat name y (y ∷ xs) n and end_flat y y xs e
names_flat y xs (more {name} n e r) = lower_flat name y (y ∷ xs) n and comma_flat y y xs e and names_flat y xs r

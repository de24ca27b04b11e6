-- Items that are passed, and what they hold.
use Rattle.std.proofs.Common.{◌≡◌, ℕ, ◌≤◌, List, [], ◌∷◌, ◌++◌, length, Bool, true, false, refl, sym, ap, ◌∙◌, subst, append_assoc, append-nil, arith, length-append}
use Rattle.std.specs.Prelude.{Option, Some, None}
use Rattle.asn1_tokens.specs.declared.token.Word.TheVariants as words
use Rattle.asn1_tokens.specs.declared.token.Sign.{Sign}
use Rattle.asn1_tokens.specs.declared.token.Token.{Token}
use Rattle.asn1_tokens.specs.declared.token.Token.TheVariants as tokens
use Rattle.asn1_tokens.specs.Stream.{Placed}
use Rattle.asn1_syntax.specs.declared.types.definition.Definition.{Definition}
use Rattle.asn1_syntax.specs.declared.types.definition.Definition.TheVariants as types
use Rattle.asn1_syntax.specs.declared.types.definition.Component.{Component}
use Rattle.asn1_syntax.specs.declared.types.definition.Node.{Node}
use Rattle.asn1_syntax.specs.types.Members.{additions_of}
use Rattle.asn1_defs.specs.declared.names.Kind.{Kind}
use Rattle.asn1_defs.specs.declared.names.Kind.TheVariants as kinds
use Rattle.asn1_defs.specs.ItemMeanings.{The, is, start_of}
use Rattle.law_asn1.specs.names.Held.{Mention, Given, given_by, given_kind, kind_behind, held_from, held, given_from, givens}

-- The items from ts to rest hold these names and no assignment begins there; a name behind them is to stand for what `after` says.
pub record Passes (kind after : Kind) (ts rest : List Placed) (names : List Mention) : Type 0 where
  pub held : held kind ts ≡ names ++ held after rest
  pub givens : givens ts ≡ givens rest

infixr 5 ◌then◌
pub ◌then◌ : {a b c : Kind} {ts us vs : List Placed} {ms ns : List Mention} → Passes a b ts us ms → Passes b c us vs ns → Passes a c ts vs (ms ++ ns)
◌then◌ {c} {vs} {ms} {ns} one two = record {
  held = one.held ∙ ap (λ (l : List Mention). ms ++ l) two.held ∙ sym (append_assoc ms ns (held c vs));
  givens = one.givens ∙ two.givens;
}

pub none_passed : (kind : Kind) (ts : List Placed) → Passes kind kind ts ts []
none_passed kind ts = record { held = refl; givens = refl }

pub passed_as : {a b : Kind} {ts us : List Placed} {ms : List Mention} (ns : List Mention) → ms ≡ ns → Passes a b ts us ms → Passes a b ts us ns
passed_as {a} {b} {ts} {us} ns same one = subst (Passes a b ts us) same one

-- ---- single items

-- neither a name of upper form nor the word END
abbrev pub is_plain : Token → Bool
is_plain (tokens.Upper name) = false
is_plain (tokens.Word words.End) = false
is_plain _ = true

plain_held : (t : Token) → is_plain t ≡ true → (kind : Kind) (place : ℕ) (following : Option Kind) (later : List Mention) → held_from t kind place following later ≡ later
plain_held (tokens.Upper name) h kind place following later = cc
plain_held (tokens.Word words.End) h kind place following later = cc
plain_held _ h kind place following later = refl

plain_given : (t : Token) → is_plain t ≡ true → (place : ℕ) (following : Option Kind) (holds : List Mention) (later : List Given) → given_from t place following holds later ≡ later
plain_given (tokens.Upper name) h place following holds later = cc
plain_given (tokens.Word words.End) h place following holds later = cc
plain_given _ h place following holds later = refl

pub plain_passed : (t : Token) {ts rest : List Placed} → is_plain t ≡ true → (kind : Kind) → The t ts rest → Passes kind (kind_behind kind t) ts rest []
unfolding held givens
plain_passed t h kind (is {p} {rest} same) = record {
  held = subst (λ (x : Token). held_from x kind p.place.start (given_kind rest) (held (kind_behind kind x) rest) ≡ held (kind_behind kind t) rest) (sym same)
      (plain_held t h kind p.place.start (given_kind rest) (held (kind_behind kind t) rest));
  givens = subst (λ (x : Token). given_from x p.place.start (given_kind rest) (held kinds.Type rest) (givens rest) ≡ givens rest) (sym same)
      (plain_given t h p.place.start (given_kind rest) (held kinds.Type rest) (givens rest));
}

pub sign_passed : (s : Sign) {ts rest : List Placed} (kind : Kind) → The (tokens.Sign s) ts rest → Passes kind kind ts rest []
sign_passed s kind the = plain_passed (tokens.Sign s) refl kind the

-- a name of upper form that isn't an assignment's
pub upper_passed : (name : List ℕ) {ts rest : List Placed} (kind : Kind) → given_kind rest ≡ None → The (tokens.Upper name) ts rest
    → Passes kind kinds.Type ts rest (record { kind = kind; name = name; place = start_of ts } ∷ [])
unfolding held givens
upper_passed name kind follows (is {p} {rest} same) = record {
  held = subst (λ (x : Token). held_from x kind p.place.start (given_kind rest) (held (kind_behind kind x) rest) ≡ record { kind = kind; name = name; place = p.place.start } ∷ held kinds.Type rest) (sym same)
      (ap (λ (o : Option Kind). held_from (tokens.Upper name) kind p.place.start o (held kinds.Type rest)) follows);
  givens = subst (λ (x : Token). given_from x p.place.start (given_kind rest) (held kinds.Type rest) (givens rest) ≡ givens rest) (sym same)
      (ap (λ (o : Option Kind). given_from (tokens.Upper name) p.place.start o (held kinds.Type rest) (givens rest)) follows);
}

-- an assignment's name
pub name_given : (name : List ℕ) {ts rest : List Placed} (kind : Kind) → given_kind rest ≡ Some kind → The (tokens.Upper name) ts rest
    → givens ts ≡ record { kind = kind; name = name; place = start_of ts; holds = held kinds.Type rest } ∷ givens rest
unfolding givens
name_given name kind follows (is {p} {rest} same) =
    subst (λ (x : Token). given_from x p.place.start (given_kind rest) (held kinds.Type rest) (givens rest) ≡ record { kind = kind; name = name; place = p.place.start; holds = held kinds.Type rest } ∷ givens rest) (sym same)
    (ap (λ (o : Option Kind). given_from (tokens.Upper name) p.place.start o (held kinds.Type rest) (givens rest)) follows)

-- nothing is held before an assignment's name, or before END
pub name_ends : (name : List ℕ) {ts rest : List Placed} (kind given : Kind) → given_kind rest ≡ Some given → The (tokens.Upper name) ts rest → held kind ts ≡ []
unfolding held
name_ends name kind given follows (is {p} {rest} same) =
    subst (λ (x : Token). held_from x kind p.place.start (given_kind rest) (held (kind_behind kind x) rest) ≡ []) (sym same)
    (ap (λ (o : Option Kind). held_from (tokens.Upper name) kind p.place.start o (held kinds.Type rest)) follows)

pub end_ends : {ts rest : List Placed} (kind : Kind) → The (tokens.Word words.End) ts rest → (held kind ts ≡ []) × (givens ts ≡ [])
unfolding held givens
end_ends kind (is {p} {rest} same) = (
  subst (λ (x : Token). held_from x kind p.place.start (given_kind rest) (held (kind_behind kind x) rest) ≡ []) (sym same) refl,
  subst (λ (x : Token). given_from x p.place.start (given_kind rest) (held kinds.Type rest) (givens rest) ≡ []) (sym same) refl,
)

pub begins_with_the : (t : Token) {ts rest : List Placed} → The t ts rest → given_kind ts ≡ given_by t
begins_with_the t (is same) = ap given_by same

-- ---- types

-- the name by which a type refers, if it does
abbrev pub mention_of : Definition → ℕ → List Mention
mention_of (types.Reference name) place = record { kind = kinds.Type; name = name; place = place } ∷ []
mention_of (types.IeContainer set) place = record { kind = kinds.IeSet; name = set; place = place } ∷ []
mention_of (types.Pdu set) place = record { kind = kinds.ProcedureSet; name = set; place = place } ∷ []
mention_of _ place = []

-- the names by which these types refer
unfoldable pub mentions_of : List Node → List Mention
mentions_of [] = []
mentions_of (node ∷ nodes) = mention_of node.definition node.place ++ mentions_of nodes

pub mentions-append : (xs ys : List Node) → mentions_of (xs ++ ys) ≡ mentions_of xs ++ mentions_of ys
unfolding mentions_of
mentions-append [] ys = refl
mentions-append (node ∷ xs) ys =
    ap (λ (l : List Mention). mention_of node.definition node.place ++ l) (mentions-append xs ys)
    ∙ sym (append_assoc (mention_of node.definition node.place) (mentions_of xs) (mentions_of ys))

pub mentions-one : (node : Node) → mentions_of (node ∷ []) ≡ mention_of node.definition node.place
unfolding mentions_of
mentions-one node = append-nil (mention_of node.definition node.place)

-- the types inside this one have numbers from n on
abbrev pub AllFrom : ℕ → List Component → Type 0
AllFrom n [] = Unit {0}
AllFrom n (c ∷ cs) = (n ≤ c.definition.number) × AllFrom n cs

abbrev pub IsFrom : ℕ → Definition → Type 0
IsFrom n (types.Sequence members) = AllFrom n members.root × AllFrom n (additions_of members.additions)
IsFrom n (types.Choice members) = AllFrom n members.root × AllFrom n (additions_of members.additions)
IsFrom n (types.SequenceOf size element) = n ≤ element.number
IsFrom n _ = Unit {0}

abbrev pub AreFrom : ℕ → List Node → Type 0
AreFrom n [] = Unit {0}
AreFrom n (node ∷ nodes) = IsFrom n node.definition × AreFrom n nodes

pub all_from_less : (m n : ℕ) → m ≤ n → (cs : List Component) → AllFrom n cs → AllFrom m cs
all_from_less m n le [] h = tt
all_from_less m n le (c ∷ cs) h = (omega (arith, h.0), all_from_less m n le cs h.1)

is_from_less : (m n : ℕ) → m ≤ n → (d : Definition) → IsFrom n d → IsFrom m d
is_from_less m n le (types.Sequence members) h = (all_from_less m n le members.root h.0, all_from_less m n le (additions_of members.additions) h.1)
is_from_less m n le (types.Choice members) h = (all_from_less m n le members.root h.0, all_from_less m n le (additions_of members.additions) h.1)
is_from_less m n le (types.SequenceOf size element) h = omega (arith, h)
is_from_less m n le _ h = tt

are_from_less : (m n : ℕ) → m ≤ n → (nodes : List Node) → AreFrom n nodes → AreFrom m nodes
are_from_less m n le [] h = tt
are_from_less m n le (node ∷ nodes) h = (is_from_less m n le node.definition h.0, are_from_less m n le nodes h.1)

are_from-append : (n : ℕ) (xs ys : List Node) → AreFrom n xs → AreFrom n ys → AreFrom n (xs ++ ys)
are_from-append n [] ys h k = k
are_from-append n (x ∷ xs) ys h k = (h.0, are_from-append n xs ys h.1 k)

-- Types that ended from ts to rest, and the names that the items there hold: these are the names by which the types refer. What
-- stands inside them ended there too.
pub record Grown (kind : Kind) (nodes all : List Node) (ts rest : List Placed) : Type 0 where
  pub more : List Node
  pub grows : all ≡ nodes ++ more
  pub inside : AreFrom (length nodes) more
  pub passes : Passes kind kinds.Type ts rest (mentions_of more)

-- nothing ended, and nothing was held
pub not_grown : {kind : Kind} (nodes : List Node) {ts rest : List Placed} → Passes kind kinds.Type ts rest [] → Grown kind nodes nodes ts rest
unfolding mentions_of
not_grown nodes passes = record { more = []; grows = sym (append-nil nodes); inside = tt; passes = passes }

-- behind items that hold nothing
pub later_grown : {a b : Kind} {nodes all : List Node} {ts us rest : List Placed} → Passes a b ts us [] → Grown b nodes all us rest → Grown a nodes all ts rest
later_grown one two = record { more = two.more; grows = two.grows; inside = two.inside; passes = one then two.passes }

-- before items that hold nothing
pub grown_then : {a : Kind} {nodes all : List Node} {ts us rest : List Placed} → Grown a nodes all ts us → Passes kinds.Type kinds.Type us rest [] → Grown a nodes all ts rest
grown_then one two = record { more = one.more; grows = one.grows; inside = one.inside; passes = passed_as (mentions_of one.more) (append-nil (mentions_of one.more)) (one.passes then two) }

-- one after the other
pub grown_both : {a : Kind} {nodes inside all : List Node} {ts us rest : List Placed} → Grown a nodes inside ts us → Grown kinds.Type inside all us rest → Grown a nodes all ts rest
grown_both {nodes = nodes} {inside = inside} one two = record {
  more = one.more ++ two.more;
  grows = two.grows ∙ ap (λ (l : List Node). l ++ two.more) one.grows ∙ append_assoc nodes one.more two.more;
  inside = are_from-append (length nodes) one.more two.more one.inside
      (are_from_less (length nodes) (length inside) (omega (arith, ap (λ (l : List Node). length l) one.grows, length-append nodes one.more)) two.more two.inside);
  passes = passed_as (mentions_of (one.more ++ two.more)) (sym (mentions-append one.more two.more)) (one.passes then two.passes);
}

-- one more type that refers by the names of these items, behind those inside it
pub grown_with : {a : Kind} {nodes : List Node} {ts rest : List Placed} (new : Node) → IsFrom (length nodes) new.definition → Passes a kinds.Type ts rest (mention_of new.definition new.place) → Grown a nodes (nodes ++ new ∷ []) ts rest
grown_with new inner passes = record {
  more = new ∷ [];
  grows = refl;
  inside = (inner, tt);
  passes = passed_as (mentions_of (new ∷ [])) (sym (mentions-one new)) passes;
}

-- one more type around those inside it, which refers by no name itself
pub grown_around : {a : Kind} {nodes all : List Node} {ts rest : List Placed} (new : Node) → mention_of new.definition new.place ≡ [] → IsFrom (length nodes) new.definition → Grown a nodes all ts rest → Grown a nodes (all ++ new ∷ []) ts rest
grown_around {nodes = nodes} new none inner one = record {
  more = one.more ++ new ∷ [];
  inside = are_from-append (length nodes) one.more (new ∷ []) one.inside (inner, tt);
  grows = ap (λ (l : List Node). l ++ new ∷ []) one.grows ∙ append_assoc nodes one.more (new ∷ []);
  passes = passed_as (mentions_of (one.more ++ new ∷ []))
      (sym (mentions-append one.more (new ∷ []) ∙ ap (λ (l : List Mention). mentions_of one.more ++ l) (mentions-one new ∙ none) ∙ append-nil (mentions_of one.more)))
      one.passes;
}

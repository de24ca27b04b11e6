-- Types have one meaning: the same items, behind the same types, give the same type and the same list of types, and end there.
use Rattle.std.proofs.Common.{◌≡◌, ℕ, List, [], ◌∷◌, Bool, refl, sym, ap, ◌∙◌, subst, Option, Some, None}
use Rattle.std.specs.Prelude.{ℤ}
use Rattle.asn1_tokens.specs.declared.token.Word.{Word}
use Rattle.asn1_tokens.specs.declared.token.Word.TheVariants as words
use Rattle.asn1_tokens.specs.declared.token.Sign.{Sign}
use Rattle.asn1_tokens.specs.declared.token.Sign.TheVariants as signs
use Rattle.asn1_tokens.specs.declared.token.Token.TheVariants as tokens
use Rattle.asn1_syntax.specs.declared.types.definition.Size.{Size}
use Rattle.asn1_syntax.specs.declared.types.definition.TypeId.{TypeId}
use Rattle.asn1_syntax.specs.declared.types.definition.Component.{Component}
use Rattle.asn1_syntax.specs.declared.types.definition.Extensible.{Extensible}
use Rattle.asn1_syntax.specs.declared.types.definition.Definition.{Definition}
use Rattle.asn1_syntax.specs.declared.types.definition.Definition.TheVariants as types
use Rattle.asn1_syntax.specs.declared.types.definition.Node.{Node}
use Rattle.asn1_syntax.specs.declared.types.members.Group.{Group}
use Rattle.asn1_syntax.specs.types.Reading.{Left}
use Rattle.asn1_syntax.specs.types.Members.{component}
use Rattle.asn1_syntax.specs.types.Types.{node, next_id}
use Rattle.asn1_syntax.specs.types.Shapes.{Shape, shape_of}
use Rattle.asn1_defs.specs.ItemMeanings.{The, start_of, Extends, OptionalSize, sized, unsized, SetName}
use Rattle.asn1_defs.specs.TypeMeanings.{Follows, alone, bounds, names, string, text_size, Plain, simple, ie_container, pdu, MayBeOptional, optional, required, alternative, Piece, Behind, AMember, Members, Value, with_type, Means, reference, worded, plain, sequence_of, empty_sequence, sequence, choice, member, mark, last, more, no_more, one_more}
use Rattle.proof_asn1.proofs.values.OneItem.{One, the_same, rest_one, word_clash, value_one, word_one, upper_one, lower_one, extends_one, opens_with, size_one, set_one, names_one, lower_sign, comma_brace}

-- the same value, the same list of types, and the same items behind it
pub record OneValue {A : Type 0} (x y : A) (all every : List Node) (ts us : Left) : Type 0 where
  pub value : x ≡ y
  pub types : all ≡ every
  pub rest : ts ≡ us

optional_one : {group : Group} {x y : Bool} {ts us a b : Left} → ts ≡ us → MayBeOptional group ts x a → MayBeOptional group us y b → One x y a b
optional_one h (optional a) (optional b) = record { value = refl; rest = rest_one h a b }
optional_one h (optional a) (required w) = word_clash h a w
optional_one h (required w) (optional a) = word_clash (sym h) a w
optional_one h (required w) (required v) = record { value = refl; rest = h }
optional_one h alternative alternative = record { value = refl; rest = h }

pub upper_word : {n : List ℕ} {w : Word} {ts us : Left} → One (tokens.Upper n) (tokens.Word w) ts us → ⊥
upper_word one = let e = one.value in cc

pub sign_word : {s : Sign} {w : Word} {ts us : Left} → One (tokens.Sign s) (tokens.Word w) ts us → ⊥
sign_word one = let e = one.value in cc

parenthesis_brace : {ts us : Left} → One (tokens.Sign signs.LeftParenthesis) (tokens.Sign signs.LeftBrace) ts us → ⊥
parenthesis_brace one = let e = one.value in cc

brace_mark : {ts us : Left} → One (tokens.Sign signs.RightBrace) (tokens.Sign signs.Ellipsis) ts us → ⊥
brace_mark one = let e = one.value in cc

-- a SEQUENCE OF goes on otherwise than a SEQUENCE
list_clash : {size : Option Size} {ts us a b c : Left} → ts ≡ us → OptionalSize ts size a → The (tokens.Word words.Of) a b → The (tokens.Sign signs.LeftBrace) us c → ⊥
list_clash h (sized s) of e = parenthesis_brace (the_same h (opens_with s).1 e)
list_clash h (unsized w) of e = sign_word (the_same (sym h) e of)

-- no brace begins a member, or members
member_clash : {group : Group} {nodes all : List Node} {x : Component} {ts us a b : Left} → ts ≡ us → The (tokens.Sign signs.RightBrace) ts a → Means (AMember group) nodes us x all b → ⊥
member_clash h e (member n d o) = lower_sign (the_same (sym h) n e)

members_clash : {group : Group} {nodes all : List Node} {x : Extensible Component} {ts us a b : Left} → ts ≡ us → The (tokens.Sign signs.RightBrace) ts a → Means (Members group) nodes us x all b → ⊥
members_clash h e (mark f m) = brace_mark (the_same h e f)
members_clash h e (last m f) = member_clash h e m
members_clash h e (more m f k) = member_clash h e m

-- no `...` begins a member
mark_clash : {group : Group} {nodes all : List Node} {x : Component} {ts us a b : Left} → ts ≡ us → The (tokens.Sign signs.Ellipsis) ts a → Means (AMember group) nodes us x all b → ⊥
mark_clash h e (member n d o) = lower_sign (the_same (sym h) n e)

integer_one : {l m u v : ℤ} {x y : Bool} {ts us a b c d e f a' b' c' d' e' f' : Left}
    → ts ≡ us
    → The (tokens.Sign signs.LeftParenthesis) ts a → The (tokens.Number l) a b → The (tokens.Sign signs.Range) b c → The (tokens.Number u) c d → Extends d x e → The (tokens.Sign signs.RightParenthesis) e f
    → The (tokens.Sign signs.LeftParenthesis) us a' → The (tokens.Number m) a' b' → The (tokens.Sign signs.Range) b' c' → The (tokens.Number v) c' d' → Extends d' y e' → The (tokens.Sign signs.RightParenthesis) e' f'
    → One {A = Definition} (types.Integer l u x) (types.Integer m v y) f f'
integer_one h a low r high x e a' low' r' high' x' e' =
    let l = value_one (rest_one h a a') low low' in
    let u = value_one (rest_one l.rest r r') high high' in
    let t = extends_one u.rest x x' in
    record { value = λ i. types.Integer (l.value i) (u.value i) (t.value i); rest = rest_one t.rest e e' }

node_one : {d e : Definition} {p : ℕ} {a b : Left} → One d e a b → One (node d p) (node e p) a b
node_one {p} one = record { value = ap (λ (d : Definition). node d p) one.value; rest = one.rest }

sized_one : (kind : Option Size → Definition) {x y : Option Size} {ts us a b : Left} → ts ≡ us → OptionalSize ts x a → OptionalSize us y b → One (kind x) (kind y) a b
sized_one kind h x y = let one = size_one h x y in record { value = ap kind one.value; rest = one.rest }

set_node_one : (kind : List ℕ → Definition) {m n : List ℕ} {p q : ℕ} {ts us a b : Left} → ts ≡ us → SetName ts m p a → SetName us n q b → One (node (kind m) p) (node (kind n) q) a b
set_node_one kind h m n = let one = set_one h m n in record { value = λ i. node (kind (one.set i)) (one.place i); rest = one.rest }

follows_one : {shape : Shape} {x y : Definition} {ts us a b : Left} → ts ≡ us → Follows shape ts x a → Follows shape us y b → One x y a b
follows_one h alone alone = record { value = refl; rest = h }
follows_one h (bounds a low r high x e) (bounds a' low' r' high' x' e') = integer_one h a low r high x e a' low' r' high' x' e'
follows_one h (names a m) (names b k) = let one = names_one (rest_one h a b) m k in record { value = ap (λ (x : Extensible (List ℕ)). types.Enumerated x) one.value; rest = one.rest }
follows_one h (string {kind} a m) (string b k) = sized_one kind (rest_one h a b) m k
follows_one h (text_size {kind} m) (text_size k) = sized_one kind h m k

no_shape : {shape : Shape} → None ≡ Some shape → ⊥
no_shape is = cc

same_shape : (word : Word) {shape other : Shape} → shape_of word ≡ Some shape → shape_of word ≡ Some other → shape ≡ other
same_shape word {shape} {other} is also = same (sym is ∙ also)
  where
    same : Some shape ≡ Some other → shape ≡ other
    same e = cc

-- the words of types with others inside begin no other type
no_sequence : {place : ℕ} {new : Node} {ts rest : Left} → Plain words.Sequence place ts new rest → ⊥
no_sequence (simple is m) = no_shape is

no_choice : {place : ℕ} {new : Node} {ts rest : Left} → Plain words.Choice place ts new rest → ⊥
no_choice (simple is m) = no_shape is

plain_one : {word : Word} {place : ℕ} {x y : Node} {ts us a b : Left} → ts ≡ us → Plain word place ts x a → Plain word place us y b → One x y a b
plain_one {us} {b} h (simple {word} is m) (simple {definition} also k) = node_one (follows_one h m (subst (λ (shape : Shape). Follows shape us definition b) (same_shape word also is) k))
plain_one h (simple is m) (ie_container k) = absurd (no_shape is)
plain_one h (simple is m) (pdu k) = absurd (no_shape is)
plain_one h (ie_container k) (simple is m) = absurd (no_shape is)
plain_one h (pdu k) (simple is m) = absurd (no_shape is)
plain_one h (ie_container m) (ie_container k) = set_node_one (λ x. types.IeContainer x) h m k
plain_one h (pdu m) (pdu k) = set_node_one (λ x. types.Pdu x) h m k

-- a new type behind the same ones
new_one : {nodes others : List Node} {x y : Node} {a b : Left} → nodes ≡ others → One x y a b → OneValue (next_id nodes) (next_id others) (with_type nodes x) (with_type others y) a b
new_one n one = record { value = ap next_id n; types = λ i. with_type (n i) (one.value i); rest = one.rest }

-- a type behind those inside it
outer_one : (kind : Extensible Component → Definition) (p : ℕ) {x y : Extensible Component} {all every : List Node} {a b : Left} → OneValue x y all every a b → OneValue (next_id all) (next_id every) (with_type all (node (kind x) p)) (with_type every (node (kind y) p)) a b
outer_one kind p one = new_one one.types (node_one (record { value = ap kind one.value; rest = one.rest }))

moved : {v w : Word} {p q : ℕ} {nodes all : List Node} {id : TypeId} {ts rest : Left} → v ≡ w → p ≡ q → Means (Behind w q) nodes ts id all rest → Means (Behind v p) nodes ts id all rest
moved {v} {q} {nodes} {all} {id} {ts} {rest} e f m = subst (λ p. Means (Behind v p) nodes ts id all rest) (sym f) (subst (λ w. Means (Behind w q) nodes ts id all rest) (sym e) m)

-- What words tell apart needs no clause here: the word is an index.
pub one_type : {piece : Piece} {nodes others all every : List Node} {x y : Value piece} {ts us a b : Left} → nodes ≡ others → ts ≡ us → Means piece nodes ts x all a → Means piece others us y every b → OneValue x y all every a b
one_type n h (reference a) (reference b) = let one = upper_one h a b in new_one n (record { value = λ i. node (types.Reference (one.value i)) (start_of (h i)); rest = one.rest })
one_type n h (worded a m) (worded b k) = let one = word_one h a b in one_type n one.rest m (moved one.value (ap start_of h) k)
one_type n h (plain m) (plain k) = new_one n (plain_one h m k)
one_type n h (sequence_of s a m) (sequence_of t b k) =
    let one = size_one h s t in
    let inside = one_type n (rest_one one.rest a b) m k in
    new_one inside.types (node_one (record { value = λ i. types.SequenceOf (one.value i) (inside.value i); rest = inside.rest }))
one_type n h (empty_sequence a b) (empty_sequence c d) = new_one n (record { value = refl; rest = rest_one (rest_one h a c) b d })
one_type n h (sequence a m) (sequence b k) = outer_one (λ x. types.Sequence x) _ (one_type n (rest_one h a b) m k)
one_type n h (choice a m) (choice b k) = outer_one (λ x. types.Choice x) _ (one_type n (rest_one h a b) m k)
one_type n h (member a d o) (member b e p) =
    let name = lower_one h a b in
    let inside = one_type n name.rest d e in
    let may = optional_one inside.rest o p in
    record { value = λ i. component (name.value i) (inside.value i) (may.value i); types = inside.types; rest = may.rest }
one_type n h (mark a m) (mark b k) =
    let added = one_type n (rest_one h a b) m k in
    record { value = λ i. record { root = []; additions = Some (added.value i) }; types = added.types; rest = added.rest }
one_type n h (last m a) (last k b) =
    let found = one_type n h m k in
    record { value = λ i. record { root = found.value i ∷ []; additions = None }; types = found.types; rest = rest_one found.rest a b }
one_type n h (more m a r) (more k b q) =
    let found = one_type n h m k in
    let members = one_type found.types (rest_one found.rest a b) r q in
    record { value = λ i. record { root = found.value i ∷ (members.value i).root; additions = (members.value i).additions }; types = members.types; rest = members.rest }
one_type n h (no_more a) (no_more b) = record { value = refl; types = n; rest = rest_one h a b }
one_type n h (one_more a m r) (one_more b k q) =
    let found = one_type n (rest_one h a b) m k in
    let members = one_type found.types found.rest r q in
    record { value = λ i. found.value i ∷ members.value i; types = members.types; rest = members.rest }
one_type n h (reference a) (worded b m) = absurd (upper_word (the_same h a b))
one_type n h (worded b m) (reference a) = absurd (upper_word (the_same (sym h) a b))
one_type n h (sequence_of s a m) (empty_sequence b c) = absurd (list_clash h s a b)
one_type n h (sequence_of s a m) (sequence b k) = absurd (list_clash h s a b)
one_type n h (empty_sequence b c) (sequence_of s a m) = absurd (list_clash (sym h) s a b)
one_type n h (sequence b k) (sequence_of s a m) = absurd (list_clash (sym h) s a b)
one_type n h (empty_sequence a b) (sequence c m) = absurd (members_clash (rest_one h a c) b m)
one_type n h (sequence c m) (empty_sequence a b) = absurd (members_clash (rest_one (sym h) a c) b m)
one_type n h (last m a) (more k b q) = let found = one_type n h m k in absurd (comma_brace (the_same (sym found.rest) b a))
one_type n h (more m a r) (last k b) = let found = one_type n h m k in absurd (comma_brace (the_same found.rest a b))
one_type n h (mark a m) (last k b) = absurd (mark_clash h a k)
one_type n h (mark a m) (more k b q) = absurd (mark_clash h a k)
one_type n h (last k b) (mark a m) = absurd (mark_clash (sym h) a k)
one_type n h (more k b q) (mark a m) = absurd (mark_clash (sym h) a k)
one_type n h (no_more a) (one_more b k q) = absurd (comma_brace (the_same (sym h) b a))
one_type n h (one_more b k q) (no_more a) = absurd (comma_brace (the_same h b a))
one_type n h (plain m) (sequence_of t b k) = absurd (no_sequence m)
one_type n h (plain m) (empty_sequence c d) = absurd (no_sequence m)
one_type n h (plain m) (sequence b k) = absurd (no_sequence m)
one_type n h (plain m) (choice b k) = absurd (no_choice m)
one_type n h (sequence_of t b k) (plain m) = absurd (no_sequence m)
one_type n h (empty_sequence c d) (plain m) = absurd (no_sequence m)
one_type n h (sequence b k) (plain m) = absurd (no_sequence m)
one_type n h (choice b k) (plain m) = absurd (no_choice m)

-- Types stand as deep one inside another as their items stand.
use Rattle.std.proofs.Common.{◌≡◌, ℕ, suc, ◌+◌, ◌<◌, ◌≤◌, List, [], ◌∷◌, ◌++◌, length, Bool, refl, sym, ap, ◌∙◌, subst, append_assoc, append-nil, inl, inr, arith, length-append}
use Rattle.std.specs.Prelude.{◌⊎◌, Some, None, slice_get}
use Rattle.asn1_tokens.specs.declared.token.Word.{Word}
use Rattle.asn1_tokens.specs.declared.token.Word.TheVariants as words
use Rattle.asn1_tokens.specs.declared.token.Sign.TheVariants as signs
use Rattle.asn1_tokens.specs.declared.token.Token.TheVariants as tokens
use Rattle.asn1_tokens.specs.Stream.{Placed}
use Rattle.asn1_syntax.specs.declared.types.definition.Definition.{Definition}
use Rattle.asn1_syntax.specs.declared.types.definition.Definition.TheVariants as types
use Rattle.asn1_syntax.specs.declared.types.definition.Node.{Node}
use Rattle.asn1_syntax.specs.declared.types.members.Group.{Group}
use Rattle.asn1_syntax.specs.types.Shapes.{Shape, shape_of, Content, Simple, parts_of}
use Rattle.asn1_syntax.specs.types.Members.{no_parts}
use Rattle.asn1_syntax.specs.types.Types.{node}
use Rattle.asn1_module.proofs.SimpleTypes.{followed_parts}
use Rattle.asn1_defs.specs.Numbers.{name_in}
use Rattle.asn1_defs.specs.Judgement.{weight_of}
use Rattle.asn1_defs.specs.ItemMeanings.{The, start_of, SetName, set_name}
use Rattle.asn1_defs.specs.TypeMeanings.{Follows, alone, bounds, names, string, text_size, Plain, simple, ie_container, pdu, MayBeOptional, optional, required, alternative, Piece, AType, Behind, AMember, Members, Added, Value, Means, reference, worded, plain, sequence_of, empty_sequence, sequence, choice, member, mark, last, more, no_more, one_more}
use Rattle.law_asn1.specs.names.Held.{given_kind}
use Rattle.law_asn1.proofs.names.Passing.{begins_with_the}
use Rattle.law_asn1.proofs.names.TypesHeld.{optional_follows, added_follows, begins_type}
use Rattle.law_asn1.specs.depth.Levels.{behind, innermost, Item}
use Rattle.law_asn1.proofs.depth.Lying.{Lies, ◌then◌, plain_lies, upper_lies, bare, Flat, ◌and◌, none_flat, at_level, flat, lower_flat, brace_flat, end_flat, comma_flat, dots_flat, optional_size_flat, bounds_flat, names_flat}
use Rattle.law_asn1.proofs.depth.Paths.{IsPart, IsMember, Holds, itself, Sound, Shows, sound_from, bare_sound, like_sound, shows_nothing, shows_both, shows_from, sound_around, shows_around, shows_alone}

-- ---- the first types of a module

pub record IsFront (nodes whole : List Node) : Type 0 where
  pub later : List Node
  pub split : whole ≡ nodes ++ later

pub front_front : {a b c : List Node} → IsFront a b → IsFront b c → IsFront a c
front_front {a} h k = record { later = h.later ++ k.later; split = k.split ∙ ap (λ (l : List Node). l ++ k.later) h.split ∙ append_assoc a h.later k.later }

pub longer : {a b : List Node} → IsFront a b → length a ≤ length b
longer {a} h = omega (arith, ap (λ (l : List Node). length l) h.split, length-append a h.later)

pub whole_front : (nodes : List Node) → IsFront nodes nodes
whole_front nodes = record { later = []; split = sym (append-nil nodes) }

with_one : (nodes : List Node) (new : Node) → IsFront nodes (nodes ++ new ∷ [])
with_one nodes new = record { later = new ∷ []; split = refl }

with_long : (nodes : List Node) (new : Node) → length (nodes ++ new ∷ []) ≡ suc (length nodes)
with_long nodes new = omega (arith, length-append nodes (new ∷ []))

at_end : (nodes : List Node) (new : Node) (whole : List Node) → IsFront (nodes ++ new ∷ []) whole → slice_get whole (length nodes) ≡ Some new
at_end nodes new whole h = ap (λ (l : List Node). slice_get l (length nodes)) h.split ∙ go nodes
  where
    go : (ns : List Node) → slice_get ((ns ++ new ∷ []) ++ h.later) (length ns) ≡ Some new
    go [] = refl
    go (n ∷ ns) = go ns

pub grows : {piece : Piece} {nodes all : List Node} {x : Value piece} {ts rest : List Placed} → Means piece nodes ts x all rest → IsFront nodes all
grows (reference {nodes} {name} {ts} a) = with_one nodes (node (types.Reference name) (start_of ts))
grows (worded a m) = grows m
grows (plain {nodes} {new} p) = with_one nodes new
grows (sequence_of {all} {place} {size} {element} z o m) = front_front (grows m) (with_one all (node (types.SequenceOf size element) place))
grows (empty_sequence {nodes} {place} a b) = with_one nodes (node (types.Sequence no_parts) place)
grows (sequence {all} {place} {members} a m) = front_front (grows m) (with_one all (node (types.Sequence members) place))
grows (choice {all} {place} {members} a m) = front_front (grows m) (with_one all (node (types.Choice members) place))
grows (member n m o) = grows m
grows (mark e m) = grows m
grows (last m e) = grows m
grows (more m e k) = front_front (grows m) (grows k)
grows (no_more {nodes} e) = whole_front nodes
grows (one_more e m k) = front_front (grows m) (grows k)

-- the types that such items are, not those inside these
abbrev pub IsRoot : (piece : Piece) → Value piece → ℕ → Type 0
IsRoot AType x = λ r. r ≡ x.number
IsRoot (Behind word place) x = λ r. r ≡ x.number
IsRoot (AMember group) x = λ r. r ≡ x.definition.number
IsRoot (Members group) x = λ r. IsMember r x
IsRoot (Added group) x = λ r. IsPart r x

pub roots_inside : {piece : Piece} {nodes all : List Node} {x : Value piece} {ts rest : List Placed} → Means piece nodes ts x all rest → (r : ℕ) → IsRoot piece x r → (length nodes ≤ r) × (r < length all)
roots_inside (reference {nodes} {name} {ts} a) r h = (omega (arith, h), omega (arith, h, with_long nodes (node (types.Reference name) (start_of ts))))
roots_inside (worded a m) r h = roots_inside m r h
roots_inside (plain {nodes} {new} p) r h = (omega (arith, h), omega (arith, h, with_long nodes new))
roots_inside (sequence_of {all} {place} {size} {element} z o m) r h = (omega (arith, h, longer (grows m)), omega (arith, h, with_long all (node (types.SequenceOf size element) place)))
roots_inside (empty_sequence {nodes} {place} a b) r h = (omega (arith, h), omega (arith, h, with_long nodes (node (types.Sequence no_parts) place)))
roots_inside (sequence {all} {place} {members} a m) r h = (omega (arith, h, longer (grows m)), omega (arith, h, with_long all (node (types.Sequence members) place)))
roots_inside (choice {all} {place} {members} a m) r h = (omega (arith, h, longer (grows m)), omega (arith, h, with_long all (node (types.Choice members) place)))
roots_inside (member n m o) r h = roots_inside m r h
roots_inside (mark e m) r (inl h) = absurd h
roots_inside (mark e m) r (inr h) = roots_inside m r h
roots_inside (last m e) r (inl (inl h)) = roots_inside m r h
roots_inside (last m e) r (inl (inr h)) = absurd h
roots_inside (last m e) r (inr h) = absurd h
roots_inside (more m e k) r (inl (inl h)) = let one = roots_inside m r h in (one.0, omega (arith, one.1, longer (grows k)))
roots_inside (more m e k) r (inl (inr h)) = let rest = roots_inside k r (inl h) in (omega (arith, rest.0, longer (grows m)), rest.1)
roots_inside (more m e k) r (inr h) = let rest = roots_inside k r (inr h) in (omega (arith, rest.0, longer (grows m)), rest.1)
roots_inside (no_more e) r h = absurd h
roots_inside (one_more e m k) r (inl h) = let one = roots_inside m r h in (one.0, omega (arith, one.1, longer (grows k)))
roots_inside (one_more e m k) r (inr h) = let rest = roots_inside k r h in (omega (arith, rest.0, longer (grows m)), rest.1)

optional_flat : {group : Group} {x : Bool} {ts rest : List Placed} (t : ℕ) (xs : List ℕ) → MayBeOptional group ts x rest → Flat t (t ∷ xs) (t ∷ xs) ts rest
optional_flat t xs (optional a) = flat (tokens.Word words.Optional) refl t (t ∷ xs) (at_level t) a
optional_flat {rest} t xs (required w) = none_flat t (t ∷ xs) rest
optional_flat {rest} t xs alternative = none_flat t (t ∷ xs) rest

-- what follows the word of a type without another one inside
follows_flat : {shape : Shape} {definition : Definition} {ts rest : List Placed} (y : ℕ) (xs : List ℕ) → Follows shape ts definition rest → Flat y (y ∷ xs) (y ∷ xs) ts rest
follows_flat {rest} y xs alone = none_flat y (y ∷ xs) rest
follows_flat y xs (bounds a l r h x e) = bounds_flat y xs a l r h x e
follows_flat y xs (names a n) = brace_flat y xs a and names_flat y xs n
follows_flat y xs (string s z) = flat (tokens.Word words.String) refl y (y ∷ xs) (at_level y) s and optional_size_flat y xs z
follows_flat y xs (text_size z) = optional_size_flat y xs z

-- its word leaves the levels as they are
same_levels : (w : Word) {shape : Shape} → shape_of w ≡ Some shape → (stack : List ℕ) → behind (tokens.Word w) stack ≡ stack
same_levels words.Sequence h stack = cc
same_levels words.Choice h stack = cc
same_levels words.ProtocolIeContainer h stack = cc
same_levels words.ProtocolPdu h stack = cc
same_levels words.Type h stack = cc
same_levels words.Message h stack = cc
same_levels words.Outcome h stack = cc
same_levels _ h stack = refl

-- such a type counts no level, refers by no name, and holds no type
simple_weight : (definition : Definition) (w : Word) (content : Content) → parts_of definition ≡ Simple w content → weight_of definition ≡ 0
simple_weight (types.Sequence members) w content h = cc
simple_weight (types.Choice members) w content h = cc
simple_weight (types.SequenceOf size element) w content h = cc
simple_weight (types.IeContainer set) w content h = cc
simple_weight (types.Pdu set) w content h = cc
simple_weight _ w content h = refl

simple_nameless : (definition : Definition) (w : Word) (content : Content) → parts_of definition ≡ Simple w content → name_in definition ≡ None
simple_nameless (types.Reference name) w content h = cc
simple_nameless (types.IeContainer set) w content h = cc
simple_nameless (types.Pdu set) w content h = cc
simple_nameless _ w content h = refl

simple_holds : (definition : Definition) (w : Word) (content : Content) → parts_of definition ≡ Simple w content → (r : ℕ) → Holds definition r → ⊥
simple_holds (types.Sequence members) w content h r held = cc
simple_holds (types.Choice members) w content h r held = cc
simple_holds (types.SequenceOf size element) w content h r held = cc
simple_holds _ w content h r held = held

-- Items from ts to rest, behind an item or none, that show the types from first to before end; the levels are these before them, and behind
-- them the innermost is as deep as an item that they could show.
pub record Stood (whole : List Node) (From : ℕ → Type 0) (first end y : ℕ) (front : List Item) (before below : List ℕ) (ts rest : List Placed) : Type 0 where
  pub items : List Item
  pub top : ℕ
  pub lies : Lies before (top ∷ below) ts rest items
  pub ends : Sound whole From y (bare top)
  pub shows : Shows whole From first end y (front ++ items)

abbrev pub front_of : Word → ℕ → List ℕ → List Item
front_of word y xs = bare (innermost (behind (tokens.Word word) (y ∷ xs))) ∷ []

-- what stands before the items of a piece, and the levels there: y is that of the piece, and before additions the level of the member before
abbrev pub front_at : Piece → ℕ → List ℕ → List Item
front_at (Behind word place) y xs = front_of word y xs
front_at _ y xs = []

abbrev pub before_at : Piece → ℕ → ℕ → List ℕ → List ℕ
before_at AType y t xs = y ∷ xs
before_at (Behind word place) y t xs = behind (tokens.Word word) (y ∷ xs)
before_at (AMember group) y t xs = y ∷ xs
before_at (Members group) y t xs = y ∷ y ∷ xs
before_at (Added group) y t xs = t ∷ y ∷ xs

same_level : (y : ℕ) → y + 0 ≡ y
same_level y = omega arith

next_level : (y : ℕ) → y + 1 ≡ suc y
next_level y = omega arith

module _ (whole : List Node) where
  pub stood_from : (P Q : ℕ → Type 0) (a b y : ℕ) (before below : List ℕ) {ts rest : List Placed} → ((r : ℕ) → P r → Q r) → Stood whole P a b y [] before below ts rest → Stood whole Q a b y [] before below ts rest
  stood_from P Q a b y before below all one = record {
    items = one.items;
    top = one.top;
    lies = one.lies;
    ends = sound_from whole P Q y all (bare one.top) one.ends;
    shows = shows_from whole P Q a b y one.items all one.shows;
  }

  -- items that hold no type
  pub flat_stood : (P : ℕ → Type 0) (a y : ℕ) (before below : List ℕ) {ts rest : List Placed} → Flat y before (y ∷ below) ts rest → Stood whole P a a y [] before below ts rest
  flat_stood P a y before below one = record {
    items = one.items;
    top = y;
    lies = one.lies;
    ends = inl (omega arith, refl);
    shows = shows_nothing whole P a y one.items (bare_sound whole P y one.items one.bare);
  }

  -- at the level that the types before them ended with
  pub like_stood : (P : ℕ → Type 0) (a y t : ℕ) (before below : List ℕ) {ts rest : List Placed} → Sound whole P y (bare t) → Flat t before (t ∷ below) ts rest → Stood whole P a a y [] before below ts rest
  like_stood P a y t before below like one = record {
    items = one.items;
    top = t;
    lies = one.lies;
    ends = like;
    shows = shows_nothing whole P a y one.items (like_sound whole P y t like one.items one.bare);
  }

  pub behind_flat : {P : ℕ → Type 0} {a b y : ℕ} {before mid below : List ℕ} {ts us rest : List Placed} → Flat y before mid ts us → Stood whole P a b y [] mid below us rest → Stood whole P a b y [] before below ts rest
  behind_flat {P} {a} {b} {y} one two = record {
    items = one.items ++ two.items;
    top = two.top;
    lies = one.lies then two.lies;
    ends = two.ends;
    shows = shows_both whole P a a b y one.items two.items (shows_nothing whole P a y one.items (bare_sound whole P y one.items one.bare)) two.shows;
  }

  pub stood_both : {P : ℕ → Type 0} {a b c y : ℕ} {before mid below : List ℕ} {ts us rest : List Placed} → Stood whole P a b y [] before mid ts us
      → ((t : ℕ) → Sound whole P y (bare t) → Stood whole P b c y [] (t ∷ mid) below us rest) → Stood whole P a c y [] before below ts rest
  stood_both {P} {a} {b} {c} {y} one two =
      let then_two = two one.top one.ends in
      record {
        items = one.items ++ then_two.items;
        top = then_two.top;
        lies = one.lies then then_two.lies;
        ends = then_two.ends;
        shows = shows_both whole P a b c y one.items then_two.items one.shows then_two.shows;
      }

  -- before items that hold no type: at the level that the types ended with, or at that of the brackets around them
  pub flat_behind : {P : ℕ → Type 0} {a b y : ℕ} {before below : List ℕ} {ts us rest : List Placed} → Stood whole P a b y [] before below ts us
      → ((t : ℕ) → Flat t (t ∷ below) (t ∷ below) us rest) → Stood whole P a b y [] before below ts rest
  flat_behind {P} {a} {b} {y} {before} {below} one two = stood_both one (λ t like. like_stood P b y t (t ∷ below) below like (two t))

  pub flat_closes : {P : ℕ → Type 0} {a b y : ℕ} {before mid below : List ℕ} {ts us rest : List Placed} → Stood whole P a b y [] before mid ts us
      → ((t : ℕ) → Flat y (t ∷ mid) (y ∷ below) us rest) → Stood whole P a b y [] before below ts rest
  flat_closes {P} {a} {b} {y} {before} {mid} {below} one two = stood_both one (λ t like. flat_stood P b y (t ∷ mid) below (two t))

  -- one more type, around those that these items show; z is its own level
  around : {P : ℕ → Type 0} {a b end : ℕ} {before below : List ℕ} {ts rest : List Placed} (y z : ℕ) (new : Node) → slice_get whole b ≡ Some new → end ≡ suc b → y + weight_of new.definition ≡ z
      → name_in new.definition ≡ None → ((r : ℕ) → P r → Holds new.definition r) → ((r : ℕ) → Holds new.definition r → (a ≤ r) × (r < b))
      → Stood whole P a b z [] before below ts rest → Stood whole (λ r. r ≡ b) a end y (bare z ∷ []) before below ts rest
  around {P} {a} {b} {end} y z new there ends level unnamed held ranged one = record {
    items = one.items;
    top = one.top;
    lies = one.lies;
    ends = sound_around whole P b y new there held (bare one.top) (subst (λ (n : ℕ). Sound whole P n (bare one.top)) (sym level) one.ends);
    shows = subst (λ (n : ℕ). Shows whole (λ r. r ≡ b) a end y (bare n ∷ one.items)) level
        (shows_around whole P a b end y new one.items there ends unnamed held ranged (subst (λ (n : ℕ). Shows whole P a b n one.items) (sym level) one.shows));
  }

  -- one without another one inside
  none_inside : {b end : ℕ} {before below : List ℕ} {ts rest : List Placed} (y z : ℕ) (new : Node) → slice_get whole b ≡ Some new → end ≡ suc b → y + weight_of new.definition ≡ z
      → name_in new.definition ≡ None → ((r : ℕ) → Holds new.definition r → ⊥) → Flat z before (z ∷ below) ts rest → Stood whole (λ r. r ≡ b) b end y (bare z ∷ []) before below ts rest
  none_inside {b} {before = before} {below = below} y z new there ends level unnamed none one =
      around {P = λ r. ⊥} y z new there ends level unnamed (λ r h. absurd h) (λ r h. absurd (none r h)) (flat_stood (λ r. ⊥) b z before below one)

  -- ---- single types

  set_lies : {name : List ℕ} {place : ℕ} {ts rest : List Placed} (y : ℕ) (xs : List ℕ) → SetName ts name place rest
      → Lies (y ∷ xs) (y ∷ xs) ts rest (bare y ∷ bare y ∷ record { level = y; name = Some name } ∷ bare y ∷ bare y ∷ [])
  set_lies y xs (set_name {name} a b n c d) =
      plain_lies (tokens.Sign signs.LeftBrace) refl (y ∷ xs) a then plain_lies (tokens.Sign signs.LeftBrace) refl (y ∷ y ∷ xs) b then
      upper_lies name (y ∷ y ∷ y ∷ xs) (begins_with_the (tokens.Sign signs.RightBrace) c) n then
      plain_lies (tokens.Sign signs.RightBrace) refl (y ∷ y ∷ y ∷ xs) c then plain_lies (tokens.Sign signs.RightBrace) refl (y ∷ y ∷ xs) d

  set_stands : {name : List ℕ} {place b end : ℕ} {ts rest : List Placed} (y : ℕ) (xs : List ℕ) (new : Node) → slice_get whole b ≡ Some new → end ≡ suc b
      → name_in new.definition ≡ Some name → weight_of new.definition ≡ 1 → ((r : ℕ) → Holds new.definition r → ⊥)
      → SetName ts name place rest → Stood whole (λ r. r ≡ b) b end y (bare (suc y) ∷ []) (suc y ∷ xs) xs ts rest
  set_stands {name} {b = b} {end = end} y xs new there ends named one none set = record {
    items = items;
    top = suc y;
    lies = set_lies (suc y) xs set;
    ends = inr (record { r = b; w = b; s = weight_of new.definition; from = refl; path = itself there; level = omega (arith, one); named = λ other is. absurd (nameless other is) });
    shows = shows_alone whole b end y new (bare (suc y) ∷ items) there ends none (record {
      each = (plain_one, (plain_one, (plain_one, ((omega (arith, one), λ other is. named ∙ is), (plain_one, (plain_one, tt))))));
      number = 3;
      item = record { level = suc y; name = Some name };
      at = refl;
      level = omega (arith, one);
      named = λ other is. sym named ∙ is;
    });
  }
    where
      items : List Item
      items = bare (suc y) ∷ bare (suc y) ∷ record { level = suc y; name = Some name } ∷ bare (suc y) ∷ bare (suc y) ∷ []

      nameless : (other : List ℕ) → None ≡ Some other → ⊥
      nameless other is = cc

      plain_one : (suc y ≤ y + weight_of new.definition) × ((other : List ℕ) → None ≡ Some other → name_in new.definition ≡ Some other)
      plain_one = (omega (arith, one), λ other is. absurd (nameless other is))

  reference_stands : {b end : ℕ} {ts rest : List Placed} (y : ℕ) (xs : List ℕ) (name : List ℕ) (place : ℕ) → slice_get whole b ≡ Some (node (types.Reference name) place) → end ≡ suc b
      → given_kind rest ≡ None → The (tokens.Upper name) ts rest → Stood whole (λ r. r ≡ b) b end y [] (y ∷ xs) xs ts rest
  reference_stands {b} {end} y xs name place there ends follows the = record {
    items = record { level = y; name = Some name } ∷ [];
    top = y;
    lies = upper_lies name (y ∷ xs) follows the;
    ends = inl (omega arith, refl);
    shows = shows_alone whole b end y (node (types.Reference name) place) (record { level = y; name = Some name } ∷ []) there ends (λ r h. h) (record {
      each = ((omega arith, λ other is. is), tt);
      number = 0;
      item = record { level = y; name = Some name };
      at = refl;
      level = omega arith;
      named = λ other is. is;
    });
  }

  plain_stands : {word : Word} {place b end : ℕ} {new : Node} {ts rest : List Placed} (y : ℕ) (xs : List ℕ) → slice_get whole b ≡ Some new → end ≡ suc b
      → Plain word place ts new rest → Stood whole (λ r. r ≡ b) b end y (front_of word y xs) (behind (tokens.Word word) (y ∷ xs)) xs ts rest
  plain_stands {b = b} {end = end} {ts = ts} {rest = rest} y xs there ends (simple {word} {place} {definition} is f) =
      let parts = followed_parts word is f in
      subst (λ (levels : List ℕ). Stood whole (λ r. r ≡ b) b end y (bare (innermost levels) ∷ []) levels xs ts rest) (sym (same_levels word is (y ∷ xs)))
      (none_inside y y (node definition place) there ends (omega (arith, simple_weight definition word parts.0 parts.1)) (simple_nameless definition word parts.0 parts.1)
      (simple_holds definition word parts.0 parts.1) (follows_flat y xs f))
  plain_stands {new = new} y xs there ends (ie_container s) = set_stands y xs new there ends refl refl (λ r h. h) s
  plain_stands {new = new} y xs there ends (pdu s) = set_stands y xs new there ends refl refl (λ r h. h) s

  -- ---- types of each form

  pub types_stand : (y t : ℕ) (xs : List ℕ) {piece : Piece} {nodes all : List Node} {x : Value piece} {ts rest : List Placed} → given_kind rest ≡ None → IsFront all whole
      → Means piece nodes ts x all rest → Stood whole (IsRoot piece x) (length nodes) (length all) y (front_at piece y xs) (before_at piece y t xs) xs ts rest
  types_stand y t xs follows front (reference {nodes} {name} {ts} a) =
      reference_stands y xs name (start_of ts) (at_end nodes (node (types.Reference name) (start_of ts)) whole front) (with_long nodes (node (types.Reference name) (start_of ts))) follows a
  types_stand y t xs follows front (worded {word} a m) =
      let one = types_stand y t xs follows front m in
      record {
        items = bare (innermost (behind (tokens.Word word) (y ∷ xs))) ∷ one.items;
        top = one.top;
        lies = plain_lies (tokens.Word word) (begins_type m) (y ∷ xs) a then one.lies;
        ends = one.ends;
        shows = one.shows;
      }
  types_stand y t xs follows front (plain {nodes} {new} p) = plain_stands y xs (at_end nodes new whole front) (with_long nodes new) p
  types_stand y t xs follows front (sequence_of {all} {place} {size} {element} z o m) =
      around y (suc y) (node (types.SequenceOf size element) place) (at_end all (node (types.SequenceOf size element) place) whole front) (with_long all (node (types.SequenceOf size element) place)) (next_level y) refl
      (λ r h. h) (λ r h. roots_inside m r h)
      (behind_flat (optional_size_flat (suc y) xs z and flat (tokens.Word words.Of) refl (suc y) (suc y ∷ xs) (at_level (suc y)) o)
      (types_stand (suc y) t xs follows (front_front (with_one all (node (types.SequenceOf size element) place)) front) m))
  types_stand y t xs follows front (empty_sequence {nodes} {place} a b) =
      none_inside y (suc y) (node (types.Sequence no_parts) place) (at_end nodes (node (types.Sequence no_parts) place) whole front) (with_long nodes (node (types.Sequence no_parts) place)) (next_level y) refl
      (λ r h. elim h [ inl l ↦ l | inr k ↦ k ])
      (brace_flat (suc y) xs a and end_flat (suc y) (suc y) xs b)
  types_stand y t xs follows front (sequence {all} {place} {members} a m) =
      around y (suc y) (node (types.Sequence members) place) (at_end all (node (types.Sequence members) place) whole front) (with_long all (node (types.Sequence members) place)) (next_level y) refl
      (λ r h. h) (λ r h. roots_inside m r h)
      (behind_flat (brace_flat (suc y) xs a) (types_stand (suc y) t xs follows (front_front (with_one all (node (types.Sequence members) place)) front) m))
  types_stand y t xs follows front (choice {all} {place} {members} a m) =
      around y (suc y) (node (types.Choice members) place) (at_end all (node (types.Choice members) place) whole front) (with_long all (node (types.Choice members) place)) (next_level y) refl
      (λ r h. h) (λ r h. roots_inside m r h)
      (behind_flat (brace_flat (suc y) xs a) (types_stand (suc y) t xs follows (front_front (with_one all (node (types.Choice members) place)) front) m))
  types_stand y t xs follows front (member {name} n m o) =
      flat_behind (behind_flat (lower_flat name y xs n) (types_stand y t xs (optional_follows o follows) front m)) (λ u. optional_flat u xs o)
  types_stand y t xs follows front (mark {nodes} {all} {added} e m) =
      behind_flat (dots_flat y (y ∷ xs) e)
      (stood_from (λ r. IsPart r added) (λ r. IsPart r [] ⊎ IsPart r added) (length nodes) (length all) y (y ∷ y ∷ xs) xs (λ r h. inr h) (types_stand y y xs follows front m))
  types_stand y t xs follows front (last {nodes} {all} {found} m e) =
      flat_closes
      (stood_from (λ r. r ≡ found.definition.number) (λ r. IsPart r (found ∷ []) ⊎ IsPart r []) (length nodes) (length all) y (y ∷ y ∷ xs) (y ∷ xs) (λ r h. inl (inl h))
      (types_stand y t (y ∷ xs) (begins_with_the (tokens.Sign signs.RightBrace) e) front m))
      (λ u. end_flat u y xs e)
  types_stand y t xs follows front (more {group} {nodes} {inside} {all} {found} {members} {b} {rest} m e k) =
      stood_both
      (stood_from (λ r. r ≡ found.definition.number) (λ r. IsMember r (record { root = found ∷ members.root; additions = members.additions })) (length nodes) (length inside) y (y ∷ y ∷ xs) (y ∷ xs) (λ r h. inl (inl h))
      (types_stand y t (y ∷ xs) (begins_with_the (tokens.Sign signs.Comma) e) (front_front (grows k) front) m))
      (λ u like. behind_flat (comma_flat u y xs e)
      (stood_from (λ r. IsMember r members) (λ r. IsMember r (record { root = found ∷ members.root; additions = members.additions })) (length inside) (length all) y (y ∷ y ∷ xs) xs widen
      (types_stand y t xs follows front k)))
    where
      widen : (r : ℕ) → IsMember r members → IsMember r (record { root = found ∷ members.root; additions = members.additions })
      widen r (inl h) = inl (inr h)
      widen r (inr h) = inr h
  types_stand y t xs follows front (no_more {nodes} e) = flat_stood (λ r. ⊥) (length nodes) y (t ∷ y ∷ xs) xs (end_flat t y xs e)
  types_stand y t xs follows front (one_more {nodes} {inside} {all} {found} {members} e m k) =
      behind_flat (comma_flat t y xs e)
      (stood_both
      (stood_from (λ r. r ≡ found.definition.number) (λ r. IsPart r (found ∷ members)) (length nodes) (length inside) y (y ∷ y ∷ xs) (y ∷ xs) (λ r h. inl h)
      (types_stand y t (y ∷ xs) (added_follows k) (front_front (grows k) front) m))
      (λ u like. stood_from (λ r. IsPart r members) (λ r. IsPart r (found ∷ members)) (length inside) (length all) y (u ∷ y ∷ xs) xs (λ r h. inr h) (types_stand y u xs follows front k)))

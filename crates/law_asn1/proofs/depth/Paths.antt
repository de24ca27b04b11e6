-- Paths from a type to those inside it, and items that stand as deep as these.
use Rattle.std.proofs.Common.{◌≡◌, ℕ, zero, suc, ◌+◌, ◌<◌, ◌≤◌, List, [], ◌∷◌, ◌++◌, refl, sym, ap, ◌∙◌, subst, inl, inr, arith}
use Rattle.std.proofs.lemmas.Bool.{cases_lt}
use Rattle.std.specs.Prelude.{◌⊎◌, Option, Some, None, slice_get}
use Rattle.asn1_syntax.specs.declared.types.definition.Component.{Component}
use Rattle.asn1_syntax.specs.declared.types.definition.Extensible.{Extensible}
use Rattle.asn1_syntax.specs.declared.types.definition.Definition.{Definition}
use Rattle.asn1_syntax.specs.declared.types.definition.Definition.TheVariants as types
use Rattle.asn1_syntax.specs.declared.types.definition.Node.{Node}
use Rattle.asn1_syntax.specs.types.Members.{additions_of}
use Rattle.asn1_defs.specs.Numbers.{name_in}
use Rattle.asn1_defs.specs.Judgement.{weight_of}
use Rattle.law_asn1.specs.depth.Levels.{Item}
use Rattle.law_asn1.proofs.depth.Lying.{bare, AreBare}

-- the type of one of these members
abbrev pub IsPart : ℕ → List Component → Type 0
IsPart r [] = ⊥
IsPart r (c ∷ cs) = (r ≡ c.definition.number) ⊎ IsPart r cs

abbrev pub IsMember : ℕ → Extensible Component → Type 0
IsMember r members = IsPart r members.root ⊎ IsPart r (additions_of members.additions)

-- a type stands in another one, not in a third between them
abbrev pub Holds : Definition → ℕ → Type 0
Holds (types.Sequence members) r = IsMember r members
Holds (types.Choice members) r = IsMember r members
Holds (types.SequenceOf size element) r = r ≡ element.number
Holds _ r = ⊥

-- from a type to one inside it, or to itself, with the sum of the levels of all between, both among them
pub data Below (whole : List Node) : ℕ → ℕ → ℕ → Type 0 where
  itself : {v : ℕ} {new : Node} → slice_get whole v ≡ Some new → Below whole v v (weight_of new.definition)
  inside : {v r w s : ℕ} {new : Node} → slice_get whole v ≡ Some new → Holds new.definition r → Below whole r w s → Below whole v w (weight_of new.definition + s)

-- the type of this number refers by this name
pub record Names (whole : List Node) (w : ℕ) (name : List ℕ) : Type 0 where
  pub new : Node
  pub there : slice_get whole w ≡ Some new
  pub named : name_in new.definition ≡ Some name

-- ---- items and paths

-- a path leads from one of these types to one as deep as the item
pub record Reached (whole : List Node) (From : ℕ → Type 0) (y : ℕ) (item : Item) : Type 0 where
  pub r : ℕ
  pub w : ℕ
  pub s : ℕ
  pub from : From r
  pub path : Below whole r w s
  pub level : item.level ≤ y + s
  pub named : (name : List ℕ) → item.name ≡ Some name → Names whole w name

abbrev pub Sound : List Node → (ℕ → Type 0) → ℕ → Item → Type 0
Sound whole From y item = ((item.level ≤ y) × (item.name ≡ None)) ⊎ Reached whole From y item

abbrev pub AreSound : List Node → (ℕ → Type 0) → ℕ → List Item → Type 0
AreSound whole From y [] = Unit {0}
AreSound whole From y (m ∷ ms) = Sound whole From y m × AreSound whole From y ms

-- one of these items stands as deep as this, and refers by the name by which this type does
pub record Found (whole : List Node) (w least : ℕ) (items : List Item) : Type 0 where
  pub item : Item
  pub number : ℕ
  pub at : slice_get items number ≡ Some item
  pub level : least ≤ item.level
  pub named : (name : List ℕ) → Names whole w name → item.name ≡ Some name

-- Items beside types: no item is deeper than the path to some type, from these on; and none of the types from first to before end has a path
-- to a deeper one than some item. Both count from y on.
pub record Shows (whole : List Node) (From : ℕ → Type 0) (first end y : ℕ) (items : List Item) : Type 0 where
  pub sound : AreSound whole From y items
  pub complete : (n w s : ℕ) → first ≤ n → n < end → Below whole n w s → Found whole w (y + s) items

-- these items stand no deeper than a type after this level, and refer by its name or by none
abbrev pub AreOf : ℕ → Definition → List Item → Type 0
AreOf y definition [] = Unit {0}
AreOf y definition (m ∷ ms) = ((m.level ≤ y + weight_of definition) × ((name : List ℕ) → m.name ≡ Some name → name_in definition ≡ Some name)) × AreOf y definition ms

-- What a type without another one inside it shows: one of its items stands as deep as it, and refers by its name, if it has one.
pub record Own (y : ℕ) (definition : Definition) (items : List Item) : Type 0 where
  pub each : AreOf y definition items
  pub number : ℕ
  pub item : Item
  pub at : slice_get items number ≡ Some item
  pub level : y + weight_of definition ≤ item.level
  pub named : (name : List ℕ) → name_in definition ≡ Some name → item.name ≡ Some name

pub no_name : (o : Option (List ℕ)) → o ≡ None → (name : List ℕ) → o ≡ Some name → ⊥
no_name None a name b = cc
no_name (Some other) a name b = cc

module _ (whole : List Node) where
  pub sound_from : (P Q : ℕ → Type 0) (y : ℕ) → ((r : ℕ) → P r → Q r) → (item : Item) → Sound whole P y item → Sound whole Q y item
  sound_from P Q y all item (inl h) = inl h
  sound_from P Q y all item (inr h) = inr (record { r = h.r; w = h.w; s = h.s; from = all h.r h.from; path = h.path; level = h.level; named = h.named })

  are_sound_from : (P Q : ℕ → Type 0) (y : ℕ) → ((r : ℕ) → P r → Q r) → (items : List Item) → AreSound whole P y items → AreSound whole Q y items
  are_sound_from P Q y all [] h = tt
  are_sound_from P Q y all (m ∷ ms) h = (sound_from P Q y all m h.0, are_sound_from P Q y all ms h.1)

  are_sound-append : (P : ℕ → Type 0) (y : ℕ) (ms ns : List Item) → AreSound whole P y ms → AreSound whole P y ns → AreSound whole P y (ms ++ ns)
  are_sound-append P y [] ns h k = k
  are_sound-append P y (m ∷ ms) ns h k = (h.0, are_sound-append P y ms ns h.1 k)

  pub bare_sound : (P : ℕ → Type 0) (y : ℕ) (items : List Item) → AreBare y items → AreSound whole P y items
  bare_sound P y [] h = tt
  bare_sound P y (m ∷ ms) h = (inl h.0, bare_sound P y ms h.1)

  -- items without a name that are no deeper than one without a name
  pub like_sound : (P : ℕ → Type 0) (y t : ℕ) → Sound whole P y (bare t) → (items : List Item) → AreBare t items → AreSound whole P y items
  like_sound P y t like [] h = tt
  like_sound P y t like (m ∷ ms) h = (one like, like_sound P y t like ms h.1)
    where
      one : Sound whole P y (bare t) → Sound whole P y m
      one (inl k) = inl (omega (arith, k.0, h.0.0), h.0.1)
      one (inr k) = inr (record { r = k.r; w = k.w; s = k.s; from = k.from; path = k.path; level = omega (arith, k.level, h.0.0); named = λ name is. absurd (no_name m.name h.0.1 name is) })

  found_left : (w least : ℕ) (ms ns : List Item) → Found whole w least ms → Found whole w least (ms ++ ns)
  found_left w least ms ns h = record { item = h.item; number = h.number; at = slice_left ms h.number h.item h.at; level = h.level; named = h.named }
    where
      slice_left : (ms : List Item) (i : ℕ) (item : Item) → slice_get ms i ≡ Some item → slice_get (ms ++ ns) i ≡ Some item
      slice_left [] i item there = cc
      slice_left (m ∷ ms) zero item there = there
      slice_left (m ∷ ms) (suc i) item there = slice_left ms i item there

  found_right : (w least : ℕ) (ms ns : List Item) → Found whole w least ns → Found whole w least (ms ++ ns)
  found_right w least [] ns h = h
  found_right w least (m ∷ ms) ns h =
      let rest = found_right w least ms ns h in
      record { item = rest.item; number = suc rest.number; at = rest.at; level = rest.level; named = rest.named }

  found_less : (w least less : ℕ) (items : List Item) → less ≤ least → Found whole w least items → Found whole w less items
  found_less w least less items le h = record { item = h.item; number = h.number; at = h.at; level = omega (arith, le, h.level); named = h.named }

  -- ---- items beside no more types, and one part after another

  pub shows_nothing : (P : ℕ → Type 0) (a y : ℕ) (items : List Item) → AreSound whole P y items → Shows whole P a a y items
  shows_nothing P a y items h = record { sound = h; complete = λ n w s least most path. absurd (omega (arith, least, most)) }

  pub shows_both : (P : ℕ → Type 0) (a b c y : ℕ) (ms ns : List Item) → Shows whole P a b y ms → Shows whole P b c y ns → Shows whole P a c y (ms ++ ns)
  shows_both P a b c y ms ns one two = record {
    sound = are_sound-append P y ms ns one.sound two.sound;
    complete = λ n w s least most path. go n w s least most path (cases_lt n b);
  }
    where
      go : (n w s : ℕ) → a ≤ n → n < c → Below whole n w s → (n < b) ⊎ (b ≤ n) → Found whole w (y + s) (ms ++ ns)
      go n w s least most path (inl lt) = found_left w (y + s) ms ns (one.complete n w s least lt path)
      go n w s least most path (inr ge) = found_right w (y + s) ms ns (two.complete n w s ge most path)

  pub shows_from : (P Q : ℕ → Type 0) (a b y : ℕ) (items : List Item) → ((r : ℕ) → P r → Q r) → Shows whole P a b y items → Shows whole Q a b y items
  shows_from P Q a b y items all one = record { sound = are_sound_from P Q y all items one.sound; complete = one.complete }

  -- ---- one more type

  same_node : (b : ℕ) (new other : Node) → slice_get whole b ≡ Some new → slice_get whole b ≡ Some other → other ≡ new
  same_node b new other there again = cc

  pub sound_around : (P : ℕ → Type 0) (b y : ℕ) (new : Node) → slice_get whole b ≡ Some new → ((r : ℕ) → P r → Holds new.definition r)
      → (item : Item) → Sound whole P (y + weight_of new.definition) item → Sound whole (λ r. r ≡ b) y item
  sound_around P b y new there held item (inl h) =
      inr (record { r = b; w = b; s = weight_of new.definition; from = refl; path = itself there; level = h.0; named = λ name is. absurd (no_name item.name h.1 name is) })
  sound_around P b y new there held item (inr h) =
      inr (record { r = b; w = h.w; s = weight_of new.definition + h.s; from = refl; path = inside there (held h.r h.from) h.path; level = omega (arith, h.level); named = h.named })

  -- around those that these items show
  pub shows_around : (P : ℕ → Type 0) (a b end y : ℕ) (new : Node) (items : List Item) → slice_get whole b ≡ Some new → end ≡ suc b → name_in new.definition ≡ None
      → ((r : ℕ) → P r → Holds new.definition r) → ((r : ℕ) → Holds new.definition r → (a ≤ r) × (r < b))
      → Shows whole P a b (y + weight_of new.definition) items
      → Shows whole (λ r. r ≡ b) a end y (bare (y + weight_of new.definition) ∷ items)
  shows_around P a b end y new items there ends unnamed held ranged one = record {
    sound = (inr own, lifted items one.sound);
    complete = λ n w s least most path. go n w s least (omega (arith, most, ends)) (cases_lt n b) path;
  }
    where
      own : Reached whole (λ r. r ≡ b) y (bare (y + weight_of new.definition))
      own = record { r = b; w = b; s = weight_of new.definition; from = refl; path = itself there; level = omega arith; named = λ name is. cc }

      lifted : (ms : List Item) → AreSound whole P (y + weight_of new.definition) ms → AreSound whole (λ r. r ≡ b) y ms
      lifted [] h = tt
      lifted (m ∷ ms) h = (sound_around P b y new there held m h.0, lifted ms h.1)

      front : List Item
      front = bare (y + weight_of new.definition) ∷ []

      deeper : (w s : ℕ) → Found whole w (y + weight_of new.definition + s) items → Found whole w (y + (weight_of new.definition + s)) (front ++ items)
      deeper w s h = found_right w (y + (weight_of new.definition + s)) front items (found_less w (y + weight_of new.definition + s) (y + (weight_of new.definition + s)) items (omega arith) h)

      from_new : (v w s : ℕ) → v ≡ b → Below whole v w s → Found whole w (y + s) (front ++ items)
      from_new v w s at (itself {new = other} again) = by_node (same_node b new other there (subst (λ (k : ℕ). slice_get whole k ≡ Some other) at again))
        where
          by_node : other ≡ new → Found whole v (y + weight_of other.definition) (front ++ items)
          by_node same = subst (λ (x : Node). Found whole v (y + weight_of x.definition) (front ++ items)) (sym same) (record {
            item = bare (y + weight_of new.definition);
            number = 0;
            at = refl;
            level = omega arith;
            named = λ name names. absurd (no_name (name_in new.definition) unnamed name
                (ap (λ (x : Node). name_in x.definition) (sym (same_node b new names.new there (subst (λ (k : ℕ). slice_get whole k ≡ Some names.new) at names.there))) ∙ names.named));
          })
      from_new v w s at (inside {r} {s = t} {new = other} again holds path) =
          by_node (same_node b new other there (subst (λ (k : ℕ). slice_get whole k ≡ Some other) at again))
        where
          by_node : other ≡ new → Found whole w (y + (weight_of other.definition + t)) (front ++ items)
          by_node same =
              let holds_it : Holds new.definition r = subst (λ (x : Node). Holds x.definition r) same holds in
              subst (λ (x : Node). Found whole w (y + (weight_of x.definition + t)) (front ++ items)) (sym same)
              (deeper w t (one.complete r w t (ranged r holds_it).0 (ranged r holds_it).1 path))

      go : (n w s : ℕ) → a ≤ n → n ≤ b → (n < b) ⊎ (b ≤ n) → Below whole n w s → Found whole w (y + s) (front ++ items)
      go n w s least most (inl lt) path =
          found_right w (y + s) front items (found_less w (y + weight_of new.definition + s) (y + s) items (omega arith) (one.complete n w s least lt path))
      go n w s least most (inr ge) path = from_new n w s (omega (arith, most, ge)) path

  pub shows_alone : (b end y : ℕ) (new : Node) (items : List Item) → slice_get whole b ≡ Some new → end ≡ suc b → ((r : ℕ) → Holds new.definition r → ⊥) → Own y new.definition items
      → Shows whole (λ r. r ≡ b) b end y items
  shows_alone b end y new items there ends alone own = record {
    sound = all items own.each;
    complete = λ n w s least most path. from_new n w s (omega (arith, least, most, ends)) path;
  }
    where
      all : (ms : List Item) → AreOf y new.definition ms → AreSound whole (λ r. r ≡ b) y ms
      all [] h = tt
      all (m ∷ ms) h = (
        inr (record {
          r = b;
          w = b;
          s = weight_of new.definition;
          from = refl;
          path = itself there;
          level = h.0.0;
          named = λ name is. record { new = new; there = there; named = h.0.1 name is };
        }),
        all ms h.1,
      )

      from_new : (v w s : ℕ) → v ≡ b → Below whole v w s → Found whole w (y + s) items
      from_new v w s at (itself {new = other} again) = by_node (same_node b new other there (subst (λ (k : ℕ). slice_get whole k ≡ Some other) at again))
        where
          by_node : other ≡ new → Found whole v (y + weight_of other.definition) items
          by_node same = subst (λ (x : Node). Found whole v (y + weight_of x.definition) items) (sym same) (record {
            item = own.item;
            number = own.number;
            at = own.at;
            level = own.level;
            named = λ name names. own.named name (ap (λ (x : Node). name_in x.definition) (sym (same_node b new names.new there (subst (λ (k : ℕ). slice_get whole k ≡ Some names.new) at names.there))) ∙ names.named);
          })
      from_new v w s at (inside {r} {new = other} again holds path) =
          absurd (alone r (subst (λ (x : Node). Holds x.definition r) (same_node b new other there (subst (λ (k : ℕ). slice_get whole k ≡ Some other) at again)) holds))

-- What tallies say after an item came or went, and that they stay those of the links.
use Rattle.std.proofs.Common.{◌≡◌, ℕ, ◌+◌, ◌-◌, ◌==◌, Bool, true, false, cond, ◌&&◌, List, [], ◌∷◌, ◌++◌, Option, Some, None, refl, sym, ap, ◌∙◌, subst, arith}
use Rattle.std.specs.Prelude.{unwrap_or}
use Rattle.std.specs.Option.{option_map}
use Rattle.std.specs.declared.cmp.Ordering.{Ordering}
use Rattle.std.specs.Ordering.{nat_cmp, eq_by_cmp, is_eq}
use Rattle.std.specs.Cmp.{IsTotalOrder, tied_itself, Equal-is, unsigned_tied}
use Rattle.std.proofs.lemmas.Cmp.{nat_cmp_total}
use Rattle.std.proofs.lemmas.Bool.Decides.{nat_tests}
use Rattle.gnb_types.specs.declared.keys.EntityKey.{EntityKey}
use Rattle.gnb_types.specs.Orders.{entity_cmp}
use Rattle.gnb_types.proofs.OrderLemmas.{entity_total, entity_exact}
use Rattle.tables.specs.Tables.{find, put, without, at, IsSorted}
use Rattle.tables.proofs.TableLaws.{at-put, at-without, sum-put, sum-without}
use Rattle.transport_defs.specs.declared.Item.{Item}
use Rattle.links.specs.declared.link_tallies.tallies.Tally.{Tally}
use Rattle.links.specs.link_tallies.Tallies.{Tallies, no_items, shown_more, with_times, shown_less, entered_by, left_by, entered, left_at, left, all_left, number, times}
use Rattle.links.specs.link_tallies.Tied.{one_if, is_count, is_of_key, shows, weight, total, AreTallies}

-- ---- one key

-- a key of its own, or the same
same_key : (P : Bool → Bool → Type 0) (k key : EntityKey) → (key ≡ k → P true true) → P false false → P (eq_by_cmp entity_cmp key k) (eq_by_cmp entity_cmp k key)
same_key P k key p q = by (eq_by_cmp entity_cmp key k) (eq_by_cmp entity_cmp k key) refl refl
  where
    by : (a b : Bool) → eq_by_cmp entity_cmp key k ≡ a → eq_by_cmp entity_cmp k key ≡ b → P a b
    by true true e f = p (entity_exact key k ((Equal-is (entity_cmp key k)).0 e))
    by false false e f = q
    by true false e f =
        let same : key ≡ k = entity_exact key k ((Equal-is (entity_cmp key k)).0 e) in
        let tie : eq_by_cmp entity_cmp k key ≡ true = subst (λ (x : EntityKey). eq_by_cmp entity_cmp k x ≡ true) (sym same) (ap is_eq (tied_itself entity_total k)) in
        absurd cc
    by false true e f =
        let same : k ≡ key = entity_exact k key ((Equal-is (entity_cmp k key)).0 f) in
        let tie : eq_by_cmp entity_cmp key k ≡ true = subst (λ (x : EntityKey). eq_by_cmp entity_cmp key x ≡ true) (sym same) (ap is_eq (tied_itself entity_total key)) in
        absurd cc

-- ---- the times of a COUNT

abbrev times_of : List (ℕ × ℕ) → ℕ → ℕ
times_of m c = at nat_cmp 0 m c

turned : (d c : ℕ) → (d == c) ≡ (c == d)
turned d c = grind (arith, nat_tests)

times_put : (m : List (ℕ × ℕ)) (c v d : ℕ) → times_of (put nat_cmp m c v) d ≡ cond (c == d) v (times_of m d)
times_put m c v d =
    at-put nat_cmp_total 0 m c v d ∙ ap (λ (b : Bool). cond b v (times_of m d)) (unsigned_tied d c ∙ turned d c)

times_with : (m : List (ℕ × ℕ)) (c v d : ℕ) → times_of (with_times m c v) d ≡ cond (c == d) v (times_of m d)
times_with m c v d = by (v == 0) refl
  where
    by : (b : Bool) → (v == 0) ≡ b → times_of (cond b (without nat_cmp m c) (put nat_cmp m c v)) d ≡ cond (c == d) v (times_of m d)
    by true e =
        let zero : v ≡ 0 = grind (arith, nat_tests) in
        at-without nat_cmp_total 0 m c d ∙ ap (λ (b : Bool). cond b 0 (times_of m d)) (unsigned_tied d c ∙ turned d c)
        ∙ ap (λ (n : ℕ). cond (c == d) n (times_of m d)) (sym zero)
    by false e = times_put m c v d

chosen_more : (b : Bool) (x y : ℕ) → (b ≡ true → x ≡ y) → cond b (x + 1) y ≡ y + one_if b
chosen_more true x y h = ap (λ (n : ℕ). n + 1) (h refl)
chosen_more false x y h = omega arith

chosen_less : (b : Bool) (x y : ℕ) → (b ≡ true → x ≡ y) → cond b (x - 1) y ≡ y - one_if b
chosen_less true x y h = ap (λ (n : ℕ). n - 1) (h refl)
chosen_less false x y h = omega arith

equal_by : (m : List (ℕ × ℕ)) (c d : ℕ) → (c == d) ≡ true → times_of m c ≡ times_of m d
equal_by m c d e = ap (times_of m) (grind (arith, nat_tests))

times_more : (tally : Tally) (count : Option ℕ) (c : ℕ) → times_of (entered_by tally count).shown c ≡ times_of tally.shown c + one_if (is_count count c)
unfolding shown_more
times_more tally None c = omega arith
times_more tally (Some d) c =
    times_put tally.shown d (times_of tally.shown d + 1) c
    ∙ chosen_more (d == c) (times_of tally.shown d) (times_of tally.shown c) (equal_by tally.shown d c)

times_less : (tally : Tally) (count : Option ℕ) (c : ℕ) → times_of (left_by tally count).shown c ≡ times_of tally.shown c - one_if (is_count count c)
unfolding shown_less
times_less tally None c = omega arith
times_less tally (Some d) c =
    times_with tally.shown d (times_of tally.shown d - 1) c
    ∙ chosen_less (d == c) (times_of tally.shown d) (times_of tally.shown c) (equal_by tally.shown d c)

-- ---- a number that is read of the tally of a key, after an item came or went

module _ (read : Tally → ℕ) where
  reads_entered : (t : Tallies) (k key : EntityKey) (count : Option ℕ) (n : ℕ)
      → read (entered_by (at entity_cmp no_items t k) count) ≡ read (at entity_cmp no_items t k) + n
      → read (at entity_cmp no_items (entered t k count) key) ≡ read (at entity_cmp no_items t key) + cond (eq_by_cmp entity_cmp k key) n 0
  unfolding entered
  reads_entered t k key count n here =
      ap read (at-put entity_total no_items t k (entered_by (at entity_cmp no_items t k) count) key)
      ∙ same_key (λ a b. read (cond a (entered_by (at entity_cmp no_items t k) count) (at entity_cmp no_items t key))
      ≡ read (at entity_cmp no_items t key) + cond b n 0) k key
      (λ same. here ∙ ap (λ (x : EntityKey). read (at entity_cmp no_items t x) + n) (sym same))
      (omega arith)

  reads_left : (t : Tallies) (k key : EntityKey) (count : Option ℕ) (n : ℕ) → read no_items ≡ 0
      → ((tally : Tally) → read (left_by tally count) ≡ read tally - n)
      → read (at entity_cmp no_items (left t k count) key) ≡ read (at entity_cmp no_items t key) - cond (eq_by_cmp entity_cmp k key) n 0
  unfolding left at
  reads_left t k key count n nothing each = by (find entity_cmp t k) refl
    where
      by : (o : Option Tally) → find entity_cmp t k ≡ o
          → read (at entity_cmp no_items (left_at t k count o) key) ≡ read (at entity_cmp no_items t key) - cond (eq_by_cmp entity_cmp k key) n 0
      by None e =
          same_key (λ a b. read (at entity_cmp no_items t key) ≡ read (at entity_cmp no_items t key) - cond b n 0) k key
          (λ same.
          let none : read (at entity_cmp no_items t key) ≡ 0 =
          ap (λ (x : Option Tally). read (unwrap_or x no_items)) (ap (find entity_cmp t) same ∙ e) ∙ nothing in
          omega arith)
          (omega arith)
      by (Some tally) e =
          ap read (at-put entity_total no_items t k (left_by tally count) key)
          ∙ same_key (λ a b. read (cond a (left_by tally count) (at entity_cmp no_items t key)) ≡ read (at entity_cmp no_items t key) - cond b n 0) k key
          (λ same. each tally ∙ ap (λ (x : Option Tally). read (unwrap_or x no_items) - n) (sym (ap (find entity_cmp t) same ∙ e)))
          (omega arith)

-- a part that counts where both tests hold
both_tests : (a b : Bool) → cond a (one_if b) 0 ≡ one_if (a && b)
both_tests true b = refl
both_tests false b = refl

-- ---- one item

module _ {X : Type 0} (t : Tallies) (item : Item X) where
  pub number_entered : (key : EntityKey) → number (entered t item.key item.count) key ≡ number t key + is_of_key key item
  unfolding number
  number_entered key = reads_entered (λ tally. tally.items) t item.key key item.count 1 (more (at entity_cmp no_items t item.key) item.count)
    where
      more : (tally : Tally) (count : Option ℕ) → (entered_by tally count).items ≡ tally.items + 1
      more tally None = refl
      more tally (Some c) = refl

  pub times_entered : (key : EntityKey) (c : ℕ) → times (entered t item.key item.count) key c ≡ times t key c + shows key c item
  unfolding times
  times_entered key c =
      reads_entered (λ tally. times_of tally.shown c) t item.key key item.count (one_if (is_count item.count c))
      (times_more (at entity_cmp no_items t item.key) item.count c)
      ∙ ap (λ (n : ℕ). times_of (at entity_cmp no_items t key).shown c + n) (both_tests (eq_by_cmp entity_cmp item.key key) (is_count item.count c))

  pub number_left : (key : EntityKey) → number (left t item.key item.count) key ≡ number t key - is_of_key key item
  unfolding number
  number_left key = reads_left (λ tally. tally.items) t item.key key item.count 1 refl (λ tally. fewer tally item.count)
    where
      fewer : (tally : Tally) (count : Option ℕ) → (left_by tally count).items ≡ tally.items - 1
      fewer tally None = refl
      fewer tally (Some c) = refl

  pub times_left : (key : EntityKey) (c : ℕ) → times (left t item.key item.count) key c ≡ times t key c - shows key c item
  unfolding times at find
  times_left key c =
      reads_left (λ tally. times_of tally.shown c) t item.key key item.count (one_if (is_count item.count c)) refl
      (λ tally. times_less tally item.count c)
      ∙ ap (λ (n : ℕ). times_of (at entity_cmp no_items t key).shown c - n) (both_tests (eq_by_cmp entity_cmp item.key key) (is_count item.count c))

-- ---- all items of a list

module _ {X : Type 0} where
  number_all_left : (t : Tallies) (items : List (Item X)) (key : EntityKey) → number (all_left t items) key ≡ number t key - weight (is_of_key key) items
  unfolding all_left
  number_all_left t [] key = omega arith
  number_all_left t (item ∷ items) key =
      let rest = number_all_left (left t item.key item.count) items key in
      let one = number_left t item key in
      omega arith

  times_all_left : (t : Tallies) (items : List (Item X)) (key : EntityKey) (c : ℕ) → times (all_left t items) key c ≡ times t key c - weight (shows key c) items
  unfolding all_left
  times_all_left t [] key c = omega arith
  times_all_left t (item ∷ items) key c =
      let rest = times_all_left (left t item.key item.count) items key c in
      let one = times_left t item key c in
      omega arith

  weight-push : (w : Item X → ℕ) (items : List (Item X)) (item : Item X) → weight w (items ++ item ∷ []) ≡ weight w items + w item
  weight-push w [] item = omega arith
  weight-push w (i ∷ items) item = let rest = weight-push w items item in omega arith

-- ---- the links

module _ {K V X : Type 0} {R : K → K → Ordering} (o : IsTotalOrder R) (items_in : V → List (Item X)) (links : List (K × V)) (k : K) where
  -- the items that stand on the link k
  abbrev pub StandThere : List (Item X) → Type 0
  StandThere items = (w : Item X → ℕ) → unwrap_or (option_map (λ v. weight w (items_in v)) (find R links k)) 0 ≡ weight w items

  pub stand_found : (v : V) → find R links k ≡ Some v → StandThere (items_in v)
  stand_found v found w = ap (λ (x : Option V). unwrap_or (option_map (λ v. weight w (items_in v)) x) 0) found

  pub stand_none : find R links k ≡ None → StandThere []
  stand_none none w = ap (λ (x : Option V). unwrap_or (option_map (λ v. weight w (items_in v)) x) 0) none

  total-put : (w : Item X → ℕ) (v : V) (items : List (Item X)) → IsSorted R links → StandThere items
      → total items_in w (put R links k v) + weight w items ≡ total items_in w links + weight w (items_in v)
  total-put w v items sorted there =
      ap (λ (n : ℕ). total items_in w (put R links k v) + n) (sym (there w)) ∙ sum-put o (λ v. weight w (items_in v)) links k v sorted

  total-without : (w : Item X → ℕ) (items : List (Item X)) → IsSorted R links → StandThere items
      → total items_in w (without R links k) + weight w items ≡ total items_in w links
  total-without w items sorted there =
      ap (λ (n : ℕ). total items_in w (without R links k) + n) (sym (there w)) ∙ sum-without o (λ v. weight w (items_in v)) links k sorted

  -- an item is put at the end
  pub tallies-put : (t : Tallies) (v : V) (items : List (Item X)) (item : Item X) → IsSorted R links → StandThere items
      → items_in v ≡ items ++ item ∷ [] → AreTallies items_in t links
      → AreTallies items_in (entered t item.key item.count) (put R links k v)
  tallies-put t v items item sorted there is tied = record {
    numbers = λ key.
        let now = total-put (is_of_key key) v items sorted there in
        let pushed = ap (weight (is_of_key key)) is ∙ weight-push (is_of_key key) items item in
        let came = number_entered t item key in
        let was = tied.numbers key in
        omega arith;
    counts = λ key c.
        let now = total-put (shows key c) v items sorted there in
        let pushed = ap (weight (shows key c)) is ∙ weight-push (shows key c) items item in
        let came = times_entered t item key c in
        let was = tied.counts key c in
        omega arith;
  }

  -- the oldest item is taken
  pub tallies-take : (t : Tallies) (v : V) (items : List (Item X)) (item : Item X) → IsSorted R links → StandThere items
      → items ≡ item ∷ items_in v → AreTallies items_in t links
      → AreTallies items_in (left t item.key item.count) (put R links k v)
  tallies-take t v items item sorted there is tied = record {
    numbers = λ key.
        let now = total-put (is_of_key key) v items sorted there in
        let taken = ap (weight (is_of_key key)) is in
        let went = number_left t item key in
        let was = tied.numbers key in
        omega arith;
    counts = λ key c.
        let now = total-put (shows key c) v items sorted there in
        let taken = ap (weight (shows key c)) is in
        let went = times_left t item key c in
        let was = tied.counts key c in
        omega arith;
  }

  -- the same items stand there
  pub tallies-same : (t : Tallies) (v : V) (items : List (Item X)) → IsSorted R links → StandThere items
      → items_in v ≡ items → AreTallies items_in t links → AreTallies items_in t (put R links k v)
  tallies-same t v items sorted there is tied = record {
    numbers = λ key.
        let now = total-put (is_of_key key) v items sorted there in
        let same = ap (weight (is_of_key key)) is in
        let was = tied.numbers key in
        omega arith;
    counts = λ key c.
        let now = total-put (shows key c) v items sorted there in
        let same = ap (weight (shows key c)) is in
        let was = tied.counts key c in
        omega arith;
  }

  -- all that stood there goes
  pub tallies-emptied : (t : Tallies) (v : V) (items : List (Item X)) → IsSorted R links → StandThere items
      → items_in v ≡ [] → AreTallies items_in t links → AreTallies items_in (all_left t items) (put R links k v)
  tallies-emptied t v items sorted there is tied = record {
    numbers = λ key.
        let now = total-put (is_of_key key) v items sorted there in
        let none = ap (weight (is_of_key key)) is in
        let went = number_all_left t items key in
        let was = tied.numbers key in
        omega arith;
    counts = λ key c.
        let now = total-put (shows key c) v items sorted there in
        let none = ap (weight (shows key c)) is in
        let went = times_all_left t items key c in
        let was = tied.counts key c in
        omega arith;
  }

  -- the link is closed
  pub tallies-without : (t : Tallies) (items : List (Item X)) → IsSorted R links → StandThere items → AreTallies items_in t links
      → AreTallies items_in (all_left t items) (without R links k)
  tallies-without t items sorted there tied = record {
    numbers = λ key.
        let now = total-without (is_of_key key) items sorted there in
        let went = number_all_left t items key in
        let was = tied.numbers key in
        omega arith;
    counts = λ key c.
        let now = total-without (shows key c) items sorted there in
        let went = times_all_left t items key c in
        let was = tied.counts key c in
        omega arith;
  }

pub tallies-none : {K V X : Type 0} (items_in : V → List (Item X)) (t : Tallies) (links : List (K × V)) → t ≡ [] → links ≡ []
    → AreTallies items_in t links
unfolding number times at find
tallies-none {K = K} {V = V} items_in t links no_tally no_link =
    subst (λ (m : Tallies). AreTallies items_in m links) (sym no_tally)
    (subst (λ (m : List (K × V)). AreTallies items_in [] m) (sym no_link) (record { numbers = λ key. refl; counts = λ key c. refl }))

-- an item that came is taken back
pub tallies-undone : {K V X : Type 0} (items_in : V → List (Item X)) (t : Tallies) (links : List (K × V)) (item : Item X)
    → AreTallies items_in t links → AreTallies items_in (left (entered t item.key item.count) item.key item.count) links
tallies-undone items_in t links item tied = record {
  numbers = λ key.
      let came = number_entered t item key in
      let went = number_left (entered t item.key item.count) item key in
      let was = tied.numbers key in
      omega arith;
  counts = λ key c.
      let came = times_entered t item key c in
      let went = times_left (entered t item.key item.count) item key c in
      let was = tied.counts key c in
      omega arith;
}

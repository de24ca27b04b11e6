-- CHOICE: an alternative, an addition, or what comes after them.
use Rattle.std.proofs.Common.{◌≡◌, ◌⊎◌, ℕ, zero, suc, ◌+◌, ◌-◌, ◌<◌, ◌≤◌, Bool, true, false, ◌&&◌, ◌==◌, nat_lt, List, [], ◌∷◌, ◌++◌, Option, Some, None, is_some, refl, sym, ap, subst, ◌∙◌, inl, inr, arith}
use Rattle.serde_json.specs.Data.{Data, object, Members, no_members, member}
use Rattle.serde_json.specs.Find.{get_member}
use Rattle.aper_defs.specs.Fields.{Path}
use Rattle.aper_defs.specs.Fields as ways
use Rattle.aper_defs.specs.Values.{Value, chosen}
use Rattle.aper_defs.specs.Membership.{Either, is_index_of, IsRaw, Has, HasAlternative, HasAdded}
use Rattle.json_defs.specs.Named.{NamedParts, choice, no_parts, part, tree_of, parts_of}
use Rattle.json_defs.specs.Bounds.{MayAdd}
use Rattle.json_defs.specs.Members.{Text, same_text, place_in, member_count, or_null, member_of, has_member, dots}
use Rattle.json_defs.specs.Shown.{count_of, names_of, IsPlaced, IsPast, ShowsPast, Shows, ShowsPart}
use Rattle.json_defs.specs.Readings.{or_else, past_in, past_raw_in, first_of, chosen_in, value_of, alternative_in}
use Rattle.json_defs.specs.Demands.{Demand, shape, range, fits_open, past_demands, only_member, on_members, demands, alternative_demands, addition_demands}
use Rattle.proof_json.proofs.values.Holding.{Holds, Lawful, AreLawful, apart, by_cases, both_true, first_true, second_true, either_is, front_holds, rest_holds, both_hold}
use Rattle.proof_json.proofs.values.Words.{is_less, is_not_less, at_most, is_at_most, same, texts_same, found, missed, past_one, past_forth, past_back}
use Rattle.proof_json.proofs.values.Simple.{index_is, past_index_is, index_most}
use Rattle.proof_json.proofs.values.Sequences.{fits, is_fitting}
use Rattle.proof_json.proofs.choices.Places.{one, Placed, Missing, find, whole_place, parts_count}

-- ---- the branch that a test takes
pub yes : (A B : Type 0) (b : Bool) → b ≡ true → Either b A B → A
yes A B true e h = h
yes A B false e h = absurd (apart e)

pub no : (A B : Type 0) (b : Bool) → b ≡ false → Either b A B → B
no A B true e h = absurd (apart (sym e))
no A B false e h = h

-- ---- past the last name
pub dots_member : (key : Text) (d : Data) → key ≡ dots → member_of dots (one key d) ≡ d
dots_member key d h = ap or_null (found dots key d (ap (same_text dots) h))

pub dots_is : (key : Text) (d : Data) → has_member dots (one key d) ≡ true → key ≡ dots
dots_is key d h = by_cases (same_text dots key) (λ _. key ≡ dots)
    (λ e. sym (texts_same dots key e))
    (λ e. absurd (apart (sym (ap is_some (missed dots key d e)) ∙ h)))

pub has_dots : (key : Text) (d : Data) → key ≡ dots → has_member dots (one key d) ≡ true
has_dots key d h = ap is_some (found dots key d (ap (same_text dots) h))

raw_added : (p : Path) (parts : NamedParts) (j : ℕ) (v : Value) → count_of parts ≤ j → IsRaw v → HasAdded p (parts_of parts) j v
unfolding HasAdded parts_of
raw_added p no_parts j v h g = g
raw_added p (part name optional t others) zero v h g = absurd (omega (arith, h))
raw_added p (part name optional t others) (suc j) v h g = raw_added p others j v (omega (arith, h)) g

added_raw : (p : Path) (parts : NamedParts) (j : ℕ) (v : Value) → count_of parts ≤ j → HasAdded p (parts_of parts) j v → IsRaw v
unfolding HasAdded parts_of
added_raw p no_parts j v h g = g
added_raw p (part name optional t others) zero v h g = absurd (omega (arith, h))
added_raw p (part name optional t others) (suc j) v h g = added_raw p others j v (omega (arith, h)) g

-- ---- the object has one member, where what is asked of it holds
one_alternative : (p : Path) (parts : NamedParts) (ms : Members) (rest : List Demand) → (Holds rest → (member_count ms == 1) ≡ true)
    → Holds (or_else rest (alternative_demands p parts ms)) → (member_count ms == 1) ≡ true
unfolding alternative_demands
one_alternative p no_parts ms rest again h = again h
one_alternative p (part name optional t others) ms rest again h =
    told (get_member name ms) h (one_alternative p others ms rest again)
  where
    told : (o : Option Data) → Holds (or_else rest (first_of (on_members (λ d. demands (ways.component name ∷ p) t d ++ only_member p ms) o)
        (alternative_demands p others ms)))
        → (Holds (or_else rest (alternative_demands p others ms)) → (member_count ms == 1) ≡ true) → (member_count ms == 1) ≡ true
    told None g more = more g
    told (Some d) g more = (rest_holds (demands (ways.component name ∷ p) t d) (only_member p ms) g).0

one_addition : (p : Path) (parts : NamedParts) (ms : Members) (rest : List Demand) → (Holds rest → (member_count ms == 1) ≡ true)
    → Holds (or_else rest (addition_demands p parts ms)) → (member_count ms == 1) ≡ true
unfolding addition_demands
one_addition p no_parts ms rest again h = again h
one_addition p (part name optional t others) ms rest again h =
    told (get_member name ms) h (one_addition p others ms rest again)
  where
    told : (o : Option Data) → Holds (or_else rest (first_of (on_members (λ d. demands (ways.component name ∷ p) t d
        ++ (only_member p ms ++ range (ways.component name ∷ p) (fits_open (ways.component name ∷ p) t d) ∷ [])) o)
        (addition_demands p others ms)))
        → (Holds (or_else rest (addition_demands p others ms)) → (member_count ms == 1) ≡ true) → (member_count ms == 1) ≡ true
    told None g more = more g
    told (Some d) g more = (rest_holds (demands (ways.component name ∷ p) t d) _ g).0

or_else_of : {X : Type 0} (x : X) (a b : Option X) → or_else x (first_of a b) ≡ or_else (or_else x b) a
or_else_of x None b = refl
or_else_of x (Some y) b = refl

module _ (extensible : Bool) (root additions : NamedParts) (r : AreLawful root) (a : AreLawful additions) where
  -- what is asked where no alternative is there
  abbrev past_asked : Path → Members → List Demand
  past_asked p ms = shape p (extensible && has_member dots ms)
      ∷ (past_demands p (64 - count_of additions) (member_of dots ms) ++ only_member p ms)

  abbrev asked_of : Path → Members → List Demand
  asked_of p ms = or_else (past_asked p ms) (first_of (alternative_demands p root ms) (addition_demands p additions ms))

  is_one : (p : Path) (ms : Members) → Holds (asked_of p ms) → (member_count ms == 1) ≡ true
  is_one p ms h =
      one_alternative p root ms (or_else (past_asked p ms) (addition_demands p additions ms))
      (one_addition p additions ms (past_asked p ms)
      (λ g. (rest_holds (past_demands p (64 - count_of additions) (member_of dots ms)) (only_member p ms) g.1).0))
      (subst Holds (or_else_of (past_asked p ms) (alternative_demands p root ms) (addition_demands p additions ms)) h)

  module _ (p : Path) (key : Text) (e : Data) where
    abbrev read : Value
    read = chosen_in (count_of root + count_of additions) (one key e)
        (first_of (alternative_in root 0 (one key e)) (alternative_in additions (count_of root) (one key e)))

    abbrev IsShown : Option ℕ → ℕ → Value → Type 0
    IsShown o i v = IsPlaced o i
        (Either (nat_lt i (count_of root)) (ShowsPart root e i v) (ShowsPart additions e (i - count_of root) v))
        (IsPast extensible key (count_of root + count_of additions) i × ShowsPast e (i - (count_of root + count_of additions)) v)

    abbrev place : Option ℕ
    place = place_in (names_of root ++ names_of additions) key 0

    abbrev HasChosen : ℕ → ℕ → Value → Type 0
    HasChosen n i v = (is_index_of n extensible i ≡ true)
        × Either (nat_lt i n) (HasAlternative p (parts_of root) i v) (HasAdded p (parts_of additions) (i - n) v)

    -- what is asked, by what the root asks
    abbrev asked_by : Option (List Demand) → List Demand
    asked_by o = or_else (past_asked p (one key e)) (first_of o (addition_demands p additions (one key e)))

    -- what the law says of an object with this member
    record OneLawful : Type 0 where
      one_value : (i : ℕ) (v : Value) → IsShown place i v → chosen i v ≡ read
      one_forth : MayAdd extensible (count_of additions) → Holds (asked_of p (one key e))
          → (i : ℕ) × (v : Value) × (chosen i v ≡ read) × IsShown place i v × HasChosen (count_of root) i v
      one_back : (i : ℕ) (v : Value) → IsShown place i v → HasChosen (count_of root) i v → Holds (asked_of p (one key e))

    both_same : (i j : ℕ) (v w : Value) → i ≡ j → v ≡ w → chosen i v ≡ chosen j w
    both_same i j v w h g = ap (λ (n : ℕ). chosen n v) h ∙ ap (λ (x : Value). chosen j x) g

    module _ (x : Placed p root key e 0) where
      root_place : place ≡ Some (0 + x.place)
      root_place = whole_place root additions key
          ∙ ap (λ (o : Option ℕ). first_of o (place_in (names_of additions) key (count_of root))) x.named

      root_read : read ≡ chosen (0 + x.place) (value_of x.t e)
      root_read = ap (λ (o : Option (ℕ × Value)). chosen_in (count_of root + count_of additions) (one key e)
          (first_of o (alternative_in additions (count_of root) (one key e)))) x.read

      root_asked : asked_of p (one key e) ≡ demands x.q x.t e ++ only_member p (one key e)
      root_asked = ap asked_by
          x.asked

      root_shown : (i : ℕ) (v : Value) → IsShown place i v → (i ≡ x.place) × Shows x.t e v
      root_shown i v h =
          let g = subst (λ (o : Option ℕ). IsShown o i v) root_place h in
          let at : i ≡ x.place = omega (arith, g.0) in (
            at,
            x.shown v (subst (λ (j : ℕ). ShowsPart root e j v) at
                (yes (ShowsPart root e i v) (ShowsPart additions e (i - count_of root) v) (nat_lt i (count_of root))
                (is_less i (count_of root) (omega (arith, x.inside, at))) g.1)),
          )

      root_one : (i : ℕ) (v : Value) → IsShown place i v → chosen i v ≡ read
      root_one i v h =
          let s = root_shown i v h in
          both_same i (0 + x.place) v (value_of x.t e) (omega (arith, s.0)) (x.lawful.one e v s.1) ∙ sym root_read

      root_forth : MayAdd extensible (count_of additions) → Holds (asked_of p (one key e))
          → (i : ℕ) × (v : Value) × (chosen i v ≡ read) × IsShown place i v × HasChosen (count_of root) i v
      root_forth may h =
          let v = value_of x.t e in
          let i : ℕ = 0 + x.place in
          let at : x.place ≡ i = omega arith in
          let small : i < count_of root = omega (arith, x.inside) in
          let good = x.lawful.forth x.q e (front_holds (demands x.q x.t e) (only_member p (one key e)) (subst Holds root_asked h)) in (
            i,
            v,
            sym root_read,
            subst (λ (o : Option ℕ). IsShown o i v) (sym root_place) (
              refl,
              either_is (nat_lt i (count_of root)) (λ _. subst (λ (j : ℕ). ShowsPart root e j v) at (x.shows v good.0))
                  (λ no_less. absurd (apart (sym no_less ∙ is_less i (count_of root) small))),
            ),
            (
              index_is extensible (count_of root) (count_of additions) i may (omega (arith, small)),
              either_is (nat_lt i (count_of root)) (λ _. subst (λ (j : ℕ). HasAlternative p (parts_of root) j v) at (x.has v good.1))
                  (λ no_less. absurd (apart (sym no_less ∙ is_less i (count_of root) small))),
            ),
          )

      root_back : (i : ℕ) (v : Value) → IsShown place i v → HasChosen (count_of root) i v → Holds (asked_of p (one key e))
      root_back i v h g =
          let s = root_shown i v h in
          let small = is_less i (count_of root) (omega (arith, s.0, x.inside)) in
          subst Holds (sym root_asked) (both_hold (demands x.q x.t e) (only_member p (one key e))
          (x.lawful.back x.q e v s.1
          (x.had v (subst (λ (j : ℕ). HasAlternative p (parts_of root) j v) s.0
          (yes (HasAlternative p (parts_of root) i v) (HasAdded p (parts_of additions) (i - count_of root) v)
          (nat_lt i (count_of root)) small g.1)))) (refl, tt))

      root_lawful : OneLawful
      root_lawful = record { one_value = root_one; one_forth = root_forth; one_back = root_back }

    module _ (none : Missing p root key e 0) (x : Placed p additions key e (count_of root)) where
      added_place : place ≡ Some (count_of root + x.place)
      added_place = whole_place root additions key
          ∙ ap (λ (o : Option ℕ). first_of o (place_in (names_of additions) key (count_of root))) none.named ∙ x.named

      added_read : read ≡ chosen (count_of root + x.place) (value_of x.t e)
      added_read = ap (λ (o : Option (ℕ × Value)). chosen_in (count_of root + count_of additions) (one key e)
          (first_of o (alternative_in additions (count_of root) (one key e)))) none.read
          ∙ ap (chosen_in (count_of root + count_of additions) (one key e)) x.read

      abbrev last_asked : List Demand
      last_asked = only_member p (one key e) ++ range x.q (fits_open x.q x.t e) ∷ []

      added_asked : asked_of p (one key e) ≡ demands x.q x.t e ++ last_asked
      added_asked = ap asked_by
          none.asked ∙ ap (or_else (past_asked p (one key e))) x.asked_added

      added_shown : (i : ℕ) (v : Value) → IsShown place i v → (i ≡ count_of root + x.place) × Shows x.t e v
      added_shown i v h =
          let g = subst (λ (o : Option ℕ). IsShown o i v) added_place h in
          let at : i - count_of root ≡ x.place = omega (arith, g.0) in (
            g.0,
            x.shown v (subst (λ (j : ℕ). ShowsPart additions e j v) at
                (no (ShowsPart root e i v) (ShowsPart additions e (i - count_of root) v) (nat_lt i (count_of root))
                (is_not_less i (count_of root) (omega (arith, g.0))) g.1)),
          )

      added_one : (i : ℕ) (v : Value) → IsShown place i v → chosen i v ≡ read
      added_one i v h =
          let s = added_shown i v h in
          both_same i (count_of root + x.place) v (value_of x.t e) s.0 (x.lawful.one e v s.1) ∙ sym added_read

      added_forth : MayAdd extensible (count_of additions) → Holds (asked_of p (one key e))
          → (i : ℕ) × (v : Value) × (chosen i v ≡ read) × IsShown place i v × HasChosen (count_of root) i v
      added_forth may h =
          let v = value_of x.t e in
          let i : ℕ = count_of root + x.place in
          let at : x.place ≡ i - count_of root = omega arith in
          let past : nat_lt i (count_of root) ≡ false = is_not_less i (count_of root) (omega arith) in
          let asked = subst Holds added_asked h in
          let good = x.lawful.forth x.q e (front_holds (demands x.q x.t e) last_asked asked) in
          let fitting = fits x.q x.t e (rest_holds (demands x.q x.t e) last_asked asked).1.0 in (
            i,
            v,
            sym added_read,
            subst (λ (o : Option ℕ). IsShown o i v) (sym added_place) (
              refl,
              either_is (nat_lt i (count_of root)) (λ less. absurd (apart (sym past ∙ less)))
                  (λ _. subst (λ (j : ℕ). ShowsPart additions e j v) at (x.shows v good.0)),
            ),
            (
              index_is extensible (count_of root) (count_of additions) i may (omega (arith, x.inside)),
              either_is (nat_lt i (count_of root)) (λ less. absurd (apart (sym past ∙ less)))
                  (λ _. subst (λ (j : ℕ). HasAdded p (parts_of additions) j v) at (x.has_added v good.1 fitting)),
            ),
          )

      added_back : (i : ℕ) (v : Value) → IsShown place i v → HasChosen (count_of root) i v → Holds (asked_of p (one key e))
      added_back i v h g =
          let s = added_shown i v h in
          let past : nat_lt i (count_of root) ≡ false = is_not_less i (count_of root) (omega (arith, s.0)) in
          let at : i - count_of root ≡ x.place = omega (arith, s.0) in
          let had = x.had_added v (subst (λ (j : ℕ). HasAdded p (parts_of additions) j v) at
          (no (HasAlternative p (parts_of root) i v) (HasAdded p (parts_of additions) (i - count_of root) v)
          (nat_lt i (count_of root)) past g.1)) in
          subst Holds (sym added_asked) (both_hold (demands x.q x.t e) last_asked (x.lawful.back x.q e v s.1 had.0)
          (refl, (is_fitting x.q x.t e v (x.lawful.one e v s.1) had.1, tt)))

      added_lawful : OneLawful
      added_lawful = record { one_value = added_one; one_forth = added_forth; one_back = added_back }

    module _ (none : Missing p root key e 0) (neither : Missing p additions key e (count_of root)) where
      abbrev known : ℕ
      known = count_of root + count_of additions

      past_place : place ≡ None
      past_place = whole_place root additions key
          ∙ ap (λ (o : Option ℕ). first_of o (place_in (names_of additions) key (count_of root))) none.named ∙ neither.named

      past_read : read ≡ chosen (known + past_in (member_of dots (one key e))) (past_raw_in (member_of dots (one key e)))
      past_read = ap (λ (o : Option (ℕ × Value)). chosen_in known (one key e)
          (first_of o (alternative_in additions (count_of root) (one key e)))) none.read ∙ ap (chosen_in known (one key e)) neither.read

      past_asked_is : asked_of p (one key e) ≡ past_asked p (one key e)
      past_asked_is = ap asked_by
          none.asked ∙ ap (or_else (past_asked p (one key e))) neither.asked_added

      past_read_at : key ≡ dots → read ≡ chosen (known + past_in e) (past_raw_in e)
      past_read_at is = past_read ∙ ap (λ (d : Data). chosen (known + past_in d) (past_raw_in d)) (dots_member key e is)

      past_value : (i : ℕ) (v : Value) → IsShown place i v → chosen i v ≡ read
      past_value i v h =
          let g = subst (λ (o : Option ℕ). IsShown o i v) past_place h in
          let told = past_one e (i - known) v g.1 in
          let at : i ≡ known + past_in e = omega (arith, told.0, at_most known i g.0.2) in
          both_same i (known + past_in e) v (past_raw_in e) at told.1 ∙ sym (past_read_at g.0.1)

      past_forth_one : MayAdd extensible (count_of additions) → Holds (asked_of p (one key e))
          → (i : ℕ) × (v : Value) × (chosen i v ≡ read) × IsShown place i v × HasChosen (count_of root) i v
      past_forth_one may h =
          let asked = subst Holds past_asked_is h in
          let more = first_true extensible (has_member dots (one key e)) asked.0 in
          let is = dots_is key e (second_true extensible (has_member dots (one key e)) asked.0) in
          let room = 64 - count_of additions in
          let told = past_forth p room e (subst (λ (d : Data). Holds (past_demands p room d)) (dots_member key e is)
          (front_holds (past_demands p room (member_of dots (one key e))) (only_member p (one key e)) asked.1)) in
          let v = past_raw_in e in
          let i : ℕ = known + past_in e in
          let at : past_in e ≡ i - known = omega arith in
          let past : nat_lt i (count_of root) ≡ false = is_not_less i (count_of root) (omega arith) in (
            i,
            v,
            sym (past_read_at is),
            subst (λ (o : Option ℕ). IsShown o i v) (sym past_place)
                ((more, is, is_at_most known i (omega arith)), subst (λ (n : ℕ). ShowsPast e n v) at told.0),
            (
              past_index_is extensible (count_of root) i more (omega (arith, told.1)),
              either_is (nat_lt i (count_of root)) (λ less. absurd (apart (sym past ∙ less)))
                  (λ _. raw_added p additions (i - count_of root) v (omega arith) told.2),
            ),
          )

      past_back_one : (i : ℕ) (v : Value) → IsShown place i v → HasChosen (count_of root) i v → Holds (asked_of p (one key e))
      past_back_one i v h g =
          let s = subst (λ (o : Option ℕ). IsShown o i v) past_place h in
          let room = 64 - count_of additions in
          let low = at_most known i s.0.2 in
          let past : nat_lt i (count_of root) ≡ false = is_not_less i (count_of root) (omega (arith, low)) in
          let is_raw = added_raw p additions (i - count_of root) v (omega (arith, low))
          (no (HasAlternative p (parts_of root) i v) (HasAdded p (parts_of additions) (i - count_of root) v)
          (nat_lt i (count_of root)) past g.1) in
          let few : i - known < room = omega (arith, low, index_most extensible (count_of root) i g.0) in
          subst Holds (sym past_asked_is) (
            both_true extensible (has_member dots (one key e)) s.0.0 (has_dots key e s.0.1),
            both_hold (past_demands p room (member_of dots (one key e))) (only_member p (one key e))
                (subst (λ (d : Data). Holds (past_demands p room d)) (sym (dots_member key e s.0.1))
                (past_back p room e (i - known) v s.1 few is_raw))
                (refl, tt),
          )

      past_lawful : OneLawful
      past_lawful = record { one_value = past_value; one_forth = past_forth_one; one_back = past_back_one }

    by_place : Placed p root key e 0 ⊎ Missing p root key e 0
        → Placed p additions key e (count_of root) ⊎ Missing p additions key e (count_of root) → OneLawful
    by_place (inl x) y = root_lawful x
    by_place (inr none) (inl x) = added_lawful none x
    by_place (inr none) (inr neither) = past_lawful none neither

    member_lawful : OneLawful
    member_lawful = by_place (find p root r key e 0) (find p additions a key e (count_of root))

  -- ---- the whole
  choice_one : (d : Data) (v : Value) → Shows (choice extensible root additions) d v → v ≡ value_of (choice extensible root additions) d
  unfolding Shows value_of
  choice_one (object (member key e no_members)) (chosen i v) h = (member_lawful [] key e).one_value i v h
  choice_one d v h = absurd h

  choice_back : (p : Path) (d : Data) (v : Value) → Shows (choice extensible root additions) d v
      → Has p (tree_of (choice extensible root additions)) v → Holds (demands p (choice extensible root additions) d)
  unfolding Shows demands Has tree_of
  choice_back p (object (member key e no_members)) (chosen i v) h g =
      (refl, (member_lawful p key e).one_back i v h (subst (λ (n : ℕ). HasChosen p key e n i v) (parts_count root) g))
  choice_back p d v h g = absurd h

  module _ (may : MayAdd extensible (count_of additions)) where
    choice_forth : (p : Path) (d : Data) → Holds (demands p (choice extensible root additions) d)
        → Shows (choice extensible root additions) d (value_of (choice extensible root additions) d)
        × Has p (tree_of (choice extensible root additions)) (value_of (choice extensible root additions) d)
    unfolding Shows value_of demands Has tree_of
    choice_forth p (object (member key e no_members)) h =
        let (i, v, is, shown, has) = (member_lawful p key e).one_forth may h.1 in
        subst (λ (w : Value). Shows (choice extensible root additions) (object (one key e)) w
        × Has p (tree_of (choice extensible root additions)) w) is
        (shown, subst (λ (n : ℕ). HasChosen p key e n i v) (sym (parts_count root)) has)
    choice_forth p (object no_members) h = absurd (apart (is_one p no_members h.1))
    choice_forth p (object (member k d (member l e ms))) h =
        absurd (omega (arith, same (suc (suc (member_count ms))) 1 (is_one p (member k d (member l e ms)) h.1)))
    choice_forth p d h = absurd (apart h.0)

    pub choice_lawful : Lawful (choice extensible root additions)
    choice_lawful = record { one = choice_one; forth = choice_forth; back = choice_back }

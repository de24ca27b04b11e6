-- What stands on each radio, uncarried, and that a line of a radio tells how it changes.
use Rattle.std.proofs.Common.{◌≡◌, ◌≤◌, ◌==◌, ℕ, zero, suc, ◌+◌, ◌-◌, Bool, true, false, cond, ◌&&◌, List, [], ◌∷◌, ◌++◌, length, map, drop, Option, Some, None, refl, sym, ap, ◌∙◌, subst, eqb-true, length-append, length-drop, arith}
use Rattle.std.proofs.Math.Dec.{eqb-suc-zero}
use Rattle.std.specs.Prelude.{if◌then◌else◌}
use Rattle.std.specs.Ordering.{eq_by_cmp}
use Rattle.std.proofs.lemmas.List.{drop-append-le}
use Rattle.gnb_types.specs.declared.names.UeId.{UeId}
use Rattle.gnb_types.specs.declared.keys.EntityKey.{EntityKey}
use Rattle.gnb_types.specs.Orders.{ue_cmp, entity_cmp}
use Rattle.gnb_types.proofs.OrderLemmas.{ue_exact, entity_exact}
use Rattle.scenario_text.specs.declared.line.Link.{Link}
use Rattle.scenario_text.specs.declared.line.Item.{Item as ShownItem}
use Rattle.transport_defs.specs.declared.Item.{Item}
use Rattle.transport_defs.specs.Links.{Radio, nth, is_epoch}
use Rattle.run_defs.specs.Lines.{radio_link}
use Rattle.run_defs.specs.Said.{OnLinks, with_items}
use Rattle.law_downlink_scripts.proofs.wires.Links.{same_radio, ties, first_of_two, second_of_two}

abbrev pub uncarried : {P : Type 0} → Radio P → List (Item P)
uncarried r = drop r.carried r.items

drop_none : (X : Type 0) (n : ℕ) → ◌≡◌ {A = List X} (drop n []) []
drop_none X zero = refl
drop_none X (suc n) = refl

pub empty_uncarried : {P : Type 0} (r : Radio P) → r.items ≡ [] → uncarried r ≡ []
empty_uncarried {P = P} r e = ap (drop r.carried) e ∙ drop_none (Item P) r.carried

other_epoch : (o : Option ℕ) (n m : ℕ) → is_epoch o n ≡ true → n == m ≡ false → is_epoch o m ≡ false
other_epoch None n m is other = refl
other_epoch (Some c) n m is other = subst (λ (e : ℕ). e == m ≡ false) (sym (eqb-true c n is)) other

module _ {P : Type 0} (show : Item P → ShownItem) where
  -- what stands on a radio, in the epoch that is connected and in any other
  abbrev pub heard : Bool → Radio P → List ShownItem
  heard true r = map show (uncarried r)
  heard false r = []

  heard_none : (t : Bool) (r : Radio P) → uncarried r ≡ [] → heard t r ≡ []
  heard_none true r e = ap (map show) e
  heard_none false r e = refl

  pub record OnRadios (items : Link → List ShownItem) (radio : EntityKey → Radio P) (connected : UeId → Option ℕ) : Type 0 where
    pub stands : (key : EntityKey) (epoch : ℕ) → items (radio_link key epoch) ≡ heard (is_epoch (connected key.ue) epoch) (radio key)
    pub carried : (key : EntityKey) → (radio key).carried ≤ length (radio key).items
    pub idle : (key : EntityKey) → connected key.ue ≡ None → uncarried (radio key) ≡ []

  module _ {M : Type 0} (on : OnLinks M) (radio : EntityKey → Radio P) (connected : UeId → Option ℕ) (k : OnRadios on.items radio connected)
      (key : EntityKey) where
    -- what stands on one of the connected radios changes
    pub radio_changed : (n : ℕ) → is_epoch (connected key.ue) n ≡ true → (shown : List ShownItem) (r : Radio P) (after : EntityKey → Radio P)
        → shown ≡ map show (uncarried r) → r.carried ≤ length r.items
        → ((q : EntityKey) → after q ≡ cond (eq_by_cmp entity_cmp q key) r (radio q))
        → OnRadios (with_items on (radio_link key n) shown).items after connected
    radio_changed n here shown r after is sound changes = record { stands = stands; carried = carried; idle = idle }
      where
        stand : (q : EntityKey) (e : ℕ) (t u : Bool) → eq_by_cmp entity_cmp q key ≡ t → n == e ≡ u
            → (if t && u then shown else on.items (radio_link q e)) ≡ heard (is_epoch (connected q.ue) e) (cond t r (radio q))
        stand q e false u apart v = k.stands q e
        stand q e true true tie same =
            let ends : key.ue ≡ q.ue = ap (λ (c : EntityKey). c.ue) (sym (entity_exact q key (ties entity_cmp q key tie))) in
            let epoch : is_epoch (connected q.ue) e ≡ true =
            subst (λ (u : UeId). is_epoch (connected u) e ≡ true) ends
            (subst (λ (m : ℕ). is_epoch (connected key.ue) m ≡ true) (eqb-true n e same) here) in
            is ∙ ap (λ (b : Bool). heard b r) (sym epoch)
        stand q e true false tie other =
            let ends : key.ue ≡ q.ue = ap (λ (c : EntityKey). c.ue) (sym (entity_exact q key (ties entity_cmp q key tie))) in
            let epoch : is_epoch (connected q.ue) e ≡ false =
            subst (λ (u : UeId). is_epoch (connected u) e ≡ false) ends (other_epoch (connected key.ue) n e here other) in
            k.stands q e ∙ ap (λ (b : Bool). heard b (radio q)) epoch ∙ ap (λ (b : Bool). heard b r) (sym epoch)

        stands : (q : EntityKey) (e : ℕ)
            → (with_items on (radio_link key n) shown).items (radio_link q e) ≡ heard (is_epoch (connected q.ue) e) (after q)
        stands q e =
            ap (λ t. if t then shown else on.items (radio_link q e)) (same_radio key q n e)
            ∙ stand q e (eq_by_cmp entity_cmp q key) (n == e) refl refl
            ∙ ap (heard (is_epoch (connected q.ue) e)) (sym (changes q))

        carried_by : (q : EntityKey) (t : Bool) → (cond t r (radio q)).carried ≤ length (cond t r (radio q)).items
        carried_by q true = sound
        carried_by q false = k.carried q

        carried : (q : EntityKey) → (after q).carried ≤ length (after q).items
        carried q = subst (λ (s : Radio P). s.carried ≤ length s.items) (sym (changes q)) (carried_by q (eq_by_cmp entity_cmp q key))

        idle_by : (q : EntityKey) (t : Bool) → eq_by_cmp entity_cmp q key ≡ t → connected q.ue ≡ None → uncarried (cond t r (radio q)) ≡ []
        idle_by q true tie none =
            let ends : q.ue ≡ key.ue = ap (λ (c : EntityKey). c.ue) (entity_exact q key (ties entity_cmp q key tie)) in
            let at : is_epoch (connected key.ue) n ≡ false =
            ap (λ (o : Option ℕ). is_epoch o n) (ap connected (sym ends) ∙ none) in
            absurd cc
        idle_by q false apart none = k.idle q none

        idle : (q : EntityKey) → connected q.ue ≡ None → uncarried (after q) ≡ []
        idle q none = ap uncarried (changes q) ∙ idle_by q (eq_by_cmp entity_cmp q key) refl none

    -- nothing changes of what is uncarried
    pub radio_kept : (r : Radio P) (after : EntityKey → Radio P) → uncarried (radio key) ≡ uncarried r → r.carried ≤ length r.items
        → ((q : EntityKey) → after q ≡ cond (eq_by_cmp entity_cmp q key) r (radio q)) → OnRadios on.items after connected
    radio_kept r after is sound changes = record { stands = stands; carried = carried; idle = idle }
      where
        same_by : (q : EntityKey) (t : Bool) → eq_by_cmp entity_cmp q key ≡ t → uncarried (radio q) ≡ uncarried (cond t r (radio q))
        same_by q true tie = ap (λ (c : EntityKey). uncarried (radio c)) (entity_exact q key (ties entity_cmp q key tie)) ∙ is
        same_by q false apart = refl

        same : (q : EntityKey) → uncarried (radio q) ≡ uncarried (after q)
        same q = same_by q (eq_by_cmp entity_cmp q key) refl ∙ ap uncarried (sym (changes q))

        heard_by : (t : Bool) (s u : Radio P) → uncarried s ≡ uncarried u → heard t s ≡ heard t u
        heard_by true s u e = ap (map show) e
        heard_by false s u e = refl

        stands : (q : EntityKey) (e : ℕ) → on.items (radio_link q e) ≡ heard (is_epoch (connected q.ue) e) (after q)
        stands q e = k.stands q e ∙ heard_by (is_epoch (connected q.ue) e) (radio q) (after q) (same q)

        carried_by : (q : EntityKey) (t : Bool) → (cond t r (radio q)).carried ≤ length (cond t r (radio q)).items
        carried_by q true = sound
        carried_by q false = k.carried q

        carried : (q : EntityKey) → (after q).carried ≤ length (after q).items
        carried q = subst (λ (s : Radio P). s.carried ≤ length s.items) (sym (changes q)) (carried_by q (eq_by_cmp entity_cmp q key))

        idle : (q : EntityKey) → connected q.ue ≡ None → uncarried (after q) ≡ []
        idle q none = sym (same q) ∙ k.idle q none

    -- an item that is put on a radio which isn't connected, and its loss
    pub radio_lost_at_once : (n : ℕ) → is_epoch (connected key.ue) n ≡ false → (shown : List ShownItem)
        → OnRadios (with_items (with_items on (radio_link key n) shown) (radio_link key n) []).items radio connected
    radio_lost_at_once n off shown = record { stands = stands; carried = k.carried; idle = k.idle }
      where
        stand : (q : EntityKey) (e : ℕ) (t : Bool) → eq_by_cmp entity_cmp q key && n == e ≡ t
            → (if t then [] else (if t then shown else on.items (radio_link q e))) ≡ heard (is_epoch (connected q.ue) e) (radio q)
        stand q e true tie =
            let ends : key.ue ≡ q.ue =
            ap (λ (c : EntityKey). c.ue) (sym (entity_exact q key (ties entity_cmp q key (first_of_two _ _ tie)))) in
            let epoch : is_epoch (connected q.ue) e ≡ false =
            subst (λ (u : UeId). is_epoch (connected u) e ≡ false) ends
            (subst (λ (m : ℕ). is_epoch (connected key.ue) m ≡ false) (eqb-true n e (second_of_two (eq_by_cmp entity_cmp q key) _ tie)) off) in
            ap (λ (b : Bool). heard b (radio q)) (sym epoch)
        stand q e false apart = k.stands q e

        stands : (q : EntityKey) (e : ℕ)
            → (with_items (with_items on (radio_link key n) shown) (radio_link key n) []).items (radio_link q e)
            ≡ heard (is_epoch (connected q.ue) e) (radio q)
        stands q e =
            ap (λ (t : Bool). if t then [] else (if t then shown else on.items (radio_link q e))) (same_radio key q n e)
            ∙ stand q e _ refl

  -- a terminal is connected, or isn't, in another epoch, where nothing stands on its radios
  pub reconnected : (items : Link → List ShownItem) (radio : EntityKey → Radio P) (connected after : UeId → Option ℕ) (ue : UeId)
      → OnRadios items radio connected → ((key : EntityKey) → key.ue ≡ ue → uncarried (radio key) ≡ [])
      → ((u : UeId) → eq_by_cmp ue_cmp u ue ≡ false → after u ≡ connected u) → OnRadios items radio after
  reconnected items radio connected after ue k clear same = record { stands = λ q e. stand q e _ refl; carried = k.carried; idle = λ q none. rest q _ refl none }
    where
      stand : (q : EntityKey) (e : ℕ) (t : Bool) → eq_by_cmp ue_cmp q.ue ue ≡ t
          → items (radio_link q e) ≡ heard (is_epoch (after q.ue) e) (radio q)
      stand q e true tie =
          let none : uncarried (radio q) ≡ [] = clear q (ue_exact q.ue ue (ties ue_cmp q.ue ue tie)) in
          k.stands q e ∙ heard_none _ (radio q) none ∙ sym (heard_none _ (radio q) none)
      stand q e false apart = k.stands q e ∙ ap (λ (o : Option ℕ). heard (is_epoch o e) (radio q)) (sym (same q.ue apart))

      rest : (q : EntityKey) (t : Bool) → eq_by_cmp ue_cmp q.ue ue ≡ t → after q.ue ≡ None → uncarried (radio q) ≡ []
      rest q true tie none = clear q (ue_exact q.ue ue (ties ue_cmp q.ue ue tie))
      rest q false apart none = k.idle q (sym (same q.ue apart) ∙ none)

  -- lines of tunnels are none of radios
  pub radios_apart : (items other : Link → List ShownItem) (radio : EntityKey → Radio P) (connected : UeId → Option ℕ)
      → ((key : EntityKey) (epoch : ℕ) → other (radio_link key epoch) ≡ items (radio_link key epoch)) → OnRadios items radio connected
      → OnRadios other radio connected
  radios_apart items other radio connected same k = record { stands = λ q e. same q e ∙ k.stands q e; carried = k.carried; idle = k.idle }

-- ---- what is uncarried, when an item is put, carried and confirmed

module _ {P : Type 0} where
  pub put_uncarried : (r : Radio P) (x : Item P) → r.carried ≤ length r.items → uncarried (record r { items = r.items ++ x ∷ [] }) ≡ uncarried r ++ x ∷ []
  put_uncarried r x h = drop-append-le r.carried r.items (x ∷ []) h

  pub put_sound : (r : Radio P) (x : Item P) → r.carried ≤ length r.items → r.carried ≤ length (r.items ++ x ∷ [])
  put_sound r x h = omega (arith, length-append r.items (x ∷ []))

  pub nth_uncarried : (xs : List (Item P)) (n : ℕ) (x : Item P) → nth xs n ≡ Some x → drop n xs ≡ x ∷ drop (n + 1) xs
  nth_uncarried [] n x e = absurd cc
  nth_uncarried (y ∷ ys) zero x e = let same : y ≡ x = cc in ap (λ (z : Item P). z ∷ ys) same
  nth_uncarried (y ∷ ys) (suc n) x e =
      let back : n ≡ suc n - 1 = omega arith in
      let rest : nth ys n ≡ Some x =
      ap (nth ys) back ∙ ap (λ (t : Bool). if t then Some y else nth ys (suc n - 1)) (sym (eqb-suc-zero n)) ∙ e in
      let next : suc (n + 1) ≡ suc n + 1 = omega arith in
      nth_uncarried ys n x rest ∙ ap (λ (m : ℕ). x ∷ drop m (y ∷ ys)) next

  pub nth_within : (xs : List (Item P)) (n : ℕ) (x : Item P) → nth xs n ≡ Some x → n + 1 ≤ length xs
  nth_within xs n x e = omega (arith, length-drop n xs, ap length (nth_uncarried xs n x e))

  pub confirmed_uncarried : (n : ℕ) (x : Item P) (xs : List (Item P)) → n == 0 ≡ false → drop n (x ∷ xs) ≡ drop (n - 1) xs
  confirmed_uncarried zero x xs e = absurd cc
  confirmed_uncarried (suc n) x xs e = let back : n ≡ suc n - 1 = omega arith in ap (λ (m : ℕ). drop m xs) back

  pub confirmed_sound : (n : ℕ) (x : Item P) (xs : List (Item P)) → n ≤ length (x ∷ xs) → n - 1 ≤ length xs
  confirmed_sound n x xs h = omega arith

-- Nothing of a bearer stands on links where nothing of either of its directions does.
use Rattle.std.proofs.Common.{◌≡◌, ◌==◌, Bool, true, false, not, ◌&&◌, ◌||◌, List, [], ◌∷◌, ◌++◌, length, refl, sym, ap, ◌∙◌, eq-eqb, eqb-true, arith}
use Rattle.std.specs.Prelude.{cond}
use Rattle.std.specs.List.{list_all, list_any, flat_map}
use Rattle.std.specs.Ordering.{is_eq, eq_by_cmp}
use Rattle.std.specs.Cmp.{both_ways, tied_itself, Equal-is}
use Rattle.gnb_types.specs.declared.names.Dir.{Dir}
use Rattle.gnb_types.specs.declared.names.Dir.TheVariants.{Dl, Ul}
use Rattle.gnb_types.specs.declared.names.UeId.{UeId}
use Rattle.gnb_types.specs.declared.names.BearerId.{BearerId}
use Rattle.gnb_types.specs.declared.keys.TunnelEnd.{TunnelEnd}
use Rattle.gnb_types.specs.declared.keys.EntityKey.{EntityKey}
use Rattle.gnb_types.specs.Orders.{entity_cmp}
use Rattle.gnb_types.proofs.Choices.{both}
use Rattle.gnb_types.proofs.OrderLemmas.{entity_total, entity_exact}
use Rattle.transport_defs.specs.declared.Item.{Item}
use Rattle.transport_defs.specs.Links.{Radio, is_of_bearer, items_of, tunnel_items, radio_items}
use Rattle.run_defs.specs.States.{entity}

and_false : (b : Bool) → (b && false) ≡ false
and_false true = refl
and_false false = refl

or_true : (b : Bool) → (b || true) ≡ true
or_true true = refl
or_true false = refl

not_empty : {X : Type 0} (x : X) (xs : List X) → (length (x ∷ xs) == 0) ≡ false
not_empty x xs = by (length (x ∷ xs) == 0) refl
  where
    by : (b : Bool) → (length (x ∷ xs) == 0) ≡ b → b ≡ false
    by true e = let none : length (x ∷ xs) ≡ 0 = eqb-true (length (x ∷ xs)) 0 e in absurd (omega arith)
    by false e = refl

both_true : (a b : Bool) → a ≡ true → b ≡ true → (a && b) ≡ true
both_true true b p q = q
both_true false b p q = p

module _ (ue : UeId) (bearer : BearerId) where
  abbrev downlink : EntityKey
  downlink = entity ue bearer Dl

  abbrev uplink : EntityKey
  uplink = entity ue bearer Ul

  -- ---- an item is of the bearer where it is of one of its directions

  of_key : (k : EntityKey) (dir : Dir) → eq_by_cmp entity_cmp k (entity ue bearer dir) ≡ true → (k.ue.0 == ue.0 && k.bearer.0 == bearer.0) ≡ true
  of_key k dir h =
      let same : k ≡ entity ue bearer dir = entity_exact k (entity ue bearer dir) ((Equal-is (entity_cmp k (entity ue bearer dir))).0 h) in
      both_true _ _ (eq-eqb k.ue.0 ue.0 (ap (λ (x : EntityKey). x.ue.0) same)) (eq-eqb k.bearer.0 bearer.0 (ap (λ (x : EntityKey). x.bearer.0) same))

  is_key : (k : EntityKey) (dir : Dir) → k.dir ≡ dir → (k.ue.0 == ue.0 && k.bearer.0 == bearer.0) ≡ true
      → eq_by_cmp entity_cmp k (entity ue bearer dir) ≡ true
  is_key k dir turned h =
      let two = both (k.ue.0 == ue.0) (k.bearer.0 == bearer.0) h in
      let ues : k.ue.0 ≡ ue.0 = eqb-true k.ue.0 ue.0 two.0 in
      let bearers : k.bearer.0 ≡ bearer.0 = eqb-true k.bearer.0 bearer.0 two.1 in
      let same : entity ue bearer dir ≡ k = λ i. record { ue = record { 0 = sym ues i }; bearer = record { 0 = sym bearers i }; dir = sym turned i } in
      ap (λ (x : EntityKey). eq_by_cmp entity_cmp k x) same ∙ ap is_eq (tied_itself entity_total k)

  either : (k : EntityKey) → (k.ue.0 == ue.0 && k.bearer.0 == bearer.0) ≡ (eq_by_cmp entity_cmp k downlink || eq_by_cmp entity_cmp k uplink)
  either k = both_ways _ _ (there k.dir refl) (back (eq_by_cmp entity_cmp k downlink) refl)
    where
      there : (dir : Dir) → k.dir ≡ dir → (k.ue.0 == ue.0 && k.bearer.0 == bearer.0) ≡ true
          → (eq_by_cmp entity_cmp k downlink || eq_by_cmp entity_cmp k uplink) ≡ true
      there Dl turned h = ap (λ (b : Bool). b || eq_by_cmp entity_cmp k uplink) (is_key k Dl turned h)
      there Ul turned h = ap (λ (b : Bool). eq_by_cmp entity_cmp k downlink || b) (is_key k Ul turned h) ∙ or_true _

      back : (b : Bool) → eq_by_cmp entity_cmp k downlink ≡ b → (b || eq_by_cmp entity_cmp k uplink) ≡ true
          → (k.ue.0 == ue.0 && k.bearer.0 == bearer.0) ≡ true
      back true e h = of_key k Dl e
      back false e h = of_key k Ul h

  -- ---- on one link, and on all of them

  none_among : {X : Type 0} (items : List (Item X)) → not (list_any (is_of_bearer ue bearer) items)
      ≡ (length (items_of downlink items) == 0 && length (items_of uplink items) == 0)
  none_among [] = refl
  none_among (item ∷ items) =
      ap (λ (b : Bool). not (b || list_any (is_of_bearer ue bearer) items)) (either item.key)
      ∙ by (eq_by_cmp entity_cmp item.key downlink) (eq_by_cmp entity_cmp item.key uplink) (none_among items)
    where
      by : (d u : Bool) → not (list_any (is_of_bearer ue bearer) items) ≡ (length (items_of downlink items) == 0 && length (items_of uplink items) == 0)
          → not ((d || u) || list_any (is_of_bearer ue bearer) items)
          ≡ (length (cond d (item ∷ items_of downlink items) (items_of downlink items)) == 0
          && length (cond u (item ∷ items_of uplink items) (items_of uplink items)) == 0)
      by true u again =
          ap (λ (b : Bool). b && length (cond u (item ∷ items_of uplink items) (items_of uplink items)) == 0) (sym (not_empty item (items_of downlink items)))
      by false true again =
          sym (and_false (length (items_of downlink items) == 0))
          ∙ ap (λ (b : Bool). length (items_of downlink items) == 0 && b) (sym (not_empty item (items_of uplink items)))
      by false false again = again

  gathered : {X : Type 0} (a b more others : List X) → ((length a == 0 && length b == 0) && (length more == 0 && length others == 0))
      ≡ (length (a ++ more) == 0 && length (b ++ others) == 0)
  gathered [] [] more others = refl
  gathered [] (y ∷ b) more others =
      ap (λ (t : Bool). t && (length more == 0 && length others == 0)) (not_empty y b) ∙ sym (and_false (length more == 0))
      ∙ ap (λ (t : Bool). length more == 0 && t) (sym (not_empty y (b ++ others)))
  gathered (x ∷ a) b more others =
      ap (λ (t : Bool). (t && length b == 0) && (length more == 0 && length others == 0)) (not_empty x a)
      ∙ ap (λ (t : Bool). t && length (b ++ others) == 0) (sym (not_empty x (a ++ more)))

  none_on : {K V X : Type 0} (items_in : V → List (Item X)) (links : List (K × V))
      → list_all (λ (e : K × V). not (list_any (is_of_bearer ue bearer) (items_in e.1))) links
      ≡ (length (flat_map (λ (e : K × V). items_of downlink (items_in e.1)) links) == 0
      && length (flat_map (λ (e : K × V). items_of uplink (items_in e.1)) links) == 0)
  none_on items_in [] = refl
  none_on items_in (e ∷ es) =
      (λ i. none_among (items_in e.1) i && none_on items_in es i)
      ∙ gathered (items_of downlink (items_in e.1)) (items_of uplink (items_in e.1))
      (flat_map (λ e. items_of downlink (items_in e.1)) es) (flat_map (λ e. items_of uplink (items_in e.1)) es)

crossed : (a b c d : Bool) → ((a && b) && (c && d)) ≡ ((a && c) && (b && d))
crossed true true c d = refl
crossed true false c d = sym (and_false c)
crossed false b c d = refl

-- nothing of a bearer stands on tunnels and radios
pub both_empty : {X Y : Type 0} (ue : UeId) (bearer : BearerId) (tunnels : List (TunnelEnd × List (Item X))) (radios : List (EntityKey × Radio Y))
    → (list_all (λ e. not (list_any (is_of_bearer ue bearer) e.1)) tunnels && list_all (λ e. not (list_any (is_of_bearer ue bearer) e.1.items)) radios)
    ≡ ((length (tunnel_items (entity ue bearer Dl) tunnels) == 0 && length (radio_items (entity ue bearer Dl) radios) == 0)
    && (length (tunnel_items (entity ue bearer Ul) tunnels) == 0 && length (radio_items (entity ue bearer Ul) radios) == 0))
both_empty ue bearer tunnels radios =
    (λ i. none_on ue bearer (λ items. items) tunnels i && none_on ue bearer (λ radio. radio.items) radios i)
    ∙ crossed (length (tunnel_items (entity ue bearer Dl) tunnels) == 0) (length (tunnel_items (entity ue bearer Ul) tunnels) == 0)
    (length (radio_items (entity ue bearer Dl) radios) == 0) (length (radio_items (entity ue bearer Ul) radios) == 0)

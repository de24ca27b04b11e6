-- Records by the names of their nodes: one changes by what happens to it, or all do.
use Rattle.std.proofs.Common.{◌≡◌, ℕ, Bool, true, false, cond, List, [], ◌∷◌, ◌++◌, map, Option, Some, None, refl, sym, ap, ◌∙◌}
use Rattle.std.specs.Prelude.{unwrap_or}
use Rattle.std.specs.Ordering.{eq_by_cmp}
use Rattle.std.specs.Cmp.{Equal-is}
use Rattle.std.specs.Option.{option_map}
use Rattle.gnb_types.specs.declared.names.Gnb.{Gnb}
use Rattle.gnb_types.specs.declared.names.NodeId.{NodeId}
use Rattle.gnb_types.specs.Orders.{node_cmp}
use Rattle.gnb_types.proofs.OrderLemmas.{node_total, node_exact}
use Rattle.tables.specs.Tables.{find, put, at, map_values}
use Rattle.tables.proofs.TableLaws.{at-put, find-mapped}
use Rattle.proof_bearer_refinement.specs.run_unit_inputs.Happenings.{Happening, after_each}

as_values : {K X Y : Type 0} (f : X → Y) (es : List (K × X)) → map (λ e. (e.0, f e.1)) es ≡ map_values f es
unfolding map_values
as_values f [] = refl
as_values f (e ∷ es) = ap (λ xs. (e.0, f e.1) ∷ xs) (as_values f es)

module _ {R : Type 0} (after : R → Happening → R) where
  pub each-append : (r : R) (hs ks : List Happening) → after_each after r (hs ++ ks) ≡ after_each after (after_each after r hs) ks
  unfolding after_each
  each-append r [] ks = refl
  each-append r (h ∷ hs) ks = each-append (after r h) hs ks

  -- a unit has a number at its gNB
  module _ (name : Gnb → ℕ → NodeId) (exact : (g h : Gnb) (n m : ℕ) → name g n ≡ name h m → (g ≡ h) × (n ≡ m)) (first : Gnb → ℕ → R) where
    abbrev pub record_of : List (NodeId × R) → Gnb → ℕ → R
    record_of es g n = at node_cmp (first g n) es (name g n)

    -- of each unit: what happened
    abbrev pub Goes : List (NodeId × R) → List (NodeId × R) → Type 0
    Goes es fs = (g : Gnb) (n : ℕ) → (hs : List Happening) × (record_of fs g n ≡ after_each after (record_of es g n) hs)

    pub none_goes : (es fs : List (NodeId × R)) → fs ≡ es → Goes es fs
    unfolding after_each
    none_goes es fs is g n = ([], ap (λ xs. record_of xs g n) is)

    pub then_goes : (es fs gs : List (NodeId × R)) → Goes es fs → Goes fs gs → Goes es gs
    then_goes es fs gs p q g n = (
      (p g n).0 ++ (q g n).0,
      (q g n).1 ∙ ap (λ r. after_each after r (q g n).0) ((p g n).1) ∙ sym (each-append (record_of es g n) (p g n).0 (q g n).0),
    )

    pub one_goes : (es fs : List (NodeId × R)) (h : Gnb) (m : ℕ) (x : R) (what : Happening) → fs ≡ put node_cmp es (name h m) x
        → x ≡ after (record_of es h m) what → Goes es fs
    unfolding after_each
    one_goes es fs h m x what is became g n = by (eq_by_cmp node_cmp (name g n) (name h m)) refl
      where
        picked : (t : Bool) → eq_by_cmp node_cmp (name g n) (name h m) ≡ t → record_of fs g n ≡ cond t x (record_of es g n)
        picked t refinement = ap (λ xs. record_of xs g n) is ∙ at-put node_total (first g n) es (name h m) x (name g n)
            ∙ ap (λ b. cond b x (record_of es g n)) refinement

        by : (t : Bool) → eq_by_cmp node_cmp (name g n) (name h m) ≡ t → (hs : List Happening) × (record_of fs g n ≡ after_each after (record_of es g n) hs)
        by true refinement =
            let same = exact g h n m (node_exact (name g n) (name h m) ((Equal-is (node_cmp (name g n) (name h m))).0 refinement)) in
            (what ∷ [], picked true refinement ∙ became ∙ sym (λ i. after (record_of es (same.0 i) (same.1 i)) what))
        by false far = ([], picked false far)

    -- the same happens to each that is there
    pub all_go : (mark : R → R) (what : Happening) → ((r : R) → after r what ≡ mark r) → (es : List (NodeId × R))
        → Goes es (map (λ e. (e.0, mark e.1)) es)
    unfolding after_each at
    all_go mark what marks es g n = by (find node_cmp es (name g n)) refl
      where
        marked : List (NodeId × R)
        marked = map (λ e. (e.0, mark e.1)) es

        found : (o : Option R) → find node_cmp es (name g n) ≡ o → find node_cmp marked (name g n) ≡ option_map mark o
        found o is = ap (λ xs. find node_cmp xs (name g n)) (as_values mark es) ∙ find-mapped node_cmp mark es (name g n) ∙ ap (option_map mark) is

        by : (o : Option R) → find node_cmp es (name g n) ≡ o
            → (hs : List Happening) × (unwrap_or (find node_cmp marked (name g n)) (first g n) ≡ after_each after (unwrap_or (find node_cmp es (name g n)) (first g n)) hs)
        by None is = ([], ap (λ o. unwrap_or o (first g n)) (found None is) ∙ sym (ap (λ o. unwrap_or o (first g n)) is))
        by (Some r) is = (
          what ∷ [],
          ap (λ o. unwrap_or o (first g n)) (found (Some r) is) ∙ sym (marks r) ∙ sym (ap (λ o. after (unwrap_or o (first g n)) what) is),
        )

-- The radios of a terminal, in order: the first of them, and the others, which are those of the table without it.
use Rattle.std.proofs.Common.{◌≡◌, ◌<◌, ◌==◌, ℕ, Bool, true, false, cond, not, if◌then◌else◌, List, [], ◌∷◌, ◌++◌, length, Some, refl, sym, ◌∙◌, ap, subst, arith}
use Rattle.std.specs.declared.cmp.Ordering.{Ordering}
use Rattle.std.specs.declared.cmp.Ordering.TheVariants.{Less, Equal, Greater}
use Rattle.std.specs.Ordering.{is_eq}
use Rattle.std.specs.Cmp.{tied_itself}
use Rattle.std.specs.List.{filter, flat_map, AllByRecursion}
use Rattle.std.proofs.lemmas.Map.Keys.{sorted_head, sorted_tail}
use Rattle.std.proofs.lemmas.Bool.Decides.{Decides-eqb, not_from_Decides}
use Rattle.std.specs.Map.{keys_of}
use Rattle.std.specs.BTreeMap.{is_at}
use Rattle.gnb_types.specs.declared.names.UeId.{UeId}
use Rattle.gnb_types.specs.declared.keys.EntityKey.{EntityKey}
use Rattle.gnb_types.specs.Orders.{entity_cmp}
use Rattle.gnb_types.proofs.OrderLemmas.{entity_total, entity_exact}
use Rattle.gnb_types.proofs.Choices.{by_test}
use Rattle.tables.specs.Tables.{without, IsSorted}
use Rattle.transport_defs.specs.Links.{Radio, emptied}
use Rattle.links.specs.Radios.{first_of}
use Rattle.run_links.specs.Networks.{Octets}

abbrev Radios : Type 0
Radios = List (EntityKey × Radio Octets)

abbrev is_other : EntityKey → EntityKey × Radio Octets → Bool
is_other key e = not (is_at (entity_cmp key) e.0)

others_stay : (key : EntityKey) (es : Radios) → AllByRecursion (λ y. entity_cmp key y ≡ Less) (keys_of es) → filter (is_other key) es ≡ es
others_stay key [] all = refl
others_stay key (e ∷ es) all =
    ap (λ (r : Ordering). cond (not (is_eq r)) (e ∷ filter (is_other key) es) (filter (is_other key) es)) all.0
    ∙ ap (λ (l : Radios). e ∷ l) (others_stay key es all.1)

without_head : (e : EntityKey × Radio Octets) (es : Radios) → IsSorted entity_cmp (e ∷ es) → emptied (e ∷ es) e.0 ≡ es
unfolding without
without_head e es sorted =
    ap (λ (r : Ordering). cond (not (is_eq r)) (e ∷ filter (is_other e.0) es) (filter (is_other e.0) es)) (tied_itself entity_total e.0)
    ∙ others_stay e.0 es (sorted_head entity_cmp e.0 (keys_of es) sorted)

not_tied : (r : Ordering) → (r ≡ Equal → ⊥) → is_eq r ≡ false
not_tied Less h = refl
not_tied Equal h = absurd (h refl)
not_tied Greater h = refl

tests_apart : (a b : ℕ) → (a == b) ≡ false → a ≡ b → ⊥
tests_apart a b t h = not_from_Decides (a == b) (Decides-eqb a b) t h

without_other : (key : EntityKey) (e : EntityKey × Radio Octets) (es : Radios) → (key.ue.0 == e.0.ue.0) ≡ false
    → emptied (e ∷ es) key ≡ e ∷ emptied es key
unfolding without
without_other key e es apart =
    let differs : is_eq (entity_cmp key e.0) ≡ false =
    not_tied (entity_cmp key e.0)
    (λ h. tests_apart key.ue.0 e.0.ue.0 apart (ap (λ (k : EntityKey). k.ue.0) (entity_exact key e.0 h))) in
    ap (λ (b : Bool). cond (not b) (e ∷ filter (is_other key) es) (filter (is_other key) es)) differs

first_is : (ue : UeId) (key : EntityKey) (es : Radios) → first_of ue es ≡ Some key → (key.ue.0 == ue.0) ≡ true
first_is ue key [] h = absurd cc
first_is ue key (e ∷ es) h =
    by_test ((key.ue.0 == ue.0) ≡ true) (e.0.ue.0 == ue.0)
    (λ t. let there : Some e.0 ≡ Some key = rw t at h in
    let same : e.0 ≡ key = cc in
    ap (λ (k : EntityKey). k.ue.0 == ue.0) (sym same) ∙ t)
    (λ f. let there : first_of ue es ≡ Some key = rw f at h in first_is ue key es there)

-- those of a terminal
abbrev pub of_terminal : UeId → List (EntityKey × Radio Octets) → List EntityKey
of_terminal ue radios = flat_map (λ e. if e.0.ue.0 == ue.0 then e.0 ∷ [] else []) radios

pub record Splits (ue : UeId) (key : EntityKey) (radios : List (EntityKey × Radio Octets)) : Type 0 where
  pub first : of_terminal ue radios ≡ key ∷ of_terminal ue (emptied radios key)
  pub fewer : length (emptied radios key) < length radios

splits_here : (ue : UeId) (key : EntityKey) (e : EntityKey × Radio Octets) (es : Radios) → IsSorted entity_cmp (e ∷ es)
    → (e.0.ue.0 == ue.0) ≡ true → e.0 ≡ key → Splits ue key (e ∷ es)
splits_here ue key e es sorted t same =
    let rest : emptied (e ∷ es) e.0 ≡ es = without_head e es sorted in
    subst (λ (k : EntityKey). Splits ue k (e ∷ es)) same (record {
      first =
          ap (λ (b : Bool). (if b then e.0 ∷ [] else []) ++ of_terminal ue es) t
          ∙ ap (λ (r : Radios). e.0 ∷ of_terminal ue r) (sym rest);
      fewer = subst (λ (r : Radios). length r < length (e ∷ es)) (sym rest) (omega arith);
    })

splits_later : (ue : UeId) (key : EntityKey) (e : EntityKey × Radio Octets) (es : Radios) → (e.0.ue.0 == ue.0) ≡ false
    → (key.ue.0 == ue.0) ≡ true → Splits ue key es → Splits ue key (e ∷ es)
splits_later ue key e es f is rest =
    let apart : (key.ue.0 == e.0.ue.0) ≡ false = differ key.ue.0 e.0.ue.0 ue.0 is f in
    let kept : emptied (e ∷ es) key ≡ e ∷ emptied es key = without_other key e es apart in
    let shorter : length (emptied es key) < length es = rest.fewer in
    record {
      first =
          ap (λ (b : Bool). (if b then e.0 ∷ [] else []) ++ of_terminal ue es) f ∙ rest.first
          ∙ ap (λ (b : Bool). key ∷ ((if b then e.0 ∷ [] else []) ++ of_terminal ue (emptied es key))) (sym f)
          ∙ ap (λ (r : Radios). key ∷ of_terminal ue r) (sym kept);
      fewer = subst (λ (r : Radios). length r < length (e ∷ es)) (sym kept) (omega arith);
    }
  where
    differ : (a b n : ℕ) → (a == n) ≡ true → (b == n) ≡ false → (a == b) ≡ false
    differ a b n h k =
        by_test ((a == b) ≡ false) (a == b)
        (λ t. absurd (tests_apart b n k (sym ((Decides-eqb a b).0 t) ∙ (Decides-eqb a n).0 h))) (λ f. f)

pub splits_first : (ue : UeId) (key : EntityKey) (radios : List (EntityKey × Radio Octets))
    → IsSorted entity_cmp radios → first_of ue radios ≡ Some key → Splits ue key radios
splits_first ue key [] sorted h = absurd cc
splits_first ue key (e ∷ es) sorted h =
    by_test (Splits ue key (e ∷ es)) (e.0.ue.0 == ue.0)
    (λ t. let there : Some e.0 ≡ Some key = rw t at h in
    let same : e.0 ≡ key = cc in splits_here ue key e es sorted t same)
    (λ f. let there : first_of ue es ≡ Some key = rw f at h in
    splits_later ue key e es f (first_is ue key es there) (splits_first ue key es (sorted_tail entity_cmp e.0 (keys_of es) sorted) there))

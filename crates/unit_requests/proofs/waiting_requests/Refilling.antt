-- A queue and a table that are emptied from the first entry on, and filled again in the same order.
use Rattle.std.proofs.Common.{◌≡◌, ℕ, ◌==◌, Bool, true, false, cond, not, List, [], ◌∷◌, ◌++◌, map, Option, Some, None, refl, sym, ap, subst, ◌∙◌, append_assoc, eq-eqb}
use Rattle.std.specs.Prelude.{Result, Ok, Err, IfOk}
use Rattle.std.proofs.lemmas.List.{append-nil}
use Rattle.std.specs.declared.cmp.Ordering.{Ordering}
use Rattle.std.specs.declared.cmp.Ordering.TheVariants.{Less, Equal, Greater}
use Rattle.std.specs.Ordering.{ordering_reverse, is_eq}
use Rattle.std.specs.Cmp.{IsTotalOrder, tied_itself}
use Rattle.std.specs.List.{filter, AllByRecursion}
use Rattle.std.specs.List.Sorted.{IsStrictlySortedBy}
use Rattle.std.specs.Map.{keys_of, lookup}
use Rattle.std.specs.BTreeMap.{is_at}
use Rattle.std.proofs.lemmas.Map.Keys.{sorted_head, sorted_tail}
use Rattle.gnb_types.specs.declared.items.Memory.{Memory}
use Rattle.gnb_types.specs.declared.keys.Channel.{Channel}
use Rattle.gnb_types.specs.declared.names.UeId.{UeId}
use Rattle.tables.specs.Queues.{TakesFirst}
use Rattle.tables.specs.Tables.{find, put, without, first_entry, IsSorted}
use Rattle.unit_defs.specs.Transactions.{Waiting}
use Rattle.unit_defs.specs.CuCpRecords.{not_awaited, unawaited}
use Rattle.unit_defs.specs.octet_defs.Codec.{Codec, octet_way}

abbrev pub Waits : Type 0
Waits = List (Waiting (List ℕ))

-- ---- what came over, and what is left

module _ {X Y : Type 0} (f : X → Y) (after : List Y) (left : List X) (whole : List Y) where
  -- one more came over: both together are the same
  pub one_more : (rest : List X) (x : X) (y : Y) (more : List Y) → left ≡ x ∷ rest → y ≡ f x → more ≡ after ++ y ∷ []
      → after ++ map f left ≡ whole → more ++ map f rest ≡ whole
  one_more rest x y more left_is y_is more_is before =
      ap (λ (ys : List Y). ys ++ map f rest) more_is
      ∙ append_assoc after (y ∷ []) (map f rest)
      ∙ ap (λ (z : Y). after ++ z ∷ map f rest) y_is
      ∙ ap (λ (xs : List X). after ++ map f xs) (sym left_is)
      ∙ before

  -- nothing is left
  pub all_over : left ≡ [] → after ++ map f left ≡ whole → after ≡ whole
  all_over none before = sym (append-nil after) ∙ ap (λ (xs : List X). after ++ map f xs) (sym none) ∙ before

-- ---- a table in the order of its keys

last_of : {K : Type 0} (P : K → Type 0) (xs : List K) (k : K) (ks : List K) → AllByRecursion P (xs ++ k ∷ ks) → P k
last_of P [] k ks all = all.0
last_of P (x ∷ xs) k ks all = last_of P xs k ks all.1

keys_append : {K X : Type 0} (m : List (K × X)) (k : K) (v : X) (ks : List K) → keys_of (m ++ (k, v) ∷ []) ++ ks ≡ keys_of m ++ k ∷ ks
keys_append [] k v ks = refl
keys_append {K = K} (e ∷ es) k v ks = ap (λ (xs : List K). e.0 ∷ xs) (keys_append es k v ks)

module _ {K X : Type 0} {R : K → K → Ordering} (o : IsTotalOrder R) where
  keeps_above : (k : K) (es : List (K × X)) → AllByRecursion (λ y. R k y ≡ Less) (keys_of es) → filter (λ e. not (is_at (R k) e.0)) es ≡ es
  keeps_above k [] all = refl
  keeps_above k (e ∷ es) all =
      ap (λ (r : Ordering). cond (not (is_eq r)) (e ∷ filter (λ f. not (is_at (R k) f.0)) es) (filter (λ f. not (is_at (R k) f.0)) es)) all.0
      ∙ ap (λ (fs : List (K × X)). e ∷ fs) (keeps_above k es all.1)

  -- the least key's entry is out
  without_first : (e : K × X) (es : List (K × X)) → IsSorted R (e ∷ es) → without R (e ∷ es) e.0 ≡ es
  unfolding without
  without_first e es sorted =
      ap (λ (r : Ordering). cond (not (is_eq r)) (e ∷ filter (λ f. not (is_at (R e.0) f.0)) es) (filter (λ f. not (is_at (R e.0) f.0)) es)) (tied_itself o e.0)
      ∙ keeps_above e.0 es (sorted_head R e.0 (keys_of es) sorted)

  first_found : (e : K × X) (es : List (K × X)) → find R (e ∷ es) e.0 ≡ Some e.1
  unfolding find
  first_found e es = ap (λ (r : Ordering). cond (is_eq r) (Some e.1) (lookup (is_at (R e.0)) es)) (tied_itself o e.0)

  head_out : (e : K × X) (es rest : List (K × X)) (v : X) → IsSorted R (e ∷ es) → Some v ≡ find R (e ∷ es) e.0
      → rest ≡ without R (e ∷ es) e.0 → e ∷ es ≡ (e.0, v) ∷ rest
  head_out e es rest v sorted found is =
      let found_is : Some v ≡ Some e.1 = found ∙ first_found e es in
      let v_is : v ≡ e.1 = cc in
      ap (λ (fs : List (K × X)). e ∷ fs) (sym (is ∙ without_first e es sorted)) ∙ ap (λ (x : X). (e.0, x) ∷ rest) (sym v_is)

  pub first_out : (m rest : List (K × X)) (k : K) (w v : X) → IsSorted R m → Some (k, w) ≡ first_entry m → Some v ≡ find R m k
      → rest ≡ without R m k → m ≡ (k, v) ∷ rest
  unfolding first_entry
  first_out [] rest k w v sorted first found is = cc
  first_out (e ∷ es) rest k w v sorted first found is =
      let e_is : e ≡ (k, w) = cc in
      subst (λ (q : K). Some v ≡ find R (e ∷ es) q → rest ≡ without R (e ∷ es) q → e ∷ es ≡ (q, v) ∷ rest)
      (ap (λ (p : K × X). p.0) e_is) (head_out e es rest v sorted) found is

  -- the first key has a value
  pub first_is_there : (m : List (K × X)) (k : K) (w : X) → Some (k, w) ≡ first_entry m → None ≡ find R m k → ⊥
  unfolding first_entry
  first_is_there [] k w first none = cc
  first_is_there (e ∷ es) k w first none =
      let e_is : e ≡ (k, w) = cc in
      let gone : None ≡ find R (e ∷ es) e.0 = none ∙ ap (λ (p : K × X). find R (e ∷ es) p.0) (sym e_is) in
      let there : None ≡ Some e.1 = gone ∙ first_found e es in
      cc

  put_last : (m : List (K × X)) (k : K) (v : X) (ks : List K) → IsStrictlySortedBy R (keys_of m ++ k ∷ ks)
      → put R m k v ≡ m ++ (k, v) ∷ []
  unfolding put
  put_last [] k v ks sorted = refl
  put_last (e ∷ es) k v ks sorted =
      let below : R e.0 k ≡ Less = last_of (λ y. R e.0 y ≡ Less) (keys_of es) k ks (sorted_head R e.0 (keys_of es ++ k ∷ ks) sorted) in
      let above : R k e.0 ≡ Greater = o.antisymm k e.0 ∙ ap ordering_reverse below in
      rw above (ap (λ (xs : List (K × X)). e ∷ xs) (put_last es k v ks (sorted_tail R e.0 (keys_of es ++ k ∷ ks) sorted)))

  module _ (f : K × X → K × X) (m left rest : List (K × X)) (e : K × X) (v : X) (n : List (K × X)) (left_is : left ≡ e ∷ rest)
      (sorted : IsStrictlySortedBy R (keys_of m ++ keys_of left)) (is : n ≡ put R m e.0 v) where
    in_order : IsStrictlySortedBy R (keys_of m ++ e.0 ∷ keys_of rest)
    in_order = subst (λ (es : List (K × X)). IsStrictlySortedBy R (keys_of m ++ keys_of es)) left_is sorted

    added : n ≡ m ++ (e.0, v) ∷ []
    added = is ∙ put_last m e.0 v (keys_of rest) in_order

    -- one entry more has come over: what both are together stays
    pub all_stays : (whole : List (K × X)) → (e.0, v) ≡ f e → m ++ map f left ≡ whole → n ++ map f rest ≡ whole
    all_stays whole same before = one_more f m left whole rest e (e.0, v) n left_is same added before

    pub still_sorted : IsStrictlySortedBy R (keys_of n ++ keys_of rest)
    still_sorted =
        subst (λ (xs : List K). IsStrictlySortedBy R xs)
        (sym (ap (λ (xs : List (K × X)). keys_of xs ++ keys_of rest) added ∙ keys_append m e.0 v (keys_of rest))) in_order

-- an empty table has no first entry
pub none_is_first : {K X : Type 0} (m : List (K × X)) → None ≡ first_entry m → m ≡ []
unfolding first_entry
none_is_first [] none = refl
none_is_first (e ∷ es) none = cc

-- ---- a channel of the terminal

module _ (codec : Codec) (ue : UeId) (channel : Channel) (queue : Waits) where
  pub of_terminal : (result : Result Waits Memory) → channel.ue ≡ ue.0 → IfOk result (λ after. after ≡ map (not_awaited (octet_way codec)) queue)
      → IfOk result (λ after. ◌≡◌ {A = Channel × Waits} (channel, after) (unawaited (octet_way codec) ue (channel, queue)))
  of_terminal (Ok after) same is =
      let all : Channel × Waits = (channel, queue) in
      ap (λ (ws : Waits). (channel, ws)) is
      ∙ sym (ap (λ (b : Bool). cond b (channel, map (not_awaited (octet_way codec)) queue) all) (eq-eqb channel.ue ue.0 same))
  of_terminal (Err e) same is = tt

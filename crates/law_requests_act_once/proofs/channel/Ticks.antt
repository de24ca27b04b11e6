-- A tick: each open request is aged, or expires; its channel has no second entry.
use Rattle.std.proofs.Common.{◌≡◌, Bool, true, false, cond, not, List, [], ◌∷◌, Option, Some, None, refl, sym, ap, ◌∙◌}
use Rattle.std.specs.Prelude.{map, if◌then◌else◌}
use Rattle.std.specs.List.{filter, AllByRecursion}
use Rattle.std.specs.List.Sorted.{IsStrictlySortedBy}
use Rattle.std.specs.Cmp.{eq_by_cmp_equiv}
use Rattle.std.specs.declared.cmp.Ordering.TheVariants.{Less}
use Rattle.std.specs.Map.{lookup, keys_of}
use Rattle.std.specs.BTreeMap.{is_at}
use Rattle.std.proofs.lemmas.Map.{lookup-none}
use Rattle.std.proofs.lemmas.Map.Entries.{none_past_head}
use Rattle.std.proofs.lemmas.Map.Keys.{sorted_tail, IsDistinct-from_sorted}
use Rattle.gnb_types.specs.declared.keys.Channel.{Channel}
use Rattle.gnb_types.specs.Orders.{channel_cmp}
use Rattle.gnb_types.proofs.OrderLemmas.{channel_total}
use Rattle.tables.specs.Tables.{find, IsSorted}
use Rattle.transaction_defs.specs.Callers.{Opened, Caller, opened_at, after_tick, aged, one_less, is_last}

-- what a tick leaves of an open request
abbrev pub aged_in : {M : Type 0} → Option (Opened M) → Option (Opened M)
aged_in None = None
aged_in (Some o) = if is_last o.deadline then None else Some (record o { deadline = one_less o.deadline })

module _ {M : Type 0} where
  abbrev stays_open : Channel × Opened M → Bool
  stays_open e = not (is_last e.1.deadline)

  find_aged : (es : List (Channel × Opened M)) (k : Channel) → IsSorted channel_cmp es
      → find channel_cmp (map aged (filter stays_open es)) k ≡ aged_in (find channel_cmp es k)
  unfolding find
  find_aged [] k sorted = refl
  find_aged (e ∷ es) k sorted = by (is_last e.1.deadline) (is_at (channel_cmp k) e.0) refl refl (find_aged es k (sorted_tail channel_cmp e.0 (keys_of es) sorted))
    where
      by : (last here : Bool) → is_last e.1.deadline ≡ last → is_at (channel_cmp k) e.0 ≡ here
          → lookup (is_at (channel_cmp k)) (map aged (filter stays_open es)) ≡ aged_in (lookup (is_at (channel_cmp k)) es)
          → lookup (is_at (channel_cmp k)) (map aged (cond (not last) (e ∷ filter stays_open es) (filter stays_open es)))
          ≡ aged_in (cond here (Some e.1) (lookup (is_at (channel_cmp k)) es))
      by true true is at again =
          again
          ∙ ap aged_in (lookup-none (is_at (channel_cmp k)) es
          (none_past_head (eq_by_cmp_equiv channel_total) k e es (IsDistinct-from_sorted channel_cmp (keys_of (e ∷ es)) sorted) at))
          ∙ ap (λ (b : Bool). cond b None (Some (record e.1 { deadline = one_less e.1.deadline }))) (sym is)
      by true false is at again = again
      by false true is at again =
          ap (λ (b : Bool). cond b (Some (record e.1 { deadline = one_less e.1.deadline })) (lookup (is_at (channel_cmp k)) (map aged (filter stays_open es)))) at
          ∙ ap (λ (b : Bool). cond b None (Some (record e.1 { deadline = one_less e.1.deadline }))) (sym is)
      by false false is at again =
          ap (λ (b : Bool). cond b (Some (record e.1 { deadline = one_less e.1.deadline })) (lookup (is_at (channel_cmp k)) (map aged (filter stays_open es)))) at
          ∙ again

  pub opened_after_tick : (r : Caller M) (k : Channel) → IsSorted channel_cmp r.opened → opened_at (after_tick r) k ≡ aged_in (opened_at r k)
  unfolding opened_at after_tick
  opened_after_tick r k sorted = find_aged r.opened k sorted

  all_aged : (P : Channel → Type 0) (es : List (Channel × Opened M)) → AllByRecursion P (keys_of es)
      → AllByRecursion P (keys_of (map aged (filter stays_open es)))
  all_aged P [] all = tt
  all_aged P (e ∷ es) all = by (is_last e.1.deadline) (all_aged P es all.1)
    where
      by : (last : Bool) → AllByRecursion P (keys_of (map aged (filter stays_open es)))
          → AllByRecursion P (keys_of (map aged (cond (not last) (e ∷ filter stays_open es) (filter stays_open es))))
      by true rest = rest
      by false rest = (all.0, rest)

  sorted_aged : (es : List (Channel × Opened M)) → IsSorted channel_cmp es → IsSorted channel_cmp (map aged (filter stays_open es))
  unfolding IsStrictlySortedBy
  sorted_aged [] sorted = sorted
  sorted_aged (e ∷ es) sorted = by (is_last e.1.deadline) (sorted_aged es sorted.1)
    where
      by : (last : Bool) → IsStrictlySortedBy channel_cmp (keys_of (map aged (filter stays_open es)))
          → IsStrictlySortedBy channel_cmp (keys_of (map aged (cond (not last) (e ∷ filter stays_open es) (filter stays_open es))))
      by true rest = rest
      by false rest = (all_aged (λ y. channel_cmp e.0 y ≡ Less) es sorted.0, rest)

  pub sorted_after_tick : (r : Caller M) → IsSorted channel_cmp r.opened → IsSorted channel_cmp (after_tick r).opened
  unfolding after_tick
  sorted_after_tick r sorted = sorted_aged r.opened sorted

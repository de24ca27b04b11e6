-- The tallies, and the flags, stay those of the tunnels.
use Rattle.std.proofs.Common.{◌≡◌, ◌<◌, ℕ, ◌+◌, Bool, true, false, cond, not, List, [], ◌∷◌, ◌++◌, length, Option, Some, None, refl, sym, ap, ◌∙◌, subst, arith, true≢false}
use Rattle.std.specs.Prelude.{is_some, unwrap_or}
use Rattle.std.specs.Option.{option_map}
use Rattle.std.specs.declared.cmp.Ordering.{Ordering}
use Rattle.std.specs.declared.cmp.Ordering.TheVariants.{Less, Equal, Greater}
use Rattle.std.specs.Ordering.{match_ordering, is_eq, is_lt}
use Rattle.std.specs.Cmp.{IsTotalOrder, tied_itself}
use Rattle.std.specs.List.{filter}
use Rattle.std.specs.List.Sorted.{IsStrictlySortedBy}
use Rattle.std.specs.Map.{lookup, keys_of}
use Rattle.std.proofs.lemmas.Map.{lookup-none}
use Rattle.std.proofs.lemmas.Map.Entries.{none_below_head}
use Rattle.std.specs.BTreeMap.{is_at, insert_entry}
use Rattle.std.proofs.lemmas.Map.Keys.{sorted_from_all_adjacent, sorted_tail}
use Rattle.gnb_types.specs.declared.names.NodeId.TheVariants.{Core}
use Rattle.gnb_types.specs.declared.keys.TunnelEnd.{TunnelEnd}
use Rattle.gnb_types.specs.Orders.{tunnel_cmp}
use Rattle.gnb_types.proofs.OrderLemmas.{tunnel_total}
use Rattle.tables.specs.Tables.{find, put, without, at, entry_after, first_entry, IsSorted, map_values}
use Rattle.tables.proofs.TableLaws.{sorted-put, sorted-without, put-mapped, without-mapped, find-mapped}
use Rattle.transport_defs.specs.declared.Item.{Item}
use Rattle.links.specs.link_tallies.Tallies.{Tallies, entered, left, all_left}
use Rattle.links.specs.link_tallies.Tied.{AreTallies}
use Rattle.links.proofs.link_tallies.TiedLemmas.{StandThere, stand_found, stand_none, tallies-put, tallies-take, tallies-same, tallies-emptied, tallies-without, tallies-none, tallies-undone}
use Rattle.links.proofs.links_bag.Entries.{sorted_none, without-put}
use Rattle.links.specs.Tunnels.{OpenTunnels, opened, place_in}
use Rattle.links.specs.inside.Kept.{keys, TunnelsAreKept}

-- ---- tables

-- to put back what stands there changes nothing
put-again : {X : Type 0} (es : List (TunnelEnd × X)) (k : TunnelEnd) (v : X) → IsSorted tunnel_cmp es → find tunnel_cmp es k ≡ Some v
    → put tunnel_cmp es k v ≡ es
unfolding find put
put-again [] k v sorted found = absurd cc
put-again {X = X} (e ∷ es) k v sorted found =
    by (tunnel_cmp k e.0) refl found (put-again es k v (sorted_tail tunnel_cmp e.0 (keys_of es) sorted))
  where
    by : (r : Ordering) → tunnel_cmp k e.0 ≡ r → lookup (is_at (tunnel_cmp k)) (e ∷ es) ≡ Some v
        → (lookup (is_at (tunnel_cmp k)) es ≡ Some v → insert_entry tunnel_cmp es k v ≡ es)
        → match_ordering r ((k, v) ∷ e ∷ es) ((e.0, v) ∷ es) (e ∷ insert_entry tunnel_cmp es k v) ≡ e ∷ es
    by Less is found rest =
        let none = lookup-none (is_at (tunnel_cmp k)) (e ∷ es) (none_below_head tunnel_total k e es sorted is) in
        absurd (true≢false (sym (ap is_some found) ∙ ap is_some none))
    by Equal is found rest =
        let here : Some e.1 ≡ Some v = sym (ap (λ (r : Ordering). cond (is_eq r) (Some e.1) (lookup (is_at (tunnel_cmp k)) es)) is) ∙ found in
        let same : e.1 ≡ v = cc in
        ap (λ (x : X). (e.0, x) ∷ es) (sym same)
    by Greater is found rest =
        let later : lookup (is_at (tunnel_cmp k)) es ≡ Some v =
        sym (ap (λ (r : Ordering). cond (is_eq r) (Some e.1) (lookup (is_at (tunnel_cmp k)) es)) is) ∙ found in
        ap (λ (m : List (TunnelEnd × X)). e ∷ m) (rest later)

module _ {X : Type 0} where
  keys-put : (m : List (TunnelEnd × X)) (k : TunnelEnd) (v : X) → keys (put tunnel_cmp m k v) ≡ put tunnel_cmp (keys m) k tt
  keys-put m k v = sym (put-mapped tunnel_cmp (λ (x : X). tt {0}) m k v)

  keys-without : (m : List (TunnelEnd × X)) (k : TunnelEnd) → keys (without tunnel_cmp m k) ≡ without tunnel_cmp (keys m) k
  keys-without m k = sym (without-mapped tunnel_cmp (λ (x : X). tt {0}) m k)

  find-keys : (m : List (TunnelEnd × X)) (k : TunnelEnd) → find tunnel_cmp (keys m) k ≡ option_map (λ x. tt {0}) (find tunnel_cmp m k)
  find-keys m k = find-mapped tunnel_cmp (λ (x : X). tt {0}) m k

  keys_of_keys : (m : List (TunnelEnd × X)) → keys_of (keys m) ≡ keys_of m
  unfolding map_values
  keys_of_keys [] = refl
  keys_of_keys (e ∷ es) = ap (λ (ks : List TunnelEnd). e.0 ∷ ks) (keys_of_keys es)

  -- another value at a key that has one
  keys-changed : (m : List (TunnelEnd × X)) (k : TunnelEnd) (v w : X) → IsSorted tunnel_cmp m → find tunnel_cmp m k ≡ Some v
      → keys (put tunnel_cmp m k w) ≡ keys m
  keys-changed m k v w sorted found =
      keys-put m k w
      ∙ put-again (keys m) k tt (subst (IsStrictlySortedBy tunnel_cmp) (sym (keys_of_keys m)) sorted)
      (find-keys m k ∙ ap (λ (r : Option X). option_map (λ x. tt {0}) r) found)

-- where the keys are the same, so are those at which nothing stands
mapped_none : {Y : Type 0} (r : Option Y) → option_map (λ y. tt {0}) r ≡ None → r ≡ None
mapped_none None e = refl
mapped_none (Some y) e = absurd cc

absent_too : {X Y : Type 0} (a : List (TunnelEnd × X)) (b : List (TunnelEnd × Y)) (k : TunnelEnd) → keys a ≡ keys b
    → find tunnel_cmp a k ≡ None → find tunnel_cmp b k ≡ None
absent_too {X = X} a b k same none =
    mapped_none (find tunnel_cmp b k)
    (sym (find-keys b k) ∙ ap (λ (m : List (TunnelEnd × Unit {0})). find tunnel_cmp m k) (sym same) ∙ find-keys a k
    ∙ ap (λ (r : Option X). option_map (λ x. tt {0}) r) none)

first_place : {X : Type 0} (m : List (TunnelEnd × X)) → place_in (first_entry (keys m)) ≡ place_in (first_entry m)
unfolding first_entry map_values
first_place [] = refl
first_place (e ∷ es) = refl

next_place : {X : Type 0} (m : List (TunnelEnd × X)) (k : TunnelEnd) → place_in (entry_after tunnel_cmp (keys m) k) ≡ place_in (entry_after tunnel_cmp m k)
unfolding entry_after map_values
next_place [] k = refl
next_place {X = X} (e ∷ es) k = by (is_lt (tunnel_cmp k e.0)) (next_place es k)
  where
    by : (b : Bool) → place_in (entry_after tunnel_cmp (keys es) k) ≡ place_in (entry_after tunnel_cmp es k)
        → place_in (cond b (Some (e.0, tt {0})) (entry_after tunnel_cmp (keys es) k)) ≡ place_in (cond b (Some e) (entry_after tunnel_cmp es k))
    by true rest = refl
    by false rest = rest

pub same_first : {X Y : Type 0} (a : List (TunnelEnd × X)) (b : List (TunnelEnd × Y)) → keys a ≡ keys b → place_in (first_entry b) ≡ place_in (first_entry a)
same_first a b same =
    sym (first_place b) ∙ ap (λ (m : List (TunnelEnd × Unit {0})). place_in (first_entry m)) (sym same) ∙ first_place a

pub same_next : {X Y : Type 0} (a : List (TunnelEnd × X)) (b : List (TunnelEnd × Y)) (k : TunnelEnd) → keys a ≡ keys b
    → place_in (entry_after tunnel_cmp b k) ≡ place_in (entry_after tunnel_cmp a k)
same_next a b k same =
    sym (next_place b k) ∙ ap (λ (m : List (TunnelEnd × Unit {0})). place_in (entry_after tunnel_cmp m k)) (sym same) ∙ next_place a k

module _ {L : Type 0} {queues : List (TunnelEnd × List (Item L))} {lossy : List (TunnelEnd × Bool)} {t : Tallies} (end : TunnelEnd)
    (kept : TunnelsAreKept queues lossy t) where
  pub kept-put : (items new : List (Item L)) (item : Item L) (after : Tallies) → find tunnel_cmp queues end ≡ Some items
      → new ≡ items ++ item ∷ [] → after ≡ entered t item.key item.count → TunnelsAreKept (put tunnel_cmp queues end new) lossy after
  kept-put items new item after found is now = record {
    sorted = sorted-put tunnel_total queues end new kept.sorted;
    flags_sorted = kept.flags_sorted;
    same_keys = keys-changed queues end items new kept.sorted found ∙ kept.same_keys;
    tied =
        subst (λ (m : Tallies). AreTallies (λ (items : List (Item L)). items) m (put tunnel_cmp queues end new)) (sym now)
        (tallies-put tunnel_total (λ (items : List (Item L)). items) queues end t new items item kept.sorted
        (stand_found tunnel_total (λ (items : List (Item L)). items) queues end items found) is kept.tied);
  }

  pub kept-undone : (items new : List (Item L)) (item : Item L) (middle after : Tallies) → find tunnel_cmp queues end ≡ Some items
      → new ≡ items → middle ≡ entered t item.key item.count → after ≡ left middle item.key item.count
      → TunnelsAreKept (put tunnel_cmp queues end new) lossy after
  kept-undone items new item middle after found is then now = record {
    sorted = sorted-put tunnel_total queues end new kept.sorted;
    flags_sorted = kept.flags_sorted;
    same_keys = keys-changed queues end items new kept.sorted found ∙ kept.same_keys;
    tied =
        subst (λ (m : Tallies). AreTallies (λ (items : List (Item L)). items) m (put tunnel_cmp queues end new))
        (sym (now ∙ ap (λ (m : Tallies). left m item.key item.count) then))
        (tallies-undone (λ (items : List (Item L)). items) t (put tunnel_cmp queues end new) item
        (tallies-same tunnel_total (λ (items : List (Item L)). items) queues end t new items kept.sorted
        (stand_found tunnel_total (λ (items : List (Item L)). items) queues end items found) is kept.tied));
  }

  pub kept-take : (items new : List (Item L)) (item : Item L) (after : Tallies) → find tunnel_cmp queues end ≡ Some items
      → items ≡ item ∷ new → after ≡ left t item.key item.count → TunnelsAreKept (put tunnel_cmp queues end new) lossy after
  kept-take items new item after found is now = record {
    sorted = sorted-put tunnel_total queues end new kept.sorted;
    flags_sorted = kept.flags_sorted;
    same_keys = keys-changed queues end items new kept.sorted found ∙ kept.same_keys;
    tied =
        subst (λ (m : Tallies). AreTallies (λ (items : List (Item L)). items) m (put tunnel_cmp queues end new)) (sym now)
        (tallies-take tunnel_total (λ (items : List (Item L)). items) queues end t new items item kept.sorted
        (stand_found tunnel_total (λ (items : List (Item L)). items) queues end items found) is kept.tied);
  }

module _ {L : Type 0} {queues : List (TunnelEnd × List (Item L))} {lossy : List (TunnelEnd × Bool)} {t : Tallies} (end : TunnelEnd)
    (kept : TunnelsAreKept queues lossy t) where
  -- the keys of both tables, where one more stands in both, or one fewer
  both-put : (items : List (Item L)) (flag : Bool) → keys (put tunnel_cmp queues end items) ≡ keys (put tunnel_cmp lossy end flag)
  both-put items flag =
      keys-put queues end items ∙ ap (λ (m : List (TunnelEnd × Unit {0})). put tunnel_cmp m end tt) kept.same_keys ∙ sym (keys-put lossy end flag)

  both-without : keys (without tunnel_cmp queues end) ≡ keys (without tunnel_cmp lossy end)
  both-without =
      keys-without queues end ∙ ap (λ (m : List (TunnelEnd × Unit {0})). without tunnel_cmp m end) kept.same_keys ∙ sym (keys-without lossy end)

  pub kept-made : (queues2 : List (TunnelEnd × List (Item L))) (lossy2 : List (TunnelEnd × Bool)) (new : List (Item L)) (flag : Bool)
      → queues2 ≡ put tunnel_cmp queues end new → lossy2 ≡ put tunnel_cmp lossy end flag
      → new ≡ [] → find tunnel_cmp queues end ≡ None → TunnelsAreKept queues2 lossy2 t
  kept-made queues2 lossy2 new flag is flags empty none =
      subst (λ (m : List (TunnelEnd × List (Item L))). TunnelsAreKept m lossy2 t) (sym is)
      (subst (λ (m : List (TunnelEnd × Bool)). TunnelsAreKept (put tunnel_cmp queues end new) m t) (sym flags) (record {
        sorted = sorted-put tunnel_total queues end new kept.sorted;
        flags_sorted = sorted-put tunnel_total lossy end flag kept.flags_sorted;
        same_keys = both-put new flag;
        tied =
            tallies-same tunnel_total (λ (items : List (Item L)). items) queues end t new [] kept.sorted
            (stand_none tunnel_total (λ (items : List (Item L)). items) queues end none) empty kept.tied;
      }))

  pub kept-made-again : (queues2 : List (TunnelEnd × List (Item L))) (lossy2 : List (TunnelEnd × Bool)) (items new : List (Item L)) (flag : Bool) (after : Tallies)
      → queues2 ≡ put tunnel_cmp queues end new → lossy2 ≡ put tunnel_cmp lossy end flag
      → new ≡ [] → find tunnel_cmp queues end ≡ Some items → after ≡ all_left t items → TunnelsAreKept queues2 lossy2 after
  kept-made-again queues2 lossy2 items new flag after is flags empty found now =
      subst (λ (m : List (TunnelEnd × List (Item L))). TunnelsAreKept m lossy2 after) (sym is)
      (subst (λ (m : List (TunnelEnd × Bool)). TunnelsAreKept (put tunnel_cmp queues end new) m after) (sym flags) (record {
        sorted = sorted-put tunnel_total queues end new kept.sorted;
        flags_sorted = sorted-put tunnel_total lossy end flag kept.flags_sorted;
        same_keys = both-put new flag;
        tied =
            subst (λ (m : Tallies). AreTallies (λ (items : List (Item L)). items) m (put tunnel_cmp queues end new)) (sym now)
            (tallies-emptied tunnel_total (λ (items : List (Item L)). items) queues end t new items kept.sorted
            (stand_found tunnel_total (λ (items : List (Item L)). items) queues end items found) empty kept.tied);
      }))

  pub kept-closed : (queues2 : List (TunnelEnd × List (Item L))) (lossy2 : List (TunnelEnd × Bool)) (items : List (Item L)) (after : Tallies)
      → queues2 ≡ without tunnel_cmp queues end → lossy2 ≡ without tunnel_cmp lossy end
      → find tunnel_cmp queues end ≡ Some items → after ≡ all_left t items → TunnelsAreKept queues2 lossy2 after
  kept-closed queues2 lossy2 items after is flags found now =
      subst (λ (m : List (TunnelEnd × List (Item L))). TunnelsAreKept m lossy2 after) (sym is)
      (subst (λ (m : List (TunnelEnd × Bool)). TunnelsAreKept (without tunnel_cmp queues end) m after) (sym flags) (record {
        sorted = sorted-without tunnel_total queues end kept.sorted;
        flags_sorted = sorted-without tunnel_total lossy end kept.flags_sorted;
        same_keys = both-without;
        tied =
            subst (λ (m : Tallies). AreTallies (λ (items : List (Item L)). items) m (without tunnel_cmp queues end)) (sym now)
            (tallies-without tunnel_total (λ (items : List (Item L)). items) queues end t items kept.sorted
            (stand_found tunnel_total (λ (items : List (Item L)). items) queues end items found) kept.tied);
      }))

  pub kept-absent : (queues2 : List (TunnelEnd × List (Item L))) (lossy2 : List (TunnelEnd × Bool))
      → queues2 ≡ without tunnel_cmp queues end → lossy2 ≡ without tunnel_cmp lossy end
      → find tunnel_cmp queues end ≡ None → TunnelsAreKept queues2 lossy2 t
  unfolding all_left
  kept-absent queues2 lossy2 is flags none =
      subst (λ (m : List (TunnelEnd × List (Item L))). TunnelsAreKept m lossy2 t) (sym is)
      (subst (λ (m : List (TunnelEnd × Bool)). TunnelsAreKept (without tunnel_cmp queues end) m t) (sym flags) (record {
        sorted = sorted-without tunnel_total queues end kept.sorted;
        flags_sorted = sorted-without tunnel_total lossy end kept.flags_sorted;
        same_keys = both-without;
        tied =
            tallies-without tunnel_total (λ (items : List (Item L)). items) queues end t [] kept.sorted
            (stand_none tunnel_total (λ (items : List (Item L)). items) queues end none) kept.tied;
      }))

  pub kept-same : (queues2 : List (TunnelEnd × List (Item L))) (lossy2 : List (TunnelEnd × Bool)) → queues2 ≡ queues → lossy2 ≡ lossy
      → TunnelsAreKept queues2 lossy2 t
  kept-same queues2 lossy2 is flags =
      subst (λ (m : List (TunnelEnd × List (Item L))). TunnelsAreKept m lossy2 t) (sym is)
      (subst (λ (m : List (TunnelEnd × Bool)). TunnelsAreKept queues m t) (sym flags) kept)

  -- a tunnel that was open, or was not, is made
  pub kept-begun : (queues2 : List (TunnelEnd × List (Item L))) (lossy2 : List (TunnelEnd × Bool)) (before : Option (List (Item L)))
      (new : List (Item L)) (flag : Bool) → queues2 ≡ put tunnel_cmp queues end new → lossy2 ≡ put tunnel_cmp lossy end flag → new ≡ []
      → before ≡ None → before ≡ find tunnel_cmp queues end → TunnelsAreKept queues2 lossy2 t
  kept-begun queues2 lossy2 before new flag is flags empty none found =
      kept-made queues2 lossy2 new flag is flags empty (sym found ∙ none)

  -- a flag that was put is taken out again
  pub flag-undone : (flag : Bool) (lossy2 : List (TunnelEnd × Bool)) → find tunnel_cmp queues end ≡ None
      → lossy2 ≡ without tunnel_cmp (put tunnel_cmp lossy end flag) end → lossy2 ≡ lossy
  flag-undone flag lossy2 none is = is ∙ without-put tunnel_cmp tunnel_total lossy end flag (absent_too queues lossy end kept.same_keys none)

-- a tunnel that is open stays as it is
pub open-again : {L : Type 0} {queues : List (TunnelEnd × List (Item L))} {lossy : List (TunnelEnd × Bool)} {t : Tallies}
    (kept : TunnelsAreKept queues lossy t) (end : TunnelEnd) (flag : Bool) → is_some (find tunnel_cmp queues end) ≡ true
    → ◌≡◌ {A = OpenTunnels L} (record { tunnels = queues; lossy = lossy }) (opened (record { tunnels = queues; lossy = lossy }) end flag)
unfolding opened at
open-again {L = L} {queues = queues} {lossy = lossy} kept end flag there = by (find tunnel_cmp queues end) refl there
  where
    both : List (TunnelEnd × List (Item L)) → List (TunnelEnd × Bool) → OpenTunnels L
    both q l = record { tunnels = q; lossy = l }

    by : (o : Option (List (Item L))) → find tunnel_cmp queues end ≡ o → is_some o ≡ true
        → both queues lossy ≡ opened (both queues lossy) end flag
    by None is there = absurd cc
    by (Some items) is there =
        sym (ap (λ (o : Option (List (Item L))). both (put tunnel_cmp queues end (unwrap_or o [])) (cond (is_some o) lossy (put tunnel_cmp lossy end flag))) is
        ∙ ap (λ (q : List (TunnelEnd × List (Item L))). both q lossy) (put-again queues end items kept.sorted is))

pub kept-none : {L : Type 0} (queues : List (TunnelEnd × List (Item L))) (lossy : List (TunnelEnd × Bool)) (t : Tallies)
    → queues ≡ [] → lossy ≡ [] → t ≡ [] → TunnelsAreKept queues lossy t
unfolding map_values
kept-none {L = L} queues lossy t no_queue no_flag no_tally = record {
  sorted = sorted_none tunnel_total (record { node = Core; teid = 0 }) queues no_queue;
  flags_sorted = sorted_none tunnel_total (record { node = Core; teid = 0 }) lossy no_flag;
  same_keys = ap keys no_queue ∙ sym (ap keys no_flag);
  tied = tallies-none (λ (items : List (Item L)). items) t queues no_tally no_queue;
}

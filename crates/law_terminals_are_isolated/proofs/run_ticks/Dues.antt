-- Which requests of a terminal are due follows from its open requests, where these are in order.
use Rattle.std.proofs.Common.{◌≡◌, ℕ, ◌==◌, Bool, true, false, cond, ◌&&◌, T, List, [], ◌∷◌, ◌++◌, Option, Some, None, refl, sym, ap, ◌∙◌, subst, eqb-true}
use Rattle.std.specs.Prelude.{if◌then◌else◌}
use Rattle.std.specs.declared.cmp.Ordering.{Ordering}
use Rattle.std.specs.declared.cmp.Ordering.TheVariants.{Less, Equal}
use Rattle.std.specs.Ordering.{is_lt, eq_by_cmp}
use Rattle.std.specs.List.{AllByRecursion, flat_map}
use Rattle.std.specs.List.Sorted.{IsStrictlySortedBy}
use Rattle.std.specs.Map.{keys_of}
use Rattle.std.specs.FinMap.Entries.{find as seek, where_key, below_all, is_sorted, is_sorted-where_key, find-where_key, same_entries}
use Rattle.gnb_types.specs.declared.keys.Channel.{Channel}
use Rattle.gnb_types.specs.declared.names.NodeId.{NodeId}
use Rattle.gnb_types.specs.Orders.{channel_cmp}
use Rattle.gnb_types.proofs.OrderLemmas.{channel_total, channel_exact}
use Rattle.tables.specs.Tables.{find, IsSorted}
use Rattle.transaction_defs.specs.Callers.{Opened, Caller, due, due_of, is_last, repeated, Due, repeats, expires}
use Rattle.unit_defs.specs.Messages.{channel}
use Rattle.law_terminals_are_isolated.specs.tick_projections.Ticks.{due_ue, own_dues}

abbrev Entries : Type 0 → Type 0
Entries M = List (Channel × Opened M)

abbrev is_own : ℕ → Channel → Bool
is_own ue c = c.ue == ue

abbrev own : {M : Type 0} → ℕ → Entries M → Entries M
own ue es = where_key channel_cmp (is_own ue) es

equal : (ue : ℕ) (q x : Channel) → channel_cmp q x ≡ Equal → is_own ue x ≡ is_own ue q
equal ue q x e = ap (is_own ue) (sym (channel_exact q x e))

module _ {M : Type 0} (ue : ℕ) where
  -- ---- dues of the terminal are those of its requests

  dues_append : (xs ys : List (Due M)) → own_dues ue (xs ++ ys) ≡ own_dues ue xs ++ own_dues ue ys
  dues_append [] ys = refl
  dues_append (x ∷ xs) ys = by (due_ue x == ue) (dues_append xs ys)
    where
      by : (b : Bool) → own_dues ue (xs ++ ys) ≡ own_dues ue xs ++ own_dues ue ys
          → (if b then x ∷ own_dues ue (xs ++ ys) else own_dues ue (xs ++ ys)) ≡ (if b then x ∷ own_dues ue xs else own_dues ue xs) ++ own_dues ue ys
      by true again = ap (λ (ds : List (Due M)). x ∷ ds) again
      by false again = again

  one_due : (e : Channel × Opened M) (b : Bool) → (e.0.ue == ue) ≡ b → own_dues ue (due_of e) ≡ (if b then due_of e else [])
  one_due e b is = by (is_last e.1.deadline)
    where
      out : (b : Bool) (d : Due M) → (due_ue d == ue) ≡ b → (if due_ue d == ue then d ∷ [] else []) ≡ (if b then d ∷ [] else [])
      out b d at = ap (λ (c : Bool). if c then d ∷ [] else []) at

      repeated_due : (o : Option M) → own_dues ue (repeated e.0 o) ≡ (if b then repeated e.0 o else [])
      repeated_due None = none b
        where
          none : (c : Bool) → ◌≡◌ {A = List (Due M)} [] (if c then [] else [])
          none true = refl
          none false = refl
      repeated_due (Some m) = out b (repeats e.0 m) is

      by : (last : Bool) → own_dues ue (if last then expires e.0 ∷ [] else repeated e.0 e.1.request)
          ≡ (if b then (if last then expires e.0 ∷ [] else repeated e.0 e.1.request) else [])
      by true = out b (expires e.0) is
      by false = repeated_due e.1.request

  own_due : (es : Entries M) → own_dues ue (flat_map due_of es) ≡ flat_map due_of (own ue es)
  own_due [] = refl
  own_due (e ∷ es) = dues_append (due_of e) (flat_map due_of es) ∙ by (e.0.ue == ue) refl (own_due es)
    where
      by : (b : Bool) → (e.0.ue == ue) ≡ b → own_dues ue (flat_map due_of es) ≡ flat_map due_of (own ue es)
          → own_dues ue (due_of e) ++ own_dues ue (flat_map due_of es) ≡ flat_map due_of (cond b (e ∷ own ue es) (own ue es))
      by true is again = (λ i. one_due e true is i ++ again i)
      by false is again = (λ i. one_due e false is i ++ again i)

  -- ---- requests of the terminal, found alike, are the same list

  sought : (es : Entries M) (c : Channel) → seek channel_cmp c es ≡ find channel_cmp es c
  unfolding find
  sought [] c = refl
  sought (e ∷ es) c = ap (λ (o : Option (Opened M)). cond (eq_by_cmp channel_cmp c e.0) (Some e.1) o) (sought es c)

  below : (c : Channel) (es : Entries M) → AllByRecursion (λ y. channel_cmp c y ≡ Less) (keys_of es) → T (below_all channel_cmp c es)
  below c [] all = tt
  below c (e ∷ es) all = both (is_lt (channel_cmp c e.0)) (below_all channel_cmp c es) (less (channel_cmp c e.0) all.0) (below c es all.1)
    where
      less : (o : Ordering) → o ≡ Less → T (is_lt o)
      less o is = subst (λ (x : Ordering). T (is_lt x)) (sym is) tt

      both : (a b : Bool) → T a → T b → T (a && b)
      both true b p q = q
      both false b p q = p

  sorted : (es : Entries M) → IsSorted channel_cmp es → T (is_sorted channel_cmp es)
  unfolding IsStrictlySortedBy
  sorted [] h = tt
  sorted (e ∷ es) h = both (below_all channel_cmp e.0 es) (is_sorted channel_cmp es) (below e.0 es h.0) (sorted es h.1)
    where
      both : (a b : Bool) → T a → T b → T (a && b)
      both true b p q = q
      both false b p q = p

  found_own : (es fs : Entries M) → ((peer : NodeId) → find channel_cmp es (channel ue peer) ≡ find channel_cmp fs (channel ue peer)) → (q : Channel)
      → seek channel_cmp q (own ue es) ≡ seek channel_cmp q (own ue fs)
  found_own es fs same q =
      find-where_key channel_cmp (is_own ue) q (equal ue q) es ∙ by (is_own ue q) refl ∙ sym (find-where_key channel_cmp (is_own ue) q (equal ue q) fs)
    where
      by : (b : Bool) → is_own ue q ≡ b → cond b (seek channel_cmp q es) None ≡ cond b (seek channel_cmp q fs) None
      by false is = refl
      by true is =
          let here : q ≡ channel ue q.peer = λ i. record { peer = q.peer; ue = eqb-true q.ue ue is i } in
          sought es q ∙ subst (λ (c : Channel). find channel_cmp es c ≡ find channel_cmp fs c) (sym here) (same q.peer) ∙ sym (sought fs q)

  own_same : (es fs : Entries M) → IsSorted channel_cmp es → IsSorted channel_cmp fs
      → ((peer : NodeId) → find channel_cmp es (channel ue peer) ≡ find channel_cmp fs (channel ue peer)) → own ue es ≡ own ue fs
  own_same es fs s t same =
      same_entries channel_cmp channel_total channel_exact (own ue es) (own ue fs) (is_sorted-where_key channel_cmp (is_own ue) es (sorted es s))
      (is_sorted-where_key channel_cmp (is_own ue) fs (sorted fs t)) (found_own es fs same)

  pub dues_same : (r q : Caller M) → IsSorted channel_cmp r.opened → IsSorted channel_cmp q.opened
      → ((peer : NodeId) → find channel_cmp r.opened (channel ue peer) ≡ find channel_cmp q.opened (channel ue peer))
      → own_dues ue (due r) ≡ own_dues ue (due q)
  unfolding due
  dues_same r q s t same = own_due r.opened ∙ ap (λ (es : Entries M). flat_map due_of es) (own_same r.opened q.opened s t same) ∙ sym (own_due q.opened)

-- A tick: what is open is aged, and each open request that didn't expire is put again.
use Rattle.std.proofs.Common.{◌≡◌, ℕ, Bool, true, false, ◌&&◌, ◌||◌, cond, List, [], ◌∷◌, ◌++◌, Option, Some, None, refl, sym, ap, ◌∙◌, subst}
use Rattle.std.specs.Prelude.{if◌then◌else◌}
use Rattle.std.specs.List.{flat_map, AllByRecursion}
use Rattle.std.specs.Map.{lookup, keys_of}
use Rattle.std.specs.BTreeMap.{is_at}
use Rattle.std.specs.Ordering.{is_eq, ordering_reverse}
use Rattle.std.specs.Cmp.{tied_itself}
use Rattle.std.specs.declared.cmp.Ordering.{Ordering}
use Rattle.std.specs.declared.cmp.Ordering.TheVariants.{Less, Equal, Greater}
use Rattle.std.proofs.lemmas.List.Elements.{Contains-append_left}
use Rattle.std.proofs.lemmas.Map.Keys.{sorted_head, sorted_tail}
use Rattle.gnb_types.specs.declared.names.NodeId.{NodeId}
use Rattle.gnb_types.specs.declared.keys.Channel.{Channel}
use Rattle.gnb_types.specs.Orders.{channel_cmp}
use Rattle.gnb_types.proofs.OrderLemmas.{channel_total}
use Rattle.tables.specs.Tables.{find, IsSorted}
use Rattle.transaction_defs.specs.Callers.{Opened, opened_at, after_tick, Due, repeats as due_again, expires, due, due_of, repeated, is_last}
use Rattle.unit_defs.specs.Ways.{Output, control}
use Rattle.unit_defs.specs.Transactions.{Transactions}
use Rattle.law_requests_act_once.specs.channel.Replies.{Talk}
use Rattle.law_requests_act_once.specs.channel.Ends.{Sent, asked, Put, same_node}
use Rattle.law_requests_act_once.specs.channel.Moves.{Move, ages, repeats, Net, asked_by, sent_by, expires_now, after_move, after}
use Rattle.law_requests_act_once.proofs.channel.Keys.{node_same}
use Rattle.law_requests_act_once.proofs.channel.Nets.{Good}
use Rattle.law_requests_act_once.specs.channel_rows.IsPlayed.{orders_of, Plays, AreTickless, NoneDue, NoneExpired}
use Rattle.law_requests_act_once.proofs.channel_rows.Tickless.{none_then}
use Rattle.law_requests_act_once.proofs.channel_rows.Plays.{plays_none, plays_one, plays_then}
use Rattle.law_requests_act_once.proofs.channel_rows.Requests.{sent_both}

-- ---- in a table in key order each entry is found

abbrev pub AreFound : {X : Type 0} → List (Channel × X) → List (Channel × X) → Type 0
AreFound whole es = AllByRecursion (λ e. find channel_cmp whole e.0 ≡ Some e.1) es

not_before : (a b : Channel) → channel_cmp a b ≡ Less → is_at (channel_cmp b) a ≡ false
not_before a b less = by (channel_cmp b a) (sym less ∙ channel_total.antisymm a b)
  where
    by : (r : Ordering) → Less ≡ ordering_reverse r → is_eq r ≡ false
    by Less e = absurd cc
    by Equal e = absurd cc
    by Greater e = refl

-- what is put again
abbrev pub moves_due : {M C : Type 0} → List (Due M) → List (Move M C)
moves_due [] = []
moves_due (due_again c x ∷ ds) = repeats c x ∷ moves_due ds
moves_due (expires c ∷ ds) = moves_due ds

module _ {X : Type 0} where
  found_past : (e : Channel × X) (es fs : List (Channel × X)) → AllByRecursion (λ y. channel_cmp e.0 y ≡ Less) (keys_of fs) → AreFound es fs → AreFound (e ∷ es) fs
  unfolding find
  found_past e es [] below found = tt
  found_past e es (f ∷ fs) below found = (
    ap (λ (b : Bool). cond b (Some e.1) (lookup (is_at (channel_cmp f.0)) es)) (not_before e.0 f.0 below.0) ∙ found.0,
    found_past e es fs below.1 found.1,
  )

  pub all_found : (es : List (Channel × X)) → IsSorted channel_cmp es → AreFound es es
  unfolding find
  all_found [] sorted = tt
  all_found (e ∷ es) sorted = (
    ap (λ (r : Ordering). cond (is_eq r) (Some e.1) (lookup (is_at (channel_cmp e.0)) es)) (tied_itself channel_total e.0),
    found_past e es es (sorted_head channel_cmp e.0 (keys_of es) sorted) (all_found es (sorted_tail channel_cmp e.0 (keys_of es) sorted)),
  )

pub due_tickless : {M : Type 0} (C : Type 0) (ds : List (Due M)) → AreTickless {M = M} {C = C} (moves_due ds)
due_tickless C [] = tt
due_tickless C (due_again c x ∷ ds) = (tt, due_tickless C ds)
due_tickless C (expires c ∷ ds) = due_tickless C ds

module _ {M C P : Type 0} (talk : Talk M C P) (n : NodeId) where
  -- what is due was put before
  abbrev pub WasDue : List (Sent M) → Due M → Type 0
  WasDue bag (due_again c x) = (i : ℕ) × Put talk bag (asked_by n c) (asked i x)
  WasDue bag (expires c) = Unit {0}

  abbrev pub AllDue : List (Sent M) → List (Due M) → Type 0
  AllDue bag ds = AllByRecursion (WasDue bag) ds

  one_due : (net : Net M C) → Good talk net → (c : Channel) (o : Opened M) → opened_at (net.nodes n).caller c ≡ Some o → (last : Bool) (q : Option M)
      → o.request ≡ q → (ds : List (Due M)) → AllDue net.bag ds → AllDue net.bag ((if last then expires c ∷ [] else repeated c q) ++ ds)
  one_due net good c o is true q asks ds rest = (tt, rest)
  one_due net good c o is false None asks ds rest = rest
  one_due net good c o is false (Some x) asks ds rest =
      let w = (good.channels (asked_by n c)).opened o is in
      let request_is : o.request ≡ Some w.1.0 = w.1.1 in
      let same : w.1.0 ≡ x = cc in
      ((o.instance, subst (λ (y : M). Put talk net.bag (asked_by n c) (asked o.instance y)) same w.1.2), rest)

  due_found : (net : Net M C) → Good talk net → (es : List (Channel × Opened M)) → AreFound (net.nodes n).caller.opened es → AllDue net.bag (flat_map due_of es)
  unfolding opened_at
  due_found net good [] found = tt
  due_found net good (e ∷ es) found =
      one_due net good e.0 e.1 found.0 (is_last e.1.deadline) e.1.request refl (flat_map due_of es) (due_found net good es found.1)

  pub all_due : (net : Net M C) → Good talk net → AllDue net.bag (due (net.nodes n).caller)
  unfolding due
  all_due net good = due_found net good (net.nodes n).caller.opened (all_found (net.nodes n).caller.opened (good.sorted n))

  -- more was put meanwhile
  pub still_due : (bag out now : List (Sent M)) → now ≡ bag ++ out → (ds : List (Due M)) → AllDue bag ds → AllDue now ds
  still_due bag out now is [] all = tt
  still_due bag out now is (due_again c x ∷ ds) all = (
    (
      all.0.0,
      subst (λ (b : List (Sent M)). Put talk b (asked_by n c) (asked all.0.0 x)) (sym is)
          (all.0.1.0, Contains-append_left bag out (record { from = n; to = c.peer; ue = all.0.1.0; message = x }) all.0.1.1, all.0.1.2),
    ),
    still_due bag out now is ds all.1,
  )
  still_due bag out now is (expires c ∷ ds) all = (tt, still_due bag out now is ds all.1)

  -- where nothing expires at this tick, nothing is left expired
  aged_none : (net : Net M C) → NoneExpired talk net n → NoneDue (net.nodes n) → NoneExpired talk (after_move talk net n ages) n
  aged_none net none due c = by (opened_at (net.nodes n).caller c) refl
    where
      by : (o : Option (Opened M)) → opened_at (net.nodes n).caller c ≡ o → ((same_node n n && expires_now o) || net.expired (asked_by n c)) ≡ false
      by None is = λ i. (node_same n i && false) || none c i
      by (Some o) is = λ i. (node_same n i && due c o is i) || none c i

  pub tick_none : (net : Net M C) → NoneExpired talk net n → NoneDue (net.nodes n) → (ds : List (Due M))
      → NoneExpired talk (after talk net (orders_of talk n (ages ∷ moves_due ds))) n
  tick_none net none due ds = none_then talk n (after_move talk net n ages) (moves_due ds) (due_tickless C ds) (aged_none net none due)

  abbrev pub ticked : Transactions M C → Transactions M C
  ticked t = record t { caller = after_tick t.caller }

  pub ages_plays : (net : Net M C) → Plays talk net n (ticked (net.nodes n)) [] (ages ∷ [])
  ages_plays net = plays_one talk net n ages tt [] (ticked (net.nodes n)) refl

  module _ (D : Due M → List (Output M P))
      (again : (c : Channel) (x : M) → sent_by n (D (due_again c x)) ≡ record { from = n; to = c.peer; ue = c.ue; message = x } ∷ [])
      (none : (c : Channel) → sent_by n (D (expires c)) ≡ []) where
    abbrev sent_due : List (Due M) → List (Sent M)
    sent_due ds = sent_by n (flat_map D ds)

    pub dues_play : (ds : List (Due M)) (net : Net M C) → AllDue net.bag ds → Plays talk net n (net.nodes n) (sent_due ds) (moves_due ds)
    dues_play [] net all = plays_none talk net n
    dues_play (due_again c x ∷ ds) net all =
        let first = plays_one talk net n (repeats c x) all.0 (control c.peer c.ue x ∷ []) (net.nodes n) refl in
        subst (λ (s : List (Sent M)). Plays talk net n (net.nodes n) s (repeats c x ∷ moves_due ds))
        (sym (sent_both n (D (due_again c x)) (flat_map D ds) ∙ ap (λ (s : List (Sent M)). s ++ sent_due ds) (again c x)))
        (plays_then talk net n (net.nodes n) (net.nodes n) (record { from = n; to = c.peer; ue = c.ue; message = x } ∷ []) (sent_due ds) (repeats c x ∷ []) (moves_due ds) first
        (subst (λ (t : Transactions M C). Plays talk (after talk net (orders_of talk n (repeats c x ∷ []))) n t (sent_due ds) (moves_due ds)) first.node
        (dues_play ds (after talk net (orders_of talk n (repeats c x ∷ [])))
        (still_due net.bag (record { from = n; to = c.peer; ue = c.ue; message = x } ∷ []) (after talk net (orders_of talk n (repeats c x ∷ []))).bag first.bag ds all.1))))
    dues_play (expires c ∷ ds) net all =
        subst (λ (s : List (Sent M)). Plays talk net n (net.nodes n) s (moves_due ds))
        (sym (sent_both n (D (expires c)) (flat_map D ds) ∙ ap (λ (s : List (Sent M)). s ++ sent_due ds) (none c))) (dues_play ds net all.1)

    pub tick_plays : (net : Net M C) → Good talk net
        → Plays talk net n (ticked (net.nodes n)) (sent_due (due (net.nodes n).caller)) (ages ∷ moves_due (due (net.nodes n).caller))
    tick_plays net good =
        plays_then talk net n (ticked (net.nodes n)) (ticked (net.nodes n)) [] (sent_due (due (net.nodes n).caller))
        (ages ∷ []) (moves_due (due (net.nodes n).caller)) (ages_plays net)
        (subst (λ (t : Transactions M C). Plays talk (after talk net (orders_of talk n (ages ∷ []))) n t (sent_due (due (net.nodes n).caller))
        (moves_due (due (net.nodes n).caller))) (ages_plays net).node
        (dues_play (due (net.nodes n).caller) (after talk net (orders_of talk n (ages ∷ [])))
        (still_due net.bag [] (after talk net (orders_of talk n (ages ∷ []))).bag (ages_plays net).bag (due (net.nodes n).caller) (all_due net good))))

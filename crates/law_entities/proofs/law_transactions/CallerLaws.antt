-- An initiator over a list of steps: no reply is taken twice.
use Rattle.std.proofs.Common.{◌⊎◌, inl, inr, ◌==◌, eqb-true, ◌≡◌, ℕ, ◌+◌, ◌≤◌, Bool, true, false, cond, not, ◌&&◌, List, [], ◌∷◌, ◌++◌, Option, Some, None, refl, sym, ap, ◌∙◌, subst, true≢false, arith}
use Rattle.std.specs.Prelude.{map, is_some}
use Rattle.std.specs.declared.cmp.Ordering.{Ordering}
use Rattle.std.specs.declared.cmp.Ordering.TheVariants.{Less, Equal, Greater}
use Rattle.std.specs.Ordering.{is_eq, match_ordering}
use Rattle.std.specs.Cmp.{Equal-is, tied_itself}
use Rattle.std.specs.List.{filter, AllByRecursion}
use Rattle.std.specs.Map.{lookup}
use Rattle.std.specs.BTreeMap.{is_at, insert_entry}
use Rattle.gnb_types.specs.declared.keys.Channel.{Channel}
use Rattle.gnb_types.specs.Orders.{channel_cmp}
use Rattle.gnb_types.proofs.OrderLemmas.{channel_total, channel_exact}
use Rattle.tables.specs.Tables.{find, put, without, at}
use Rattle.tables.proofs.TableLaws.{at-put}
use Rattle.transaction_defs.specs.Callers.{last_instance, Caller, Opened, no_requests, opened_at, spent, begun_with, begin_after, begin, with_request, keep_request, has_instance, is_awaited, close, is_last, aged, after_tick}
use Rattle.transaction_defs.specs.Applied.{Request, is_same}
use Rattle.transaction_defs.specs.Taken.{Step, begins, keeps_request, replies, closes, ticks, begun_or, after_step, taken_by, taken_replies, times}

same_channel : (a b : Channel) → is_same a b ≡ true → a ≡ b
same_channel a b same = channel_exact a b ((Equal-is (channel_cmp a b)).0 same)

same_itself : (c : Channel) → is_same c c ≡ true
same_itself c = ap is_eq (tied_itself channel_total c)

-- ---- how often a reply is in a list

times-append : (xs ys : List Request) (c : Channel) (i : ℕ) → times (xs ++ ys) c i ≡ times xs c i + times ys c i
unfolding times
times-append [] ys c i = omega arith
times-append (x ∷ xs) ys c i = let rest = times-append xs ys c i in omega arith

-- by whether this is the reply to the instance i of the channel c
one_reply : (P : ℕ → Type 0) (d c : Channel) (j i : ℕ) → P 0 → (d ≡ c → j ≡ i → P 1) → P (times ((d, j) ∷ []) c i)
unfolding times
one_reply P d c j i none one = by (is_same c d) (j == i) refl refl
  where
    by : (a b : Bool) → is_same c d ≡ a → (j == i) ≡ b → P (cond (a && b) 1 0 + 0)
    by true true same is = one (sym (same_channel c d same)) (eqb-true j i is)
    by true false same is = none
    by false b same is = none

-- ---- facts on the channel and the instance of each open request

module _ {M : Type 0} where
  abbrev Each : (Channel → ℕ → Type 0) → List (Channel × Opened M) → Type 0
  Each Q es = AllByRecursion (λ e. Q e.0 e.1.instance) es

  each_weaker : (P Q : Channel → ℕ → Type 0) → ((c : Channel) (i : ℕ) → P c i → Q c i) → (es : List (Channel × Opened M)) → Each P es
      → Each Q es
  each_weaker P Q weaker [] each = tt
  each_weaker P Q weaker (e ∷ es) each = (weaker e.0 e.1.instance each.0, each_weaker P Q weaker es each.1)

  each_filtered : (Q : Channel → ℕ → Type 0) (p : Channel × Opened M → Bool) (es : List (Channel × Opened M)) → Each Q es
      → Each Q (filter p es)
  each_filtered Q p [] each = tt
  each_filtered Q p (e ∷ es) each = by (p e) (each_filtered Q p es each.1)
    where
      by : (b : Bool) → Each Q (filter p es) → Each Q (cond b (e ∷ filter p es) (filter p es))
      by true rest = (each.0, rest)
      by false rest = rest

  each_aged : (Q : Channel → ℕ → Type 0) (es : List (Channel × Opened M)) → Each Q es → Each Q (map aged es)
  each_aged Q [] each = tt
  each_aged Q (e ∷ es) each = (each.0, each_aged Q es each.1)

  each_put : (Q : Channel → ℕ → Type 0) (es : List (Channel × Opened M)) (c : Channel) (o : Opened M) → Each Q es → Q c o.instance
      → Each Q (put channel_cmp es c o)
  unfolding put
  each_put Q [] c o each here = (here, tt)
  each_put Q (e ∷ es) c o each here = by (channel_cmp c e.0) refl (each_put Q es c o each.1 here)
    where
      by : (r : Ordering) → channel_cmp c e.0 ≡ r → Each Q (insert_entry channel_cmp es c o)
          → Each Q (match_ordering r ((c, o) ∷ e ∷ es) ((e.0, o) ∷ es) (e ∷ insert_entry channel_cmp es c o))
      by Less is rest = (here, each)
      by Equal is rest = (subst (λ (d : Channel). Q d o.instance) (channel_exact c e.0 is) here, each.1)
      by Greater is rest = (each.0, rest)

  -- what is found is one of them
  each_found : (Q : Channel → ℕ → Type 0) (es : List (Channel × Opened M)) (c : Channel) (o : Opened M) → Each Q es
      → find channel_cmp es c ≡ Some o → Q c o.instance
  unfolding find
  each_found Q [] c o each found = absurd (true≢false (sym (ap is_some found)))
  each_found Q (e ∷ es) c o each found = by (is_at (channel_cmp c) e.0) refl found (each_found Q es c o each.1)
    where
      by : (b : Bool) → is_at (channel_cmp c) e.0 ≡ b → cond b (Some e.1) (lookup (is_at (channel_cmp c)) es) ≡ Some o
          → (lookup (is_at (channel_cmp c)) es ≡ Some o → Q c o.instance) → Q c o.instance
      by true is at_head again =
          let value : e.1 ≡ o = cc in
          subst (λ (d : Channel). Q d o.instance) (sym (same_channel c e.0 is))
          (subst (λ (x : Opened M). Q e.0 x.instance) value each.0)
      by false is later again = again later

  -- ---- what holds of each request that is open

  -- its instance isn't above the last one of its channel
  abbrev IsWithin : Caller M → Type 0
  IsWithin r = Each (λ c i. i ≤ at channel_cmp 0 r.last c) r.opened

  -- the instance was given before, and no request with it is open
  abbrev IsPast : Channel → ℕ → Caller M → Type 0
  IsPast c i r = (i ≤ at channel_cmp 0 r.last c) × Each (λ d j. is_same c d ≡ true → j ≡ i → ⊥) r.opened

  -- ---- a request is begun

  abbrev begun_on : Caller M → Channel → Option ℕ → ℕ → Caller M
  begun_on r c deadline instance = record {
    last = put channel_cmp r.last c instance;
    opened = put channel_cmp r.opened c (record { instance = instance; deadline = deadline; request = None });
  }

  begun_cases : (P : Caller M → Type 0) (r : Caller M) (c : Channel) (deadline : Option ℕ) → P r
      → P (begun_on r c deadline (at channel_cmp 0 r.last c + 1)) → P (begun_or r (begin r c deadline))
  unfolding begin
  begun_cases P r c deadline old new = by (opened_at r c)
    where
      by : (x : Option (Opened M)) → P (begun_or r (begin_after r c deadline x (at channel_cmp 0 r.last c)))
      by (Some o) = old
      by None = two (at channel_cmp 0 r.last c == last_instance)
        where
          two : (b : Bool) → P (begun_or r (cond b spent (begun_with r c deadline (at channel_cmp 0 r.last c + 1))))
          two true = old
          two false = new

  rises : (r : Caller M) (c d : Channel) (i : ℕ) → i ≤ at channel_cmp 0 r.last d
      → i ≤ at channel_cmp 0 (put channel_cmp r.last c (at channel_cmp 0 r.last c + 1)) d
  rises r c d i below =
      subst (λ (n : ℕ). i ≤ n) (sym (at-put channel_total 0 r.last c (at channel_cmp 0 r.last c + 1) d)) (by (is_same d c) refl)
    where
      by : (b : Bool) → is_same d c ≡ b → i ≤ cond b (at channel_cmp 0 r.last c + 1) (at channel_cmp 0 r.last d)
      by true is =
          let same : at channel_cmp 0 r.last d ≡ at channel_cmp 0 r.last c = ap (at channel_cmp 0 r.last) (same_channel d c is) in
          omega arith
      by false is = below

  begun_within : (r : Caller M) (c : Channel) (deadline : Option ℕ) → IsWithin r
      → IsWithin (begun_on r c deadline (at channel_cmp 0 r.last c + 1))
  begun_within r c deadline within =
      let next : List (Channel × ℕ) = put channel_cmp r.last c (at channel_cmp 0 r.last c + 1) in
      let here : at channel_cmp 0 next c ≡ at channel_cmp 0 r.last c + 1 =
      at-put channel_total 0 r.last c (at channel_cmp 0 r.last c + 1) c
      ∙ ap (λ (b : Bool). cond b (at channel_cmp 0 r.last c + 1) (at channel_cmp 0 r.last c)) (same_itself c) in
      each_put (λ d i. i ≤ at channel_cmp 0 next d) r.opened c _
      (each_weaker (λ d i. i ≤ at channel_cmp 0 r.last d) (λ d i. i ≤ at channel_cmp 0 next d) (rises r c) r.opened within) (omega arith)

  begun_past : (r : Caller M) (c : Channel) (deadline : Option ℕ) (d : Channel) (i : ℕ) → IsPast d i r
      → IsPast d i (begun_on r c deadline (at channel_cmp 0 r.last c + 1))
  begun_past r c deadline d i past = (
    rises r c d i past.0,
    each_put (λ e j. is_same d e ≡ true → j ≡ i → ⊥) r.opened c _ past.1
        (λ is same.
        let one : at channel_cmp 0 r.last d ≡ at channel_cmp 0 r.last c = ap (at channel_cmp 0 r.last) (same_channel d c is) in
        let low : i ≤ at channel_cmp 0 r.last d = past.0 in
        absurd (omega arith)),
  )

  -- ---- the other steps

  each_keep : (Q : Channel → ℕ → Type 0) (r : Caller M) (c : Channel) (request : M) (x : Option (Opened M)) → opened_at r c ≡ x
      → Each Q r.opened
      → Each Q (with_request r c request x).opened
  unfolding opened_at
  each_keep Q r c request None is each = each
  each_keep Q r c request (Some o) is each = each_put Q r.opened c _ each (each_found Q r.opened c o each is)

  each_close : (Q : Channel → ℕ → Type 0) (r : Caller M) (c : Channel) → Each Q r.opened → Each Q (close r c).opened
  unfolding close without
  each_close Q r c each = each_filtered Q (λ e. not (is_at (channel_cmp c) e.0)) r.opened each

  each_tick : (Q : Channel → ℕ → Type 0) (r : Caller M) → Each Q r.opened → Each Q (after_tick r).opened
  unfolding after_tick
  each_tick Q r each =
      each_aged Q (filter (λ e. not (is_last e.1.deadline)) r.opened) (each_filtered Q (λ e. not (is_last e.1.deadline)) r.opened each)

  step_within : (r : Caller M) (s : Step M) → IsWithin r → IsWithin (after_step r s)
  unfolding after_step close keep_request after_tick
  step_within r (begins c deadline) within = begun_cases IsWithin r c deadline within (begun_within r c deadline within)
  step_within r (keeps_request c request) within = by (opened_at r c) refl
    where
      by : (x : Option (Opened M)) → opened_at r c ≡ x → IsWithin (with_request r c request x)
      by None is = within
      by (Some o) is = each_keep (λ d i. i ≤ at channel_cmp 0 r.last d) r c request (Some o) is within
  step_within r (replies c i) within = by (is_awaited r c i)
    where
      by : (b : Bool) → IsWithin (cond b (close r c) r)
      by true = each_close (λ d j. j ≤ at channel_cmp 0 r.last d) r c within
      by false = within
  step_within r (closes c) within = each_close (λ d j. j ≤ at channel_cmp 0 r.last d) r c within
  step_within r ticks within = each_tick (λ d j. j ≤ at channel_cmp 0 r.last d) r within

  step_past : (r : Caller M) (s : Step M) (c : Channel) (i : ℕ) → IsPast c i r → IsPast c i (after_step r s)
  unfolding after_step close keep_request after_tick
  step_past r (begins d deadline) c i past = begun_cases (IsPast c i) r d deadline past (begun_past r d deadline c i past)
  step_past r (keeps_request d request) c i past = by (opened_at r d) refl
    where
      by : (x : Option (Opened M)) → opened_at r d ≡ x → IsPast c i (with_request r d request x)
      by None is = past
      by (Some o) is = (past.0, each_keep (λ e j. is_same c e ≡ true → j ≡ i → ⊥) r d request (Some o) is past.1)
  step_past r (replies d j) c i past = by (is_awaited r d j)
    where
      by : (b : Bool) → IsPast c i (cond b (close r d) r)
      by true = (past.0, each_close (λ e k. is_same c e ≡ true → k ≡ i → ⊥) r d past.1)
      by false = past
  step_past r (closes d) c i past = (past.0, each_close (λ e k. is_same c e ≡ true → k ≡ i → ⊥) r d past.1)
  step_past r ticks c i past = (past.0, each_tick (λ e k. is_same c e ≡ true → k ≡ i → ⊥) r past.1)

  -- ---- what is taken

  awaited_open : (r : Caller M) (c : Channel) (i : ℕ) → is_awaited r c i ≡ true
      → (o : Opened M) × (find channel_cmp r.opened c ≡ Some o) × (o.instance ≡ i)
  unfolding is_awaited opened_at
  awaited_open r c i is = by (find channel_cmp r.opened c) refl is
    where
      by : (x : Option (Opened M)) → find channel_cmp r.opened c ≡ x → has_instance x i ≡ true
          → (o : Opened M) × (find channel_cmp r.opened c ≡ Some o) × (o.instance ≡ i)
      by None found none = absurd (true≢false (sym none))
      by (Some o) found has = (o, found, eqb-true o.instance i has)

  gone : (c : Channel) (i : ℕ) (es : List (Channel × Opened M)) → Each (λ d k. is_same c d ≡ true → k ≡ i → ⊥) (without channel_cmp es c)
  unfolding without
  gone c i [] = tt
  gone c i (e ∷ es) = by (is_at (channel_cmp c) e.0) refl (gone c i es)
    where
      by : (b : Bool) → is_at (channel_cmp c) e.0 ≡ b
          → Each (λ d k. is_same c d ≡ true → k ≡ i → ⊥) (filter (λ f. not (is_at (channel_cmp c) f.0)) es)
          → Each (λ d k. is_same c d ≡ true → k ≡ i → ⊥)
          (cond (not b) (e ∷ filter (λ f. not (is_at (channel_cmp c) f.0)) es) (filter (λ f. not (is_at (channel_cmp c) f.0)) es))
      by true is rest = rest
      by false is rest = ((λ same _. true≢false (sym same ∙ is)), rest)

  taken_past : (r : Caller M) (c : Channel) (i : ℕ) → IsWithin r → is_awaited r c i ≡ true → IsPast c i (close r c)
  unfolding close
  taken_past r c i within is =
      let open_one = awaited_open r c i is in
      let low : open_one.0.instance ≤ at channel_cmp 0 r.last c =
      each_found (λ d j. j ≤ at channel_cmp 0 r.last d) r.opened c open_one.0 within open_one.1 in
      (subst (λ (n : ℕ). n ≤ at channel_cmp 0 r.last c) open_one.2 low, gone c i r.opened)

  not_awaited : (r : Caller M) (c : Channel) (i : ℕ) → IsPast c i r → is_awaited r c i ≡ true → ⊥
  not_awaited r c i past is =
      let open_one = awaited_open r c i is in
      each_found (λ d k. is_same c d ≡ true → k ≡ i → ⊥) r.opened c open_one.0 past.1 open_one.1 (same_itself c) open_one.2

  past_none : (r : Caller M) (s : Step M) (c : Channel) (i : ℕ) → IsPast c i r → times (taken_by r s) c i ≡ 0
  unfolding taken_by times
  past_none r (begins d deadline) c i past = refl
  past_none r (keeps_request d request) c i past = refl
  past_none r (replies d j) c i past = by (is_awaited r d j) refl
    where
      by : (b : Bool) → is_awaited r d j ≡ b → times (cond b ((d, j) ∷ []) []) c i ≡ 0
      by false is = refl
      by true is =
          one_reply (λ n. n ≡ 0) d c j i refl
          (λ one same.
          let awaited : is_awaited r d i ≡ true = subst (λ (k : ℕ). is_awaited r d k ≡ true) same is in
          absurd (not_awaited r c i past (subst (λ (e : Channel). is_awaited r e i ≡ true) one awaited)))
  past_none r (closes d) c i past = refl
  past_none r ticks c i past = refl

  never : (r : Caller M) (steps : List (Step M)) (c : Channel) (i : ℕ) → IsPast c i r → times (taken_replies r steps) c i ≡ 0
  unfolding taken_replies times
  never r [] c i past = none
    where
      none : times [] c i ≡ 0
      none = refl
  never r (s ∷ steps) c i past =
      let both = times-append (taken_by r s) (taken_replies (after_step r s) steps) c i in
      let here = past_none r s c i past in
      let rest = never (after_step r s) steps c i (step_past r s c i past) in
      omega arith

  abbrev NoneOrPast : Channel → ℕ → ℕ → Caller M → Type 0
  NoneOrPast c i n r = (n ≡ 0) ⊎ ((n ≤ 1) × IsPast c i r)

  none_or_past : (r : Caller M) (s : Step M) (c : Channel) (i : ℕ) → IsWithin r → NoneOrPast c i (times (taken_by r s) c i) (after_step r s)
  unfolding taken_by times after_step is_awaited
  none_or_past r (begins d deadline) c i within = inl refl
  none_or_past r (keeps_request d request) c i within = inl refl
  none_or_past r (replies d j) c i within = by (is_awaited r d j) refl
    where
      by : (b : Bool) → is_awaited r d j ≡ b → NoneOrPast c i (times (cond b ((d, j) ∷ []) []) c i) (cond b (close r d) r)
      by false is = inl refl
      by true is =
          one_reply (λ n. NoneOrPast c i n (close r d)) d c j i (inl refl)
          (λ one same.
          inr (
            omega arith,
            subst (λ (e : Channel). IsPast e i (close r d)) one
                (subst (λ (k : ℕ). IsPast d k (close r d)) same (taken_past r d j within is)),
          ))
  none_or_past r (closes d) c i within = inl refl
  none_or_past r ticks c i within = inl refl

  once : (r : Caller M) (steps : List (Step M)) (c : Channel) (i : ℕ) → IsWithin r → times (taken_replies r steps) c i ≤ 1
  unfolding taken_replies times
  once r [] c i within = none
    where
      none : times [] c i ≤ 1
      none = omega arith
  once r (s ∷ steps) c i within =
      by (none_or_past r s c i within) (once (after_step r s) steps c i (step_within r s within))
    where
      both : times (taken_by r s ++ taken_replies (after_step r s) steps) c i
          ≡ times (taken_by r s) c i + times (taken_replies (after_step r s) steps) c i
      both = times-append (taken_by r s) (taken_replies (after_step r s) steps) c i

      by : NoneOrPast c i (times (taken_by r s) c i) (after_step r s) → times (taken_replies (after_step r s) steps) c i ≤ 1
          → times (taken_by r s ++ taken_replies (after_step r s) steps) c i ≤ 1
      by (inl none) later = let sum = both in omega arith
      by (inr past) later =
          let sum = both in
          let rest = never (after_step r s) steps c i past.1 in
          let first = past.0 in
          omega arith

  pub taken_once : (steps : List (Step M)) (c : Channel) (i : ℕ) → times (taken_replies no_requests steps) c i ≤ 1
  taken_once steps c i = once no_requests steps c i tt

-- A responder over a list of calls: what a channel has after a call is told by the call and what it had before.
use Rattle.std.proofs.Common.{◌==◌, eqb-true, ◌≡◌, ℕ, ◌<◌, ◌≤◌, Bool, true, false, cond, not, nat_lt, ◌&&◌, ◌||◌, List, [], ◌∷◌, Option, Some, None, refl, sym, ap, ◌∙◌, subst, arith}
use Rattle.std.specs.Cmp.{Equal-is}
use Rattle.std.proofs.lemmas.Bool.{eqb-false, ltb-false}
use borrow.Author.Tests.{ltb-true}
use Rattle.gnb_types.specs.declared.keys.Channel.{Channel}
use Rattle.gnb_types.specs.Orders.{channel_cmp}
use Rattle.gnb_types.proofs.OrderLemmas.{channel_total, channel_exact}
use Rattle.tables.specs.Tables.{find}
use Rattle.tables.proofs.TableLaws.{find-put-same, find-put-other}
use Rattle.transaction_defs.specs.Callees.{Callee, Kept, kept_at, Verdict, new, again, stale, verdict_after, newest_in, newest, verdict, taken, accepted_as, accepted, reply_in, kept_reply, with_reply, keep, is_newest, keep_for}
use Rattle.transaction_defs.specs.Applied.{Request, is_same, is_above, applied_after, applied, Call, accepts, keeps, keeps_for, requests, greater, greatest_from, greatest, kept_as, kept_from, or_else, last_for, last_kept, after_call, after_calls, is_new, new_requests}

same_channel : (a b : Channel) → is_same a b ≡ true → a ≡ b
same_channel a b same = channel_exact a b ((Equal-is (channel_cmp a b)).0 same)

-- by whether two channels are one
by_channel : (P : Channel → Bool → Type 0) (c d : Channel) → P c true → (is_same c d ≡ false → P d false) → P d (is_same c d)
by_channel P c d same other = by (is_same c d) refl
  where
    by : (b : Bool) → is_same c d ≡ b → P d b
    by true is = subst (λ (e : Channel). P e true) (same_channel c d is) same
    by false is = other is

module _ {M : Type 0} where
  -- ---- a channel after a call

  abbrev unanswered : ℕ → Option (Kept M)
  unanswered instance = Some (record { instance = instance; reply = None })

  abbrev accepted_in : Option (Kept M) → ℕ → Option (Kept M)
  accepted_in None instance = unanswered instance
  accepted_in (Some k) instance = cond (nat_lt k.instance instance) (unanswered instance) (Some k)

  abbrev kept_in : Option (Kept M) → M → Option (Kept M)
  kept_in None reply = None
  kept_in (Some k) reply = Some (record k { reply = Some reply })

  abbrev stepped : Channel → Option (Kept M) → Call M → Option (Kept M)
  stepped c x (accepts d instance) = cond (is_same c d) (accepted_in x instance) x
  stepped c x (keeps d reply) = cond (is_same c d) (kept_in x reply) x
  stepped c x (keeps_for d instance reply) = cond (is_same c d && is_newest (newest_in x) instance) (kept_in x reply) x

  accept_here : (r : Callee M) (c : Channel) (instance : ℕ) → kept_at (accepted r c instance) c ≡ accepted_in (kept_at r c) instance
  unfolding accepted verdict newest kept_at taken
  accept_here r c instance = by (kept_at r c) refl
    where
      here : kept_at (taken r c instance) c ≡ unanswered instance
      here = find-put-same channel_total r c _

      by : (x : Option (Kept M)) → kept_at r c ≡ x
          → kept_at (accepted_as (verdict_after (newest_in x) instance) r c instance) c ≡ accepted_in x instance
      by None is = here
      by (Some k) is = two (nat_lt k.instance instance) (k.instance == instance)
        where
          two : (a b : Bool)
              → kept_at (accepted_as (cond a new (cond b again stale)) r c instance) c
              ≡ cond a (unanswered instance) (Some k)
          two true b = here
          two false true = is
          two false false = is

  accept_other : (r : Callee M) (c d : Channel) (instance : ℕ) → is_same c d ≡ false → kept_at (accepted r d instance) c ≡ kept_at r c
  unfolding accepted kept_at taken
  accept_other r c d instance other = by (verdict r d instance)
    where
      by : (v : Verdict) → kept_at (accepted_as v r d instance) c ≡ kept_at r c
      by new = find-put-other channel_total r d _ c other
      by again = refl
      by stale = refl

  keep_here : (r : Callee M) (c : Channel) (reply : M) → kept_at (keep r c reply) c ≡ kept_in (kept_at r c) reply
  unfolding keep kept_at
  keep_here r c reply = by (kept_at r c) refl
    where
      by : (x : Option (Kept M)) → kept_at r c ≡ x → kept_at (with_reply r c reply x) c ≡ kept_in x reply
      by None is = is
      by (Some k) is = find-put-same channel_total r c _

  keep_other : (r : Callee M) (c d : Channel) (reply : M) → is_same c d ≡ false → kept_at (keep r d reply) c ≡ kept_at r c
  unfolding keep kept_at
  keep_other r c d reply other = by (kept_at r d)
    where
      by : (x : Option (Kept M)) → kept_at (with_reply r d reply x) c ≡ kept_at r c
      by None = refl
      by (Some k) = find-put-other channel_total r d _ c other

  keep_for_here : (r : Callee M) (c : Channel) (instance : ℕ) (reply : M)
      → kept_at (keep_for r c instance reply) c
      ≡ cond (is_newest (newest_in (kept_at r c)) instance) (kept_in (kept_at r c) reply) (kept_at r c)
  unfolding keep_for newest
  keep_for_here r c instance reply = by (is_newest (newest_in (kept_at r c)) instance)
    where
      by : (b : Bool) → kept_at (cond b (keep r c reply) r) c ≡ cond b (kept_in (kept_at r c) reply) (kept_at r c)
      by true = keep_here r c reply
      by false = refl

  keep_for_other : (r : Callee M) (c d : Channel) (instance : ℕ) (reply : M) → is_same c d ≡ false
      → kept_at (keep_for r d instance reply) c ≡ kept_at r c
  unfolding keep_for
  keep_for_other r c d instance reply other = by (is_newest (newest r d) instance)
    where
      by : (b : Bool) → kept_at (cond b (keep r d reply) r) c ≡ kept_at r c
      by true = keep_other r c d reply other
      by false = refl

  step : (r : Callee M) (c : Channel) (call : Call M) → kept_at (after_call r call) c ≡ stepped c (kept_at r c) call
  unfolding after_call
  step r c (accepts d instance) =
      by_channel (λ e b. kept_at (accepted r e instance) c ≡ cond b (accepted_in (kept_at r c) instance) (kept_at r c)) c d
      (accept_here r c instance) (accept_other r c d instance)
  step r c (keeps d reply) =
      by_channel (λ e b. kept_at (keep r e reply) c ≡ cond b (kept_in (kept_at r c) reply) (kept_at r c)) c d
      (keep_here r c reply) (keep_other r c d reply)
  step r c (keeps_for d instance reply) =
      by_channel
      (λ e b.
      kept_at (keep_for r e instance reply) c
      ≡ cond (b && is_newest (newest_in (kept_at r c)) instance) (kept_in (kept_at r c) reply) (kept_at r c))
      c d (keep_for_here r c instance reply) (keep_for_other r c d instance reply)

  -- ---- the newest instance

  newest_accepted : (x : Option (Kept M)) (instance : ℕ) → newest_in (accepted_in x instance) ≡ greater (newest_in x) instance
  newest_accepted None instance = refl
  newest_accepted (Some k) instance = by (nat_lt k.instance instance)
    where
      by : (b : Bool) → newest_in (cond b (unanswered instance) (Some k)) ≡ Some (cond b instance k.instance)
      by true = refl
      by false = refl

  newest_kept : (x : Option (Kept M)) (reply : M) → newest_in (kept_in x reply) ≡ newest_in x
  newest_kept None reply = refl
  newest_kept (Some k) reply = refl

  newest_cond : (b : Bool) (x y : Option (Kept M)) → newest_in (cond b x y) ≡ cond b (newest_in x) (newest_in y)
  newest_cond true x y = refl
  newest_cond false x y = refl

  same_cond : (b : Bool) (x y : Option (Kept M)) → newest_in x ≡ newest_in y → newest_in (cond b x y) ≡ newest_in y
  same_cond true x y same = same
  same_cond false x y same = refl

  newest_after : (r : Callee M) (c d : Channel) (instance : ℕ)
      → newest (accepted r d instance) c ≡ cond (is_same c d) (greater (newest r c) instance) (newest r c)
  unfolding newest after_call
  newest_after r c d instance =
      ap newest_in (step r c (accepts d instance))
      ∙ newest_cond (is_same c d) (accepted_in (kept_at r c) instance) (kept_at r c)
      ∙ ap (λ (n : Option ℕ). cond (is_same c d) n (newest_in (kept_at r c))) (newest_accepted (kept_at r c) instance)

  newest_keep : (r : Callee M) (c d : Channel) (reply : M) → newest (keep r d reply) c ≡ newest r c
  unfolding newest after_call
  newest_keep r c d reply =
      ap newest_in (step r c (keeps d reply))
      ∙ same_cond (is_same c d) (kept_in (kept_at r c) reply) (kept_at r c) (newest_kept (kept_at r c) reply)

  newest_keep_for : (r : Callee M) (c d : Channel) (instance : ℕ) (reply : M) → newest (keep_for r d instance reply) c ≡ newest r c
  unfolding newest after_call
  newest_keep_for r c d instance reply =
      ap newest_in (step r c (keeps_for d instance reply))
      ∙ same_cond (is_same c d && is_newest (newest_in (kept_at r c)) instance) (kept_in (kept_at r c) reply) (kept_at r c)
      (newest_kept (kept_at r c) reply)

  newest_calls : (r : Callee M) (calls : List (Call M)) (c : Channel)
      → newest (after_calls r calls) c ≡ greatest_from c (newest r c) (requests calls)
  unfolding after_calls after_call greatest_from requests
  newest_calls r [] c = refl
  newest_calls r (accepts d instance ∷ calls) c =
      newest_calls (accepted r d instance) calls c
      ∙ ap (λ (n : Option ℕ). greatest_from c n (requests calls)) (newest_after r c d instance)
  newest_calls r (keeps d reply ∷ calls) c =
      newest_calls (keep r d reply) calls c ∙ ap (λ (n : Option ℕ). greatest_from c n (requests calls)) (newest_keep r c d reply)
  newest_calls r (keeps_for d instance reply ∷ calls) c =
      newest_calls (keep_for r d instance reply) calls c
      ∙ ap (λ (n : Option ℕ). greatest_from c n (requests calls)) (newest_keep_for r c d instance reply)

  pub newest_is_greatest : (calls : List (Call M)) (c : Channel) → newest (after_calls [] calls) c ≡ greatest c (requests calls)
  unfolding greatest newest kept_at find
  newest_is_greatest calls c = newest_calls [] calls c

-- ---- the requests that are new

-- the greatest instance of the channel c among earlier requests, the latest first
seen : List Request → Channel → Option ℕ
seen [] c = None
seen (e ∷ es) c = cond (is_same c e.0) (greater (seen es c) e.1) (seen es c)

new_after : (n i : ℕ) → is_new (verdict_after (Some n) i) ≡ nat_lt n i
new_after n i = by (nat_lt n i) (n == i)
  where
    by : (a b : Bool) → is_new (cond a new (cond b again stale)) ≡ a
    by true b = refl
    by false true = refl
    by false false = refl

lt_true : (a b : ℕ) → a < b → nat_lt a b ≡ true
lt_true a b below = by (nat_lt a b) refl
  where
    by : (t : Bool) → nat_lt a b ≡ t → t ≡ true
    by true is = refl
    by false is = let above : b ≤ a = ltb-false a b is in absurd (omega arith)

and_first : (a b : Bool) → (a ≡ true → b ≡ true) → a && b ≡ a
and_first true b implied = implied refl
and_first false b implied = refl

and_second : (a b : Bool) → (b ≡ true → a ≡ true) → a && b ≡ b
and_second true b implied = refl
and_second false true implied = implied refl
and_second false false implied = refl

above_both : (n e i : ℕ) → nat_lt e i && nat_lt n i ≡ nat_lt (cond (nat_lt n e) e n) i
above_both n e i = by (nat_lt n e) refl
  where
    by : (b : Bool) → nat_lt n e ≡ b → nat_lt e i && nat_lt n i ≡ nat_lt (cond b e n) i
    by true is =
        let low : n < e = ltb-true n e is in
        and_first (nat_lt e i) (nat_lt n i) (λ above. let high : e < i = ltb-true e i above in lt_true n i (omega arith))
    by false is =
        let low : e ≤ n = ltb-false n e is in
        and_second (nat_lt e i) (nat_lt n i) (λ above. let high : n < i = ltb-true n i above in lt_true e i (omega arith))

above_is_new : (earlier : List Request) (d : Channel) (i : ℕ) → is_above earlier (d, i) ≡ is_new (verdict_after (seen earlier d) i)
unfolding is_above seen
above_is_new [] d i = refl
above_is_new (e ∷ es) d i = by (is_same d e.0) (seen es d) (above_is_new es d i)
  where
    by : (b : Bool) (x : Option ℕ) → is_above es (d, i) ≡ is_new (verdict_after x i)
        → (not b || nat_lt e.1 i) && is_above es (d, i) ≡ is_new (verdict_after (cond b (greater x e.1) x) i)
    by false x known = known
    by true None known = ap (λ (b : Bool). nat_lt e.1 i && b) known ∙ and_first (nat_lt e.1 i) true (λ _. refl) ∙ sym (new_after e.1 i)
    by true (Some n) known =
        ap (λ (b : Bool). nat_lt e.1 i && b) (known ∙ new_after n i)
        ∙ above_both n e.1 i
        ∙ sym (new_after (cond (nat_lt n e.1) e.1 n) i)

itself : (n : ℕ) → (n == n) ≡ true
itself n = by (n == n) refl
  where
    by : (b : Bool) → (n == n) ≡ b → b ≡ true
    by true is = refl
    by false is = absurd (eqb-false n n is refl)

-- the greatest instance is not below one that came
grows : (c : Channel) (i : ℕ) (rs : List Request) (k : ℕ) → k < i → is_newest (greatest_from c (Some i) rs) k ≡ false
unfolding greatest_from
grows c i [] k below = by (i == k) refl
  where
    by : (b : Bool) → (i == k) ≡ b → b ≡ false
    by true is = let same : i ≡ k = eqb-true i k is in absurd (omega arith)
    by false is = refl
grows c i (r ∷ rs) k below = by (is_same c r.0) (nat_lt i r.1) refl (grows c i rs k below) (grows c r.1 rs k)
  where
    by : (b a : Bool) → nat_lt i r.1 ≡ a → is_newest (greatest_from c (Some i) rs) k ≡ false
        → (k < r.1 → is_newest (greatest_from c (Some r.1) rs) k ≡ false)
        → is_newest (greatest_from c (cond b (Some (cond a r.1 i)) (Some i)) rs) k ≡ false
    by true true is lower risen = let above : i < r.1 = ltb-true i r.1 is in risen (omega arith)
    by true false is lower risen = lower
    by false a is lower risen = lower

module _ {M : Type 0} where
  new_after_earlier : (r : Callee M) (earlier : List Request) (calls : List (Call M)) → ((c : Channel) → newest r c ≡ seen earlier c)
      → new_requests r calls ≡ applied_after earlier (requests calls)
  unfolding new_requests requests applied_after verdict seen
  new_after_earlier r earlier [] known = refl
  new_after_earlier r earlier (accepts d i ∷ calls) known =
      ap (λ (b : Bool). cond b ((d, i) ∷ new_requests (accepted r d i) calls) (new_requests (accepted r d i) calls))
      (ap (λ (n : Option ℕ). is_new (verdict_after n i)) (known d) ∙ sym (above_is_new earlier d i))
      ∙ ap (λ (rs : List Request). cond (is_above earlier (d, i)) ((d, i) ∷ rs) rs)
      (new_after_earlier (accepted r d i) ((d, i) ∷ earlier) calls later)
    where
      later : (c : Channel) → newest (accepted r d i) c ≡ seen ((d, i) ∷ earlier) c
      later c = newest_after r c d i ∙ ap (λ (n : Option ℕ). cond (is_same c d) (greater n i) n) (known c)
  new_after_earlier r earlier (keeps d reply ∷ calls) known =
      new_after_earlier (keep r d reply) earlier calls (λ c. newest_keep r c d reply ∙ known c)
  new_after_earlier r earlier (keeps_for d i reply ∷ calls) known =
      new_after_earlier (keep_for r d i reply) earlier calls (λ c. newest_keep_for r c d i reply ∙ known c)

  pub new_are_applied : (calls : List (Call M)) → new_requests [] calls ≡ applied (requests calls)
  unfolding applied newest kept_at find seen
  new_are_applied calls = new_after_earlier [] [] calls none
    where
      none : (c : Channel) → newest {M = M} [] c ≡ seen [] c
      none c = refl

  -- ---- the reply that is kept

  abbrev fallback : Option ℕ → Option (Kept M) → Option M
  fallback last None = None
  fallback last (Some k) = cond (is_newest last k.instance) k.reply None

  -- the newest instance after calls, where n was the newest one before them
  abbrev last_at : Channel → Option ℕ → List (Call M) → Option ℕ
  last_at c n calls = greatest_from c n (requests calls)

  -- the reply for the newest instance, of those kept by calls, of a channel that had x before them
  abbrev answer : Option ℕ → List (ℕ × M) → Option (Kept M) → Option M
  answer last kept x = or_else (last_for last kept) (fallback last x)

  abbrev expected : Channel → Option (Kept M) → List (Call M) → Option M
  expected c x calls = answer (last_at c (newest_in x) calls) (kept_from c (newest_in x) calls) x

  cond_none : (b : Bool) → ◌≡◌ {A = Option M} (cond b None None) None
  cond_none true = refl
  cond_none false = refl

  expected_accept : (c : Channel) (x : Option (Kept M)) (i : ℕ) (calls : List (Call M))
      → expected c (accepted_in x i) calls
      ≡ answer (last_at c (greater (newest_in x) i) calls) (kept_from c (greater (newest_in x) i) calls) x
  expected_accept c None i calls =
      ap (or_else (last_for (last_at c (Some i) calls) (kept_from c (Some i) calls))) (cond_none (is_newest (last_at c (Some i) calls) i))
  expected_accept c (Some k) i calls = by (nat_lt k.instance i) refl
    where
      by : (a : Bool) → nat_lt k.instance i ≡ a
          → expected c (cond a (unanswered i) (Some k)) calls
          ≡ answer (last_at c (Some (cond a i k.instance)) calls) (kept_from c (Some (cond a i k.instance)) calls) (Some k)
      by true above =
          ap (or_else (last_for (last_at c (Some i) calls) (kept_from c (Some i) calls)))
          (cond_none (is_newest (last_at c (Some i) calls) i)
          ∙ ap (λ (b : Bool). cond b k.reply None) (sym (grows c i (requests calls) k.instance (ltb-true k.instance i above))))
      by false above = refl

  -- a reply is kept for the newest instance
  joined : (l : Option M) (b : Bool) (reply : M) (old : Option M)
      → or_else l (cond b (Some reply) None) ≡ or_else (or_else l (cond b (Some reply) None)) (cond b old None)
  joined None true reply old = refl
  joined None false reply old = refl
  joined (Some m) b reply old = refl

  expected_keep : (c : Channel) (x : Option (Kept M)) (reply : M) (calls : List (Call M))
      → expected c (kept_in x reply) calls
      ≡ answer (last_at c (newest_in x) calls) (kept_as (newest_in x) reply (kept_from c (newest_in x) calls)) x
  unfolding last_for
  expected_keep c None reply calls = refl
  expected_keep c (Some k) reply calls =
      joined (last_for (last_at c (Some k.instance) calls) (kept_from c (Some k.instance) calls))
      (is_newest (last_at c (Some k.instance) calls) k.instance) reply k.reply

  expected_keep_for : (c : Channel) (x : Option (Kept M)) (i : ℕ) (reply : M) (calls : List (Call M)) → is_newest (newest_in x) i ≡ true
      → expected c (kept_in x reply) calls ≡ answer (last_at c (newest_in x) calls) ((i, reply) ∷ kept_from c (newest_in x) calls) x
  expected_keep_for c None i reply calls is = absurd cc
  expected_keep_for c (Some k) i reply calls is =
      expected_keep c (Some k) reply calls
      ∙ ap (λ (n : ℕ). answer (last_at c (Some k.instance) calls) ((n, reply) ∷ kept_from c (Some k.instance) calls) (Some k))
      (eqb-true k.instance i is)

  expected_step : (c : Channel) (x : Option (Kept M)) (call : Call M) (calls : List (Call M))
      → expected c (stepped c x call) calls ≡ expected c x (call ∷ calls)
  unfolding requests greatest_from kept_from
  expected_step c x (accepts d i) calls = by (is_same c d)
    where
      next : Bool → Option ℕ
      next b = cond b (greater (newest_in x) i) (newest_in x)

      by : (b : Bool) → expected c (cond b (accepted_in x i) x) calls ≡ answer (last_at c (next b) calls) (kept_from c (next b) calls) x
      by true = expected_accept c x i calls
      by false = refl
  expected_step c x (keeps d reply) calls = by (is_same c d)
    where
      rest : List (ℕ × M)
      rest = kept_from c (newest_in x) calls

      by : (b : Bool) → expected c (cond b (kept_in x reply) x) calls
          ≡ answer (last_at c (newest_in x) calls) (cond b (kept_as (newest_in x) reply rest) rest) x
      by true = expected_keep c x reply calls
      by false = refl
  expected_step c x (keeps_for d i reply) calls = by (is_same c d) (is_newest (newest_in x) i) refl
    where
      rest : List (ℕ × M)
      rest = kept_from c (newest_in x) calls

      by : (b a : Bool) → is_newest (newest_in x) i ≡ a → expected c (cond (b && a) (kept_in x reply) x) calls
          ≡ answer (last_at c (newest_in x) calls) (cond (b && a) ((i, reply) ∷ rest) rest) x
      by true true is = expected_keep_for c x i reply calls is
      by true false is = refl
      by false a is = refl

  kept_last : (r : Callee M) (calls : List (Call M)) (c : Channel) → kept_reply (after_calls r calls) c ≡ expected c (kept_at r c) calls
  unfolding after_calls greatest_from kept_from last_for requests kept_reply kept_at
  kept_last r [] c = at_end (kept_at r c)
    where
      at_end : (x : Option (Kept M)) → reply_in x ≡ expected c x []
      at_end None = refl
      at_end (Some k) = ap (λ (b : Bool). cond b k.reply None) (sym (itself k.instance))
  kept_last r (call ∷ calls) c =
      kept_last (after_call r call) calls c
      ∙ ap (λ (x : Option (Kept M)). expected c x calls) (step r c call)
      ∙ expected_step c (kept_at r c) call calls

  pub last_is_kept : (calls : List (Call M)) (c : Channel) → kept_reply (after_calls [] calls) c ≡ last_kept calls c
  unfolding last_kept greatest kept_at find
  last_is_kept calls c = kept_last [] calls c ∙ at_start
    where
      or_none : (l : Option M) → or_else l None ≡ l
      or_none None = refl
      or_none (Some m) = refl

      at_start : expected c (kept_at [] c) calls ≡ last_for (greatest_from c None (requests calls)) (kept_from c None calls)
      at_start = or_none (last_for (greatest_from c None (requests calls)) (kept_from c None calls))

-- One call of a key changes what its key's calls depend on in one way, and nothing of another key's.
use Rattle.std.proofs.Common.{◌≡◌, ◌==◌, ℕ, ◌+◌, ◌-◌, ◌<◌, Bool, true, false, cond, ◌&&◌, inl, inr, List, [], ◌∷◌, Option, Some, None, refl, sym, ap, ◌∙◌, subst, true≢false, add-zero, arith}
use Rattle.std.specs.Prelude.{IsSome, is_some, nat_lt}
use Rattle.std.specs.Ordering.{nat_cmp}
use Rattle.std.specs.List.{count_by}
use Rattle.std.specs.Map.{values_of}
use Rattle.std.proofs.lemmas.Bool.Decides.{nat_tests}
use Rattle.gnb_types.specs.declared.keys.EntityKey.{EntityKey}
use Rattle.tables.specs.Tables.{find}
use Rattle.pdcp_defs.specs.pool_defs.Pools.{Stored, PoolState, is_of, used, quota, is_parked, packet_of, packet_by, packet_at, with_packet, without_packet, with_place, without_place, IsPool}
use Rattle.pdcp_defs.proofs.pool_defs.PoolLaws.{found_parked, held_apart, held_packet, packet_of_put, used_put, used_take, packet_at_park, packet_of_unpark}
use Rattle.law_entities.specs.pool.Calls.{Call, Answer, accepted, refused, shown, done, unnamed, put_packet, show_bytes, take_ref, park_ref, show_parked, unpark_ref, key_of, Fate, held, laid, spent, Naming, is_key, with_fate, renamed, with_new, Answers, ShowsPacket, ShowsHeld, ShowsLaid, Takes, Parks, Unparks, no_names, Runs, own_calls, own_answers}
use Rattle.law_entities.proofs.pool.Statuses.{Sight, nothing, out, in_place, sight, AreNames, same_key, own_key, owned_held, owned_laid, names_after, kept_put, kept_take, kept_park, kept_unpark}

record Status : Type 0 where
  seen : ℕ → Sight
  made : ℕ
  uses : ℕ
  may : ℕ

abbrev status : PoolState → Naming → EntityKey → Status
status p names k = record { seen = λ m. sight p (names.fate k m); made = names.made k; uses = used p k; may = quota p k }

same_status : {s t : ℕ → Sight} {a b c d e f : ℕ} → s ≡ t → a ≡ b → c ≡ d → e ≡ f
    → ◌≡◌ {A = Status} (record { seen = s; made = a; uses = c; may = e }) (record { seen = t; made = b; uses = d; may = f })
same_status seen made uses may = λ i. record { seen = seen i; made = made i; uses = uses i; may = may i }

abbrev set_seen : (ℕ → Sight) → ℕ → Sight → ℕ → Sight
set_seen seen n v m = cond (m == n) v (seen m)

abbrev shown_of : Option Stored → Answer
shown_of None = unnamed
shown_of (Some x) = shown x.bytes

abbrev shows_out : Sight → Answer
shows_out nothing = unnamed
shows_out (out o) = shown_of o
shows_out (in_place o) = unnamed

abbrev shows_place : Sight → Answer
shows_place nothing = unnamed
shows_place (out o) = unnamed
shows_place (in_place o) = shown_of o

abbrev done_out : Sight → Answer
done_out nothing = unnamed
done_out (out o) = done
done_out (in_place o) = unnamed

abbrev done_place : Sight → Answer
done_place nothing = unnamed
done_place (out o) = unnamed
done_place (in_place o) = done

abbrev answer_of : Call → Status → Answer
answer_of (put_packet k b) s = cond (nat_lt s.uses s.may) accepted refused
answer_of (show_bytes k n) s = shows_out (s.seen n)
answer_of (take_ref k n) s = done_out (s.seen n)
answer_of (park_ref k n) s = done_out (s.seen n)
answer_of (show_parked k n) s = shows_place (s.seen n)
answer_of (unpark_ref k n) s = done_place (s.seen n)

abbrev take_next : Sight → ℕ → Status → Status
take_next nothing n s = s
take_next (out o) n s = record { seen = set_seen s.seen n nothing; made = s.made; uses = s.uses - 1; may = s.may }
take_next (in_place o) n s = s

abbrev park_next : Sight → ℕ → Status → Status
park_next nothing n s = s
park_next (out o) n s = record { seen = set_seen s.seen n (in_place o); made = s.made; uses = s.uses; may = s.may }
park_next (in_place o) n s = s

abbrev unpark_next : Sight → ℕ → Status → Status
unpark_next nothing n s = s
unpark_next (out o) n s = s
unpark_next (in_place o) n s = record { seen = set_seen s.seen n (out o); made = s.made; uses = s.uses; may = s.may }

abbrev next_of : Call → Status → Status
next_of (put_packet k b) s =
    cond (nat_lt s.uses s.may)
    (record { seen = set_seen s.seen s.made (out (Some (record { key = k; bytes = b }))); made = s.made + 1; uses = s.uses + 1; may = s.may }) s
next_of (show_bytes k n) s = s
next_of (take_ref k n) s = take_next (s.seen n) n s
next_of (park_ref k n) s = park_next (s.seen n) n s
next_of (show_parked k n) s = s
next_of (unpark_ref k n) s = unpark_next (s.seen n) n s

record Stepped (p : PoolState) (names : Naming) (c : Call) (a : Answer) (q : PoolState) (after : Naming) : Type 0 where
  sound : AreNames q after.fate
  answer : a ≡ answer_of c (status p names (key_of c))
  own : status q after (key_of c) ≡ next_of c (status p names (key_of c))
  other : (k : EntityKey) → is_key k (key_of c) ≡ false → status q after k ≡ status p names k

moved : (p : PoolState) (names : Naming) (c : Call) (a a0 : Answer) (q q0 : PoolState) (after after0 : Naming) → a ≡ a0 → q ≡ q0 → after ≡ after0
    → Stepped p names c a0 q0 after0 → Stepped p names c a q after
moved p names c a a0 q q0 after after0 answer pool naming s =
    subst (λ (x : Answer). Stepped p names c x q after) (sym answer)
    (subst (λ (x : PoolState). Stepped p names c a0 x after) (sym pool)
    (subst (λ (x : Naming). Stepped p names c a0 q0 x) (sym naming) s))

idle : (p : PoolState) (names : Naming) (c : Call) (a : Answer) → AreNames p names.fate → a ≡ answer_of c (status p names (key_of c))
    → status p names (key_of c) ≡ next_of c (status p names (key_of c)) → Stepped p names c a p names
idle p names c a sound answer same = record { sound = sound; answer = answer; own = same; other = λ k apart. refl }

swapped : (a b : EntityKey) → is_key a b ≡ false → is_key b a ≡ false
swapped a b apart = by (is_key b a) refl
  where
    by : (t : Bool) → is_key b a ≡ t → t ≡ false
    by true tie = absurd (true≢false (sym (own_key a b (sym (same_key b a tie))) ∙ apart))
    by false tie = refl

-- ---- what is seen after a change of one name

module _ (p q : PoolState) (names : Naming) (key : EntityKey) (n : ℕ) (f : Fate)
    (kept : (k : EntityKey) (m : ℕ) → (is_key key k && m == n) ≡ false → sight q (names.fate k m) ≡ sight p (names.fate k m)) where
  seen_own : ◌≡◌ {A = ℕ → Sight} (λ m. sight q (with_fate names key n f key m)) (set_seen (λ m. sight p (names.fate key m)) n (sight q (Some f)))
  seen_own = λ i m. by m (m == n) refl i
    where
      by : (m : ℕ) (t : Bool) → (m == n) ≡ t
          → sight q (cond (is_key key key && m == n) (Some f) (names.fate key m)) ≡ cond (m == n) (sight q (Some f)) (sight p (names.fate key m))
      by m true is =
          ap (λ (b : Bool). sight q (cond (b && m == n) (Some f) (names.fate key m))) (own_key key key refl)
          ∙ ap (λ (b : Bool). sight q (cond b (Some f) (names.fate key m))) is
          ∙ ap (λ (b : Bool). cond b (sight q (Some f)) (sight p (names.fate key m))) (sym is)
      by m false is =
          let other : (is_key key key && m == n) ≡ false = ap (λ (b : Bool). b && m == n) (own_key key key refl) ∙ is in
          ap (λ (b : Bool). sight q (cond b (Some f) (names.fate key m))) other ∙ kept key m other
          ∙ ap (λ (b : Bool). cond b (sight q (Some f)) (sight p (names.fate key m))) (sym is)

  seen_other : (k : EntityKey) → is_key key k ≡ false → ◌≡◌ {A = ℕ → Sight} (λ m. sight q (with_fate names key n f k m)) (λ m. sight p (names.fate k m))
  seen_other k apart = λ i m. by m i
    where
      by : (m : ℕ) → sight q (cond (is_key key k && m == n) (Some f) (names.fate k m)) ≡ sight p (names.fate k m)
      by m =
          let other : (is_key key k && m == n) ≡ false = ap (λ (b : Bool). b && m == n) apart in
          ap (λ (b : Bool). sight q (cond b (Some f) (names.fate k m))) other ∙ kept k m other

-- ---- each call

module _ (limit : ℕ) (p : PoolState) (sound : IsPool limit p) (names : Naming) (good : AreNames p names.fate) where
  quota_put : (r : ℕ) (x : Stored) (k : EntityKey) → quota (with_packet p r x) k ≡ quota p k
  unfolding quota
  quota_put r x k = refl

  quota_take : (r : ℕ) (k : EntityKey) → quota (without_packet p r) k ≡ quota p k
  unfolding quota
  quota_take r k = refl

  quota_place : (m : List (ℕ × ℕ)) (k : EntityKey) → quota (record p { parked = m }) k ≡ quota p k
  unfolding quota
  quota_place m k = refl

  used_place : (m : List (ℕ × ℕ)) (k : EntityKey) → used (record p { parked = m }) k ≡ used p k
  unfolding used
  used_place m k = refl

  steps_put : (key : EntityKey) (bytes : List ℕ) (r : ℕ) → find nat_cmp p.refs r ≡ None → used p key < quota p key
      → Stepped p names (put_packet key bytes) accepted (with_packet p r (record { key = key; bytes = bytes })) (with_new names key r)
  steps_put key bytes r fresh room =
      let x : Stored = record { key = key; bytes = bytes } in
      let low : nat_lt (used p key) (quota p key) ≡ true = grind (arith, nat_tests) in
      let here : packet_of (with_packet p r x) r ≡ Some x = packet_of_put limit p sound r x fresh in
      let kept = λ (k : EntityKey) (m : ℕ) (other : (is_key key k && m == names.made key) ≡ false). kept_put limit p sound names.fate good r x fresh k m in
      record {
        sound = names_after p names.fate good key (names.made key) (with_packet p r x) (held r) kept (x, (here, refl))
            (λ k m other alive there. new_held k m there);
        answer = ap (λ (b : Bool). cond b accepted refused) (sym low);
        own =
            same_status (seen_own p (with_packet p r x) names key (names.made key) (held r) kept ∙ ap (λ (o : Option Stored). set_seen (λ m. sight p (names.fate key m)) (names.made key) (out o)) here)
            (ap (λ (b : Bool). cond b (names.made key + 1) (names.made key)) (own_key key key refl))
            (used_put limit p sound r x key fresh ∙ ap (λ (b : Bool). used p key + cond b 1 0) (own_key key key refl))
            (quota_put r x key)
            ∙ ap (λ (b : Bool). cond b
            (record { seen = set_seen (λ m. sight p (names.fate key m)) (names.made key) (out (Some x)); made = names.made key + 1; uses = used p key + 1; may = quota p key })
            (status p names key)) (sym low);
        other = λ k apart.
            same_status (seen_other p (with_packet p r x) names key (names.made key) (held r) kept k (swapped k key apart))
            (ap (λ (b : Bool). cond b (names.made k + 1) (names.made k)) (swapped k key apart))
            (used_put limit p sound r x k fresh ∙ ap (λ (b : Bool). used p k + cond b 1 0) apart ∙ add-zero _)
            (quota_put r x k);
      }
    where
      new_held : (k : EntityKey) (m : ℕ) → names.fate k m ≡ Some (held r) → ⊥
      new_held k m there =
          let mine = owned_held p names.fate good k m k m r there in
          true≢false (ap is_some (sym (held_packet p r mine.0 mine.1.0) ∙ fresh))

  steps_take : (key : EntityKey) (n r : ℕ) → names.fate key n ≡ Some (held r)
      → Stepped p names (take_ref key n) done (without_packet p r) (renamed names key n spent)
  steps_take key n r here =
      let mine = owned_held p names.fate good key n key n r here in
      let kept = kept_take limit p sound names.fate good key n r here in
      let uses : used (without_packet p r) key + 1 ≡ used p key =
      ap (λ (b : Bool). used (without_packet p r) key + cond b 1 0) (sym (own_key key mine.0.key (sym mine.1.1))) ∙ used_take p r limit sound mine.0 key mine.1.0 in
      record {
        sound = names_after p names.fate good key n (without_packet p r) spent kept tt (λ k m other alive there. alive refl);
        answer = ap (λ (o : Option Fate). done_out (sight p o)) (sym here);
        own =
            same_status (seen_own p (without_packet p r) names key n spent kept) refl (one_less uses) (quota_take r key)
            ∙ ap (λ (o : Option Fate). take_next (sight p o) n (status p names key)) (sym here);
        other = λ k apart.
            same_status (seen_other p (without_packet p r) names key n spent kept k (swapped k key apart)) refl
            (sym (add-zero _) ∙ ap (λ (b : Bool). used (without_packet p r) k + cond b 1 0) (sym (ap (λ (j : EntityKey). is_key k j) mine.1.1 ∙ apart))
            ∙ used_take p r limit sound mine.0 k mine.1.0)
            (quota_take r k);
      }
    where
      one_less : {a b : ℕ} → a + 1 ≡ b → a ≡ b - 1
      one_less h = omega arith

  steps_park : (key : EntityKey) (n r place : ℕ) → names.fate key n ≡ Some (held r) → find nat_cmp p.parked place ≡ None
      → Stepped p names (park_ref key n) done (with_place p place r) (renamed names key n (laid place))
  unfolding packet_at
  steps_park key n r place here fresh =
      let mine = owned_held p names.fate good key n key n r here in
      let kept = kept_park limit p sound names.fate good key n r place here fresh in
      let there : packet_at (with_place p place r) place ≡ Some mine.0 = packet_at_park p place r mine.0 mine.1.0 in
      record {
        sound = names_after p names.fate good key n (with_place p place r) (laid place) kept (mine.0, (there, mine.1.1))
            (λ k m other alive at. not_laid k m at);
        answer = ap (λ (o : Option Fate). done_out (sight p o)) (sym here);
        own =
            same_status (seen_own p (with_place p place r) names key n (laid place) kept
            ∙ ap (λ (o : Option Stored). set_seen (λ m. sight p (names.fate key m)) n (in_place o)) (there ∙ sym mine.1.0))
            refl (used_place _ key) (quota_place _ key)
            ∙ ap (λ (o : Option Fate). park_next (sight p o) n (status p names key)) (sym here);
        other = λ k apart.
            same_status (seen_other p (with_place p place r) names key n (laid place) kept k (swapped k key apart)) refl (used_place _ k) (quota_place _ k);
      }
    where
      not_laid : (k : EntityKey) (m : ℕ) → names.fate k m ≡ Some (laid place) → ⊥
      not_laid k m at =
          let mine = owned_laid p names.fate good k m k m place at in
          true≢false (ap is_some (sym mine.1.0 ∙ ap (packet_by p) fresh))

  steps_unpark : (key : EntityKey) (n r place : ℕ) → names.fate key n ≡ Some (laid place) → find nat_cmp p.parked place ≡ Some r
      → Stepped p names (unpark_ref key n) done (without_place p place) (renamed names key n (held r))
  unfolding is_parked packet_of
  steps_unpark key n r place here there =
      let mine = owned_laid p names.fate good key n key n place here in
      let kept = kept_unpark limit p sound names.fate good key n r place here there in
      let back : packet_of (without_place p place) r ≡ packet_at p place = packet_of_unpark p place limit sound r there in
      record {
        sound = names_after p names.fate good key n (without_place p place) (held r) kept (mine.0, (back ∙ mine.1.0, mine.1.1))
            (λ k m other alive at. not_held k m at);
        answer = ap (λ (o : Option Fate). done_place (sight p o)) (sym here);
        own =
            same_status (seen_own p (without_place p place) names key n (held r) kept
            ∙ ap (λ (o : Option Stored). set_seen (λ m. sight p (names.fate key m)) n (out o)) back)
            refl (used_place _ key) (quota_place _ key)
            ∙ ap (λ (o : Option Fate). unpark_next (sight p o) n (status p names key)) (sym here);
        other = λ k apart.
            same_status (seen_other p (without_place p place) names key n (held r) kept k (swapped k key apart)) refl (used_place _ k) (quota_place _ k);
      }
    where
      not_held : (k : EntityKey) (m : ℕ) → names.fate k m ≡ Some (held r) → ⊥
      not_held k m at =
          let mine = owned_held p names.fate good k m k m r at in
          true≢false (sym (found_parked p.parked place r there) ∙ held_apart p r (subst IsSome (sym mine.1.0) refl))

  steps_refused : (key : EntityKey) (bytes : List ℕ) → used p key ≡ quota p key → Stepped p names (put_packet key bytes) refused p names
  steps_refused key bytes full =
      let high : nat_lt (used p key) (quota p key) ≡ false = grind (arith, nat_tests) in
      idle p names (put_packet key bytes) refused good
      (ap (λ (b : Bool). cond b accepted refused) (sym high))
      (ap (λ (b : Bool). cond b (record {
        seen = set_seen (λ m. sight p (names.fate key m)) (names.made key) (out (Some (record { key = key; bytes = bytes })));
        made = names.made key + 1;
        uses = used p key + 1;
        may = quota p key;
      }) (status p names key)) (sym high))

  -- a call whose name stands for nothing of its kind
  steps_idle : (c : Call) (a : Answer) (q : PoolState) (after : Naming) → unnamed ≡ answer_of c (status p names (key_of c))
      → status p names (key_of c) ≡ next_of c (status p names (key_of c)) → (a ≡ unnamed) × (q ≡ p) × (after ≡ names) → Stepped p names c a q after
  steps_idle c a q after answer same idles =
      moved p names c a unnamed q p after names idles.0 idles.1 idles.2 (idle p names c unnamed good answer same)

  steps_shown : (c : Call) (packet : Option Stored) (a : Answer) (q : PoolState) (after : Naming)
      → shown_of packet ≡ answer_of c (status p names (key_of c)) → status p names (key_of c) ≡ next_of c (status p names (key_of c))
      → ShowsPacket p names packet a q after → Stepped p names c a q after
  steps_shown c packet a q after answer same shows =
      moved p names c a (shown shows.0.bytes) q p after names shows.1.1 shows.1.2 shows.1.3
      (idle p names c (shown shows.0.bytes) good (sym (ap shown_of shows.1.0) ∙ answer) same)

  step : (c : Call) (a : Answer) (q : PoolState) (after : Naming) → Answers p names c a q after → Stepped p names c a q after
  step (put_packet key bytes) a q after (inl h) =
      moved p names (put_packet key bytes) a accepted q (with_packet p h.2.0 (record { key = key; bytes = bytes })) after (with_new names key h.2.0)
      h.0 h.2.1.1 h.2.1.2 (steps_put key bytes h.2.0 h.2.1.0 h.1)
  step (put_packet key bytes) a q after (inr h) =
      moved p names (put_packet key bytes) a refused q p after names h.0 h.2 h.3 (steps_refused key bytes h.1)
  step (show_bytes key n) a q after h = by (names.fate key n) refl h
    where
      by : (o : Option Fate) → names.fate key n ≡ o → ShowsHeld p names o a q after → Stepped p names (show_bytes key n) a q after
      by None is h = steps_idle (show_bytes key n) a q after (ap (λ (o : Option Fate). shows_out (sight p o)) (sym is)) refl h
      by (Some (held r)) is h = steps_shown (show_bytes key n) (packet_of p r) a q after (ap (λ (o : Option Fate). shows_out (sight p o)) (sym is)) refl h
      by (Some (laid place)) is h = steps_idle (show_bytes key n) a q after (ap (λ (o : Option Fate). shows_out (sight p o)) (sym is)) refl h
      by (Some spent) is h = steps_idle (show_bytes key n) a q after (ap (λ (o : Option Fate). shows_out (sight p o)) (sym is)) refl h
  step (take_ref key n) a q after h = by (names.fate key n) refl h
    where
      next : (o : Option Fate) → names.fate key n ≡ o → take_next (sight p o) n (status p names key) ≡ status p names key
          → status p names key ≡ take_next (sight p (names.fate key n)) n (status p names key)
      next o is same = sym (ap (λ (o : Option Fate). take_next (sight p o) n (status p names key)) is ∙ same)

      by : (o : Option Fate) → names.fate key n ≡ o → Takes p names key n o a q after → Stepped p names (take_ref key n) a q after
      by None is h = steps_idle (take_ref key n) a q after (ap (λ (o : Option Fate). done_out (sight p o)) (sym is)) (next None is refl) h
      by (Some (held r)) is h =
          moved p names (take_ref key n) a done q (without_packet p r) after (renamed names key n spent) h.0 h.1 h.2 (steps_take key n r is)
      by (Some (laid place)) is h = steps_idle (take_ref key n) a q after (ap (λ (o : Option Fate). done_out (sight p o)) (sym is)) (next (Some (laid place)) is refl) h
      by (Some spent) is h = steps_idle (take_ref key n) a q after (ap (λ (o : Option Fate). done_out (sight p o)) (sym is)) (next (Some spent) is refl) h
  step (park_ref key n) a q after h = by (names.fate key n) refl h
    where
      next : (o : Option Fate) → names.fate key n ≡ o → park_next (sight p o) n (status p names key) ≡ status p names key
          → status p names key ≡ park_next (sight p (names.fate key n)) n (status p names key)
      next o is same = sym (ap (λ (o : Option Fate). park_next (sight p o) n (status p names key)) is ∙ same)

      by : (o : Option Fate) → names.fate key n ≡ o → Parks p names key n o a q after → Stepped p names (park_ref key n) a q after
      by None is h = steps_idle (park_ref key n) a q after (ap (λ (o : Option Fate). done_out (sight p o)) (sym is)) (next None is refl) h
      by (Some (held r)) is h =
          moved p names (park_ref key n) a done q (with_place p h.1.0 r) after (renamed names key n (laid h.1.0)) h.0 h.1.1.1 h.1.1.2
          (steps_park key n r h.1.0 is h.1.1.0)
      by (Some (laid place)) is h = steps_idle (park_ref key n) a q after (ap (λ (o : Option Fate). done_out (sight p o)) (sym is)) (next (Some (laid place)) is refl) h
      by (Some spent) is h = steps_idle (park_ref key n) a q after (ap (λ (o : Option Fate). done_out (sight p o)) (sym is)) (next (Some spent) is refl) h
  step (show_parked key n) a q after h = by (names.fate key n) refl h
    where
      by : (o : Option Fate) → names.fate key n ≡ o → ShowsLaid p names o a q after → Stepped p names (show_parked key n) a q after
      by None is h = steps_idle (show_parked key n) a q after (ap (λ (o : Option Fate). shows_place (sight p o)) (sym is)) refl h
      by (Some (held r)) is h = steps_idle (show_parked key n) a q after (ap (λ (o : Option Fate). shows_place (sight p o)) (sym is)) refl h
      by (Some (laid place)) is h = steps_shown (show_parked key n) (packet_at p place) a q after (ap (λ (o : Option Fate). shows_place (sight p o)) (sym is)) refl h
      by (Some spent) is h = steps_idle (show_parked key n) a q after (ap (λ (o : Option Fate). shows_place (sight p o)) (sym is)) refl h
  step (unpark_ref key n) a q after h = by (names.fate key n) refl h
    where
      next : (o : Option Fate) → names.fate key n ≡ o → unpark_next (sight p o) n (status p names key) ≡ status p names key
          → status p names key ≡ unpark_next (sight p (names.fate key n)) n (status p names key)
      next o is same = sym (ap (λ (o : Option Fate). unpark_next (sight p o) n (status p names key)) is ∙ same)

      by : (o : Option Fate) → names.fate key n ≡ o → Unparks p names key n o a q after → Stepped p names (unpark_ref key n) a q after
      by None is h = steps_idle (unpark_ref key n) a q after (ap (λ (o : Option Fate). done_place (sight p o)) (sym is)) (next None is refl) h
      by (Some (held r)) is h = steps_idle (unpark_ref key n) a q after (ap (λ (o : Option Fate). done_place (sight p o)) (sym is)) (next (Some (held r)) is refl) h
      by (Some (laid place)) is h =
          moved p names (unpark_ref key n) a done q (without_place p place) after (renamed names key n (held h.1.0)) h.0 h.1.1.1 h.1.1.2
          (steps_unpark key n h.1.0 place is h.1.1.0)
      by (Some spent) is h = steps_idle (unpark_ref key n) a q after (ap (λ (o : Option Fate). done_place (sight p o)) (sym is)) (next (Some spent) is refl) h

-- ---- whole runs

isolated : (limit : ℕ) (key : EntityKey) (cs : List Call) (answers own : List Answer) (p q : PoolState) (names own_names : Naming)
    → AreNames p names.fate → AreNames q own_names.fate → status p names key ≡ status q own_names key
    → Runs limit p names cs answers → Runs limit q own_names (own_calls key cs) own → own_answers key cs answers ≡ own
isolated limit key [] [] [] p q names own_names good own_good same run own_run = refl
isolated limit key [] [] (b ∷ own) p q names own_names good own_good same run own_run = absurd own_run
isolated limit key [] (a ∷ answers) own p q names own_names good own_good same run own_run = absurd run
isolated limit key (c ∷ cs) [] own p q names own_names good own_good same run own_run = absurd run
isolated limit key (c ∷ cs) (a ∷ answers) own p q names own_names good own_good same run own_run =
    by (is_key key (key_of c)) refl own own_run (step limit p run.1.1.0 names good c a run.0 run.1.0 run.1.1.1)
    (λ rest good2 q2 own_names2 own_good2 same2 own_run2. isolated limit key cs answers rest run.0 q2 run.1.0 own_names2 good2 own_good2 same2 run.1.1.2 own_run2)
  where
    by : (t : Bool) → is_key key (key_of c) ≡ t → (own : List Answer) → Runs limit q own_names (cond t (c ∷ own_calls key cs) (own_calls key cs)) own
        → Stepped p names c a run.0 run.1.0
        → ((rest : List Answer) → AreNames run.0 run.1.0.fate → (q2 : PoolState) (own_names2 : Naming) → AreNames q2 own_names2.fate
        → status run.0 run.1.0 key ≡ status q2 own_names2 key → Runs limit q2 own_names2 (own_calls key cs) rest → own_answers key cs answers ≡ rest)
        → cond t (a ∷ own_answers key cs answers) (own_answers key cs answers) ≡ own
    by true mine [] own_run stepped again = absurd own_run
    by true mine (b ∷ own) own_run stepped again =
        let here : key ≡ key_of c = same_key key (key_of c) mine in
        let other = step limit q own_run.1.1.0 own_names own_good c b own_run.0 own_run.1.0 own_run.1.1.1 in
        let alike : status p names (key_of c) ≡ status q own_names (key_of c) =
        subst (λ (k : EntityKey). status p names k ≡ status q own_names k) here same in
        let next : status run.0 run.1.0 (key_of c) ≡ status own_run.0 own_run.1.0 (key_of c) =
        stepped.own ∙ ap (next_of c) alike ∙ sym other.own in
        let equal : a ≡ b = stepped.answer ∙ ap (answer_of c) alike ∙ sym other.answer in
        ap (λ (x : Answer). x ∷ own_answers key cs answers) equal
        ∙ ap (λ (rest : List Answer). b ∷ rest)
        (again own stepped.sound own_run.0 own_run.1.0 other.sound
        (subst (λ (k : EntityKey). status run.0 run.1.0 k ≡ status own_run.0 own_run.1.0 k) (sym here) next) own_run.1.1.2)
    by false apart own own_run stepped again =
        again own stepped.sound q own_names own_good (stepped.other key apart ∙ same) own_run

no_names_good : (p : PoolState) → AreNames p no_names.fate
no_names_good p = record { owned = λ k m. tt; once = λ k m k2 m2 f a b alive. absurd cc }

none_used : (p : PoolState) (key : EntityKey) → p.refs ≡ [] → used p key ≡ 0
unfolding used
none_used p key none = ap (λ (m : List (ℕ × Stored)). count_by (is_of key) (values_of m)) none

pub isolation : (limit : ℕ) (p q : PoolState) (key : EntityKey) (calls : List Call) (answers own : List Answer)
    → p.refs ≡ [] → q.refs ≡ [] → quota p key ≡ quota q key
    → Runs limit p no_names calls answers → Runs limit q no_names (own_calls key calls) own → own_answers key calls answers ≡ own
isolation limit p q key calls answers own refs own_refs quotas run own_run =
    isolated limit key calls answers own p q no_names no_names (no_names_good p) (no_names_good q)
    (same_status refl refl (none_used p key refs ∙ sym (none_used q key own_refs)) quotas) run own_run

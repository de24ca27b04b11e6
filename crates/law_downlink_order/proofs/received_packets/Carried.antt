-- A radio without a gap: all that stands before the next packet to be received is a duplicate.
use Rattle.std.proofs.Common.{◌≡◌, ℕ, ◌+◌, ◌<◌, ◌≤◌, max, Bool, true, false, ◌==◌, nat_lt, if◌then◌else◌, List, [], ◌∷◌, ◌⊎◌, inl, inr, refl, sym, ap, subst, ◌∙◌, arith}
use Rattle.std.specs.List.{AllByRecursion}
use Rattle.gnb_types.specs.declared.names.SnBits.{SnBits}
use Rattle.tables.specs.Tables.{find}
use Rattle.intervals.specs.Intervals.{HasNoGap}
use Rattle.pdcp_defs.specs.Receivers.{Receiver, is_duplicate, stored, deliver}
use Rattle.bearer_defs.specs.chain_defs.Models.{Model}
use Rattle.bearer_defs.specs.chain_defs.Orders.{carries, handed, after, run}
use Rattle.bearer_defs.specs.chain_defs.Assumptions.{IsReady, IsAssumed, AreKept}
use Rattle.law_downlink_order.specs.received_packets.Received.{StandsAmong, carried_to, left_after}

pub late : (r : Receiver (List ℕ)) (count : ℕ) → count < r.deliv → is_duplicate r count ≡ true
unfolding is_duplicate
late r count l = let t : nat_lt count r.deliv ≡ true = grind arith in rw t

pub next : (r : Receiver (List ℕ)) (count : ℕ) → r.stored ≡ [] → count ≡ r.deliv → is_duplicate r count ≡ false
unfolding is_duplicate find
next r count none e = let t : nat_lt count r.deliv ≡ false = grind arith in rw (none, t)

alike : (a b : ℕ) → (a == b) ≡ true → a ≡ b
alike a b h = grind arith

unlike : (a b : ℕ) → (a == b) ≡ false → a ≡ b → ⊥
unlike a b h e = grind arith

-- one that stands at its place in the list is the packet of its COUNT
pub in_place : (p : ℕ → List ℕ) (air : List (ℕ × List ℕ)) (count : ℕ) (packet : List ℕ) → AllByRecursion (λ (e : ℕ × List ℕ). e.1 ≡ p e.0) air
    → StandsAmong count packet air → packet ≡ p count
unfolding StandsAmong
in_place p [] count packet all h = absurd h
in_place p ((other, one) ∷ more) count packet all (inl h) = sym h.1 ∙ all.0 ∙ ap p h.0
in_place p ((other, one) ∷ more) count packet all (inr h) = in_place p more count packet all.1 h

-- nor is one past the first that has not come
no_gap_on : (d c : ℕ) (more : List (ℕ × List ℕ)) → c < d → HasNoGap (max d (c + 1)) more → HasNoGap d more
no_gap_on d c more l h = let e : max d (c + 1) ≡ d = omega arith in subst (λ n. HasNoGap n more) e h

module _ (p : ℕ → List ℕ) (sn : SnBits) (quota d : ℕ) (packet : List ℕ) (is : packet ≡ p d) where
  pub carried : (air : List (ℕ × List ℕ)) (s : Model) → s.air ≡ air → s.terminal.deliv ≡ d → s.terminal.stored ≡ [] → HasNoGap d air
      → AllByRecursion (λ (e : ℕ × List ℕ). e.1 ≡ p e.0) air → StandsAmong d packet air
      → AreKept sn quota s (carried_to d air)
      × (run s (carried_to d air) ≡ handed (record s { air = left_after d air }) false (deliver (stored s.terminal d packet)))
  unfolding carried_to left_after StandsAmong HasNoGap AreKept IsReady IsAssumed run after
  carried [] s air_is deliv_is none no_gap all stands = absurd stands
  carried ((c, x) ∷ more) s air_is deliv_is none no_gap all stands =
      by (c == d) refl (λ l on. carried more (record s { air = more }) refl deliv_is none (no_gap_on d c more l no_gap.1) all.1 on)
    where
      Goal : Bool → Type 0
      Goal t =
          AreKept sn quota s (carries c x more ∷ (if t then [] else carried_to d more))
          × (run s (carries c x more ∷ (if t then [] else carried_to d more))
          ≡ handed (record s { air = if t then more else left_after d more }) false (deliver (stored s.terminal d packet)))

      Rest : Type 0
      Rest =
          AreKept sn quota (record s { air = more }) (carried_to d more)
          × (run (record s { air = more }) (carried_to d more)
          ≡ handed (record s { air = left_after d more }) false (deliver (stored s.terminal d packet)))

      by : (t : Bool) → (c == d) ≡ t → (c < d → StandsAmong d packet more → Rest) → Goal (c == d)
      by true t again =
          let c_is : c ≡ d = alike c d t in
          let x_is : x ≡ packet = all.0 ∙ ap p c_is ∙ sym is in
          let known : is_duplicate s.terminal c ≡ false = next s.terminal c none (c_is ∙ sym deliv_is) in
          let same : handed (record s { air = more }) (is_duplicate s.terminal c) (deliver (stored s.terminal c x))
          ≡ handed (record s { air = more }) false (deliver (stored s.terminal d packet)) =
          (λ i. handed (record s { air = more }) (known i) (deliver (stored s.terminal (c_is i) (x_is i)))) in
          subst Goal (sym t) ((air_is, tt, tt), same)
      by false t again =
          let l : c < d = (let a = no_gap.0 in let b = unlike c d t in grind arith) in
          let known : is_duplicate s.terminal c ≡ true = late s.terminal c (omega (arith, l, deliv_is)) in
          let goes_on : after s (carries c x more) ≡ record s { air = more } =
          (λ i. handed (record s { air = more }) (known i) (deliver (stored s.terminal c x))) in
          let rest = again l (past stands) in
          subst Goal (sym t) (
            (air_is, tt, subst (λ (u : Model). AreKept sn quota u (carried_to d more)) (sym goes_on) rest.0),
            ap (λ (u : Model). run u (carried_to d more)) goes_on ∙ rest.1,
          )
        where
          past : ((c ≡ d) × (x ≡ packet)) ⊎ StandsAmong d packet more → StandsAmong d packet more
          past (inl h) = absurd (unlike c d t h.0)
          past (inr h) = h

  -- of what stood there, what is gone then has a COUNT up to this one
  pub stays : (air : List (ℕ × List ℕ)) → HasNoGap d air → (other : ℕ) (one : List ℕ) → StandsAmong other one air
      → (other ≤ d) ⊎ StandsAmong other one (left_after d air)
  unfolding left_after StandsAmong HasNoGap
  stays [] no_gap other one stands = absurd stands
  stays ((c, x) ∷ more) no_gap other one stands = by (c == d) refl (λ l h. stays more (no_gap_on d c more l no_gap.1) other one h) stands
    where
      Goal : Bool → Type 0
      Goal t = (other ≤ d) ⊎ StandsAmong other one (if t then more else left_after d more)

      by : (t : Bool) → (c == d) ≡ t → (c < d → StandsAmong other one more → (other ≤ d) ⊎ StandsAmong other one (left_after d more))
          → ((c ≡ other) × (x ≡ one)) ⊎ StandsAmong other one more → Goal (c == d)
      by t e again (inl h) = inl (let a = no_gap.0 in let b = h.0 in omega (arith, a, b))
      by true t again (inr h) = subst Goal (sym t) (inr h)
      by false t again (inr h) = let l : c < d = (let a = no_gap.0 in let b = unlike c d t in grind arith) in subst Goal (sym t) (again l h)

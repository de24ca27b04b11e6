-- The laws of one bearer's downlink, from what holds after every list of orders.
use Rattle.std.proofs.Common.{◌≡◌, ℕ, zero, suc, ◌+◌, ◌-◌, ◌<◌, ◌≤◌, max, Bool, true, false, List, [], ◌∷◌, ◌++◌, length, take, Some, slice_get, refl, sym, ap, ◌∙◌, nat_lt, arith}
use Rattle.std.specs.List.{AllByRecursion, enumerate_from}
use Rattle.gnb_types.specs.declared.names.SnBits.{SnBits}
use Rattle.intervals.specs.Intervals.{segment, upto, reach}
use Rattle.intervals.proofs.Intervals.{all_append, all_upto, upto-nil, upto-cons, upto-length, reach-le}
use Rattle.pdcp_defs.specs.Senders.{window, first, first_of}
use Rattle.bearer_defs.specs.chain_defs.Models.{Item, numbered, fresh, Model, initial, is_open, is_fed}
use Rattle.bearer_defs.specs.chain_defs.Orders.{ModelStep, drops, run, offers_in}
use Rattle.bearer_defs.specs.chain_defs.Assumptions.{IsReady, AreKept}
use Rattle.law_downlink_order.specs.chain.Words.{DeliversInOrder, IsInPlace, IsItemInPlace, CountsArePlaces, KeepsWindow}
use Rattle.law_downlink_order.proofs.chain.Tunnels.{shape, flow, ends}
use Rattle.law_downlink_order.proofs.chain.Facts.{pairs, Ends, ends_of, Tunnels, Good}
use Rattle.law_downlink_order.proofs.chain.Core.{never_drops}
use Rattle.law_downlink_order.proofs.chain.Runs.{stream, agrees, all_offered, kept_run, good_start}

pub stream_at : (xs : List (List ℕ)) (i : ℕ) → i < length xs → slice_get xs i ≡ Some (stream xs i)
unfolding stream
stream_at [] i l = absurd (let e : i < 0 = l in omega arith)
stream_at (x ∷ xs) zero l = refl
stream_at (x ∷ xs) (suc i) l = stream_at xs i (omega arith)

pub first_ones : (p : ℕ → List ℕ) (xs : List (List ℕ)) (a n : ℕ) → ((i : ℕ) → p (a + i) ≡ stream xs i) → n ≤ length xs
    → segment (pairs p) a n ≡ enumerate_from a (take n xs)
unfolding segment stream
first_ones p xs a zero h l = refl
first_ones p [] a (suc n) h l = absurd (let e : suc n ≤ 0 = l in omega arith)
first_ones p (x ∷ xs) a (suc n) h l =
    let e : a + 0 ≡ a = omega arith in
    let here : p a ≡ x = sym (ap p e) ∙ h 0 in
    rw (here, first_ones p xs (a + 1) n (λ i. (let f : a + 1 + i ≡ a + suc i = omega arith in ap p f ∙ h (suc i))) (omega arith))

module _ (sn : SnBits) (quota x teid : ℕ) (os : List ModelStep) (kept : AreKept sn quota (initial x teid) os) where
  p : ℕ → List ℕ
  p = stream (offers_in os)

  s : Model
  s = run (initial x teid) os

  good : Good p (window sn quota) s
  unfolding initial p s
  good = kept_run p sn quota (initial x teid) os (good_start p (window sn quota) x teid) kept (agrees (offers_in os))

  offered : s.offered ≡ length (offers_in os)
  unfolding initial s
  offered = all_offered (initial x teid) os ∙ omega arith

  pub delivers_in_order : DeliversInOrder (offers_in os) (run (initial x teid) os)
  unfolding DeliversInOrder upto p s
  delivers_in_order =
      let r = good.1.radio in
      let few : s.terminal.deliv ≤ length (offers_in os) =
      (let a = r.reached_offered in let b = reach-le s.terminal.deliv s.air in let c = offered in omega arith) in
      let as_many : length s.delivered ≡ s.terminal.deliv = ap length r.delivered_are ∙ upto-length (pairs p) 0 s.terminal.deliv ∙ omega
      arith in
      let from : (i : ℕ) → p (0 + i) ≡ stream (offers_in os) i = λ i. (let e : 0 + i ≡ i = omega arith in ap p e) in
      let same : s.terminal.deliv - 0 ≡ s.terminal.deliv = omega arith in
      r.delivered_are ∙ ap (segment (pairs p) 0) same ∙ first_ones p (offers_in os) 0 s.terminal.deliv from few
      ∙ ap (λ n. enumerate_from 0 (take n (offers_in os))) (sym as_many)

  in_place : (i : ℕ) → i < s.offered → IsInPlace (offers_in os) i (p i)
  unfolding p
  in_place i l = stream_at (offers_in os) i (let c = offered in omega arith)

  on_air : (n : ℕ) (xs : List (ℕ × List ℕ)) → AllByRecursion (λ (e : ℕ × List ℕ). e.1 ≡ p e.0) xs → reach n xs ≤ s.offered
      → AllByRecursion (λ (e : ℕ × List ℕ). IsInPlace (offers_in os) e.0 e.1) xs
  unfolding reach
  on_air n [] h l = tt
  on_air n (e ∷ es) h l =
      (in_place e.0 (let a = reach-le (max n (e.0 + 1)) es in omega arith) ∙ ap (λ y. Some y) (sym h.0), on_air (max n (e.0 + 1)) es h.1 l)

  forwarded : (fed : Bool) (open_ : Bool) (xs n3 : List Item) (e : Ends) → Tunnels p s.offered fed open_ xs n3 e → e.base ≤ s.offered →
      e.held ≤ s.offered
      → AllByRecursion (IsItemInPlace (offers_in os)) xs
  unfolding shape flow ends
  forwarded true open_ xs n3 e t l h =
      let f = t.is_fed refl in
      rw f.items
      (all_append (IsItemInPlace (offers_in os)) (upto (λ i. numbered i (p i)) e.held e.hop_held) (flow p e.top e.hop_top e.ended)
      (all_upto (IsItemInPlace (offers_in os)) (λ i. numbered i (p i)) e.held e.hop_held
      (λ i o. in_place i (let a = f.held_base in omega arith)))
      (all_append (IsItemInPlace (offers_in os)) (upto (λ i. fresh (p i)) e.top e.hop_top) (ends e.ended)
      (all_upto (IsItemInPlace (offers_in os)) (λ i. fresh (p i)) e.top e.hop_top (λ _ _. tt)) (at_end e.ended)))
    where
      at_end : (b : Bool) → AllByRecursion (IsItemInPlace (offers_in os)) (ends b)
      at_end true = (tt, tt)
      at_end false = tt
  forwarded false open_ xs n3 e t l h = rw ((t.shut refl).1) tt

  pub counts_are_places : CountsArePlaces (offers_in os) (run (initial x teid) os)
  unfolding s
  counts_are_places = record {
    unconfirmed = λ q there keeps.
        let o = (good.1.each q).own there in
        let n = o.numbers in
        rw (o.lists.unconfirmed_are keeps)
        (all_upto (λ (e : ℕ × List ℕ). IsInPlace (offers_in os) e.0 e.1) (pairs p) (good.0 q).low (good.0 q).held
        (λ i l. in_place i (let a = n.low_held in let b = n.held_next in let c = n.next_top in let d = n.top_offered in omega arith)));
    forwarded = λ q there.
        let o = (good.1.each q).own there in
        let n = o.numbers in
        let base : (good.0 q).base ≤ s.offered = (let b = n.base_next in let c = n.next_top in let d = n.top_offered in omega arith) in
        let held : (good.0 q).held ≤ s.offered = (let b = n.held_next in let c = n.next_top in let d = n.top_offered in omega arith) in
        forwarded (is_fed (s.members q)) (is_open (s.members q).bearer.n3) (s.members q).forwarded (s.members q).n3 (ends_of (good.0 q))
        o.tunnels base held;
    on_air = on_air s.terminal.deliv s.air good.1.radio.packets good.1.radio.reached_offered;
  }

  window_by : (next low held w : ℕ) → low ≤ held → next ≤ low + w → next - first_of next (upto (pairs p) low held) ≤ w
  window_by next low held w l h = by (nat_lt low held) refl
    where
      by : (t : Bool) → nat_lt low held ≡ t → next - first_of next (upto (pairs p) low held) ≤ w
      by true t = let o : low < held = grind arith in rw (upto-cons (pairs p) low held o) (omega arith)
      by false t = let o : held ≤ low = grind arith in rw (upto-nil (pairs p) low held o) (omega arith)

  pub keeps_window : KeepsWindow sn quota (run (initial x teid) os)
  unfolding KeepsWindow first s
  keeps_window q there keeps known =
      let o = (good.1.each q).own there in
      let n = o.numbers in
      rw (o.lists.unconfirmed_are keeps, o.status.next_is known)
      (window_by (good.0 q).next (good.0 q).low (good.0 q).held (window sn quota) n.low_held n.window)

  pub no_duplicate : (q count : ℕ) (packet : List ℕ) (rest : List Item) → IsReady sn quota (run (initial x teid) os)
      (drops q count packet rest) → ⊥
  unfolding IsReady s
  no_duplicate q count packet rest r = never_drops p sn quota s good.0 good.1 q count packet rest r.0 r.1 r.2

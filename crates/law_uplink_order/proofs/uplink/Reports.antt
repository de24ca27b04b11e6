-- A status report says only what was carried up.
use Rattle.std.proofs.Common.{◌≡◌, ℕ, zero, suc, ◌+◌, ◌-◌, ◌<◌, ◌≤◌, max, Bool, true, false, ◌&&◌, ◌||◌, nat_lt, if◌then◌else◌, List, [], ◌∷◌, ◌++◌, Option, Some, None, length, refl, sym, true≢false, arith}
use Rattle.std.specs.Prelude.{replicate}
use Rattle.std.specs.List.{AllByRecursion}
use Rattle.pdcp_defs.specs.Senders.{is_set, is_reported}
use Rattle.pdcp_defs.specs.Receivers.{bits_from, received_bits, is_duplicate}
use Rattle.unit_defs.specs.CuUpRecords.{SourceHop}
use Rattle.bearer_defs.specs.uplink_defs.Models.{uplink_tunnel, forwarding, Member, Model, initial, with_rest}
use Rattle.bearer_defs.specs.uplink_defs.Orders.{ModelStep, carries, takes, ends_uplink, ends_hop, after, run, stored_at, new_at, late_at, taken_at, ended_if, ended_at, is_up_over, without_uplink, offers_in}
use Rattle.bearer_defs.specs.uplink_defs.Assumptions.{AreKept}
use Rattle.law_downlink_order.proofs.chain.Runs.{stream, agrees}
use Rattle.law_uplink_order.specs.uplink.Words.{Reports}
use Rattle.law_uplink_order.proofs.facts.Items.{IsRight}
use Rattle.law_uplink_order.proofs.facts.Facts.{Good}
use Rattle.law_uplink_order.proofs.uplink.Runs.{kept_run, good_start}

-- ---- a bit that is set lies before the greatest COUNT that is stored

length_more : (k : ℕ) (bits : List Bool) → length (replicate k false ++ true ∷ bits) ≡ k + 1 + length bits
length_more zero bits = omega arith
length_more (suc k) bits = let e = length_more k bits in omega arith

bits_below : (p : ℕ → List ℕ) (reached n : ℕ) (es : List (ℕ × List ℕ)) → AllByRecursion (IsRight p reached) es
    → length (bits_from n es) + n ≤ max n reached
bits_below p reached n [] h = omega arith
bits_below p reached n (e ∷ es) h =
    by (bits_below p reached n es h.1) (bits_below p reached (e.0 + 1) es h.1) (nat_lt e.0 n) refl
  where
    by : length (bits_from n es) + n ≤ max n reached → length (bits_from (e.0 + 1) es) + (e.0 + 1) ≤ max (e.0 + 1) reached
        → (t : Bool) → nat_lt e.0 n ≡ t
        → length (if t then bits_from n es else replicate (e.0 - n) false ++ true ∷ bits_from (e.0 + 1) es) + n ≤ max n reached
    by less more true t = less
    by less more false t =
        let l : n ≤ e.0 = grind arith in
        let k = h.0.0 in
        let c = length_more (e.0 - n) (bits_from (e.0 + 1) es) in omega arith

set_below : (bits : List Bool) (j : ℕ) → is_set bits j ≡ true → j < length bits
set_below [] j h = absurd (true≢false (sym h))
set_below (t ∷ ts) zero h = omega arith
set_below (t ∷ ts) (suc j) h = let l = set_below ts j h in omega arith

reported_below : (fmc reached : ℕ) (bits : List Bool) → fmc ≤ reached → length bits + (fmc + 1) ≤ max (fmc + 1) reached → (i : ℕ)
    → is_reported fmc bits i ≡ true → i < reached
reported_below fmc reached bits l k i h = by (nat_lt i fmc) (nat_lt fmc i) refl refl h
  where
    by : (t u : Bool) → nat_lt i fmc ≡ t → nat_lt fmc i ≡ u → (t || (u && is_set bits (i - fmc - 1))) ≡ true → i < reached
    by true u t v h = let o : i < fmc = grind arith in omega arith
    by false true t v h = let o : fmc < i = grind arith in let m = set_below bits (i - fmc - 1) h in omega arith
    by false false t v h = absurd (true≢false (sym h))

-- ---- what was carried up stays so

module _ (s : Model) (x : ℕ) (m : Member) where
  ended_reached : (hop : Option SourceHop) → (ended_at s x m hop).reached ≡ s.reached
  ended_reached None = refl
  ended_reached (Some hop) = by (is_up_over m hop)
    where
      by : (t : Bool) → (ended_if s x m hop t).reached ≡ s.reached
      by true = refl
      by false = refl

  taken_reached : (count : ℕ) (packet : List ℕ) (t : Bool) → (taken_at s x m count packet t).reached ≡ s.reached
  taken_reached count packet true = by (nat_lt count m.bearer.receiver.deliv)
    where
      by : (t : Bool) → (late_at s x m count packet t).reached ≡ s.reached
      by true = refl
      by false = refl
  taken_reached count packet false = by (is_duplicate m.bearer.receiver count)
    where
      stored_by : (t : Bool) → (stored_at s x m count packet t).reached ≡ s.reached
      stored_by true = refl
      stored_by false = refl

      by : (t : Bool) → (new_at s x m count packet t).reached ≡ s.reached
      by true = refl
      by false = stored_by m.flags.frozen

same_or_more : (a b : ℕ) → b ≡ a → a ≤ b
same_or_more a b e = omega arith

grows : (s : Model) (o : ModelStep) → s.reached ≤ (after s o).reached
unfolding after
grows s (carries teid count packet rest) = omega arith
grows s (takes x from count packet rest) = same_or_more s.reached (after s (takes x from count packet rest)).reached
    (taken_reached s x (with_rest (s.members x) from rest) count packet (s.members x).flags.released)
grows s (ends_uplink x teid rest) =
    let m : Member = without_uplink (with_rest (s.members x) (uplink_tunnel teid) rest) teid in
    same_or_more s.reached (after s (ends_uplink x teid rest)).reached (ended_reached s x m m.bearer.hop)
grows s (ends_hop x rest) =
    let m : Member = with_rest (s.members x) forwarding rest in
    same_or_more s.reached (after s (ends_hop x rest)).reached
    (ended_reached s x (record m { bearer = record m.bearer { up_ended = true } }) m.bearer.hop)
grows s o = omega arith

run_grows : (s : Model) (os : List ModelStep) → s.reached ≤ (run s os).reached
unfolding run
run_grows s [] = omega arith
run_grows s (o ∷ os) = let l = grows s o in let k = run_grows (after s o) os in omega arith

reports_now : (p : ℕ → List ℕ) (s : Model) → Good p s → (i : ℕ) → Reports s i → i < s.reached
unfolding Reports received_bits
reports_now p s (d, g, k) i said =
    let m : Member = s.members s.station in
    let st = (k.each s.station).station refl in
    let o = (k.each s.station).own st.there in
    let e = st.known said.0 in
    let l = k.terminal.done_reached in
    reported_below m.bearer.receiver.deliv s.reached (bits_from (m.bearer.receiver.deliv + 1) m.bearer.receiver.stored) (omega arith)
    (bits_below p s.reached (m.bearer.receiver.deliv + 1) m.bearer.receiver.stored o.holds.right) i said.1

pub reports_carried : (x teid : ℕ) (os more : List ModelStep) (i : ℕ) → AreKept (initial x teid) os → Reports (run (initial x teid) os) i
    → i < (run (run (initial x teid) os) more).reached
unfolding initial
reports_carried x teid os more i kept said =
    let p : ℕ → List ℕ = stream (offers_in os) in
    let good = kept_run p (initial x teid) os (good_start p x teid) kept (agrees (offers_in os)) in
    let l = reports_now p (run (initial x teid) os) good i said in
    let k = run_grows (run (initial x teid) os) more in omega arith

-- The terminal takes the next packet of its radio: a duplicate, or the next one, which is handed up at once.
use Rattle.std.proofs.Common.{◌≡◌, ℕ, ◌+◌, ◌<◌, ◌≤◌, max, Bool, true, false, ◌==◌, nat_lt, List, [], ◌∷◌, ◌++◌, refl, sym, ap, subst, ◌∙◌, arith}
use Rattle.std.specs.List.{AllByRecursion}
use Rattle.tables.specs.Tables.{find, put}
use Rattle.intervals.specs.Intervals.{HasNoGap, reach}
use Rattle.intervals.proofs.Intervals.{upto-snoc}
use Rattle.pdcp_defs.specs.Receivers.{Receiver, is_duplicate, stored, deliver}
use Rattle.law_downlink_order.proofs.chain.Facts.{pairs}
use Rattle.law_downlink_order.proofs.chain.Frames.{same}
use Rattle.law_downlink_order.specs.path.Paths.{Path}
use Rattle.law_downlink_order.specs.path.Steps.{carries, handed, after}
use Rattle.law_downlink_order.proofs.path.Facts.{view, Radio, Kept}
use Rattle.law_downlink_order.proofs.path.Senders.{RadioOf, speaks_later}

taken_late : (r : Receiver (List ℕ)) (count : ℕ) → r.stored ≡ [] → count < r.deliv → is_duplicate r count ≡ true
unfolding is_duplicate
taken_late r count none l = let t : nat_lt count r.deliv ≡ true = grind arith in rw t

taken_next : (r : Receiver (List ℕ)) (count : ℕ) → r.stored ≡ [] → count ≡ r.deliv → is_duplicate r count ≡ false
unfolding is_duplicate find
taken_next r count none e = let t : nat_lt count r.deliv ≡ false = grind arith in rw (none, t)

handed_up : (r : Receiver (List ℕ)) (count : ℕ) (packet : List ℕ) → r.stored ≡ [] → count ≡ r.deliv
    → deliver (stored r count packet) ≡ record { packets = (count, packet) ∷ []; after = record { deliv = r.deliv + 1; stored = [] } }
unfolding deliver stored put
handed_up r count packet none e = let t : (count == r.deliv) ≡ true = same count r.deliv e in rw (none, t)

module _ (p : ℕ → List ℕ) (base : ℕ) (s : Path) (k : Kept p base s) where
  first_packet : (count : ℕ) (packet : List ℕ) (rest : List (ℕ × List ℕ))
      → Radio p (max base s.comes) s.terminal.deliv s.terminal.stored ((count, packet) ∷ rest) s.delivered
      → (count ≤ s.terminal.deliv) × (packet ≡ p count) × HasNoGap (max s.terminal.deliv (count + 1)) rest
      × AllByRecursion (λ (e : ℕ × List ℕ). e.1 ≡ p e.0) rest
      × (reach s.terminal.deliv ((count, packet) ∷ rest) ≡ reach (max s.terminal.deliv (count + 1)) rest)
  unfolding HasNoGap reach
  first_packet count packet rest r = (r.no_gap.0, r.packets.0, r.no_gap.1, r.packets.1, refl)

  receives : (air : List (ℕ × List ℕ)) (terminal : Receiver (List ℕ)) (delivered : List (ℕ × List ℕ)) → s.terminal.deliv ≤ terminal.deliv
      → reach s.terminal.deliv s.air ≡ reach terminal.deliv air
      → Radio p (max base s.comes) terminal.deliv terminal.stored air delivered
      → Kept p base (record s { air = air; terminal = terminal; delivered = delivered })
  receives air terminal delivered more reached radio = record {
    low = k.low;
    sent = k.sent;
    holds = record {
      unconfirmed_are = k.holds.unconfirmed_are;
      low_comes = k.holds.low_comes;
      low_deliv = (let a = k.holds.low_deliv in omega arith);
      sent_comes = k.holds.sent_comes;
      all_sent = k.holds.all_sent;
      taken_are = k.holds.taken_are;
    };
    speaks = speaks_later p (view s) s.tunnel s.bearer k.sent terminal.deliv s.comes (reach terminal.deliv air) more (omega arith)
        (omega (arith, reached)) k.speaks;
    radio = radio;
  }

  pub kept_carries : (count : ℕ) (packet : List ℕ) (rest : List (ℕ × List ℕ)) → s.air ≡ (count, packet) ∷ rest
      → Kept p base (after s (carries count packet rest))
  unfolding after
  kept_carries count packet rest stands = by (nat_lt count s.terminal.deliv) refl
    where
      r : RadioOf p base s
      r = k.radio

      f : (count ≤ s.terminal.deliv) × (packet ≡ p count) × HasNoGap (max s.terminal.deliv (count + 1)) rest
          × AllByRecursion (λ (e : ℕ × List ℕ). e.1 ≡ p e.0) rest
          × (reach s.terminal.deliv ((count, packet) ∷ rest) ≡ reach (max s.terminal.deliv (count + 1)) rest)
      f = first_packet count packet rest (rw stands at r)

      by : (t : Bool) → nat_lt count s.terminal.deliv ≡ t
          → Kept p base (handed (record s { air = rest }) (is_duplicate s.terminal count) (deliver (stored s.terminal count packet)))
      by true t =
          let l : count < s.terminal.deliv = grind arith in
          let e : max s.terminal.deliv (count + 1) ≡ s.terminal.deliv = omega arith in
          let reached : reach s.terminal.deliv s.air ≡ reach s.terminal.deliv rest = ap (reach s.terminal.deliv) stands ∙ f.4 ∙ ap
          (λ n. reach n rest) e in
          subst (λ b. Kept p base (handed (record s { air = rest }) b (deliver (stored s.terminal count packet))))
          (sym (taken_late s.terminal count r.none_stored l))
          (receives rest s.terminal s.delivered (omega arith) reached (record {
            no_gap = subst (λ n. HasNoGap n rest) e f.2;
            packets = f.3;
            reached_limit = (let a = r.reached_limit in omega (arith, reached));
            delivered_are = r.delivered_are;
            none_stored = r.none_stored;
          }))
      by false t =
          let is : count ≡ s.terminal.deliv = (let a = f.0 in let b : s.terminal.deliv ≤ count = grind arith in omega arith) in
          let e : max s.terminal.deliv (count + 1) ≡ s.terminal.deliv + 1 = omega arith in
          let reached : reach s.terminal.deliv s.air ≡ reach (s.terminal.deliv + 1) rest = ap (reach s.terminal.deliv) stands ∙ f.4 ∙ ap
          (λ n. reach n rest) e in
          let low : 0 ≤ s.terminal.deliv = omega arith in
          subst (λ b. Kept p base (handed (record s { air = rest }) b (deliver (stored s.terminal count packet))))
          (sym (taken_next s.terminal count r.none_stored is))
          (subst (λ d. Kept p base (handed (record s { air = rest }) false d)) (sym (handed_up s.terminal count packet r.none_stored is))
          (receives rest (record { deliv = s.terminal.deliv + 1; stored = [] }) (s.delivered ++ (count, packet) ∷ []) (omega arith) reached
          (record {
            no_gap = subst (λ n. HasNoGap n rest) e f.2;
            packets = f.3;
            reached_limit = (let a = r.reached_limit in omega (arith, reached));
            delivered_are = rw (r.delivered_are, f.1, is) (sym (upto-snoc (pairs p) 0 s.terminal.deliv low));
            none_stored = refl;
          })))

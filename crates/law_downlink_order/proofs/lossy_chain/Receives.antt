-- The terminal takes a packet of which nothing before is missing; what was put for the present radio stays.
use Rattle.std.proofs.Common.{◌≡◌, ℕ, ◌+◌, ◌<◌, ◌≤◌, max, Bool, true, false, ◌==◌, nat_lt, List, [], ◌∷◌, ◌++◌, refl, sym, subst, arith}
use Rattle.tables.specs.Tables.{find, put}
use Rattle.intervals.specs.Intervals.{HasNoGap, reach}
use Rattle.intervals.proofs.Intervals.{upto-snoc, reach-le}
use Rattle.pdcp_defs.specs.Receivers.{Receiver, is_duplicate, stored, deliver}
use Rattle.bearer_defs.specs.chain_defs.Models.{Model}
use Rattle.bearer_defs.specs.chain_defs.Orders.{handed}
use Rattle.law_downlink_order.proofs.chain.Facts.{Ghost, view, pairs, Kept, Good}
use Rattle.law_downlink_order.proofs.chain.Frames.{fine_later, same}

-- a list without gap from a place has none from a later one
no_gap_later : {X : Type 0} (n m : ℕ) (xs : List (ℕ × X)) → n ≤ m → HasNoGap n xs → HasNoGap m xs
unfolding HasNoGap
no_gap_later n m [] l h = tt
no_gap_later n m (e ∷ es) l h = (let a = h.0 in omega arith, no_gap_later (max n (e.0 + 1)) (max m (e.0 + 1)) es (omega arith) h.1)

reach_later : {X : Type 0} (n m : ℕ) (xs : List (ℕ × X)) → n ≤ m → (reach n xs ≤ reach m xs) × (reach m xs ≤ max m (reach n xs))
unfolding reach
reach_later n m [] l = (l, omega arith)
reach_later n m (e ∷ es) l =
    let more = reach_later (max n (e.0 + 1)) (max m (e.0 + 1)) es (omega arith) in
    let far = reach-le (max n (e.0 + 1)) es in
    (more.0, (let a = more.1 in omega (arith, far)))

taken_late : (r : Receiver (List ℕ)) (count : ℕ) → count < r.deliv → is_duplicate r count ≡ true
unfolding is_duplicate
taken_late r count l = let t : nat_lt count r.deliv ≡ true = grind arith in rw t

taken_next : (r : Receiver (List ℕ)) (count : ℕ) → r.stored ≡ [] → count ≡ r.deliv → is_duplicate r count ≡ false
unfolding is_duplicate find
taken_next r count none e = let t : nat_lt count r.deliv ≡ false = grind arith in rw (none, t)

handed_up : (r : Receiver (List ℕ)) (count : ℕ) (packet : List ℕ) → r.stored ≡ [] → count ≡ r.deliv
    → deliver (stored r count packet) ≡ record { packets = (count, packet) ∷ []; after = record { deliv = r.deliv + 1; stored = [] } }
unfolding deliver stored put
handed_up r count packet none e = let t : (count == r.deliv) ≡ true = same count r.deliv e in rw (none, t)

module _ (p : ℕ → List ℕ) (w : ℕ) (s : Model) (g : ℕ → Ghost) (k : Kept p w s g) where
  pub kept_receives : (count : ℕ) (packet : List ℕ) → count ≤ s.terminal.deliv → packet ≡ p count → count < s.offered
      → Good p w (handed s (is_duplicate s.terminal count) (deliver (stored s.terminal count packet)))
  kept_receives count packet first is few = by (nat_lt count s.terminal.deliv) refl
    where
      now : Receiver (List ℕ)
      now = record { deliv = s.terminal.deliv + 1; stored = [] }

      later : (reach s.terminal.deliv s.air ≤ reach (s.terminal.deliv + 1) s.air)
          × (reach (s.terminal.deliv + 1) s.air ≤ max (s.terminal.deliv + 1) (reach s.terminal.deliv s.air))
      later = reach_later s.terminal.deliv (s.terminal.deliv + 1) s.air (omega arith)

      by : (t : Bool) → nat_lt count s.terminal.deliv ≡ t
          → Good p w (handed s (is_duplicate s.terminal count) (deliver (stored s.terminal count packet)))
      by true t =
          let l : count < s.terminal.deliv = grind arith in
          subst (λ b. Good p w (handed s b (deliver (stored s.terminal count packet)))) (sym (taken_late s.terminal count l)) (g, k)
      by false t =
          let e : count ≡ s.terminal.deliv = (let b : s.terminal.deliv ≤ count = grind arith in omega arith) in
          let low : 0 ≤ s.terminal.deliv = omega arith in
          subst (λ b. Good p w (handed s b (deliver (stored s.terminal count packet)))) (sym (taken_next s.terminal count k.radio.none_stored e))
          (subst (λ d. Good p w (handed s false d)) (sym (handed_up s.terminal count packet k.radio.none_stored e)) (
            g,
            record {
              each = λ q. fine_later p w (view s) (view (record s { terminal = now; delivered = s.delivered ++ (count, packet) ∷ [] })) q (s.members q) (g q)
                  (record { epoch = omega arith; offered = omega arith; deliv = omega arith; reached = λ _. later.0 }) refl refl refl (k.each q);
              links = k.links;
              radio = record {
                no_gap = no_gap_later s.terminal.deliv (s.terminal.deliv + 1) s.air (omega arith) k.radio.no_gap;
                packets = k.radio.packets;
                reached_offered = (let a = k.radio.reached_offered in let b = later.1 in omega arith);
                delivered_are = rw (k.radio.delivered_are, is, e) (sym (upto-snoc (pairs p) 0 s.terminal.deliv low));
                none_stored = refl;
              };
            },
          ))

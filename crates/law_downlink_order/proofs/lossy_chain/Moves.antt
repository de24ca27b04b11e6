-- A way begins at the context that the terminal is at: what this holds is what the chain says of it.
use Rattle.std.proofs.Common.{inl, inr, ◌≡◌, ◌⊎◌, ℕ, ◌+◌, ◌-◌, ◌<◌, ◌≤◌, Bool, true, false, nat_lt, List, [], ◌∷◌, length, Some, refl, sym, ap, ◌∙◌, true≢false, arith}
use Rattle.intervals.specs.Intervals.{upto, HasNoGap, reach}
use Rattle.intervals.proofs.Intervals.{upto-nil, upto-cons, upto-length, reach-le}
use Rattle.unit_defs.specs.CuUpRecords.{DownlinkTunnel}
use Rattle.bearer_defs.specs.chain_defs.Models.{Model, Member}
use Rattle.law_downlink_order.proofs.chain.Facts.{view, pairs, Own, IsStation, Good}
use Rattle.law_downlink_order.specs.path.Paths.{Path}
use Rattle.law_downlink_order.specs.path.Steps.{begins_anew, after}
use Rattle.law_downlink_order.proofs.path.Facts.{Stands, Marked, Kept}
use Rattle.law_downlink_order.proofs.path.Control.{kept_begins_anew}
use Rattle.law_downlink_order.specs.lossy_chain.Both.{Follows}

-- an interval that isn't empty ends at its first place and length
holds_to : (p : ℕ → List ℕ) (low held deliv comes : ℕ) (xs : List (ℕ × List ℕ)) → low ≤ held → low ≤ deliv → xs ≡ upto (pairs p) low held → Follows deliv xs comes
    → (from : ℕ) × (xs ≡ upto (pairs p) from comes) × (from ≤ comes) × (from ≤ deliv) × ((comes ≡ held) ⊎ (comes ≤ deliv))
holds_to p low held deliv comes [] l d is f = (comes, sym (upto-nil (pairs p) comes comes (omega arith)), omega arith, f, inr f)
holds_to p low held deliv comes (e ∷ es) l d is f = by (nat_lt low held) refl
  where
    by : (t : Bool) → nat_lt low held ≡ t
        → (from : ℕ) × ((e ∷ es) ≡ upto (pairs p) from comes) × (from ≤ comes) × (from ≤ deliv) × ((comes ≡ held) ⊎ (comes ≤ deliv))
    by true t =
        let o : low < held = grind arith in
        let first : e.0 ≡ low = ap first_of (is ∙ upto-cons (pairs p) low held o) in
        let many : length (e ∷ es) ≡ held - low = ap length is ∙ upto-length (pairs p) low held in
        let same : comes ≡ held = (let a : comes ≡ e.0 + length (e ∷ es) = f in omega (arith, a, first, many)) in
        (low, is ∙ ap (upto (pairs p) low) (sym same), omega (arith, same), d, inl same)
      where
        first_of : List (ℕ × List ℕ) → ℕ
        first_of [] = 0
        first_of (x ∷ xs) = x.0
    by false t = absurd (let o : held ≤ low = grind arith in let none = is ∙ upto-nil (pairs p) low held o in cc)

module _ (p : ℕ → List ℕ) (w : ℕ) (s : Model) (good : Good p w s) (base : ℕ) (way : Path) (k : Kept p base way) (same : way.terminal ≡ s.terminal) where
  abbrev m : Member
  m = s.members s.station

  pub kept_moves : (comes : ℕ) (d : DownlinkTunnel) (fmc : ℕ) (bits : List Bool) → Follows s.terminal.deliv m.bearer.sender.unconfirmed comes
      → Kept p way.terminal.deliv (after (record way { bearer = m.bearer; comes = comes }) (begins_anew d fmc bits)) × (comes ≤ s.offered)
  unfolding Stands Marked HasNoGap reach after
  kept_moves comes d fmc bits follows = (kept_begins_anew p way.terminal.deliv before kept_before d fmc bits, few)
    where
      st : IsStation m.is_there m.flags.released (good.0 s.station).gone
      st = (good.1.each s.station).station refl

      own : Own p w (view s) m (good.0 s.station)
      own = (good.1.each s.station).own st.is_there

      it : (from : ℕ) × (m.bearer.sender.unconfirmed ≡ upto (pairs p) from comes) × (from ≤ comes) × (from ≤ s.terminal.deliv)
          × ((comes ≡ (good.0 s.station).held) ⊎ (comes ≤ s.terminal.deliv))
      it = holds_to p (good.0 s.station).low (good.0 s.station).held s.terminal.deliv comes m.bearer.sender.unconfirmed own.numbers.low_held
          own.numbers.low_deliv (own.lists.unconfirmed_are st.keeps) follows

      deliv_is : way.terminal.deliv ≡ s.terminal.deliv
      deliv_is = ap (λ t. t.deliv) same

      delivered_all : s.terminal.deliv ≤ s.offered
      delivered_all = let a = good.1.radio.reached_offered in let b = reach-le s.terminal.deliv s.air in omega arith

      few : comes ≤ s.offered
      few = by it.4
        where
          by : (comes ≡ (good.0 s.station).held) ⊎ (comes ≤ s.terminal.deliv) → comes ≤ s.offered
          by (inl e) = let n = own.numbers in let a = n.held_next in let b = n.next_top in let c = n.top_offered in omega (arith, e)
          by (inr l) = omega (arith, delivered_all)

      before : Path
      before = record way {
        frozen = true;
        bearer = record m.bearer {
          downlink = Some (record d { next = 0 });
          restart = false;
          loss_while_frozen = false;
          taken_while_frozen = upto (λ i. i) it.0 comes;
        };
        tunnel = [];
        du = record way.du { awaited = 0; gap = false };
        listens = false;
        air = [];
        comes = comes;
      }

      none : 0 ≤ 0
      none = omega arith

      kept_before : Kept p way.terminal.deliv before
      kept_before = record {
        low = it.0;
        sent = it.0;
        holds = record {
          unconfirmed_are = it.1;
          low_comes = it.2;
          low_deliv = omega (arith, it.3, deliv_is);
          sent_comes = it.2;
          all_sent = λ u. absurd (true≢false u);
          taken_are = λ _. refl;
        };
        speaks = record {
          need = λ _. way.terminal.deliv;
          downlink = record d { next = 0 };
          there = refl;
          line = record { stands = none; taken = λ u. absurd (true≢false (sym u)) };
          marked = λ _. (let a = it.3 in omega (arith, deliv_is));
        };
        radio = record {
          no_gap = tt;
          packets = tt;
          reached_limit = omega arith;
          delivered_are = k.radio.delivered_are;
          none_stored = k.radio.none_stored;
        };
      }

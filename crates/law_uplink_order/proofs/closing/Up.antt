-- Up: from what holds after every list of orders.
use Rattle.std.proofs.Common.{◌≡◌, ℕ, Bool, true, false, not, ◌||◌, List, [], ◌∷◌, Option, Some, None, refl, ◌∙◌, sym}
use Rattle.unit_defs.specs.CuUpRecords.{SourceHop}
use Rattle.unit_defs.specs.CuUpBearers.{is_one_of, no_uplink}
use Rattle.law_downlink_order.proofs.chain.Frames.{apart}
use Rattle.law_downlink_order.proofs.chain.Runs.{stream, agrees}
use Rattle.bearer_defs.specs.uplink_defs.Models.{Model, initial}
use Rattle.bearer_defs.specs.uplink_defs.Orders.{ModelStep, closes, is_hop_up_done, run, offers_in}
use Rattle.bearer_defs.specs.uplink_defs.Assumptions.{IsReady, AreKept}
use Rattle.law_uplink_order.proofs.facts.Items.{no_data-stands}
use Rattle.law_uplink_order.proofs.facts.Facts.{is_ended, Kept, Good}
use Rattle.law_uplink_order.proofs.uplink.Runs.{kept_run, good_start}
use Rattle.law_uplink_order.specs.closing.Ended.{has_ended_up, EndsUp}

done_up : (t u : Bool) → t ≡ true → not t || u ≡ true → u ≡ true
done_up true u e h = h
done_up false u e h = absurd cc

none_open : (teids : List ℕ) (teid : ℕ) → no_uplink teids ≡ true → is_one_of teids teid ≡ true → ⊥
none_open [] teid h e = absurd cc
none_open (t ∷ teids) teid h e = absurd cc

same_end : (o : Option SourceHop) → is_ended o ≡ has_ended_up o
same_end None = refl
same_end (Some hop) = refl

module _ (p : ℕ → List ℕ) (s : Model) (done : ℕ) (k : (g : _) × Kept p s done g) where
  pub ends_up : (x : ℕ) → (s.members x).is_there ≡ true → IsReady s (closes x) → EndsUp s x
  unfolding IsReady
  ends_up x there (released, closed, over) = record {
    no_forwarded = λ i stands. no_data-stands i (s.members x).forwarded (((k.1.each x).own there).tunnels.over over) stands;
    no_uplink_open = λ teid open_. none_open (s.members x).bearer.uplinks teid closed open_;
    elsewhere = λ e. apart released ((k.1.each x).station e).keeps;
    before = λ y is frozen leads. before_it y is frozen leads (is_ended (s.members y).bearer.hop) refl;
  }
    where
      before_it : (y : ℕ) → (s.members y).is_there ≡ true → (s.members y).flags.frozen ≡ true → (s.members y).next_hop ≡ x → (t : Bool)
          → is_ended (s.members y).bearer.hop ≡ t
          → (has_ended_up (s.members y).bearer.hop ≡ true) × (no_uplink (s.members y).bearer.uplinks ≡ true)
          × (is_hop_up_done (s.members y).flags (s.members y).bearer ≡ true)
      before_it y is frozen leads true e =
          let own = ((k.1.each y).own is).flags.ended e in (sym (same_end (s.members y).bearer.hop) ∙ e, own.0, own.1)
      before_it y is frozen leads false e =
          let l = (k.1.links y x).link (is, frozen, leads) there in
          apart (done_up (s.members x).flags.target (s.members x).bearer.up_ended l.target over) (l.open_ e).0

pub ends_after : (first teid : ℕ) (os : List ModelStep) → AreKept (initial first teid) os → (x : ℕ)
    → ((run (initial first teid) os).members x).is_there ≡ true → IsReady (run (initial first teid) os) (closes x) → EndsUp (run (initial first teid) os) x
unfolding initial
ends_after first teid os kept x there ready =
    let p : ℕ → List ℕ = stream (offers_in os) in
    let good : Good p (run (initial first teid) os) = kept_run p (initial first teid) os (good_start p first teid) kept (agrees (offers_in os)) in
    ends_up p (run (initial first teid) os) good.0 (good.1, good.2) x there ready

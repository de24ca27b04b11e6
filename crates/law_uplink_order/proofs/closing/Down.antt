-- Down: from what holds after every list of orders.
use Rattle.std.proofs.Common.{◌≡◌, ℕ, Bool, true, false, List, refl}
use Rattle.gnb_types.specs.declared.names.SnBits.{SnBits}
use Rattle.pdcp_defs.specs.Senders.{window}
use Rattle.bearer_defs.specs.chain_defs.Models.{Model, initial, is_open, is_fed}
use Rattle.bearer_defs.specs.chain_defs.Orders.{ModelStep, run, offers_in}
use Rattle.bearer_defs.specs.chain_defs.Assumptions.{AreKept}
use Rattle.law_downlink_order.proofs.chain.Facts.{view, Own, Good}
use Rattle.law_downlink_order.proofs.chain.Frames.{apart}
use Rattle.law_downlink_order.proofs.chain.Runs.{stream, agrees, kept_run, good_start}
use Rattle.law_uplink_order.specs.closing.Ended.{IsDoneDown, EndsDown}

module _ (p : ℕ → List ℕ) (w : ℕ) (s : Model) (good : Good p w s) where
  pub ends_down : (x : ℕ) → IsDoneDown (s.members x) → EndsDown s x
  ends_down x (there, closed, ended) = record {
    empty = (own.tunnels.shut ended).1;
    elsewhere = (
      λ e. apart (own.tunnels.closed closed) ((good.1.each x).station e).is_not_gone,
      λ e. apart ((good.1.each x).path e).is_open closed,
    );
    before = λ y is frozen leads. before_it y is frozen leads (is_open (s.members y).bearer.n3) refl;
  }
    where
      own : Own p w (view s) (s.members x) (good.0 x)
      own = (good.1.each x).own there

      not_fed : (y : ℕ) → (s.members y).is_there ≡ true → is_open (s.members y).bearer.n3 ≡ false → (t : Bool) → is_fed (s.members y) ≡ t
          → is_fed (s.members y) ≡ false
      not_fed y is shut true e = apart (((good.1.each y).own is).tunnels.fed_open e) shut
      not_fed y is shut false e = e

      before_it : (y : ℕ) → (s.members y).is_there ≡ true → (s.members y).flags.frozen ≡ true → (s.members y).next_hop ≡ x → (t : Bool)
          → is_open (s.members y).bearer.n3 ≡ t → IsDoneDown (s.members y)
      before_it y is frozen leads true e = apart (good.1.links y x (is, frozen, e, leads) there).open_ ended
      before_it y is frozen leads false e = (is, e, not_fed y is e (is_fed (s.members y)) refl)

pub good_after : (sn : SnBits) (quota first teid : ℕ) (os : List ModelStep) → AreKept sn quota (initial first teid) os
    → Good (stream (offers_in os)) (window sn quota) (run (initial first teid) os)
unfolding initial
good_after sn quota first teid os kept =
    kept_run (stream (offers_in os)) sn quota (initial first teid) os (good_start (stream (offers_in os)) (window sn quota) first teid) kept (agrees (offers_in os))

-- What is so of a context after any kept orders.
use Rattle.std.proofs.Common.{◌≡◌, ℕ, ◌-◌, ◌<◌, true, false, List, [], ◌∷◌, ◌++◌, refl, sym, subst, ◌∙◌, arith}
use Rattle.std.specs.List.{AllByRecursion}
use Rattle.gnb_types.specs.declared.names.SnBits.{SnBits}
use Rattle.intervals.specs.Intervals.{upto, HasNoGap}
use Rattle.intervals.proofs.Intervals.{upto-no_gap, upto-nil}
use Rattle.pdcp_defs.specs.Senders.{window}
use Rattle.bearer_defs.specs.chain_defs.Assumptions.{AreKept}
use Rattle.bearer_defs.specs.chain_defs.Orders.{ModelStep, offers_in, run, after}
use Rattle.bearer_defs.specs.chain_defs.Models.{Member, Model, initial}
use Rattle.law_downlink_order.proofs.chain.Facts.{Good, pairs}
use Rattle.law_downlink_order.proofs.chain.Runs.{stream, agrees, kept_run, good_start}
use Rattle.proof_cu_up_orders.proofs.sending_contexts.Lists.{all_below}

pub record Facts (d : Model) (m : Member) : Type 0 where
  pub no_gap : m.flags.released ≡ false → HasNoGap d.terminal.deliv m.bearer.sender.unconfirmed
  pub serves : m.flags.frozen ≡ false → m.flags.released ≡ false
  -- before its SN status it holds nothing
  pub early : m.flags.may_serve ≡ false → m.flags.released ≡ false → m.bearer.sender.unconfirmed ≡ []
  -- what it holds last is above the others
  pub below : m.flags.released ≡ false → (us : List (ℕ × List ℕ)) (e : ℕ × List ℕ) → m.bearer.sender.unconfirmed ≡ us ++ e ∷ []
      → AllByRecursion (λ (u : ℕ × List ℕ). u.0 < e.0) us

pub run_more : (s : Model) (os more : List ModelStep) → run s (os ++ more) ≡ run (run s os) more
unfolding run
run_more s [] more = refl
run_more s (o ∷ os) more = run_more (after s o) os more

pub kept_first : (sn : SnBits) (quota : ℕ) (s : Model) (os more : List ModelStep) → AreKept sn quota s (os ++ more) → AreKept sn quota s os
unfolding AreKept
kept_first sn quota s [] more h = tt
kept_first sn quota s (o ∷ os) more h = (h.0, h.1, kept_first sn quota (after s o) os more h.2)

pub kept_rest : (sn : SnBits) (quota : ℕ) (s : Model) (os more : List ModelStep) → AreKept sn quota s (os ++ more) → AreKept sn quota (run s os) more
unfolding AreKept run
kept_rest sn quota s [] more h = h
kept_rest sn quota s (o ∷ os) more h = kept_rest sn quota (after s o) os more h.2

module _ (sn : SnBits) (quota first teid : ℕ) (os : List ModelStep) (kept : AreKept sn quota (initial first teid) os) where
  abbrev s : Model
  s = run (initial first teid) os

  good : Good (stream (offers_in os)) (window sn quota) s
  unfolding initial
  good =
      kept_run (stream (offers_in os)) sn quota (initial first teid) os (good_start (stream (offers_in os)) (window sn quota) first teid) kept
      (agrees (offers_in os))

  pub facts_are : (x : ℕ) → (s.members x).is_there ≡ true → Facts s (s.members x)
  unfolding upto
  facts_are x there =
      let own = (good.1.each x).own there in
      let g = good.0 x in
      let p = stream (offers_in os) in record {
        no_gap = λ keeps. subst (λ (xs : List (ℕ × List ℕ)). HasNoGap s.terminal.deliv xs) (sym (own.lists.unconfirmed_are keeps))
            (upto-no_gap p s.terminal.deliv g.low g.held own.numbers.low_deliv);
        serves = λ e. (own.flags.serves e).0;
        early = λ e keeps. own.lists.unconfirmed_are keeps
            ∙ upto-nil (pairs p) g.low g.held (let same = own.status.early e in omega (arith, same));
        below = λ keeps us e is. all_below p g.low (g.held - g.low) us e (sym (own.lists.unconfirmed_are keeps) ∙ is);
      }

-- and so after further ones
pub facts_then : (sn : SnBits) (quota first teid : ℕ) (os more : List ModelStep) → AreKept sn quota (initial first teid) (os ++ more)
    → let t = run (run (initial first teid) os) more in (x : ℕ) → (t.members x).is_there ≡ true → Facts t (t.members x)
facts_then sn quota first teid os more kept =
    subst (λ (t : Model). (x : ℕ) → (t.members x).is_there ≡ true → Facts t (t.members x)) (run_more (initial first teid) os more)
    (facts_are sn quota first teid (os ++ more) kept)

-- What holds at the start and is kept by each order holds after every list of orders.
use Rattle.std.proofs.Common.{◌≡◌, ℕ, zero, suc, ◌+◌, ◌≤◌, Bool, true, false, List, [], ◌∷◌, length, refl, sym, ap, subst, ◌∙◌, true≢false, arith}
use Rattle.std.specs.Prelude.{⊤}
use Rattle.gnb_types.specs.declared.names.SnBits.{SnBits}
use Rattle.intervals.specs.Intervals.{segment, upto, HasNoGap, reach}
use Rattle.pdcp_defs.specs.Senders.{window}
use Rattle.pdcp_defs.specs.Receivers.{Delivery, is_duplicate, stored, deliver}
use Rattle.unit_defs.specs.CuUpBearers.{made}
use Rattle.bearer_defs.specs.chain_defs.Models.{Model, set, initial, no_member, new_member}
use Rattle.bearer_defs.specs.chain_defs.Orders.{ModelStep, offers, switches_path, makes, freezes, knows, switches, resumes, releases, closes, arrives, fails, keeps_n3, keeps_fresh, passes_n3, passes_fresh, sends, passes_numbered, drops, ends_n3, ends_hop, numbers, confirms, reports, reports_loss, sends_again, carries, handed, after, run, offers_in}
use Rattle.bearer_defs.specs.chain_defs.Assumptions.{IsReady, IsAssumed, AreKept}
use Rattle.law_downlink_order.proofs.chain.Tunnels.{flow-none}
use Rattle.law_downlink_order.proofs.chain.Facts.{Ghost, view, MemberInvariant, Linked, Kept, Good}
use Rattle.law_downlink_order.proofs.chain.Frames.{put_each}
use Rattle.law_downlink_order.proofs.chain.Gets.{kept_keeps_n3, kept_keeps_fresh, kept_passes_n3, kept_passes_fresh, kept_sends, kept_passes_numbered, kept_ends_n3, kept_ends_hop}
use Rattle.law_downlink_order.proofs.chain.Senders.{kept_numbers, kept_confirms, kept_reports, kept_tells_loss, kept_sends_again}
use Rattle.law_downlink_order.proofs.chain.Control.{kept_makes, kept_freezes, kept_knows, kept_switches, kept_resumes, kept_releases, kept_closes, kept_arrives, kept_fails}
use Rattle.law_downlink_order.proofs.chain.Core.{kept_offers, kept_switches_path, kept_carries, never_drops}

-- ---- what is offered, as a function

unfoldable pub stream : List (List ℕ) → ℕ → List ℕ
stream [] i = []
stream (x ∷ xs) zero = x
stream (x ∷ xs) (suc i) = stream xs i

unfoldable pub Agrees : (ℕ → List ℕ) → ℕ → List (List ℕ) → Type 0
Agrees p n [] = ⊤
Agrees p n (x ∷ xs) = (x ≡ p n) × Agrees p (n + 1) xs

agrees_by : (p : ℕ → List ℕ) (n : ℕ) (xs : List (List ℕ)) → ((i : ℕ) → p (n + i) ≡ stream xs i) → Agrees p n xs
unfolding Agrees stream
agrees_by p n [] h = tt
agrees_by p n (x ∷ xs) h =
    let e : n + 0 ≡ n = omega arith in
    (sym (ap p (sym e) ∙ h 0), agrees_by p (n + 1) xs (λ i. (let f : n + 1 + i ≡ n + suc i = omega arith in ap p f ∙ h (suc i))))

pub agrees : (xs : List (List ℕ)) → Agrees (stream xs) 0 xs
agrees xs = agrees_by (stream xs) 0 xs (λ i. (let e : 0 + i ≡ i = omega arith in ap (stream xs) e))

OfferIs : (ℕ → List ℕ) → Model → ModelStep → Type 0
OfferIs p s (offers packet) = packet ≡ p s.offered
OfferIs p s o = ⊤

-- ---- each order

module _ (p : ℕ → List ℕ) (sn : SnBits) (quota : ℕ) (s : Model) (g : ℕ → Ghost) (k : Kept p (window sn quota) s g) where
  kept_order : (o : ModelStep) → IsReady sn quota s o → IsAssumed s o → OfferIs p s o → Good p (window sn quota) (after s o)
  unfolding IsReady IsAssumed OfferIs
  kept_order (offers packet) r d is = kept_offers p (window sn quota) s g k packet is
  kept_order (switches_path to) r d is = kept_switches_path p (window sn quota) s g k to d.0 d.1 d.2
  kept_order (makes x target teid) r d is = kept_makes p (window sn quota) s g k x target teid r d
  kept_order (freezes x to hop) r d is = kept_freezes p (window sn quota) s g k x to hop r.0 r.1 r.2 d.0 d.1 d.2 d.3
  kept_order (knows x status) r d is = kept_knows p (window sn quota) s g k x status r.0 r.1 d
  kept_order (switches x downlink epoch) r d is = kept_switches p (window sn quota) s g k x downlink epoch r d.0 d.1
  kept_order (resumes x) r d is = kept_resumes p (window sn quota) s g k x r.0 r.1 d
  kept_order (releases x) r d is = kept_releases p (window sn quota) s g k x r d.0 d.1
  kept_order (closes x) r d is = kept_closes p (window sn quota) s g k x d
  kept_order (arrives x) r d is = kept_arrives p (window sn quota) s g k x d.0 d.1 d.2 d.3
  kept_order fails r d is = kept_fails p (window sn quota) s g k 0
  kept_order (keeps_n3 x packet rest) r d is = kept_keeps_n3 p (window sn quota) s g k x packet rest r.0 r.1
  kept_order (keeps_fresh x packet rest) r d is = kept_keeps_fresh p (window sn quota) s g k x packet rest r.0 r.1
  kept_order (passes_n3 x packet rest) r d is = kept_passes_n3 p (window sn quota) s g k x packet rest r.0 r.1
  kept_order (passes_fresh x packet rest) r d is = kept_passes_fresh p (window sn quota) s g k x packet rest r.0 r.1
  kept_order (sends x count packet rest) r d is = kept_sends p (window sn quota) s g k x count packet rest r.0 r.1
  kept_order (passes_numbered x count packet rest) r d is = kept_passes_numbered p (window sn quota) s g k x count packet rest r.0 r.1
  kept_order (drops x count packet rest) r d is = absurd (never_drops p sn quota s g k x count packet rest r.0 r.1 r.2)
  kept_order (ends_n3 x rest) r d is = kept_ends_n3 p (window sn quota) s g k x rest r.0
  kept_order (ends_hop x rest) r d is = kept_ends_hop p (window sn quota) s g k x rest r
  kept_order (numbers x packet rest) r d is = kept_numbers p sn quota s g k x packet rest r.0 r.1 r.2 r.3 r.4
  kept_order (confirms x count) r d is = kept_confirms p (window sn quota) s g k x count r d
  kept_order (reports x fmc bits) r d is = kept_reports p (window sn quota) s g k x fmc bits r d.0 d.1
  kept_order (reports_loss x) r d is = kept_tells_loss p (window sn quota) s g k x r
  kept_order (sends_again x) r d is = kept_sends_again p (window sn quota) s g k x r.0 r.1
  kept_order (carries count packet rest) r d is = kept_carries p (window sn quota) s g k count packet rest r

-- ---- lists of orders

-- what an order offers, and what is left to be offered
offers_after : (p : ℕ → List ℕ) (s : Model) (o : ModelStep) (os : List ModelStep) → Agrees p s.offered (offers_in (o ∷ os))
    → OfferIs p s o × Agrees p (after s o).offered (offers_in os)
unfolding after offers_in Agrees OfferIs
offers_after p s (offers packet) os h = h
offers_after p s (carries count packet rest) os h = (
  tt,
  subst (λ n. Agrees p n (offers_in os)) (sym (was_received (is_duplicate s.terminal count) (deliver (stored s.terminal count packet))))
      h,
)
  where
    was_received : (b : Bool) (d : Delivery (List ℕ)) → (handed (record s { air = rest }) b d).offered ≡ s.offered
    was_received true d = refl
    was_received false d = refl
offers_after p s _ os h = (tt, h)

counts_after : (s : Model) (o : ModelStep) (os : List ModelStep) → (after s o).offered + length (offers_in os) ≡ s.offered + length
    (offers_in (o ∷ os))
unfolding after offers_in
counts_after s (offers packet) os = omega arith
counts_after s (carries count packet rest) os = ap (λ n. n + length (offers_in os))
    (was_received (is_duplicate s.terminal count) (deliver (stored s.terminal count packet)))
  where
    was_received : (b : Bool) (d : Delivery (List ℕ)) → (handed (record s { air = rest }) b d).offered ≡ s.offered
    was_received true d = refl
    was_received false d = refl
counts_after s _ os = refl

pub all_offered : (s : Model) (os : List ModelStep) → (run s os).offered ≡ s.offered + length (offers_in os)
unfolding run offers_in
all_offered s [] = omega arith
all_offered s (o ∷ os) = all_offered (after s o) os ∙ counts_after s o os

pub kept_run : (p : ℕ → List ℕ) (sn : SnBits) (quota : ℕ) (s : Model) (os : List ModelStep) → Good p (window sn quota) s → AreKept sn quota s os
    → Agrees p s.offered (offers_in os) → Good p (window sn quota) (run s os)
unfolding run AreKept
kept_run p sn quota s [] k a h = k
kept_run p sn quota s (o ∷ os) k a h =
    let e = offers_after p s o os h in
    kept_run p sn quota (after s o) os (kept_order p sn quota s k.0 k.1 o a.0 a.1 e.0) a.2 e.1

-- ---- the start

at_start : Ghost
at_start = record {
  low = 0;
  held = 0;
  sent = 0;
  base = 0;
  next = 0;
  top = 0;
  hop_held = 0;
  hop_top = 0;
  n3_low = 0;
  n3_high = 0;
  from = 0;
  ended = false;
  gone = false;
  pathed = true;
}

pub good_start : (p : ℕ → List ℕ) (w x teid : ℕ) → Good p w (initial x teid)
unfolding at_start made reach HasNoGap upto segment initial
good_start p w x teid = (
  set (λ _. at_start) x at_start,
  record {
    each = put_each (λ q m g. MemberInvariant p w (view (initial x teid)) q m g) (λ _. no_member) (λ _. at_start) x (new_member false teid) at_start
        (record {
          own = λ _. record {
            lists = record { unconfirmed_are = λ _. refl; taken_are = λ _ _. refl; waiting_are = λ _. refl };
            status = record { next_is = λ _. refl; base_is = λ _. refl; promised_is = λ _. refl; early = λ _. refl; early_base = λ _. refl };
            tunnels = record {
              is_fed = λ e. absurd (true≢false (sym e));
              is_n3 = λ _. record { items = sym (flow-none p 0 0 none); ordered = none; offered_all = none };
              fed_open = λ _. refl;
              shut = λ _. (none, refl);
              shut_n3 = λ _ _. refl;
              closed = λ e. absurd (true≢false e);
            };
            flags = record { serves = λ _. (refl, refl); leads = λ e. absurd (true≢false (sym e)); gone_frozen = λ e. e };
            spoken = record { spoke = none; spoken = λ _. none };
            numbers = record {
              low_held = none;
              held_next = none;
              next_top = none;
              top_offered = none;
              low_deliv = none;
              sent_held = none;
              base_next = none;
              window = omega arith;
              none_waits = λ _. refl;
              all_held = λ _. refl;
            };
          };
          path = λ _. record { is_there = refl; is_open = refl; is_last = refl; is_not_gone = refl; is_pathed = refl };
          station = λ _. record { is_there = refl; keeps = refl; is_not_gone = refl };
        })
        (λ q far. record { own = λ e. absurd (true≢false (sym e)); path = λ e. absurd (far e); station = λ e. absurd (far e) });
    links = λ q r. put_each
        (λ i m g. Linked i m g r (set (λ _. no_member) x (new_member false teid) r) (set (λ _. at_start) x at_start r)) (λ _. no_member)
        (λ _. at_start) x
        (new_member false teid) at_start (λ e _. absurd (true≢false (sym e.1))) (λ i far e _. absurd (true≢false (sym e.0))) q;
    radio = record { no_gap = tt; packets = tt; reached_offered = none; delivered_are = refl; none_stored = refl };
  },
)
  where
    none : 0 ≤ 0
    none = omega arith

-- What an order sends comes to the end of the chain's radio; and what nothing confirmed begins at or below what was received.
use Rattle.std.proofs.Common.{◌≡◌, ℕ, ◌<◌, Bool, true, false, ◌==◌, List, [], ◌∷◌, ◌++◌, ◌⊎◌, inl, inr, refl, sym, ap, subst, arith}
use Rattle.std.specs.Prelude.{if◌then◌else◌}
use Rattle.std.specs.List.{AllByRecursion}
use Rattle.gnb_types.specs.declared.names.SnBits.{SnBits}
use Rattle.intervals.specs.Intervals.{HasNoGap}
use Rattle.intervals.proofs.Intervals.{upto-no_gap}
use Rattle.pdcp_defs.specs.Senders.{window}
use Rattle.unit_defs.specs.CuUpBearers.{owed}
use Rattle.unit_defs.specs.CuUpRecords.{DownlinkTunnel}
use Rattle.bearer_defs.specs.chain_defs.Models.{Item, Model, initial}
use Rattle.bearer_defs.specs.chain_defs.Orders.{after, numbers, ModelStep, resumes, run, sends, sends_again, switches, offers_in}
use Rattle.bearer_defs.specs.chain_defs.Assumptions.{AreKept}
use Rattle.law_downlink_order.proofs.chain.Facts.{Good}
use Rattle.law_downlink_order.proofs.chain.Runs.{stream, agrees, kept_run, good_start}
use Rattle.law_downlink_order.specs.received_packets.Received.{StandsAmong, WasPut}

number_same : (a b : ℕ) → a ≡ b → (a == b) ≡ true
number_same a b e = grind arith

-- ---- what is put stands at the end

among_then : (count : ℕ) (packet : List ℕ) (xs ys : List (ℕ × List ℕ)) → StandsAmong count packet ys → StandsAmong count packet (xs ++ ys)
unfolding StandsAmong
among_then count packet [] ys h = h
among_then count packet ((c, x) ∷ xs) ys h = inr (among_then count packet xs ys h)

all_among : (xs ys : List (ℕ × List ℕ)) → ((e : ℕ × List ℕ) → StandsAmong e.0 e.1 ys → StandsAmong e.0 e.1 xs)
    → AllByRecursion (λ (e : ℕ × List ℕ). StandsAmong e.0 e.1 xs) ys
unfolding StandsAmong
all_among xs [] on = tt
all_among xs ((c, x) ∷ ys) on = (on (c, x) (inl (refl, refl)), all_among xs ys (λ e h. on e (inr h)))

all_right : (deliv : ℕ) (xs ys : List (ℕ × List ℕ)) → AllByRecursion (λ (e : ℕ × List ℕ). StandsAmong e.0 e.1 xs) ys
    → AllByRecursion (λ (e : ℕ × List ℕ). (e.0 < deliv) ⊎ StandsAmong e.0 e.1 xs) ys
all_right deliv xs [] all = tt
all_right deliv xs (y ∷ ys) all = (inr all.0, all_right deliv xs ys all.1)

-- where the context was switched for the present radio
module _ (s : Model) (epoch : ℕ) (same : epoch ≡ s.epoch) (items : List (ℕ × List ℕ)) where
  abbrev air : List (ℕ × List ℕ)
  air = if epoch == s.epoch then s.air ++ items else s.air

  air_is : s.air ++ items ≡ air
  air_is = sym (let t : (epoch == s.epoch) ≡ true = number_same epoch s.epoch same in ap (λ (b : Bool). if b then s.air ++ items else s.air) t)

  all_put : AllByRecursion (λ (e : ℕ × List ℕ). (e.0 < s.terminal.deliv) ⊎ StandsAmong e.0 e.1 air) items
  all_put =
      subst (λ (xs : List (ℕ × List ℕ)). AllByRecursion (λ (e : ℕ × List ℕ). (e.0 < s.terminal.deliv) ⊎ StandsAmong e.0 e.1 xs) items) air_is
      (all_right s.terminal.deliv (s.air ++ items) items (all_among (s.air ++ items) items (λ e h. among_then e.0 e.1 s.air items h)))

module _ (s : Model) (x : ℕ) where
  pub numbered : (packet : List ℕ) (rest : List (List ℕ)) → (s.members x).epoch ≡ s.epoch
      → WasPut (after s (numbers x packet rest)) (s.members x).bearer.sender.next packet
  unfolding after
  numbered packet rest same = (all_put s (s.members x).epoch same (((s.members x).bearer.sender.next, packet) ∷ [])).0

  pub sent_on : (count : ℕ) (packet : List ℕ) (rest : List Item) → (s.members x).epoch ≡ s.epoch → WasPut (after s (sends x count packet rest)) count packet
  unfolding after
  sent_on count packet rest same = (all_put s (s.members x).epoch same ((count, packet) ∷ [])).0

  pub sent_again : (s.members x).epoch ≡ s.epoch
      → AllByRecursion (λ (e : ℕ × List ℕ). WasPut (after s (sends_again x)) e.0 e.1) (s.members x).bearer.sender.unconfirmed
  unfolding after
  sent_again same = all_put s (s.members x).epoch same (s.members x).bearer.sender.unconfirmed

  pub switched : (downlink : DownlinkTunnel) → (s.members x).flags.may_serve ≡ true
      → AllByRecursion (λ (e : ℕ × List ℕ). WasPut (after s (switches x downlink s.epoch)) e.0 e.1) (s.members x).bearer.sender.unconfirmed
  unfolding after
  switched downlink known =
      subst (λ (t : Bool). AllByRecursion (λ (e : ℕ × List ℕ). (e.0 < s.terminal.deliv)
      ⊎ StandsAmong e.0 e.1 (if s.epoch == s.epoch then s.air ++ (if t then (s.members x).bearer.sender.unconfirmed else []) else s.air))
      (s.members x).bearer.sender.unconfirmed) (sym known) (all_put s s.epoch refl (s.members x).bearer.sender.unconfirmed)

  pub resumed : (s.members x).epoch ≡ s.epoch
      → AllByRecursion (λ (e : ℕ × List ℕ). WasPut (after s (resumes x)) e.0 e.1) (owed (s.members x).bearer)
  unfolding after
  resumed same = all_put s (s.members x).epoch same (owed (s.members x).bearer)

-- ---- what nothing confirmed

module _ (sn : SnBits) (quota first teid : ℕ) (os : List ModelStep) (kept : AreKept sn quota (initial first teid) os) where
  abbrev s : Model
  s = run (initial first teid) os

  good : Good (stream (offers_in os)) (window sn quota) s
  unfolding initial
  good =
      kept_run (stream (offers_in os)) sn quota (initial first teid) os (good_start (stream (offers_in os)) (window sn quota) first teid) kept
      (agrees (offers_in os))

  pub unconfirmed_fits : (x : ℕ) → (s.members x).is_there ≡ true → (s.members x).flags.released ≡ false
      → HasNoGap s.terminal.deliv (s.members x).bearer.sender.unconfirmed
  unconfirmed_fits x there keeps =
      let own = (good.1.each x).own there in
      subst (λ (xs : List (ℕ × List ℕ)). HasNoGap s.terminal.deliv xs) (sym (own.lists.unconfirmed_are keeps))
      (upto-no_gap (stream (offers_in os)) s.terminal.deliv (good.0 x).low (good.0 x).held own.numbers.low_deliv)

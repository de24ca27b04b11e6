-- What holds at the start and is kept by each step holds after every list of steps; and the laws from that.
use Rattle.std.proofs.Common.{◌≡◌, ℕ, zero, suc, ◌+◌, ◌-◌, ◌<◌, ◌≤◌, max, Bool, true, false, if◌then◌else◌, List, [], ◌∷◌, length, take, Some, slice_get, nat_le, refl, sym, ap, subst, ◌∙◌, arith}
use Rattle.std.specs.List.{enumerate_from}
use Rattle.gnb_types.specs.declared.names.SnBits.{SnBits}
use Rattle.intervals.specs.Intervals.{segment, upto, HasNoGap, reach}
use Rattle.intervals.proofs.Intervals.{upto-length, reach-le}
use Rattle.pdcp_defs.specs.Senders.{window}
use Rattle.pdcp_defs.specs.Receivers.{Receiver, Delivery, is_duplicate, is_ahead, stored, deliver}
use Rattle.unit_defs.specs.CuUpRecords.{DownlinkTunnel}
use Rattle.unit_defs.specs.Du.{DuBearer}
use Rattle.bearer_defs.specs.chain_defs.Models.{Model}
use Rattle.bearer_defs.specs.chain_defs.Models as models
use Rattle.bearer_defs.specs.chain_defs.Orders.{ModelStep, offers, carries, handed}
use Rattle.bearer_defs.specs.chain_defs.Orders as orders
use Rattle.bearer_defs.specs.chain_defs.Assumptions as guards
use Rattle.law_downlink_order.specs.chain.Words.{DeliversInOrder}
use Rattle.law_downlink_order.proofs.chain.Facts.{pairs, Good}
use Rattle.law_downlink_order.proofs.chain.Laws.{first_ones}
use Rattle.law_downlink_order.proofs.chain.Runs.{stream, Agrees, agrees}
use Rattle.law_downlink_order.proofs.chain.Runs as chain_runs
use Rattle.law_downlink_order.specs.path.Paths.{Path}
use Rattle.law_downlink_order.specs.path.Paths as paths
use Rattle.law_downlink_order.specs.path.Steps as ways
use Rattle.law_downlink_order.specs.path.Words.{TakesAtOnce}
use Rattle.law_downlink_order.proofs.path.Facts as way_facts
use Rattle.law_downlink_order.proofs.path.Carries as way_carries
use Rattle.law_downlink_order.proofs.path.Runs.{Comes, kept_step, kept_start}
use Rattle.law_downlink_order.specs.lossy_chain.Both.{Both, Step, by_chain, by_way, receives, moves, after, run, start, orders_in, offers_in, IsOfChain, IsOfDownlinkPath, Brings, Asks, AreKept}
use Rattle.law_downlink_order.proofs.lossy_chain.Receives.{kept_receives}
use Rattle.law_downlink_order.proofs.lossy_chain.Moves.{kept_moves}

-- ---- what the orders of the chain leave

terminal_stays : (s : Model) (o : ModelStep) → IsOfChain o → (orders.after s o).terminal ≡ s.terminal
unfolding orders.after
terminal_stays s (carries count packet rest) h = absurd h
terminal_stays s _ h = refl

offered_grows : (s : Model) (o : ModelStep) → IsOfChain o → s.offered ≤ (orders.after s o).offered
unfolding orders.after
offered_grows s (carries count packet rest) h = absurd h
offered_grows s (offers packet) h = omega arith
offered_grows s _ h = (let a : s.offered ≤ s.offered = omega arith in a)

-- what it offers, and what is left to be offered
offers_one : (p : ℕ → List ℕ) (n : ℕ) (o : ModelStep) (os : List ModelStep) → Agrees p n (orders.offers_in (o ∷ os)) → Agrees p n (orders.offers_in (o ∷ []))
unfolding orders.offers_in Agrees
offers_one p n (offers packet) os h = (h.0, tt)
offers_one p n _ os h = tt

offers_left : (p : ℕ → List ℕ) (s : Model) (o : ModelStep) (os : List ModelStep) → IsOfChain o → Agrees p s.offered (orders.offers_in (o ∷ os))
    → Agrees p (orders.after s o).offered (orders.offers_in os)
unfolding orders.after orders.offers_in Agrees
offers_left p s (carries count packet rest) os c h = absurd c
offers_left p s (offers packet) os c h = h.1
offers_left p s _ os c h = h

counts_left : (s : Model) (o : ModelStep) (os : List ModelStep) → IsOfChain o
    → (orders.after s o).offered + length (orders.offers_in os) ≡ s.offered + length (orders.offers_in (o ∷ os))
unfolding orders.after orders.offers_in
counts_left s (carries count packet rest) os c = absurd c
counts_left s (offers packet) os c = omega arith
counts_left s _ os c = refl

-- ---- what the steps of the way leave

way_terminal : (s : Path) (o : ways.Step) → IsOfDownlinkPath o → (ways.after s o).terminal ≡ s.terminal
unfolding ways.after
way_terminal s (ways.carries count packet rest) h = absurd h
way_terminal s _ h = refl

-- where a packet is brought, it was offered before
comes_few : (offered : List (List ℕ)) (s : Both) (o : ways.Step) → IsOfDownlinkPath o → Brings offered s o → s.way.comes ≤ s.chain.offered
    → (ways.after s.way o).comes ≤ s.chain.offered
unfolding ways.after
comes_few offered s (ways.carries count packet rest) w h l = absurd w
comes_few offered s (ways.numbers packet) w h l = (let a = h.1 in omega arith)
comes_few offered s (ways.sends count packet) w h l = (let a = h.1 in omega arith)
comes_few offered s (ways.keeps count packet) w h l = (let a = h.1 in omega arith)
comes_few offered s _ w h l = l

stream_is : (xs : List (List ℕ)) (i : ℕ) (x : List ℕ) → slice_get xs i ≡ Some x → x ≡ stream xs i
unfolding stream
stream_is [] i x h = absurd cc
stream_is (y ∷ ys) zero x h = cc
stream_is (y ∷ ys) (suc i) x h = stream_is ys i x h

brings_right : (offered : List (List ℕ)) (s : Both) (o : ways.Step) → Brings offered s o → Comes (stream offered) s.way o
unfolding Comes
brings_right offered s (ways.numbers packet) h = stream_is offered s.way.comes packet h.0
brings_right offered s (ways.sends count packet) h = stream_is offered s.way.comes packet h.0
brings_right offered s (ways.keeps count packet) h = stream_is offered s.way.comes packet h.0
brings_right offered s _ h = tt

-- ---- both

pub record Kept (p : ℕ → List ℕ) (w : ℕ) (s : Both) : Type 0 where
  pub base : ℕ
  pub good : Good p w s.chain
  pub way : way_facts.Kept p base s.way
  pub same : s.way.terminal ≡ s.chain.terminal
  pub comes : s.way.comes ≤ s.chain.offered
  pub base_few : base ≤ s.chain.offered

-- both receive alike
chain_received : (s : Model) (b : Bool) (d : Delivery (List ℕ)) → ((handed s b d).terminal ≡ (if b then s.terminal else d.after)) × ((handed s b d).offered ≡ s.offered)
chain_received s true d = (refl, refl)
chain_received s false d = (refl, refl)

way_received : (s : Path) (b : Bool) (d : Delivery (List ℕ))
    → ((ways.handed s b d).terminal ≡ (if b then s.terminal else d.after)) × ((ways.handed s b d).comes ≡ s.comes)
way_received s true d = (refl, refl)
way_received s false d = (refl, refl)

first_received : (p : ℕ → List ℕ) (limit : ℕ) (t : Receiver (List ℕ)) (count : ℕ) (packet : List ℕ) (rest delivered : List (ℕ × List ℕ))
    → way_facts.Radio p limit t.deliv t.stored ((count, packet) ∷ rest) delivered → (count ≤ t.deliv) × (packet ≡ p count) × (count < limit)
unfolding HasNoGap reach
first_received p limit t count packet rest delivered r =
    (r.no_gap.0, r.packets.0, (let a = r.reached_limit in let b = reach-le (max t.deliv (count + 1)) rest in omega arith))

module _ (sn : SnBits) (quota : ℕ) (offered : List (List ℕ)) where
  abbrev p : ℕ → List ℕ
  p = stream offered

  abbrev w : ℕ
  w = window sn quota

  kept_both : (s : Both) (k : Kept p w s) (o : Step) (os : List Step) → Asks sn quota offered s o → Agrees p s.chain.offered (offers_in (o ∷ os))
      → Kept p w (after s o) × Agrees p (after s o).chain.offered (offers_in os)
  unfolding after orders_in guards.AreKept orders.run ways.after
  kept_both s k (by_chain o) os (of_chain, ready, assumed) h =
      let more = offered_grows s.chain o of_chain in (
        record {
          base = k.base;
          good = chain_runs.kept_run p sn quota s.chain (o ∷ []) k.good (ready, assumed, tt) (offers_one p s.chain.offered o (orders_in os) h);
          way = k.way;
          same = k.same ∙ sym (terminal_stays s.chain o of_chain);
          comes = (let a = k.comes in omega (arith, more));
          base_few = (let a = k.base_few in omega (arith, more));
        },
        offers_left p s.chain o (orders_in os) of_chain h,
      )
  kept_both s k (by_way o) os (of_way, ready, assumed, brings) h = (
    record {
      base = k.base;
      good = k.good;
      way = kept_step p k.base s.way k.way o ready assumed (brings_right offered s o brings);
      same = way_terminal s.way o of_way ∙ k.same;
      comes = comes_few offered s o of_way brings k.comes;
      base_few = k.base_few;
    },
    h,
  )
  kept_both s k (receives count packet rest) os stands h =
      let f = first_received p (max k.base s.way.comes) s.way.terminal count packet rest s.way.delivered
      (subst (λ air. way_facts.Radio p (max k.base s.way.comes) s.way.terminal.deliv s.way.terminal.stored air s.way.delivered) stands k.way.radio) in
      let deliv_is : s.way.terminal.deliv ≡ s.chain.terminal.deliv = ap (λ t. t.deliv) k.same in
      let c = chain_received s.chain (is_duplicate s.chain.terminal count) (deliver (stored s.chain.terminal count packet)) in
      let v = way_received (record s.way { air = rest }) (is_duplicate s.way.terminal count) (deliver (stored s.way.terminal count packet)) in (
        record {
          base = k.base;
          good = kept_receives p w s.chain k.good.0 k.good.1 count packet (let a = f.0 in omega (arith, deliv_is)) f.1
              (let a = f.2 in let b = k.comes in let d = k.base_few in omega arith);
          way = way_carries.kept_carries p k.base s.way k.way count packet rest stands;
          same = v.0 ∙ (λ i. if is_duplicate (k.same i) count then k.same i else (deliver (stored (k.same i) count packet)).after) ∙ sym c.0;
          comes = (let a = k.comes in omega (arith, c.1, v.1));
          base_few = (let a = k.base_few in omega (arith, c.1));
        },
        subst (λ n. Agrees p n (offers_in os)) (sym c.1) h,
      )
  kept_both s k (moves comes downlink fmc bits) os follows h =
      let j = kept_moves p w s.chain k.good k.base s.way k.way k.same comes downlink fmc bits follows in
      let deliv_is : s.way.terminal.deliv ≡ s.chain.terminal.deliv = ap (λ t. t.deliv) k.same in (
        record {
          base = s.way.terminal.deliv;
          good = k.good;
          way = j.0;
          same = k.same;
          comes = j.1;
          base_few = (let a = k.good.1.radio.reached_offered in let b = reach-le s.chain.terminal.deliv s.chain.air in omega (arith, deliv_is));
        },
        h,
      )

  pub kept_run : (s : Both) (os : List Step) → Kept p w s → AreKept sn quota offered s os → Agrees p s.chain.offered (offers_in os) → Kept p w (run s os)
  unfolding run AreKept
  kept_run s [] k a h = k
  kept_run s (o ∷ os) k a h =
      let one = kept_both s k o os a.0 h in
      kept_run (after s o) os one.0 a.1 one.1

  pub kept_at_start : (first teid : ℕ) (d : DownlinkTunnel) (du : DuBearer) → Kept p w (start first teid d du)
  unfolding start models.initial paths.start
  kept_at_start first teid d du = record {
    base = 0;
    good = chain_runs.good_start p w first teid;
    way = kept_start p teid d du;
    same = refl;
    comes = omega arith;
    base_few = omega arith;
  }

-- ---- how many were offered

counts_after : (sn : SnBits) (quota : ℕ) (offered : List (List ℕ)) (s : Both) (o : Step) (os : List Step) → Asks sn quota offered s o
    → (after s o).chain.offered + length (offers_in os) ≡ s.chain.offered + length (offers_in (o ∷ os))
unfolding after orders_in
counts_after sn quota offered s (by_chain o) os asked = counts_left s.chain o (orders_in os) asked.0
counts_after sn quota offered s (by_way o) os asked = refl
counts_after sn quota offered s (receives count packet rest) os asked =
    ap (λ n. n + length (offers_in os)) (chain_received s.chain (is_duplicate s.chain.terminal count) (deliver (stored s.chain.terminal count packet))).1
counts_after sn quota offered s (moves comes downlink fmc bits) os asked = refl

all_offered : (sn : SnBits) (quota : ℕ) (offered : List (List ℕ)) (s : Both) (os : List Step) → AreKept sn quota offered s os
    → (run s os).chain.offered ≡ s.chain.offered + length (offers_in os)
unfolding run AreKept orders_in orders.offers_in
all_offered sn quota offered s [] a = omega arith
all_offered sn quota offered s (o ∷ os) a = all_offered sn quota offered (after s o) os a.1 ∙ counts_after sn quota offered s o os a.0

-- ---- the laws

module _ (sn : SnBits) (quota first teid : ℕ) (d : DownlinkTunnel) (du : DuBearer) (os : List Step)
    (kept : AreKept sn quota (offers_in os) (start first teid d du) os) where
  s : Both
  s = run (start first teid d du) os

  all : Kept (stream (offers_in os)) (window sn quota) s
  unfolding s start models.initial
  all = kept_run sn quota (offers_in os) (start first teid d du) os (kept_at_start sn quota (offers_in os) first teid d du) kept (agrees (offers_in os))

  come : s.chain.offered ≡ length (offers_in os)
  unfolding s start models.initial
  come = all_offered sn quota (offers_in os) (start first teid d du) os kept ∙ omega arith

  pub delivers_in_order : DeliversInOrder (offers_in os) (run (start first teid d du) os).chain
  unfolding DeliversInOrder upto s
  delivers_in_order =
      let r = all.good.1.radio in
      let t = s.chain.terminal in
      let few : t.deliv ≤ length (offers_in os) =
      (let a = r.reached_offered in let b = reach-le t.deliv s.chain.air in let c = come in omega arith) in
      let as_many : length s.chain.delivered ≡ t.deliv = ap length r.delivered_are ∙ upto-length (pairs (stream (offers_in os))) 0 t.deliv ∙ omega arith in
      let from : (i : ℕ) → stream (offers_in os) (0 + i) ≡ stream (offers_in os) i = λ i. (let e : 0 + i ≡ i = omega arith in ap (stream (offers_in os)) e) in
      let same : t.deliv - 0 ≡ t.deliv = omega arith in
      r.delivered_are ∙ ap (segment (pairs (stream (offers_in os))) 0) same ∙ first_ones (stream (offers_in os)) (offers_in os) 0 t.deliv from few
      ∙ ap (λ n. enumerate_from 0 (take n (offers_in os))) (sym as_many)

  pub receives_alike : (run (start first teid d du) os).way.terminal ≡ (run (start first teid d du) os).chain.terminal
  unfolding s
  receives_alike = all.same

  not_ahead : (count room : ℕ) (packet : List ℕ) (rest : List (ℕ × List ℕ)) → HasNoGap s.way.terminal.deliv ((count, packet) ∷ rest) → 0 < room
      → is_ahead room s.way.terminal count ≡ false
  unfolding HasNoGap is_ahead
  not_ahead count room packet rest h l = let a = h.0 in let b : nat_le (s.way.terminal.deliv + room) count ≡ false = grind arith in b

  pub takes_at_once : TakesAtOnce (run (start first teid d du) os).way
  unfolding TakesAtOnce s
  takes_at_once = (
    all.way.radio.none_stored,
    λ count room packet rest is l. not_ahead count room packet rest (subst (λ xs. HasNoGap s.way.terminal.deliv xs) is all.way.radio.no_gap) l,
  )

-- The laws of the way down, from what holds after every list of steps.
use Rattle.std.proofs.Common.{◌≡◌, ℕ, ◌+◌, ◌-◌, ◌<◌, ◌≤◌, max, Bool, true, false, List, [], ◌∷◌, ◌++◌, length, take, Option, Some, None, sym, ap, subst, ◌∙◌, nat_le, arith}
use Rattle.std.proofs.lemmas.List.{append_assoc}
use Rattle.std.specs.List.{AllByRecursion, enumerate_from}
use Rattle.intervals.specs.Intervals.{segment, upto, HasNoGap, reach}
use Rattle.intervals.proofs.Intervals.{upto-length, reach-le, HasNoGap-append}
use Rattle.pdcp_defs.specs.Receivers.{is_ahead}
use Rattle.unit_defs.specs.Ways.{Pdu, packet_pdu, report_pdu}
use Rattle.unit_defs.specs.CuUpRecords.{DownlinkTunnel}
use Rattle.unit_defs.specs.Du.{DuBearer}
use Rattle.law_downlink_order.proofs.chain.Facts.{pairs}
use Rattle.law_downlink_order.proofs.chain.Runs.{stream}
use Rattle.law_downlink_order.proofs.chain.Laws.{first_ones}
use Rattle.law_downlink_order.specs.path.Paths.{Frame, Path, packet_of, start}
use Rattle.law_downlink_order.specs.path.Steps.{Step, run, packets_in, AreKept}
use Rattle.law_downlink_order.specs.path.Words.{DeliversInOrder, TakesAtOnce, Follow, packets_of, RunsHaveNoGap, DownlinkPathHasNoGap, RestartsAtReceived}
use Rattle.law_downlink_order.proofs.path.Facts.{FitsPacket, Quiet, Fits, Stands, Kept}
use Rattle.law_downlink_order.proofs.path.Runs.{all_come, kept_run, kept_start}

-- ---- of one state

abbrev first_count : List (ℕ × List ℕ) → ℕ
first_count [] = 0
first_count (e ∷ es) = e.0

module _ (p : ℕ → List ℕ) (need : ℕ → ℕ) (deliv comes : ℕ) where
  -- frames that nothing is missing between, from a place that is reached
  follows : (low reached : ℕ) (run rest : List Frame) (next number : ℕ) → deliv ≤ reached → need number ≤ reached
      → Stands p need deliv comes low (run ++ rest) next → Follow number run → HasNoGap reached (packets_of run)
  unfolding Stands Follow packets_of HasNoGap Fits Quiet FitsPacket
  follows low reached [] rest next number l m st h = tt
  follows low reached (f ∷ fs) rest next number l m st h = by f.restart f.pdu
      (subst (λ n. Fits p need deliv comes n f.restart f.pdu) h.0 st.1)
      (λ further a b. follows (number + 1) further fs rest next (number + 1) a b
      (subst (λ n. Stands p need deliv comes (n + 1) (fs ++ rest) next) h.0 st.2) h.1)
    where
      by : (restart : Bool) (pdu : Option Pdu) → Fits p need deliv comes number restart pdu
          → ((further : ℕ) → deliv ≤ further → need (number + 1) ≤ further → HasNoGap further (packets_of fs))
          → HasNoGap reached (packet_of pdu ++ packets_of fs)
      by restart None fits more = more reached l (let a = fits.1 in omega arith)
      by restart (Some (report_pdu fmc bits)) fits more = more reached l (let a = fits.1 in omega arith)
      by true (Some (packet_pdu count packet)) fits more =
          (let a = fits.0 in omega arith, more (max reached (count + 1)) (omega arith) (let a = fits.1 in omega arith))
      by false (Some (packet_pdu count packet)) fits more =
          (let a = fits.0 in omega arith, more (max reached (count + 1)) (omega arith) (let a = fits.1 in omega arith))

  -- the frames from one on
  stands_at : (low : ℕ) (before after : List Frame) (next : ℕ) → Stands p need deliv comes low (before ++ after) next
      → (from : ℕ) × Stands p need deliv comes from after next
  unfolding Stands
  stands_at low [] after next h = (low, h)
  stands_at low (e ∷ es) after next h = stands_at (e.number + 1) es after next h.2

  -- from a restart on
  restarts : (low : ℕ) (f : Frame) (run rest : List Frame) (next : ℕ) → f.restart ≡ true
      → Stands p need deliv comes low (f ∷ (run ++ rest)) next → Follow f.number (f ∷ run) → HasNoGap deliv (packets_of (f ∷ run))
  unfolding Stands Follow packets_of HasNoGap Fits Quiet FitsPacket
  restarts low f run rest next is st h = by f.restart is f.pdu st.1
    where
      more : (further : ℕ) → deliv ≤ further → need (f.number + 1) ≤ further → HasNoGap further (packets_of run)
      more further a b = follows (f.number + 1) further run rest next (f.number + 1) a b st.2 h.1

      by : (restart : Bool) → restart ≡ true → (pdu : Option Pdu) → Fits p need deliv comes f.number restart pdu
          → HasNoGap deliv (packet_of pdu ++ packets_of run)
      by restart e None fits = absurd cc
      by restart e (Some (report_pdu fmc bits)) fits = absurd cc
      by true e (Some (packet_pdu count packet)) fits =
          (fits.0, more (max deliv (count + 1)) (omega arith) (let a = fits.1 in omega arith))
      by false e (Some (packet_pdu count packet)) fits = absurd cc

  at_received : (low : ℕ) (fs : List Frame) (next : ℕ) → Stands p need deliv comes low fs next
      → AllByRecursion (λ (f : Frame). f.restart ≡ true → (count : ℕ) (packet : List ℕ) → packet_of f.pdu ≡ (count, packet) ∷ []
      → count ≤ deliv) fs
  unfolding Stands Fits Quiet FitsPacket
  at_received low [] next h = tt
  at_received low (f ∷ fs) next h = (by f.restart f.pdu h.1, at_received (f.number + 1) fs next h.2)
    where
      by : (restart : Bool) (pdu : Option Pdu) → Fits p need deliv comes f.number restart pdu → restart ≡ true → (count : ℕ)
          (packet : List ℕ) → packet_of pdu ≡ (count, packet) ∷ [] → count ≤ deliv
      by restart None fits e count packet is = absurd cc
      by restart (Some (report_pdu fmc bits)) fits e count packet is = absurd cc
      by true (Some (packet_pdu c x)) fits e count packet is = let same : c ≡ count = ap first_count is in let a = fits.0 in omega arith
      by false (Some (packet_pdu c x)) fits e count packet is = absurd cc

-- ---- of a run

module _ (first : ℕ) (d : DownlinkTunnel) (du : DuBearer) (os : List Step) (kept : AreKept (start first d du) os) where
  p : ℕ → List ℕ
  p = stream (packets_in os)

  s : Path
  s = run (start first d du) os

  good : Kept p 0 s
  unfolding start p s
  good = kept_run p 0 (start first d du) os (kept_start p first d du) kept
      (λ i. (let e : 0 + i ≡ i = omega arith in ap (stream (packets_in os)) e))

  come : s.comes ≡ length (packets_in os)
  unfolding start s
  come = all_come (start first d du) os ∙ omega arith

  pub delivers_in_order : DeliversInOrder (packets_in os) (run (start first d du) os)
  unfolding DeliversInOrder upto p s
  delivers_in_order =
      let r = good.radio in
      let few : s.terminal.deliv ≤ length (packets_in os) =
      (let a = r.reached_limit in let b = reach-le s.terminal.deliv s.air in let c = come in omega arith) in
      let as_many : length s.delivered ≡ s.terminal.deliv = ap length r.delivered_are ∙ upto-length (pairs p) 0 s.terminal.deliv ∙ omega
      arith in
      let from : (i : ℕ) → p (0 + i) ≡ stream (packets_in os) i = λ i. (let e : 0 + i ≡ i = omega arith in ap p e) in
      let same : s.terminal.deliv - 0 ≡ s.terminal.deliv = omega arith in
      r.delivered_are ∙ ap (segment (pairs p) 0) same ∙ first_ones p (packets_in os) 0 s.terminal.deliv from few
      ∙ ap (λ n. enumerate_from 0 (take n (packets_in os))) (sym as_many)

  not_ahead : (count quota : ℕ) (packet : List ℕ) (rest : List (ℕ × List ℕ)) → HasNoGap s.terminal.deliv ((count, packet) ∷ rest)
      → 0 < quota → is_ahead quota s.terminal count ≡ false
  unfolding HasNoGap is_ahead
  not_ahead count quota packet rest h l = let a = h.0 in let b : nat_le (s.terminal.deliv + quota) count ≡ false = grind arith in b

  pub takes_at_once : TakesAtOnce (run (start first d du) os)
  unfolding TakesAtOnce s
  takes_at_once = (
    good.radio.none_stored,
    λ count quota packet rest is l.
        not_ahead count quota packet rest (subst (λ xs. HasNoGap s.terminal.deliv xs) is good.radio.no_gap) l,
  )

  pub runs_have_no_gap : RunsHaveNoGap (run (start first d du) os)
  unfolding RunsHaveNoGap s
  runs_have_no_gap before f run_ rest is restart follow =
      let k = good.speaks in
      let e = is ∙ append_assoc before (f ∷ run_) rest in
      let st = subst (λ fs. Stands p k.need s.terminal.deliv s.comes s.du.awaited fs (k.downlink.next)) e k.line.stands in
      let at = stands_at p k.need s.terminal.deliv s.comes s.du.awaited before (f ∷ (run_ ++ rest)) (k.downlink.next) st in
      restarts p k.need s.terminal.deliv s.comes at.0 f run_ rest (k.downlink.next) restart at.1 follow

  pub way_has_no_gap : DownlinkPathHasNoGap (run (start first d du) os)
  unfolding DownlinkPathHasNoGap s
  way_has_no_gap = (
    good.radio.no_gap,
    λ run_ rest is receives closed follow.
        let k = good.speaks in
        let st = subst (λ fs. Stands p k.need s.terminal.deliv s.comes s.du.awaited fs (k.downlink.next)) is k.line.stands in
        HasNoGap-append s.terminal.deliv s.air (packets_of run_) good.radio.no_gap
        (follows p k.need s.terminal.deliv s.comes s.du.awaited (reach s.terminal.deliv s.air) run_ rest (k.downlink.next) s.du.awaited
        (reach-le s.terminal.deliv s.air) (k.line.taken receives closed) st follow),
  )

  pub restarts_at_received : RestartsAtReceived (run (start first d du) os)
  unfolding RestartsAtReceived s
  restarts_at_received =
      let k = good.speaks in
      at_received p k.need s.terminal.deliv s.comes s.du.awaited s.tunnel (k.downlink.next) k.line.stands

-- A context that sends does so still where the terminal received more and more waits on the radio, and where frames are lost.
use Rattle.std.proofs.Common.{◌≡◌, ℕ, ◌+◌, ◌≤◌, max, Bool, true, false, List, [], ◌∷◌, refl, sym, ap, subst, ◌∙◌, arith}
use Rattle.intervals.specs.Intervals.{HasNoGap, reach}
use Rattle.intervals.proofs.Intervals.{reach-le}
use Rattle.bearer_defs.specs.chain_defs.Models.{Member, Model}
use Rattle.unit_defs.specs.CuUpBearers.{owed}
use Rattle.unit_defs.specs.CuUpRecords.{CuUpBearer}
use Rattle.law_downlink_order.specs.path.Paths.{Frame}
use Rattle.law_downlink_order.specs.received_packets.Received.{WasPut}
use Rattle.law_downlink_order.specs.waiting_frames.Frames.{from_here}
use Rattle.law_downlink_order.proofs.waiting_frames.Frames.{line_later}
use Rattle.proof_cu_up_orders.specs.sending_contexts.Sending.{IsSending, Tunnel}
use Rattle.proof_cu_up_orders.proofs.sending_contexts.Lists.{no_gap_later, reach_later}
use Rattle.proof_cu_up_orders.proofs.sending_contexts.Beside.{loses_one}
use Rattle.proof_bearer_refinement.specs.other_contexts.Alike.{Alike}

abbrev Packets : Type 0
Packets = List (ℕ × List ℕ)

reach_most : (n k : ℕ) (xs : Packets) → reach (max n k) xs ≤ max (reach n xs) k
unfolding reach
reach_most n k [] = omega arith
reach_most n k (e ∷ es) =
    let h = reach_most (max n (e.0 + 1)) k es in
    let same : max (max n k) (e.0 + 1) ≡ max (max n (e.0 + 1)) k = omega arith in
    subst (λ (i : ℕ). reach i es ≤ max (reach (max n (e.0 + 1)) es) k) (sym same) h

pub sends_later : (s t : Model) (x : ℕ) (c : CuUpBearer) (w : Tunnel) (left : Packets) → Alike (s.members x) (t.members x) → t.epoch ≡ s.epoch
    → s.terminal.deliv ≤ t.terminal.deliv → reach s.terminal.deliv w.waits ≤ reach t.terminal.deliv left
    → ((count : ℕ) (packet : List ℕ) → WasPut s count packet → WasPut t count packet) → IsSending s x c w → IsSending t x c (record w { waits = left })
sends_later s t x c w left alike epoch more far put h =
    let cursor = max h.cursor t.terminal.deliv in
    let least : h.cursor ≤ cursor = omega arith in
    record {
      cursor = cursor;
      sender = record {
        downlink = h.sender.downlink;
        there = h.sender.there;
        needed = h.sender.needed;
        line = line_later s t w.du w.frames w.waits left h.sender.downlink.next h.sender.needed more far put h.sender.line;
        marked = by c.restart h.sender.needed h.sender.marked;
      };
      epoch = ap (λ (m : Member). m.epoch) alike ∙ h.epoch ∙ sym epoch;
      received = omega arith;
      served = λ e.
          let a = subst (λ (m : Member). reach s.terminal.deliv m.bearer.sender.unconfirmed ≤ h.cursor) (sym alike)
          (h.served (ap (λ (m : Member). m.flags.frozen) (sym alike) ∙ e)) in
          let k = most (t.members x).bearer.sender.unconfirmed in omega (arith, a, k);
      frozen = λ e r.
          let it = h.frozen (ap (λ (m : Member). m.flags.frozen) (sym alike) ∙ e) (ap (λ (m : Member). m.flags.released) (sym alike) ∙ r) in
          let a = subst (λ (m : Member). reach s.terminal.deliv m.bearer.sender.unconfirmed ≤ reach h.cursor (owed m.bearer)) (sym alike) it.1 in
          let k = most (t.members x).bearer.sender.unconfirmed in
          let later = reach_later h.cursor cursor (owed (t.members x).bearer) least in
          let self = reach-le cursor (owed (t.members x).bearer) in (
            no_gap_later h.cursor cursor (owed (t.members x).bearer) least (subst (λ (m : Member). HasNoGap h.cursor (owed m.bearer)) (sym alike) it.0),
            omega (arith, a, k, later, self),
          );
    }
  where
    by : (r : Bool) (needed : ℕ) → h.cursor ≤ from_here r s.terminal.deliv needed → max h.cursor t.terminal.deliv ≤ from_here r t.terminal.deliv needed
    by true needed l = omega (arith, l, more)
    by false needed l = omega (arith, l, more)

    most : (us : Packets) → reach t.terminal.deliv us ≤ max (reach s.terminal.deliv us) t.terminal.deliv
    most us =
        let same : max s.terminal.deliv t.terminal.deliv ≡ t.terminal.deliv = omega (arith, more) in
        subst (λ (n : ℕ). reach n us ≤ max (reach s.terminal.deliv us) t.terminal.deliv) same (reach_most s.terminal.deliv t.terminal.deliv us)

-- all frames are lost
pub all_lost : (d : Model) (x : ℕ) (c : CuUpBearer) (w : Tunnel) → IsSending d x c w → IsSending d x c (record w { frames = [] })
all_lost d x c w h = by w.frames h
  where
    by : (fs : List Frame) → IsSending d x c (record w { frames = fs }) → IsSending d x c (record w { frames = [] })
    by [] k = k
    by (f ∷ fs) k = by fs (loses_one d x c (record w { frames = f ∷ fs }) [] fs f refl k)

-- A CU-UP puts frames at the end of the tunnel.
use Rattle.std.proofs.Common.{◌≡◌, ℕ, ◌+◌, ◌≤◌, max, Bool, true, false, not, ◌&&◌, ◌==◌, List, [], ◌∷◌, ◌++◌, length, Option, Some, None, refl, sym, ap, subst, ◌∙◌, arith}
use Rattle.std.proofs.lemmas.List.{append_assoc, append-nil}
use Rattle.std.specs.List.{AllByRecursion}
use Rattle.intervals.specs.Intervals.{HasNoGap, reach}
use Rattle.intervals.proofs.Intervals.{reach-le}
use Rattle.bearer_defs.specs.chain_defs.Models.{Model}
use Rattle.unit_defs.specs.Ways.{Pdu, packet_pdu, report_pdu}
use Rattle.unit_defs.specs.CuUpRecords.{DownlinkTunnel, CuUpBearer}
use Rattle.unit_defs.specs.Du.{DuBearer}
use Rattle.law_downlink_order.specs.path.Paths.{Frame, Sending, frame_on, packets_sent}
use Rattle.law_downlink_order.proofs.path.Puts.{then_needs}
use Rattle.law_downlink_order.specs.received_packets.Received.{WasPut}
use Rattle.law_downlink_order.specs.waiting_frames.Frames.{MayPut, needed_after, MayPutAll, needed_by, Stand, IsLine, from_here}

pub line_fresh : (d : Model) (b : DuBearer) (teid : ℕ) (waits : List (ℕ × List ℕ))
    → IsLine d (record b { downlink = teid; awaited = 0; gap = false }) [] waits 0 d.terminal.deliv
unfolding Stand
line_fresh d b teid waits = record {
  need = λ n. d.terminal.deliv;
  last = omega arith;
  stand = omega arith;
  reached = λ u. reach-le d.terminal.deliv waits;
}

-- ---- one frame more

needs_before : (need : ℕ → ℕ) (next v i : ℕ) → i ≤ next → then_needs need next v i ≡ need i
needs_before need next v i l = let t : (i == next + 1) ≡ false = grind arith in rw t

needs_then : (need : ℕ → ℕ) (next v : ℕ) → then_needs need next v (next + 1) ≡ v
needs_then need next v = let t : (next + 1 == next + 1) ≡ true = grind arith in rw t

stand_low : (d : Model) (need : ℕ → ℕ) (low : ℕ) (fs : List Frame) (next : ℕ) → Stand d need low fs next → low ≤ next
unfolding Stand
stand_low d need low [] next h = h
stand_low d need low (f ∷ fs) next h = let a = h.0 in let b = stand_low d need (f.number + 1) fs next h.3 in omega (arith, a, b)

module _ (d : Model) (need : ℕ → ℕ) (next needed : ℕ) (last : needed ≤ max d.terminal.deliv (need next)) (f : Frame) (at : f.number ≡ next)
    (may : MayPut d needed f.restart f.pdu) where
  abbrev v : ℕ
  v = needed_after needed f.restart f.pdu

  abbrev more : ℕ → ℕ
  more = then_needs need next v

  may_there : (n : ℕ) (r : Bool) (pdu : Option Pdu) → needed ≤ max d.terminal.deliv n → MayPut d needed r pdu → MayPut d n r pdu
  unfolding MayPut
  may_there n r None l h = h
  may_there n r (Some (report_pdu fmc bits)) l h = h
  may_there n true (Some (packet_pdu count packet)) l h = h
  may_there n false (Some (packet_pdu count packet)) l h = ((let a = h.0 in omega (arith, a, l)), h.1)

  after_more : (n : ℕ) (r : Bool) (pdu : Option Pdu) → needed ≤ max d.terminal.deliv n
      → needed_after needed r pdu ≤ max d.terminal.deliv (needed_after n r pdu)
  unfolding needed_after
  after_more n r None l = l
  after_more n r (Some (report_pdu fmc bits)) l = l
  after_more n true (Some (packet_pdu count packet)) l = omega arith
  after_more n false (Some (packet_pdu count packet)) l = omega (arith, l)

  stand_more : (low : ℕ) (fs : List Frame) → Stand d need low fs next → Stand d more low (fs ++ f ∷ []) (next + 1)
  unfolding Stand
  stand_more low [] h =
      let l : low ≤ next = h in
      let here : more f.number ≡ need next = ap more at ∙ needs_before need next v next (omega arith) in
      let there : more (f.number + 1) ≡ v = ap (λ (n : ℕ). more (n + 1)) at ∙ needs_then need next v in (
        omega (arith, l, at),
        subst (λ (n : ℕ). MayPut d n f.restart f.pdu) (sym here) (may_there (need next) f.restart f.pdu last may),
        subst (λ (n : ℕ). n ≤ max d.terminal.deliv (needed_after (more f.number) f.restart f.pdu)) (sym there)
            (subst (λ (n : ℕ). v ≤ max d.terminal.deliv (needed_after n f.restart f.pdu)) (sym here) (after_more (need next) f.restart f.pdu last)),
        omega (arith, at),
      )
  stand_more low (g ∷ gs) h =
      let l : g.number + 1 ≤ next = stand_low d need (g.number + 1) gs next h.3 in
      let here : more g.number ≡ need g.number = needs_before need next v g.number (omega (arith, l)) in
      let there : more (g.number + 1) ≡ need (g.number + 1) = needs_before need next v (g.number + 1) l in (
        h.0,
        subst (λ (n : ℕ). MayPut d n g.restart g.pdu) (sym here) h.1,
        subst (λ (n : ℕ). n ≤ max d.terminal.deliv (needed_after (more g.number) g.restart g.pdu)) (sym there)
            (subst (λ (n : ℕ). need (g.number + 1) ≤ max d.terminal.deliv (needed_after n g.restart g.pdu)) (sym here) h.2),
        stand_more (g.number + 1) gs h.3,
      )

one_more : (d : Model) (b : DuBearer) (frames : List Frame) (waits : List (ℕ × List ℕ)) (next needed : ℕ) (f : Frame)
    → IsLine d b frames waits next needed → f.number ≡ next → MayPut d needed f.restart f.pdu
    → IsLine d b (frames ++ f ∷ []) waits (next + 1) (needed_after needed f.restart f.pdu)
one_more d b frames waits next needed f h at may =
    let v : ℕ = needed_after needed f.restart f.pdu in
    let then_is : then_needs h.need next v (next + 1) ≡ v = needs_then h.need next v in
    let same : then_needs h.need next v b.awaited ≡ h.need b.awaited =
    needs_before h.need next v b.awaited (stand_low d h.need b.awaited frames next h.stand) in
    record {
      need = then_needs h.need next v;
      last = omega (arith, then_is);
      stand = stand_more d h.need next needed h.last f at may b.awaited frames h.stand;
      reached = λ u. (let a = h.reached u in omega (arith, a, same));
    }

pub line_more : (d : Model) (b : DuBearer) (frames more : List Frame) (waits : List (ℕ × List ℕ)) (next needed : ℕ)
    → IsLine d b frames waits next needed → MayPutAll d needed next more
    → IsLine d b (frames ++ more) waits (next + length more) (needed_by needed more)
unfolding MayPutAll needed_by
line_more d b frames [] waits next needed h may =
    subst (λ (fs : List Frame). IsLine d b fs waits (next + 0) needed) (sym (append-nil frames))
    (let same : next ≡ next + 0 = omega arith in subst (λ (n : ℕ). IsLine d b frames waits n needed) same h)
line_more d b frames (f ∷ fs) waits next needed h may =
    let on = line_more d b (frames ++ f ∷ []) fs waits (next + 1) (needed_after needed f.restart f.pdu)
    (one_more d b frames waits next needed f h may.0 may.1) may.2 in
    let as_many : next + 1 + length fs ≡ next + length (f ∷ fs) = omega arith in
    subst (λ (gs : List Frame). IsLine d b gs waits (next + length (f ∷ fs)) (needed_by (needed_after needed f.restart f.pdu) fs))
    (append_assoc frames (f ∷ []) fs)
    (subst (λ (n : ℕ). IsLine d b ((frames ++ f ∷ []) ++ fs) waits n (needed_by (needed_after needed f.restart f.pdu) fs)) as_many on)

-- ---- packets, in the order in which they are sent

abbrev PacketsFit : Model → List (ℕ × List ℕ) → ℕ → ℕ → Bool → Sending → Type 0
PacketsFit d packets needed next was_assumed sent =
    MayPutAll d needed next sent.frames
    × (from_here sent.bearer.restart d.terminal.deliv (needed_by needed sent.frames) ≡ reach (from_here was_assumed d.terminal.deliv needed) packets)

pub packets_fit : (d : Model) (packets : List (ℕ × List ℕ)) (c : CuUpBearer) (l : DownlinkTunnel) (needed : ℕ) → c.downlink ≡ Some l
    → AllByRecursion (λ (e : ℕ × List ℕ). WasPut d e.0 e.1) packets → HasNoGap (from_here c.restart d.terminal.deliv needed) packets
    → PacketsFit d packets needed l.next c.restart (packets_sent packets c)
unfolding packets_sent MayPutAll MayPut needed_after needed_by HasNoGap reach
packets_fit d [] c l needed there all no_gap = (tt, refl)
packets_fit d (e ∷ es) c l needed there all no_gap =
    subst (λ (o : Option DownlinkTunnel). PacketsFit d (e ∷ es) needed l.next c.restart
    (let one = frame_on false c.restart (Some (packet_pdu e.0 e.1)) c o in
    let more = packets_sent es one.bearer in
    record { frames = one.frames ++ more.frames; bearer = more.bearer })) (sym there)
    (by c.restart no_gap (λ r n same gap. packets_fit d es (then_bearer r) (record l { next = l.next + 1 }) n refl all.1 gap))
  where
    then_bearer : Bool → CuUpBearer
    then_bearer r = record c { downlink = Some (record l { next = l.next + 1 }); restart = r && not r }

    by : (r : Bool) → HasNoGap (from_here r d.terminal.deliv needed) (e ∷ es)
        → ((r : Bool) (n : ℕ) → (r && not r) ≡ false → HasNoGap (from_here (r && not r) d.terminal.deliv n) es
        → PacketsFit d es n (l.next + 1) (r && not r) (packets_sent es (then_bearer r)))
        → PacketsFit d (e ∷ es) needed l.next r (record {
          frames = (record { poll = false; restart = r; number = l.next; pdu = Some (packet_pdu e.0 e.1) } ∷ []) ++ (packets_sent es (then_bearer r)).frames;
          bearer = (packets_sent es (then_bearer r)).bearer;
        })
    by true gap on =
        let more = on true (e.0 + 1) refl gap.1 in
        ((refl, (gap.0, all.0), more.0), more.1)
    by false gap on =
        let same : max (max d.terminal.deliv needed) (e.0 + 1) ≡ max d.terminal.deliv (max needed (e.0 + 1)) = omega arith in
        let more = on false (max needed (e.0 + 1)) refl (subst (λ (n : ℕ). HasNoGap n es) same gap.1) in
        ((refl, (gap.0, all.0), more.0), more.1 ∙ ap (λ (n : ℕ). reach n es) (sym same))

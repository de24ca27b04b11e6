-- What a CU-UP sends comes to the end of the frames between it and the DU.
use Rattle.std.proofs.Common.{◌≡◌, ℕ, suc, ◌+◌, ◌≤◌, max, Bool, true, false, not, ◌&&◌, List, [], ◌∷◌, ◌++◌, length, Option, Some, None, refl, sym, ap, subst, ◌∙◌, arith}
use Rattle.std.specs.List.{AllByRecursion}
use Rattle.intervals.specs.Intervals.{HasNoGap, reach}
use Rattle.bearer_defs.specs.chain_defs.Models.{Model}
use Rattle.unit_defs.specs.Ways.{Pdu, packet_pdu, report_pdu}
use Rattle.unit_defs.specs.CuUpRecords.{DownlinkTunnel, CuUpBearer}
use Rattle.unit_defs.specs.Du.{DuBearer}
use Rattle.law_downlink_order.specs.path.Paths.{Frame, Sending, carried_by, frame_on, gap_after, packets_sent, taken_by}
use Rattle.law_downlink_order.specs.path.Steps.{anew, sent_again, sent_anew}
use Rattle.law_downlink_order.specs.received_packets.Received.{WasPut}
use Rattle.law_downlink_order.specs.waiting_frames.Frames.{Fits, MayPut, needed_after, MayPutAll, needed_by, from_here}
use Rattle.law_downlink_order.proofs.waiting_frames.Frames.{puts_what_fits, line_without, line_taken}
use Rattle.law_downlink_order.proofs.waiting_frames.Puts.{line_fresh, line_more, packets_fit}
use Rattle.law_downlink_order.specs.sent_frames.Senders.{IsSender}

-- ---- a list without gap from a place has none from a later one

no_gap_later : {X : Type 0} (n m : ℕ) (xs : List (ℕ × X)) → n ≤ m → HasNoGap n xs → HasNoGap m xs
unfolding HasNoGap
no_gap_later n m [] l h = tt
no_gap_later n m (e ∷ es) l h = (let a = h.0 in omega (arith, a, l), no_gap_later (max n (e.0 + 1)) (max m (e.0 + 1)) es (omega (arith, l)) h.1)

reach_later : {X : Type 0} (n m : ℕ) (xs : List (ℕ × X)) → n ≤ m → reach n xs ≤ reach m xs
unfolding reach
reach_later n m [] l = l
reach_later n m (e ∷ es) l = reach_later (max n (e.0 + 1)) (max m (e.0 + 1)) es (omega (arith, l))

-- ---- packets

-- the number of the next frame, afterwards
next_sent : (packets : List (ℕ × List ℕ)) (c : CuUpBearer) (l : DownlinkTunnel) → c.downlink ≡ Some l
    → (packets_sent packets c).bearer.downlink ≡ Some (record l { next = l.next + length (packets_sent packets c).frames })
unfolding packets_sent
next_sent [] c l there = there ∙ (let same : l.next ≡ l.next + 0 = omega arith in ap (λ (n : ℕ). Some (record l { next = n })) same)
next_sent (e ∷ es) c l there =
    subst (λ (o : Option DownlinkTunnel). After (with_one o)) (sym there) (next_is (next_sent es one (record l { next = l.next + 1 }) refl))
  where
    with_one : Option DownlinkTunnel → Sending
    with_one o =
        let one = frame_on false c.restart (Some (packet_pdu e.0 e.1)) c o in
        let more = packets_sent es one.bearer in
        record { frames = one.frames ++ more.frames; bearer = more.bearer }

    After : Sending → Type 0
    After sent = sent.bearer.downlink ≡ Some (record l { next = l.next + length sent.frames })

    one : CuUpBearer
    one = record c { downlink = Some (record l { next = l.next + 1 }); restart = c.restart && not c.restart }

    next_is : (packets_sent es one).bearer.downlink ≡ Some (record l { next = l.next + 1 + length (packets_sent es one).frames })
        → After (with_one (Some l))
    next_is h =
        h ∙ (let same : l.next + 1 + length (packets_sent es one).frames ≡ l.next + suc (length (packets_sent es one).frames) = omega arith in
        ap (λ (n : ℕ). Some (record l { next = n })) same)

module _ (d : Model) (b : DuBearer) (waits : List (ℕ × List ℕ)) where
  pub sends : (c : CuUpBearer) (frames : List Frame) (cursor : ℕ) (packets : List (ℕ × List ℕ)) → IsSender d c b frames waits cursor
      → AllByRecursion (λ (e : ℕ × List ℕ). WasPut d e.0 e.1) packets → HasNoGap cursor packets
      → IsSender d (packets_sent packets c).bearer b (frames ++ (packets_sent packets c).frames) waits (reach cursor packets)
  sends c frames cursor packets h all no_gap =
      let here : ℕ = from_here c.restart d.terminal.deliv h.needed in
      let may = packets_fit d packets c h.downlink h.needed h.there all (no_gap_later cursor here packets h.marked no_gap) in
      let far : reach cursor packets ≤ reach here packets = reach_later cursor here packets h.marked in
      let same = may.1 in
      record {
        downlink = record h.downlink { next = h.downlink.next + length (packets_sent packets c).frames };
        there = next_sent packets c h.downlink h.there;
        needed = needed_by h.needed (packets_sent packets c).frames;
        line = line_more d b frames (packets_sent packets c).frames waits h.downlink.next h.needed h.line may.0;
        marked = subst (λ (n : ℕ). reach cursor packets ≤ n) (sym same) far;
      }

  -- ---- a frame without a packet

  IsQuiet : Option Pdu → Type 0
  IsQuiet None = Unit {0}
  IsQuiet (Some (report_pdu fmc bits)) = Unit {0}
  IsQuiet (Some (packet_pdu count packet)) = ⊥

  quiet_needs : (needed : ℕ) (pdu : Option Pdu) → IsQuiet pdu → needed_after needed false pdu ≡ needed
  unfolding needed_after IsQuiet
  quiet_needs needed None quiet = refl
  quiet_needs needed (Some (report_pdu fmc bits)) quiet = refl
  quiet_needs needed (Some (packet_pdu count packet)) quiet = absurd quiet

  quiet_may : (needed : ℕ) (pdu : Option Pdu) → IsQuiet pdu → MayPut d needed false pdu
  unfolding MayPut IsQuiet
  quiet_may needed None quiet = refl
  quiet_may needed (Some (report_pdu fmc bits)) quiet = refl
  quiet_may needed (Some (packet_pdu count packet)) quiet = absurd quiet

  still_assumed : (r : Bool) → (r && true) ≡ r
  still_assumed true = refl
  still_assumed false = refl

  quiet : (c : CuUpBearer) (frames : List Frame) (cursor : ℕ) (poll : Bool) (pdu : Option Pdu) → IsQuiet pdu → IsSender d c b frames waits cursor
      → IsSender d (frame_on poll false pdu c c.downlink).bearer b (frames ++ (frame_on poll false pdu c c.downlink).frames) waits cursor
  unfolding MayPutAll needed_by
  quiet c frames cursor poll pdu is_quiet h =
      subst (λ (o : Option DownlinkTunnel). IsSender d (frame_on poll false pdu c o).bearer b (frames ++ (frame_on poll false pdu c o).frames) waits cursor)
      (sym h.there) (record {
        downlink = record h.downlink { next = h.downlink.next + 1 };
        there = refl;
        needed = needed_after h.needed false pdu;
        line = line_more d b frames (record { poll = poll; restart = false; number = h.downlink.next; pdu = pdu } ∷ []) waits h.downlink.next h.needed h.line
            (refl, quiet_may h.needed pdu is_quiet, tt);
        marked = subst (λ (r : Bool). cursor ≤ from_here r d.terminal.deliv (needed_after h.needed false pdu)) (sym (still_assumed c.restart))
            (subst (λ (n : ℕ). cursor ≤ from_here c.restart d.terminal.deliv n) (sym (quiet_needs h.needed pdu is_quiet)) h.marked);
      })

  pub polls : (c : CuUpBearer) (frames : List Frame) (cursor : ℕ) (poll : Bool) → IsSender d c b frames waits cursor
      → IsSender d (frame_on poll false None c c.downlink).bearer b (frames ++ (frame_on poll false None c c.downlink).frames) waits cursor
  unfolding IsQuiet
  polls c frames cursor poll h = quiet c frames cursor poll None tt h

  pub reports : (c : CuUpBearer) (frames : List Frame) (cursor : ℕ) (poll : Bool) (fmc : ℕ) (bits : List Bool) → IsSender d c b frames waits cursor
      → IsSender d (frame_on poll false (Some (report_pdu fmc bits)) c c.downlink).bearer b
      (frames ++ (frame_on poll false (Some (report_pdu fmc bits)) c c.downlink).frames) waits cursor
  unfolding IsQuiet
  reports c frames cursor poll fmc bits h = quiet c frames cursor poll (Some (report_pdu fmc bits)) tt h

  -- ---- all that nothing confirmed, after a loss

  pub again : (c : CuUpBearer) (frames : List Frame) (cursor : ℕ) (range : ℕ × ℕ) (ranges : List (ℕ × ℕ)) → IsSender d c b frames waits cursor
      → AllByRecursion (λ (e : ℕ × List ℕ). WasPut d e.0 e.1) c.sender.unconfirmed → HasNoGap d.terminal.deliv c.sender.unconfirmed
      → IsSender d (sent_again false (range ∷ ranges) c).bearer b (frames ++ (sent_again false (range ∷ ranges) c).frames) waits
      (reach d.terminal.deliv c.sender.unconfirmed)
  again c frames cursor range ranges h all no_gap =
      sends (record c { restart = true }) frames d.terminal.deliv c.sender.unconfirmed
      (record { downlink = h.downlink; there = h.there; needed = h.needed; line = h.line; marked = omega arith }) all no_gap

-- ---- a new tunnel

pub begins : (d : Model) (c : CuUpBearer) (b : DuBearer) (waits : List (ℕ × List ℕ)) (l : DownlinkTunnel) (fmc : ℕ) (bits : List Bool)
    → AllByRecursion (λ (e : ℕ × List ℕ). WasPut d e.0 e.1) c.sender.unconfirmed → HasNoGap d.terminal.deliv c.sender.unconfirmed
    → IsSender d (sent_anew fmc bits (anew c l)).bearer (record b { downlink = l.teid; awaited = 0; gap = false }) (sent_anew fmc bits (anew c l)).frames waits
    (reach d.terminal.deliv c.sender.unconfirmed)
begins d c b waits l fmc bits all no_gap =
    let fresh : DuBearer = record b { downlink = l.teid; awaited = 0; gap = false } in
    let first : IsSender d (anew c l) fresh [] waits d.terminal.deliv =
    (record { downlink = record l { next = 0 }; there = refl; needed = d.terminal.deliv; line = line_fresh d b l.teid waits; marked = omega arith }) in
    let told = reports d fresh waits (anew c l) [] d.terminal.deliv false fmc bits first in
    sends d fresh waits (frame_on false false (Some (report_pdu fmc bits)) (anew c l) (anew c l).downlink).bearer
    (frame_on false false (Some (report_pdu fmc bits)) (anew c l) (anew c l).downlink).frames d.terminal.deliv c.sender.unconfirmed told all no_gap

-- ---- the DU, a loss, the terminal

pub du_takes : (d : Model) (c : CuUpBearer) (b : DuBearer) (f : Frame) (rest : List Frame) (waits : List (ℕ × List ℕ)) (cursor : ℕ)
    → IsSender d c b (f ∷ rest) waits cursor
    → Fits d waits (carried_by (gap_after b f f.pdu) f.pdu)
    × IsSender d c (taken_by b f) rest (waits ++ carried_by (gap_after b f f.pdu) f.pdu) cursor
du_takes d c b f rest waits cursor h =
    let it = puts_what_fits d b f rest waits h.downlink.next h.needed h.line in
    (it.0, record { downlink = h.downlink; there = h.there; needed = h.needed; line = it.1; marked = h.marked })

pub one_lost : (d : Model) (c : CuUpBearer) (b : DuBearer) (before : List Frame) (f : Frame) (rest : List Frame) (waits : List (ℕ × List ℕ)) (cursor : ℕ)
    → IsSender d c b (before ++ f ∷ rest) waits cursor → IsSender d c b (before ++ rest) waits cursor
one_lost d c b before f rest waits cursor h = record {
  downlink = h.downlink;
  there = h.there;
  needed = h.needed;
  line = line_without d b before f rest waits h.downlink.next h.needed h.line;
  marked = h.marked;
}

from_later : (r : Bool) (n m needed : ℕ) → n ≤ m → from_here r n needed ≤ from_here r m needed
from_later true n m needed l = l
from_later false n m needed l = omega (arith, l)

pub one_received : (d e : Model) (c : CuUpBearer) (b : DuBearer) (frames : List Frame) (count : ℕ) (packet : List ℕ) (left : List (ℕ × List ℕ)) (cursor : ℕ)
    → e.terminal.deliv ≡ max d.terminal.deliv (count + 1) → ((other : ℕ) (one : List ℕ) → WasPut d other one → WasPut e other one)
    → IsSender d c b frames ((count, packet) ∷ left) cursor → IsSender e c b frames left cursor
one_received d e c b frames count packet left cursor up on h =
    let more : d.terminal.deliv ≤ e.terminal.deliv = omega (arith, up) in
    let far = from_later c.restart d.terminal.deliv e.terminal.deliv h.needed more in
    let marked = h.marked in
    record {
      downlink = h.downlink;
      there = h.there;
      needed = h.needed;
      line = line_taken d e b frames count packet left h.downlink.next h.needed up on h.line;
      marked = omega (arith, far, marked);
    }

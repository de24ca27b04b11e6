-- Frames on the tunnel: the first is taken, any is lost, and what is received grows.
use Rattle.std.proofs.Common.{◌≡◌, ℕ, ◌+◌, ◌≤◌, max, Bool, true, false, not, ◌&&◌, ◌||◌, nat_lt, List, [], ◌∷◌, ◌++◌, Option, Some, None, refl, sym, ap, subst, ◌∙◌, true≢false, arith}
use Rattle.std.proofs.lemmas.List.{append-nil}
use Rattle.intervals.specs.Intervals.{HasNoGap, reach}
use Rattle.intervals.proofs.Intervals.{reach-le, reach-append}
use Rattle.bearer_defs.specs.chain_defs.Models.{Model}
use Rattle.unit_defs.specs.Ways.{Pdu, packet_pdu, report_pdu}
use Rattle.unit_defs.specs.Du.{DuBearer}
use Rattle.law_downlink_order.specs.path.Paths.{Frame, carried_by, gap_after, taken_by}
use Rattle.law_downlink_order.specs.received_packets.Received.{WasPut}
use Rattle.law_downlink_order.specs.waiting_frames.Frames.{Fits, MayPut, needed_after, Stand, IsLine}

-- ---- a gap that isn't open after a frame

no_gap_by : (gap late restart : Bool) → ((gap || late) && not restart) ≡ false → restart ≡ false → (gap ≡ false) × (late ≡ false)
no_gap_by false false restart h e = (refl, refl)
no_gap_by true late restart h e = absurd (true≢false (sym (rw e) ∙ h))
no_gap_by false true restart h e = absurd (true≢false (sym (rw e) ∙ h))

no_gap_or : (gap late : Bool) → (gap || late) ≡ false → (gap ≡ false) × (late ≡ false)
no_gap_or false false h = (refl, refl)
no_gap_or true late h = absurd (true≢false h)
no_gap_or false true h = absurd (true≢false h)

awaited_is : (b : DuBearer) (n : ℕ) → b.awaited ≤ n → nat_lt b.awaited n ≡ false → n ≡ b.awaited
awaited_is b n l h = let a : n ≤ b.awaited = grind arith in omega (arith, a, l)

-- ---- the first is taken

module _ (d : Model) (need : ℕ → ℕ) (b : DuBearer) (waits : List (ℕ × List ℕ)) where
  abbrev deliv : ℕ
  deliv = d.terminal.deliv

  abbrev far : ℕ
  far = reach deliv waits

  -- what is carried fits, and the radio reaches as far as the next frame needs, where no gap is open then
  abbrev Took : ℕ → Bool → Option Pdu → Type 0
  Took needed g pdu = Fits d waits (carried_by g pdu) × (g ≡ false → needed ≤ reach deliv (waits ++ carried_by g pdu))

  nothing : (needed : ℕ) (g : Bool) (pdu : Option Pdu) → carried_by g pdu ≡ [] → (g ≡ false → needed ≤ far) → Took needed g pdu
  unfolding HasNoGap
  nothing needed g pdu none h = rw (none, append-nil waits) (record { put = tt; no_gap = tt }, h)

  a_packet : (needed count : ℕ) (packet : List ℕ) → count ≤ far → WasPut d count packet → needed ≤ max far (count + 1)
      → Took needed false (Some (packet_pdu count packet))
  unfolding HasNoGap reach
  a_packet needed count packet low put l =
      let on = reach-append deliv waits ((count, packet) ∷ []) in
      (record { put = (put, tt); no_gap = (low, tt) }, λ u. rw on l)

  deliv_far : deliv ≤ far
  deliv_far = reach-le deliv waits

  took : (n : ℕ) (r : Bool) (pdu : Option Pdu) → (b.gap ≡ false → need b.awaited ≤ far) → b.awaited ≤ n → MayPut d (need n) r pdu
      → need (n + 1) ≤ max deliv (needed_after (need n) r pdu) → (poll g : Bool)
      → gap_after b (record { poll = poll; restart = r; number = n; pdu = pdu }) pdu ≡ g → Took (need (n + 1)) g pdu
  unfolding MayPut needed_after
  took n r None h l may on poll true is = nothing (need (n + 1)) true None refl (λ u. absurd (true≢false u))
  took n r None h l may on poll false is =
      let o = no_gap_or b.gap (nat_lt b.awaited n) is in
      let e = awaited_is b n l o.1 in
      let a : need n ≤ far = subst (λ (i : ℕ). need i ≤ far) (sym e) (h o.0) in
      nothing (need (n + 1)) false None refl (λ u. (let c = deliv_far in omega (arith, on, a, c)))
  took n r (Some (report_pdu fmc bits)) h l may on poll true is =
      nothing (need (n + 1)) true (Some (report_pdu fmc bits)) refl (λ u. absurd (true≢false u))
  took n r (Some (report_pdu fmc bits)) h l may on poll false is =
      let o = no_gap_by b.gap (nat_lt b.awaited n) r is may in
      let e = awaited_is b n l o.1 in
      let a : need n ≤ far = subst (λ (i : ℕ). need i ≤ far) (sym e) (h o.0) in
      nothing (need (n + 1)) false (Some (report_pdu fmc bits)) refl (λ u. (let c = deliv_far in omega (arith, on, a, c)))
  took n r (Some (packet_pdu count packet)) h l may on poll true is =
      nothing (need (n + 1)) true (Some (packet_pdu count packet)) refl (λ u. absurd (true≢false u))
  took n true (Some (packet_pdu count packet)) h l may on poll false is =
      let c = deliv_far in
      a_packet (need (n + 1)) count packet (let m = may.0 in omega (arith, m, c)) may.1 (omega (arith, on, c))
  took n false (Some (packet_pdu count packet)) h l may on poll false is =
      let o = no_gap_by b.gap (nat_lt b.awaited n) false is refl in
      let e = awaited_is b n l o.1 in
      let a : need n ≤ far = subst (λ (i : ℕ). need i ≤ far) (sym e) (h o.0) in
      let c = deliv_far in
      a_packet (need (n + 1)) count packet (let m = may.0 in omega (arith, m, a, c)) may.1 (omega (arith, on, a, c))

pub puts_what_fits : (d : Model) (b : DuBearer) (f : Frame) (rest : List Frame) (waits : List (ℕ × List ℕ)) (next needed : ℕ)
    → IsLine d b (f ∷ rest) waits next needed
    → Fits d waits (carried_by (gap_after b f f.pdu) f.pdu)
    × IsLine d (taken_by b f) rest (waits ++ carried_by (gap_after b f f.pdu) f.pdu) next needed
unfolding Stand
puts_what_fits d b f rest waits next needed h =
    let stand : Stand d h.need b.awaited (f ∷ rest) next = h.stand in
    let it = took d h.need b waits f.number f.restart f.pdu h.reached stand.0 stand.1 stand.2 f.poll (gap_after b f f.pdu) refl in
    (it.0, record { need = h.need; last = h.last; stand = stand.3; reached = it.1 })

-- ---- any is lost

module _ (d : Model) (need : ℕ → ℕ) where
  stand_from : (low from : ℕ) (fs : List Frame) (next : ℕ) → from ≤ low → Stand d need low fs next → Stand d need from fs next
  unfolding Stand
  stand_from low from [] next l h = let a : low ≤ next = h in omega (arith, a, l)
  stand_from low from (f ∷ fs) next l h = ((let a = h.0 in omega (arith, a, l)), h.1, h.2, h.3)

  stand_without : (low : ℕ) (before : List Frame) (f : Frame) (rest : List Frame) (next : ℕ)
      → Stand d need low (before ++ f ∷ rest) next → Stand d need low (before ++ rest) next
  unfolding Stand
  stand_without low [] f rest next h = stand_from (f.number + 1) low rest next (let a = h.0 in omega (arith, a)) h.3
  stand_without low (e ∷ es) f rest next h = (h.0, h.1, h.2, stand_without (e.number + 1) es f rest next h.3)

pub line_without : (d : Model) (b : DuBearer) (before : List Frame) (f : Frame) (rest : List Frame) (waits : List (ℕ × List ℕ)) (next needed : ℕ)
    → IsLine d b (before ++ f ∷ rest) waits next needed → IsLine d b (before ++ rest) waits next needed
line_without d b before f rest waits next needed h =
    record { need = h.need; last = h.last; stand = stand_without d h.need b.awaited before f rest next h.stand; reached = h.reached }

-- ---- more is received

module _ (d e : Model) (need : ℕ → ℕ) (l : d.terminal.deliv ≤ e.terminal.deliv)
    (on : (count : ℕ) (packet : List ℕ) → WasPut d count packet → WasPut e count packet) where
  may_later : (needed : ℕ) (r : Bool) (pdu : Option Pdu) → MayPut d needed r pdu → MayPut e needed r pdu
  unfolding MayPut
  may_later needed r None h = h
  may_later needed r (Some (report_pdu fmc bits)) h = h
  may_later needed true (Some (packet_pdu count packet)) h = ((let a = h.0 in omega (arith, a, l)), on count packet h.1)
  may_later needed false (Some (packet_pdu count packet)) h = ((let a = h.0 in omega (arith, a, l)), on count packet h.1)

  stand_later : (low : ℕ) (fs : List Frame) (next : ℕ) → Stand d need low fs next → Stand e need low fs next
  unfolding Stand
  stand_later low [] next h = h
  stand_later low (f ∷ fs) next h =
      (h.0, may_later (need f.number) f.restart f.pdu h.1, (let a = h.2 in omega (arith, a, l)), stand_later (f.number + 1) fs next h.3)

pub line_later : (d e : Model) (b : DuBearer) (frames : List Frame) (waits left : List (ℕ × List ℕ)) (next needed : ℕ)
    → d.terminal.deliv ≤ e.terminal.deliv → reach d.terminal.deliv waits ≤ reach e.terminal.deliv left
    → ((count : ℕ) (packet : List ℕ) → WasPut d count packet → WasPut e count packet)
    → IsLine d b frames waits next needed → IsLine e b frames left next needed
line_later d e b frames waits left next needed l far on h = record {
  need = h.need;
  last = (let a = h.last in omega (arith, a, l));
  stand = stand_later d e h.need l on b.awaited frames next h.stand;
  reached = λ u. (let a = h.reached u in omega (arith, a, far));
}

pub line_taken : (d e : Model) (b : DuBearer) (frames : List Frame) (count : ℕ) (packet : List ℕ) (left : List (ℕ × List ℕ)) (next needed : ℕ)
    → e.terminal.deliv ≡ max d.terminal.deliv (count + 1)
    → ((count : ℕ) (packet : List ℕ) → WasPut d count packet → WasPut e count packet)
    → IsLine d b frames ((count, packet) ∷ left) next needed → IsLine e b frames left next needed
unfolding reach
line_taken d e b frames count packet left next needed up on h =
    line_later d e b frames ((count, packet) ∷ left) left next needed (omega (arith, up))
    (let same : reach e.terminal.deliv left ≡ reach (max d.terminal.deliv (count + 1)) left = ap (λ (n : ℕ). reach n left) up in omega (arith, same)) on h

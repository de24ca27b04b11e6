-- Frames on the tunnel: more are put, any is lost, the first is taken.
use Rattle.std.proofs.Common.{◌≡◌, ℕ, zero, suc, ◌+◌, ◌-◌, ◌<◌, ◌≤◌, Bool, true, false, not, ◌&&◌, ◌==◌, if◌then◌else◌, List, [], ◌∷◌, ◌++◌, Option, Some, None, refl, sym, subst, ◌∙◌, arith}
use Rattle.std.proofs.lemmas.List.{append_assoc, append-nil}
use Rattle.intervals.specs.Intervals.{segment, upto}
use Rattle.unit_defs.specs.Ways.{Pdu, packet_pdu, report_pdu}
use Rattle.unit_defs.specs.CuUpRecords.{CuUpBearer}
use Rattle.law_downlink_order.proofs.chain.Facts.{pairs}
use Rattle.law_downlink_order.specs.path.Paths.{Frame, Sending, frame_on, packets_sent}
use Rattle.law_downlink_order.proofs.path.Facts.{View, FitsPacket, Quiet, Fits, Stands, Line, Marked, Speaks}

-- ---- facts stay as more is received, and as more packets come

module _ (p : ℕ → List ℕ) (need : ℕ → ℕ) (deliv comes later more : ℕ) (l : deliv ≤ later) (m : comes ≤ more) where
  fits_later : (n : ℕ) (restart : Bool) (pdu : Option Pdu) → Fits p need deliv comes n restart pdu → Fits p need later more n restart pdu
  unfolding Fits Quiet FitsPacket
  fits_later n restart None h = (h.0, let a = h.1 in omega arith)
  fits_later n restart (Some (report_pdu fmc bits)) h = (h.0, let a = h.1 in omega arith)
  fits_later n true (Some (packet_pdu count packet)) h =
      (let a = h.0 in omega arith, let a = h.1 in omega arith, let a = h.2 in omega arith, h.3)
  fits_later n false (Some (packet_pdu count packet)) h =
      (let a = h.0 in omega arith, let a = h.1 in omega arith, let a = h.2 in omega arith, h.3)

  pub stands_later : (low : ℕ) (fs : List Frame) (next : ℕ) → Stands p need deliv comes low fs next → Stands p need later more low fs next
  unfolding Stands
  stands_later low [] next h = h
  stands_later low (f ∷ fs) next h = (h.0, fits_later f.number f.restart f.pdu h.1, stands_later (f.number + 1) fs next h.2)

module _ (p : ℕ → List ℕ) (need : ℕ → ℕ) (deliv comes : ℕ) where
  pub stands_low : (low : ℕ) (fs : List Frame) (next : ℕ) → Stands p need deliv comes low fs next → low ≤ next
  unfolding Stands
  stands_low low [] next h = h
  stands_low low (f ∷ fs) next h = let a = h.0 in let b = stands_low (f.number + 1) fs next h.2 in omega arith

  stands_from : (low from : ℕ) (fs : List Frame) (next : ℕ) → from ≤ low → Stands p need deliv comes low fs next
      → Stands p need deliv comes from fs next
  unfolding Stands
  stands_from low from [] next l h = let a : low ≤ next = h in omega arith
  stands_from low from (f ∷ fs) next l h = (let a = h.0 in omega arith, h.1, h.2)

  -- a frame is lost
  pub stands_without : (low : ℕ) (before : List Frame) (f : Frame) (rest : List Frame) (next : ℕ)
      → Stands p need deliv comes low (before ++ f ∷ rest) next → Stands p need deliv comes low (before ++ rest) next
  unfolding Stands
  stands_without low [] f rest next h = stands_from (f.number + 1) low rest next (let a = h.0 in omega arith) h.2
  stands_without low (e ∷ es) f rest next h = (h.0, h.1, stands_without (e.number + 1) es f rest next h.2)

  -- one more is put
  pub stands_more : (low : ℕ) (fs : List Frame) (next : ℕ) (f : Frame) → f.number ≡ next → Stands p need deliv comes low fs next
      → Fits p need deliv comes f.number f.restart f.pdu → Stands p need deliv comes low (fs ++ f ∷ []) (next + 1)
  unfolding Stands
  stands_more low [] next f e h fits = (let a : low ≤ next = h in omega arith, fits, omega arith)
  stands_more low (g ∷ gs) next f e h fits = (h.0, h.1, stands_more (g.number + 1) gs next f e h.2 fits)

-- ---- what is needed for the frame after the next is new

abbrev pub then_needs : (ℕ → ℕ) → ℕ → ℕ → ℕ → ℕ
then_needs need next v i = if i == next + 1 then v else need i

module _ (p : ℕ → List ℕ) (need : ℕ → ℕ) (deliv comes next v : ℕ) where
  pub needs_before : (i : ℕ) → i ≤ next → then_needs need next v i ≡ need i
  needs_before i l = let t : (i == next + 1) ≡ false = grind arith in rw t

  pub needs_then : then_needs need next v (next + 1) ≡ v
  needs_then = let t : (next + 1 == next + 1) ≡ true = grind arith in rw t

  fits_then : (n : ℕ) (restart : Bool) (pdu : Option Pdu) → n + 1 ≤ next → Fits p need deliv comes n restart pdu
      → Fits p (then_needs need next v) deliv comes n restart pdu
  unfolding Fits Quiet FitsPacket
  fits_then n restart None l h = rw (needs_before n (omega arith), needs_before (n + 1) l) h
  fits_then n restart (Some (report_pdu fmc bits)) l h = rw (needs_before n (omega arith), needs_before (n + 1) l) h
  fits_then n true (Some (packet_pdu count packet)) l h = rw (needs_before (n + 1) l) h
  fits_then n false (Some (packet_pdu count packet)) l h = rw (needs_before n (omega arith), needs_before (n + 1) l) h

  pub stands_then : (low : ℕ) (fs : List Frame) → Stands p need deliv comes low fs next
      → Stands p (then_needs need next v) deliv comes low fs next
  unfolding Stands
  stands_then low [] h = h
  stands_then low (f ∷ fs) h =
      let l = stands_low p need deliv comes (f.number + 1) fs next h.2 in
      (h.0, fits_then f.number f.restart f.pdu l h.1, stands_then (f.number + 1) fs h.2)

pub line_then : (p : ℕ → List ℕ) (v : View) (need : ℕ → ℕ) (next n : ℕ) (tunnel : List Frame) (f : Frame) → f.number ≡ next
    → Line p v need next tunnel → Fits p (then_needs need next n) v.deliv v.comes next f.restart f.pdu
    → Line p v (then_needs need next n) (next + 1) (tunnel ++ f ∷ [])
line_then p v need next n tunnel f e h fits =
    let low = stands_low p need v.deliv v.comes v.awaited tunnel next h.stands in
    record {
      stands = stands_more p (then_needs need next n) v.deliv v.comes v.awaited tunnel next f e
          (stands_then p need v.deliv v.comes next n v.awaited tunnel h.stands) (rw e fits);
      taken = λ w u. rw (needs_before p need v.deliv v.comes next n v.awaited low) (h.taken w u);
    }

-- ---- the CU-UP puts

-- what a frame leaves alone
pub record Alike (b c : CuUpBearer) : Type 0 where
  pub sender : c.sender ≡ b.sender
  pub loss : c.loss_while_frozen ≡ b.loss_while_frozen
  pub taken : c.taken_while_frozen ≡ b.taken_while_frozen

abbrev pub Puts : (p : ℕ → List ℕ) (v : View) (tunnel : List Frame) (b : CuUpBearer) (cursor : ℕ) (sent : Sending) → Type 0
Puts p v tunnel b cursor sent = Speaks p v (tunnel ++ sent.frames) sent.bearer cursor × Alike b sent.bearer

-- a poll, or a status report
unfoldable pub IsQuiet : Option Pdu → Type 0
IsQuiet None = Unit {0}
IsQuiet (Some (report_pdu fmc bits)) = Unit {0}
IsQuiet (Some (packet_pdu count packet)) = ⊥

module _ (p : ℕ → List ℕ) (v : View) where
  -- a packet that fits
  fits_one : (t : Bool) (need : ℕ → ℕ) (next a : ℕ) → a < v.comes → Marked t a v.deliv (need next)
      → Fits p (then_needs need next (a + 1)) v.deliv v.comes next t (Some (packet_pdu a (p a)))
  unfolding Fits FitsPacket Marked
  fits_one true need next a l m =
      rw (needs_then p need v.deliv v.comes next (a + 1)) (m, omega arith, l, refl)
  fits_one false need next a l m =
      rw (needs_then p need v.deliv v.comes next (a + 1), needs_before p need v.deliv v.comes next (a + 1) next (omega arith))
      (m, omega arith, l, refl)

  used_up : (t : Bool) (need : ℕ → ℕ) (next a : ℕ) → Marked (t && not t) (a + 1) v.deliv (then_needs need next (a + 1) (next + 1))
  unfolding Marked
  used_up true need next a = rw (needs_then p need v.deliv v.comes next (a + 1)) (omega arith)
  used_up false need next a = rw (needs_then p need v.deliv v.comes next (a + 1)) (omega arith)

  pub puts_one : (tunnel : List Frame) (b : CuUpBearer) (a : ℕ) → Speaks p v tunnel b a → b.loss_while_frozen ≡ false → a < v.comes
      → Puts p v tunnel b (a + 1) (frame_on false b.restart (Some (packet_pdu a (p a))) b b.downlink)
  puts_one tunnel b a h none l =
      let need = h.need in
      let d = h.downlink in
      subst (λ o. Puts p v tunnel b (a + 1) (frame_on false b.restart (Some (packet_pdu a (p a))) b o)) (sym h.there) (
        record {
          need = then_needs need (d.next) (a + 1);
          downlink = record d { next = d.next + 1 };
          there = refl;
          line = line_then p v need (d.next) (a + 1) tunnel
              (record { poll = false; restart = b.restart; number = d.next; pdu = Some (packet_pdu a (p a)) }) refl h.line
              (fits_one b.restart need (d.next) a l (h.marked none));
          marked = λ _. used_up b.restart need (d.next) a;
        },
        record { sender = refl; loss = refl; taken = refl },
      )

  -- packets in their order
  pub puts_packets : (n a : ℕ) (tunnel : List Frame) (b : CuUpBearer) → Speaks p v tunnel b a → b.loss_while_frozen ≡ false
      → a + n ≤ v.comes → Puts p v tunnel b (a + n) (packets_sent (segment (pairs p) a n) b)
  unfolding segment packets_sent
  puts_packets zero a tunnel b h none l =
      let e : a + 0 ≡ a = omega arith in
      (rw (e, append-nil tunnel) h, record { sender = refl; loss = refl; taken = refl })
  puts_packets (suc n) a tunnel b h none l =
      let one = frame_on false b.restart (Some (packet_pdu a (p a))) b b.downlink in
      let k = puts_one tunnel b a h none (omega arith) in
      let more = packets_sent (segment (pairs p) (a + 1) n) one.bearer in
      let j = puts_packets n (a + 1) (tunnel ++ one.frames) one.bearer k.0 (k.1.loss ∙ none) (omega arith) in
      let e : a + suc n ≡ a + 1 + n = omega arith in (
        subst (λ c. Speaks p v (tunnel ++ (one.frames ++ more.frames)) more.bearer c) (sym e)
            (subst (λ fs. Speaks p v fs more.bearer (a + 1 + n)) (append_assoc tunnel one.frames more.frames) j.0),
        record { sender = j.1.sender ∙ k.1.sender; loss = j.1.loss ∙ k.1.loss; taken = j.1.taken ∙ k.1.taken },
      )

  pub puts_upto : (a b : ℕ) (tunnel : List Frame) (c : CuUpBearer) → Speaks p v tunnel c a → c.loss_while_frozen ≡ false
      → b ≤ v.comes → a ≤ b → Puts p v tunnel c b (packets_sent (upto (pairs p) a b) c)
  unfolding upto
  puts_upto a b tunnel c h none l m =
      let e : a + (b - a) ≡ b = omega arith in
      subst (λ i. Puts p v tunnel c i (packets_sent (segment (pairs p) a (b - a)) c)) e
      (puts_packets (b - a) a tunnel c h none (omega arith))

  fits_quiet : (pdu : Option Pdu) → IsQuiet pdu → (need : ℕ → ℕ) (next : ℕ)
      → Fits p (then_needs need next (need next)) v.deliv v.comes next false pdu
  unfolding Fits Quiet IsQuiet
  fits_quiet None q need next =
      rw (needs_then p need v.deliv v.comes next (need next), needs_before p need v.deliv v.comes next (need next) next (omega arith))
      (refl, omega arith)
  fits_quiet (Some (report_pdu fmc bits)) q need next =
      rw (needs_then p need v.deliv v.comes next (need next), needs_before p need v.deliv v.comes next (need next) next (omega arith))
      (refl, omega arith)
  fits_quiet (Some (packet_pdu count packet)) q need next = absurd q

  still : (t : Bool) (need : ℕ → ℕ) (next a : ℕ) → Marked t a v.deliv (need next)
      → Marked (t && not false) a v.deliv (then_needs need next (need next) (next + 1))
  unfolding Marked
  still true need next a h = h
  still false need next a h = rw (needs_then p need v.deliv v.comes next (need next)) h

  pub puts_quiet : (poll : Bool) (pdu : Option Pdu) → IsQuiet pdu → (tunnel : List Frame) (b : CuUpBearer) (a : ℕ) → Speaks p v tunnel b a
      → Puts p v tunnel b a (frame_on poll false pdu b b.downlink)
  puts_quiet poll pdu q tunnel b a h =
      let need = h.need in
      let d = h.downlink in
      subst (λ o. Puts p v tunnel b a (frame_on poll false pdu b o)) (sym h.there) (
        record {
          need = then_needs need (d.next) (need (d.next));
          downlink = record d { next = d.next + 1 };
          there = refl;
          line = line_then p v need (d.next) (need (d.next)) tunnel
              (record { poll = poll; restart = false; number = d.next; pdu = pdu }) refl h.line (fits_quiet pdu q need (d.next));
          marked = λ u. still b.restart need (d.next) a (h.marked u);
        },
        record { sender = refl; loss = refl; taken = refl },
      )

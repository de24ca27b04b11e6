-- A frame is lost, the DU takes one, the terminal takes a packet: all is kept.
use Rattle.std.proofs.Common.{◌≡◌, ℕ, ◌+◌, ◌<◌, ◌≤◌, max, Bool, true, false, not, ◌&&◌, ◌||◌, nat_lt, List, [], ◌∷◌, ◌++◌, Option, Some, None, refl, sym, subst, ◌∙◌, true≢false, arith}
use Rattle.std.proofs.lemmas.List.{append-nil}
use Rattle.intervals.specs.Intervals.{HasNoGap, reach}
use Rattle.intervals.proofs.Intervals.{all_append, reach-le, reach-append, HasNoGap-append}
use Rattle.unit_defs.specs.Ways.{Pdu, packet_pdu, report_pdu}
use Rattle.law_downlink_order.proofs.chain.Frames.{apart}
use Rattle.law_downlink_order.specs.path.Paths.{Frame, Path, carried_by, gap_after, taken_by}
use Rattle.law_downlink_order.specs.path.Steps.{loses, takes, after}
use Rattle.law_downlink_order.proofs.path.Facts.{View, view, FitsPacket, Quiet, Fits, Stands, Radio, Kept}
use Rattle.law_downlink_order.proofs.path.Puts.{stands_without}

-- a gap that isn't open after a frame
no_gap_by : (gap late restart : Bool) → ((gap || late) && not restart) ≡ false → restart ≡ false → (gap ≡ false) × (late ≡ false)
no_gap_by false false restart h e = (refl, refl)
no_gap_by true late restart h e = absurd (true≢false (sym (rw e) ∙ h))
no_gap_by false true restart h e = absurd (true≢false (sym (rw e) ∙ h))

no_gap_or : (gap late : Bool) → (gap || late) ≡ false → (gap ≡ false) × (late ≡ false)
no_gap_or false false h = (refl, refl)
no_gap_or true late h = absurd (true≢false h)
no_gap_or false true h = absurd (true≢false h)

module _ (p : ℕ → List ℕ) (base : ℕ) (s : Path) (k : Kept p base s) where
  abbrev v : View
  v = view s

  pub kept_loses : (before : List Frame) (f : Frame) (rest : List Frame) → s.tunnel ≡ before ++ f ∷ rest
      → Kept p base (after s (loses before f rest))
  unfolding after
  kept_loses before f rest is =
      let h = k.speaks in
      record {
        low = k.low;
        sent = k.sent;
        holds = k.holds;
        speaks = record {
          need = h.need;
          downlink = h.downlink;
          there = h.there;
          line = record {
            stands = stands_without p h.need v.deliv v.comes v.awaited before f rest (h.downlink.next)
                (subst (λ fs. Stands p h.need v.deliv v.comes v.awaited fs (h.downlink.next)) is h.line.stands);
            taken = h.line.taken;
          };
          marked = h.marked;
        };
        radio = k.radio;
      }

  -- ---- the DU takes a frame

  -- a packet that fits goes to the radio
  goes_on : (count : ℕ) (packet : List ℕ) → count ≤ v.reached → count < s.comes → packet ≡ p count
      → Radio p (max base s.comes) s.terminal.deliv s.terminal.stored (s.air ++ (count, packet) ∷ []) s.delivered
      × (reach s.terminal.deliv (s.air ++ (count, packet) ∷ []) ≡ max v.reached (count + 1))
  unfolding HasNoGap reach
  goes_on count packet fits before is =
      let r = k.radio in
      let reached = reach-append s.terminal.deliv s.air ((count, packet) ∷ []) in (
        record {
          no_gap = HasNoGap-append s.terminal.deliv s.air ((count, packet) ∷ []) r.no_gap (fits, tt);
          packets = all_append (λ (e : ℕ × List ℕ). e.1 ≡ p e.0) s.air ((count, packet) ∷ []) r.packets (is, tt);
          reached_limit = (let a = r.reached_limit in rw reached (omega arith));
          delivered_are = r.delivered_are;
          none_stored = r.none_stored;
        },
        reached,
      )

  abbrev Took : ℕ → ℕ → Bool → Option Pdu → Type 0
  Took needed n g pdu = let air = s.air ++ carried_by g pdu in
      Radio p (max base s.comes) s.terminal.deliv s.terminal.stored air s.delivered × (g ≡ false → needed ≤ reach s.terminal.deliv air)

  -- the number is the awaited one, where no gap is seen
  awaited_is : (n : ℕ) → v.awaited ≤ n → nat_lt v.awaited n ≡ false → n ≡ v.awaited
  awaited_is n l h = let a : n ≤ v.awaited = grind arith in omega arith

  deliv_reached : s.terminal.deliv ≤ v.reached
  deliv_reached = reach-le s.terminal.deliv s.air

  took_quiet : (need : ℕ → ℕ) (n : ℕ) (g : Bool) (pdu : Option Pdu) → carried_by g pdu ≡ [] → (v.gap ≡ false → need v.awaited ≤ v.reached)
      → v.awaited ≤ n → need (n + 1) ≤ max v.deliv (need n) → (g ≡ false → (v.gap ≡ false) × (nat_lt v.awaited n ≡ false))
      → Took (need (n + 1)) n g pdu
  took_quiet need n g pdu none h l fits open_ = rw (none, append-nil s.air) (
    k.radio,
    λ u.
        let o = open_ u in
        let e = awaited_is n l o.1 in
        let a = h o.0 in
        let b : need n ≤ v.reached = rw e a in
        let c = deliv_reached in omega arith,
  )

  took : (need : ℕ → ℕ) (n : ℕ) (r : Bool) (pdu : Option Pdu) → (v.gap ≡ false → need v.awaited ≤ v.reached) → v.awaited ≤ n
      → Fits p need v.deliv v.comes n r pdu → (poll g : Bool)
      → gap_after s.du (record { poll = poll; restart = r; number = n; pdu = pdu }) pdu ≡ g → Took (need (n + 1)) n g pdu
  unfolding Fits Quiet FitsPacket
  took need n r None h l fits poll true is = took_quiet need n true None refl h l fits.1 (λ u. absurd (true≢false u))
  took need n r None h l fits poll false is = took_quiet need n false None refl h l fits.1 (λ u. no_gap_or v.gap (nat_lt v.awaited n) is)
  took need n r (Some (report_pdu fmc bits)) h l fits poll true is =
      took_quiet need n true (Some (report_pdu fmc bits)) refl h l fits.1 (λ u. absurd (true≢false u))
  took need n r (Some (report_pdu fmc bits)) h l fits poll false is =
      took_quiet need n false (Some (report_pdu fmc bits)) refl h l fits.1 (λ u. no_gap_by v.gap (nat_lt v.awaited n) r is fits.0)
  took need n r (Some (packet_pdu count packet)) h l fits poll true is =
      rw (append-nil s.air) (k.radio, λ u. absurd (true≢false u))
  took need n true (Some (packet_pdu count packet)) h l fits poll false is =
      let j = goes_on count packet (let a = fits.0 in let b = deliv_reached in omega arith) fits.2 fits.3 in
      (j.0, λ u. (let a = fits.1 in let b = deliv_reached in let c = j.1 in omega arith))
  took need n false (Some (packet_pdu count packet)) h l fits poll false is =
      let o = no_gap_by v.gap (nat_lt v.awaited n) false is refl in
      let e = awaited_is n l o.1 in
      let a = h o.0 in
      let b : need n ≤ v.reached = rw e a in
      let c = deliv_reached in
      let j = goes_on count packet (let d = fits.0 in omega arith) fits.2 fits.3 in
      (j.0, λ u. (let d = fits.1 in let i = j.1 in omega arith))

  takes_by : (f : Frame) (rest : List Frame)
      → Stands p k.speaks.need v.deliv v.comes (f.number + 1) rest (k.speaks.downlink.next)
      → (s.listens ≡ true → Took (k.speaks.need (f.number + 1)) f.number (gap_after s.du f f.pdu) f.pdu)
      → (t : Bool) → s.listens ≡ t
      → Kept p base (record s
      { tunnel = rest; du = taken_by s.du f; air = s.air ++ carried_by (not t || gap_after s.du f f.pdu) f.pdu })
  takes_by f rest stands took_it true is =
      let h = k.speaks in
      let j = took_it is in
      record {
        low = k.low;
        sent = k.sent;
        holds = k.holds;
        speaks = record {
          need = h.need;
          downlink = h.downlink;
          there = h.there;
          line = record { stands = stands; taken = λ _. j.1 };
          marked = h.marked;
        };
        radio = j.0;
      }
  takes_by f rest stands took_it false is =
      let h = k.speaks in
      rw (append-nil s.air) (record {
        low = k.low;
        sent = k.sent;
        holds = k.holds;
        speaks = record {
          need = h.need;
          downlink = h.downlink;
          there = h.there;
          line = record { stands = stands; taken = λ w. apart w is };
          marked = h.marked;
        };
        radio = k.radio;
      })

  pub kept_takes : (f : Frame) (rest : List Frame) → s.tunnel ≡ f ∷ rest → Kept p base (after s (takes f rest))
  unfolding after Stands
  kept_takes f rest is =
      let h = k.speaks in
      let st : Stands p h.need v.deliv v.comes v.awaited (f ∷ rest) (h.downlink.next) =
      subst (λ fs. Stands p h.need v.deliv v.comes v.awaited fs (h.downlink.next)) is h.line.stands in
      takes_by f rest st.2
      (λ w. took h.need f.number f.restart f.pdu (h.line.taken w) st.0 st.1 f.poll (gap_after s.du f f.pdu) refl) s.listens refl

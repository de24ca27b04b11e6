-- Control of a context that sends: what it sends then may be sent.
use Rattle.std.proofs.Common.{◌≡◌, ◌≢◌, ℕ, ◌≤◌, max, Bool, true, false, ◌||◌, if◌then◌else◌, List, [], ◌∷◌, ◌++◌, filter, Some, refl, sym, ap, subst, ◌∙◌, append_assoc, true≢false, arith}
use Rattle.std.specs.List.{AllByRecursion}
use Rattle.std.proofs.lemmas.List.{append-nil}
use Rattle.gnb_types.specs.declared.plans.SnStatus.{SnStatus}
use Rattle.intervals.specs.Intervals.{HasNoGap, reach}
use Rattle.intervals.proofs.Intervals.{reach-le}
use Rattle.bearer_defs.specs.chain_defs.Orders.{knows, resumes, freezes, releases, sends_again, forwards, frozen, known, changed, sent, after, run}
use Rattle.bearer_defs.specs.chain_defs.Models.{Member, Model, set}
use Rattle.law_downlink_order.proofs.chain.Frames.{set_here, set_far}
use Rattle.unit_defs.specs.Ways.{report_pdu}
use Rattle.unit_defs.specs.CuUpBearers.{bits_in, is_one_of, owed, thawed, released}
use Rattle.unit_defs.specs.CuUpRecords.{SourceHop, CuUpBearer, CuUpFlags}
use Rattle.proof_cu_up_orders.specs.context_orders.Orders.{CuUpModel, on_status, on_resume}
use Rattle.law_downlink_order.specs.path.Paths.{Frame, Sending, frame_on, packets_sent}
use Rattle.law_downlink_order.specs.path.Steps.{sent_anew}
use Rattle.proof_cu_up_orders.specs.handover_rows.Shown.{handed_up}
use Rattle.law_downlink_order.specs.received_packets.Received.{WasPut}
use Rattle.law_downlink_order.specs.sent_frames.Senders.{IsSender}
use Rattle.law_downlink_order.proofs.sent_frames.Sends.{sends as packets_go, reports as report_goes}
use Rattle.proof_cu_up_orders.specs.down_orders.Down.{IsDown, numbers_if, packets_if, status_orders}
use Rattle.proof_cu_up_orders.proofs.down_orders.Models.{went_kept, went_sent, went_more}
use Rattle.proof_cu_up_orders.specs.frame_rows.Sent.{none_sent, and_then}
use Rattle.proof_cu_up_orders.proofs.frame_rows.Sends.{frame_keeps}
use Rattle.proof_cu_up_orders.specs.sending_contexts.Sending.{Tunnel, with_frames, IsSending}
use Rattle.proof_cu_up_orders.proofs.sending_contexts.Lists.{no_gap_later, reach_later, all_first, none_taken}
use Rattle.proof_cu_up_orders.proofs.sending_contexts.Facts.{Facts}
use Rattle.proof_cu_up_orders.proofs.sending_contexts.Ends.{Later, facts_here, Goes, all_put, later, ends, Numbered, numbers_go, ends_so}
use Rattle.proof_cu_up_orders.proofs.frames_kept.Items.{Sends, nothing_sent, sender_of}

abbrev Packets : Type 0
Packets = List (ℕ × List ℕ)

module _ (s : Model) (x : ℕ) (p : CuUpModel) (is : IsDown (s.members x) p) (facts : Facts s (s.members x)) (w : Tunnel) (i : IsSending s x p.bearer w) where
  abbrev m : Member
  m = s.members x

  abbrev b : CuUpBearer
  b = p.bearer

  abbrev Goes_on : Model → Sending → Type 0
  Goes_on t one = Sends s x p is facts w i t one

  pub status_one : (status : SnStatus) → (p.at.flags.arrived ≡ true → m.flags.frozen ≡ false) → Goes_on (run s (status_orders x status p))
      (let c = handed_up (known b status) in
      if p.at.flags.arrived then and_then (sent_anew status.ul_first (bits_in status.ul_received) c) (λ d. packets_sent (packets_if (on_status p).at c) d)
      else none_sent b)
  unfolding run after
  status_one status free = by p.at.flags.arrived refl
    where
      c : CuUpBearer
      c = handed_up (known b status)

      n : Member
      n = record m { flags = record m.flags { may_serve = true }; bearer = known m.bearer status }

      t0 : Model
      t0 = changed s x n

      more : Packets
      more = (t0.members x).bearer.sender.unconfirmed

      t1 : Model
      t1 = sent t0 (t0.members x) more

      here : t0.members x ≡ n
      here = set_here s.members x n

      begins_now : m.flags.frozen ≡ false → Goes_on (run t1 (numbers_if x (on_status p).at (known b status)))
          (and_then (sent_anew status.ul_first (bits_in status.ul_received) c) (λ d. packets_sent (packets_if (on_status p).at c) d))
      begins_now serves behind =
          let es = packets_if (on_status p).at c in
          let t = run t1 (numbers_if x (on_status p).at (known b status)) in
          let k = numbers_go s t1 x n more (on_status p).at (known b status) (went_more s x t0 n [] (went_kept s x n) here more) i.epoch is.there here
          (ap (λ (u : CuUpBearer). u.waiting) is.bearer) (ap (λ (u : CuUpBearer). (known u status).sender) is.bearer) in
          let un : m.bearer.sender.unconfirmed ≡ b.sender.unconfirmed = ap (λ (u : CuUpBearer). u.sender.unconfirmed) is.bearer in
          let all_there : more ≡ b.sender.unconfirmed = ap (λ (o : Member). o.bearer.sender.unconfirmed) here ∙ un in
          let fmc = status.ul_first in
          let bits = bits_in status.ul_received in
          let now = sender_of t b c w.du w.frames w.waits i.cursor refl refl (later s t x k.member (more ++ es) k.goes_so b w.du w.frames w.waits i.cursor i.sender) in
          let said = report_goes t w.du w.waits c w.frames i.cursor false fmc bits now in
          let one = frame_on false false (Some (report_pdu fmc bits)) c c.downlink in
          let kept = (frame_keeps false false (Some (report_pdu fmc bits)) c).sender in
          let put = subst (λ (xs : Packets). AllByRecursion (λ (v : ℕ × List ℕ). WasPut t v.0 v.1) xs) all_there
          (all_first (λ (v : ℕ × List ℕ). WasPut t v.0 v.1) more es (all_put s t x k.member (more ++ es) k.goes_so)) in
          status_then t k serves behind fmc bits one said un kept put
        where
          status_then : (t : Model) → Numbered s t x n more (packets_if (on_status p).at c) → m.flags.frozen ≡ false → Later t x → (fmc : ℕ) (bits : List Bool) (one : Sending)
              → IsSender t one.bearer w.du (w.frames ++ one.frames) w.waits i.cursor → m.bearer.sender.unconfirmed ≡ b.sender.unconfirmed
              → one.bearer.sender ≡ c.sender → AllByRecursion (λ (v : ℕ × List ℕ). WasPut t v.0 v.1) b.sender.unconfirmed
              → let all = packets_sent one.bearer.sender.unconfirmed one.bearer in
              IsSending t x (packets_sent (packets_if (on_status p).at c) all.bearer).bearer
              (with_frames w ((one.frames ++ all.frames) ++ (packets_sent (packets_if (on_status p).at c) all.bearer).frames))
          status_then t k serves behind fmc bits one said un kept put =
              let es = packets_if (on_status p).at c in
              let held = b.sender.unconfirmed in
              let no_gap : HasNoGap s.terminal.deliv held = subst (λ (xs : Packets). HasNoGap s.terminal.deliv xs) un (facts.no_gap (facts.serves serves)) in
              let sent_all = packets_go t w.du w.waits one.bearer (w.frames ++ one.frames) i.cursor held said put (no_gap_later s.terminal.deliv i.cursor held i.received no_gap) in
              let all = packets_sent held one.bearer in
              let last = packets_sent es all.bearer in
              let far = reach-le i.cursor held in
              let least = i.received in
              let at_last = ends_so s t x n more es k behind all.bearer w.du ((w.frames ++ one.frames) ++ all.frames) w.waits (reach i.cursor held) sent_all
              (omega (arith, far, least)) (λ e. absurd (true≢false (sym e ∙ serves)))
              (λ e. subst (λ (xs : Packets). reach s.terminal.deliv xs ≤ reach i.cursor held) (sym un) (reach_later s.terminal.deliv i.cursor held i.received))
              (λ e. absurd (true≢false (sym e ∙ serves))) in
              subst (λ (xs : Packets). IsSending t x (packets_sent es (packets_sent xs one.bearer).bearer).bearer
              (with_frames w ((one.frames ++ (packets_sent xs one.bearer).frames) ++ (packets_sent es (packets_sent xs one.bearer).bearer).frames)))
              (sym (ap (λ q. q.unconfirmed) kept))
              (subst (λ (fs : List Frame). IsSending t x last.bearer (record w { frames = fs }))
              (ap (λ (fs : List Frame). fs ++ last.frames) (append_assoc w.frames one.frames all.frames) ∙ append_assoc w.frames (one.frames ++ all.frames) last.frames) at_last)

      by : (u : Bool) → p.at.flags.arrived ≡ u → Goes_on (run s (knows x status ∷ (if u then sends_again x ∷ numbers_if x (on_status p).at (known b status) else [])))
          (if u then and_then (sent_anew status.ul_first (bits_in status.ul_received) c) (λ d. packets_sent (packets_if (on_status p).at c) d) else none_sent b)
      by true e = begins_now (free e)
      by false e = λ behind. nothing_sent s x p is facts w i t0 n [] (went_kept s x n) (refl, refl) i.served i.frozen

  -- ---- a freeze, a release

  pub freeze_one : (to : ℕ) (hop : SourceHop) → m.flags.frozen ≡ false → to ≢ x → Goes_on (run s (freezes x to hop ∷ [])) (none_sent b)
  unfolding run after packets_sent HasNoGap reach
  freeze_one to hop free apart behind =
      let k : Member = record m { flags = record m.flags { frozen = true }; bearer = frozen m.bearer hop; next_hop = to } in
      let t = run s (freezes x to hop ∷ []) in
      let u : Member = s.members to in
      let there : t.members x ≡ k =
      set_far (set s.members x k) to (record u { forwarded = u.forwarded ++ forwards m.bearer; promised = m.bearer.sender.next }) x (λ e. apart (sym e)) ∙ set_here s.members x k in
      let g : Goes s t x k [] = record {
        terminal = refl;
        epoch = refl;
        air = sym (append-nil s.air);
        here = ap (λ (o : Member). record o { forwarded = k.forwarded }) there;
        now = i.epoch;
        there = is.there;
      } in
      let none : owed k.bearer ≡ [] = none_taken m.bearer.sender.unconfirmed in
      ends s t x k [] g b w.du w.frames w.waits i.cursor [] (later s t x k [] g b w.du w.frames w.waits i.cursor i.sender) i.received tt tt
      (λ e. absurd (true≢false e))
      (λ e r. (
        subst (λ (xs : Packets). HasNoGap i.cursor xs) (sym none) tt,
        subst (λ (xs : Packets). reach s.terminal.deliv m.bearer.sender.unconfirmed ≤ reach i.cursor xs) (sym none) (i.served free),
      ))

  pub release_one : Goes_on (run s (releases x ∷ [])) (none_sent b)
  unfolding run after reach
  release_one behind =
      let k : Member = record m { flags = record m.flags { released = true }; bearer = released m.bearer } in
      nothing_sent s x p is facts w i (changed s x k) k [] (went_kept s x k) (refl, refl) (λ e. i.received) (λ e r. absurd (true≢false r))

  -- ---- a resume

  pub resume_one : m.flags.frozen ≡ true → let c : CuUpBearer = record (thawed b) { restart = b.restart || b.loss_while_frozen } in
      Goes_on (run s (resumes x ∷ numbers_if x (on_resume p).at (thawed b)))
      (and_then (packets_sent (owed b) c) (λ d. packets_sent (packets_if (on_resume p).at c) d))
  unfolding run after
  resume_one f behind =
      let c : CuUpBearer = record (thawed b) { restart = b.restart || b.loss_while_frozen } in
      let n : Member = record m { flags = record m.flags { frozen = false }; bearer = thawed m.bearer } in
      let first = owed m.bearer in
      let t1 = sent (changed s x n) m first in
      let es = packets_if (on_resume p).at c in
      let t = run t1 (numbers_if x (on_resume p).at (thawed b)) in
      let k = numbers_go s t1 x n first (on_resume p).at (thawed b) (went_sent s x n m first refl) i.epoch is.there (set_here s.members x n)
      (ap (λ (u : CuUpBearer). u.waiting) is.bearer) (ap (λ (u : CuUpBearer). u.sender) is.bearer) in
      let member_free : k.member.flags.frozen ≡ false = ap (λ (g : CuUpFlags). g.frozen) k.flags in
      let keeps_member : k.member.flags.released ≡ false =
      ap (λ (o : Member). o.flags.released) (sym k.goes_so.here) ∙ (facts_here s t x k.member (first ++ es) k.goes_so behind).serves (ap (λ (o : Member). o.flags.frozen) k.goes_so.here ∙ member_free) in
      let keeps : m.flags.released ≡ false = ap (λ (g : CuUpFlags). g.released) (sym k.flags) ∙ keeps_member in
      let now = later s t x k.member (first ++ es) k.goes_so b w.du w.frames w.waits i.cursor i.sender in
      let same : s.terminal.deliv ≡ t.terminal.deliv = ap (λ r. r.deliv) (sym k.goes_so.terminal) in
      let put = all_first (λ (v : ℕ × List ℕ). WasPut t v.0 v.1) first es (all_put s t x k.member (first ++ es) k.goes_so) in
      let no_gap : HasNoGap s.terminal.deliv m.bearer.sender.unconfirmed = facts.no_gap keeps in
      let assumes : first ≡ owed b = ap (λ (u : CuUpBearer). owed u) is.bearer in
      let loss : m.bearer.loss_while_frozen ≡ b.loss_while_frozen = ap (λ (u : CuUpBearer). u.loss_while_frozen) is.bearer in
      let from = which t same now (i.frozen f keeps) no_gap loss in
      let sent_first = packets_go t w.du w.waits c w.frames from.0 first from.1 put from.3 in
      let far = reach-le from.0 first in
      let least = from.2 in
      let two = λ (xs : Packets). packets_sent es (packets_sent xs c).bearer in
      let at_last = ends_so s t x n first es k behind (packets_sent first c).bearer w.du (w.frames ++ (packets_sent first c).frames) w.waits (reach from.0 first) sent_first
      (omega (arith, far, least)) (λ e. absurd (true≢false (sym e))) (λ e. from.4) (λ e. absurd (true≢false (sym e))) in
      subst (λ (xs : Packets). IsSending t x (packets_sent es (packets_sent xs c).bearer).bearer
      (with_frames w ((packets_sent xs c).frames ++ (packets_sent es (packets_sent xs c).bearer).frames))) assumes
      (subst (λ (fs : List Frame). IsSending t x (packets_sent es (packets_sent first c).bearer).bearer (record w { frames = fs }))
      (append_assoc w.frames (packets_sent first c).frames (packets_sent es (packets_sent first c).bearer).frames) at_last)
    where
      -- after a loss all is sent with the restart mark, else what came while frozen
      which : (t : Model) → s.terminal.deliv ≡ t.terminal.deliv → IsSender t b w.du w.frames w.waits i.cursor
          → HasNoGap i.cursor (owed m.bearer) × (reach s.terminal.deliv m.bearer.sender.unconfirmed ≤ reach i.cursor (owed m.bearer))
          → HasNoGap s.terminal.deliv m.bearer.sender.unconfirmed → m.bearer.loss_while_frozen ≡ b.loss_while_frozen
          → (cursor : ℕ) × IsSender t (record (thawed b) { restart = b.restart || b.loss_while_frozen }) w.du w.frames w.waits cursor × (s.terminal.deliv ≤ cursor)
          × HasNoGap cursor (owed m.bearer) × (reach s.terminal.deliv m.bearer.sender.unconfirmed ≤ reach cursor (owed m.bearer))
      which t same now had no_gap loss = by m.bearer.loss_while_frozen refl
        where
          or_true : (r : Bool) → (r || true) ≡ true
          or_true true = refl
          or_true false = refl

          or_false : (r : Bool) → (r || false) ≡ r
          or_false true = refl
          or_false false = refl

          c : CuUpBearer
          c = record (thawed b) { restart = b.restart || b.loss_while_frozen }

          by : (u : Bool) → m.bearer.loss_while_frozen ≡ u
              → (cursor : ℕ) × IsSender t c w.du w.frames w.waits cursor × (s.terminal.deliv ≤ cursor)
              × HasNoGap cursor (owed m.bearer) × (reach s.terminal.deliv m.bearer.sender.unconfirmed ≤ reach cursor (owed m.bearer))
          by true e =
              let lost : c.restart ≡ true = ap (λ (u : Bool). b.restart || u) (sym loss ∙ e) ∙ or_true b.restart in
              let assumes : owed m.bearer ≡ m.bearer.sender.unconfirmed =
              ap (λ (u : Bool). if u then m.bearer.sender.unconfirmed else filter (λ (v : ℕ × List ℕ). is_one_of m.bearer.taken_while_frozen v.0) m.bearer.sender.unconfirmed) e in
              let mark : IsSender t c w.du w.frames w.waits s.terminal.deliv = record {
                downlink = now.downlink;
                there = now.there;
                needed = now.needed;
                line = now.line;
                marked = subst (λ (r : Bool). s.terminal.deliv ≤ (if r then t.terminal.deliv else max t.terminal.deliv now.needed)) (sym lost) (omega (arith, same));
              } in (
                s.terminal.deliv,
                mark,
                omega arith,
                subst (λ (xs : Packets). HasNoGap s.terminal.deliv xs) (sym assumes) no_gap,
                subst (λ (xs : Packets). reach s.terminal.deliv m.bearer.sender.unconfirmed ≤ reach s.terminal.deliv xs) (sym assumes) (omega arith),
              )
          by false e =
              let as_was : c.restart ≡ b.restart = ap (λ (u : Bool). b.restart || u) (sym loss ∙ e) ∙ or_false b.restart in
              (i.cursor, sender_of t b c w.du w.frames w.waits i.cursor refl as_was now, i.received, had.0, had.1)

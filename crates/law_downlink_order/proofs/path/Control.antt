-- A freeze, a resume and a new tunnel keep all.
use Rattle.std.proofs.Common.{◌≡◌, ℕ, ◌≤◌, max, Bool, true, false, ◌||◌, if◌then◌else◌, List, [], filter, Some, refl, sym, ap, subst, ◌∙◌, true≢false, arith}
use Rattle.intervals.specs.Intervals.{upto, HasNoGap, reach}
use Rattle.intervals.proofs.Intervals.{upto-nil, reach-le}
use Rattle.pdcp_defs.specs.Senders.{Sender}
use Rattle.unit_defs.specs.Ways.{report_pdu}
use Rattle.unit_defs.specs.CuUpRecords.{DownlinkTunnel, SourceHop, CuUpBearer}
use Rattle.unit_defs.specs.CuUpBearers.{is_one_of, thawed}
use Rattle.law_downlink_order.proofs.chain.Facts.{pairs}
use Rattle.law_downlink_order.specs.path.Paths.{Path, frame_on, packets_sent}
use Rattle.law_downlink_order.specs.path.Steps.{freezes, resumes, fails, begins_anew, put, anew, sent_anew, after}
use Rattle.law_downlink_order.proofs.path.Facts.{View, view, Stands, Marked, Speaks, Kept}
use Rattle.law_downlink_order.proofs.path.Puts.{Puts, IsQuiet, puts_upto, puts_quiet}
use Rattle.law_downlink_order.proofs.path.Senders.{kept_sent, taken_of_all}

no_more : (b : Bool) → (b || true) ≡ true
no_more true = refl
no_more false = refl

as_before : (b : Bool) → (b || false) ≡ b
as_before true = refl
as_before false = refl

-- what was received needs no mark, and no place
marked_max : (t : Bool) (low sent deliv needed : ℕ) → low ≤ deliv → Marked t sent deliv needed → Marked t (max low sent) deliv needed
unfolding Marked
marked_max true low sent deliv needed l h = let a : sent ≤ deliv = h in omega arith
marked_max false low sent deliv needed l h = let a : sent ≤ max deliv needed = h in omega arith

marked_low : (t : Bool) (low deliv needed : ℕ) → low ≤ deliv → Marked t low deliv needed
unfolding Marked
marked_low true low deliv needed l = l
marked_low false low deliv needed l = omega arith

module _ (p : ℕ → List ℕ) (base : ℕ) (s : Path) (k : Kept p base s) where
  abbrev v : View
  v = view s

  pub kept_freezes : (hop : SourceHop) → s.frozen ≡ false → Kept p base (after s (freezes hop))
  unfolding after
  kept_freezes hop unfrozen =
      let all = k.holds.all_sent unfrozen in
      let h = k.speaks in
      record {
        low = k.low;
        sent = s.comes;
        holds = record {
          unconfirmed_are = k.holds.unconfirmed_are;
          low_comes = k.holds.low_comes;
          low_deliv = k.holds.low_deliv;
          sent_comes = omega arith;
          all_sent = λ u. absurd (true≢false u);
          taken_are = λ _. sym (upto-nil (λ i. i) s.comes s.comes (omega arith));
        };
        speaks = record {
          need = h.need;
          downlink = h.downlink;
          there = h.there;
          line = h.line;
          marked = λ _. subst (λ c. Marked s.bearer.restart c v.deliv (h.need (h.downlink.next))) all.0 (h.marked all.1);
        };
        radio = k.radio;
      }

  -- what is assumed is sent from here on
  resumes_from : (b : CuUpBearer) (cursor : ℕ) (items : List (ℕ × List ℕ)) → b.downlink ≡ s.bearer.downlink
      → b.loss_while_frozen ≡ false → b.sender ≡ s.bearer.sender → cursor ≤ s.comes → items ≡ upto (pairs p) cursor s.comes
      → Marked b.restart cursor v.deliv (k.speaks.need (k.speaks.downlink.next))
      → Kept p base (record (put s (packets_sent items b)) { frozen = false })
  resumes_from b cursor items same_downlink no_loss same_sender l is marked =
      let h = k.speaks in
      let at : Speaks p v s.tunnel b cursor = record {
        need = h.need;
        downlink = h.downlink;
        there = same_downlink ∙ h.there;
        line = h.line;
        marked = λ _. marked;
      } in
      let j = puts_upto p v cursor s.comes s.tunnel b at no_loss (omega arith) l in
      kept_sent p base s false s.comes b (packets_sent items b) k.low s.comes (omega arith)
      (record {
        unconfirmed_are = ap (λ (x : Sender (List ℕ)). x.unconfirmed) same_sender ∙ k.holds.unconfirmed_are;
        low_comes = k.holds.low_comes;
        low_deliv = k.holds.low_deliv;
        sent_comes = omega arith;
        all_sent = λ _. (refl, no_loss);
        taken_are = λ u. absurd (true≢false (sym u));
      })
      (subst (λ xs. Puts p v s.tunnel b s.comes (packets_sent xs b)) (sym is) j) k.radio

  resumes_by : (t : Bool) → s.bearer.loss_while_frozen ≡ t → s.frozen ≡ true
      → Kept p base (record
      (put s (packets_sent
      (if t then s.bearer.sender.unconfirmed else filter (λ e. is_one_of s.bearer.taken_while_frozen e.0) s.bearer.sender.unconfirmed)
      (record (thawed s.bearer) { restart = s.bearer.restart || t }))) { frozen = false })
  resumes_by true is is_frozen = resumes_from (record (thawed s.bearer) { restart = s.bearer.restart || true }) k.low
      s.bearer.sender.unconfirmed refl refl refl k.holds.low_comes k.holds.unconfirmed_are
      (marked_low (s.bearer.restart || true) k.low v.deliv (k.speaks.need (k.speaks.downlink.next)) k.holds.low_deliv)
  resumes_by false is is_frozen = resumes_from (record (thawed s.bearer) { restart = s.bearer.restart || false }) (max k.low k.sent)
      (filter (λ e. is_one_of s.bearer.taken_while_frozen e.0) s.bearer.sender.unconfirmed) refl refl refl
      (let a = k.holds.low_comes in let b = k.holds.sent_comes in omega arith)
      (rw (k.holds.unconfirmed_are, k.holds.taken_are is_frozen) (taken_of_all p k.low s.comes k.sent k.holds.sent_comes))
      (subst (λ t. Marked t (max k.low k.sent) v.deliv (k.speaks.need (k.speaks.downlink.next))) (sym (as_before s.bearer.restart))
      (marked_max s.bearer.restart k.low k.sent v.deliv (k.speaks.need (k.speaks.downlink.next)) k.holds.low_deliv (k.speaks.marked is)))

  pub kept_resumes : s.frozen ≡ true → Kept p base (after s resumes)
  unfolding after
  kept_resumes is_frozen = resumes_by s.bearer.loss_while_frozen refl is_frozen

  -- ---- the radio fails, and there is a new one

  pub kept_fails : Kept p base (after s fails)
  unfolding after HasNoGap reach
  kept_fails =
      let h = k.speaks in
      record {
        low = k.low;
        sent = k.sent;
        holds = k.holds;
        speaks = record {
          need = h.need;
          downlink = h.downlink;
          there = h.there;
          line = record { stands = h.line.stands; taken = λ w. absurd (true≢false (sym w)) };
          marked = h.marked;
        };
        radio = record {
          no_gap = tt;
          packets = tt;
          reached_limit = (let a = k.radio.reached_limit in let c = reach-le s.terminal.deliv s.air in omega arith);
          delivered_are = k.radio.delivered_are;
          none_stored = k.radio.none_stored;
        };
      }

  abbrev fresh : View
  fresh = record { deliv = s.terminal.deliv; comes = s.comes; listens = true; awaited = 0; gap = false; reached = s.terminal.deliv }

  begins : (d : DownlinkTunnel) → Speaks p fresh [] (anew s.bearer d) k.low
  unfolding Stands
  begins d = record {
    need = λ _. s.terminal.deliv;
    downlink = record d { next = 0 };
    there = refl;
    line = record { stands = none; taken = λ _ _. same };
    marked = λ _. marked_low false k.low s.terminal.deliv s.terminal.deliv k.holds.low_deliv;
  }
    where
      none : 0 ≤ 0
      none = omega arith

      same : s.terminal.deliv ≤ s.terminal.deliv
      same = omega arith

  pub kept_begins_anew : (d : DownlinkTunnel) (fmc : ℕ) (bits : List Bool) → Kept p base (after s (begins_anew d fmc bits))
  unfolding after HasNoGap reach IsQuiet
  kept_begins_anew d fmc bits =
      let b = anew s.bearer d in
      let report = frame_on false false (Some (report_pdu fmc bits)) b b.downlink in
      let i = puts_quiet p fresh false (Some (report_pdu fmc bits)) tt [] b k.low (begins d) in
      let j = puts_upto p fresh k.low s.comes report.frames report.bearer i.0 i.1.loss (omega arith) k.holds.low_comes in
      let un : report.bearer.sender.unconfirmed ≡ upto (pairs p) k.low s.comes =
      ap (λ (x : Sender (List ℕ)). x.unconfirmed) i.1.sender ∙ k.holds.unconfirmed_are in
      let all = subst (λ xs. Puts p fresh report.frames report.bearer s.comes (packets_sent xs report.bearer)) (sym un) j in
      let sent = sent_anew fmc bits b in
      record {
        low = k.low;
        sent = s.comes;
        holds = record {
          unconfirmed_are = ap (λ (x : Sender (List ℕ)). x.unconfirmed) all.1.sender ∙ un;
          low_comes = k.holds.low_comes;
          low_deliv = k.holds.low_deliv;
          sent_comes = omega arith;
          all_sent = λ _. (refl, all.1.loss ∙ i.1.loss);
          taken_are = λ u. absurd (true≢false (sym u));
        };
        speaks = all.0;
        radio = record {
          no_gap = tt;
          packets = tt;
          reached_limit = (let a = k.radio.reached_limit in let c = reach-le s.terminal.deliv s.air in omega arith);
          delivered_are = k.radio.delivered_are;
          none_stored = k.radio.none_stored;
        };
      }

-- From a context that sends before some orders to one that does so after them.
use Rattle.std.proofs.Common.{◌≡◌, ◌==◌, ℕ, ◌≤◌, Bool, true, false, if◌then◌else◌, List, [], ◌∷◌, ◌++◌, inl, inr, refl, sym, ap, subst, ◌∙◌, append_assoc, arith}
use Rattle.std.specs.List.{AllByRecursion}
use Rattle.std.proofs.lemmas.List.{append-nil}
use Rattle.gnb_types.specs.declared.names.SnBits.{SnBits}
use Rattle.intervals.specs.Intervals.{HasNoGap, reach}
use Rattle.intervals.proofs.Intervals.{reach-append, reach-le}
use Rattle.pdcp_defs.specs.Senders.{Sender, numbered as with_next, has_room}
use Rattle.bearer_defs.specs.chain_defs.Orders.{run}
use Rattle.bearer_defs.specs.chain_defs.Models.{Item, Member, Model}
use Rattle.unit_defs.specs.Du.{DuBearer}
use Rattle.unit_defs.specs.CuUpBearers.{owed}
use Rattle.unit_defs.specs.CuUpRecords.{CuUpScope, CuUpBearer, CuUpFlags}
use Rattle.proof_cu_up_orders.specs.chain_rows.Shown.{numbers_all, numbered_packets, number_orders}
use Rattle.law_downlink_order.specs.path.Paths.{Frame, packets_sent}
use Rattle.law_downlink_order.specs.received_packets.Received.{StandsAmong, WasPut}
use Rattle.law_downlink_order.specs.waiting_frames.Frames.{from_here}
use Rattle.law_downlink_order.proofs.waiting_frames.Frames.{line_later}
use Rattle.law_downlink_order.specs.sent_frames.Senders.{IsSender}
use Rattle.law_downlink_order.proofs.sent_frames.Sends.{sends}
use Rattle.proof_cu_up_orders.specs.down_orders.Down.{numbers_if, packets_if, serves_none, Went}
use Rattle.proof_cu_up_orders.proofs.down_orders.Models.{numbered_by, went_numbers}
use Rattle.proof_cu_up_orders.specs.sending_contexts.Sending.{IsSending}
use Rattle.proof_cu_up_orders.proofs.sending_contexts.Lists.{no_gap_later, reach_later, no_gap_rest, all_rest}
use Rattle.proof_cu_up_orders.proofs.sending_contexts.Facts.{Facts}

abbrev Packets : Type 0
Packets = List (ℕ × List ℕ)

-- ---- what orders came to: this member is there then, switched for the present radio, and these packets were put for it

pub record Goes (s t : Model) (x : ℕ) (m : Member) (packets : Packets) : Type 0 where
  pub terminal : t.terminal ≡ s.terminal
  pub epoch : t.epoch ≡ s.epoch
  pub air : t.air ≡ s.air ++ packets
  pub here : record (t.members x) { forwarded = m.forwarded } ≡ m
  pub now : m.epoch ≡ s.epoch
  pub there : m.is_there ≡ true

-- what is so of a context that is there then
abbrev pub Later : Model → ℕ → Type 0
Later t x = (t.members x).is_there ≡ true → Facts t (t.members x)

same_epoch : (n m : ℕ) → n ≡ m → (n == m) ≡ true
same_epoch n m e = grind arith

pub goes : (s t : Model) (x : ℕ) (m : Member) (items : List Item) (packets : Packets) → Went s t x m items packets → m.epoch ≡ s.epoch → m.is_there ≡ true
    → Goes s t x m packets
goes s t x m items packets w now there = record {
  terminal = w.rest.4;
  epoch = w.rest.0;
  air = w.air ∙ ap (λ (b : Bool). if b then s.air ++ packets else s.air) (same_epoch m.epoch s.epoch now);
  here = w.here;
  now = now;
  there = there;
}

pub among_first : (count : ℕ) (packet : List ℕ) (xs ys : Packets) → StandsAmong count packet xs → StandsAmong count packet (xs ++ ys)
unfolding StandsAmong
among_first count packet [] ys h = absurd h
among_first count packet (x ∷ xs) ys (inl h) = inl h
among_first count packet (x ∷ xs) ys (inr h) = inr (among_first count packet xs ys h)

among_then : (count : ℕ) (packet : List ℕ) (xs ys : Packets) → StandsAmong count packet ys → StandsAmong count packet (xs ++ ys)
unfolding StandsAmong
among_then count packet [] ys h = h
among_then count packet (x ∷ xs) ys h = inr (among_then count packet xs ys h)

module _ (s t : Model) (x : ℕ) (m : Member) (packets : Packets) (g : Goes s t x m packets) where
  pub still_put : (count : ℕ) (packet : List ℕ) → WasPut s count packet → WasPut t count packet
  still_put count packet (inl h) = inl (let same = ap (λ r. r.deliv) g.terminal in omega (arith, h, same))
  still_put count packet (inr h) = inr (subst (λ (xs : Packets). StandsAmong count packet xs) (sym g.air) (among_first count packet s.air packets h))

  pub all_put : AllByRecursion (λ (e : ℕ × List ℕ). WasPut t e.0 e.1) packets
  unfolding StandsAmong
  all_put = by packets (λ e h. subst (λ (xs : Packets). StandsAmong e.0 e.1 xs) (sym g.air) (among_then e.0 e.1 s.air packets h))
    where
      by : (es : Packets) → ((e : ℕ × List ℕ) → StandsAmong e.0 e.1 es → StandsAmong e.0 e.1 t.air) → AllByRecursion (λ (e : ℕ × List ℕ). WasPut t e.0 e.1) es
      by [] on = tt
      by (e ∷ es) on = (inr (on e (inl (refl, refl))), by es (λ k h. on k (inr h)))

  abbrev same_deliv : s.terminal.deliv ≡ t.terminal.deliv
  same_deliv = ap (λ r. r.deliv) (sym g.terminal)

  pub later : (c : CuUpBearer) (b : DuBearer) (frames : List Frame) (waits : Packets) (cursor : ℕ) → IsSender s c b frames waits cursor
      → IsSender t c b frames waits cursor
  later c b frames waits cursor h = record {
    downlink = h.downlink;
    there = h.there;
    needed = h.needed;
    line = line_later s t b frames waits waits h.downlink.next h.needed (let same = same_deliv in omega (arith, same))
        (let far : reach s.terminal.deliv waits ≡ reach t.terminal.deliv waits = ap (λ (n : ℕ). reach n waits) same_deliv in omega (arith, far))
        still_put h.line;
    marked = subst (λ (n : ℕ). cursor ≤ from_here c.restart n h.needed) same_deliv h.marked;
  }

  pub facts_here : Later t x → Facts t (t.members x)
  facts_here later_on = later_on (ap (λ (k : Member). k.is_there) g.here ∙ g.there)

  pub no_gap_here : Later t x → m.flags.released ≡ false → HasNoGap s.terminal.deliv m.bearer.sender.unconfirmed
  no_gap_here later_on keeps =
      subst (λ (n : ℕ). HasNoGap n m.bearer.sender.unconfirmed) (sym same_deliv)
      (subst (λ (k : Member). HasNoGap t.terminal.deliv k.bearer.sender.unconfirmed) g.here
      ((facts_here later_on).no_gap (ap (λ (k : Member). k.flags.released) g.here ∙ keeps)))

  -- at last these packets are sent
  pub ends : (c : CuUpBearer) (b : DuBearer) (frames : List Frame) (waits : Packets) (cursor : ℕ) (es : Packets) → IsSender t c b frames waits cursor
      → s.terminal.deliv ≤ cursor → AllByRecursion (λ (e : ℕ × List ℕ). WasPut t e.0 e.1) es → HasNoGap cursor es
      → (m.flags.frozen ≡ false → reach s.terminal.deliv m.bearer.sender.unconfirmed ≤ reach cursor es)
      → (m.flags.frozen ≡ true → m.flags.released ≡ false → HasNoGap (reach cursor es) (owed m.bearer)
      × (reach s.terminal.deliv m.bearer.sender.unconfirmed ≤ reach (reach cursor es) (owed m.bearer)))
      → IsSending t x (packets_sent es c).bearer (record { du = b; frames = frames ++ (packets_sent es c).frames; waits = waits })
  ends c b frames waits cursor es h least put no_gap served frozen =
      let far : cursor ≤ reach cursor es = reach-le cursor es in
      let same = same_deliv in record {
        cursor = reach cursor es;
        sender = sends t b waits c frames cursor es h put no_gap;
        epoch = ap (λ (k : Member). k.epoch) g.here ∙ g.now ∙ sym g.epoch;
        received = omega (arith, far, same, least);
        served = λ e. subst (λ (n : ℕ). reach n (t.members x).bearer.sender.unconfirmed ≤ reach cursor es) same_deliv
            (subst (λ (k : Member). reach s.terminal.deliv k.bearer.sender.unconfirmed ≤ reach cursor es) (sym g.here)
            (served (ap (λ (k : Member). k.flags.frozen) (sym g.here) ∙ e)));
        frozen = λ e keeps.
            let it = frozen (ap (λ (k : Member). k.flags.frozen) (sym g.here) ∙ e) (ap (λ (k : Member). k.flags.released) (sym g.here) ∙ keeps) in (
              subst (λ (k : Member). HasNoGap (reach cursor es) (owed k.bearer)) (sym g.here) it.0,
              subst (λ (n : ℕ). reach n (t.members x).bearer.sender.unconfirmed ≤ reach (reach cursor es) (owed (t.members x).bearer)) same_deliv
                  (subst (λ (k : Member). reach s.terminal.deliv k.bearer.sender.unconfirmed ≤ reach (reach cursor es) (owed k.bearer)) (sym g.here) it.1),
            );
      }

-- ---- what waits gets its COUNT

pub record Numbered (s t : Model) (x : ℕ) (n : Member) (before es : Packets) : Type 0 where
  pub member : Member
  pub goes_so : Goes s t x member (before ++ es)
  pub flags : member.flags ≡ n.flags
  pub unconfirmed : member.bearer.sender.unconfirmed ≡ n.bearer.sender.unconfirmed ++ es
  pub assumes : es ≡ [] → owed member.bearer ≡ owed n.bearer

holds_more : (sn : SnBits) (quota : ℕ) (ps : List (List ℕ)) (q : Sender (List ℕ))
    → (numbers_all sn quota ps q).unconfirmed ≡ q.unconfirmed ++ numbered_packets sn quota ps q
unfolding numbers_all numbered_packets with_next
holds_more sn quota [] q = sym (append-nil q.unconfirmed)
holds_more sn quota (p ∷ ps) q = by (has_room sn quota q) (holds_more sn quota ps (with_next q p))
  where
    by : (b : Bool) → (numbers_all sn quota ps (with_next q p)).unconfirmed ≡ (q.unconfirmed ++ (q.next, p) ∷ []) ++ numbered_packets sn quota ps (with_next q p)
        → (if b then numbers_all sn quota ps (with_next q p) else q).unconfirmed
        ≡ q.unconfirmed ++ (if b then (q.next, p) ∷ numbered_packets sn quota ps (with_next q p) else [])
    by true h = h ∙ append_assoc q.unconfirmed ((q.next, p) ∷ []) (numbered_packets sn quota ps (with_next q p))
    by false h = sym (append-nil q.unconfirmed)

pub numbers_go : (s t : Model) (x : ℕ) (n : Member) (before : Packets) (at : CuUpScope) (c : CuUpBearer) → Went s t x n [] before → n.epoch ≡ s.epoch
    → n.is_there ≡ true → t.members x ≡ n → n.bearer.waiting ≡ c.waiting → n.bearer.sender ≡ c.sender → Numbered s (run t (numbers_if x at c)) x n before (packets_if at c)
unfolding run
numbers_go s t x n before at c w now there exact waiting sender = by (serves_none at c)
  where
    as_if : CuUpBearer → Packets
    as_if u = numbered_packets at.sn at.quota u.waiting u.sender

    on : Member
    on = record n { bearer = numbered_by at.sn at.quota n.bearer }

    all : Numbered s (run t (number_orders at.sn at.quota x n.bearer.waiting n.bearer.sender)) x n before (as_if n.bearer)
    all = record {
      member = on;
      goes_so = goes s (run t (number_orders at.sn at.quota x n.bearer.waiting n.bearer.sender)) x on [] (before ++ as_if n.bearer)
          (went_numbers s x t n before w exact at.sn at.quota) now there;
      flags = refl;
      unconfirmed = holds_more at.sn at.quota n.bearer.waiting n.bearer.sender;
      assumes = λ none. ap (λ (us : Packets). owed (record n.bearer { sender = record n.bearer.sender { unconfirmed = us } }))
          (holds_more at.sn at.quota n.bearer.waiting n.bearer.sender ∙ ap (λ (es : Packets). n.bearer.sender.unconfirmed ++ es) none
          ∙ append-nil n.bearer.sender.unconfirmed);
    }

    by : (none : Bool) → Numbered s (run t (if none then [] else number_orders at.sn at.quota x c.waiting c.sender)) x n before (if none then [] else as_if c)
    by true = record {
      member = n;
      goes_so = subst (λ (es : Packets). Goes s t x n es) (sym (append-nil before)) (goes s t x n [] before w now there);
      flags = refl;
      unconfirmed = sym (append-nil n.bearer.sender.unconfirmed);
      assumes = λ none. refl;
    }
    by false =
        subst (λ (q : Sender (List ℕ)). Numbered s (run t (number_orders at.sn at.quota x c.waiting q)) x n before (numbered_packets at.sn at.quota c.waiting q))
        sender (subst (λ (ws : List (List ℕ)). Numbered s (run t (number_orders at.sn at.quota x ws n.bearer.sender)) x n before
        (numbered_packets at.sn at.quota ws n.bearer.sender)) waiting all)

-- it serves, and all that it holds was sent, but for these
module _ (s t : Model) (x : ℕ) (n : Member) (before es : Packets) (k : Numbered s t x n before es) (facts : Later t x) where
  abbrev o : Member
  o = k.member

  -- what is sent at last has no gap, where all before it was sent
  pub ends_so : (c : CuUpBearer) (b : DuBearer) (frames : List Frame) (waits : Packets) (cursor : ℕ) → IsSender t c b frames waits cursor
      → s.terminal.deliv ≤ cursor → (n.flags.frozen ≡ true → es ≡ [])
      → (n.flags.frozen ≡ false → reach s.terminal.deliv n.bearer.sender.unconfirmed ≤ cursor)
      → (n.flags.frozen ≡ true → n.flags.released ≡ false → HasNoGap cursor (owed n.bearer)
      × (reach s.terminal.deliv n.bearer.sender.unconfirmed ≤ reach cursor (owed n.bearer)))
      → IsSending t x (packets_sent es c).bearer (record { du = b; frames = frames ++ (packets_sent es c).frames; waits = waits })
  unfolding HasNoGap reach
  ends_so c b frames waits cursor h least none served frozen =
      ends s t x o (before ++ es) k.goes_so c b frames waits cursor es h least (all_rest (λ (e : ℕ × List ℕ). WasPut t e.0 e.1) before es
      (all_put s t x o (before ++ es) k.goes_so)) (by n.flags.frozen refl) serving standing
    where
      keeps : n.flags.frozen ≡ false → n.flags.released ≡ false
      keeps e =
          ap (λ (f : CuUpFlags). f.released) (sym k.flags) ∙ ap (λ (m : Member). m.flags.released) (sym k.goes_so.here)
          ∙ (facts_here s t x o (before ++ es) k.goes_so facts).serves (ap (λ (m : Member). m.flags.frozen) k.goes_so.here ∙ ap (λ (f : CuUpFlags). f.frozen) k.flags ∙ e)

      held : n.flags.frozen ≡ false → HasNoGap s.terminal.deliv (n.bearer.sender.unconfirmed ++ es)
      held e = subst (λ (us : Packets). HasNoGap s.terminal.deliv us) k.unconfirmed
          (no_gap_here s t x o (before ++ es) k.goes_so facts (ap (λ (f : CuUpFlags). f.released) k.flags ∙ keeps e))

      by : (f : Bool) → n.flags.frozen ≡ f → HasNoGap cursor es
      by true e = subst (λ (xs : Packets). HasNoGap cursor xs) (sym (none e)) tt
      by false e = no_gap_later (reach s.terminal.deliv n.bearer.sender.unconfirmed) cursor es (served e)
          (no_gap_rest s.terminal.deliv n.bearer.sender.unconfirmed es (held e))

      serving : o.flags.frozen ≡ false → reach s.terminal.deliv o.bearer.sender.unconfirmed ≤ reach cursor es
      serving e =
          let l = served (ap (λ (f : CuUpFlags). f.frozen) (sym k.flags) ∙ e) in
          subst (λ (i : ℕ). i ≤ reach cursor es)
          (sym (ap (λ (us : Packets). reach s.terminal.deliv us) k.unconfirmed ∙ reach-append s.terminal.deliv n.bearer.sender.unconfirmed es))
          (reach_later (reach s.terminal.deliv n.bearer.sender.unconfirmed) cursor es l)

      standing : o.flags.frozen ≡ true → o.flags.released ≡ false → HasNoGap (reach cursor es) (owed o.bearer)
          × (reach s.terminal.deliv o.bearer.sender.unconfirmed ≤ reach (reach cursor es) (owed o.bearer))
      standing e r =
          let f = ap (λ (f : CuUpFlags). f.frozen) (sym k.flags) ∙ e in
          let it = frozen f (ap (λ (f : CuUpFlags). f.released) (sym k.flags) ∙ r) in
          let no = none f in
          let same : o.bearer.sender.unconfirmed ≡ n.bearer.sender.unconfirmed =
          k.unconfirmed ∙ ap (λ (xs : Packets). n.bearer.sender.unconfirmed ++ xs) no ∙ append-nil n.bearer.sender.unconfirmed in (
            (subst (λ (xs : Packets). HasNoGap (reach cursor xs) (owed o.bearer)) (sym no)
                (subst (λ (xs : Packets). HasNoGap cursor xs) (sym (k.assumes no)) it.0)),
            (subst (λ (xs : Packets). reach s.terminal.deliv o.bearer.sender.unconfirmed ≤ reach (reach cursor xs) (owed o.bearer)) (sym no)
                (subst (λ (xs : Packets). reach s.terminal.deliv o.bearer.sender.unconfirmed ≤ reach cursor xs) (sym (k.assumes no))
                (subst (λ (us : Packets). reach s.terminal.deliv us ≤ reach cursor (owed n.bearer)) (sym same) it.1))),
          )

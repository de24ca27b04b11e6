-- What happens beside a context that sends.
use Rattle.std.proofs.Common.{◌≡◌, ◌≢◌, ◌==◌, ℕ, ◌+◌, ◌≤◌, max, Bool, true, false, if◌then◌else◌, List, [], ◌∷◌, ◌++◌, inl, inr, refl, sym, ap, subst, ◌∙◌, arith, eqb-true}
use Rattle.intervals.specs.Intervals.{HasNoGap, reach}
use Rattle.intervals.proofs.Intervals.{reach-le}
use Rattle.bearer_defs.specs.chain_defs.Orders.{after, offers, switches_path}
use Rattle.bearer_defs.specs.chain_defs.Models.{Item, fresh, end_marker, Member, Model, set}
use Rattle.unit_defs.specs.CuUpBearers.{owed}
use Rattle.unit_defs.specs.CuUpRecords.{CuUpBearer}
use Rattle.law_downlink_order.specs.path.Paths.{carried_by, Frame, gap_after, taken_by}
use Rattle.law_downlink_order.specs.received_packets.Received.{StandsAmong, WasPut}
use Rattle.law_downlink_order.specs.waiting_frames.Frames.{Fits, from_here}
use Rattle.law_downlink_order.proofs.waiting_frames.Frames.{line_later}
use Rattle.law_downlink_order.specs.sent_frames.Senders.{IsSender}
use Rattle.law_downlink_order.proofs.sent_frames.Sends.{du_takes, one_lost, one_received}
use Rattle.proof_cu_up_orders.specs.down_orders.Down.{Froze, Went}
use Rattle.proof_cu_up_orders.specs.sending_contexts.Sending.{IsSending, Tunnel}
use Rattle.proof_cu_up_orders.proofs.sending_contexts.Lists.{no_gap_later, reach_later}
use Rattle.proof_cu_up_orders.proofs.sending_contexts.Ends.{among_first}

-- what stands on the two tunnels that end there, and what it is promised, say nothing here
abbrev Alike : Member → Member → Type 0
Alike m n = record n { n3 = m.n3; forwarded = m.forwarded; promised = m.promised } ≡ m

module _ (s t : Model) (x : ℕ) (c : CuUpBearer) (w : Tunnel) (alike : Alike (s.members x) (t.members x)) (terminal : t.terminal ≡ s.terminal)
    (epoch : t.epoch ≡ s.epoch) (put : (count : ℕ) (packet : List ℕ) → WasPut s count packet → WasPut t count packet) where
  same_deliv : s.terminal.deliv ≡ t.terminal.deliv
  same_deliv = ap (λ r. r.deliv) (sym terminal)

  still : IsSending s x c w → IsSending t x c w
  still h = record {
    cursor = h.cursor;
    sender = record {
      downlink = h.sender.downlink;
      there = h.sender.there;
      needed = h.sender.needed;
      line = line_later s t w.du w.frames w.waits w.waits h.sender.downlink.next h.sender.needed (let same = same_deliv in omega (arith, same))
          (let far : reach s.terminal.deliv w.waits ≡ reach t.terminal.deliv w.waits = ap (λ (n : ℕ). reach n w.waits) same_deliv in omega (arith, far))
          put h.sender.line;
      marked = subst (λ (n : ℕ). h.cursor ≤ from_here c.restart n h.sender.needed) same_deliv h.sender.marked;
    };
    epoch = ap (λ (m : Member). m.epoch) alike ∙ h.epoch ∙ sym epoch;
    received = subst (λ (n : ℕ). n ≤ h.cursor) same_deliv h.received;
    served = λ e. subst (λ (n : ℕ). reach n (t.members x).bearer.sender.unconfirmed ≤ h.cursor) same_deliv
        (subst (λ (m : Member). reach s.terminal.deliv m.bearer.sender.unconfirmed ≤ h.cursor) (sym alike)
        (h.served (ap (λ (m : Member). m.flags.frozen) (sym alike) ∙ e)));
    frozen = λ e r.
        let it = h.frozen (ap (λ (m : Member). m.flags.frozen) (sym alike) ∙ e) (ap (λ (m : Member). m.flags.released) (sym alike) ∙ r) in (
          subst (λ (m : Member). HasNoGap h.cursor (owed m.bearer)) (sym alike) it.0,
          subst (λ (n : ℕ). reach n (t.members x).bearer.sender.unconfirmed ≤ reach h.cursor (owed (t.members x).bearer)) same_deliv
              (subst (λ (m : Member). reach s.terminal.deliv m.bearer.sender.unconfirmed ≤ reach h.cursor (owed m.bearer)) (sym alike) it.1),
        );
  }

more_put : (s t : Model) (b : Bool) (packets : List (ℕ × List ℕ)) → t.terminal ≡ s.terminal → t.air ≡ (if b then s.air ++ packets else s.air)
    → (count : ℕ) (packet : List ℕ) → WasPut s count packet → WasPut t count packet
more_put s t b packets terminal air count packet (inl h) = inl (let same = ap (λ r. r.deliv) terminal in omega (arith, h, same))
more_put s t b packets terminal air count packet (inr h) = inr (subst (λ xs. StandsAmong count packet xs) (sym air) (by b))
  where
    by : (b : Bool) → StandsAmong count packet (if b then s.air ++ packets else s.air)
    by true = among_first count packet s.air packets h
    by false = h

pub others_went : (d t : Model) (x y : ℕ) (c : CuUpBearer) (w : Tunnel) (m : Member) (items : List Item) (packets : List (ℕ × List ℕ)) → x ≢ y
    → Went d t y m items packets → IsSending d x c w → IsSending t x c w
others_went d t x y c w m items packets apart went h =
    still d t x c w (ap (λ (n : Member). record n { n3 = (d.members x).n3; promised = (d.members x).promised }) (went.others x apart)) went.rest.4 went.rest.0
    (more_put d t (m.epoch == d.epoch) packets went.rest.4 went.air) h

pub others_froze : (d t : Model) (x y to : ℕ) (c : CuUpBearer) (w : Tunnel) (m : Member) (items : List Item) (promised : ℕ) → x ≢ y
    → Froze d t y to m items promised → IsSending d x c w → IsSending t x c w
others_froze d t x y to c w m items promised apart froze h =
    still d t x c w (by (x == to) refl) froze.rest.5 froze.rest.1
    (more_put d t false [] froze.rest.5 froze.rest.0) h
  where
    unlike : (x == to) ≡ false → x ≢ to
    unlike e i = let one : (x == to) ≡ true = grind (arith, i) in absurd cc

    by : (b : Bool) → (x == to) ≡ b → Alike (d.members x) (t.members x)
    by true e =
        let same : x ≡ to = eqb-true x to e in
        subst (λ (q : ℕ). Alike (d.members q) (t.members q)) (sym same)
        (ap (λ (n : Member). record n { n3 = (d.members to).n3; forwarded = (d.members to).forwarded; promised = (d.members to).promised }) froze.target)
    by false e = ap (λ (n : Member). record n { n3 = (d.members x).n3; forwarded = (d.members x).forwarded; promised = (d.members x).promised })
        (froze.others x apart (unlike e))

-- the core's path: its N3 alone changes
on_path : (s : Model) (x p : ℕ) (items : List Item) → Alike (s.members x) (set s.members p (record (s.members p) { n3 = items }) x)
on_path s x p items = by (x == p) refl
  where
    by : (b : Bool) → (x == p) ≡ b → Alike (s.members x) (if b then record (s.members p) { n3 = items } else s.members x)
    by true e = let same : x ≡ p = eqb-true x p e in
        subst (λ (q : ℕ). Alike (s.members q) (record (s.members p) { n3 = items })) (sym same) refl
    by false e = refl

pub path_offers : (d : Model) (x : ℕ) (c : CuUpBearer) (w : Tunnel) (packet : List ℕ) → IsSending d x c w → IsSending (after d (offers packet)) x c w
unfolding after
path_offers d x c w packet h =
    still d (after d (offers packet)) x c w (on_path d x d.path ((d.members d.path).n3 ++ fresh packet ∷ [])) refl refl (λ count one k. k) h

pub path_switches : (d : Model) (x to : ℕ) (c : CuUpBearer) (w : Tunnel) → IsSending d x c w → IsSending (after d (switches_path to)) x c w
unfolding after
path_switches d x to c w h =
    still d (after d (switches_path to)) x c w (on_path d x d.path ((d.members d.path).n3 ++ end_marker ∷ [])) refl refl (λ count one k. k) h

-- ---- the way after it

with_sender : (d : Model) (x : ℕ) (c : CuUpBearer) (v w : Tunnel) (h : IsSending d x c v) → IsSender d c w.du w.frames w.waits h.cursor → IsSending d x c w
with_sender d x c v w h k = record {
  cursor = h.cursor;
  sender = k;
  epoch = h.epoch;
  received = h.received;
  served = h.served;
  frozen = h.frozen;
}

pub du_takes_one : (d : Model) (x : ℕ) (c : CuUpBearer) (w : Tunnel) (f : Frame) (rest : List Frame) → w.frames ≡ f ∷ rest → IsSending d x c w
    → let more = carried_by (gap_after w.du f f.pdu) f.pdu in
    Fits d w.waits more × IsSending d x c (record { du = taken_by w.du f; frames = rest; waits = w.waits ++ more })
du_takes_one d x c w f rest stands h =
    let it = du_takes d c w.du f rest w.waits h.cursor (subst (λ (fs : List Frame). IsSender d c w.du fs w.waits h.cursor) stands h.sender) in
    (it.0, with_sender d x c w (record { du = taken_by w.du f; frames = rest; waits = w.waits ++ carried_by (gap_after w.du f f.pdu) f.pdu }) h it.1)

pub loses_one : (d : Model) (x : ℕ) (c : CuUpBearer) (w : Tunnel) (before rest : List Frame) (f : Frame) → w.frames ≡ before ++ f ∷ rest → IsSending d x c w
    → IsSending d x c (record w { frames = before ++ rest })
loses_one d x c w before rest f stands h =
    with_sender d x c w (record w { frames = before ++ rest }) h (one_lost d c w.du before f rest w.waits h.cursor
    (subst (λ (fs : List Frame). IsSender d c w.du fs w.waits h.cursor) stands h.sender))

-- ---- the terminal receives one more

reach_most : (n k : ℕ) (xs : List (ℕ × List ℕ)) → reach (max n k) xs ≤ max (reach n xs) k
unfolding reach
reach_most n k [] = omega arith
reach_most n k (e ∷ es) =
    let h = reach_most (max n (e.0 + 1)) k es in
    let same : max (max n k) (e.0 + 1) ≡ max (max n (e.0 + 1)) k = omega arith in
    subst (λ (i : ℕ). reach i es ≤ max (reach (max n (e.0 + 1)) es) k) (sym same) h

pub receives_one : (d t : Model) (x : ℕ) (c : CuUpBearer) (w : Tunnel) (count : ℕ) (packet : List ℕ) (left : List (ℕ × List ℕ)) → w.waits ≡ (count, packet) ∷ left
    → t.members x ≡ d.members x → t.epoch ≡ d.epoch → t.terminal.deliv ≡ max d.terminal.deliv (count + 1)
    → ((other : ℕ) (one : List ℕ) → WasPut d other one → WasPut t other one) → IsSending d x c w → IsSending t x c (record w { waits = left })
receives_one d t x c w count packet left stands members epoch up on h =
    let was_received = one_received d t c w.du w.frames count packet left h.cursor up on
    (subst (λ (xs : List (ℕ × List ℕ)). IsSender d c w.du w.frames xs h.cursor) stands h.sender) in
    let cursor = max h.cursor t.terminal.deliv in
    let far = was_received.marked in
    let least : h.cursor ≤ cursor = omega arith in
    record {
      cursor = cursor;
      sender = record {
        downlink = was_received.downlink;
        there = was_received.there;
        needed = was_received.needed;
        line = was_received.line;
        marked = by c.restart was_received.needed far;
      };
      epoch = ap (λ (m : Member). m.epoch) members ∙ h.epoch ∙ sym epoch;
      received = omega arith;
      served = λ e. subst (λ (m : Member). reach t.terminal.deliv m.bearer.sender.unconfirmed ≤ cursor) (sym members)
          (let a = h.served (ap (λ (m : Member). m.flags.frozen) (sym members) ∙ e) in
          let k = most (d.members x).bearer.sender.unconfirmed in omega (arith, a, k, up));
      frozen = λ e r.
          let it = h.frozen (ap (λ (m : Member). m.flags.frozen) (sym members) ∙ e) (ap (λ (m : Member). m.flags.released) (sym members) ∙ r) in
          let a = it.1 in
          let k = most (d.members x).bearer.sender.unconfirmed in
          let more = reach_later h.cursor cursor (owed (d.members x).bearer) least in
          let self = reach-le cursor (owed (d.members x).bearer) in (
            subst (λ (m : Member). HasNoGap cursor (owed m.bearer)) (sym members) (no_gap_later h.cursor cursor (owed (d.members x).bearer) least it.0),
            subst (λ (m : Member). reach t.terminal.deliv m.bearer.sender.unconfirmed ≤ reach cursor (owed m.bearer)) (sym members)
                (omega (arith, a, k, more, self, up)),
          );
    }
  where
    by : (r : Bool) (needed : ℕ) → h.cursor ≤ from_here r t.terminal.deliv needed → max h.cursor t.terminal.deliv ≤ from_here r t.terminal.deliv needed
    by true needed l = omega (arith, l)
    by false needed l = omega (arith, l)

    most : (us : List (ℕ × List ℕ)) → reach t.terminal.deliv us ≤ max (reach d.terminal.deliv us) (count + 1)
    most us = subst (λ (n : ℕ). reach n us ≤ max (reach d.terminal.deliv us) (count + 1)) (sym up) (reach_most d.terminal.deliv (count + 1) us)

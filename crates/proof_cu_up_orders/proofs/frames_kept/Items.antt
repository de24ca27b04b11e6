-- Items that a context takes: what it sends then may be sent.
use Rattle.std.proofs.Common.{◌≡◌, ℕ, ◌<◌, ◌≤◌, max, Bool, true, false, not, ◌||◌, ◌&&◌, nat_lt, if◌then◌else◌, List, [], ◌∷◌, ◌++◌, filter, Option, Some, None, refl, sym, ap, subst, ◌∙◌, append_assoc, true≢false, arith}
use Rattle.std.specs.List.{AllByRecursion}
use Rattle.std.proofs.lemmas.List.{append-nil}
use Rattle.intervals.specs.Intervals.{HasNoGap, reach}
use Rattle.intervals.proofs.Intervals.{reach-append, reach-le, HasNoGap-append}
use Rattle.pdcp_defs.specs.Senders.{confirmed_to, confirmed_by, is_reported, may_restore, restored}
use Rattle.bearer_defs.specs.chain_defs.Orders.{keeps_n3, keeps_fresh, passes_n3, passes_fresh, sends, passes_numbered, drops, reports, reports_loss, sends_again, waits, waits_unless, takes_unless, holds, changed, passed, sent, after, run}
use Rattle.bearer_defs.specs.chain_defs.Models.{Item, numbered, fresh, Member, Model}
use Rattle.law_downlink_order.proofs.chain.Frames.{set_here}
use Rattle.unit_defs.specs.Du.{DuBearer}
use Rattle.unit_defs.specs.CuUpBearers.{has_downlink, is_one_of, owed}
use Rattle.unit_defs.specs.CuUpRecords.{CuUpBearer, CuUpFlags}
use Rattle.proof_cu_up_orders.specs.chain_rows.Shown.{numbered_packets}
use Rattle.proof_cu_up_orders.specs.context_orders.Orders.{CuUpModel}
use Rattle.law_downlink_order.specs.path.Paths.{Frame, Sending, packets_sent}
use Rattle.law_downlink_order.specs.path.Steps.{sent_again}
use Rattle.law_downlink_order.specs.received_packets.Received.{WasPut}
use Rattle.law_downlink_order.specs.sent_frames.Senders.{IsSender}
use Rattle.law_downlink_order.proofs.sent_frames.Sends.{sends as packets_go}
use Rattle.proof_cu_up_orders.specs.down_orders.Down.{IsDown, confirms_if, confirmed_if, fresh_orders, losses, numbered_order, numbers_if, packets_if, Went}
use Rattle.proof_cu_up_orders.proofs.down_orders.Models.{went_same, went_kept, went_sent, went_passed, went_changed, went_more}
use Rattle.proof_cu_up_orders.specs.frame_rows.Sent.{none_sent, and_then, sent_numbered, sent_for_status}
use Rattle.proof_cu_up_orders.specs.sending_contexts.Sending.{Tunnel, with_frames, IsSending}
use Rattle.proof_cu_up_orders.proofs.sending_contexts.Lists.{reach_later, no_gap_first, no_gap_rest, all_first, reach_left, no_gap_left, reach_same, filters_turn, taken_more}
use Rattle.proof_cu_up_orders.proofs.sending_contexts.Facts.{Facts}
use Rattle.proof_cu_up_orders.proofs.sending_contexts.Ends.{Later, facts_here, goes, all_put, later, no_gap_here, ends, Numbered, numbers_go, ends_so}

abbrev Packets : Type 0
Packets = List (ℕ × List ℕ)

-- with the restart mark, all that wasn't received may follow
pub marked : (s t : Model) (c : CuUpBearer) (b : DuBearer) (frames : List Frame) (waits : Packets) (cursor : ℕ) → s.terminal.deliv ≡ t.terminal.deliv
    → c.restart ≡ true → IsSender t c b frames waits cursor → IsSender t c b frames waits s.terminal.deliv
marked s t c b frames waits cursor same mark h = record {
  downlink = h.downlink;
  there = h.there;
  needed = h.needed;
  line = h.line;
  marked = subst (λ (r : Bool). s.terminal.deliv ≤ (if r then t.terminal.deliv else max t.terminal.deliv h.needed)) (sym mark) (omega (arith, same));
}

-- of bearers the downlink and the restart mark are looked at
pub sender_of : (t : Model) (c d : CuUpBearer) (b : DuBearer) (frames : List Frame) (waits : Packets) (cursor : ℕ) → d.downlink ≡ c.downlink
    → d.restart ≡ c.restart → IsSender t c b frames waits cursor → IsSender t d b frames waits cursor
sender_of t c d b frames waits cursor down mark h = record {
  downlink = h.downlink;
  there = down ∙ h.there;
  needed = h.needed;
  line = h.line;
  marked = subst (λ (r : Bool). cursor ≤ (if r then t.terminal.deliv else max t.terminal.deliv h.needed)) (sym mark) h.marked;
}

abbrev pub IsConfirmed : Option ℕ → ℕ → Type 0
IsConfirmed None deliv = Unit {0}
IsConfirmed (Some count) deliv = count < deliv

module _ (s : Model) (x : ℕ) (p : CuUpModel) (is : IsDown (s.members x) p) (facts : Facts s (s.members x)) (w : Tunnel) (i : IsSending s x p.bearer w) where
  abbrev m : Member
  m = s.members x

  abbrev b : CuUpBearer
  b = p.bearer

  abbrev pub Sends : Model → Sending → Type 0
  Sends t sent = Later t x → IsSending t x sent.bearer (with_frames w sent.frames)

  abbrev pub Served : Member → ℕ → Type 0
  Served k cursor = k.flags.frozen ≡ false → reach s.terminal.deliv k.bearer.sender.unconfirmed ≤ cursor

  abbrev pub Frozen : Member → ℕ → Type 0
  Frozen k cursor =
      k.flags.frozen ≡ true → k.flags.released ≡ false
      → HasNoGap cursor (owed k.bearer) × (reach s.terminal.deliv k.bearer.sender.unconfirmed ≤ reach cursor (owed k.bearer))

  -- ---- nothing is sent

  pub nothing_sent : (t : Model) (k : Member) (items : List Item) → Went s t x k items [] → (k.epoch ≡ m.epoch) × (k.is_there ≡ m.is_there) → Served k i.cursor → Frozen k i.cursor
      → IsSending t x b (with_frames w [])
  unfolding packets_sent HasNoGap reach
  nothing_sent t k items went epoch served frozen =
      let g = goes s t x k items [] went (epoch.0 ∙ i.epoch) (epoch.1 ∙ is.there) in
      ends s t x k [] g b w.du w.frames w.waits i.cursor [] (later s t x k [] g b w.du w.frames w.waits i.cursor i.sender) i.received tt tt served frozen

  pub as_before : IsSending s x b (with_frames w [])
  as_before = subst (λ (fs : List Frame). IsSending s x b (record w { frames = fs })) (sym (append-nil w.frames)) i

  frozen_none : (c : CuUpBearer) → p.at.flags.frozen ≡ true → packets_if p.at c ≡ []
  frozen_none c f =
      ap (λ (t : Bool). if t || p.at.flags.released || not (has_downlink c.downlink) then [] else numbered_packets p.at.sn p.at.quota c.waiting c.sender) f

  -- ---- what waits gets its COUNT, from this bearer on

  pub numbers_on : (t : Model) (k : Member) (c u : CuUpBearer) → IsSender s u w.du w.frames w.waits i.cursor → Went s t x k [] [] → (k.epoch ≡ m.epoch) × (k.is_there ≡ m.is_there)
      → t.members x ≡ k → k.bearer.waiting ≡ c.waiting → k.bearer.sender ≡ c.sender → k.flags ≡ p.at.flags → Served k i.cursor → Frozen k i.cursor
      → Sends (run t (numbers_if x p.at c)) (packets_sent (packets_if p.at c) u)
  numbers_on t k c u h went epoch exact waiting sender flags served frozen facts_then =
      let after = run t (numbers_if x p.at c) in
      let n = numbers_go s t x k [] p.at c went (epoch.0 ∙ i.epoch) (epoch.1 ∙ is.there) exact waiting sender in
      ends_so s after x k [] (packets_if p.at c) n facts_then u w.du w.frames w.waits i.cursor
      (later s after x n.member (packets_if p.at c) n.goes_so u w.du w.frames w.waits i.cursor h) i.received
      (λ e. frozen_none c (ap (λ (f : CuUpFlags). f.frozen) (sym flags) ∙ e)) served frozen

  -- ---- packets without a COUNT

  module _ (packet : List ℕ) (rest : List Item) where
    abbrev on : CuUpBearer
    on = waits b packet

    passes_one : (t : Model) (k : Member) (items : List Item) → Went s t x k items [] → (k.epoch ≡ m.epoch) × (k.is_there ≡ m.is_there) → Served k i.cursor → Frozen k i.cursor
        → p.at.flags.frozen ≡ true → IsSending t x (packets_sent (packets_if p.at on) b).bearer (with_frames w (packets_sent (packets_if p.at on) b).frames)
    unfolding packets_sent
    passes_one t k items went epoch served frozen f =
        subst (λ (es : Packets). IsSending t x (packets_sent es b).bearer (with_frames w (packets_sent es b).frames)) (sym (frozen_none on f))
        (nothing_sent t k items went epoch served frozen)

    pub n3_one : Sends (run s (fresh_orders x p.at b packet (passes_n3 x packet rest) (keeps_n3 x packet rest))) (packets_sent (packets_if p.at on) b)
    unfolding run after
    n3_one = by p.at.flags.frozen refl
      where
        by : (f : Bool) → p.at.flags.frozen ≡ f
            → Sends (run s (if f then passes_n3 x packet rest ∷ [] else keeps_n3 x packet rest ∷ numbers_if x p.at on)) (packets_sent (packets_if p.at on) b)
        by true f held =
            let k : Member = record m { n3 = rest; bearer = waits_unless m.flags.released m.bearer packet } in
            passes_one (passed s x k (fresh packet ∷ [])) k (fresh packet ∷ []) (went_passed s x k (fresh packet ∷ [])) (refl, refl) i.served i.frozen f
        by false f held =
            let k : Member = record m { n3 = rest; bearer = waits m.bearer packet } in
            numbers_on (changed s x k) k on b i.sender (went_kept s x k) (refl, refl) (set_here s.members x k)
            (ap (λ (u : CuUpBearer). u.waiting ++ packet ∷ []) is.bearer) (ap (λ (u : CuUpBearer). u.sender) is.bearer) is.flags i.served i.frozen held

    pub forwarded_one : Sends (run s (fresh_orders x p.at b packet (passes_fresh x packet rest) (keeps_fresh x packet rest))) (packets_sent (packets_if p.at on) b)
    unfolding run after
    forwarded_one = by p.at.flags.frozen refl
      where
        by : (f : Bool) → p.at.flags.frozen ≡ f
            → Sends (run s (if f then passes_fresh x packet rest ∷ [] else keeps_fresh x packet rest ∷ numbers_if x p.at on)) (packets_sent (packets_if p.at on) b)
        by true f held =
            let k : Member = record m { forwarded = rest; bearer = waits_unless m.flags.released m.bearer packet } in
            passes_one (passed s x k (fresh packet ∷ [])) k (fresh packet ∷ []) (went_passed s x k (fresh packet ∷ [])) (refl, refl) i.served i.frozen f
        by false f held =
            let k : Member = record m { forwarded = rest; bearer = waits m.bearer packet } in
            numbers_on (changed s x k) k on b i.sender (went_kept s x k) (refl, refl) (set_here s.members x k)
            (ap (λ (u : CuUpBearer). u.waiting ++ packet ∷ []) is.bearer) (ap (λ (u : CuUpBearer). u.sender) is.bearer) is.flags i.served i.frozen held

  -- ---- a packet with its COUNT

  module _ (count : ℕ) (packet : List ℕ) (rest : List Item) where
    abbrev e : ℕ × List ℕ
    e = (count, packet)

    -- it is kept, and owed
    abbrev kept : Member
    kept = record m { forwarded = rest; bearer = takes_unless m.flags.released m.bearer count packet }

    keeps_it : m.flags.released ≡ false → kept.bearer.sender.unconfirmed ≡ m.bearer.sender.unconfirmed ++ e ∷ []
    unfolding restored
    keeps_it r = ap (λ (t : Bool). if t then m.bearer.sender.unconfirmed else m.bearer.sender.unconfirmed ++ e ∷ []) r

    assumes_it : m.flags.released ≡ false → AllByRecursion (λ (u : ℕ × List ℕ). u.0 < count) m.bearer.sender.unconfirmed
        → owed kept.bearer ≡ owed m.bearer ++ e ∷ []
    assumes_it r below =
        (λ k. if m.bearer.loss_while_frozen then keeps_it r k
        else filter (λ (u : ℕ × List ℕ). is_one_of (if r k then m.bearer.taken_while_frozen else m.bearer.taken_while_frozen ++ count ∷ []) u.0) (keeps_it r k))
        ∙ by m.bearer.loss_while_frozen
      where
        us : Packets
        us = m.bearer.sender.unconfirmed

        by : (t : Bool) → (if t then us ++ e ∷ [] else filter (λ (u : ℕ × List ℕ). is_one_of (m.bearer.taken_while_frozen ++ count ∷ []) u.0) (us ++ e ∷ []))
            ≡ (if t then us else filter (λ (u : ℕ × List ℕ). is_one_of m.bearer.taken_while_frozen u.0) us) ++ e ∷ []
        by true = refl
        by false = taken_more m.bearer.taken_while_frozen count packet us below

    passes_kept : m.flags.frozen ≡ true → m.flags.released ≡ false → Later (passed s x kept (numbered count packet ∷ [])) x
        → HasNoGap i.cursor (owed kept.bearer) × (reach s.terminal.deliv kept.bearer.sender.unconfirmed ≤ reach i.cursor (owed kept.bearer))
    unfolding HasNoGap reach
    passes_kept f r held =
        let t = passed s x kept (numbered count packet ∷ []) in
        let g = goes s t x kept (numbered count packet ∷ []) [] (went_passed s x kept (numbered count packet ∷ [])) i.epoch is.there in
        let us = m.bearer.sender.unconfirmed in
        let had = i.frozen f r in
        let more = had.1 in
        let stands : (t.members x).bearer.sender.unconfirmed ≡ us ++ e ∷ [] = ap (λ (k : Member). k.bearer.sender.unconfirmed) g.here ∙ keeps_it r in
        let below = (facts_here s t x kept [] g held).below (ap (λ (k : Member). k.flags.released) g.here ∙ r) us e stands in
        let assumes = assumes_it r below in
        let no_gap : HasNoGap s.terminal.deliv (us ++ e ∷ []) =
        subst (λ (xs : Packets). HasNoGap s.terminal.deliv xs) (keeps_it r) (no_gap_here s t x kept [] g held r) in
        let next : count ≤ reach s.terminal.deliv us = (no_gap_rest s.terminal.deliv us (e ∷ []) no_gap).0 in
        let both = reach_later (reach s.terminal.deliv us) (reach i.cursor (owed m.bearer)) (e ∷ []) more in (
          subst (λ (xs : Packets). HasNoGap i.cursor xs) (sym assumes) (HasNoGap-append i.cursor (owed m.bearer) (e ∷ []) had.0 (omega (arith, next, more), tt)),
          subst (λ (n : ℕ). n ≤ reach i.cursor (owed kept.bearer))
              (sym (ap (λ (xs : Packets). reach s.terminal.deliv xs) (keeps_it r) ∙ reach-append s.terminal.deliv us (e ∷ [])))
              (subst (λ (n : ℕ). reach (reach s.terminal.deliv us) (e ∷ []) ≤ n)
              (sym (ap (λ (xs : Packets). reach i.cursor xs) assumes ∙ reach-append i.cursor (owed m.bearer) (e ∷ []))) both),
        )

    pub numbered_one : Sends (run s (numbered_order x p.at b count packet rest ∷ [])) (sent_numbered p count packet)
    unfolding run after restored
    numbered_one = by p.at.flags.released refl (may_restore p.at.sn p.at.quota b.sender count) p.at.flags.frozen refl
      where
        frozen_is : (f : Bool) → p.at.flags.frozen ≡ f → m.flags.frozen ≡ f
        frozen_is f k = ap (λ (g : CuUpFlags). g.frozen) is.flags ∙ k

        released_is : (r : Bool) → p.at.flags.released ≡ r → m.flags.released ≡ r
        released_is r k = ap (λ (g : CuUpFlags). g.released) is.flags ∙ k

        on : Member
        on = record m { forwarded = rest; bearer = holds m.bearer count packet }

        goes_out : p.at.flags.frozen ≡ false → Sends (sent (changed s x on) m (e ∷ [])) (packets_sent (e ∷ []) b)
        goes_out f held =
            let t = sent (changed s x on) m (e ∷ []) in
            let g = goes s t x on [] (e ∷ []) (went_sent s x on m (e ∷ []) refl) i.epoch is.there in
            let n : Numbered s t x m [] (e ∷ []) = record { member = on; goes_so = g; flags = refl; unconfirmed = refl; assumes = λ none. absurd cc } in
            ends_so s t x m [] (e ∷ []) n held b w.du w.frames w.waits i.cursor (later s t x on (e ∷ []) g b w.du w.frames w.waits i.cursor i.sender) i.received
            (λ k. absurd (true≢false (sym k ∙ frozen_is false f))) i.served i.frozen

        by : (r : Bool) → p.at.flags.released ≡ r → (k f : Bool) → p.at.flags.frozen ≡ f
            → Sends (run s ((if r || k then (if f then passes_numbered x count packet rest else sends x count packet rest) else drops x count packet rest) ∷ []))
            (if r then none_sent b else (if k then (if f then none_sent b else packets_sent (e ∷ []) b) else none_sent b))
        by true r k true f held =
            nothing_sent (passed s x kept (numbered count packet ∷ [])) kept (numbered count packet ∷ []) (went_passed s x kept (numbered count packet ∷ [])) (refl, refl)
            (λ n. absurd (true≢false (sym (frozen_is true f) ∙ n))) (λ n q. absurd (true≢false (sym (released_is true r) ∙ q)))
        by true r k false f held = absurd (true≢false (sym (released_is true r) ∙ facts.serves (frozen_is false f)))
        by false r true true f held =
            nothing_sent (passed s x kept (numbered count packet ∷ [])) kept (numbered count packet ∷ []) (went_passed s x kept (numbered count packet ∷ [])) (refl, refl)
            (λ n. absurd (true≢false (sym (frozen_is true f) ∙ n))) (λ n q. passes_kept n q held)
        by false r true false f held = goes_out f held
        by false r false f is_f held =
            let k : Member = record m { forwarded = rest } in
            nothing_sent (changed s x k) k [] (went_kept s x k) (refl, refl) i.served i.frozen

  -- ---- some of what it holds are confirmed

  module _ (q : ℕ × List ℕ → Bool) (below : (u : ℕ × List ℕ) → q u ≡ false → u.0 < s.terminal.deliv) where
    abbrev left : CuUpBearer
    left = record m.bearer { sender = record m.bearer.sender { unconfirmed = filter q m.bearer.sender.unconfirmed } }

    left_served : Served (record m { bearer = left }) i.cursor
    left_served f = let a = i.served f in let l = reach_left q s.terminal.deliv m.bearer.sender.unconfirmed in omega (arith, a, l)

    left_assumes : owed left ≡ filter q (owed m.bearer)
    left_assumes = by m.bearer.loss_while_frozen
      where
        by : (t : Bool)
            → (if t then filter q m.bearer.sender.unconfirmed
            else filter (λ (u : ℕ × List ℕ). is_one_of m.bearer.taken_while_frozen u.0) (filter q m.bearer.sender.unconfirmed))
            ≡ filter q (if t then m.bearer.sender.unconfirmed
            else filter (λ (u : ℕ × List ℕ). is_one_of m.bearer.taken_while_frozen u.0) m.bearer.sender.unconfirmed)
        by true = refl
        by false = filters_turn q (λ (u : ℕ × List ℕ). is_one_of m.bearer.taken_while_frozen u.0) m.bearer.sender.unconfirmed

    left_frozen : Frozen (record m { bearer = left }) i.cursor
    left_frozen f r =
        let had = i.frozen f r in
        let more = had.1 in
        let l = reach_left q s.terminal.deliv m.bearer.sender.unconfirmed in
        let same = reach_same q s.terminal.deliv below i.cursor (owed m.bearer) i.received in (
          subst (λ (xs : Packets). HasNoGap i.cursor xs) (sym left_assumes) (no_gap_left q s.terminal.deliv below i.cursor (owed m.bearer) i.received had.0),
          subst (λ (xs : Packets). reach s.terminal.deliv (filter q m.bearer.sender.unconfirmed) ≤ reach i.cursor xs) (sym left_assumes) (omega (arith, more, l, same)),
        )

  reported_below : (fmc : ℕ) (u : ℕ × List ℕ) → fmc ≤ s.terminal.deliv → not (is_reported fmc [] u.0) ≡ false → u.0 < s.terminal.deliv
  reported_below fmc u l e = by (nat_lt u.0 fmc) refl (nat_lt fmc u.0) e
    where
      by : (t : Bool) → nat_lt u.0 fmc ≡ t → (v : Bool) → not (t || (v && false)) ≡ false → u.0 < s.terminal.deliv
      by true is v e = let k : u.0 < fmc = grind (arith, is) in omega (arith, k, l)
      by false is true e = absurd (true≢false e)
      by false is false e = absurd (true≢false e)

  pub report_one : (fmc : ℕ) (bits : List Bool) → fmc ≤ s.terminal.deliv → bits ≡ []
      → Sends (run s (reports x fmc bits ∷ numbers_if x p.at (record b { sender = confirmed_by b.sender fmc bits })))
      (packets_sent (packets_if p.at (record b { sender = confirmed_by b.sender fmc bits })) b)
  unfolding run after confirmed_by
  report_one fmc bits l none =
      let q : ℕ × List ℕ → Bool = λ u. not (is_reported fmc bits u.0) in
      let below : (u : ℕ × List ℕ) → q u ≡ false → u.0 < s.terminal.deliv =
      λ u k. reported_below fmc u l (ap (λ (bs : List Bool). not (is_reported fmc bs u.0)) (sym none) ∙ k) in
      let k : Member = record m { bearer = left q below } in
      let c : CuUpBearer = record b { sender = confirmed_by b.sender fmc bits } in
      numbers_on (changed s x k) k c b i.sender (went_kept s x k) (refl, refl) (set_here s.members x k) (ap (λ (u : CuUpBearer). u.waiting) is.bearer)
      (ap (λ (u : CuUpBearer). confirmed_by u.sender fmc bits) is.bearer) is.flags (left_served q below) (left_frozen q below)

  -- ---- a delivery status

  confirmed_below : (count : ℕ) (u : ℕ × List ℕ) → count < s.terminal.deliv → nat_lt count u.0 ≡ false → u.0 < s.terminal.deliv
  confirmed_below count u l e = let k : u.0 ≤ count = grind (arith, e) in omega (arith, k, l)

  -- after what it confirms: this member is there, and this bearer
  module _ (t : Model) (n : Member) (went : Went s t x n [] []) (exact : t.members x ≡ n) (flags : n.flags ≡ p.at.flags) (epoch : (n.epoch ≡ m.epoch) × (n.is_there ≡ m.is_there))
      (c : CuUpBearer) (waiting : n.bearer.waiting ≡ c.waiting) (sender : n.bearer.sender ≡ c.sender)
      (h : IsSender s c w.du w.frames w.waits i.cursor) (served : Served n i.cursor) (frozen : Frozen n i.cursor) where
    abbrev n2 : Member
    n2 = record (t.members x) { bearer = record (t.members x).bearer { loss_while_frozen = (t.members x).flags.frozen || (t.members x).bearer.loss_while_frozen } }

    abbrev t2 : Model
    t2 = changed t x n2

    told : Went s t2 x n2 [] []
    told = went_changed s x t n [] went exact n2 (ap (λ (k : Member). k.epoch) exact) (ap (λ (k : Member). k.next_hop) exact)

    epoch2 : n2.epoch ≡ s.epoch
    epoch2 = ap (λ (k : Member). k.epoch) exact ∙ epoch.0 ∙ i.epoch

    there2 : n2.is_there ≡ true
    there2 = ap (λ (k : Member). k.is_there) exact ∙ epoch.1 ∙ is.there

    flags2 : n2.flags ≡ p.at.flags
    flags2 = ap (λ (k : Member). k.flags) exact ∙ flags

    waiting2 : n2.bearer.waiting ≡ c.waiting
    waiting2 = ap (λ (k : Member). k.bearer.waiting) exact ∙ waiting

    sender2 : n2.bearer.sender ≡ c.sender
    sender2 = ap (λ (k : Member). k.bearer.sender) exact ∙ sender

    frozen_lost : (f : p.at.flags.frozen ≡ true)
        → Sends (run t2 (numbers_if x p.at c)) (packets_sent (packets_if p.at c) (record c { restart = true; loss_while_frozen = true }))
    frozen_lost f behind =
        let u : CuUpBearer = record c { restart = true; loss_while_frozen = true } in
        let es = packets_if p.at c in
        let last = run t2 (numbers_if x p.at c) in
        let k = numbers_go s t2 x n2 [] p.at c told epoch2 there2 (set_here t.members x n2) waiting2 sender2 in
        let same = ap (λ r. r.deliv) (sym k.goes_so.terminal) in
        let now = later s last x k.member es k.goes_so c w.du w.frames w.waits i.cursor h in
        let mark : IsSender last u w.du w.frames w.waits s.terminal.deliv = record {
          downlink = now.downlink;
          there = now.there;
          needed = now.needed;
          line = now.line;
          marked = omega (arith, same);
        } in
        let is_frozen : n2.flags.frozen ≡ true = ap (λ (g : CuUpFlags). g.frozen) flags2 ∙ f in
        let assumes : owed n2.bearer ≡ n2.bearer.sender.unconfirmed =
        ap (λ (g : Bool). if g || (t.members x).bearer.loss_while_frozen then n2.bearer.sender.unconfirmed
        else filter (λ (v : ℕ × List ℕ). is_one_of n2.bearer.taken_while_frozen v.0) n2.bearer.sender.unconfirmed) is_frozen in
        ends_so s last x n2 [] es k behind u w.du w.frames w.waits s.terminal.deliv mark (omega arith) (λ e. frozen_none c f)
        (λ e. absurd (true≢false (sym is_frozen ∙ e)))
        (λ e r. (
          subst (λ (xs : Packets). HasNoGap s.terminal.deliv xs) (sym assumes)
              (no_gap_first s.terminal.deliv n2.bearer.sender.unconfirmed es (subst (λ (xs : Packets). HasNoGap s.terminal.deliv xs) k.unconfirmed
              (no_gap_here s last x k.member es k.goes_so behind (ap (λ (g : CuUpFlags). g.released) k.flags ∙ r)))),
          subst (λ (xs : Packets). reach s.terminal.deliv n2.bearer.sender.unconfirmed ≤ reach s.terminal.deliv xs) (sym assumes) (omega arith),
        ))

    abbrev more : Packets
    more = (t2.members x).bearer.sender.unconfirmed

    abbrev t3 : Model
    t3 = sent t2 (t2.members x) more

    served_lost : (f : p.at.flags.frozen ≡ false)
        → Sends (run t3 (numbers_if x p.at c))
        (and_then (packets_sent c.sender.unconfirmed (record c { restart = true })) (λ d. packets_sent (packets_if p.at c) d))
    served_lost f behind =
        let u : CuUpBearer = record c { restart = true } in
        let es = packets_if p.at c in
        let last = run t3 (numbers_if x p.at c) in
        let here : t2.members x ≡ n2 = set_here t.members x n2 in
        let k = numbers_go s t3 x n2 more p.at c (went_more s x t2 n2 [] told here more) epoch2 there2 here waiting2 sender2 in
        let same = ap (λ r. r.deliv) (sym k.goes_so.terminal) in
        let all_there : more ≡ c.sender.unconfirmed = ap (λ (o : Member). o.bearer.sender.unconfirmed) here ∙ ap (λ q. q.unconfirmed) sender2 in
        let now = later s last x k.member (more ++ es) k.goes_so c w.du w.frames w.waits i.cursor h in
        let mark : IsSender last u w.du w.frames w.waits s.terminal.deliv = record {
          downlink = now.downlink;
          there = now.there;
          needed = now.needed;
          line = now.line;
          marked = omega (arith, same);
        } in
        let is_free : n2.flags.frozen ≡ false = ap (λ (g : CuUpFlags). g.frozen) flags2 ∙ f in
        let member_free : k.member.flags.frozen ≡ false = ap (λ (g : CuUpFlags). g.frozen) k.flags ∙ is_free in
        let keeps : k.member.flags.released ≡ false =
        ap (λ (o : Member). o.flags.released) (sym k.goes_so.here) ∙ (facts_here s last x k.member (more ++ es) k.goes_so behind).serves (ap (λ (o : Member). o.flags.frozen) k.goes_so.here ∙ member_free) in
        let un : n2.bearer.sender.unconfirmed ≡ c.sender.unconfirmed = ap (λ q. q.unconfirmed) sender2 in
        let no_gap : HasNoGap s.terminal.deliv c.sender.unconfirmed = subst (λ (xs : Packets). HasNoGap s.terminal.deliv xs) un
        (no_gap_first s.terminal.deliv n2.bearer.sender.unconfirmed es (subst (λ (xs : Packets). HasNoGap s.terminal.deliv xs) k.unconfirmed
        (no_gap_here s last x k.member (more ++ es) k.goes_so behind keeps))) in
        let put = subst (λ (xs : Packets). AllByRecursion (λ (v : ℕ × List ℕ). WasPut last v.0 v.1) xs) all_there
        (all_first (λ (v : ℕ × List ℕ). WasPut last v.0 v.1) more es (all_put s last x k.member (more ++ es) k.goes_so)) in
        let one = packets_sent c.sender.unconfirmed u in
        let two = packets_sent es one.bearer in
        let sends_them = packets_go last w.du w.waits u w.frames s.terminal.deliv c.sender.unconfirmed mark put no_gap in
        let far = reach-le s.terminal.deliv c.sender.unconfirmed in
        let at_last = ends_so s last x n2 more es k behind one.bearer w.du (w.frames ++ one.frames) w.waits (reach s.terminal.deliv c.sender.unconfirmed) sends_them
        far (λ e. absurd (true≢false (sym e ∙ is_free)))
        (λ e. subst (λ (xs : Packets). reach s.terminal.deliv n2.bearer.sender.unconfirmed ≤ reach s.terminal.deliv xs) un (omega arith))
        (λ e. absurd (true≢false (sym e ∙ is_free))) in
        subst (λ (fs : List Frame). IsSending last x two.bearer (record w { frames = fs })) (append_assoc w.frames one.frames two.frames) at_last

    status_two : (lost : List (ℕ × ℕ))
        → Sends (run t (losses x p.at.flags.frozen lost ++ numbers_if x p.at c))
        (and_then (sent_again p.at.flags.frozen lost c) (λ d. packets_sent (packets_if p.at c) d))
    unfolding run after
    status_two [] = numbers_on t n c c h went epoch exact waiting sender flags served frozen
    status_two (range ∷ ranges) = by p.at.flags.frozen refl
      where
        by : (f : Bool) → p.at.flags.frozen ≡ f
            → Sends (run t ((reports_loss x ∷ (if f then [] else sends_again x ∷ [])) ++ numbers_if x p.at c))
            (and_then (sent_again f (range ∷ ranges) c) (λ d. packets_sent (packets_if p.at c) d))
        by true f = frozen_lost f
        by false f = served_lost f

  pub status_one : (lost : List (ℕ × ℕ)) (delivered : Option ℕ) → (IsConfirmed delivered s.terminal.deliv)
      → Sends (run s (confirms_if x delivered ++ losses x p.at.flags.frozen lost ++ numbers_if x p.at (confirmed_if delivered b))) (sent_for_status p lost delivered)
  unfolding run after confirmed_to
  status_one lost None l =
      status_two s m (went_same s x) refl is.flags (refl, refl) b (ap (λ (u : CuUpBearer). u.waiting) is.bearer) (ap (λ (u : CuUpBearer). u.sender) is.bearer) i.sender
      i.served i.frozen lost
  status_one lost (Some count) l =
      let q : ℕ × List ℕ → Bool = λ u. nat_lt count u.0 in
      let below : (u : ℕ × List ℕ) → q u ≡ false → u.0 < s.terminal.deliv = λ u k. confirmed_below count u l k in
      let k : Member = record m { bearer = left q below } in
      status_two (changed s x k) k (went_kept s x k) (set_here s.members x k) is.flags (refl, refl) (confirmed_if (Some count) b)
      (ap (λ (u : CuUpBearer). u.waiting) is.bearer) (ap (λ (u : CuUpBearer). confirmed_to u.sender count) is.bearer)
      (sender_of s b (confirmed_if (Some count) b) w.du w.frames w.waits i.cursor refl refl i.sender) (left_served q below) (left_frozen q below) lost

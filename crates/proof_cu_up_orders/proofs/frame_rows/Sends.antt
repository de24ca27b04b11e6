-- Rows that put frames: a frame, packets in their order, what waits, and one after another. A sending says the same of bearers with one
-- downlink and one restart mark.
use Rattle.std.proofs.Common.{◌≡◌, ℕ, ◌+◌, Bool, true, false, not, ◌&&◌, ◌||◌, nat_lt, List, [], ◌∷◌, ◌++◌, Option, Some, None, refl, sym, ap, subst, ◌∙◌}
use Rattle.std.specs.Prelude.{if◌then◌else◌}
use Rattle.std.proofs.lemmas.List.{map-append}
use Rattle.gnb_types.specs.declared.names.SnBits.{SnBits}
use Rattle.gnb_types.specs.declared.names.Dir.TheVariants.{Dl}
use Rattle.gnb_types.specs.declared.keys.TunnelEnd.{TunnelEnd}
use Rattle.gnb_types.specs.declared.outputs.Tag.{Tag}
use Rattle.gnb_types.specs.declared.outputs.Tag.TheVariants.{Absent, Own}
use Rattle.pdcp.specs.Near.{last_count}
use Rattle.pdcp_defs.specs.Senders.{Sender, numbered as with_next, has_room}
use Rattle.unit_defs.specs.Ways.{Pdu, packet_pdu, report_pdu, frame, packet, Way, Answer, gives, spent, with_outputs, ◌then◌, nothing, frames_spent, counts_spent}
use Rattle.unit_defs.specs.CuUpRecords.{CuUpScope, CuUpBearer, DownlinkTunnel}
use Rattle.unit_defs.specs.CuUpBearers.{last_frame, has_downlink, delivered, framed_on, framed, sent, sent_again as row_sends, number_each, number_waiting, begin_downlink}
use Rattle.unit_defs.specs.CuUpItems.{lost_frames}
use Rattle.proof_cu_up_orders.specs.chain_rows.Shown.{numbered_packets}
use Rattle.law_downlink_order.specs.path.Paths.{Frame, Sending, frame_on, packets_sent}
use Rattle.law_downlink_order.specs.path.Shown.{pdu_written, written}
use Rattle.law_downlink_order.specs.path.Steps.{sent_again, sent_anew}
use Rattle.proof_cu_up_orders.specs.down_orders.Down.{packets_if, serves_none}
use Rattle.proof_cu_up_orders.specs.frame_rows.Sent.{none_sent, and_then}
use Rattle.proof_cu_up_orders.specs.frame_rows.Shown.{frames_of, end_of, put_at}
use Rattle.proof_cu_up_orders.proofs.frame_rows.Still.{frames-append, none_delivered}

-- ---- sendings from bearers with one downlink and one restart mark

pub record Same (s t : Sending) : Type 0 where
  pub frames : s.frames ≡ t.frames
  pub downlink : s.bearer.downlink ≡ t.bearer.downlink
  pub restart : s.bearer.restart ≡ t.bearer.restart

one_same : (poll restart : Bool) (pdu : Option Pdu) (b c : CuUpBearer) (o : Option DownlinkTunnel) (t : Bool)
    → Same (frame_on poll restart pdu (record b { downlink = o; restart = t }) o) (frame_on poll restart pdu (record c { downlink = o; restart = t }) o)
one_same poll restart pdu b c None t = record { frames = refl; downlink = refl; restart = refl }
one_same poll restart pdu b c (Some l) t = record { frames = refl; downlink = refl; restart = refl }

all_same : (es : List (ℕ × List ℕ)) (b c : CuUpBearer) (o : Option DownlinkTunnel) (t : Bool)
    → Same (packets_sent es (record b { downlink = o; restart = t })) (packets_sent es (record c { downlink = o; restart = t }))
unfolding packets_sent
all_same [] b c o t = record { frames = refl; downlink = refl; restart = refl }
all_same (e ∷ es) b c None t =
    let more = all_same es b c None t in record { frames = more.frames; downlink = more.downlink; restart = more.restart }
all_same (e ∷ es) b c (Some l) t =
    let more = all_same es b c (Some (record l { next = l.next + 1 })) (t && not t) in record {
      frames = ap (λ (fs : List Frame). record { poll = false; restart = t; number = l.next; pdu = Some (packet_pdu e.0 e.1) } ∷ fs) more.frames;
      downlink = more.downlink;
      restart = more.restart;
    }

pub packets_same : (es : List (ℕ × List ℕ)) (b c : CuUpBearer) → b.downlink ≡ c.downlink → b.restart ≡ c.restart → Same (packets_sent es b) (packets_sent es c)
packets_same es b c down mark =
    subst (λ (o : Option DownlinkTunnel). Same (packets_sent es b) (packets_sent es (record c { downlink = o }))) down
    (subst (λ (t : Bool). Same (packets_sent es b) (packets_sent es (record c { downlink = b.downlink; restart = t }))) mark
    (all_same es b c b.downlink b.restart))

-- ---- what a sending leaves alone

pub record Keeps (b c : CuUpBearer) : Type 0 where
  pub sender : c.sender ≡ b.sender
  pub waiting : c.waiting ≡ b.waiting
  pub there : has_downlink c.downlink ≡ has_downlink b.downlink
  pub end : end_of c.downlink ≡ end_of b.downlink

pub kept_all : (b : CuUpBearer) → Keeps b b
kept_all b = record { sender = refl; waiting = refl; there = refl; end = refl }

kept_then : (b c d : CuUpBearer) → Keeps b c → Keeps c d → Keeps b d
kept_then b c d h k = record {
  sender = k.sender ∙ h.sender;
  waiting = k.waiting ∙ h.waiting;
  there = k.there ∙ h.there;
  end = k.end ∙ h.end;
}

pub frame_keeps : (poll restart : Bool) (pdu : Option Pdu) (b : CuUpBearer) → Keeps b (frame_on poll restart pdu b b.downlink).bearer
frame_keeps poll restart pdu b = by b.downlink refl
  where
    by : (o : Option DownlinkTunnel) → b.downlink ≡ o → Keeps b (frame_on poll restart pdu b o).bearer
    by None e = kept_all b
    by (Some l) e = record { sender = refl; waiting = refl; there = ap (λ (q : Option DownlinkTunnel). has_downlink q) (sym e); end = ap end_of (sym e) }

pub packets_keep : (es : List (ℕ × List ℕ)) (b : CuUpBearer) → Keeps b (packets_sent es b).bearer
unfolding packets_sent
packets_keep [] b = kept_all b
packets_keep (e ∷ es) b =
    let one = frame_on false b.restart (Some (packet_pdu e.0 e.1)) b b.downlink in
    kept_then b one.bearer (packets_sent es one.bearer).bearer (frame_keeps false b.restart (Some (packet_pdu e.0 e.1)) b) (packets_keep es one.bearer)

pub anew_keeps : (fmc : ℕ) (bits : List Bool) (b : CuUpBearer) → Keeps b (sent_anew fmc bits b).bearer
anew_keeps fmc bits b =
    let one = frame_on false false (Some (report_pdu fmc bits)) b b.downlink in
    kept_then b one.bearer (sent_anew fmc bits b).bearer (frame_keeps false false (Some (report_pdu fmc bits)) b)
    (packets_keep one.bearer.sender.unconfirmed one.bearer)

pub again_keeps : (f : Bool) (lost : List (ℕ × ℕ)) (b : CuUpBearer) → Keeps b (sent_again f lost b).bearer
again_keeps true [] b = kept_all b
again_keeps false [] b = kept_all b
again_keeps true (range ∷ ranges) b = record { sender = refl; waiting = refl; there = refl; end = refl }
again_keeps false (range ∷ ranges) b =
    let k = packets_keep b.sender.unconfirmed (record b { restart = true }) in
    record { sender = k.sender; waiting = k.waiting; there = k.there; end = k.end }

-- so the same of what waits gets its COUNT
pub waits_same : (at : CuUpScope) (b c : CuUpBearer) → Keeps b c → packets_if at c ≡ packets_if at b
waits_same at b c k =
    λ i. if at.flags.frozen || at.flags.released || not (k.there i) then [] else numbered_packets at.sn at.quota (k.waiting i) (k.sender i)

-- ---- rows

module _ {M C P : Type 0} (way : Way M C P) (sn : SnBits) where
  pub put_nil : (e : Option TunnelEnd) → [] ≡ put_at way sn e []
  put_nil None = refl
  put_nil (Some end) = refl

  put_append : (e : Option TunnelEnd) (xs ys : List Frame) → put_at way sn e (xs ++ ys) ≡ put_at way sn e xs ++ put_at way sn e ys
  put_append None xs ys = refl
  put_append (Some end) xs ys = map-append (λ f. (end, written way sn f)) xs ys

module _ {M C P : Type 0} (way : Way M C P) (at : CuUpScope) (e : Option TunnelEnd) where
  abbrev Row : Type 0
  Row = Answer M P CuUpBearer

  -- these frames are put, and this very bearer is left
  abbrev pub Exactly : Sending → Row → Type 0
  Exactly s (gives os b) = (frames_of os ≡ put_at way at.sn e s.frames) × (b ≡ s.bearer) × (end_of b.downlink ≡ e)
  Exactly s (spent k) = Unit {0}

  -- these frames are put, and this downlink and this mark are left
  abbrev pub Puts : Sending → Row → Type 0
  Puts s (gives os b) =
      (frames_of os ≡ put_at way at.sn e s.frames) × (b.downlink ≡ s.bearer.downlink) × (b.restart ≡ s.bearer.restart) × (end_of b.downlink ≡ e)
  Puts s (spent k) = Unit {0}

  pub puts_exactly : (s : Sending) (a : Row) → Exactly s a → Puts s a
  puts_exactly s (gives os b) h = (h.0, ap (λ (c : CuUpBearer). c.downlink) h.1, ap (λ (c : CuUpBearer). c.restart) h.1, h.2)
  puts_exactly s (spent k) h = tt

  pub puts_same : (s t : Sending) (a : Row) → Same s t → Puts s a → Puts t a
  puts_same s t (gives os b) k h =
      (h.0 ∙ ap (λ (fs : List Frame). put_at way at.sn e fs) k.frames, h.1 ∙ k.downlink, h.2 ∙ k.restart, h.3)
  puts_same s t (spent n) k h = tt

  -- one after another
  pub exactly_then : (one : Sending) (a : Row) (more : CuUpBearer → Sending) (row : CuUpBearer → Row) → Exactly one a
      → (end_of one.bearer.downlink ≡ e → Exactly (more one.bearer) (row one.bearer)) → Exactly (and_then one more) (a then row)
  exactly_then one (spent k) more row h q = tt
  exactly_then one (gives os b) more row h q =
      subst (λ (c : CuUpBearer). Exactly (and_then one more) (with_outputs os (row c))) (sym h.1)
      (by (row one.bearer) (q (ap (λ (c : CuUpBearer). end_of c.downlink) (sym h.1) ∙ h.2)))
    where
      by : (y : Row) → Exactly (more one.bearer) y → Exactly (and_then one more) (with_outputs os y)
      by (spent k) i = tt
      by (gives others d) i = (
        frames-append os others ∙ (λ j. h.0 j ++ i.0 j) ∙ sym (put_append way at.sn e one.frames (more one.bearer).frames),
        i.1,
        i.2,
      )

  pub puts_then : (one : Sending) (a : Row) (more : CuUpBearer → Sending) (row : CuUpBearer → Row) → Exactly one a
      → (end_of one.bearer.downlink ≡ e → Puts (more one.bearer) (row one.bearer)) → Puts (and_then one more) (a then row)
  puts_then one (spent k) more row h q = tt
  puts_then one (gives os b) more row h q =
      subst (λ (c : CuUpBearer). Puts (and_then one more) (with_outputs os (row c))) (sym h.1)
      (by (row one.bearer) (q (ap (λ (c : CuUpBearer). end_of c.downlink) (sym h.1) ∙ h.2)))
    where
      by : (y : Row) → Puts (more one.bearer) y → Puts (and_then one more) (with_outputs os y)
      by (spent k) i = tt
      by (gives others d) i = (
        frames-append os others ∙ (λ j. h.0 j ++ i.0 j) ∙ sym (put_append way at.sn e one.frames (more one.bearer).frames),
        i.1,
        i.2,
        i.3,
      )

  -- what is handed up puts no frame
  pub puts_behind : (s : Sending) (es : List (ℕ × List ℕ)) (a : Row) → Puts s a → Puts s (with_outputs (delivered way at es) a)
  puts_behind s es (spent k) h = tt
  puts_behind s es (gives os b) h =
      (frames-append (delivered way at es) os ∙ ap (λ zs. zs ++ frames_of os) (none_delivered way at None false es) ∙ h.0, h.1, h.2, h.3)

  pub puts_nothing : (b : CuUpBearer) → end_of b.downlink ≡ e → Puts (none_sent b) (nothing b)
  unfolding frames_of
  puts_nothing b there = (put_nil way at.sn e, refl, refl, there)

  pub exactly_nothing : (b : CuUpBearer) → end_of b.downlink ≡ e → Exactly (none_sent b) (nothing b)
  unfolding frames_of
  exactly_nothing b there = (put_nil way at.sn e, refl, there)

  -- ---- a frame

  pub puts_frame : (poll restart : Bool) (pdu : Option Pdu) (tag : Tag) (b : CuUpBearer) → end_of b.downlink ≡ e
      → Exactly (frame_on poll restart pdu b b.downlink) (framed way at poll restart (pdu_written way at.sn pdu) tag b)
  unfolding framed frames_of
  puts_frame poll restart pdu tag b there = by b.downlink refl
    where
      by : (o : Option DownlinkTunnel) → b.downlink ≡ o → Exactly (frame_on poll restart pdu b o) (framed_on way at b poll restart (pdu_written way at.sn pdu) tag o)
      by None is = (put_nil way at.sn e, refl, there)
      by (Some d) is = which (nat_lt last_frame d.next)
        where
          goes : Some (record { node = d.du; teid = d.teid }) ≡ e
          goes = sym (ap end_of is) ∙ there

          which : (t : Bool) → Exactly (frame_on poll restart pdu b (Some d))
              (if t then spent frames_spent
              else gives (packet d.du d.teid at.ue at.bearer Dl tag (frame poll restart d.next (pdu_written way at.sn pdu)) ∷ [])
              (record b { downlink = Some (record d { next = d.next + 1 }); restart = b.restart && not restart }))
          which true = tt
          which false = (
            ap (λ (o : Option TunnelEnd). put_at way at.sn o (frame_on poll restart pdu b (Some d)).frames) goes,
            refl,
            goes,
          )

  pub puts_packets : (es : List (ℕ × List ℕ)) (b : CuUpBearer) → end_of b.downlink ≡ e → Exactly (packets_sent es b) (row_sends way at es b)
  unfolding row_sends packets_sent sent
  puts_packets [] b there = exactly_nothing b there
  puts_packets (x ∷ es) b there = exactly_then (frame_on false b.restart (Some (packet_pdu x.0 x.1)) b b.downlink)
      (framed way at false b.restart (Some (way.write at.sn (packet_pdu x.0 x.1))) (Own x.0) b) (λ c. packets_sent es c)
      (λ c. row_sends way at es c) (puts_frame false b.restart (Some (packet_pdu x.0 x.1)) (Own x.0) b there)
      (λ k. puts_packets es (frame_on false b.restart (Some (packet_pdu x.0 x.1)) b b.downlink).bearer k)

  pub puts_lost : (lost : List (ℕ × ℕ)) (b : CuUpBearer) → end_of b.downlink ≡ e → Exactly (sent_again at.flags.frozen lost b) (lost_frames way at lost b)
  puts_lost [] b there = by at.flags.frozen
    where
      by : (t : Bool) → Exactly (sent_again t [] b) (nothing b)
      by true = exactly_nothing b there
      by false = exactly_nothing b there
  puts_lost (range ∷ ranges) b there = by at.flags.frozen
    where
      by : (t : Bool) → Exactly (sent_again t (range ∷ ranges) b)
          (if t then nothing (record b { restart = true; loss_while_frozen = true }) else row_sends way at b.sender.unconfirmed (record b { restart = true }))
      by true = exactly_nothing (record b { restart = true; loss_while_frozen = true }) there
      by false = puts_packets b.sender.unconfirmed (record b { restart = true }) there

  -- ---- what waits

  -- a packet gets its COUNT, and then the others
  pub puts_each : (ps : List (List ℕ)) (b : CuUpBearer) → end_of b.downlink ≡ e
      → Puts (packets_sent (numbered_packets at.sn at.quota ps b.sender) b) (number_each way at ps b)
  unfolding number_each numbered_packets packets_sent sent
  puts_each [] b there = puts_nothing b there
  puts_each (p ∷ ps) b there = by (λ c k. puts_each ps c k) (has_room at.sn at.quota b.sender) (nat_lt last_count b.sender.next)
    where
      now : CuUpBearer
      now = record b { sender = with_next b.sender p; waiting = ps }

      one : Sending
      one = frame_on false b.restart (Some (packet_pdu b.sender.next p)) now b.downlink

      rest : List (ℕ × List ℕ)
      rest = numbered_packets at.sn at.quota ps (with_next b.sender p)

      All : Type 0
      All = (c : CuUpBearer) → end_of c.downlink ≡ e → Puts (packets_sent (numbered_packets at.sn at.quota ps c.sender) c) (number_each way at ps c)

      more : All → end_of one.bearer.downlink ≡ e → Puts (packets_sent rest one.bearer) (number_each way at ps one.bearer)
      more all k =
          subst (λ (q : Sender (List ℕ)). Puts (packets_sent (numbered_packets at.sn at.quota ps q) one.bearer) (number_each way at ps one.bearer))
          ((frame_keeps false b.restart (Some (packet_pdu b.sender.next p)) now).sender) (all one.bearer k)

      both : All → Puts (packets_sent ((b.sender.next, p) ∷ rest) now)
          (framed way at false b.restart (Some (way.write at.sn (packet_pdu b.sender.next p))) (Own b.sender.next) now then number_each way at ps)
      both all = puts_then one (framed way at false b.restart (Some (way.write at.sn (packet_pdu b.sender.next p))) (Own b.sender.next) now)
          (λ c. packets_sent rest c) (λ c. number_each way at ps c)
          (puts_frame false b.restart (Some (packet_pdu b.sender.next p)) (Own b.sender.next) now there) (more all)

      by : All → (r l : Bool) → Puts (packets_sent (if r then (b.sender.next, p) ∷ rest else []) b)
          (if not r then nothing b else ((if l then spent counts_spent
          else framed way at false b.restart (Some (way.write at.sn (packet_pdu b.sender.next p))) (Own b.sender.next) now) then number_each way at ps))
      by all false l = puts_nothing b there
      by all true true = tt
      by all true false =
          puts_same (packets_sent ((b.sender.next, p) ∷ rest) now) (packets_sent ((b.sender.next, p) ∷ rest) b)
          (framed way at false b.restart (Some (way.write at.sn (packet_pdu b.sender.next p))) (Own b.sender.next) now then number_each way at ps)
          (packets_same ((b.sender.next, p) ∷ rest) now b refl refl) (both all)

  pub puts_waiting : (b : CuUpBearer) → end_of b.downlink ≡ e → Puts (packets_sent (packets_if at b) b) (number_waiting way at b)
  unfolding number_waiting packets_sent
  puts_waiting b there = by (serves_none at b)
    where
      by : (t : Bool) → Puts (packets_sent (if t then [] else numbered_packets at.sn at.quota b.waiting b.sender) b)
          (if t then nothing b else number_each way at b.waiting b)
      by true = puts_nothing b there
      by false = puts_each b.waiting b there

  -- after a sending, of what waited before it
  pub puts_those : (b c : CuUpBearer) → Keeps b c → end_of b.downlink ≡ e → Puts (packets_sent (packets_if at b) c) (number_waiting way at c)
  puts_those b c k there =
      subst (λ (es : List (ℕ × List ℕ)). Puts (packets_sent es c) (number_waiting way at c)) (waits_same at b c k) (puts_waiting c (k.end ∙ there))

  -- ---- a downlink begins

  pub puts_first : (fmc : ℕ) (bits : List Bool) (b : CuUpBearer) → end_of b.downlink ≡ e
      → Puts (and_then (sent_anew fmc bits b) (λ c. packets_sent (packets_if at b) c)) (begin_downlink way at fmc bits b)
  unfolding begin_downlink
  puts_first fmc bits b there =
      let one = frame_on false false (Some (report_pdu fmc bits)) b b.downlink in
      let all = exactly_then one (framed way at false false (Some (way.write at.sn (report_pdu fmc bits))) Absent b)
      (λ c. packets_sent c.sender.unconfirmed c) (λ c. row_sends way at c.sender.unconfirmed c)
      (puts_frame false false (Some (report_pdu fmc bits)) Absent b there) (λ k. puts_packets one.bearer.sender.unconfirmed one.bearer k) in
      puts_then (sent_anew fmc bits b)
      (framed way at false false (Some (way.write at.sn (report_pdu fmc bits))) Absent b then (λ c. row_sends way at c.sender.unconfirmed c))
      (λ c. packets_sent (packets_if at b) c) (λ c. number_waiting way at c) all
      (λ k. puts_those b (sent_anew fmc bits b).bearer (anew_keeps fmc bits b) there)

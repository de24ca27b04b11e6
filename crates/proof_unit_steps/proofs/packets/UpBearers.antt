-- What a CU-UP's rows do to the packets of a bearer: they are numbered, sent, passed on, stored and delivered as they are.
use Rattle.std.proofs.Common.{◌==◌, ℕ, ◌+◌, Bool, true, false, not, ◌&&◌, ◌||◌, List, [], ◌∷◌, ◌++◌, Option, Some, None}
use Rattle.std.specs.Prelude.{if◌then◌else◌, nat_lt, filter}
use Rattle.std.specs.Ordering.{nat_cmp}
use Rattle.std.specs.List.{AllByRecursion}
use Rattle.gnb_types.specs.declared.names.NodeId.{NodeId}
use Rattle.gnb_types.specs.declared.names.Dir.TheVariants.{Dl, Ul}
use Rattle.gnb_types.specs.declared.keys.EntityKey.{EntityKey}
use Rattle.gnb_types.specs.declared.outputs.Tag.{Tag}
use Rattle.gnb_types.specs.declared.outputs.Tag.TheVariants.{Absent, Own, Same}
use Rattle.gnb_types.specs.declared.plans.SnStatus.{SnStatus}
use Rattle.gnb_types.specs.declared.reasons.DropReason.TheVariants.{Unexpected, Duplicate}
use Rattle.pdcp.specs.Near.{last_count}
use Rattle.pdcp_defs.specs.Senders.{Sender, numbered as with_next, has_room, may_restore, restored, confirmed_by, confirmed_to, is_reported}
use Rattle.pdcp_defs.specs.Receivers.{Receiver, with_packet, deliver_from, deliver as handed_up, received_bits, is_duplicate, stored}
use Rattle.unit_defs.specs.Ways.{packet_pdu, report_pdu, Content, packet_content, report_content, Load, fresh, numbered, end_marker, Taken, fresh_item, numbered_item, uplink_item, status_item, end_item, Way, Answer, spent, ◌then◌, nothing, puts, drops, closed, counts_spent, frames_spent}
use Rattle.unit_defs.specs.CuUpRecords.{DownlinkTunnel, SourceHop, CuUpBearer, TunnelKind, n3, f1u_uplink, forwarding_down, forwarding_up, CuUpScope}
use Rattle.unit_defs.specs.CuUpBearers.{last_frame, has_downlink, is_one_of, owed, thawed, no_uplink, bits_in, framed_on, framed, sent, sent_again, number_each, number_waiting, delivered, deliver_stored, put_down, forwarded_down, put_up, forwarded_up, begin_downlink, begin_where_known, switched, forward_numbered, forward_fresh, forward_late, frozen_to, with_status, resumed}
use Rattle.unit_defs.specs.CuUpItems.{took_fresh, closed_n3, n3_ended, restored_at, took_numbered, stored_at, passed_up, took_uplink, took_report, took_content, confirmed_if, lost_frames, took_delivery_status, up_hop_ends_if, uplink_ended, up_ended, took}
use Rattle.intervals.proofs.Intervals.{all_append, all_filter}
use Rattle.proof_unit_steps.specs.packets.Packets.{of, dir_of, Property, PayloadHas, ContentHas, TakenHas, LoadHas, OutputHas, CountedHave, BearerHas, AnswerHas}
use Rattle.proof_unit_steps.proofs.packets.Answers.{each_put, either as either_way, after as after_one}

module _ {M C P : Type 0} {way : Way M C P} (has : Property way) (key : EntityKey) where
  -- what is handed up, and what is left
  handed_from : (deliv : ℕ) (es : List (ℕ × List ℕ)) → CountedHave has key es
      → CountedHave has key (deliver_from deliv es).packets × CountedHave has key (deliver_from deliv es).after.stored
  handed_from deliv [] all = (tt, tt)
  handed_from deliv (e ∷ es) all = by (e.0 == deliv) (handed_from (deliv + 1) es all.1)
    where
      by : (t : Bool) → CountedHave has key (deliver_from (deliv + 1) es).packets × CountedHave has key (deliver_from (deliv + 1) es).after.stored
          → CountedHave has key (if t then with_packet e (deliver_from (deliv + 1) es) else record { packets = []; after = record { deliv = deliv; stored = e ∷ es } }).packets
          × CountedHave has key (if t then with_packet e (deliver_from (deliv + 1) es) else record { packets = []; after = record { deliv = deliv; stored = e ∷ es } }).after.stored
      by true rest = ((all.0, rest.0), rest.1)
      by false rest = (tt, all)

  pub handed_have : (r : Receiver (List ℕ)) → CountedHave has key r.stored → CountedHave has key (handed_up r).packets × CountedHave has key (handed_up r).after.stored
  unfolding handed_up
  handed_have r all = handed_from r.deliv r.stored all

  pub stored_have : (r : Receiver (List ℕ)) (count : ℕ) (p : List ℕ) → CountedHave has key r.stored → has.packet key p → CountedHave has key (stored r count p).stored
  unfolding stored
  stored_have r count p all is = each_put nat_cmp (has.packet key) r.stored count p all is

  pub numbered_have : (s : Sender (List ℕ)) (p : List ℕ) → CountedHave has key s.unconfirmed → has.packet key p → CountedHave has key (with_next s p).unconfirmed
  unfolding with_next
  numbered_have s p all is = all_append (λ (e : ℕ × List ℕ). has.packet key e.1) s.unconfirmed ((s.next, p) ∷ []) all (is, tt)

  restored_have : (s : Sender (List ℕ)) (count : ℕ) (p : List ℕ) → CountedHave has key s.unconfirmed → has.packet key p → CountedHave has key (restored s count p).unconfirmed
  unfolding restored
  restored_have s count p all is = all_append (λ (e : ℕ × List ℕ). has.packet key e.1) s.unconfirmed ((count, p) ∷ []) all (is, tt)

  pub confirmed_have : (s : Sender (List ℕ)) (fmc : ℕ) (bits : List Bool) → CountedHave has key s.unconfirmed → CountedHave has key (confirmed_by s fmc bits).unconfirmed
  unfolding confirmed_by
  confirmed_have s fmc bits all = all_filter (λ (e : ℕ × List ℕ). has.packet key e.1) (λ e. not (is_reported fmc bits e.0)) s.unconfirmed all

  pub confirmed_to_have : (s : Sender (List ℕ)) (count : ℕ) → CountedHave has key s.unconfirmed → CountedHave has key (confirmed_to s count).unconfirmed
  unfolding confirmed_to
  confirmed_to_have s count all = all_filter (λ (e : ℕ × List ℕ). has.packet key e.1) (λ e. nat_lt count e.0) s.unconfirmed all

  assumed_have : (b : CuUpBearer) → CountedHave has key b.sender.unconfirmed → CountedHave has key (owed b)
  assumed_have b all = by b.loss_while_frozen
    where
      by : (t : Bool) → CountedHave has key (if t then b.sender.unconfirmed else filter (λ e. is_one_of b.taken_while_frozen e.0) b.sender.unconfirmed)
      by true = all
      by false = all_filter (λ (e : ℕ × List ℕ). has.packet key e.1) (λ e. is_one_of b.taken_while_frozen e.0) b.sender.unconfirmed all

module _ {M C P : Type 0} {way : Way M C P} (has : Property way) where
  -- ---- rows

  abbrev pub sends : CuUpScope → EntityKey
  sends at = of at.ue at.bearer Dl

  abbrev pub receives : CuUpScope → EntityKey
  receives at = of at.ue at.bearer Ul

  abbrev Has : CuUpScope → CuUpBearer → Type 0
  Has at b = BearerHas has (sends at) (receives at) b.sender b.waiting b.receiver

  abbrev pub BearerAnswerHas : CuUpScope → Answer M P CuUpBearer → Type 0
  BearerAnswerHas at a = AnswerHas has (Has at) a

  either : (at : CuUpScope) (t : Bool) (x y : Answer M P CuUpBearer) → BearerAnswerHas at x → BearerAnswerHas at y → BearerAnswerHas at (if t then x else y)
  either at t x y p q = either_way has (Has at) t x y p q

  after : (at : CuUpScope) (a : Answer M P CuUpBearer) (f : CuUpBearer → Answer M P CuUpBearer) → BearerAnswerHas at a → ((c : CuUpBearer) → Has at c → BearerAnswerHas at (f c))
      → BearerAnswerHas at (a then f)
  after at a f p q = after_one has (Has at) (Has at) a f p q

  -- ---- frames

  pub framed_has : (at : CuUpScope) (poll restart : Bool) (pdu : Option P) (tag : Tag) (b : CuUpBearer) → PayloadHas has (sends at) pdu → Has at b
      → BearerAnswerHas at (framed way at poll restart pdu tag b)
  unfolding framed
  framed_has at poll restart pdu tag b is p = by b.downlink
    where
      by : (d : Option DownlinkTunnel) → BearerAnswerHas at (framed_on way at b poll restart pdu tag d)
      by None = (p, tt)
      by (Some d) =
          either at (nat_lt last_frame d.next) (spent frames_spent) _ tt
          (record { unconfirmed = p.unconfirmed; waiting = p.waiting; stored = p.stored }, (is, tt))

  sent_has : (at : CuUpScope) (count : ℕ) (x : List ℕ) (tag : Tag) (b : CuUpBearer) → has.packet (sends at) x → Has at b → BearerAnswerHas at (sent way at count x tag b)
  unfolding sent
  sent_has at count x tag b is p = framed_has at false b.restart (Some (way.write at.sn (packet_pdu count x))) tag b (has.writes (sends at) at.sn count x is) p

  sent_again_has : (at : CuUpScope) (es : List (ℕ × List ℕ)) (b : CuUpBearer) → CountedHave has (sends at) es → Has at b → BearerAnswerHas at (sent_again way at es b)
  unfolding sent_again
  sent_again_has at [] b all p = (p, tt)
  sent_again_has at (e ∷ es) b all p =
      after at (sent way at e.0 e.1 (Own e.0) b) (sent_again way at es) (sent_has at e.0 e.1 (Own e.0) b all.0 p) (λ c q. sent_again_has at es c all.1 q)

  number_each_has : (at : CuUpScope) (ps : List (List ℕ)) (b : CuUpBearer) → AllByRecursion (has.packet (sends at)) ps → Has at b → BearerAnswerHas at (number_each way at ps b)
  unfolding number_each
  number_each_has at [] b all p = (p, tt)
  number_each_has at (x ∷ xs) b all p =
      let on : CuUpBearer = record b { sender = with_next b.sender x; waiting = xs } in
      let q : Has at on = record { unconfirmed = numbered_have has (sends at) b.sender x p.unconfirmed all.0; waiting = all.1; stored = p.stored } in
      either at (not (has_room at.sn at.quota b.sender)) (nothing b) _ (p, tt)
      (after at (if nat_lt last_count b.sender.next then spent counts_spent else sent way at b.sender.next x (Own b.sender.next) on) (number_each way at xs)
      (either at (nat_lt last_count b.sender.next) (spent counts_spent) (sent way at b.sender.next x (Own b.sender.next) on) tt
      (sent_has at b.sender.next x (Own b.sender.next) on all.0 q)) (λ c h. number_each_has at xs c all.1 h))

  number_waiting_has : (at : CuUpScope) (b : CuUpBearer) → Has at b → BearerAnswerHas at (number_waiting way at b)
  unfolding number_waiting
  number_waiting_has at b p =
      either at (at.flags.frozen || at.flags.released || not (has_downlink b.downlink)) (nothing b) (number_each way at b.waiting b) (p, tt)
      (number_each_has at b.waiting b p.waiting p)

  -- ---- what is delivered, and what goes to the target

  delivered_have : (at : CuUpScope) (es : List (ℕ × List ℕ)) → CountedHave has (receives at) es → AllByRecursion (OutputHas has) (delivered way at es)
  delivered_have at [] all = tt
  delivered_have at (e ∷ es) all = (all.0, delivered_have at es all.1)

  deliver_has : (at : CuUpScope) (b : CuUpBearer) → Has at b → BearerAnswerHas at (deliver_stored way at b)
  unfolding deliver_stored
  deliver_has at b p =
      let both = handed_have has (receives at) b.receiver p.stored in
      (record { unconfirmed = p.unconfirmed; waiting = p.waiting; stored = both.1 }, delivered_have at (handed_up b.receiver).packets both.0)

  down_has : (at : CuUpScope) (tag : Tag) (load : Load P) (b : CuUpBearer) → LoadHas has (sends at) load → Has at b → BearerAnswerHas at (forwarded_down way at tag load b)
  unfolding forwarded_down
  down_has at tag load b is p = by b.hop
    where
      by : (h : Option SourceHop) → BearerAnswerHas at (put_down way at tag load b h)
      by None = (p, tt)
      by (Some h) = (p, (is, tt))

  up_has : (at : CuUpScope) (tag : Tag) (load : Load P) (b : CuUpBearer) → LoadHas has (receives at) load → Has at b → BearerAnswerHas at (forwarded_up way at tag load b)
  unfolding forwarded_up
  up_has at tag load b is p = by b.hop
    where
      by : (h : Option SourceHop) → BearerAnswerHas at (put_up way at tag load b h)
      by None = (p, tt)
      by (Some h) = (p, (is, tt))

  -- ---- switch, freeze, SN status, resume

  begin_has : (at : CuUpScope) (fmc : ℕ) (bits : List Bool) (b : CuUpBearer) → Has at b → BearerAnswerHas at (begin_downlink way at fmc bits b)
  unfolding begin_downlink
  begin_has at fmc bits b p =
      let report : Answer M P CuUpBearer = framed way at false false (Some (way.write at.sn (report_pdu fmc bits))) Absent b in
      after at (report then (λ c. sent_again way at c.sender.unconfirmed c)) (number_waiting way at)
      (after at report (λ c. sent_again way at c.sender.unconfirmed c)
      (framed_has at false false (Some (way.write at.sn (report_pdu fmc bits))) Absent b (has.reports (sends at) at.sn fmc bits) p)
      (λ c q. sent_again_has at c.sender.unconfirmed c q.unconfirmed q)) (number_waiting_has at)

  pub switched_has : (at : CuUpScope) (du : NodeId) (teid : ℕ) (b : CuUpBearer) → Has at b → BearerAnswerHas at (switched way at du teid b)
  unfolding switched
  switched_has at du teid b p =
      let on : CuUpBearer = record (thawed b) { downlink = Some (record { du = du; teid = teid; next = 0 }); restart = false } in
      after at (deliver_stored way at on) (begin_where_known way at) (deliver_has at on p)
      (λ c q. either at at.flags.may_serve (begin_downlink way at c.receiver.deliv (received_bits c.receiver) c) (nothing c)
      (begin_has at c.receiver.deliv (received_bits c.receiver) c q) (q, tt))

  numbered_has : (at : CuUpScope) (es : List (ℕ × List ℕ)) (b : CuUpBearer) → CountedHave has (sends at) es → Has at b → BearerAnswerHas at (forward_numbered way at es b)
  numbered_has at [] b all p = (p, tt)
  numbered_has at (e ∷ es) b all p =
      after at (forwarded_down way at (Own e.0) (numbered at.sn e.0 e.1) b) (forward_numbered way at es) (down_has at (Own e.0) (numbered at.sn e.0 e.1) b all.0 p)
      (λ c q. numbered_has at es c all.1 q)

  fresh_has : (at : CuUpScope) (ps : List (List ℕ)) (b : CuUpBearer) → AllByRecursion (has.packet (sends at)) ps → Has at b → BearerAnswerHas at (forward_fresh way at ps b)
  fresh_has at [] b all p = (p, tt)
  fresh_has at (x ∷ xs) b all p =
      after at (forwarded_down way at Absent (fresh x) b) (forward_fresh way at xs) (down_has at Absent (fresh x) b all.0 p) (λ c q. fresh_has at xs c all.1 q)

  late_has : (at : CuUpScope) (es : List (ℕ × List ℕ)) (b : CuUpBearer) → CountedHave has (receives at) es → Has at b → BearerAnswerHas at (forward_late way at es b)
  late_has at [] b all p = (p, tt)
  late_has at (e ∷ es) b all p =
      after at (forwarded_up way at (Own e.0) (numbered at.sn e.0 e.1) b) (forward_late way at es) (up_has at (Own e.0) (numbered at.sn e.0 e.1) b all.0 p)
      (λ c q. late_has at es c all.1 q)

  pub frozen_has : (at : CuUpScope) (peer : NodeId) (down up : ℕ) (b : CuUpBearer) → Has at b → BearerAnswerHas at (frozen_to way at peer down up b)
  unfolding frozen_to
  frozen_has at peer down up b p =
      let on : CuUpBearer = record b { hop = Some (record { peer = peer; down = down; up = up; up_ended = false }); loss_while_frozen = false; taken_while_frozen = [] } in
      after at (forward_numbered way at b.sender.unconfirmed on then (λ c. forward_fresh way at c.waiting c)) (λ c. forward_late way at c.receiver.stored c)
      (after at (forward_numbered way at b.sender.unconfirmed on) (λ c. forward_fresh way at c.waiting c)
      (numbered_has at b.sender.unconfirmed on p.unconfirmed p) (λ c q. fresh_has at c.waiting c q.waiting q))
      (λ c q. late_has at c.receiver.stored c q.stored q)

  pub status_has : (at : CuUpScope) (s : SnStatus) (b : CuUpBearer) → Has at b → BearerAnswerHas at (with_status way at s b)
  unfolding with_status
  status_has at s b p =
      let on : CuUpBearer = record b { dl_next = s.dl_next; sender = record b.sender { next = s.dl_next }; receiver = record b.receiver { deliv = s.ul_first } } in
      let q : Has at on = record { unconfirmed = p.unconfirmed; waiting = p.waiting; stored = p.stored } in
      either at at.flags.arrived (deliver_stored way at on then begin_downlink way at s.ul_first (bits_in s.ul_received)) (nothing on)
      (after at (deliver_stored way at on) (begin_downlink way at s.ul_first (bits_in s.ul_received)) (deliver_has at on q)
      (begin_has at s.ul_first (bits_in s.ul_received))) (q, tt)

  pub resumed_has : (at : CuUpScope) (b : CuUpBearer) → Has at b → BearerAnswerHas at (resumed way at b)
  unfolding resumed
  resumed_has at b p =
      let on : CuUpBearer = record (thawed b) { restart = b.restart || b.loss_while_frozen } in
      after at (sent_again way at (owed b) on then deliver_stored way at) (number_waiting way at)
      (after at (sent_again way at (owed b) on) (deliver_stored way at) (sent_again_has at (owed b) on (assumed_have has (sends at) b p.unconfirmed) p) (deliver_has at))
      (number_waiting_has at)

  -- ---- items

  took_fresh_has : (at : CuUpScope) (x : List ℕ) (b : CuUpBearer) → has.packet (sends at) x → Has at b → BearerAnswerHas at (took_fresh way at x b)
  unfolding took_fresh
  took_fresh_has at x b is p =
      let on : CuUpBearer = record b { waiting = b.waiting ++ x ∷ [] } in
      let q : Has at on = record { unconfirmed = p.unconfirmed; waiting = all_append (has.packet (sends at)) b.waiting (x ∷ []) p.waiting (is, tt); stored = p.stored } in
      either at at.flags.released (forwarded_down way at Absent (fresh x) b) _ (down_has at Absent (fresh x) b is p)
      (either at at.flags.frozen (forwarded_down way at Absent (fresh x) on) (number_waiting way at on) (down_has at Absent (fresh x) on is q) (number_waiting_has at on q))

  n3_has : (at : CuUpScope) (b : CuUpBearer) (h : Option SourceHop) → Has at b → BearerAnswerHas at (n3_ended way at b h)
  n3_has at b None p = (p, (tt, tt))
  n3_has at b (Some h) p =
      after at (forwarded_down way at Absent end_marker b) (λ c. closed_n3 way c c.n3) (down_has at Absent end_marker b tt p) (λ c q. by c c.n3 q)
    where
      by : (c : CuUpBearer) (t : Option ℕ) → Has at c → BearerAnswerHas at (closed_n3 way c t)
      by c None q = (q, tt)
      by c (Some t) q = (q, (tt, tt))

  took_numbered_has : (at : CuUpScope) (count : Option ℕ) (x : List ℕ) (b : CuUpBearer) → has.packet (sends at) x → Has at b → BearerAnswerHas at (took_numbered way at count x b)
  unfolding took_numbered
  took_numbered_has at None x b is p = (p, (tt, tt))
  took_numbered_has at (Some count) x b is p =
      let on : CuUpBearer = record b { sender = restored b.sender count x } in
      let q : Has at on = record { unconfirmed = restored_have has (sends at) b.sender count x p.unconfirmed is; waiting = p.waiting; stored = p.stored } in
      either at at.flags.released (forwarded_down way at Same (numbered at.sn count x) b) _ (down_has at Same (numbered at.sn count x) b is p)
      (either at (may_restore at.sn at.quota b.sender count) (restored_at way at count x b) _
      (either at at.flags.frozen _ (sent way at count x Same on)
      (down_has at Same (numbered at.sn count x) (record on { taken_while_frozen = b.taken_while_frozen ++ count ∷ [] }) is q)
      (sent_has at count x Same on is q)) (p, (tt, tt)))

  stored_has : (at : CuUpScope) (count : ℕ) (x : List ℕ) (b : CuUpBearer) → has.packet (receives at) x → Has at b → BearerAnswerHas at (stored_at way at count x b)
  stored_has at count x b is p =
      let on : CuUpBearer = record b { receiver = stored b.receiver count x } in
      let q : Has at on = record { unconfirmed = p.unconfirmed; waiting = p.waiting; stored = stored_have has (receives at) b.receiver count x p.stored is } in
      either at at.flags.frozen (forwarded_up way at Same (numbered at.sn count x) on) (deliver_stored way at on) (up_has at Same (numbered at.sn count x) on is q)
      (deliver_has at on q)

  took_uplink_has : (at : CuUpScope) (count : Option ℕ) (x : List ℕ) (b : CuUpBearer) → has.packet (receives at) x → Has at b → BearerAnswerHas at (took_uplink way at count x b)
  unfolding took_uplink
  took_uplink_has at None x b is p = (p, (tt, tt))
  took_uplink_has at (Some count) x b is p =
      either at at.flags.released (passed_up way at count x b) _
      (either at (nat_lt count b.receiver.deliv) (drops Duplicate b) (forwarded_up way at Same (numbered at.sn count x) b) (p, (tt, tt))
      (up_has at Same (numbered at.sn count x) b is p))
      (either at (is_duplicate b.receiver count) (drops Duplicate b) (stored_at way at count x b) (p, (tt, tt)) (stored_has at count x b is p))

  took_content_has : (at : CuUpScope) (content : Content) (b : CuUpBearer) → ContentHas has (receives at) content → Has at b → BearerAnswerHas at (took_content way at content b)
  unfolding took_report
  took_content_has at (packet_content count x) b is p = took_uplink_has at count x b is p
  took_content_has at (report_content fmc bits) b is p =
      number_waiting_has at (record b { sender = confirmed_by b.sender fmc bits })
      (record { unconfirmed = confirmed_have has (sends at) b.sender fmc bits p.unconfirmed; waiting = p.waiting; stored = p.stored })

  lost_has : (at : CuUpScope) (ranges : List (ℕ × ℕ)) (b : CuUpBearer) → Has at b → BearerAnswerHas at (lost_frames way at ranges b)
  lost_has at [] b p = (p, tt)
  lost_has at (range ∷ ranges) b p =
      either at at.flags.frozen (nothing (record b { restart = true; loss_while_frozen = true })) (sent_again way at b.sender.unconfirmed (record b { restart = true })) (p, tt)
      (sent_again_has at b.sender.unconfirmed (record b { restart = true }) p.unconfirmed p)

  confirmed_bearer : (at : CuUpScope) (confirmed : Option ℕ) (b : CuUpBearer) → Has at b → Has at (confirmed_if way confirmed b)
  confirmed_bearer at None b p = p
  confirmed_bearer at (Some count) b p = record { unconfirmed = confirmed_to_have has (sends at) b.sender count p.unconfirmed; waiting = p.waiting; stored = p.stored }

  hop_has : (at : CuUpScope) (h : Option SourceHop) (b : CuUpBearer) → Has at b → BearerAnswerHas at (up_hop_ends_if way at h b)
  hop_has at None b p = (p, tt)
  hop_has at (Some h) b p =
      either at (not h.up_ended && no_uplink b.uplinks && (not at.flags.target || b.up_ended))
      (forwarded_up way at Absent end_marker (record b { hop = Some (record h { up_ended = true }) })) (nothing b)
      (up_has at Absent end_marker (record b { hop = Some (record h { up_ended = true }) }) tt p) (p, tt)

  uplink_has : (at : CuUpScope) (teid : ℕ) (b : CuUpBearer) → Has at b → BearerAnswerHas at (uplink_ended way at teid b)
  unfolding uplink_ended
  uplink_has at teid b p =
      after at (puts (closed teid) (record b { uplinks = filter (λ t. not (t == teid)) b.uplinks })) (λ c. up_hop_ends_if way at c.hop c) (p, (tt, tt))
      (λ c q. hop_has at c.hop c q)

  pub item_has : (at : CuUpScope) (kind : TunnelKind) (teid : ℕ) (item : Taken P) (b : CuUpBearer) → TakenHas has (of at.ue at.bearer (dir_of kind)) item → Has at b
      → BearerAnswerHas at (took way at kind teid item b)
  unfolding took took_delivery_status up_ended
  item_has at n3 teid (fresh_item x) b is p = took_fresh_has at x b is p
  item_has at n3 teid end_item b is p = n3_has at b b.hop p
  item_has at forwarding_down teid (fresh_item x) b is p = took_fresh_has at x b is p
  item_has at forwarding_down teid (numbered_item count x) b is p = took_numbered_has at count x b is p
  item_has at forwarding_down teid end_item b is p =
      either at b.down_ended (drops Unexpected b) (nothing (record b { down_ended = true })) (p, (tt, tt)) (p, tt)
  item_has at f1u_uplink teid (uplink_item content) b is p = took_content_has at content b is p
  item_has at f1u_uplink teid (status_item lost confirmed) b is p =
      after at (lost_frames way at lost (confirmed_if way confirmed b)) (number_waiting way at)
      (lost_has at lost (confirmed_if way confirmed b) (confirmed_bearer at confirmed b p)) (number_waiting_has at)
  item_has at f1u_uplink teid end_item b is p = uplink_has at teid b p
  item_has at forwarding_up teid (numbered_item count x) b is p = took_uplink_has at count x b is p
  item_has at forwarding_up teid end_item b is p =
      either at b.up_ended (drops Unexpected b) (up_hop_ends_if way at b.hop (record b { up_ended = true })) (p, (tt, tt))
      (hop_has at b.hop (record b { up_ended = true }) p)
  item_has at kind teid item b is p = (p, (tt, tt))

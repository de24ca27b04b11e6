-- What the orders of a bearer put out is the bearer's terminal's.
use Rattle.std.proofs.Common.{ℕ, ◌==◌, Bool, true, false, not, ◌&&◌, ◌||◌, nat_lt, List, [], ◌∷◌, ◌++◌, filter, Option, Some, None, refl}
use Rattle.std.specs.Prelude.{if◌then◌else◌}
use Rattle.std.specs.List.{AllByRecursion}
use Rattle.gnb_types.specs.declared.names.NodeId.{NodeId}
use Rattle.gnb_types.specs.declared.plans.SnStatus.{SnStatus}
use Rattle.gnb_types.specs.declared.outputs.Tag.{Tag}
use Rattle.gnb_types.specs.declared.outputs.Tag.TheVariants.{Absent, Own as own_tag, Same as same_tag}
use Rattle.pdcp.specs.Near.{last_count}
use Rattle.pdcp_defs.specs.Senders.{has_room, numbered as with_next, may_restore, restored, confirmed_by}
use Rattle.pdcp_defs.specs.Receivers.{is_duplicate, stored, deliver as handed_up, received_bits}
use Rattle.unit_defs.specs.Ways.{Content, packet_content, report_content, packet_pdu, report_pdu, Load, fresh, numbered, end_marker, Taken, fresh_item, numbered_item, uplink_item, status_item, end_item, closed, Way, Answer, spent, ◌then◌, puts, counts_spent, frames_spent}
use Rattle.unit_defs.specs.CuUpRecords.{DownlinkTunnel, SourceHop, CuUpBearer, TunnelKind, n3, f1u_uplink, forwarding_down, forwarding_up, CuUpScope}
use Rattle.unit_defs.specs.CuUpBearers.{last_frame, has_downlink, thawed, bits_in, owed, framed_on, framed, sent, sent_again, number_each, number_waiting, delivered, deliver_stored, put_down, forwarded_down, put_up, forwarded_up, with_uplink, begin_downlink, begin_where_known, switched, forward_numbered, forward_fresh, forward_late, frozen_to, begin_where_arrived, with_status, resumed, no_uplink}
use Rattle.unit_defs.specs.CuUpItems.{took_fresh, closed_n3, n3_ended, took_numbered, took_uplink, took_report, took_content, confirmed_if, lost_frames, took_delivery_status, up_hop_ends_if, uplink_ended, up_ended, took}
use Rattle.law_terminals_are_isolated.specs.projections.Steps.{IsFor, PutsFor}
use Rattle.law_terminals_are_isolated.proofs.projections.Answers.{puts_then, puts_if}

module _ {M C P : Type 0} (way : Way M C P) (at : CuUpScope) where
  abbrev pub Puts : Answer M P CuUpBearer → Type 0
  Puts a = PutsFor at.ue.0 (λ after. Unit {0}) a

  -- one order after another, and one of two
  next : (a : Answer M P CuUpBearer) (f : CuUpBearer → Answer M P CuUpBearer) → Puts a → ((b : CuUpBearer) → Puts (f b)) → Puts (a then f)
  next a f p more = puts_then at.ue.0 (λ after. Unit {0}) (λ after. Unit {0}) a f p (λ b h. more b)

  either : (t : Bool) (a b : Answer M P CuUpBearer) → Puts a → Puts b → Puts (if t then a else b)
  either t a b p q = puts_if at.ue.0 (λ after. Unit {0}) t a b p q

  -- ---- frames, numbering and delivery

  framed_puts : (poll restart : Bool) (pdu : Option P) (tag : Tag) (b : CuUpBearer) (d : Option DownlinkTunnel) → Puts (framed_on way at b poll restart pdu tag d)
  framed_puts poll restart pdu tag b None = (tt, tt)
  framed_puts poll restart pdu tag b (Some d) = either (nat_lt last_frame d.next) (spent frames_spent) _ tt ((refl, tt), tt)

  pub frame_puts : (poll restart : Bool) (pdu : Option P) (tag : Tag) (b : CuUpBearer) → Puts (framed way at poll restart pdu tag b)
  unfolding framed
  frame_puts poll restart pdu tag b = framed_puts poll restart pdu tag b b.downlink

  sent_puts : (count : ℕ) (p : List ℕ) (tag : Tag) (b : CuUpBearer) → Puts (sent way at count p tag b)
  unfolding sent
  sent_puts count p tag b = frame_puts false b.restart (Some (way.write at.sn (packet_pdu count p))) tag b

  again_puts : (es : List (ℕ × List ℕ)) (b : CuUpBearer) → Puts (sent_again way at es b)
  unfolding sent_again
  again_puts [] b = (tt, tt)
  again_puts (e ∷ es) b = next (sent way at e.0 e.1 (own_tag e.0) b) (sent_again way at es) (sent_puts e.0 e.1 (own_tag e.0) b) (again_puts es)

  number_puts : (ps : List (List ℕ)) (b : CuUpBearer) → Puts (number_each way at ps b)
  unfolding number_each
  number_puts [] b = (tt, tt)
  number_puts (p ∷ ps) b =
      either (not (has_room at.sn at.quota b.sender)) _ _ (tt, tt)
      (next (if nat_lt last_count b.sender.next then spent counts_spent else sent way at b.sender.next p (own_tag b.sender.next) after) (number_each way at ps)
      (either (nat_lt last_count b.sender.next) (spent counts_spent) (sent way at b.sender.next p (own_tag b.sender.next) after) tt
      (sent_puts b.sender.next p (own_tag b.sender.next) after)) (number_puts ps))
    where
      after : CuUpBearer
      after = record b { sender = with_next b.sender p; waiting = ps }

  waiting_puts : (b : CuUpBearer) → Puts (number_waiting way at b)
  unfolding number_waiting
  waiting_puts b = either (at.flags.frozen || at.flags.released || not (has_downlink b.downlink)) _ _ (tt, tt) (number_puts b.waiting b)

  delivered_for : (es : List (ℕ × List ℕ)) → AllByRecursion (IsFor at.ue.0) (delivered way at es)
  delivered_for [] = tt
  delivered_for (e ∷ es) = (refl, delivered_for es)

  deliver_puts : (b : CuUpBearer) → Puts (deliver_stored way at b)
  unfolding deliver_stored
  deliver_puts b = (delivered_for (handed_up b.receiver).packets, tt)

  -- ---- forwarding

  down_puts : (tag : Tag) (load : Load P) (b : CuUpBearer) → Puts (forwarded_down way at tag load b)
  unfolding forwarded_down
  down_puts tag load b = by b.hop
    where
      by : (hop : Option SourceHop) → Puts (put_down way at tag load b hop)
      by None = (tt, tt)
      by (Some hop) = ((refl, tt), tt)

  up_puts : (tag : Tag) (load : Load P) (b : CuUpBearer) → Puts (forwarded_up way at tag load b)
  unfolding forwarded_up
  up_puts tag load b = by b.hop
    where
      by : (hop : Option SourceHop) → Puts (put_up way at tag load b hop)
      by None = (tt, tt)
      by (Some hop) = ((refl, tt), tt)

  numbered_puts : (es : List (ℕ × List ℕ)) (b : CuUpBearer) → Puts (forward_numbered way at es b)
  numbered_puts [] b = (tt, tt)
  numbered_puts (e ∷ es) b =
      next (forwarded_down way at (own_tag e.0) (numbered at.sn e.0 e.1) b) (forward_numbered way at es) (down_puts (own_tag e.0) (numbered at.sn e.0 e.1) b)
      (numbered_puts es)

  fresh_puts : (ps : List (List ℕ)) (b : CuUpBearer) → Puts (forward_fresh way at ps b)
  fresh_puts [] b = (tt, tt)
  fresh_puts (p ∷ ps) b = next (forwarded_down way at Absent (fresh p) b) (forward_fresh way at ps) (down_puts Absent (fresh p) b) (fresh_puts ps)

  late_puts : (es : List (ℕ × List ℕ)) (b : CuUpBearer) → Puts (forward_late way at es b)
  late_puts [] b = (tt, tt)
  late_puts (e ∷ es) b =
      next (forwarded_up way at (own_tag e.0) (numbered at.sn e.0 e.1) b) (forward_late way at es) (up_puts (own_tag e.0) (numbered at.sn e.0 e.1) b) (late_puts es)

  -- ---- the orders of control

  pub uplink_puts : (teid : ℕ) (b : CuUpBearer) → Puts (with_uplink way teid b)
  unfolding with_uplink
  uplink_puts teid b = ((tt, tt), tt)

  begin_puts : (fmc : ℕ) (bits : List Bool) (b : CuUpBearer) → Puts (begin_downlink way at fmc bits b)
  unfolding begin_downlink
  begin_puts fmc bits b =
      next (framed way at false false (Some (way.write at.sn (report_pdu fmc bits))) Absent b then (λ c. sent_again way at c.sender.unconfirmed c)) (number_waiting way at)
      (next (framed way at false false (Some (way.write at.sn (report_pdu fmc bits))) Absent b) (λ c. sent_again way at c.sender.unconfirmed c)
      (frame_puts false false (Some (way.write at.sn (report_pdu fmc bits))) Absent b) (λ c. again_puts c.sender.unconfirmed c)) waiting_puts

  known_puts : (b : CuUpBearer) → Puts (begin_where_known way at b)
  known_puts b = either at.flags.may_serve _ _ (begin_puts b.receiver.deliv (received_bits b.receiver) b) (tt, tt)

  pub switched_puts : (du : NodeId) (teid : ℕ) (b : CuUpBearer) → Puts (switched way at du teid b)
  unfolding switched
  switched_puts du teid b =
      next (deliver_stored way at (record (thawed b) { downlink = Some (record { du = du; teid = teid; next = 0 }); restart = false })) (begin_where_known way at)
      (deliver_puts (record (thawed b) { downlink = Some (record { du = du; teid = teid; next = 0 }); restart = false })) known_puts

  pub frozen_puts : (peer : NodeId) (down up : ℕ) (b : CuUpBearer) → Puts (frozen_to way at peer down up b)
  unfolding frozen_to
  frozen_puts peer down up b =
      next (forward_numbered way at b.sender.unconfirmed hopped then (λ c. forward_fresh way at c.waiting c)) (λ c. forward_late way at c.receiver.stored c)
      (next (forward_numbered way at b.sender.unconfirmed hopped) (λ c. forward_fresh way at c.waiting c) (numbered_puts b.sender.unconfirmed hopped)
      (λ c. fresh_puts c.waiting c)) (λ c. late_puts c.receiver.stored c)
    where
      hopped : CuUpBearer
      hopped = record b {
        hop = Some (record { peer = peer; down = down; up = up; up_ended = false });
        loss_while_frozen = false;
        taken_while_frozen = [];
      }

  arrived_puts : (s : SnStatus) (b : CuUpBearer) → Puts (begin_where_arrived way at s b)
  arrived_puts s b =
      either at.flags.arrived _ _ (next (deliver_stored way at b) (begin_downlink way at s.ul_first (bits_in s.ul_received)) (deliver_puts b)
      (begin_puts s.ul_first (bits_in s.ul_received))) (tt, tt)

  pub status_puts : (s : SnStatus) (b : CuUpBearer) → Puts (with_status way at s b)
  unfolding with_status
  status_puts s b = arrived_puts s (record b {
    dl_next = s.dl_next;
    sender = record b.sender { next = s.dl_next };
    receiver = record b.receiver { deliv = s.ul_first };
  })

  pub resumed_puts : (b : CuUpBearer) → Puts (resumed way at b)
  unfolding resumed
  resumed_puts b =
      next (sent_again way at (owed b) (record (thawed b) { restart = b.restart || b.loss_while_frozen }) then deliver_stored way at) (number_waiting way at)
      (next (sent_again way at (owed b) (record (thawed b) { restart = b.restart || b.loss_while_frozen })) (deliver_stored way at)
      (again_puts (owed b) (record (thawed b) { restart = b.restart || b.loss_while_frozen })) deliver_puts) waiting_puts

  -- ---- items

  took_fresh_puts : (p : List ℕ) (b : CuUpBearer) → Puts (took_fresh way at p b)
  unfolding took_fresh
  took_fresh_puts p b =
      either at.flags.released _ _ (down_puts Absent (fresh p) b)
      (either at.flags.frozen _ _ (down_puts Absent (fresh p) (record b { waiting = b.waiting ++ p ∷ [] }))
      (waiting_puts (record b { waiting = b.waiting ++ p ∷ [] })))

  closed_puts : (b : CuUpBearer) (o : Option ℕ) → Puts (closed_n3 way b o)
  closed_puts b None = (tt, tt)
  closed_puts b (Some teid) = ((tt, tt), tt)

  n3_puts : (b : CuUpBearer) (hop : Option SourceHop) → Puts (n3_ended way at b hop)
  n3_puts b None = ((tt, tt), tt)
  n3_puts b (Some hop) =
      next (forwarded_down way at Absent end_marker b) (λ c. closed_n3 way c c.n3) (down_puts Absent end_marker b) (λ c. closed_puts c c.n3)

  numbered_item_puts : (o : Option ℕ) (p : List ℕ) (b : CuUpBearer) → Puts (took_numbered way at o p b)
  unfolding took_numbered
  numbered_item_puts None p b = ((tt, tt), tt)
  numbered_item_puts (Some count) p b =
      either at.flags.released _ _ (down_puts same_tag (numbered at.sn count p) b)
      (either (may_restore at.sn at.quota b.sender count) _ _
      (either at.flags.frozen _ _
      (down_puts same_tag (numbered at.sn count p)
      (record b { sender = restored b.sender count p; taken_while_frozen = b.taken_while_frozen ++ count ∷ [] }))
      (sent_puts count p same_tag (record b { sender = restored b.sender count p }))) ((tt, tt), tt))

  uplink_item_puts : (o : Option ℕ) (p : List ℕ) (b : CuUpBearer) → Puts (took_uplink way at o p b)
  unfolding took_uplink
  uplink_item_puts None p b = ((tt, tt), tt)
  uplink_item_puts (Some count) p b =
      either at.flags.released _ _
      (either (nat_lt count b.receiver.deliv) _ _ ((tt, tt), tt) (up_puts same_tag (numbered at.sn count p) b))
      (either (is_duplicate b.receiver count) _ _ ((tt, tt), tt)
      (either at.flags.frozen _ _ (up_puts same_tag (numbered at.sn count p) (record b { receiver = stored b.receiver count p }))
      (deliver_puts (record b { receiver = stored b.receiver count p }))))

  content_puts : (content : Content) (b : CuUpBearer) → Puts (took_content way at content b)
  unfolding took_report
  content_puts (packet_content count p) b = uplink_item_puts count p b
  content_puts (report_content fmc bits) b = waiting_puts (record b { sender = confirmed_by b.sender fmc bits })

  lost_puts : (lost : List (ℕ × ℕ)) (b : CuUpBearer) → Puts (lost_frames way at lost b)
  lost_puts [] b = (tt, tt)
  lost_puts (range ∷ ranges) b = either at.flags.frozen _ _ (tt, tt) (again_puts b.sender.unconfirmed (record b { restart = true }))

  told_puts : (lost : List (ℕ × ℕ)) (o : Option ℕ) (b : CuUpBearer) → Puts (took_delivery_status way at lost o b)
  unfolding took_delivery_status
  told_puts lost o b = next (lost_frames way at lost (confirmed_if way o b)) (number_waiting way at) (lost_puts lost (confirmed_if way o b)) waiting_puts

  hop_puts : (o : Option SourceHop) (b : CuUpBearer) → Puts (up_hop_ends_if way at o b)
  hop_puts None b = (tt, tt)
  hop_puts (Some hop) b =
      either (not hop.up_ended && no_uplink b.uplinks && (not at.flags.target || b.up_ended)) _ _
      (up_puts Absent end_marker (record b { hop = Some (record hop { up_ended = true }) })) (tt, tt)

  uplink_ended_puts : (teid : ℕ) (b : CuUpBearer) → Puts (uplink_ended way at teid b)
  unfolding uplink_ended
  uplink_ended_puts teid b =
      next (puts (closed teid) (record b { uplinks = filter (λ t. not (t == teid)) b.uplinks })) (λ c. up_hop_ends_if way at c.hop c) ((tt, tt), tt)
      (λ c. hop_puts c.hop c)

  up_ended_puts : (b : CuUpBearer) → Puts (up_ended way at b)
  unfolding up_ended
  up_ended_puts b = either b.up_ended _ _ ((tt, tt), tt) (hop_puts b.hop (record b { up_ended = true }))

  pub took_puts : (kind : TunnelKind) (teid : ℕ) (item : Taken P) (b : CuUpBearer) → Puts (took way at kind teid item b)
  unfolding took
  took_puts n3 teid (fresh_item p) b = took_fresh_puts p b
  took_puts n3 teid end_item b = n3_puts b b.hop
  took_puts forwarding_down teid (fresh_item p) b = took_fresh_puts p b
  took_puts forwarding_down teid (numbered_item count p) b = numbered_item_puts count p b
  took_puts forwarding_down teid end_item b = either b.down_ended _ _ ((tt, tt), tt) (tt, tt)
  took_puts f1u_uplink teid (uplink_item content) b = content_puts content b
  took_puts f1u_uplink teid (status_item lost delivered) b = told_puts lost delivered b
  took_puts f1u_uplink teid end_item b = uplink_ended_puts teid b
  took_puts forwarding_up teid (numbered_item count p) b = uplink_item_puts count p b
  took_puts forwarding_up teid end_item b = up_ended_puts b
  took_puts kind teid item b = ((tt, tt), tt)

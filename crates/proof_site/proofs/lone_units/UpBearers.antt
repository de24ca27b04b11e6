-- What a CU-UP's rows do to a bearer: such a step is made.
use Rattle.std.proofs.Common.{◌==◌, ℕ, Bool, true, false, not, ◌&&◌, ◌||◌, List, [], ◌∷◌, ◌++◌, Option, Some, None}
use Rattle.std.specs.Prelude.{if◌then◌else◌, nat_lt, filter}
use Rattle.std.specs.List.{AllByRecursion}
use Rattle.gnb_types.specs.declared.names.NodeId.{NodeId}
use Rattle.gnb_types.specs.declared.names.Dir.TheVariants.{Ul}
use Rattle.gnb_types.specs.declared.outputs.Tag.{Tag}
use Rattle.gnb_types.specs.declared.outputs.Tag.TheVariants.{Absent, Own, Same}
use Rattle.gnb_types.specs.declared.plans.SnStatus.{SnStatus}
use Rattle.gnb_types.specs.declared.reasons.DropReason.TheVariants.{Unexpected, Duplicate}
use Rattle.pdcp.specs.Near.{last_count}
use Rattle.pdcp_defs.specs.Senders.{numbered as with_next, has_room, may_restore, restored, confirmed_by}
use Rattle.pdcp_defs.specs.Receivers.{deliver as handed_up, received_bits, is_duplicate, stored}
use Rattle.unit_defs.specs.Ways.{packet_pdu, report_pdu, Content, packet_content, report_content, Load, fresh, numbered, end_marker, Taken, fresh_item, numbered_item, uplink_item, status_item, end_item, Way, Answer, spent, ◌then◌, nothing, puts, drops, deliver, closed, counts_spent, frames_spent}
use Rattle.unit_defs.specs.CuUpRecords.{DownlinkTunnel, SourceHop, CuUpBearer, TunnelKind, n3, f1u_uplink, forwarding_down, forwarding_up, CuUpScope}
use Rattle.unit_defs.specs.CuUpBearers.{last_frame, has_downlink, owed, thawed, no_uplink, bits_in, framed_on, framed, sent, sent_again, number_each, number_waiting, delivered, deliver_stored, put_down, forwarded_down, put_up, forwarded_up, begin_downlink, begin_where_known, switched, forward_numbered, forward_fresh, forward_late, frozen_to, with_status, resumed}
use Rattle.unit_defs.specs.CuUpItems.{took_fresh, closed_n3, n3_ended, restored_at, took_numbered, stored_at, passed_up, took_uplink, took_report, took_content, confirmed_if, lost_frames, took_delivery_status, up_hop_ends_if, uplink_ended, up_ended, took}
use Rattle.proof_site.specs.lone_units.Lone.{IsMade, Makes}
use Rattle.proof_site.proofs.lone_units.Steps.{all_map, either, after}

module _ {M C P : Type 0} (way : Way M C P) where
  abbrev Row : Type 0
  Row = Answer M P CuUpBearer

  -- ---- frames

  pub framed_makes : (at : CuUpScope) (poll restart : Bool) (pdu : Option P) (tag : Tag) (b : CuUpBearer) → Makes (framed way at poll restart pdu tag b)
  unfolding framed
  framed_makes at poll restart pdu tag b = by b.downlink
    where
      by : (d : Option DownlinkTunnel) → Makes (framed_on way at b poll restart pdu tag d)
      by None = tt
      by (Some d) = either (nat_lt last_frame d.next) (spent frames_spent) _ tt (tt, tt)

  sent_makes : (at : CuUpScope) (count : ℕ) (x : List ℕ) (tag : Tag) (b : CuUpBearer) → Makes (sent way at count x tag b)
  unfolding sent
  sent_makes at count x tag b = framed_makes at false b.restart (Some (way.write at.sn (packet_pdu count x))) tag b

  sent_again_makes : (at : CuUpScope) (es : List (ℕ × List ℕ)) (b : CuUpBearer) → Makes (sent_again way at es b)
  unfolding sent_again
  sent_again_makes at [] b = tt
  sent_again_makes at (e ∷ es) b =
      after (sent way at e.0 e.1 (Own e.0) b) (sent_again way at es) (sent_makes at e.0 e.1 (Own e.0) b) (λ c. sent_again_makes at es c)

  number_each_makes : (at : CuUpScope) (ps : List (List ℕ)) (b : CuUpBearer) → Makes (number_each way at ps b)
  unfolding number_each
  number_each_makes at [] b = tt
  number_each_makes at (x ∷ xs) b =
      let on : CuUpBearer = record b { sender = with_next b.sender x; waiting = xs } in
      either (not (has_room at.sn at.quota b.sender)) (nothing b) _ tt
      (after (if nat_lt last_count b.sender.next then spent counts_spent else sent way at b.sender.next x (Own b.sender.next) on) (number_each way at xs)
      (either (nat_lt last_count b.sender.next) (spent counts_spent) (sent way at b.sender.next x (Own b.sender.next) on) tt
      (sent_makes at b.sender.next x (Own b.sender.next) on)) (λ c. number_each_makes at xs c))

  number_waiting_makes : (at : CuUpScope) (b : CuUpBearer) → Makes (number_waiting way at b)
  unfolding number_waiting
  number_waiting_makes at b =
      either (at.flags.frozen || at.flags.released || not (has_downlink b.downlink)) (nothing b) (number_each way at b.waiting b) tt
      (number_each_makes at b.waiting b)

  -- ---- what is delivered, and what goes to the target

  deliver_makes : (at : CuUpScope) (b : CuUpBearer) → Makes (deliver_stored way at b)
  unfolding deliver_stored
  deliver_makes at b = all_map IsMade (λ e. deliver at.ue at.bearer Ul e.0 e.1) (λ e. tt) (handed_up b.receiver).packets

  down_makes : (at : CuUpScope) (tag : Tag) (load : Load P) (b : CuUpBearer) → Makes (forwarded_down way at tag load b)
  unfolding forwarded_down
  down_makes at tag load b = by b.hop
    where
      by : (h : Option SourceHop) → Makes (put_down way at tag load b h)
      by None = tt
      by (Some h) = (tt, tt)

  up_makes : (at : CuUpScope) (tag : Tag) (load : Load P) (b : CuUpBearer) → Makes (forwarded_up way at tag load b)
  unfolding forwarded_up
  up_makes at tag load b = by b.hop
    where
      by : (h : Option SourceHop) → Makes (put_up way at tag load b h)
      by None = tt
      by (Some h) = (tt, tt)

  -- ---- switch, freeze, SN status, resume

  begin_makes : (at : CuUpScope) (fmc : ℕ) (bits : List Bool) (b : CuUpBearer) → Makes (begin_downlink way at fmc bits b)
  unfolding begin_downlink
  begin_makes at fmc bits b =
      let report : Row = framed way at false false (Some (way.write at.sn (report_pdu fmc bits))) Absent b in
      after (report then (λ c. sent_again way at c.sender.unconfirmed c)) (number_waiting way at)
      (after report (λ c. sent_again way at c.sender.unconfirmed c) (framed_makes at false false (Some (way.write at.sn (report_pdu fmc bits))) Absent b)
      (λ c. sent_again_makes at c.sender.unconfirmed c)) (number_waiting_makes at)

  pub switched_makes : (at : CuUpScope) (du : NodeId) (teid : ℕ) (b : CuUpBearer) → Makes (switched way at du teid b)
  unfolding switched
  switched_makes at du teid b =
      let on : CuUpBearer = record (thawed b) { downlink = Some (record { du = du; teid = teid; next = 0 }); restart = false } in
      after (deliver_stored way at on) (begin_where_known way at) (deliver_makes at on)
      (λ c. either at.flags.may_serve (begin_downlink way at c.receiver.deliv (received_bits c.receiver) c) (nothing c)
      (begin_makes at c.receiver.deliv (received_bits c.receiver) c) tt)

  numbered_makes : (at : CuUpScope) (es : List (ℕ × List ℕ)) (b : CuUpBearer) → Makes (forward_numbered way at es b)
  numbered_makes at [] b = tt
  numbered_makes at (e ∷ es) b =
      after (forwarded_down way at (Own e.0) (numbered at.sn e.0 e.1) b) (forward_numbered way at es) (down_makes at (Own e.0) (numbered at.sn e.0 e.1) b)
      (λ c. numbered_makes at es c)

  fresh_makes : (at : CuUpScope) (ps : List (List ℕ)) (b : CuUpBearer) → Makes (forward_fresh way at ps b)
  fresh_makes at [] b = tt
  fresh_makes at (x ∷ xs) b =
      after (forwarded_down way at Absent (fresh x) b) (forward_fresh way at xs) (down_makes at Absent (fresh x) b) (λ c. fresh_makes at xs c)

  late_makes : (at : CuUpScope) (es : List (ℕ × List ℕ)) (b : CuUpBearer) → Makes (forward_late way at es b)
  late_makes at [] b = tt
  late_makes at (e ∷ es) b =
      after (forwarded_up way at (Own e.0) (numbered at.sn e.0 e.1) b) (forward_late way at es) (up_makes at (Own e.0) (numbered at.sn e.0 e.1) b)
      (λ c. late_makes at es c)

  pub frozen_makes : (at : CuUpScope) (peer : NodeId) (down up : ℕ) (b : CuUpBearer) → Makes (frozen_to way at peer down up b)
  unfolding frozen_to
  frozen_makes at peer down up b =
      let on : CuUpBearer = record b { hop = Some (record { peer = peer; down = down; up = up; up_ended = false }); loss_while_frozen = false; taken_while_frozen = [] } in
      after (forward_numbered way at b.sender.unconfirmed on then (λ c. forward_fresh way at c.waiting c)) (λ c. forward_late way at c.receiver.stored c)
      (after (forward_numbered way at b.sender.unconfirmed on) (λ c. forward_fresh way at c.waiting c) (numbered_makes at b.sender.unconfirmed on)
      (λ c. fresh_makes at c.waiting c)) (λ c. late_makes at c.receiver.stored c)

  pub status_makes : (at : CuUpScope) (s : SnStatus) (b : CuUpBearer) → Makes (with_status way at s b)
  unfolding with_status
  status_makes at s b =
      let on : CuUpBearer = record b { dl_next = s.dl_next; sender = record b.sender { next = s.dl_next }; receiver = record b.receiver { deliv = s.ul_first } } in
      either at.flags.arrived (deliver_stored way at on then begin_downlink way at s.ul_first (bits_in s.ul_received)) (nothing on)
      (after (deliver_stored way at on) (begin_downlink way at s.ul_first (bits_in s.ul_received)) (deliver_makes at on)
      (begin_makes at s.ul_first (bits_in s.ul_received))) tt

  pub resumed_makes : (at : CuUpScope) (b : CuUpBearer) → Makes (resumed way at b)
  unfolding resumed
  resumed_makes at b =
      let on : CuUpBearer = record (thawed b) { restart = b.restart || b.loss_while_frozen } in
      after (sent_again way at (owed b) on then deliver_stored way at) (number_waiting way at)
      (after (sent_again way at (owed b) on) (deliver_stored way at) (sent_again_makes at (owed b) on) (deliver_makes at)) (number_waiting_makes at)

  -- ---- items

  took_fresh_makes : (at : CuUpScope) (x : List ℕ) (b : CuUpBearer) → Makes (took_fresh way at x b)
  unfolding took_fresh
  took_fresh_makes at x b =
      let on : CuUpBearer = record b { waiting = b.waiting ++ x ∷ [] } in
      either at.flags.released (forwarded_down way at Absent (fresh x) b) _ (down_makes at Absent (fresh x) b)
      (either at.flags.frozen (forwarded_down way at Absent (fresh x) on) (number_waiting way at on) (down_makes at Absent (fresh x) on) (number_waiting_makes at on))

  n3_makes : (at : CuUpScope) (b : CuUpBearer) (h : Option SourceHop) → Makes (n3_ended way at b h)
  n3_makes at b None = (tt, tt)
  n3_makes at b (Some h) =
      after (forwarded_down way at Absent end_marker b) (λ c. closed_n3 way c c.n3) (down_makes at Absent end_marker b) (λ c. by c c.n3)
    where
      by : (c : CuUpBearer) (t : Option ℕ) → Makes (closed_n3 way c t)
      by c None = tt
      by c (Some t) = (tt, tt)

  took_numbered_makes : (at : CuUpScope) (count : Option ℕ) (x : List ℕ) (b : CuUpBearer) → Makes (took_numbered way at count x b)
  unfolding took_numbered
  took_numbered_makes at None x b = (tt, tt)
  took_numbered_makes at (Some count) x b =
      let on : CuUpBearer = record b { sender = restored b.sender count x } in
      either at.flags.released (forwarded_down way at Same (numbered at.sn count x) b) _ (down_makes at Same (numbered at.sn count x) b)
      (either (may_restore at.sn at.quota b.sender count) (restored_at way at count x b) _
      (either at.flags.frozen _ (sent way at count x Same on)
      (down_makes at Same (numbered at.sn count x) (record on { taken_while_frozen = b.taken_while_frozen ++ count ∷ [] }))
      (sent_makes at count x Same on)) (tt, tt))

  stored_makes : (at : CuUpScope) (count : ℕ) (x : List ℕ) (b : CuUpBearer) → Makes (stored_at way at count x b)
  stored_makes at count x b =
      let on : CuUpBearer = record b { receiver = stored b.receiver count x } in
      either at.flags.frozen (forwarded_up way at Same (numbered at.sn count x) on) (deliver_stored way at on) (up_makes at Same (numbered at.sn count x) on)
      (deliver_makes at on)

  took_uplink_makes : (at : CuUpScope) (count : Option ℕ) (x : List ℕ) (b : CuUpBearer) → Makes (took_uplink way at count x b)
  unfolding took_uplink
  took_uplink_makes at None x b = (tt, tt)
  took_uplink_makes at (Some count) x b =
      either at.flags.released (passed_up way at count x b) _
      (either (nat_lt count b.receiver.deliv) (drops Duplicate b) (forwarded_up way at Same (numbered at.sn count x) b) (tt, tt)
      (up_makes at Same (numbered at.sn count x) b))
      (either (is_duplicate b.receiver count) (drops Duplicate b) (stored_at way at count x b) (tt, tt) (stored_makes at count x b))

  took_content_makes : (at : CuUpScope) (content : Content) (b : CuUpBearer) → Makes (took_content way at content b)
  unfolding took_report
  took_content_makes at (packet_content count x) b = took_uplink_makes at count x b
  took_content_makes at (report_content fmc bits) b = number_waiting_makes at (record b { sender = confirmed_by b.sender fmc bits })

  lost_makes : (at : CuUpScope) (ranges : List (ℕ × ℕ)) (b : CuUpBearer) → Makes (lost_frames way at ranges b)
  lost_makes at [] b = tt
  lost_makes at (range ∷ ranges) b =
      either at.flags.frozen (nothing (record b { restart = true; loss_while_frozen = true })) (sent_again way at b.sender.unconfirmed (record b { restart = true })) tt
      (sent_again_makes at b.sender.unconfirmed (record b { restart = true }))

  hop_makes : (at : CuUpScope) (h : Option SourceHop) (b : CuUpBearer) → Makes (up_hop_ends_if way at h b)
  hop_makes at None b = tt
  hop_makes at (Some h) b =
      either (not h.up_ended && no_uplink b.uplinks && (not at.flags.target || b.up_ended))
      (forwarded_up way at Absent end_marker (record b { hop = Some (record h { up_ended = true }) })) (nothing b)
      (up_makes at Absent end_marker (record b { hop = Some (record h { up_ended = true }) })) tt

  uplink_makes : (at : CuUpScope) (teid : ℕ) (b : CuUpBearer) → Makes (uplink_ended way at teid b)
  unfolding uplink_ended
  uplink_makes at teid b =
      after (puts (closed teid) (record b { uplinks = filter (λ t. not (t == teid)) b.uplinks })) (λ c. up_hop_ends_if way at c.hop c) (tt, tt)
      (λ c. hop_makes at c.hop c)

  pub item_makes : (at : CuUpScope) (kind : TunnelKind) (teid : ℕ) (item : Taken P) (b : CuUpBearer) → Makes (took way at kind teid item b)
  unfolding took took_delivery_status up_ended
  item_makes at n3 teid (fresh_item x) b = took_fresh_makes at x b
  item_makes at n3 teid end_item b = n3_makes at b b.hop
  item_makes at forwarding_down teid (fresh_item x) b = took_fresh_makes at x b
  item_makes at forwarding_down teid (numbered_item count x) b = took_numbered_makes at count x b
  item_makes at forwarding_down teid end_item b =
      either b.down_ended (drops Unexpected b) (nothing (record b { down_ended = true })) (tt, tt) tt
  item_makes at f1u_uplink teid (uplink_item content) b = took_content_makes at content b
  item_makes at f1u_uplink teid (status_item lost confirmed) b =
      after (lost_frames way at lost (confirmed_if way confirmed b)) (number_waiting way at) (lost_makes at lost (confirmed_if way confirmed b)) (number_waiting_makes at)
  item_makes at f1u_uplink teid end_item b = uplink_makes at teid b
  item_makes at forwarding_up teid (numbered_item count x) b = took_uplink_makes at count x b
  item_makes at forwarding_up teid end_item b =
      either b.up_ended (drops Unexpected b) (up_hop_ends_if way at b.hop (record b { up_ended = true })) (tt, tt)
      (hop_makes at b.hop (record b { up_ended = true }))
  item_makes at kind teid item b = (tt, tt)

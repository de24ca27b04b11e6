-- What a CU-UP does to a bearer puts no control message.
use Rattle.std.proofs.Common.{◌≡◌, ℕ, Bool, true, false, not, ◌&&◌, ◌||◌, List, [], ◌∷◌, ◌++◌, Option, Some, None, refl, ◌∙◌}
use Rattle.std.specs.Prelude.{if◌then◌else◌, nat_lt, filter, ◌==◌}
use Rattle.gnb_types.specs.declared.names.NodeId.{NodeId}
use Rattle.gnb_types.specs.declared.outputs.Tag.{Tag}
use Rattle.gnb_types.specs.declared.outputs.Tag.TheVariants.{Absent, Own, Same}
use Rattle.gnb_types.specs.declared.plans.SnStatus.{SnStatus}
use Rattle.pdcp.specs.Near.{last_count}
use Rattle.pdcp_defs.specs.Senders.{numbered as with_next, has_room, may_restore, restored, confirmed_by}
use Rattle.pdcp_defs.specs.Receivers.{deliver as handed_up, received_bits, is_duplicate, stored}
use Rattle.unit_defs.specs.Ways.{packet_pdu, report_pdu, Content, packet_content, report_content, Load, fresh, numbered, end_marker, Taken, fresh_item, numbered_item, uplink_item, status_item, end_item, Way, Answer, gives, spent, with_outputs, ◌then◌, nothing, puts, closed, counts_spent}
use Rattle.unit_defs.specs.CuUpRecords.{DownlinkTunnel, SourceHop, CuUpBearer, TunnelKind, n3, f1u_uplink, forwarding_down, forwarding_up, CuUpScope}
use Rattle.unit_defs.specs.CuUpBearers.{last_frame, has_downlink, owed, thawed, no_uplink, bits_in, framed_on, framed, sent, sent_again, number_each, number_waiting, delivered, deliver_stored, put_down, forwarded_down, put_up, forwarded_up, with_uplink, begin_downlink, begin_where_known, switched, forward_numbered, forward_fresh, forward_late, frozen_to, begin_where_arrived, with_status, resumed}
use Rattle.unit_defs.specs.CuUpItems.{took_fresh, closed_n3, n3_ended, restored_at, took_numbered, stored_at, passed_up, took_uplink, took_report, took_content, confirmed_if, lost_frames, took_delivery_status, up_hop_ends_if, uplink_ended, up_ended, took}
use Rattle.law_requests_act_once.specs.channel.Moves.{sent_by}
use Rattle.law_requests_act_once.proofs.channel_rows.Requests.{sent_both}

module _ {M C P : Type 0} (way : Way M C P) (n : NodeId) where
  -- no control message is put
  abbrev pub Quiet : {R : Type 0} → Answer M P R → Type 0
  Quiet (gives os r) = sent_by n os ≡ []
  Quiet (spent k) = Unit {0}

  pub quiet_then : {R S : Type 0} (a : Answer M P R) (f : R → Answer M P S) → Quiet a → ((r : R) → Quiet (f r)) → Quiet (a then f)
  quiet_then {S = S} (gives os r) f first second = by (f r) (second r)
    where
      by : (b : Answer M P S) → Quiet b → Quiet (with_outputs os b)
      by (gives more s) next = sent_both n os more ∙ (λ i. first i ++ next i)
      by (spent k) next = tt
  quiet_then (spent k) f first second = tt

  pub quiet_if : {R : Type 0} (b : Bool) (x y : Answer M P R) → Quiet x → Quiet y → Quiet (if b then x else y)
  quiet_if true x y p q = p
  quiet_if false x y p q = q

  -- ---- packets to the DU and to the target, and deliveries

  framed_quiet : (at : CuUpScope) (poll restart : Bool) (pdu : Option P) (tag : Tag) (b : CuUpBearer) → Quiet (framed way at poll restart pdu tag b)
  unfolding framed
  framed_quiet at poll restart pdu tag b = by b.downlink
    where
      by : (d : Option DownlinkTunnel) → Quiet (framed_on way at b poll restart pdu tag d)
      by None = refl
      by (Some d) = quiet_if (nat_lt last_frame d.next) _ _ tt refl

  pub poll_quiet : (at : CuUpScope) (b : CuUpBearer) → Quiet (framed way at true false None Absent b)
  poll_quiet at b = framed_quiet at true false None Absent b

  sent_quiet : (at : CuUpScope) (count : ℕ) (p : List ℕ) (tag : Tag) (b : CuUpBearer) → Quiet (sent way at count p tag b)
  unfolding sent
  sent_quiet at count p tag b = framed_quiet at false b.restart (Some (way.write at.sn (packet_pdu count p))) tag b

  sent_again_quiet : (at : CuUpScope) (es : List (ℕ × List ℕ)) (b : CuUpBearer) → Quiet (sent_again way at es b)
  unfolding sent_again
  sent_again_quiet at [] b = refl
  sent_again_quiet at (e ∷ es) b = quiet_then (sent way at e.0 e.1 (Own e.0) b) (sent_again way at es) (sent_quiet at e.0 e.1 (Own e.0) b) (sent_again_quiet at es)

  number_each_quiet : (at : CuUpScope) (ps : List (List ℕ)) (b : CuUpBearer) → Quiet (number_each way at ps b)
  unfolding number_each
  number_each_quiet at [] b = refl
  number_each_quiet at (p ∷ ps) b =
      quiet_if (not (has_room at.sn at.quota b.sender)) (nothing b) _ refl
      (quiet_then (if nat_lt last_count b.sender.next then spent counts_spent
      else sent way at b.sender.next p (Own b.sender.next) (record b { sender = with_next b.sender p; waiting = ps })) (number_each way at ps)
      (quiet_if (nat_lt last_count b.sender.next) (spent counts_spent)
      (sent way at b.sender.next p (Own b.sender.next) (record b { sender = with_next b.sender p; waiting = ps })) tt
      (sent_quiet at b.sender.next p (Own b.sender.next) (record b { sender = with_next b.sender p; waiting = ps }))) (number_each_quiet at ps))

  number_waiting_quiet : (at : CuUpScope) (b : CuUpBearer) → Quiet (number_waiting way at b)
  unfolding number_waiting
  number_waiting_quiet at b =
      quiet_if (at.flags.frozen || at.flags.released || not (has_downlink b.downlink)) (nothing b) (number_each way at b.waiting b) refl
      (number_each_quiet at b.waiting b)

  no_deliver : (at : CuUpScope) (es : List (ℕ × List ℕ)) → sent_by n (delivered way at es) ≡ []
  no_deliver at [] = refl
  no_deliver at (e ∷ es) = no_deliver at es

  deliver_quiet : (at : CuUpScope) (b : CuUpBearer) → Quiet (deliver_stored way at b)
  unfolding deliver_stored
  deliver_quiet at b = no_deliver at (handed_up b.receiver).packets

  down_quiet : (at : CuUpScope) (tag : Tag) (load : Load P) (b : CuUpBearer) → Quiet (forwarded_down way at tag load b)
  unfolding forwarded_down
  down_quiet at tag load b = by b.hop
    where
      by : (h : Option SourceHop) → Quiet (put_down way at tag load b h)
      by None = refl
      by (Some h) = refl

  up_quiet : (at : CuUpScope) (tag : Tag) (load : Load P) (b : CuUpBearer) → Quiet (forwarded_up way at tag load b)
  unfolding forwarded_up
  up_quiet at tag load b = by b.hop
    where
      by : (h : Option SourceHop) → Quiet (put_up way at tag load b h)
      by None = refl
      by (Some h) = refl

  -- ---- orders

  pub uplink_quiet : (teid : ℕ) (b : CuUpBearer) → Quiet (with_uplink way teid b)
  unfolding with_uplink
  uplink_quiet teid b = refl

  begin_quiet : (at : CuUpScope) (fmc : ℕ) (bits : List Bool) (b : CuUpBearer) → Quiet (begin_downlink way at fmc bits b)
  unfolding begin_downlink
  begin_quiet at fmc bits b =
      quiet_then (framed way at false false (Some (way.write at.sn (report_pdu fmc bits))) Absent b then (λ c. sent_again way at c.sender.unconfirmed c)) (number_waiting way at)
      (quiet_then (framed way at false false (Some (way.write at.sn (report_pdu fmc bits))) Absent b) (λ c. sent_again way at c.sender.unconfirmed c)
      (framed_quiet at false false (Some (way.write at.sn (report_pdu fmc bits))) Absent b) (λ c. sent_again_quiet at c.sender.unconfirmed c))
      (number_waiting_quiet at)

  pub switched_quiet : (at : CuUpScope) (du : NodeId) (teid : ℕ) (b : CuUpBearer) → Quiet (switched way at du teid b)
  unfolding switched
  switched_quiet at du teid b =
      quiet_then (deliver_stored way at (record (thawed b) { downlink = Some (record { du = du; teid = teid; next = 0 }); restart = false })) (begin_where_known way at)
      (deliver_quiet at (record (thawed b) { downlink = Some (record { du = du; teid = teid; next = 0 }); restart = false }))
      (λ c. quiet_if at.flags.may_serve (begin_downlink way at c.receiver.deliv (received_bits c.receiver) c) (nothing c)
      (begin_quiet at c.receiver.deliv (received_bits c.receiver) c) refl)

  numbered_quiet : (at : CuUpScope) (es : List (ℕ × List ℕ)) (b : CuUpBearer) → Quiet (forward_numbered way at es b)
  numbered_quiet at [] b = refl
  numbered_quiet at (e ∷ es) b =
      quiet_then (forwarded_down way at (Own e.0) (numbered at.sn e.0 e.1) b) (forward_numbered way at es) (down_quiet at (Own e.0) (numbered at.sn e.0 e.1) b) (numbered_quiet at es)

  fresh_quiet : (at : CuUpScope) (ps : List (List ℕ)) (b : CuUpBearer) → Quiet (forward_fresh way at ps b)
  fresh_quiet at [] b = refl
  fresh_quiet at (p ∷ ps) b =
      quiet_then (forwarded_down way at Absent (fresh p) b) (forward_fresh way at ps) (down_quiet at Absent (fresh p) b) (fresh_quiet at ps)

  late_quiet : (at : CuUpScope) (es : List (ℕ × List ℕ)) (b : CuUpBearer) → Quiet (forward_late way at es b)
  late_quiet at [] b = refl
  late_quiet at (e ∷ es) b =
      quiet_then (forwarded_up way at (Own e.0) (numbered at.sn e.0 e.1) b) (forward_late way at es) (up_quiet at (Own e.0) (numbered at.sn e.0 e.1) b) (late_quiet at es)

  pub frozen_quiet : (at : CuUpScope) (peer : NodeId) (down up : ℕ) (b : CuUpBearer) → Quiet (frozen_to way at peer down up b)
  unfolding frozen_to
  frozen_quiet at peer down up b =
      let on : CuUpBearer = record b { hop = Some (record { peer = peer; down = down; up = up; up_ended = false }); loss_while_frozen = false; taken_while_frozen = [] } in
      quiet_then (forward_numbered way at b.sender.unconfirmed on then (λ c. forward_fresh way at c.waiting c)) (λ c. forward_late way at c.receiver.stored c)
      (quiet_then (forward_numbered way at b.sender.unconfirmed on) (λ c. forward_fresh way at c.waiting c)
      (numbered_quiet at b.sender.unconfirmed on) (λ c. fresh_quiet at c.waiting c))
      (λ c. late_quiet at c.receiver.stored c)

  pub status_quiet : (at : CuUpScope) (s : SnStatus) (b : CuUpBearer) → Quiet (with_status way at s b)
  unfolding with_status
  status_quiet at s b = by (record b {
    dl_next = s.dl_next;
    sender = record b.sender { next = s.dl_next };
    receiver = record b.receiver { deliv = s.ul_first };
  })
    where
      by : (c : CuUpBearer) → Quiet (begin_where_arrived way at s c)
      by c =
          quiet_if at.flags.arrived (deliver_stored way at c then begin_downlink way at s.ul_first (bits_in s.ul_received)) (nothing c)
          (quiet_then (deliver_stored way at c) (begin_downlink way at s.ul_first (bits_in s.ul_received)) (deliver_quiet at c)
          (begin_quiet at s.ul_first (bits_in s.ul_received))) refl

  pub resumed_quiet : (at : CuUpScope) (b : CuUpBearer) → Quiet (resumed way at b)
  unfolding resumed
  resumed_quiet at b =
      let on : CuUpBearer = record (thawed b) { restart = b.restart || b.loss_while_frozen } in
      quiet_then (sent_again way at (owed b) on then deliver_stored way at) (number_waiting way at)
      (quiet_then (sent_again way at (owed b) on) (deliver_stored way at) (sent_again_quiet at (owed b) on) (deliver_quiet at))
      (number_waiting_quiet at)

  -- ---- items

  took_fresh_quiet : (at : CuUpScope) (p : List ℕ) (b : CuUpBearer) → Quiet (took_fresh way at p b)
  unfolding took_fresh
  took_fresh_quiet at p b =
      let on : CuUpBearer = record b { waiting = b.waiting ++ p ∷ [] } in
      quiet_if at.flags.released (forwarded_down way at Absent (fresh p) b) _ (down_quiet at Absent (fresh p) b)
      (quiet_if at.flags.frozen (forwarded_down way at Absent (fresh p) on) (number_waiting way at on) (down_quiet at Absent (fresh p) on) (number_waiting_quiet at on))

  closed_quiet : (b : CuUpBearer) (t : Option ℕ) → Quiet (closed_n3 way b t)
  closed_quiet b None = refl
  closed_quiet b (Some t) = refl

  n3_quiet : (at : CuUpScope) (b : CuUpBearer) (h : Option SourceHop) → Quiet (n3_ended way at b h)
  n3_quiet at b None = refl
  n3_quiet at b (Some h) =
      quiet_then (forwarded_down way at Absent end_marker b) (λ c. closed_n3 way c c.n3) (down_quiet at Absent end_marker b) (λ c. closed_quiet c c.n3)

  took_numbered_quiet : (at : CuUpScope) (count : Option ℕ) (p : List ℕ) (b : CuUpBearer) → Quiet (took_numbered way at count p b)
  unfolding took_numbered
  took_numbered_quiet at None p b = refl
  took_numbered_quiet at (Some count) p b =
      let on : CuUpBearer = record b { sender = restored b.sender count p } in
      quiet_if at.flags.released (forwarded_down way at Same (numbered at.sn count p) b) _ (down_quiet at Same (numbered at.sn count p) b)
      (quiet_if (may_restore at.sn at.quota b.sender count) (restored_at way at count p b) _
      (quiet_if at.flags.frozen _ (sent way at count p Same on)
      (down_quiet at Same (numbered at.sn count p) (record on { taken_while_frozen = b.taken_while_frozen ++ count ∷ [] }))
      (sent_quiet at count p Same on)) refl)

  took_uplink_quiet : (at : CuUpScope) (count : Option ℕ) (p : List ℕ) (b : CuUpBearer) → Quiet (took_uplink way at count p b)
  unfolding took_uplink
  took_uplink_quiet at None p b = refl
  took_uplink_quiet at (Some count) p b =
      let on : CuUpBearer = record b { receiver = stored b.receiver count p } in
      quiet_if at.flags.released (passed_up way at count p b) _
      (quiet_if (nat_lt count b.receiver.deliv) _ (forwarded_up way at Same (numbered at.sn count p) b) refl (up_quiet at Same (numbered at.sn count p) b))
      (quiet_if (is_duplicate b.receiver count) _ (stored_at way at count p b) refl
      (quiet_if at.flags.frozen (forwarded_up way at Same (numbered at.sn count p) on) (deliver_stored way at on) (up_quiet at Same (numbered at.sn count p) on) (deliver_quiet at on)))

  took_content_quiet : (at : CuUpScope) (content : Content) (b : CuUpBearer) → Quiet (took_content way at content b)
  unfolding took_report
  took_content_quiet at (packet_content count p) b = took_uplink_quiet at count p b
  took_content_quiet at (report_content fmc bits) b = number_waiting_quiet at (record b { sender = confirmed_by b.sender fmc bits })

  lost_quiet : (at : CuUpScope) (ranges : List (ℕ × ℕ)) (b : CuUpBearer) → Quiet (lost_frames way at ranges b)
  lost_quiet at [] b = refl
  lost_quiet at (range ∷ ranges) b =
      quiet_if at.flags.frozen (nothing (record b { restart = true; loss_while_frozen = true })) (sent_again way at b.sender.unconfirmed (record b { restart = true })) refl
      (sent_again_quiet at b.sender.unconfirmed (record b { restart = true }))

  hop_quiet : (at : CuUpScope) (h : Option SourceHop) (b : CuUpBearer) → Quiet (up_hop_ends_if way at h b)
  hop_quiet at None b = refl
  hop_quiet at (Some h) b =
      quiet_if (not h.up_ended && no_uplink b.uplinks && (not at.flags.target || b.up_ended))
      (forwarded_up way at Absent end_marker (record b { hop = Some (record h { up_ended = true }) })) (nothing b)
      (up_quiet at Absent end_marker (record b { hop = Some (record h { up_ended = true }) })) refl

  pub took_quiet : (at : CuUpScope) (kind : TunnelKind) (teid : ℕ) (item : Taken P) (b : CuUpBearer) → Quiet (took way at kind teid item b)
  unfolding took took_delivery_status uplink_ended up_ended
  took_quiet at n3 teid (fresh_item p) b = took_fresh_quiet at p b
  took_quiet at n3 teid end_item b = n3_quiet at b b.hop
  took_quiet at forwarding_down teid (fresh_item p) b = took_fresh_quiet at p b
  took_quiet at forwarding_down teid (numbered_item count p) b = took_numbered_quiet at count p b
  took_quiet at forwarding_down teid end_item b = quiet_if b.down_ended _ _ refl refl
  took_quiet at f1u_uplink teid (uplink_item content) b = took_content_quiet at content b
  took_quiet at f1u_uplink teid (status_item lost delivered) b =
      quiet_then (lost_frames way at lost (confirmed_if way delivered b)) (number_waiting way at) (lost_quiet at lost (confirmed_if way delivered b)) (number_waiting_quiet at)
  took_quiet at f1u_uplink teid end_item b =
      quiet_then (puts (closed teid) (record b { uplinks = filter (λ t. not (t == teid)) b.uplinks })) (λ c. up_hop_ends_if way at c.hop c) refl (λ c. hop_quiet at c.hop c)
  took_quiet at forwarding_up teid (numbered_item count p) b = took_uplink_quiet at count p b
  took_quiet at forwarding_up teid end_item b = quiet_if b.up_ended _ (up_hop_ends_if way at b.hop (record b { up_ended = true })) refl (hop_quiet at b.hop (record b { up_ended = true }))
  took_quiet at kind teid item b = refl

-- What a CU-UP does to a bearer numbers its frames one after another.
use Rattle.std.proofs.Common.{◌≡◌, ◌==◌, ℕ, Bool, true, false, not, ◌&&◌, ◌||◌, List, [], ◌∷◌, ◌++◌, Option, Some, None, refl, sym, ap, ◌+◌, subst}
use Rattle.std.specs.Prelude.{if◌then◌else◌, nat_lt, filter}
use Rattle.std.proofs.lemmas.Grind.{flat_map-append}
use Rattle.gnb_types.specs.declared.names.NodeId.{NodeId}
use Rattle.gnb_types.specs.declared.names.Dir.TheVariants.{Dl}
use Rattle.gnb_types.specs.declared.outputs.Tag.{Tag}
use Rattle.gnb_types.specs.declared.outputs.Tag.TheVariants.{Absent, Own, Same}
use Rattle.gnb_types.specs.declared.plans.SnStatus.{SnStatus}
use Rattle.gnb_types.specs.declared.reasons.DropReason.TheVariants.{Unexpected}
use Rattle.pdcp.specs.Near.{last_count}
use Rattle.pdcp_defs.specs.Senders.{numbered as with_next, has_room, may_restore, restored, confirmed_by, confirmed_to}
use Rattle.pdcp_defs.specs.Receivers.{deliver as handed_up, received_bits, is_duplicate, stored}
use Rattle.unit_defs.specs.Ways.{packet_pdu, report_pdu, Content, packet_content, report_content, Load, fresh, numbered, end_marker, Taken, fresh_item, numbered_item, uplink_item, status_item, end_item, Way, Answer, gives, spent, with_outputs, ◌then◌, nothing, puts, drops, closed, counts_spent, frame, uplink, status, packet, frames_spent}
use Rattle.unit_defs.specs.CuUpRecords.{DownlinkTunnel, SourceHop, CuUpBearer, TunnelKind, n3, f1u_uplink, forwarding_down, forwarding_up, CuUpScope}
use Rattle.unit_defs.specs.CuUpBearers.{last_frame, has_downlink, owed, thawed, no_uplink, bits_in, framed_on, framed, sent, sent_again, number_each, number_waiting, delivered, deliver_stored, put_down, forwarded_down, put_up, forwarded_up, begin_downlink, begin_where_known, switched, forward_numbered, forward_fresh, forward_late, frozen_to, begin_where_arrived, with_status, resumed, with_uplink}
use Rattle.unit_defs.specs.CuUpItems.{took_fresh, closed_n3, n3_ended, restored_at, took_numbered, stored_at, passed_up, took_uplink, took_report, took_content, confirmed_if, lost_frames, took_delivery_status, up_hop_ends_if, uplink_ended, up_ended, took}
use Rattle.proof_unit_steps.specs.frames.Numbered.{Frame, frame_of, frames_in, frames_by, GoOn, NumbersFrom}
use Rattle.proof_unit_steps.proofs.frames.Frames.{stay, on_with, on_then}

module _ {M C P : Type 0} (way : Way M C P) where
  abbrev Goes : Option DownlinkTunnel → Answer M P CuUpBearer → Type 0
  Goes d a = NumbersFrom d a

  stays_then : (d : Option DownlinkTunnel) (a : Answer M P CuUpBearer) (f : CuUpBearer → Answer M P CuUpBearer) → Goes d a → ((b : CuUpBearer) → Goes b.downlink (f b))
      → Goes d (a then f)
  stays_then d (gives os b) f first second = by (f b) (second b)
    where
      by : (a : Answer M P CuUpBearer) → Goes b.downlink a → Goes d (with_outputs os a)
      by (gives more c) next =
          subst (λ (fs : List Frame). GoOn d fs c.downlink) (sym (flat_map-append frames_in os more))
          (on_then d b.downlink c.downlink (frames_by os) (frames_by more) first next)
      by (spent k) next = tt
  stays_then d (spent k) f first second = tt

  stays_if : (d : Option DownlinkTunnel) (t : Bool) (x y : Answer M P CuUpBearer) → Goes d x → Goes d y → Goes d (if t then x else y)
  stays_if d true x y p q = p
  stays_if d false x y p q = q

  framed_stays : (at : CuUpScope) (poll restart : Bool) (pdu : Option P) (tag : Tag) (b : CuUpBearer) → Goes b.downlink (framed way at poll restart pdu tag b)
  unfolding framed
  framed_stays at poll restart pdu tag b = by b.downlink refl
    where
      one : (d : DownlinkTunnel) (t : Bool) → Goes (Some d) (if t then spent frames_spent
          else puts (packet d.du d.teid at.ue at.bearer Dl tag (frame poll restart d.next pdu))
          (record b { downlink = Some (record d { next = d.next + 1 }); restart = b.restart && not restart }))
      one d true = tt
      one d false = (refl, refl)

      by : (o : Option DownlinkTunnel) → b.downlink ≡ o → Goes o (framed_on way at b poll restart pdu tag o)
      by None is = (refl, is)
      by (Some d) is = one d (nat_lt last_frame d.next)

  pub poll_stays : (at : CuUpScope) (b : CuUpBearer) → Goes b.downlink (framed way at true false None Absent b)
  poll_stays at b = framed_stays at true false None Absent b

  sent_stays : (at : CuUpScope) (count : ℕ) (p : List ℕ) (tag : Tag) (b : CuUpBearer) → Goes b.downlink (sent way at count p tag b)
  unfolding sent
  sent_stays at count p tag b = framed_stays at false b.restart (Some (way.write at.sn (packet_pdu count p))) tag b

  sent_again_stays : (at : CuUpScope) (es : List (ℕ × List ℕ)) (b : CuUpBearer) → Goes b.downlink (sent_again way at es b)
  unfolding sent_again
  sent_again_stays at [] b = (stay b.downlink)
  sent_again_stays at (e ∷ es) b = stays_then b.downlink (sent way at e.0 e.1 (Own e.0) b) (sent_again way at es) (sent_stays at e.0 e.1 (Own e.0) b) (sent_again_stays at es)

  number_each_stays : (at : CuUpScope) (ps : List (List ℕ)) (b : CuUpBearer) → Goes b.downlink (number_each way at ps b)
  unfolding number_each
  number_each_stays at [] b = (stay b.downlink)
  number_each_stays at (p ∷ ps) b =
      stays_if b.downlink (not (has_room at.sn at.quota b.sender)) (nothing b) _ (stay b.downlink)
      (stays_then b.downlink (if nat_lt last_count b.sender.next then spent counts_spent
      else sent way at b.sender.next p (Own b.sender.next) (record b { sender = with_next b.sender p; waiting = ps })) (number_each way at ps)
      (stays_if b.downlink (nat_lt last_count b.sender.next) (spent counts_spent)
      (sent way at b.sender.next p (Own b.sender.next) (record b { sender = with_next b.sender p; waiting = ps })) tt
      (sent_stays at b.sender.next p (Own b.sender.next) (record b { sender = with_next b.sender p; waiting = ps }))) (number_each_stays at ps))

  number_waiting_stays : (at : CuUpScope) (b : CuUpBearer) → Goes b.downlink (number_waiting way at b)
  unfolding number_waiting
  number_waiting_stays at b =
      stays_if b.downlink (at.flags.frozen || at.flags.released || not (has_downlink b.downlink)) (nothing b) (number_each way at b.waiting b) (stay b.downlink)
      (number_each_stays at b.waiting b)

  no_frames : (at : CuUpScope) (es : List (ℕ × List ℕ)) → frames_by (delivered way at es) ≡ []
  no_frames at [] = refl
  no_frames at (e ∷ es) = no_frames at es

  deliver_stays : (at : CuUpScope) (b : CuUpBearer) → Goes b.downlink (deliver_stored way at b)
  unfolding deliver_stored
  deliver_stays at b = on_with b.downlink b.downlink _ (no_frames at (handed_up b.receiver).packets) refl

  -- a load that is no frame
  abbrev IsOther : Load P → Type 0
  IsOther (frame poll restart number pdu) = ⊥
  IsOther load = Unit {0}

  other_none : (to : NodeId) (teid : ℕ) (load : Load P) → IsOther load → frame_of to teid load ≡ []
  other_none to teid (fresh p) is = refl
  other_none to teid (numbered sn count p) is = refl
  other_none to teid (frame poll restart number pdu) is = absurd is
  other_none to teid (uplink pdu) is = refl
  other_none to teid (status lost delivered) is = refl
  other_none to teid end_marker is = refl

  down_stays : (at : CuUpScope) (tag : Tag) (load : Load P) → IsOther load → (b : CuUpBearer) → Goes b.downlink (forwarded_down way at tag load b)
  unfolding forwarded_down
  down_stays at tag load is b = by b.hop
    where
      by : (h : Option SourceHop) → Goes b.downlink (put_down way at tag load b h)
      by None = stay b.downlink
      by (Some h) = on_with b.downlink b.downlink _ (ap (λ (fs : List Frame). fs ++ []) (other_none h.peer h.down load is)) refl

  up_stays : (at : CuUpScope) (tag : Tag) (load : Load P) → IsOther load → (b : CuUpBearer) → Goes b.downlink (forwarded_up way at tag load b)
  unfolding forwarded_up
  up_stays at tag load is b = by b.hop
    where
      by : (h : Option SourceHop) → Goes b.downlink (put_up way at tag load b h)
      by None = stay b.downlink
      by (Some h) = on_with b.downlink b.downlink _ (ap (λ (fs : List Frame). fs ++ []) (other_none h.peer h.up load is)) refl

  -- ---- orders

  begin_stays : (at : CuUpScope) (fmc : ℕ) (bits : List Bool) (b : CuUpBearer) → Goes b.downlink (begin_downlink way at fmc bits b)
  unfolding begin_downlink
  begin_stays at fmc bits b =
      stays_then b.downlink (framed way at false false (Some (way.write at.sn (report_pdu fmc bits))) Absent b then (λ c. sent_again way at c.sender.unconfirmed c)) (number_waiting way at)
      (stays_then b.downlink (framed way at false false (Some (way.write at.sn (report_pdu fmc bits))) Absent b) (λ c. sent_again way at c.sender.unconfirmed c)
      (framed_stays at false false (Some (way.write at.sn (report_pdu fmc bits))) Absent b) (λ c. sent_again_stays at c.sender.unconfirmed c))
      (number_waiting_stays at)

  pub switched_stays : (at : CuUpScope) (du : NodeId) (teid : ℕ) (b : CuUpBearer)
      → Goes (Some (record { du = du; teid = teid; next = 0 })) (switched way at du teid b)
  unfolding switched
  switched_stays at du teid b =
      stays_then (Some (record { du = du; teid = teid; next = 0 })) (deliver_stored way at (record (thawed b) { downlink = Some (record { du = du; teid = teid; next = 0 }); restart = false })) (begin_where_known way at)
      (deliver_stays at (record (thawed b) { downlink = Some (record { du = du; teid = teid; next = 0 }); restart = false }))
      (λ c. stays_if c.downlink at.flags.may_serve (begin_downlink way at c.receiver.deliv (received_bits c.receiver) c) (nothing c)
      (begin_stays at c.receiver.deliv (received_bits c.receiver) c) (stay c.downlink))

  numbered_stays : (at : CuUpScope) (es : List (ℕ × List ℕ)) (b : CuUpBearer) → Goes b.downlink (forward_numbered way at es b)
  numbered_stays at [] b = (stay b.downlink)
  numbered_stays at (e ∷ es) b =
      stays_then b.downlink (forwarded_down way at (Own e.0) (numbered at.sn e.0 e.1) b) (forward_numbered way at es) (down_stays at (Own e.0) (numbered at.sn e.0 e.1) tt b) (numbered_stays at es)

  fresh_stays : (at : CuUpScope) (ps : List (List ℕ)) (b : CuUpBearer) → Goes b.downlink (forward_fresh way at ps b)
  fresh_stays at [] b = (stay b.downlink)
  fresh_stays at (p ∷ ps) b =
      stays_then b.downlink (forwarded_down way at Absent (fresh p) b) (forward_fresh way at ps) (down_stays at Absent (fresh p) tt b) (fresh_stays at ps)

  late_stays : (at : CuUpScope) (es : List (ℕ × List ℕ)) (b : CuUpBearer) → Goes b.downlink (forward_late way at es b)
  late_stays at [] b = (stay b.downlink)
  late_stays at (e ∷ es) b =
      stays_then b.downlink (forwarded_up way at (Own e.0) (numbered at.sn e.0 e.1) b) (forward_late way at es) (up_stays at (Own e.0) (numbered at.sn e.0 e.1) tt b) (late_stays at es)

  pub frozen_stays : (at : CuUpScope) (peer : NodeId) (down up : ℕ) (b : CuUpBearer) → Goes b.downlink (frozen_to way at peer down up b)
  unfolding frozen_to
  frozen_stays at peer down up b =
      let on : CuUpBearer = record b { hop = Some (record { peer = peer; down = down; up = up; up_ended = false }); loss_while_frozen = false; taken_while_frozen = [] } in
      stays_then b.downlink (forward_numbered way at b.sender.unconfirmed on then (λ c. forward_fresh way at c.waiting c)) (λ c. forward_late way at c.receiver.stored c)
      (stays_then b.downlink (forward_numbered way at b.sender.unconfirmed on) (λ c. forward_fresh way at c.waiting c)
      (numbered_stays at b.sender.unconfirmed on) (λ c. fresh_stays at c.waiting c))
      (λ c. late_stays at c.receiver.stored c)

  begin_where_stays : (at : CuUpScope) (s : SnStatus) (b : CuUpBearer) → Goes b.downlink (begin_where_arrived way at s b)
  begin_where_stays at s b =
      stays_if b.downlink at.flags.arrived (deliver_stored way at b then begin_downlink way at s.ul_first (bits_in s.ul_received)) (nothing b)
      (stays_then b.downlink (deliver_stored way at b) (begin_downlink way at s.ul_first (bits_in s.ul_received)) (deliver_stays at b)
      (begin_stays at s.ul_first (bits_in s.ul_received))) (stay b.downlink)

  pub status_stays : (at : CuUpScope) (s : SnStatus) (b : CuUpBearer) → Goes b.downlink (with_status way at s b)
  unfolding with_status
  status_stays at s b =
      begin_where_stays at s (record b {
        dl_next = s.dl_next;
        sender = record b.sender { next = s.dl_next };
        receiver = record b.receiver { deliv = s.ul_first };
      })

  pub resumed_stays : (at : CuUpScope) (b : CuUpBearer) → Goes b.downlink (resumed way at b)
  unfolding resumed
  resumed_stays at b =
      let on : CuUpBearer = record (thawed b) { restart = b.restart || b.loss_while_frozen } in
      stays_then b.downlink (sent_again way at (owed b) on then deliver_stored way at) (number_waiting way at)
      (stays_then b.downlink (sent_again way at (owed b) on) (deliver_stored way at) (sent_again_stays at (owed b) on) (deliver_stays at))
      (number_waiting_stays at)

  -- ---- items

  took_fresh_stays : (at : CuUpScope) (p : List ℕ) (b : CuUpBearer) → Goes b.downlink (took_fresh way at p b)
  unfolding took_fresh
  took_fresh_stays at p b =
      let on : CuUpBearer = record b { waiting = b.waiting ++ p ∷ [] } in
      stays_if b.downlink at.flags.released (forwarded_down way at Absent (fresh p) b) _ (down_stays at Absent (fresh p) tt b)
      (stays_if b.downlink at.flags.frozen (forwarded_down way at Absent (fresh p) on) (number_waiting way at on) (down_stays at Absent (fresh p) tt on) (number_waiting_stays at on))

  closed_stays : (b : CuUpBearer) (t : Option ℕ) → Goes b.downlink (closed_n3 way b t)
  closed_stays b None = stay b.downlink
  closed_stays b (Some t) = stay b.downlink

  n3_stays : (at : CuUpScope) (b : CuUpBearer) (h : Option SourceHop) → Goes b.downlink (n3_ended way at b h)
  n3_stays at b None = stay b.downlink
  n3_stays at b (Some h) =
      stays_then b.downlink (forwarded_down way at Absent end_marker b) (λ c. closed_n3 way c c.n3) (down_stays at Absent end_marker tt b)
      (λ c. closed_stays c c.n3)

  took_numbered_stays : (at : CuUpScope) (count : Option ℕ) (p : List ℕ) (b : CuUpBearer) → Goes b.downlink (took_numbered way at count p b)
  unfolding took_numbered
  took_numbered_stays at None p b = (stay b.downlink)
  took_numbered_stays at (Some count) p b =
      let on : CuUpBearer = record b { sender = restored b.sender count p } in
      stays_if b.downlink at.flags.released (forwarded_down way at Same (numbered at.sn count p) b) _ (down_stays at Same (numbered at.sn count p) tt b)
      (stays_if b.downlink (may_restore at.sn at.quota b.sender count) (restored_at way at count p b) _
      (stays_if b.downlink at.flags.frozen _ (sent way at count p Same on)
      (down_stays at Same (numbered at.sn count p) tt (record on { taken_while_frozen = b.taken_while_frozen ++ count ∷ [] }))
      (sent_stays at count p Same on)) (stay b.downlink))

  took_uplink_stays : (at : CuUpScope) (count : Option ℕ) (p : List ℕ) (b : CuUpBearer) → Goes b.downlink (took_uplink way at count p b)
  unfolding took_uplink
  took_uplink_stays at None p b = (stay b.downlink)
  took_uplink_stays at (Some count) p b =
      let on : CuUpBearer = record b { receiver = stored b.receiver count p } in
      stays_if b.downlink at.flags.released (passed_up way at count p b) _
      (stays_if b.downlink (nat_lt count b.receiver.deliv) _ (forwarded_up way at Same (numbered at.sn count p) b) (stay b.downlink) (up_stays at Same (numbered at.sn count p) tt b))
      (stays_if b.downlink (is_duplicate b.receiver count) _ (stored_at way at count p b) (stay b.downlink)
      (stays_if b.downlink at.flags.frozen (forwarded_up way at Same (numbered at.sn count p) on) (deliver_stored way at on) (up_stays at Same (numbered at.sn count p) tt on) (deliver_stays at on)))

  took_content_stays : (at : CuUpScope) (content : Content) (b : CuUpBearer) → Goes b.downlink (took_content way at content b)
  unfolding took_report
  took_content_stays at (packet_content count p) b = took_uplink_stays at count p b
  took_content_stays at (report_content fmc bits) b = number_waiting_stays at (record b { sender = confirmed_by b.sender fmc bits })

  lost_stays : (at : CuUpScope) (ranges : List (ℕ × ℕ)) (b : CuUpBearer) → Goes b.downlink (lost_frames way at ranges b)
  lost_stays at [] b = (stay b.downlink)
  lost_stays at (range ∷ ranges) b =
      stays_if b.downlink at.flags.frozen (nothing (record b { restart = true; loss_while_frozen = true })) (sent_again way at b.sender.unconfirmed (record b { restart = true })) (stay b.downlink)
      (sent_again_stays at b.sender.unconfirmed (record b { restart = true }))

  lost_confirmed : (at : CuUpScope) (ranges : List (ℕ × ℕ)) (delivered : Option ℕ) (b : CuUpBearer)
      → Goes b.downlink (lost_frames way at ranges (confirmed_if way delivered b))
  lost_confirmed at ranges None b = lost_stays at ranges b
  lost_confirmed at ranges (Some count) b = lost_stays at ranges (record b { sender = confirmed_to b.sender count })

  hop_stays : (at : CuUpScope) (h : Option SourceHop) (b : CuUpBearer) → Goes b.downlink (up_hop_ends_if way at h b)
  hop_stays at None b = (stay b.downlink)
  hop_stays at (Some h) b =
      stays_if b.downlink (not h.up_ended && no_uplink b.uplinks && (not at.flags.target || b.up_ended))
      (forwarded_up way at Absent end_marker (record b { hop = Some (record h { up_ended = true }) })) (nothing b)
      (up_stays at Absent end_marker tt (record b { hop = Some (record h { up_ended = true }) })) (stay b.downlink)

  uplink_stays : (at : CuUpScope) (teid : ℕ) (b : CuUpBearer) → Goes b.downlink (uplink_ended way at teid b)
  unfolding uplink_ended
  uplink_stays at teid b =
      stays_then b.downlink (puts (closed teid) (record b { uplinks = filter (λ t. not (t == teid)) b.uplinks })) (λ c. up_hop_ends_if way at c.hop c)
      (stay b.downlink) (λ c. hop_stays at c.hop c)

  pub with_uplink_stays : (teid : ℕ) (b : CuUpBearer) → Goes b.downlink (with_uplink way teid b)
  unfolding with_uplink
  with_uplink_stays teid b = stay b.downlink

  pub item_stays : (at : CuUpScope) (kind : TunnelKind) (teid : ℕ) (item : Taken P) (b : CuUpBearer) → Goes b.downlink (took way at kind teid item b)
  unfolding took took_delivery_status up_ended
  item_stays at n3 teid (fresh_item p) b = took_fresh_stays at p b
  item_stays at n3 teid end_item b = n3_stays at b b.hop
  item_stays at forwarding_down teid (fresh_item p) b = took_fresh_stays at p b
  item_stays at forwarding_down teid (numbered_item count p) b = took_numbered_stays at count p b
  item_stays at forwarding_down teid end_item b =
      stays_if b.downlink b.down_ended (drops Unexpected b) (nothing (record b { down_ended = true })) (stay b.downlink) (stay b.downlink)
  item_stays at f1u_uplink teid (uplink_item content) b = took_content_stays at content b
  item_stays at f1u_uplink teid (status_item lost delivered) b =
      stays_then b.downlink (lost_frames way at lost (confirmed_if way delivered b)) (number_waiting way at) (lost_confirmed at lost delivered b) (number_waiting_stays at)
  item_stays at f1u_uplink teid end_item b = uplink_stays at teid b
  item_stays at forwarding_up teid (numbered_item count p) b = took_uplink_stays at count p b
  item_stays at forwarding_up teid end_item b =
      stays_if b.downlink b.up_ended (drops Unexpected b) (up_hop_ends_if way at b.hop (record b { up_ended = true })) (stay b.downlink)
      (hop_stays at b.hop (record b { up_ended = true }))
  item_stays at kind teid item b = stay b.downlink

-- What a CU-UP's rows put for a bearer: frames to a DU, packets and End Markers to a CU-UP, each with the COUNT that it says.
use Rattle.std.proofs.Common.{◌≡◌, ◌==◌, ℕ, Bool, true, false, not, ◌&&◌, ◌||◌, List, [], ◌∷◌, ◌++◌, Option, Some, None, refl, subst}
use Rattle.std.specs.Prelude.{if◌then◌else◌, nat_lt, filter}
use Rattle.gnb_types.specs.declared.names.NodeId.{NodeId}
use Rattle.gnb_types.specs.declared.outputs.Tag.{Tag}
use Rattle.gnb_types.specs.declared.outputs.Tag.TheVariants.{Absent, Own, Same}
use Rattle.gnb_types.specs.declared.plans.SnStatus.{SnStatus}
use Rattle.gnb_types.specs.declared.reasons.DropReason.TheVariants.{Unexpected, Duplicate}
use Rattle.message_types.specs.declared.rrc.Token.{Token}
use Rattle.pdcp.specs.Near.{last_count}
use Rattle.pdcp_defs.specs.Senders.{numbered as with_next, has_room, may_restore, restored, confirmed_by}
use Rattle.pdcp_defs.specs.Receivers.{deliver as handed_up, received_bits, is_duplicate, stored}
use Rattle.unit_defs.specs.Ways.{Message, Pdu, packet_pdu, report_pdu, Content, packet_content, report_content, Load, fresh, numbered, frame, end_marker, Taken, fresh_item, numbered_item, uplink_item, status_item, end_item, Answer, spent, ◌then◌, nothing, puts, drops, closed, counts_spent, frames_spent}
use Rattle.unit_defs.specs.CuUpRecords.{DownlinkTunnel, SourceHop, CuUpBearer, TunnelKind, n3, f1u_uplink, forwarding_down, forwarding_up, CuUpScope}
use Rattle.unit_defs.specs.CuUpBearers.{last_frame, has_downlink, owed, thawed, no_uplink, bits_in, framed_on, framed, sent, sent_again, number_each, number_waiting, delivered, deliver_stored, put_down, forwarded_down, put_up, forwarded_up, begin_downlink, begin_where_known, switched, forward_numbered, forward_fresh, forward_late, frozen_to, with_status, resumed}
use Rattle.unit_defs.specs.CuUpItems.{took_fresh, closed_n3, n3_ended, restored_at, took_numbered, stored_at, passed_up, took_uplink, took_report, took_content, confirmed_if, lost_frames, took_delivery_status, up_hop_ends_if, uplink_ended, up_ended, took}
use Rattle.run_defs.specs.Steps.{count_beside}
use Rattle.run_defs.specs.Runs.{plain_way}
use Rattle.proof_run_steps.specs.facts.Facts.{PutsFit}
use Rattle.proof_run_steps.specs.facts.UnitFacts.{as_facts, AnswerFits}
use Rattle.proof_run_steps.proofs.facts.Fits.{fits_if, fits_then}
use Rattle.law_tunnels_are_owned.specs.link_items.Items.{count_of_payload, count_of_load, IsFrame, IsForwardedDown, IsForwardedUp}
use Rattle.law_tunnels_are_owned.proofs.link_items.Names.{IsDu, IsCuUp, to_du, forwards_down, forwards_up, DownlinkNames, HopNames, BearerNames, link_items, Agrees}

module _ (node : NodeId) (at_up : IsCuUp node) (taken : Option ℕ) where
  abbrev pub Fits : Answer (Message Token) Pdu CuUpBearer → Type 0
  Fits a = AnswerFits link_items BearerNames node taken a

  either : (t : Bool) (x y : Answer (Message Token) Pdu CuUpBearer) → Fits x → Fits y → Fits (if t then x else y)
  either t x y p q = fits_if link_items node taken BearerNames t x y p q

  after : (a : Answer (Message Token) Pdu CuUpBearer) (f : CuUpBearer → Answer (Message Token) Pdu CuUpBearer) → Fits a → ((c : CuUpBearer) → BearerNames c → Fits (f c))
      → Fits (a then f)
  after a f p q = fits_then link_items node taken BearerNames BearerNames a f p q

  -- ---- frames

  pub framed_fits : (at : CuUpScope) (poll restart : Bool) (pdu : Option Pdu) (tag : Tag) (b : CuUpBearer) → IsFrame poll restart pdu
      → count_beside tag taken ≡ count_of_payload pdu → BearerNames b → Fits (framed plain_way at poll restart pdu tag b)
  unfolding framed
  framed_fits at poll restart pdu tag b shape same p = by b.downlink p.0
    where
      by : (d : Option DownlinkTunnel) → DownlinkNames d → Fits (framed_on plain_way at b poll restart pdu tag d)
      by None is = (p, tt)
      by (Some d) is =
          either (nat_lt last_frame d.next) (spent frames_spent) _ tt
          ((is, p.1), ((same, to_du node d.du (frame poll restart d.next pdu) at_up is shape), tt))

  sent_fits : (at : CuUpScope) (count : ℕ) (p : List ℕ) (tag : Tag) (b : CuUpBearer) → count_beside tag taken ≡ Some count → BearerNames b
      → Fits (sent plain_way at count p tag b)
  unfolding sent
  sent_fits at count p tag b same is = framed_fits at false b.restart (Some (packet_pdu count p)) tag b refl same is

  sent_again_fits : (at : CuUpScope) (es : List (ℕ × List ℕ)) (b : CuUpBearer) → BearerNames b → Fits (sent_again plain_way at es b)
  unfolding sent_again
  sent_again_fits at [] b is = (is, tt)
  sent_again_fits at (e ∷ es) b is =
      after (sent plain_way at e.0 e.1 (Own e.0) b) (sent_again plain_way at es) (sent_fits at e.0 e.1 (Own e.0) b refl is) (sent_again_fits at es)

  number_each_fits : (at : CuUpScope) (ps : List (List ℕ)) (b : CuUpBearer) → BearerNames b → Fits (number_each plain_way at ps b)
  unfolding number_each
  number_each_fits at [] b is = (is, tt)
  number_each_fits at (p ∷ ps) b is =
      let on : CuUpBearer = record b { sender = with_next b.sender p; waiting = ps } in
      either (not (has_room at.sn at.quota b.sender)) (nothing b) _ (is, tt)
      (after (if nat_lt last_count b.sender.next then spent counts_spent else sent plain_way at b.sender.next p (Own b.sender.next) on) (number_each plain_way at ps)
      (either (nat_lt last_count b.sender.next) (spent counts_spent) (sent plain_way at b.sender.next p (Own b.sender.next) on) tt
      (sent_fits at b.sender.next p (Own b.sender.next) on refl is)) (number_each_fits at ps))

  number_waiting_fits : (at : CuUpScope) (b : CuUpBearer) → BearerNames b → Fits (number_waiting plain_way at b)
  unfolding number_waiting
  number_waiting_fits at b is =
      either (at.flags.frozen || at.flags.released || not (has_downlink b.downlink)) (nothing b) (number_each plain_way at b.waiting b) (is, tt)
      (number_each_fits at b.waiting b is)

  -- ---- what is delivered, and what goes to the target

  delivered_fit : (at : CuUpScope) (es : List (ℕ × List ℕ)) → PutsFit (as_facts link_items) node taken (delivered plain_way at es)
  delivered_fit at [] = tt
  delivered_fit at (e ∷ es) = (tt, delivered_fit at es)

  deliver_fits : (at : CuUpScope) (b : CuUpBearer) → BearerNames b → Fits (deliver_stored plain_way at b)
  unfolding deliver_stored
  deliver_fits at b is = (is, delivered_fit at (handed_up b.receiver).packets)

  down_fits : (at : CuUpScope) (tag : Tag) (load : Load Pdu) (b : CuUpBearer) → IsForwardedDown load → count_beside tag taken ≡ count_of_load load → BearerNames b
      → Fits (forwarded_down plain_way at tag load b)
  unfolding forwarded_down
  down_fits at tag load b kind same p = by b.hop p.1
    where
      by : (h : Option SourceHop) → HopNames h → Fits (put_down plain_way at tag load b h)
      by None is = (p, tt)
      by (Some h) is = (p, ((same, forwards_down node h.peer load at_up is kind), tt))

  up_fits : (at : CuUpScope) (tag : Tag) (load : Load Pdu) (b : CuUpBearer) → IsForwardedUp load → count_beside tag taken ≡ count_of_load load → BearerNames b
      → Fits (forwarded_up plain_way at tag load b)
  unfolding forwarded_up
  up_fits at tag load b kind same p = by b.hop p.1
    where
      by : (h : Option SourceHop) → HopNames h → Fits (put_up plain_way at tag load b h)
      by None is = (p, tt)
      by (Some h) is = (p, ((same, forwards_up node h.peer load at_up is kind), tt))

  -- ---- switch, freeze, SN status, resume

  begin_fits : (at : CuUpScope) (fmc : ℕ) (bits : List Bool) (b : CuUpBearer) → BearerNames b → Fits (begin_downlink plain_way at fmc bits b)
  unfolding begin_downlink
  begin_fits at fmc bits b is =
      after (framed plain_way at false false (Some (report_pdu fmc bits)) Absent b then (λ c. sent_again plain_way at c.sender.unconfirmed c)) (number_waiting plain_way at)
      (after (framed plain_way at false false (Some (report_pdu fmc bits)) Absent b) (λ c. sent_again plain_way at c.sender.unconfirmed c)
      (framed_fits at false false (Some (report_pdu fmc bits)) Absent b (refl, refl) refl is) (λ c p. sent_again_fits at c.sender.unconfirmed c p)) (number_waiting_fits at)

  pub switched_fits : (at : CuUpScope) (du : NodeId) (teid : ℕ) (b : CuUpBearer) → IsDu du → Fits (switched plain_way at du teid b)
  unfolding switched
  switched_fits at du teid b is =
      after (deliver_stored plain_way at (record (thawed b) { downlink = Some (record { du = du; teid = teid; next = 0 }); restart = false })) (begin_where_known plain_way at)
      (deliver_fits at (record (thawed b) { downlink = Some (record { du = du; teid = teid; next = 0 }); restart = false }) (is, tt))
      (λ c p. either at.flags.may_serve (begin_downlink plain_way at c.receiver.deliv (received_bits c.receiver) c) (nothing c)
      (begin_fits at c.receiver.deliv (received_bits c.receiver) c p) (p, tt))

  numbered_fits : (at : CuUpScope) (es : List (ℕ × List ℕ)) (b : CuUpBearer) → BearerNames b → Fits (forward_numbered plain_way at es b)
  numbered_fits at [] b is = (is, tt)
  numbered_fits at (e ∷ es) b is =
      after (forwarded_down plain_way at (Own e.0) (numbered at.sn e.0 e.1) b) (forward_numbered plain_way at es)
      (down_fits at (Own e.0) (numbered at.sn e.0 e.1) b tt refl is) (numbered_fits at es)

  fresh_fits : (at : CuUpScope) (ps : List (List ℕ)) (b : CuUpBearer) → BearerNames b → Fits (forward_fresh plain_way at ps b)
  fresh_fits at [] b is = (is, tt)
  fresh_fits at (p ∷ ps) b is =
      after (forwarded_down plain_way at Absent (fresh p) b) (forward_fresh plain_way at ps) (down_fits at Absent (fresh p) b tt refl is) (fresh_fits at ps)

  late_fits : (at : CuUpScope) (es : List (ℕ × List ℕ)) (b : CuUpBearer) → BearerNames b → Fits (forward_late plain_way at es b)
  late_fits at [] b is = (is, tt)
  late_fits at (e ∷ es) b is =
      after (forwarded_up plain_way at (Own e.0) (numbered at.sn e.0 e.1) b) (forward_late plain_way at es)
      (up_fits at (Own e.0) (numbered at.sn e.0 e.1) b tt refl is) (late_fits at es)

  pub frozen_fits : (at : CuUpScope) (peer : NodeId) (down up : ℕ) (b : CuUpBearer) → IsCuUp peer → BearerNames b → Fits (frozen_to plain_way at peer down up b)
  unfolding frozen_to
  frozen_fits at peer down up b is p =
      let on : CuUpBearer = record b { hop = Some (record { peer = peer; down = down; up = up; up_ended = false }); loss_while_frozen = false; taken_while_frozen = [] } in
      after (forward_numbered plain_way at b.sender.unconfirmed on then (λ c. forward_fresh plain_way at c.waiting c)) (λ c. forward_late plain_way at c.receiver.stored c)
      (after (forward_numbered plain_way at b.sender.unconfirmed on) (λ c. forward_fresh plain_way at c.waiting c)
      (numbered_fits at b.sender.unconfirmed on (p.0, is)) (λ c q. fresh_fits at c.waiting c q))
      (λ c q. late_fits at c.receiver.stored c q)

  pub status_fits : (at : CuUpScope) (s : SnStatus) (b : CuUpBearer) → BearerNames b → Fits (with_status plain_way at s b)
  unfolding with_status
  status_fits at s b is =
      let on : CuUpBearer = record b { dl_next = s.dl_next; sender = record b.sender { next = s.dl_next }; receiver = record b.receiver { deliv = s.ul_first } } in
      either at.flags.arrived (deliver_stored plain_way at on then begin_downlink plain_way at s.ul_first (bits_in s.ul_received)) (nothing on)
      (after (deliver_stored plain_way at on) (begin_downlink plain_way at s.ul_first (bits_in s.ul_received)) (deliver_fits at on is)
      (begin_fits at s.ul_first (bits_in s.ul_received))) (is, tt)

  pub resumed_fits : (at : CuUpScope) (b : CuUpBearer) → BearerNames b → Fits (resumed plain_way at b)
  unfolding resumed
  resumed_fits at b is =
      let on : CuUpBearer = record (thawed b) { restart = b.restart || b.loss_while_frozen } in
      after (sent_again plain_way at (owed b) on then deliver_stored plain_way at) (number_waiting plain_way at)
      (after (sent_again plain_way at (owed b) on) (deliver_stored plain_way at) (sent_again_fits at (owed b) on (is.0, tt)) (deliver_fits at))
      (number_waiting_fits at)

  -- ---- items

  took_fresh_fits : (at : CuUpScope) (p : List ℕ) (b : CuUpBearer) → BearerNames b → Fits (took_fresh plain_way at p b)
  unfolding took_fresh
  took_fresh_fits at p b is =
      let on : CuUpBearer = record b { waiting = b.waiting ++ p ∷ [] } in
      either at.flags.released (forwarded_down plain_way at Absent (fresh p) b) _ (down_fits at Absent (fresh p) b tt refl is)
      (either at.flags.frozen (forwarded_down plain_way at Absent (fresh p) on) (number_waiting plain_way at on) (down_fits at Absent (fresh p) on tt refl is)
      (number_waiting_fits at on is))

  n3_fits : (at : CuUpScope) (b : CuUpBearer) (h : Option SourceHop) → BearerNames b → Fits (n3_ended plain_way at b h)
  n3_fits at b None is = (is, (tt, tt))
  n3_fits at b (Some h) is =
      after (forwarded_down plain_way at Absent end_marker b) (λ c. closed_n3 plain_way c c.n3) (down_fits at Absent end_marker b tt refl is) (λ c p. by c c.n3 p)
    where
      by : (c : CuUpBearer) (t : Option ℕ) → BearerNames c → Fits (closed_n3 plain_way c t)
      by c None p = (p, tt)
      by c (Some t) p = (p, (tt, tt))

  took_numbered_fits : (at : CuUpScope) (count : Option ℕ) (p : List ℕ) (b : CuUpBearer) → Agrees taken (numbered_item count p) → BearerNames b
      → Fits (took_numbered plain_way at count p b)
  unfolding took_numbered
  took_numbered_fits at None p b same is = (is, (tt, tt))
  took_numbered_fits at (Some count) p b same is =
      let on : CuUpBearer = record b { sender = restored b.sender count p } in
      either at.flags.released (forwarded_down plain_way at Same (numbered at.sn count p) b) _ (down_fits at Same (numbered at.sn count p) b tt same is)
      (either (may_restore at.sn at.quota b.sender count) (restored_at plain_way at count p b) _
      (either at.flags.frozen _ (sent plain_way at count p Same on)
      (down_fits at Same (numbered at.sn count p) (record on { taken_while_frozen = b.taken_while_frozen ++ count ∷ [] }) tt same is)
      (sent_fits at count p Same on same is)) (is, (tt, tt)))

  stored_fits : (at : CuUpScope) (count : ℕ) (p : List ℕ) (b : CuUpBearer) → taken ≡ Some count → BearerNames b → Fits (stored_at plain_way at count p b)
  stored_fits at count p b same is =
      let on : CuUpBearer = record b { receiver = stored b.receiver count p } in
      either at.flags.frozen (forwarded_up plain_way at Same (numbered at.sn count p) on) (deliver_stored plain_way at on)
      (up_fits at Same (numbered at.sn count p) on tt same is) (deliver_fits at on is)

  took_uplink_fits : (at : CuUpScope) (count : Option ℕ) (p : List ℕ) (b : CuUpBearer) → Agrees taken (numbered_item count p) → BearerNames b
      → Fits (took_uplink plain_way at count p b)
  unfolding took_uplink
  took_uplink_fits at None p b same is = (is, (tt, tt))
  took_uplink_fits at (Some count) p b same is =
      either at.flags.released (passed_up plain_way at count p b) _
      (either (nat_lt count b.receiver.deliv) (drops Duplicate b) (forwarded_up plain_way at Same (numbered at.sn count p) b) (is, (tt, tt))
      (up_fits at Same (numbered at.sn count p) b tt same is))
      (either (is_duplicate b.receiver count) (drops Duplicate b) (stored_at plain_way at count p b) (is, (tt, tt)) (stored_fits at count p b same is))

  content_agrees : (count : Option ℕ) (p : List ℕ) → Agrees taken (uplink_item (packet_content count p)) → Agrees taken (numbered_item count p)
  content_agrees None p same = tt
  content_agrees (Some count) p same = same

  took_content_fits : (at : CuUpScope) (content : Content) (b : CuUpBearer) → Agrees taken (uplink_item content) → BearerNames b → Fits (took_content plain_way at content b)
  unfolding took_report
  took_content_fits at (packet_content count p) b same is = took_uplink_fits at count p b (content_agrees count p same) is
  took_content_fits at (report_content fmc bits) b same is = number_waiting_fits at (record b { sender = confirmed_by b.sender fmc bits }) is

  lost_fits : (at : CuUpScope) (ranges : List (ℕ × ℕ)) (b : CuUpBearer) → BearerNames b → Fits (lost_frames plain_way at ranges b)
  lost_fits at [] b is = (is, tt)
  lost_fits at (range ∷ ranges) b is =
      either at.flags.frozen (nothing (record b { restart = true; loss_while_frozen = true })) (sent_again plain_way at b.sender.unconfirmed (record b { restart = true })) (is, tt)
      (sent_again_fits at b.sender.unconfirmed (record b { restart = true }) is)

  confirmed_names : (delivered : Option ℕ) (b : CuUpBearer) → BearerNames b → BearerNames (confirmed_if plain_way delivered b)
  confirmed_names None b is = is
  confirmed_names (Some count) b is = is

  hop_fits : (at : CuUpScope) (h : Option SourceHop) (b : CuUpBearer) → b.hop ≡ h → BearerNames b → Fits (up_hop_ends_if plain_way at h b)
  hop_fits at None b same is = (is, tt)
  hop_fits at (Some h) b same is =
      either (not h.up_ended && no_uplink b.uplinks && (not at.flags.target || b.up_ended))
      (forwarded_up plain_way at Absent end_marker (record b { hop = Some (record h { up_ended = true }) })) (nothing b)
      (up_fits at Absent end_marker (record b { hop = Some (record h { up_ended = true }) }) tt refl (is.0, subst HopNames same is.1)) (is, tt)

  uplink_fits : (at : CuUpScope) (teid : ℕ) (b : CuUpBearer) → BearerNames b → Fits (uplink_ended plain_way at teid b)
  unfolding uplink_ended
  uplink_fits at teid b is =
      let on : CuUpBearer = record b { uplinks = filter (λ t. not (t == teid)) b.uplinks } in
      after (puts (closed teid) on) (λ c. up_hop_ends_if plain_way at c.hop c) (is, (tt, tt)) (λ c p. hop_fits at c.hop c refl p)

  pub item_fits : (at : CuUpScope) (kind : TunnelKind) (teid : ℕ) (item : Taken Pdu) (b : CuUpBearer) → Agrees taken item → BearerNames b
      → Fits (took plain_way at kind teid item b)
  unfolding took took_delivery_status up_ended
  item_fits at n3 teid (fresh_item p) b same is = took_fresh_fits at p b is
  item_fits at n3 teid end_item b same is = n3_fits at b b.hop is
  item_fits at forwarding_down teid (fresh_item p) b same is = took_fresh_fits at p b is
  item_fits at forwarding_down teid (numbered_item count p) b same is = took_numbered_fits at count p b same is
  item_fits at forwarding_down teid end_item b same is =
      either b.down_ended (drops Unexpected b) (nothing (record b { down_ended = true })) (is, (tt, tt)) (is, tt)
  item_fits at f1u_uplink teid (uplink_item content) b same is = took_content_fits at content b same is
  item_fits at f1u_uplink teid (status_item lost delivered) b same is =
      after (lost_frames plain_way at lost (confirmed_if plain_way delivered b)) (number_waiting plain_way at)
      (lost_fits at lost (confirmed_if plain_way delivered b) (confirmed_names delivered b is)) (number_waiting_fits at)
  item_fits at f1u_uplink teid end_item b same is = uplink_fits at teid b is
  item_fits at forwarding_up teid (numbered_item count p) b same is = took_uplink_fits at count p b same is
  item_fits at forwarding_up teid end_item b same is =
      either b.up_ended (drops Unexpected b) (up_hop_ends_if plain_way at b.hop (record b { up_ended = true })) (is, (tt, tt))
      (hop_fits at b.hop (record b { up_ended = true }) refl is)
  item_fits at kind teid item b same is = (is, (tt, tt))

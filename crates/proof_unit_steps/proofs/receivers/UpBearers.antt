-- What a CU-UP's rows do to the receiver of a bearer: most leave it; a packet is stored; and what is next is handed up.
use Rattle.std.proofs.Common.{◌≡◌, ◌≤◌, ◌==◌, ℕ, Bool, true, false, not, ◌&&◌, ◌||◌, List, [], ◌∷◌, ◌++◌, Option, Some, None, refl, sym, ap, ◌∙◌, subst, arith}
use Rattle.std.specs.Prelude.{if◌then◌else◌, nat_lt, filter, is_some}
use Rattle.gnb_types.specs.declared.names.NodeId.{NodeId}
use Rattle.gnb_types.specs.declared.outputs.Tag.{Tag}
use Rattle.gnb_types.specs.declared.outputs.Tag.TheVariants.{Absent, Own, Same}
use Rattle.gnb_types.specs.declared.plans.SnStatus.{SnStatus}
use Rattle.gnb_types.specs.declared.reasons.DropReason.TheVariants.{Unexpected, Duplicate}
use Rattle.pdcp.specs.Near.{last_count}
use Rattle.pdcp_defs.specs.Senders.{numbered as with_next, has_room, may_restore, restored, confirmed_by, confirmed_to}
use Rattle.pdcp_defs.specs.Receivers.{deliver as handed_up, received_bits, is_duplicate, stored, Receiver}
use Rattle.unit_defs.specs.Ways.{packet_pdu, report_pdu, Content, packet_content, report_content, Load, fresh, numbered, end_marker, Taken, fresh_item, numbered_item, uplink_item, status_item, end_item, Way, Answer, gives, spent, ◌then◌, nothing, puts, drops, closed, counts_spent}
use Rattle.unit_defs.specs.CuUpRecords.{DownlinkTunnel, SourceHop, CuUpBearer, TunnelKind, n3, f1u_uplink, forwarding_down, forwarding_up, CuUpScope, CuUpFlags}
use Rattle.unit_defs.specs.CuUpBearers.{last_frame, has_downlink, owed, thawed, no_uplink, bits_in, framed_on, framed, sent, sent_again, number_each, number_waiting, delivered, deliver_stored, put_down, forwarded_down, put_up, forwarded_up, begin_downlink, begin_where_known, switched, forward_numbered, forward_fresh, forward_late, frozen_to, with_status, resumed}
use Rattle.unit_defs.specs.CuUpItems.{took_fresh, closed_n3, n3_ended, restored_at, took_numbered, down_ended, stored_at, passed_up, took_uplink, took_report, took_content, confirmed_if, lost_frames, took_delivery_status, up_hop_ends_if, uplink_ended, up_ended, took, first_held, is_n3, held_by_room, held_reason}
use Rattle.proof_unit_steps.specs.answers.After.{HoldsAfter}
use Rattle.proof_unit_steps.proofs.answers.Answers.{holds_if, holds_then}
use Rattle.proof_unit_steps.specs.receivers.Ready.{CuUpStores}
use Rattle.proof_unit_steps.proofs.receivers.Receivers.{put_ascends, none_after, when_delivered, when_frozen}
use Rattle.std.specs.Ordering.{nat_cmp}
use Rattle.tables.specs.Tables.{find}
use Rattle.gnb_types.specs.declared.reasons.HeldReason.{HeldReason}
use Rattle.gnb_types.specs.declared.reasons.HeldReason.TheVariants.{NoStatus, NotArrived, Early}

abbrev Store : Type 0
Store = Receiver (List ℕ)

pub above_or_duplicate : (r : Store) (count : ℕ) → is_duplicate r count ≡ false → r.deliv ≤ count
unfolding is_duplicate
above_or_duplicate r count h = by (nat_lt count r.deliv) refl h
  where
    by : (t : Bool) → nat_lt count r.deliv ≡ t → t || is_some (find nat_cmp r.stored count) ≡ false → r.deliv ≤ count
    by true low e = absurd cc
    by false high e = grind arith

module _ {M C P : Type 0} (way : Way M C P) where
  -- the receiver is this one then
  abbrev pub Has : Store → Answer M P CuUpBearer → Type 0
  Has r a = HoldsAfter (λ (c : CuUpBearer). c.receiver ≡ r) a

  moved : (r s : Store) (a : Answer M P CuUpBearer) → r ≡ s → Has r a → Has s a
  moved r s (gives os c) same p = p ∙ same
  moved r s (spent k) same p = tt

  has_then : (r s : Store) (a : Answer M P CuUpBearer) (f : CuUpBearer → Answer M P CuUpBearer) → Has r a → ((c : CuUpBearer) → c.receiver ≡ r → Has s (f c)) → Has s (a then f)
  has_then r s a f p q = holds_then (λ (c : CuUpBearer). c.receiver ≡ r) (λ (c : CuUpBearer). c.receiver ≡ s) a f p q

  -- what leaves the receiver as it is, after what leaves this one
  keeps_then : (r : Store) (a : Answer M P CuUpBearer) (f : CuUpBearer → Answer M P CuUpBearer) → Has r a → ((c : CuUpBearer) → Has c.receiver (f c)) → Has r (a then f)
  keeps_then r a f p q = has_then r r a f p (λ c is. moved c.receiver r (f c) is (q c))

  has_if : (r : Store) (t : Bool) (x y : Answer M P CuUpBearer) → Has r x → Has r y → Has r (if t then x else y)
  has_if r t x y p q = holds_if (λ (c : CuUpBearer). c.receiver ≡ r) t x y p q

  -- ---- packets to the DU and to the target

  pub framed_keeps : (at : CuUpScope) (poll restart : Bool) (pdu : Option P) (tag : Tag) (b : CuUpBearer) → Has b.receiver (framed way at poll restart pdu tag b)
  unfolding framed
  framed_keeps at poll restart pdu tag b = by b.downlink
    where
      by : (d : Option DownlinkTunnel) → Has b.receiver (framed_on way at b poll restart pdu tag d)
      by None = refl
      by (Some d) = has_if b.receiver (nat_lt last_frame d.next) _ _ tt refl

  sent_keeps : (at : CuUpScope) (count : ℕ) (p : List ℕ) (tag : Tag) (b : CuUpBearer) → Has b.receiver (sent way at count p tag b)
  unfolding sent
  sent_keeps at count p tag b = framed_keeps at false b.restart (Some (way.write at.sn (packet_pdu count p))) tag b

  sent_again_keeps : (at : CuUpScope) (es : List (ℕ × List ℕ)) (b : CuUpBearer) → Has b.receiver (sent_again way at es b)
  unfolding sent_again
  sent_again_keeps at [] b = refl
  sent_again_keeps at (e ∷ es) b =
      keeps_then b.receiver (sent way at e.0 e.1 (Own e.0) b) (sent_again way at es) (sent_keeps at e.0 e.1 (Own e.0) b) (sent_again_keeps at es)

  number_each_keeps : (at : CuUpScope) (ps : List (List ℕ)) (b : CuUpBearer) → Has b.receiver (number_each way at ps b)
  unfolding number_each
  number_each_keeps at [] b = refl
  number_each_keeps at (p ∷ ps) b =
      let on : CuUpBearer = record b { sender = with_next b.sender p; waiting = ps } in
      has_if b.receiver (not (has_room at.sn at.quota b.sender)) (nothing b) _ refl
      (keeps_then b.receiver (if nat_lt last_count b.sender.next then spent counts_spent else sent way at b.sender.next p (Own b.sender.next) on) (number_each way at ps)
      (has_if b.receiver (nat_lt last_count b.sender.next) (spent counts_spent) (sent way at b.sender.next p (Own b.sender.next) on) tt
      (sent_keeps at b.sender.next p (Own b.sender.next) on)) (number_each_keeps at ps))

  number_waiting_keeps : (at : CuUpScope) (b : CuUpBearer) → Has b.receiver (number_waiting way at b)
  unfolding number_waiting
  number_waiting_keeps at b =
      has_if b.receiver (at.flags.frozen || at.flags.released || not (has_downlink b.downlink)) (nothing b) (number_each way at b.waiting b) refl
      (number_each_keeps at b.waiting b)

  down_keeps : (at : CuUpScope) (tag : Tag) (load : Load P) (b : CuUpBearer) → Has b.receiver (forwarded_down way at tag load b)
  unfolding forwarded_down
  down_keeps at tag load b = by b.hop
    where
      by : (h : Option SourceHop) → Has b.receiver (put_down way at tag load b h)
      by None = refl
      by (Some h) = refl

  up_keeps : (at : CuUpScope) (tag : Tag) (load : Load P) (b : CuUpBearer) → Has b.receiver (forwarded_up way at tag load b)
  unfolding forwarded_up
  up_keeps at tag load b = by b.hop
    where
      by : (h : Option SourceHop) → Has b.receiver (put_up way at tag load b h)
      by None = refl
      by (Some h) = refl

  -- ---- orders

  begin_keeps : (at : CuUpScope) (fmc : ℕ) (bits : List Bool) (b : CuUpBearer) → Has b.receiver (begin_downlink way at fmc bits b)
  unfolding begin_downlink
  begin_keeps at fmc bits b =
      let report : Answer M P CuUpBearer = framed way at false false (Some (way.write at.sn (report_pdu fmc bits))) Absent b in
      keeps_then b.receiver (report then (λ c. sent_again way at c.sender.unconfirmed c)) (number_waiting way at)
      (keeps_then b.receiver report (λ c. sent_again way at c.sender.unconfirmed c)
      (framed_keeps at false false (Some (way.write at.sn (report_pdu fmc bits))) Absent b) (λ c. sent_again_keeps at c.sender.unconfirmed c))
      (number_waiting_keeps at)

  handed : (at : CuUpScope) (b : CuUpBearer) → Has (handed_up b.receiver).after (deliver_stored way at b)
  unfolding deliver_stored
  handed at b = refl

  pub switched_hands : (at : CuUpScope) (du : NodeId) (teid : ℕ) (b : CuUpBearer) → Has (handed_up b.receiver).after (switched way at du teid b)
  unfolding switched
  switched_hands at du teid b =
      let on : CuUpBearer = record (thawed b) { downlink = Some (record { du = du; teid = teid; next = 0 }); restart = false } in
      keeps_then (handed_up b.receiver).after (deliver_stored way at on) (begin_where_known way at) (handed at on)
      (λ c. has_if c.receiver at.flags.may_serve (begin_downlink way at c.receiver.deliv (received_bits c.receiver) c) (nothing c)
      (begin_keeps at c.receiver.deliv (received_bits c.receiver) c) refl)

  numbered_keeps : (at : CuUpScope) (es : List (ℕ × List ℕ)) (b : CuUpBearer) → Has b.receiver (forward_numbered way at es b)
  numbered_keeps at [] b = refl
  numbered_keeps at (e ∷ es) b =
      keeps_then b.receiver (forwarded_down way at (Own e.0) (numbered at.sn e.0 e.1) b) (forward_numbered way at es) (down_keeps at (Own e.0) (numbered at.sn e.0 e.1) b)
      (numbered_keeps at es)

  fresh_keeps : (at : CuUpScope) (ps : List (List ℕ)) (b : CuUpBearer) → Has b.receiver (forward_fresh way at ps b)
  fresh_keeps at [] b = refl
  fresh_keeps at (p ∷ ps) b =
      keeps_then b.receiver (forwarded_down way at Absent (fresh p) b) (forward_fresh way at ps) (down_keeps at Absent (fresh p) b) (fresh_keeps at ps)

  late_keeps : (at : CuUpScope) (es : List (ℕ × List ℕ)) (b : CuUpBearer) → Has b.receiver (forward_late way at es b)
  late_keeps at [] b = refl
  late_keeps at (e ∷ es) b =
      keeps_then b.receiver (forwarded_up way at (Own e.0) (numbered at.sn e.0 e.1) b) (forward_late way at es) (up_keeps at (Own e.0) (numbered at.sn e.0 e.1) b)
      (late_keeps at es)

  pub frozen_keeps : (at : CuUpScope) (peer : NodeId) (down up : ℕ) (b : CuUpBearer) → Has b.receiver (frozen_to way at peer down up b)
  unfolding frozen_to
  frozen_keeps at peer down up b =
      let on : CuUpBearer = record b { hop = Some (record { peer = peer; down = down; up = up; up_ended = false }); loss_while_frozen = false; taken_while_frozen = [] } in
      keeps_then b.receiver (forward_numbered way at b.sender.unconfirmed on then (λ c. forward_fresh way at c.waiting c)) (λ c. forward_late way at c.receiver.stored c)
      (keeps_then b.receiver (forward_numbered way at b.sender.unconfirmed on) (λ c. forward_fresh way at c.waiting c)
      (numbered_keeps at b.sender.unconfirmed on) (λ c. fresh_keeps at c.waiting c))
      (λ c. late_keeps at c.receiver.stored c)

  -- what is stored stays, where nothing is: an SN status
  pub status_none : (at : CuUpScope) (s : SnStatus) (b : CuUpBearer) → b.receiver.stored ≡ [] → HoldsAfter (λ (c : CuUpBearer). c.receiver.stored ≡ []) (with_status way at s b)
  unfolding with_status
  status_none at s b none =
      let on : CuUpBearer = record b { dl_next = s.dl_next; sender = record b.sender { next = s.dl_next }; receiver = record b.receiver { deliv = s.ul_first } } in
      holds_if (λ (c : CuUpBearer). c.receiver.stored ≡ []) at.flags.arrived (deliver_stored way at on then begin_downlink way at s.ul_first (bits_in s.ul_received)) (nothing on)
      (holds_then (λ (c : CuUpBearer). c.receiver ≡ (handed_up on.receiver).after) (λ (c : CuUpBearer). c.receiver.stored ≡ []) (deliver_stored way at on)
      (begin_downlink way at s.ul_first (bits_in s.ul_received)) (handed at on)
      (λ c is. stored_of c (begin_downlink way at s.ul_first (bits_in s.ul_received) c) (begin_keeps at s.ul_first (bits_in s.ul_received) c)
      (ap (λ (r : Store). r.stored) is ∙ none_after on.receiver none))) none
    where
      stored_of : (c : CuUpBearer) (a : Answer M P CuUpBearer) → Has c.receiver a → c.receiver.stored ≡ [] → HoldsAfter (λ (d : CuUpBearer). d.receiver.stored ≡ []) a
      stored_of c (gives os d) p q = ap (λ (r : Store). r.stored) p ∙ q
      stored_of c (spent k) p q = tt

  pub resumed_hands : (at : CuUpScope) (b : CuUpBearer) → Has (handed_up b.receiver).after (resumed way at b)
  unfolding resumed
  resumed_hands at b =
      let on : CuUpBearer = record (thawed b) { restart = b.restart || b.loss_while_frozen } in
      keeps_then (handed_up b.receiver).after (sent_again way at (owed b) on then deliver_stored way at) (number_waiting way at)
      (has_then b.receiver (handed_up b.receiver).after (sent_again way at (owed b) on) (deliver_stored way at) (sent_again_keeps at (owed b) on)
      (λ c is. moved (handed_up c.receiver).after (handed_up b.receiver).after (deliver_stored way at c) (ap (λ (r : Store). (handed_up r).after) is) (handed at c)))
      (number_waiting_keeps at)

  -- ---- items

  -- the receiver may store what it stores then
  abbrev Stores : CuUpScope → Answer M P CuUpBearer → Type 0
  Stores at a = HoldsAfter (λ (c : CuUpBearer). CuUpStores at.flags c.receiver) a

  pub as_stored : (flags : CuUpFlags) (r : Store) (a : Answer M P CuUpBearer) → CuUpStores flags r → Has r a → HoldsAfter (λ (c : CuUpBearer). CuUpStores flags c.receiver) a
  as_stored flags r (gives os c) p has = subst (CuUpStores flags) (sym has) p
  as_stored flags r (spent k) p has = tt

  took_fresh_keeps : (at : CuUpScope) (p : List ℕ) (b : CuUpBearer) → Has b.receiver (took_fresh way at p b)
  unfolding took_fresh
  took_fresh_keeps at p b =
      let on : CuUpBearer = record b { waiting = b.waiting ++ p ∷ [] } in
      has_if b.receiver at.flags.released (forwarded_down way at Absent (fresh p) b) _ (down_keeps at Absent (fresh p) b)
      (has_if b.receiver at.flags.frozen (forwarded_down way at Absent (fresh p) on) (number_waiting way at on) (down_keeps at Absent (fresh p) on) (number_waiting_keeps at on))

  n3_keeps : (at : CuUpScope) (b : CuUpBearer) (h : Option SourceHop) → Has b.receiver (n3_ended way at b h)
  n3_keeps at b None = refl
  n3_keeps at b (Some h) = keeps_then b.receiver (forwarded_down way at Absent end_marker b) (λ c. closed_n3 way c c.n3) (down_keeps at Absent end_marker b) (λ c. by c c.n3)
    where
      by : (c : CuUpBearer) (t : Option ℕ) → Has c.receiver (closed_n3 way c t)
      by c None = refl
      by c (Some t) = refl

  took_numbered_keeps : (at : CuUpScope) (count : Option ℕ) (p : List ℕ) (b : CuUpBearer) → Has b.receiver (took_numbered way at count p b)
  unfolding took_numbered
  took_numbered_keeps at None p b = refl
  took_numbered_keeps at (Some count) p b =
      let on : CuUpBearer = record b { sender = restored b.sender count p } in
      has_if b.receiver at.flags.released (forwarded_down way at Same (numbered at.sn count p) b) _ (down_keeps at Same (numbered at.sn count p) b)
      (has_if b.receiver (may_restore at.sn at.quota b.sender count) (restored_at way at count p b) _
      (has_if b.receiver at.flags.frozen _ (sent way at count p Same on)
      (down_keeps at Same (numbered at.sn count p) (record on { taken_while_frozen = b.taken_while_frozen ++ count ∷ [] }))
      (sent_keeps at count p Same on)) refl)

  -- a new packet is stored; where the context isn't frozen, what is next is handed up
  stored_stores : (at : CuUpScope) (count : ℕ) (p : List ℕ) (b : CuUpBearer) → CuUpStores at.flags b.receiver → at.flags.may_serve && at.flags.arrived ≡ true
      → is_duplicate b.receiver count ≡ false → Stores at (stored_at way at count p b)
  unfolding stored
  stored_stores at count p b store there new = by at.flags.frozen refl
    where
      on : CuUpBearer
      on = record b { receiver = stored b.receiver count p }

      put_there : CuUpStores (record at.flags { frozen = true }) (stored b.receiver count p)
      put_there = record {
        from = put_ascends b.receiver.deliv b.receiver.stored count p store.from (above_or_duplicate b.receiver count new);
        above = λ thawed. absurd cc;
        none = λ without. absurd cc;
      }

      by : (t : Bool) → at.flags.frozen ≡ t
          → Stores at (if t then forwarded_up way at Same (numbered at.sn count p) (record b { receiver = stored b.receiver count p })
          else deliver_stored way at (record b { receiver = stored b.receiver count p }))
      by true frozen =
          as_stored at.flags (stored b.receiver count p) (forwarded_up way at Same (numbered at.sn count p) on)
          (when_frozen (record at.flags { frozen = true }) at.flags (stored b.receiver count p) put_there frozen (λ e. e)) (up_keeps at Same (numbered at.sn count p) on)
      by false thawed =
          as_stored at.flags (handed_up (stored b.receiver count p)).after (deliver_stored way at on)
          (when_delivered (record at.flags { frozen = true }) at.flags (stored b.receiver count p) put_there (λ e. e)) (handed at on)

  took_uplink_stores : (at : CuUpScope) (count : Option ℕ) (p : List ℕ) (b : CuUpBearer) → CuUpStores at.flags b.receiver → at.flags.may_serve && at.flags.arrived ≡ true
      → Stores at (took_uplink way at count p b)
  unfolding took_uplink
  took_uplink_stores at None p b store there = store
  took_uplink_stores at (Some count) p b store there =
      holds_if (λ (c : CuUpBearer). CuUpStores at.flags c.receiver) at.flags.released (passed_up way at count p b) _
      (holds_if (λ (c : CuUpBearer). CuUpStores at.flags c.receiver) (nat_lt count b.receiver.deliv) _ (forwarded_up way at Same (numbered at.sn count p) b) store
      (as_stored at.flags b.receiver (forwarded_up way at Same (numbered at.sn count p) b) store (up_keeps at Same (numbered at.sn count p) b)))
      (by (is_duplicate b.receiver count) refl)
    where
      by : (t : Bool) → is_duplicate b.receiver count ≡ t → Stores at (if t then drops Duplicate b else stored_at way at count p b)
      by true old = store
      by false new = stored_stores at count p b store there new

  took_content_stores : (at : CuUpScope) (content : Content) (b : CuUpBearer) → CuUpStores at.flags b.receiver → at.flags.may_serve && at.flags.arrived ≡ true
      → Stores at (took_content way at content b)
  unfolding took_report
  took_content_stores at (packet_content count p) b store there = took_uplink_stores at count p b store there
  took_content_stores at (report_content fmc bits) b store there =
      as_stored at.flags b.receiver _ store (number_waiting_keeps at (record b { sender = confirmed_by b.sender fmc bits }))

  lost_keeps : (at : CuUpScope) (ranges : List (ℕ × ℕ)) (b : CuUpBearer) → Has b.receiver (lost_frames way at ranges b)
  lost_keeps at [] b = refl
  lost_keeps at (range ∷ ranges) b =
      has_if b.receiver at.flags.frozen (nothing (record b { restart = true; loss_while_frozen = true })) (sent_again way at b.sender.unconfirmed (record b { restart = true })) refl
      (sent_again_keeps at b.sender.unconfirmed (record b { restart = true }))

  lost_confirmed : (at : CuUpScope) (ranges : List (ℕ × ℕ)) (delivered : Option ℕ) (b : CuUpBearer) → Has b.receiver (lost_frames way at ranges (confirmed_if way delivered b))
  lost_confirmed at ranges None b = lost_keeps at ranges b
  lost_confirmed at ranges (Some count) b = lost_keeps at ranges (record b { sender = confirmed_to b.sender count })

  hop_keeps : (at : CuUpScope) (h : Option SourceHop) (b : CuUpBearer) → Has b.receiver (up_hop_ends_if way at h b)
  hop_keeps at None b = refl
  hop_keeps at (Some h) b =
      has_if b.receiver (not h.up_ended && no_uplink b.uplinks && (not at.flags.target || b.up_ended))
      (forwarded_up way at Absent end_marker (record b { hop = Some (record h { up_ended = true }) })) (nothing b)
      (up_keeps at Absent end_marker (record b { hop = Some (record h { up_ended = true }) })) refl

  uplink_keeps : (at : CuUpScope) (teid : ℕ) (b : CuUpBearer) → Has b.receiver (uplink_ended way at teid b)
  unfolding uplink_ended
  uplink_keeps at teid b =
      let on : CuUpBearer = record b { uplinks = filter (λ t. not (t == teid)) b.uplinks } in
      keeps_then b.receiver (puts (closed teid) on) (λ c. up_hop_ends_if way at c.hop c) refl (λ c. hop_keeps at c.hop c)

  -- an item that isn't held finds the SN status and the terminal there
  there_if : (flags : CuUpFlags) (rest : List (Bool × HeldReason)) → first_held ((not flags.may_serve, NoStatus) ∷ (not flags.arrived, NotArrived) ∷ rest) ≡ None
      → flags.may_serve && flags.arrived ≡ true
  there_if flags rest h = by flags.may_serve flags.arrived h
    where
      by : (a b : Bool) → first_held ((not a, NoStatus) ∷ (not b, NotArrived) ∷ rest) ≡ None → a && b ≡ true
      by true true e = refl
      by true false e = absurd cc
      by false b e = absurd cc

  pub not_held_there : (at : CuUpScope) (b : CuUpBearer) (kind : TunnelKind) (item : Taken P) → held_reason at b kind item ≡ None → at.flags.may_serve && at.flags.arrived ≡ true
  unfolding held_reason
  not_held_there at b kind item h = there_if at.flags ((is_n3 kind && at.flags.target && not b.down_ended, Early) ∷ held_by_room at b kind item) h

  pub item_stores : (at : CuUpScope) (kind : TunnelKind) (teid : ℕ) (item : Taken P) (b : CuUpBearer) → CuUpStores at.flags b.receiver → at.flags.may_serve && at.flags.arrived ≡ true
      → Stores at (took way at kind teid item b)
  unfolding took took_delivery_status up_ended
  item_stores at n3 teid (fresh_item p) b store there = as_stored at.flags b.receiver _ store (took_fresh_keeps at p b)
  item_stores at n3 teid end_item b store there = as_stored at.flags b.receiver _ store (n3_keeps at b b.hop)
  item_stores at forwarding_down teid (fresh_item p) b store there = as_stored at.flags b.receiver _ store (took_fresh_keeps at p b)
  item_stores at forwarding_down teid (numbered_item count p) b store there = as_stored at.flags b.receiver _ store (took_numbered_keeps at count p b)
  item_stores at forwarding_down teid end_item b store there =
      as_stored at.flags b.receiver (down_ended way b) store
      (has_if b.receiver b.down_ended (drops Unexpected b) (nothing (record b { down_ended = true })) refl refl)
  item_stores at f1u_uplink teid (uplink_item content) b store there = took_content_stores at content b store there
  item_stores at f1u_uplink teid (status_item lost delivered) b store there =
      as_stored at.flags b.receiver _ store
      (keeps_then b.receiver (lost_frames way at lost (confirmed_if way delivered b)) (number_waiting way at) (lost_confirmed at lost delivered b) (number_waiting_keeps at))
  item_stores at f1u_uplink teid end_item b store there = as_stored at.flags b.receiver _ store (uplink_keeps at teid b)
  item_stores at forwarding_up teid (numbered_item count p) b store there = took_uplink_stores at count p b store there
  item_stores at forwarding_up teid end_item b store there =
      as_stored at.flags b.receiver _ store
      (has_if b.receiver b.up_ended (drops Unexpected b) (up_hop_ends_if way at b.hop (record b { up_ended = true })) refl (hop_keeps at b.hop (record b { up_ended = true })))
  item_stores at kind teid item b store there = store

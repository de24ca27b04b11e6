-- Items of the downlink leave the uplink alone, and so does a poll; and a context that is made.
use Rattle.std.proofs.Common.{◌≡◌, ℕ, ◌+◌, Bool, true, false, not, ◌||◌, nat_lt, List, [], ◌∷◌, ◌++◌, Option, Some, None, refl, sym, ap, subst, ◌∙◌}
use Rattle.std.specs.Prelude.{if◌then◌else◌}
use Rattle.gnb_types.specs.declared.names.UeId.{UeId}
use Rattle.gnb_types.specs.declared.names.BearerId.{BearerId}
use Rattle.gnb_types.specs.declared.names.SnBits.{SnBits}
use Rattle.gnb_types.specs.declared.outputs.Tag.{Tag}
use Rattle.gnb_types.specs.declared.outputs.Tag.TheVariants.{Absent, Own, Same}
use Rattle.gnb_types.specs.declared.reasons.DropReason.TheVariants.{Duplicate, Unexpected}
use Rattle.pdcp.specs.Near.{last_count}
use Rattle.pdcp_defs.specs.Senders.{numbered as with_next, has_room, may_restore, restored, confirmed_by}
use Rattle.unit_defs.specs.Ways.{packet_pdu, report_content, Load, fresh, numbered, end_marker, Taken, fresh_item, numbered_item, uplink_item, status_item, end_item, Way, Answer, gives, spent, with_outputs, ◌then◌, nothing, drops, frames_spent, counts_spent}
use Rattle.unit_defs.specs.CuUpRecords.{CuUpBearer, DownlinkTunnel, SourceHop, TunnelKind, n3, f1u_uplink, forwarding_down}
use Rattle.unit_defs.specs.CuUpBearers.{last_frame, has_downlink, framed_on, framed, sent, sent_again, number_each, number_waiting, put_down, forwarded_down}
use Rattle.unit_defs.specs.CuUpItems.{took_fresh, closed_n3, n3_ended, restored_at, took_numbered, took_report, confirmed_if, lost_frames, took_delivery_status, took}
use Rattle.bearer_defs.specs.uplink_defs.Models.{Item, Member, Model, new_member}
use Rattle.bearer_defs.specs.uplink_defs.Orders.{makes, after, run}
use Rattle.law_downlink_order.proofs.chain.Frames.{set_here}
use Rattle.proof_cu_up_orders.specs.uplink_rows.Shown.{items_of, delivered_in}
use Rattle.proof_cu_up_orders.proofs.uplink_rows.Rows.{items-append, delivered-append}
use Rattle.proof_cu_up_orders.specs.context_orders.Orders.{CuUpModel, kept_in, done, takes, polls}
use Rattle.proof_cu_up_orders.specs.orders.Up.{up_of, IsUp, Went, Shows, IsOfDownlink, new_model}
use Rattle.proof_cu_up_orders.proofs.orders.Items.{went_same}

module _ {M C P : Type 0} (way : Way M C P) (s : Model) (x : ℕ) (p : CuUpModel) (is : IsUp (s.members x) p) where
  abbrev b : CuUpBearer
  b = p.bearer

  -- nothing goes to the target's tunnel up, nor is handed up, and the uplink says the same of the bearer
  abbrev Leaves : Answer M P CuUpBearer → Type 0
  Leaves (gives os d) = (items_of os ≡ []) × (delivered_in os ≡ []) × (up_of d ≡ up_of b)
  Leaves (spent k) = Unit {0}

  abbrev Alike : CuUpBearer → Type 0
  Alike d = up_of d ≡ up_of b

  leaves_if : (t : Bool) (y z : Answer M P CuUpBearer) → Leaves y → Leaves z → Leaves (if t then y else z)
  leaves_if true y z p q = p
  leaves_if false y z p q = q

  leaves_then : (a : Answer M P CuUpBearer) (f : CuUpBearer → Answer M P CuUpBearer) → Leaves a → ((d : CuUpBearer) → Alike d → Leaves (f d)) → Leaves (a then f)
  leaves_then (spent k) f h q = tt
  leaves_then (gives os d) f h q = by (f d) (q d h.2)
    where
      by : (a : Answer M P CuUpBearer) → Leaves a → Leaves (with_outputs os a)
      by (spent k) g = tt
      by (gives more e) g = (
        items-append os more ∙ (λ i. h.0 i ++ g.0 i),
        delivered-append os more ∙ (λ i. h.1 i ++ g.1 i),
        g.2,
      )

  stays : (d : CuUpBearer) → Alike d → Leaves (nothing d)
  unfolding items_of delivered_in
  stays d same = (refl, refl, same)

  dropped_one : (d : CuUpBearer) → Alike d → Leaves (drops Duplicate d)
  unfolding items_of delivered_in
  dropped_one d same = (refl, refl, same)

  leaves_frame : (poll restart : Bool) (pdu : Option P) (tag : Tag) (d : CuUpBearer) → Alike d → Leaves (framed way p.at poll restart pdu tag d)
  unfolding framed items_of delivered_in
  leaves_frame poll restart pdu tag d same = by d.downlink
    where
      by : (o : Option DownlinkTunnel) → Leaves (framed_on way p.at d poll restart pdu tag o)
      by None = (refl, refl, same)
      by (Some l) = leaves_if (nat_lt last_frame l.next) (spent frames_spent) _ tt (refl, refl, same)

  leaves_sent : (count : ℕ) (packet : List ℕ) (tag : Tag) (d : CuUpBearer) → Alike d → Leaves (sent way p.at count packet tag d)
  unfolding sent
  leaves_sent count packet tag d same = leaves_frame false d.restart (Some (way.write p.at.sn (packet_pdu count packet))) tag d same

  leaves_again : (es : List (ℕ × List ℕ)) (d : CuUpBearer) → Alike d → Leaves (sent_again way p.at es d)
  unfolding sent_again
  leaves_again [] d same = stays d same
  leaves_again (e ∷ es) d same =
      leaves_then (sent way p.at e.0 e.1 (Own e.0) d) (sent_again way p.at es) (leaves_sent e.0 e.1 (Own e.0) d same) (leaves_again es)

  leaves_each : (ps : List (List ℕ)) (d : CuUpBearer) → Alike d → Leaves (number_each way p.at ps d)
  unfolding number_each
  leaves_each [] d same = stays d same
  leaves_each (q ∷ qs) d same =
      let on : CuUpBearer = record d { sender = with_next d.sender q; waiting = qs } in
      leaves_if (not (has_room p.at.sn p.at.quota d.sender)) (nothing d) _ (stays d same)
      (leaves_then (if nat_lt last_count d.sender.next then spent counts_spent else sent way p.at d.sender.next q (Own d.sender.next) on)
      (number_each way p.at qs)
      (leaves_if (nat_lt last_count d.sender.next) (spent counts_spent) (sent way p.at d.sender.next q (Own d.sender.next) on) tt
      (leaves_sent d.sender.next q (Own d.sender.next) on same)) (leaves_each qs))

  leaves_numbers : (d : CuUpBearer) → Alike d → Leaves (number_waiting way p.at d)
  unfolding number_waiting
  leaves_numbers d same =
      leaves_if (p.at.flags.frozen || p.at.flags.released || not (has_downlink d.downlink)) (nothing d) (number_each way p.at d.waiting d) (stays d same)
      (leaves_each d.waiting d same)

  leaves_down : (tag : Tag) (load : Load P) (d : CuUpBearer) → Alike d → Leaves (forwarded_down way p.at tag load d)
  unfolding forwarded_down items_of delivered_in
  leaves_down tag load d same = by d.hop
    where
      by : (h : Option SourceHop) → Leaves (put_down way p.at tag load d h)
      by None = (refl, refl, same)
      by (Some h) = (refl, refl, same)

  leaves_fresh : (packet : List ℕ) → Leaves (took_fresh way p.at packet b)
  unfolding took_fresh
  leaves_fresh packet =
      let on : CuUpBearer = record b { waiting = b.waiting ++ packet ∷ [] } in
      leaves_if p.at.flags.released (forwarded_down way p.at Absent (fresh packet) b) _ (leaves_down Absent (fresh packet) b refl)
      (leaves_if p.at.flags.frozen (forwarded_down way p.at Absent (fresh packet) on) (number_waiting way p.at on)
      (leaves_down Absent (fresh packet) on refl) (leaves_numbers on refl))

  leaves_n3 : (h : Option SourceHop) → Leaves (n3_ended way p.at b h)
  unfolding items_of delivered_in
  leaves_n3 None = (refl, refl, refl)
  leaves_n3 (Some h) =
      leaves_then (forwarded_down way p.at Absent end_marker b) (λ c. closed_n3 way c c.n3) (leaves_down Absent end_marker b refl) (λ d same. by d d.n3 same)
    where
      by : (d : CuUpBearer) (t : Option ℕ) → Alike d → Leaves (closed_n3 way d t)
      by d None same = (refl, refl, same)
      by d (Some t) same = (refl, refl, same)

  leaves_numbered : (count : Option ℕ) (packet : List ℕ) → Leaves (took_numbered way p.at count packet b)
  unfolding took_numbered
  leaves_numbered None packet = dropped_one b refl
  leaves_numbered (Some count) packet =
      let on : CuUpBearer = record b { sender = restored b.sender count packet } in
      leaves_if p.at.flags.released (forwarded_down way p.at Same (numbered p.at.sn count packet) b) _
      (leaves_down Same (numbered p.at.sn count packet) b refl)
      (leaves_if (may_restore p.at.sn p.at.quota b.sender count) (restored_at way p.at count packet b) (drops Duplicate b)
      (leaves_if p.at.flags.frozen _ (sent way p.at count packet Same on)
      (leaves_down Same (numbered p.at.sn count packet) (record on { taken_while_frozen = b.taken_while_frozen ++ count ∷ [] }) refl)
      (leaves_sent count packet Same on refl)) (dropped_one b refl))

  leaves_lost : (lost : List (ℕ × ℕ)) (d : CuUpBearer) → Alike d → Leaves (lost_frames way p.at lost d)
  leaves_lost [] d same = stays d same
  leaves_lost (range ∷ ranges) d same =
      leaves_if p.at.flags.frozen (nothing (record d { restart = true; loss_while_frozen = true }))
      (sent_again way p.at d.sender.unconfirmed (record d { restart = true })) (stays (record d { restart = true; loss_while_frozen = true }) same)
      (leaves_again d.sender.unconfirmed (record d { restart = true }) same)

  confirmed_same : (delivered : Option ℕ) → Alike (confirmed_if way delivered b)
  confirmed_same None = refl
  confirmed_same (Some count) = refl

  left : (a : Answer M P CuUpBearer) → Leaves a → Shows s s x (kept_in p a)
  left (spent k) h = tt
  left (gives os d) (h0, h1, h2) = record {
    member = s.members x;
    is = record { there = is.there; flags = is.flags; bearer = is.bearer ∙ sym h2 };
    went = subst (λ (zs : List Item). Went s s x (s.members x) zs (delivered_in os)) (sym h0)
        (subst (λ (es : List (ℕ × List ℕ)). Went s s x (s.members x) [] es) (sym h1) (went_same s x));
  }

  pub beside : (kind : TunnelKind) (teid : ℕ) (item : Taken P) → IsOfDownlink kind item → Shows s s x (done way (takes kind teid item) p)
  unfolding took took_report took_delivery_status items_of delivered_in
  beside n3 teid (fresh_item packet) fit = left (took_fresh way p.at packet b) (leaves_fresh packet)
  beside n3 teid end_item fit = left (n3_ended way p.at b b.hop) (leaves_n3 b.hop)
  beside forwarding_down teid (fresh_item packet) fit = left (took_fresh way p.at packet b) (leaves_fresh packet)
  beside forwarding_down teid (numbered_item count packet) fit = left (took_numbered way p.at count packet b) (leaves_numbered count packet)
  beside forwarding_down teid end_item fit =
      left (if b.down_ended then drops Unexpected b else nothing (record b { down_ended = true }))
      (leaves_if b.down_ended (drops Unexpected b) (nothing (record b { down_ended = true })) (refl, refl, refl) (refl, refl, refl))
  beside f1u_uplink teid (uplink_item (report_content fmc bits)) fit =
      left (number_waiting way p.at (record b { sender = confirmed_by b.sender fmc bits })) (leaves_numbers (record b { sender = confirmed_by b.sender fmc bits }) refl)
  beside f1u_uplink teid (status_item lost delivered) fit =
      left (lost_frames way p.at lost (confirmed_if way delivered b) then number_waiting way p.at)
      (leaves_then (lost_frames way p.at lost (confirmed_if way delivered b)) (number_waiting way p.at)
      (leaves_lost lost (confirmed_if way delivered b) (confirmed_same delivered)) leaves_numbers)
  beside kind teid item fit = absurd fit

  pub polled : Shows s s x (done way polls p)
  polled = left (framed way p.at true false None Absent b) (leaves_frame true false None Absent b refl)

pub made_up : (s : Model) (x : ℕ) (ue : UeId) (bearer : BearerId) (instance : ℕ) (sn : SnBits) (quota teid : ℕ)
    → IsUp ((run s (makes x teid ∷ [])).members x) (new_model ue bearer instance sn quota true teid)
unfolding run after
made_up s x ue bearer instance sn quota teid =
    let here = set_here s.members x (new_member true teid) in record {
      there = ap (λ (c : Member). c.is_there) here;
      flags = ap (λ (c : Member). c.flags) here;
      bearer = ap (λ (c : Member). up_of c.bearer) here;
    }

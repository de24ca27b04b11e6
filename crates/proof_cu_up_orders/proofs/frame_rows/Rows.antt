-- Each row of a bearer puts the frames of its sending, or none.
use Rattle.std.proofs.Common.{◌≡◌, ℕ, Bool, true, false, not, ◌||◌, List, [], ◌∷◌, ◌++◌, Option, Some, None, refl, sym, ap, subst, ◌∙◌, append_assoc}
use Rattle.std.specs.Prelude.{if◌then◌else◌}
use Rattle.std.proofs.lemmas.List.{append-nil}
use Rattle.gnb_types.specs.declared.names.NodeId.{NodeId}
use Rattle.gnb_types.specs.declared.keys.TunnelEnd.{TunnelEnd}
use Rattle.gnb_types.specs.declared.outputs.Tag.TheVariants.{Absent, Same as same_tag}
use Rattle.gnb_types.specs.declared.plans.SnStatus.{SnStatus}
use Rattle.gnb_types.specs.declared.reasons.DropReason.TheVariants.{Duplicate, Unexpected}
use Rattle.pdcp_defs.specs.Receivers.{deliver, received_bits}
use Rattle.pdcp_defs.specs.Senders.{may_restore, confirmed_by}
use Rattle.unit_defs.specs.Ways.{packet_pdu, packet_content, report_content, fresh, numbered, Output, Taken, fresh_item, numbered_item, uplink_item, status_item, end_item, Way, Answer, gives, spent, with_outputs, ◌then◌, nothing, drops}
use Rattle.unit_defs.specs.CuUpRecords.{CuUpScope, CuUpBearer, TunnelKind, n3, f1u_uplink, forwarding_down, forwarding_up}
use Rattle.unit_defs.specs.CuUpBearers.{has_downlink, bits_in, owed, thawed, forwarded_down, framed, sent, sent_again as row_sends, number_waiting, deliver_stored, begin_downlink, switched, with_status, resumed, delivered}
use Rattle.unit_defs.specs.CuUpItems.{took, took_fresh, took_numbered, took_report, took_delivery_status, lost_frames}
use Rattle.bearer_defs.specs.chain_defs.Orders.{known, waits, holds}
use Rattle.proof_cu_up_orders.specs.chain_rows.Shown.{numbered_packets}
use Rattle.proof_cu_up_orders.specs.context_orders.Orders.{CuUpModel, ContextStep, on_switch, on_freeze, on_status, on_resume, kept_in, done}
use Rattle.proof_cu_up_orders.specs.context_orders.Orders as ups
use Rattle.law_downlink_order.specs.path.Paths.{Sending, frame_on, packets_sent}
use Rattle.law_downlink_order.specs.path.Steps.{anew, sent_again, sent_anew}
use Rattle.proof_cu_up_orders.specs.handover_rows.Shown.{handed_up}
use Rattle.proof_cu_up_orders.specs.down_orders.Down.{confirmed_if, packets_if, serves_none}
use Rattle.proof_cu_up_orders.specs.frame_rows.Sent.{none_sent, and_then, sent_for_item, sent_by_switch, sent_by}
use Rattle.proof_cu_up_orders.specs.frame_rows.Shown.{frames_of, end_of, put_at, PutsSent}
use Rattle.proof_cu_up_orders.proofs.frame_rows.Sends.{packets_same, Keeps, packets_keep, again_keeps, put_nil, Puts, puts_exactly, puts_same, puts_then, puts_behind, puts_nothing, puts_frame, puts_packets, puts_lost, puts_waiting, puts_those, puts_first}
use Rattle.proof_cu_up_orders.proofs.frame_rows.Still.{Still, still_if, stays, duplicate, unexpected, still_down, adds_none, still_frozen, still_n3, still_packet, still_uplink_end, still_up_end}

-- one row, and then another, and then a third
then_assoc : {M P R S T : Type 0} (a : Answer M P R) (f : R → Answer M P S) (g : S → Answer M P T) → ((a then f) then g) ≡ (a then (λ c. f c then g))
then_assoc (spent k) f g = refl
then_assoc {M} {P} {R} {S} {T} (gives os b) f g = by (f b)
  where
    last : (more : List (Output M P)) (y : Answer M P T) → with_outputs (os ++ more) y ≡ with_outputs os (with_outputs more y)
    last more (spent k) = refl
    last more (gives xs d) = ap (λ (zs : List (Output M P)). gives zs d) (append_assoc os more xs)

    by : (y : Answer M P S) → (with_outputs os y then g) ≡ with_outputs os (y then g)
    by (spent k) = refl
    by (gives more c) = last more (g c)

none_served : (f r h : Bool) → r ≡ true → f || r || not h ≡ true
none_served true r h e = refl
none_served false true h e = refl
none_served false false h e = absurd cc

module _ {M C P : Type 0} (way : Way M C P) (at : CuUpScope) where
  abbrev Row : Type 0
  Row = Answer M P CuUpBearer

  -- where no frame is put
  still : (b c : CuUpBearer) (a : Row) → b.downlink ≡ c.downlink → b.restart ≡ c.restart → Still way at b.downlink b.restart a → Puts way at (end_of c.downlink) (none_sent c) a
  still b c (gives os d) down mark h =
      (h.0 ∙ put_nil way at.sn (end_of c.downlink), h.1.0 ∙ down, h.1.1 ∙ mark, ap end_of (h.1.0 ∙ down))
  still b c (spent k) down mark h = tt

  module _ (b : CuUpBearer) where
    abbrev e : Option TunnelEnd
    e = end_of b.downlink

    -- ---- packets

    fresh_one : (packet : List ℕ) → Puts way at e (packets_sent (packets_if at (waits b packet)) b) (took_fresh way at packet b)
    unfolding took_fresh packets_sent
    fresh_one packet = by at.flags.released refl at.flags.frozen refl
      where
        on : CuUpBearer
        on = waits b packet

        nothing_more : serves_none at on ≡ true → (a : Row) → Still way at b.downlink b.restart a
            → Puts way at e (packets_sent (packets_if at on) b) a
        nothing_more none a h =
            subst (λ (es : List (ℕ × List ℕ)). Puts way at e (packets_sent es b) a)
            (sym (ap (λ (t : Bool). if t then [] else numbered_packets at.sn at.quota on.waiting on.sender) none)) (still b b a refl refl h)

        frozen_none : (f r h : Bool) → f ≡ true → f || r || not h ≡ true
        frozen_none true r h k = refl
        frozen_none false r h k = absurd cc

        by : (r : Bool) → at.flags.released ≡ r → (f : Bool) → at.flags.frozen ≡ f
            → Puts way at e (packets_sent (packets_if at on) b)
            (if r then forwarded_down way at Absent (fresh packet) b
            else (if f then forwarded_down way at Absent (fresh packet) on else number_waiting way at on))
        by true r f is = nothing_more (none_served at.flags.frozen at.flags.released (has_downlink on.downlink) r)
            (forwarded_down way at Absent (fresh packet) b)
            (still_down way at b.downlink b.restart Absent (fresh packet) b (λ to teid. refl) (refl, refl))
        by false r true is = nothing_more (frozen_none at.flags.frozen at.flags.released (has_downlink on.downlink) is)
            (forwarded_down way at Absent (fresh packet) on)
            (still_down way at b.downlink b.restart Absent (fresh packet) on (λ to teid. refl) (refl, refl))
        by false r false is =
            puts_same way at e (packets_sent (packets_if at on) on) (packets_sent (packets_if at on) b) (number_waiting way at on)
            (packets_same (packets_if at on) on b refl refl) (puts_waiting way at e on refl)

    one_packet : (count : ℕ) (packet : List ℕ) → Puts way at e (packets_sent ((count, packet) ∷ []) b) (sent way at count packet same_tag (holds b count packet))
    unfolding sent packets_sent
    one_packet count packet =
        let on : CuUpBearer = holds b count packet in
        let one = frame_on false on.restart (Some (packet_pdu count packet)) on on.downlink in
        let row = framed way at false on.restart (Some (way.write at.sn (packet_pdu count packet))) same_tag on in
        puts_same way at e (packets_sent ((count, packet) ∷ []) on) (packets_sent ((count, packet) ∷ []) b) row
        (packets_same ((count, packet) ∷ []) on b refl refl)
        (puts_same way at e one (packets_sent ((count, packet) ∷ []) on) row
        (record { frames = sym (append-nil one.frames); downlink = refl; restart = refl })
        (puts_exactly way at e one row (puts_frame way at e false on.restart (Some (packet_pdu count packet)) same_tag on refl)))

    dropped : Puts way at e (none_sent b) (drops Duplicate b)
    dropped = still b b (drops Duplicate b) refl refl (duplicate way at b.downlink b.restart b (refl, refl))

    numbered_one : (count : ℕ) (packet : List ℕ)
        → Puts way at e (if at.flags.released then none_sent b else
        (if may_restore at.sn at.quota b.sender count
        then (if at.flags.frozen then none_sent b else packets_sent ((count, packet) ∷ []) b) else none_sent b)) (took_numbered way at (Some count) packet b)
    unfolding took_numbered
    numbered_one count packet = by at.flags.released (may_restore at.sn at.quota b.sender count) at.flags.frozen
      where
        on : CuUpBearer
        on = holds b count packet

        held : CuUpBearer
        held = record on { taken_while_frozen = b.taken_while_frozen ++ count ∷ [] }

        by : (r k f : Bool) → Puts way at e (if r then none_sent b else
            (if k then (if f then none_sent b else packets_sent ((count, packet) ∷ []) b) else none_sent b))
            (if r then forwarded_down way at same_tag (numbered at.sn count packet) b else
            (if k then (if f then forwarded_down way at same_tag (numbered at.sn count packet) held else sent way at count packet same_tag on) else drops Duplicate b))
        by true k f = still b b (forwarded_down way at same_tag (numbered at.sn count packet) b) refl refl
            (still_down way at b.downlink b.restart same_tag (numbered at.sn count packet) b (λ to teid. refl) (refl, refl))
        by false true true = still b b (forwarded_down way at same_tag (numbered at.sn count packet) held) refl refl
            (still_down way at b.downlink b.restart same_tag (numbered at.sn count packet) held (λ to teid. refl) (refl, refl))
        by false true false = one_packet count packet
        by false false f = dropped

    -- ---- what confirms

    report_one : (fmc : ℕ) (bits : List Bool)
        → Puts way at e (packets_sent (packets_if at (record b { sender = confirmed_by b.sender fmc bits })) b) (took_report way at fmc bits b)
    unfolding took_report
    report_one fmc bits =
        let c : CuUpBearer = record b { sender = confirmed_by b.sender fmc bits } in
        puts_same way at e (packets_sent (packets_if at c) c) (packets_sent (packets_if at c) b) (number_waiting way at c)
        (packets_same (packets_if at c) c b refl refl) (puts_waiting way at e c refl)

    status_then : (lost : List (ℕ × ℕ)) (c : CuUpBearer) → end_of c.downlink ≡ e
        → Puts way at e (and_then (sent_again at.flags.frozen lost c) (λ d. packets_sent (packets_if at c) d)) (lost_frames way at lost c then number_waiting way at)
    status_then lost c there =
        puts_then way at e (sent_again at.flags.frozen lost c) (lost_frames way at lost c) (λ d. packets_sent (packets_if at c) d) (λ d. number_waiting way at d)
        (puts_lost way at e lost c there)
        (λ k. puts_those way at e c (sent_again at.flags.frozen lost c).bearer (again_keeps at.flags.frozen lost c) there)

    status_one : (lost : List (ℕ × ℕ)) (delivered : Option ℕ)
        → Puts way at e (and_then (sent_again at.flags.frozen lost (confirmed_if delivered b)) (λ d. packets_sent (packets_if at (confirmed_if delivered b)) d))
        (took_delivery_status way at lost delivered b)
    unfolding took_delivery_status
    status_one lost None = status_then lost b refl
    status_one lost (Some count) = status_then lost (confirmed_if (Some count) b) refl

    -- ---- control

    begins : (fmc : ℕ) (bits : List Bool) (c : CuUpBearer) → end_of c.downlink ≡ e
        → Puts way at e (and_then (sent_anew fmc bits (handed_up c)) (λ d. packets_sent (packets_if at (handed_up c)) d))
        (deliver_stored way at c then begin_downlink way at fmc bits)
    unfolding deliver_stored
    begins fmc bits c there =
        puts_behind way at e (and_then (sent_anew fmc bits (handed_up c)) (λ d. packets_sent (packets_if at (handed_up c)) d)) (deliver c.receiver).packets
        (begin_downlink way at fmc bits (handed_up c)) (puts_first way at e fmc bits (handed_up c) there)

    status_known : (s : SnStatus)
        → Puts way at e (if at.flags.arrived
        then and_then (sent_anew s.ul_first (bits_in s.ul_received) (handed_up (known b s))) (λ d. packets_sent (packets_if at (handed_up (known b s))) d)
        else none_sent b) (with_status way at s b)
    unfolding with_status
    status_known s = by at.flags.arrived
      where
        by : (t : Bool) → Puts way at e (if t
            then and_then (sent_anew s.ul_first (bits_in s.ul_received) (handed_up (known b s))) (λ d. packets_sent (packets_if at (handed_up (known b s))) d)
            else none_sent b)
            (if t then deliver_stored way at (known b s) then begin_downlink way at s.ul_first (bits_in s.ul_received) else nothing (known b s))
        by true = begins s.ul_first (bits_in s.ul_received) (known b s) refl
        by false = still b b (nothing (known b s)) refl refl (stays way at b.downlink b.restart (known b s) (refl, refl))

    resumed_one : let c : CuUpBearer = record (thawed b) { restart = b.restart || b.loss_while_frozen } in
        Puts way at e (and_then (packets_sent (owed b) c) (λ d. packets_sent (packets_if at c) d)) (resumed way at b)
    unfolding resumed deliver_stored
    resumed_one =
        let c : CuUpBearer = record (thawed b) { restart = b.restart || b.loss_while_frozen } in
        subst (λ (a : Row). Puts way at e (and_then (packets_sent (owed b) c) (λ d. packets_sent (packets_if at c) d)) a)
        (sym (then_assoc (row_sends way at (owed b) c) (λ d. deliver_stored way at d) (λ d. number_waiting way at d)))
        (puts_then way at e (packets_sent (owed b) c) (row_sends way at (owed b) c) (λ d. packets_sent (packets_if at c) d)
        (λ d. deliver_stored way at d then number_waiting way at) (puts_packets way at e (owed b) c refl)
        (λ k. last c (packets_sent (owed b) c).bearer (packets_keep (owed b) c) refl))
      where
        last : (c d : CuUpBearer) → Keeps c d → end_of c.downlink ≡ e
            → Puts way at e (packets_sent (packets_if at c) d) (deliver_stored way at d then number_waiting way at)
        last c d k there =
            let up : CuUpBearer = handed_up d in
            puts_behind way at e (packets_sent (packets_if at c) d) (deliver d.receiver).packets (number_waiting way at up)
            (puts_same way at e (packets_sent (packets_if at c) up) (packets_sent (packets_if at c) d) (number_waiting way at up)
            (packets_same (packets_if at c) up d refl refl)
            (puts_those way at e c up (record { sender = k.sender; waiting = k.waiting; there = k.there; end = k.end }) there))

  switched_one : (b : CuUpBearer) (du : NodeId) (teid : ℕ)
      → let c = handed_up (anew b (record { du = du; teid = teid; next = 0 })) in
      Puts way at (Some (record { node = du; teid = teid })) (if at.flags.may_serve
      then and_then (sent_anew c.receiver.deliv (received_bits c.receiver) c) (λ d. packets_sent (packets_if at c) d) else none_sent c)
      (switched way at du teid b)
  unfolding switched deliver_stored
  switched_one b du teid = by at.flags.may_serve
    where
      on : CuUpBearer
      on = anew b (record { du = du; teid = teid; next = 0 })

      c : CuUpBearer
      c = handed_up on

      all : Sending
      all = and_then (sent_anew c.receiver.deliv (received_bits c.receiver) c) (λ d. packets_sent (packets_if at c) d)

      by : (t : Bool) → Puts way at (Some (record { node = du; teid = teid })) (if t then all else none_sent c)
          (with_outputs (delivered way at (deliver on.receiver).packets)
          (if t then begin_downlink way at c.receiver.deliv (received_bits c.receiver) c else nothing c))
      by true = puts_behind way at (Some (record { node = du; teid = teid })) all (deliver on.receiver).packets
          (begin_downlink way at c.receiver.deliv (received_bits c.receiver) c)
          (puts_first way at (Some (record { node = du; teid = teid })) c.receiver.deliv (received_bits c.receiver) c refl)
      by false = puts_behind way at (Some (record { node = du; teid = teid })) (none_sent c) (deliver on.receiver).packets (nothing c)
          (puts_nothing way at (Some (record { node = du; teid = teid })) c refl)

-- ---- an order

module _ {M C P : Type 0} (way : Way M C P) (p : CuUpModel) where
  abbrev b : CuUpBearer
  b = p.bearer

  in_model : (q : CuUpModel) (end : Option TunnelEnd) (s : Sending) (a : Answer M P CuUpBearer) → q.at.sn ≡ p.at.sn → Puts way q.at end s a
      → PutsSent way p.at.sn s (kept_in q a)
  in_model q end s (spent k) same h = tt
  in_model q end s (gives os d) same h =
      (h.0 ∙ ap (λ n. put_at way n end s.frames) same ∙ ap (λ o. put_at way p.at.sn o s.frames) (sym h.3), h.1, h.2)

  item_puts : (kind : TunnelKind) (teid : ℕ) (item : Taken P) → Puts way p.at (end_of b.downlink) (sent_for_item p kind item) (took way p.at kind teid item b)
  unfolding took took_numbered took_report
  item_puts n3 teid (fresh_item packet) = fresh_one way p.at b packet
  item_puts n3 teid end_item = still way p.at b b _ refl refl (still_n3 way p.at b.downlink b.restart b (refl, refl) b.hop)
  item_puts forwarding_down teid (fresh_item packet) = fresh_one way p.at b packet
  item_puts forwarding_down teid (numbered_item None packet) = dropped way p.at b
  item_puts forwarding_down teid (numbered_item (Some count) packet) = numbered_one way p.at b count packet
  item_puts forwarding_down teid end_item =
      still way p.at b b _ refl refl (still_if way p.at b.downlink b.restart b.down_ended (drops Unexpected b) (nothing (record b { down_ended = true }))
      (unexpected way p.at b.downlink b.restart b (refl, refl)) (stays way p.at b.downlink b.restart (record b { down_ended = true }) (refl, refl)))
  item_puts f1u_uplink teid (uplink_item (packet_content count packet)) =
      still way p.at b b _ refl refl (still_packet way p.at b.downlink b.restart b (refl, refl) count packet)
  item_puts f1u_uplink teid (uplink_item (report_content fmc bits)) = report_one way p.at b fmc bits
  item_puts f1u_uplink teid (status_item lost delivered) = status_one way p.at b lost delivered
  item_puts f1u_uplink teid end_item = still way p.at b b _ refl refl (still_uplink_end way p.at b.downlink b.restart b (refl, refl) teid)
  item_puts forwarding_up teid (numbered_item count packet) =
      still way p.at b b _ refl refl (still_packet way p.at b.downlink b.restart b (refl, refl) count packet)
  item_puts forwarding_up teid end_item = still way p.at b b _ refl refl (still_up_end way p.at b.downlink b.restart b (refl, refl))
  item_puts kind teid item = still way p.at b b (drops Unexpected b) refl refl (unexpected way p.at b.downlink b.restart b (refl, refl))

  pub order_puts : (order : ContextStep P) → PutsSent way p.at.sn (sent_by p order) (done way order p)
  unfolding frames_of
  order_puts (ups.makes instance sn quota target teid) = (put_nil way p.at.sn (end_of b.downlink), refl, refl)
  order_puts (ups.adds teid) = in_model p (end_of b.downlink) (none_sent b) _ refl
      (still way p.at b b _ refl refl (adds_none way p.at b.downlink b.restart teid b (refl, refl)))
  order_puts (ups.switches du teid) = in_model (on_switch p) (Some (record { node = du; teid = teid })) (sent_by_switch p du teid) _ refl
      (switched_one way (on_switch p).at b du teid)
  order_puts (ups.freezes peer down up) = in_model (on_freeze p) (end_of b.downlink) (none_sent b) _ refl
      (still way (on_freeze p).at b b _ refl refl (still_frozen way (on_freeze p).at b.downlink b.restart peer down up b (refl, refl)))
  order_puts (ups.knows status) = in_model (on_status p) (end_of b.downlink) (sent_by {P = P} p (ups.knows status)) _ refl (status_known way (on_status p).at b status)
  order_puts ups.resumes = in_model (on_resume p) (end_of b.downlink) (sent_by {P = P} p ups.resumes) _ refl (resumed_one way (on_resume p).at b)
  order_puts ups.releases = (put_nil way p.at.sn (end_of b.downlink), refl, refl)
  order_puts ups.closes = refl
  order_puts (ups.takes kind teid item) = in_model p (end_of b.downlink) (sent_for_item p kind item) _ refl (item_puts kind teid item)
  order_puts ups.polls = in_model p (end_of b.downlink) (sent_by {P = P} p ups.polls) _ refl
      (puts_exactly way p.at (end_of b.downlink) (sent_by {P = P} p ups.polls) _ (puts_frame way p.at (end_of b.downlink) true false None Absent b refl))

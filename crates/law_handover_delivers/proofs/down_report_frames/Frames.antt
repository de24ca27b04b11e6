-- The frames of each sending report what its order does.
use Rattle.std.proofs.Common.{◌≡◌, ℕ, Bool, true, false, ◌||◌, List, [], ◌∷◌, Option, Some, None, refl}
use Rattle.std.specs.Prelude.{if◌then◌else◌}
use Rattle.intervals.proofs.Intervals.{all_append}
use Rattle.gnb_types.specs.declared.names.NodeId.{NodeId}
use Rattle.pdcp_defs.specs.Senders.{confirmed_by, may_restore}
use Rattle.pdcp_defs.specs.Receivers.{received_bits}
use Rattle.unit_defs.specs.Ways.{Pdu, packet_pdu, report_pdu, packet_content, report_content, Taken, fresh_item, numbered_item, uplink_item, status_item}
use Rattle.unit_defs.specs.CuUpRecords.{DownlinkTunnel, CuUpBearer, TunnelKind, n3, f1u_uplink, forwarding_down}
use Rattle.unit_defs.specs.CuUpBearers.{bits_in, owed, thawed}
use Rattle.bearer_defs.specs.chain_defs.Orders.{known, waits}
use Rattle.proof_cu_up_orders.specs.context_orders.Orders.{CuUpModel, ContextStep, makes, adds, switches, freezes, knows, resumes, releases, closes, takes, polls, on_switch, on_status, on_resume}
use Rattle.proof_cu_up_orders.specs.down_orders.Down.{confirmed_if, packets_if}
use Rattle.law_downlink_order.specs.path.Paths.{Frame, Sending, frame_on, packets_sent}
use Rattle.law_downlink_order.specs.path.Steps.{sent_again, sent_anew}
use Rattle.proof_cu_up_orders.specs.handover_rows.Shown.{handed_up}
use Rattle.proof_cu_up_orders.specs.frame_rows.Sent.{none_sent, and_then, sent_for_item, switched_to, sent_by_switch, sent_by}
use Rattle.law_handover_delivers.specs.down_reports.Reports.{ReportIsTrue, PayloadIsTrue}
use Rattle.law_handover_delivers.specs.down_report_frames.Sent.{FramesAreTrue, OrderIsTrue}

module _ (reached : ℕ) where
  abbrev AreTrue : Sending → Type 0
  AreTrue s = FramesAreTrue reached s.frames

  frame_true : (poll restart : Bool) (pdu : Option Pdu) (b : CuUpBearer) (o : Option DownlinkTunnel) → PayloadIsTrue reached pdu
      → AreTrue (frame_on poll restart pdu b o)
  frame_true poll restart pdu b None told = tt
  frame_true poll restart pdu b (Some d) told = (told, tt)

  packets_true : (es : List (ℕ × List ℕ)) (b : CuUpBearer) → AreTrue (packets_sent es b)
  unfolding packets_sent
  packets_true [] b = tt
  packets_true (e ∷ es) b =
      let one : Sending = frame_on false b.restart (Some (packet_pdu e.0 e.1)) b b.downlink in
      all_append (λ (f : Frame). PayloadIsTrue reached f.pdu) one.frames (packets_sent es one.bearer).frames
      (frame_true false b.restart (Some (packet_pdu e.0 e.1)) b b.downlink tt) (packets_true es one.bearer)

  again_true : (f : Bool) (lost : List (ℕ × ℕ)) (b : CuUpBearer) → AreTrue (sent_again f lost b)
  again_true true [] b = tt
  again_true false [] b = tt
  again_true true (range ∷ ranges) b = tt
  again_true false (range ∷ ranges) b = packets_true b.sender.unconfirmed (record b { restart = true })

  anew_true : (fmc : ℕ) (bits : List Bool) (b : CuUpBearer) → ReportIsTrue reached fmc bits → AreTrue (sent_anew fmc bits b)
  anew_true fmc bits b told =
      let one : Sending = frame_on false false (Some (report_pdu fmc bits)) b b.downlink in
      all_append (λ (f : Frame). PayloadIsTrue reached f.pdu) one.frames (packets_sent one.bearer.sender.unconfirmed one.bearer).frames
      (frame_true false false (Some (report_pdu fmc bits)) b b.downlink told) (packets_true one.bearer.sender.unconfirmed one.bearer)

  both_true : (one : Sending) (more : CuUpBearer → Sending) → AreTrue one → ((b : CuUpBearer) → AreTrue (more b)) → AreTrue (and_then one more)
  both_true one more first others =
      all_append (λ (f : Frame). PayloadIsTrue reached f.pdu) one.frames (more one.bearer).frames first (others one.bearer)

  module _ (p : CuUpModel) where
    numbered_true : (count : ℕ) (packet : List ℕ) → AreTrue (sent_for_item {P = Pdu} p forwarding_down (numbered_item (Some count) packet))
    numbered_true count packet = by p.at.flags.released (may_restore p.at.sn p.at.quota p.bearer.sender count) p.at.flags.frozen
      where
        by : (r k f : Bool) → AreTrue (if r then none_sent p.bearer else
            (if k then (if f then none_sent p.bearer else packets_sent ((count, packet) ∷ []) p.bearer) else none_sent p.bearer))
        by true k f = tt
        by false true true = tt
        by false true false = packets_true ((count, packet) ∷ []) p.bearer
        by false false f = tt

    status_true : (lost : List (ℕ × ℕ)) (c : CuUpBearer) → AreTrue (and_then (sent_again p.at.flags.frozen lost c) (λ b. packets_sent (packets_if p.at c) b))
    status_true lost c =
        both_true (sent_again p.at.flags.frozen lost c) (λ b. packets_sent (packets_if p.at c) b) (again_true p.at.flags.frozen lost c)
        (λ b. packets_true (packets_if p.at c) b)

    item_true : (kind : TunnelKind) (item : Taken Pdu) → AreTrue (sent_for_item p kind item)
    item_true n3 (fresh_item packet) = packets_true (packets_if p.at (waits p.bearer packet)) p.bearer
    item_true forwarding_down (fresh_item packet) = packets_true (packets_if p.at (waits p.bearer packet)) p.bearer
    item_true forwarding_down (numbered_item (Some count) packet) = numbered_true count packet
    item_true forwarding_down (numbered_item None packet) = tt
    item_true f1u_uplink (uplink_item (report_content fmc bits)) =
        packets_true (packets_if p.at (record p.bearer { sender = confirmed_by p.bearer.sender fmc bits })) p.bearer
    item_true f1u_uplink (uplink_item (packet_content count packet)) = tt
    item_true f1u_uplink (status_item lost delivered) = status_true lost (confirmed_if delivered p.bearer)
    item_true kind item = tt

    switch_true : (du : NodeId) (teid : ℕ) → OrderIsTrue reached p (switches du teid) → AreTrue (sent_by_switch p du teid)
    switch_true du teid told = by p.at.flags.may_serve told
      where
        c : CuUpBearer
        c = switched_to p du teid

        by : (t : Bool) → (t ≡ true → ReportIsTrue reached (switched_to p du teid).receiver.deliv (received_bits (switched_to p du teid).receiver))
            → AreTrue (if t
            then and_then (sent_anew (switched_to p du teid).receiver.deliv (received_bits (switched_to p du teid).receiver) (switched_to p du teid))
            (λ b. packets_sent (packets_if (on_switch p).at (switched_to p du teid)) b)
            else none_sent (switched_to p du teid))
        by true said =
            both_true (sent_anew c.receiver.deliv (received_bits c.receiver) c) (λ b. packets_sent (packets_if (on_switch p).at c) b)
            (anew_true c.receiver.deliv (received_bits c.receiver) c (said refl)) (λ b. packets_true (packets_if (on_switch p).at c) b)
        by false said = tt

    pub order_true : (order : ContextStep Pdu) → OrderIsTrue reached p order → AreTrue (sent_by p order)
    order_true (takes kind teid item) told = item_true kind item
    order_true (switches du teid) told = switch_true du teid told
    order_true (knows status) told = by p.at.flags.arrived told
      where
        c : CuUpBearer
        c = handed_up (known p.bearer status)

        by : (t : Bool) → (t ≡ true → ReportIsTrue reached status.ul_first (bits_in status.ul_received))
            → AreTrue (if t
            then and_then (sent_anew status.ul_first (bits_in status.ul_received) (handed_up (known p.bearer status)))
            (λ b. packets_sent (packets_if (on_status p).at (handed_up (known p.bearer status))) b)
            else none_sent p.bearer)
        by true said =
            both_true (sent_anew status.ul_first (bits_in status.ul_received) c) (λ b. packets_sent (packets_if (on_status p).at c) b)
            (anew_true status.ul_first (bits_in status.ul_received) c (said refl)) (λ b. packets_true (packets_if (on_status p).at c) b)
        by false said = tt
    order_true resumes told =
        let c : CuUpBearer = record (thawed p.bearer) { restart = p.bearer.restart || p.bearer.loss_while_frozen } in
        both_true (packets_sent (owed p.bearer) c) (λ b. packets_sent (packets_if (on_resume p).at c) b) (packets_true (owed p.bearer) c)
        (λ b. packets_true (packets_if (on_resume p).at c) b)
    order_true polls told = frame_true true false None p.bearer p.bearer.downlink tt
    order_true (makes instance sn quota target teid) told = tt
    order_true (adds teid) told = tt
    order_true (freezes peer down up) told = tt
    order_true releases told = tt
    order_true closes told = tt

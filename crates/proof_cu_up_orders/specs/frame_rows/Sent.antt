-- What a bearer of a CU-UP sends to its DU, whatever is asked of it: one sending after another, of frames with a packet, a status report or
-- a poll.
use Rattle.std.specs.Prelude.{ℕ, true, false, ◌||◌, if◌then◌else◌, List, [], ◌∷◌, ◌++◌, Option, Some, None}
use Rattle.gnb_types.specs.declared.names.NodeId.{NodeId}
use Rattle.pdcp_defs.specs.Receivers.{received_bits}
use Rattle.pdcp_defs.specs.Senders.{confirmed_by, may_restore}
use Rattle.unit_defs.specs.Ways.{report_content, Taken, fresh_item, numbered_item, uplink_item, status_item}
use Rattle.unit_defs.specs.CuUpBearers.{bits_in, owed, thawed}
use Rattle.unit_defs.specs.CuUpRecords.{CuUpBearer, TunnelKind, n3, f1u_uplink, forwarding_down}
use Rattle.bearer_defs.specs.chain_defs.Orders.{known, waits}
use Rattle.law_downlink_order.specs.path.Paths.{Sending, frame_on, packets_sent}
use Rattle.law_downlink_order.specs.path.Steps.{anew, sent_again, sent_anew}
use Rattle.proof_cu_up_orders.specs.handover_rows.Shown.{handed_up}
use Rattle.proof_cu_up_orders.specs.context_orders.Orders.{CuUpModel, ContextStep, on_switch, on_status, on_resume}
use Rattle.proof_cu_up_orders.specs.context_orders.Orders as ups
use Rattle.proof_cu_up_orders.specs.down_orders.Down.{confirmed_if, packets_if}

-- ---- one sending, and then another

abbrev pub none_sent : CuUpBearer → Sending
none_sent b = record { frames = []; bearer = b }

abbrev pub and_then : Sending → (CuUpBearer → Sending) → Sending
and_then one more = record { frames = one.frames ++ (more one.bearer).frames; bearer = (more one.bearer).bearer }

-- ---- what is sent, by what is asked. Of the bearer that is left, where its downlink goes, the number of its next frame and its restart
-- mark say something here; and what gets its COUNT is sent last.

abbrev pub sent_numbered : CuUpModel → ℕ → List ℕ → Sending
sent_numbered p count packet =
    if p.at.flags.released then none_sent p.bearer else
    (if may_restore p.at.sn p.at.quota p.bearer.sender count
    then (if p.at.flags.frozen then none_sent p.bearer else packets_sent ((count, packet) ∷ []) p.bearer)
    else none_sent p.bearer)

-- a delivery status: where it reports a loss, all that it doesn't confirm, the first with the restart mark
abbrev pub sent_for_status : CuUpModel → List (ℕ × ℕ) → Option ℕ → Sending
sent_for_status p lost delivered =
    let c = confirmed_if delivered p.bearer in
    and_then (sent_again p.at.flags.frozen lost c) (λ b. packets_sent (packets_if p.at c) b)

abbrev pub sent_for_item : {P : Type 0} → CuUpModel → TunnelKind → Taken P → Sending
sent_for_item p n3 (fresh_item packet) = packets_sent (packets_if p.at (waits p.bearer packet)) p.bearer
sent_for_item p forwarding_down (fresh_item packet) = packets_sent (packets_if p.at (waits p.bearer packet)) p.bearer
sent_for_item p forwarding_down (numbered_item (Some count) packet) = sent_numbered p count packet
sent_for_item p f1u_uplink (uplink_item (report_content fmc bits)) =
    packets_sent (packets_if p.at (record p.bearer { sender = confirmed_by p.bearer.sender fmc bits })) p.bearer
sent_for_item p f1u_uplink (status_item lost delivered) = sent_for_status p lost delivered
sent_for_item p kind item = none_sent p.bearer

-- a switch, on a new tunnel: a status report and all that nothing confirmed, once its SN status is known
abbrev pub switched_to : CuUpModel → NodeId → ℕ → CuUpBearer
switched_to p du teid = handed_up (anew p.bearer (record { du = du; teid = teid; next = 0 }))

abbrev pub sent_by_switch : CuUpModel → NodeId → ℕ → Sending
sent_by_switch p du teid =
    let c = switched_to p du teid in
    if p.at.flags.may_serve
    then and_then (sent_anew c.receiver.deliv (received_bits c.receiver) c) (λ b. packets_sent (packets_if (on_switch p).at c) b)
    else none_sent c

-- an SN status: so where the terminal is there
abbrev pub sent_by : {P : Type 0} → CuUpModel → ContextStep P → Sending
sent_by p (ups.takes kind teid item) = sent_for_item p kind item
sent_by p (ups.switches du teid) = sent_by_switch p du teid
sent_by p (ups.knows status) =
    let c = handed_up (known p.bearer status) in
    if p.at.flags.arrived
    then and_then (sent_anew status.ul_first (bits_in status.ul_received) c) (λ b. packets_sent (packets_if (on_status p).at c) b)
    else none_sent p.bearer
-- what came while frozen; after a loss all that nothing confirmed, the first with the restart mark
sent_by p ups.resumes =
    let c : CuUpBearer = record (thawed p.bearer) { restart = p.bearer.restart || p.bearer.loss_while_frozen } in
    and_then (packets_sent (owed p.bearer) c) (λ b. packets_sent (packets_if (on_resume p).at c) b)
sent_by p ups.polls = frame_on true false None p.bearer p.bearer.downlink
sent_by p order = none_sent p.bearer

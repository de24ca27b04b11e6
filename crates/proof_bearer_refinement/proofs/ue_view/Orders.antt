-- The orders of a CU-UP, of the core and of a DU's End Markers leave what a terminal shows.
use Rattle.std.proofs.Common.{ℕ, Bool, true, false, List, [], ◌∷◌, ◌++◌, map, Option, Some, None, refl}
use Rattle.std.specs.Prelude.{if◌then◌else◌}
use Rattle.std.specs.List.{AllByRecursion}
use Rattle.gnb_types.specs.declared.names.SnBits.{SnBits}
use Rattle.gnb_types.specs.declared.names.UeId.{UeId}
use Rattle.gnb_types.specs.declared.names.BearerId.{BearerId}
use Rattle.intervals.proofs.Intervals.{all_append}
use Rattle.pdcp_defs.specs.Senders.{Sender, has_room, numbered as with_next, confirmed_by}
use Rattle.unit_defs.specs.Ways.{Pdu, packet_content, report_content, Taken, fresh_item, numbered_item, uplink_item, status_item, end_item, packet_pdu, report_pdu, Load, fresh, numbered, frame, uplink, status, end_marker}
use Rattle.unit_defs.specs.CuUpBearers.{thawed}
use Rattle.unit_defs.specs.CuUpRecords.{CuUpBearer, CuUpScope, DownlinkTunnel, TunnelKind, n3, f1u_uplink, forwarding_down, forwarding_up}
use Rattle.run_defs.specs.Runs.{plain_way}
use Rattle.proof_cu_up_orders.specs.chain_rows.Shown.{number_orders}
use Rattle.proof_node_orders.specs.core_rows.Shown.{Places, Goal, to_first, orders_to}
use Rattle.proof_node_orders.specs.du_inputs.Puts.{OnTunnel}
use Rattle.law_downlink_order.specs.received_packets.Received.{LeavesRadio}
use Rattle.bearer_defs.specs.chain_defs.Models as down_models
use Rattle.bearer_defs.specs.chain_defs.Models.{Item}
use Rattle.bearer_defs.specs.chain_defs.Orders as down
use Rattle.bearer_defs.specs.uplink_defs.Models as up_models
use Rattle.bearer_defs.specs.uplink_defs.Orders as up
use Rattle.proof_cu_up_orders.specs.context_orders.Orders.{CuUpModel, ContextStep}
use Rattle.proof_cu_up_orders.specs.context_orders.Orders as ups
use Rattle.proof_cu_up_orders.specs.context_orders.Shown.{is_bearer}
use Rattle.proof_cu_up_orders.specs.down_orders.Down as down_rows
use Rattle.proof_cu_up_orders.specs.orders.Up as up_rows
use Rattle.proof_cu_up_orders.specs.bearer_orders.Happenings.{Beside, Happening, asks, Contexts, context_after}
use Rattle.proof_cu_up_orders.specs.bearer_orders.Down as downs
use Rattle.proof_cu_up_orders.specs.bearer_orders.Up as up_asks
use Rattle.proof_bearer_refinement.specs.run_bearers.Things.{PlainUnits}
use Rattle.proof_bearer_refinement.specs.run_bearers.Bearers.{Numbering}
use Rattle.proof_bearer_refinement.specs.refinement_facts.Refinements.{Owned}
use Rattle.proof_bearer_refinement.specs.refinement_facts.Asked.{down_after, up_after}
use Rattle.proof_bearer_refinement.specs.du_puts.Puts.{order_up, owned_to, orders_up}
use Rattle.proof_bearer_refinement.specs.core_step.Core.{orders_offered}
use Rattle.proof_bearer_refinement.specs.ue_view.Looks.{DownSame, UpSame, LeavesTerminal, IsNoPacket}
use Rattle.proof_bearer_refinement.proofs.ue_view.Models.{down_then, all_down, up_then, all_up}

abbrev Downs : List down.ModelStep → Type 0
Downs os = AllByRecursion LeavesRadio os

abbrev Ups : List up.ModelStep → Type 0
Ups os = AllByRecursion LeavesTerminal os

if_downs : (t : Bool) (os more : List down.ModelStep) → Downs os → Downs more → Downs (if t then os else more)
if_downs true os more first other = first
if_downs false os more first other = other

-- ---- a CU-UP: down

numbers_down : (sn : SnBits) (quota x : ℕ) (ps : List (List ℕ)) (s : Sender (List ℕ)) → Downs (number_orders sn quota x ps s)
unfolding number_orders
numbers_down sn quota x [] s = tt
numbers_down sn quota x (p ∷ ps) s = by (has_room sn quota s) (numbers_down sn quota x ps (with_next s p))
  where
    by : (t : Bool) → Downs (number_orders sn quota x ps (with_next s p))
        → Downs (if t then down.numbers x p ps ∷ number_orders sn quota x ps (with_next s p) else [])
    by true more = (tt, more)
    by false more = tt

numbers_if_down : (x : ℕ) (at : CuUpScope) (b : CuUpBearer) → Downs (down_rows.numbers_if x at b)
numbers_if_down x at b =
    if_downs (down_rows.serves_none at b) [] (number_orders at.sn at.quota x b.waiting b.sender) tt (numbers_down at.sn at.quota x b.waiting b.sender)

fresh_down : (x : ℕ) (at : CuUpScope) (b : CuUpBearer) (packet : List ℕ) (on keeps : down.ModelStep) → LeavesRadio on → LeavesRadio keeps
    → Downs (down_rows.fresh_orders x at b packet on keeps)
fresh_down x at b packet on keeps one other =
    if_downs at.flags.frozen (on ∷ []) (keeps ∷ down_rows.numbers_if x at (down.waits b packet)) (one, tt)
    (other, numbers_if_down x at (down.waits b packet))

numbered_down : (x : ℕ) (at : CuUpScope) (b : CuUpBearer) (count : ℕ) (packet : List ℕ) (rest : List Item)
    → LeavesRadio (down_rows.numbered_order x at b count packet rest)
numbered_down x at b count packet rest = by _ at.flags.frozen
  where
    by : (t f : Bool)
        → LeavesRadio (if t then (if f then down.passes_numbered x count packet rest else down.sends x count packet rest) else down.drops x count packet rest)
    by true true = tt
    by true false = tt
    by false f = tt

confirms_down : (x : ℕ) (o : Option ℕ) → Downs (down_rows.confirms_if x o)
confirms_down x None = tt
confirms_down x (Some count) = (tt, tt)

losses_down : (x : ℕ) (f : Bool) (ranges : List (ℕ × ℕ)) → Downs (down_rows.losses x f ranges)
losses_down x f [] = tt
losses_down x true (range ∷ ranges) = (tt, tt)
losses_down x false (range ∷ ranges) = (tt, (tt, tt))

item_down : (x : ℕ) (p : CuUpModel) (rest : List Item) (kind : TunnelKind) (item : Taken Pdu) → Downs (down_rows.item_orders x p rest kind item)
item_down x p rest n3 (fresh_item packet) = fresh_down x p.at p.bearer packet (down.passes_n3 x packet rest) (down.keeps_n3 x packet rest) tt tt
item_down x p rest n3 end_item = (tt, tt)
item_down x p rest n3 _ = tt
item_down x p rest forwarding_down (fresh_item packet) =
    fresh_down x p.at p.bearer packet (down.passes_fresh x packet rest) (down.keeps_fresh x packet rest) tt tt
item_down x p rest forwarding_down (numbered_item (Some count) packet) = (numbered_down x p.at p.bearer count packet rest, tt)
item_down x p rest forwarding_down end_item = (tt, tt)
item_down x p rest forwarding_down _ = tt
item_down x p rest f1u_uplink (uplink_item (report_content fmc bits)) =
    (tt, numbers_if_down x p.at (record p.bearer { sender = confirmed_by p.bearer.sender fmc bits }))
item_down x p rest f1u_uplink (status_item lost delivered) =
    all_append LeavesRadio (down_rows.confirms_if x delivered ++ down_rows.losses x p.at.flags.frozen lost)
    (down_rows.numbers_if x p.at (down_rows.confirmed_if delivered p.bearer))
    (all_append LeavesRadio (down_rows.confirms_if x delivered) (down_rows.losses x p.at.flags.frozen lost) (confirms_down x delivered)
    (losses_down x p.at.flags.frozen lost)) (numbers_if_down x p.at (down_rows.confirmed_if delivered p.bearer))
item_down x p rest f1u_uplink _ = tt
item_down x p rest forwarding_up item = tt

order_down : (x : ℕ) (b : Beside) (p : CuUpModel) (order : ContextStep Pdu) → Downs (downs.orders_of x b p order)
order_down x b p (ups.takes kind teid item) = item_down x p b.left_down kind item
order_down x b p (ups.freezes peer d u) = (tt, tt)
order_down x b p ups.closes = (tt, tt)
order_down x b p (ups.switches du teid) =
    let downlink : DownlinkTunnel = record { du = du; teid = teid; next = 0 } in
    let later : CuUpBearer = down.on_downlink p.bearer downlink in (
      tt,
      if_downs p.at.flags.may_serve (down_rows.numbers_if x (ups.on_switch p).at later) [] (numbers_if_down x (ups.on_switch p).at later) tt,
    )
order_down x b p (ups.knows its) =
    let later : CuUpBearer = down.known p.bearer its in (
      tt,
      if_downs p.at.flags.arrived (down.sends_again x ∷ down_rows.numbers_if x (ups.on_status p).at later) []
          (tt, numbers_if_down x (ups.on_status p).at later) tt,
    )
order_down x b p ups.resumes = (tt, numbers_if_down x (ups.on_resume p).at (thawed p.bearer))
order_down x b p ups.releases = (tt, tt)
order_down x b p (ups.makes instance sn quota target teid) = tt
order_down x b p (ups.adds teid) = tt
order_down x b p ups.polls = tt

asked_down : (x : ℕ) (b : Beside) (o : Option CuUpModel) (order : ContextStep Pdu) → Downs (downs.orders_in x b o order)
asked_down x b (Some p) order = order_down x b p order
asked_down x b None (ups.makes instance sn quota target teid) = (tt, tt)
asked_down x b None _ = tt

-- ---- and up

item_up : (x : ℕ) (rest : List up_models.Item) (kind : TunnelKind) (teid : ℕ) (item : Taken Pdu) → Ups (up_rows.item_orders x rest kind teid item)
item_up x rest f1u_uplink teid (uplink_item (packet_content (Some count) packet)) = (tt, tt)
item_up x rest f1u_uplink teid end_item = (tt, tt)
item_up x rest f1u_uplink teid _ = tt
item_up x rest forwarding_up teid (numbered_item (Some count) packet) = (tt, tt)
item_up x rest forwarding_up teid end_item = (tt, tt)
item_up x rest forwarding_up teid _ = tt
item_up x rest n3 teid item = tt
item_up x rest forwarding_down teid item = tt

end_up : (x : ℕ) (t : Bool) → LeavesTerminal (up_asks.end_of x t)
end_up x true = tt
end_up x false = tt

if_ups : (t : Bool) (os : List up.ModelStep) → Ups os → Ups (if t then os else [])
if_ups true os h = h
if_ups false os h = tt

order_up_all : (x : ℕ) (b : Beside) (p : CuUpModel) (order : ContextStep Pdu) → Ups (up_asks.orders_of x b p order)
order_up_all x b p (ups.takes kind teid item) = item_up x b.left_up kind teid item
order_up_all x b p (ups.freezes peer d u) = (tt, tt)
order_up_all x b p ups.closes = (end_up x (up_asks.is_done p), tt)
order_up_all x b p (ups.adds teid) = (tt, tt)
order_up_all x b p (ups.switches du teid) = (tt, tt)
order_up_all x b p (ups.knows its) = (tt, if_ups p.at.flags.arrived (up.resumes x ∷ []) (tt, tt))
order_up_all x b p ups.resumes = (tt, tt)
order_up_all x b p ups.releases = (tt, tt)
order_up_all x b p (ups.makes instance sn quota target teid) = tt
order_up_all x b p ups.polls = tt

asked_up : (x : ℕ) (b : Beside) (o : Option CuUpModel) (order : ContextStep Pdu) → Ups (up_asks.orders_in x b o order)
asked_up x b (Some p) order = order_up_all x b p order
asked_up x b None (ups.makes instance sn quota target teid) = (tt, tt)
asked_up x b None _ = tt

-- ---- all orders of a step

module _ (n : Numbering) (ue : UeId) (bearer : BearerId) (units : PlainUnits) (sn : SnBits) (quota : ℕ) (x : ℕ) (b : Beside) where
  abbrev each : List (ContextStep Pdu) → List (Happening Pdu)
  each os = map (λ (order : ContextStep Pdu). asks x order b) os

  pub down_same : (d : down_models.Model) (cs : Contexts) (os : List (ContextStep Pdu)) → DownSame d (down_after n ue bearer units sn quota d cs (each os))
  down_same d cs [] = record { terminal = refl; epoch = refl }
  down_same d cs (o ∷ os) =
      let one : down_models.Model = down.run d (downs.orders_by cs (asks x o b)) in
      let later : Contexts = context_after plain_way ue bearer cs (asks x o b) in
      down_then d one (down_after n ue bearer units sn quota one later (each os))
      (all_down d (downs.orders_by cs (asks x o b)) (asked_down x b (cs x) o)) (down_same one later os)

  pub up_same : (u : up_models.Model) (cs : Contexts) (os : List (ContextStep Pdu)) → UpSame u (up_after n ue bearer units sn quota u cs (each os))
  up_same u cs [] = record { terminal = refl; connected = refl; carried = refl; air = refl }
  up_same u cs (o ∷ os) =
      let one : up_models.Model = up.run u (up_asks.orders_by cs (asks x o b)) in
      let later : Contexts = context_after plain_way ue bearer cs (asks x o b) in
      up_then u one (up_after n ue bearer units sn quota one later (each os))
      (all_up u (up_asks.orders_by cs (asks x o b)) (asked_up x b (cs x) o)) (up_same one later os)

-- ---- the core

pub offered_same : (ue : UeId) (bearer : BearerId) (who : UeId) (which : BearerId) (packet : List ℕ) (d : down_models.Model)
    → DownSame d (down.run d (orders_offered ue bearer who which packet))
offered_same ue bearer who which packet d =
    all_down d (orders_offered ue bearer who which packet)
    (if_downs (is_bearer ue bearer who which) (down.offers packet ∷ []) [] (tt, tt) tt)

told_down : (places : Places) (o : Option Goal) → Downs (orders_to places o)
told_down places None = tt
told_down places (Some goal) = by goal.teids
  where
    by : (teids : List ℕ) → Downs (to_first places goal.up teids)
    by [] = tt
    by (teid ∷ teids) = (tt, tt)

pub told_same : (places : Places) (o : Option Goal) (d : down_models.Model) → DownSame d (down.run d (orders_to places o))
told_same places o d = all_down d (orders_to places o) (told_down places o)

-- ---- a DU's End Markers

mark_up : (u : up_models.Model) (p : OnTunnel) (load : Load Pdu) → IsNoPacket load → (o : Option Owned) → Ups (order_up u (record p { load = load }) o)
mark_up u p load none None = tt
mark_up u p (uplink (packet_pdu count packet)) none (Some o) = absurd none
mark_up u p (uplink (report_pdu fmc bits)) none (Some o) = tt
mark_up u p end_marker none (Some o) = (tt, tt)
mark_up u p (fresh x) none (Some o) = tt
mark_up u p (numbered sn count x) none (Some o) = tt
mark_up u p (frame poll restart number pdu) none (Some o) = tt
mark_up u p (status lost delivered) none (Some o) = tt

module _ (n : Numbering) (ue : UeId) (bearer : BearerId) (units : PlainUnits) where
  marks_up : (u : up_models.Model) (ps : List OnTunnel) → AllByRecursion (λ (p : OnTunnel). IsNoPacket p.load) ps → Ups (orders_up n ue bearer units u ps)
  unfolding orders_up
  marks_up u [] none = tt
  marks_up u (p ∷ ps) none =
      all_append LeavesTerminal (order_up u p (owned_to n ue bearer units p)) _ (mark_up u p p.load none.0 (owned_to n ue bearer units p))
      (marks_up (up.run u (order_up u p (owned_to n ue bearer units p))) ps none.1)

  pub marks_same : (u : up_models.Model) (ps : List OnTunnel) → AllByRecursion (λ (p : OnTunnel). IsNoPacket p.load) ps
      → UpSame u (up.run u (orders_up n ue bearer units u ps))
  marks_same u ps none = all_up u (orders_up n ue bearer units u ps) (marks_up u ps none)

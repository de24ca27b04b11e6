-- The path of the downlink's model changes by a path switch alone.
use Rattle.std.proofs.Common.{◌≡◌, ℕ, Bool, true, false, List, [], ◌∷◌, ◌++◌, map, Option, Some, None, refl, ◌∙◌}
use Rattle.std.specs.Prelude.{if◌then◌else◌}
use Rattle.std.specs.List.{AllByRecursion}
use Rattle.gnb_types.specs.declared.names.SnBits.{SnBits}
use Rattle.gnb_types.specs.declared.names.UeId.{UeId}
use Rattle.gnb_types.specs.declared.names.BearerId.{BearerId}
use Rattle.pdcp_defs.specs.Senders.{Sender, has_room, numbered as with_next, confirmed_by}
use Rattle.pdcp_defs.specs.Receivers.{Delivery, is_duplicate, stored, deliver}
use Rattle.unit_defs.specs.Ways.{Pdu, packet_content, report_content, Taken, fresh_item, numbered_item, frame_item, uplink_item, status_item, end_item}
use Rattle.unit_defs.specs.CuUpRecords.{CuUpBearer, CuUpScope, TunnelKind, n3, f1u_uplink, forwarding_down, forwarding_up}
use Rattle.unit_defs.specs.CuUpBearers.{thawed}
use Rattle.run_defs.specs.Runs.{plain_way}
use Rattle.bearer_defs.specs.chain_defs.Models as down_models
use Rattle.bearer_defs.specs.chain_defs.Orders as down
use Rattle.proof_cu_up_orders.specs.chain_rows.Shown.{number_orders}
use Rattle.proof_cu_up_orders.specs.context_orders.Orders.{CuUpModel, ContextStep, makes, adds, switches, freezes, knows, resumes, releases, closes, takes, polls, on_switch, on_status, on_resume}
use Rattle.proof_cu_up_orders.specs.down_orders.Down as rows
use Rattle.proof_cu_up_orders.specs.bearer_orders.Happenings.{Beside, asks, Contexts, context_after}
use Rattle.proof_cu_up_orders.specs.bearer_orders.Down as downs
use Rattle.proof_cu_up_orders.specs.context_orders.Shown.{is_bearer}
use Rattle.proof_bearer_refinement.specs.run_bearers.Things.{PlainUnits}
use Rattle.proof_bearer_refinement.specs.run_bearers.Bearers.{Numbering}
use Rattle.proof_bearer_refinement.specs.refinement_facts.Asked.{down_after}
use Rattle.proof_bearer_refinement.specs.core_step.Core.{orders_offered}
use Rattle.proof_bearer_refinement.specs.runs.Steps.{IsOfRadio}

abbrev pub IsNoSwitch : down.ModelStep → Type 0
IsNoSwitch (down.switches_path to) = ⊥
IsNoSwitch order = Unit {0}

abbrev AreNone : List down.ModelStep → Type 0
AreNone os = AllByRecursion IsNoSwitch os

order_path : (d : down_models.Model) (o : down.ModelStep) → IsNoSwitch o → (down.after d o).path ≡ d.path
unfolding down.after
order_path d (down.switches_path to) none = absurd none
order_path d (down.carries count octets rest) none = by (is_duplicate d.terminal count) (deliver (stored d.terminal count octets))
  where
    by : (t : Bool) (z : Delivery (List ℕ)) → (down.handed (record d { air = rest }) t z).path ≡ d.path
    by true z = refl
    by false z = refl
order_path d _ none = refl

run_path : (d : down_models.Model) (os : List down.ModelStep) → AreNone os → (down.run d os).path ≡ d.path
unfolding down.run
run_path d [] none = refl
run_path d (o ∷ os) none = run_path (down.after d o) os none.1 ∙ order_path d o none.0

-- ---- a CU-UP's orders

both : (xs ys : List down.ModelStep) → AreNone xs → AreNone ys → AreNone (xs ++ ys)
both [] ys a b = b
both (x ∷ xs) ys a b = (a.0, both xs ys a.1 b)

number_none : (sn : SnBits) (quota x : ℕ) (ps : List (List ℕ)) (s : Sender (List ℕ)) → AreNone (number_orders sn quota x ps s)
unfolding number_orders
number_none sn quota x [] s = tt
number_none sn quota x (p ∷ ps) s = by (has_room sn quota s) (number_none sn quota x ps (with_next s p))
  where
    by : (t : Bool) → AreNone (number_orders sn quota x ps (with_next s p))
        → AreNone (if t then down.numbers x p ps ∷ number_orders sn quota x ps (with_next s p) else [])
    by true more = (tt, more)
    by false more = tt

numbers_none : (x : ℕ) (at : CuUpScope) (b : CuUpBearer) → AreNone (rows.numbers_if x at b)
numbers_none x at b = by (rows.serves_none at b)
  where
    by : (t : Bool) → AreNone (if t then [] else number_orders at.sn at.quota x b.waiting b.sender)
    by true = tt
    by false = number_none at.sn at.quota x b.waiting b.sender

fresh_none : (x : ℕ) (at : CuUpScope) (b : CuUpBearer) (packet : List ℕ) (on keeps : down.ModelStep) → IsNoSwitch on → IsNoSwitch keeps
    → AreNone (rows.fresh_orders x at b packet on keeps)
fresh_none x at b packet on keeps p q = by at.flags.frozen
  where
    by : (t : Bool) → AreNone (if t then on ∷ [] else keeps ∷ rows.numbers_if x at (down.waits b packet))
    by true = (p, tt)
    by false = (q, numbers_none x at (down.waits b packet))

numbered_none : (x : ℕ) (at : CuUpScope) (b : CuUpBearer) (count : ℕ) (packet : List ℕ) (rest : List down_models.Item)
    → IsNoSwitch (rows.numbered_order x at b count packet rest)
numbered_none x at b count packet rest = by _ at.flags.frozen
  where
    by : (t f : Bool) → IsNoSwitch (if t then (if f then down.passes_numbered x count packet rest else down.sends x count packet rest)
        else down.drops x count packet rest)
    by true true = tt
    by true false = tt
    by false f = tt

confirms_none : (x : ℕ) (o : Option ℕ) → AreNone (rows.confirms_if x o)
confirms_none x None = tt
confirms_none x (Some count) = (tt, tt)

losses_none : (x : ℕ) (f : Bool) (ranges : List (ℕ × ℕ)) → AreNone (rows.losses x f ranges)
losses_none x f [] = tt
losses_none x true (range ∷ ranges) = (tt, tt)
losses_none x false (range ∷ ranges) = (tt, (tt, tt))

item_none : (x : ℕ) (p : CuUpModel) (rest : List down_models.Item) (kind : TunnelKind) (item : Taken Pdu) → AreNone (rows.item_orders x p rest kind item)
item_none x p rest n3 (fresh_item packet) = fresh_none x p.at p.bearer packet (down.passes_n3 x packet rest) (down.keeps_n3 x packet rest) tt tt
item_none x p rest n3 end_item = (tt, tt)
item_none x p rest n3 (numbered_item count packet) = tt
item_none x p rest n3 (frame_item poll restart number pdu) = tt
item_none x p rest n3 (uplink_item content) = tt
item_none x p rest n3 (status_item lost delivered) = tt
item_none x p rest forwarding_down (fresh_item packet) = fresh_none x p.at p.bearer packet (down.passes_fresh x packet rest) (down.keeps_fresh x packet rest) tt tt
item_none x p rest forwarding_down (numbered_item (Some count) packet) = (numbered_none x p.at p.bearer count packet rest, tt)
item_none x p rest forwarding_down (numbered_item None packet) = tt
item_none x p rest forwarding_down end_item = (tt, tt)
item_none x p rest forwarding_down (frame_item poll restart number pdu) = tt
item_none x p rest forwarding_down (uplink_item content) = tt
item_none x p rest forwarding_down (status_item lost delivered) = tt
item_none x p rest f1u_uplink (uplink_item (report_content fmc bits)) =
    (tt, numbers_none x p.at (record p.bearer { sender = confirmed_by p.bearer.sender fmc bits }))
item_none x p rest f1u_uplink (uplink_item (packet_content count packet)) = tt
item_none x p rest f1u_uplink (status_item lost delivered) =
    both (rows.confirms_if x delivered ++ rows.losses x p.at.flags.frozen lost) (rows.numbers_if x p.at (rows.confirmed_if delivered p.bearer))
    (both (rows.confirms_if x delivered) (rows.losses x p.at.flags.frozen lost) (confirms_none x delivered) (losses_none x p.at.flags.frozen lost))
    (numbers_none x p.at (rows.confirmed_if delivered p.bearer))
item_none x p rest f1u_uplink (fresh_item packet) = tt
item_none x p rest f1u_uplink (numbered_item count packet) = tt
item_none x p rest f1u_uplink (frame_item poll restart number pdu) = tt
item_none x p rest f1u_uplink end_item = tt
item_none x p rest forwarding_up item = tt

numbers_after : (t : Bool) (os : List down.ModelStep) → AreNone os → AreNone (if t then os else [])
numbers_after true os all = all
numbers_after false os all = tt

order_none : (x : ℕ) (b : Beside) (p : Option CuUpModel) (order : ContextStep Pdu) → AreNone (downs.orders_in x b p order)
order_none x b None (makes instance sn quota target teid) = (tt, tt)
order_none x b None (adds teid) = tt
order_none x b None (switches du teid) = tt
order_none x b None (freezes peer down_teid up_teid) = tt
order_none x b None (knows its_status) = tt
order_none x b None resumes = tt
order_none x b None releases = tt
order_none x b None closes = tt
order_none x b None (takes kind teid item) = tt
order_none x b None polls = tt
order_none x b (Some p) (makes instance sn quota target teid) = tt
order_none x b (Some p) (adds teid) = tt
order_none x b (Some p) (switches du teid) =
    let now : CuUpBearer = down.on_downlink p.bearer (record { du = du; teid = teid; next = 0 }) in
    (tt, numbers_after p.at.flags.may_serve (rows.numbers_if x (on_switch p).at now) (numbers_none x (on_switch p).at now))
order_none x b (Some p) (freezes peer down_teid up_teid) = (tt, tt)
order_none x b (Some p) (knows its_status) =
    let now : CuUpBearer = down.known p.bearer its_status in
    (tt, numbers_after p.at.flags.arrived (down.sends_again x ∷ rows.numbers_if x (on_status p).at now) (tt, numbers_none x (on_status p).at now))
order_none x b (Some p) resumes = (tt, numbers_none x (on_resume p).at (thawed p.bearer))
order_none x b (Some p) releases = (tt, tt)
order_none x b (Some p) closes = (tt, tt)
order_none x b (Some p) (takes kind teid item) = item_none x p b.left_down kind item
order_none x b (Some p) polls = tt

module _ (n : Numbering) (ue : UeId) (bearer : BearerId) (units : PlainUnits) (sn : SnBits) (quota : ℕ) (x : ℕ) (b : Beside) where
  pub asked_path : (d : down_models.Model) (cs : Contexts) (orders : List (ContextStep Pdu))
      → (down_after n ue bearer units sn quota d cs (map (λ order. asks x order b) orders)).path ≡ d.path
  asked_path d cs [] = refl
  asked_path d cs (o ∷ os) =
      let e : down_models.Model = down.run d (downs.orders_in x b (cs x) o) in
      asked_path e (context_after plain_way ue bearer cs (asks x o b)) os ∙ run_path d (downs.orders_in x b (cs x) o) (order_none x b (cs x) o)

-- ---- orders of the radio, and what is offered

radio_none : (os : List down.ModelStep) → AllByRecursion IsOfRadio os → AreNone os
radio_none [] all = tt
radio_none (down.arrives x ∷ os) all = (tt, radio_none os all.1)
radio_none (down.fails ∷ os) all = (tt, radio_none os all.1)
radio_none (down.carries count octets rest ∷ os) all = (tt, radio_none os all.1)
radio_none (_ ∷ os) all = absurd all.0

pub radio_path : (d : down_models.Model) (os : List down.ModelStep) → AllByRecursion IsOfRadio os → (down.run d os).path ≡ d.path
radio_path d os all = run_path d os (radio_none os all)

pub offered_path : (d : down_models.Model) (ue : UeId) (bearer : BearerId) (who : UeId) (which : BearerId) (packet : List ℕ)
    → (down.run d (orders_offered ue bearer who which packet)).path ≡ d.path
offered_path d ue bearer who which packet = run_path d (orders_offered ue bearer who which packet) (by (is_bearer ue bearer who which))
  where
    by : (t : Bool) → AreNone (if t then down.offers packet ∷ [] else [])
    by true = (tt, tt)
    by false = tt

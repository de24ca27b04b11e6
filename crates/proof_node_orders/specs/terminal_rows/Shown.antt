-- What a row of the terminal does to one bearer, beside what its orders do to the bearer's models, up and down.
use Rattle.std.specs.Prelude.{◌≡◌, ℕ, ◌+◌, Bool, if◌then◌else◌, List, [], ◌∷◌, ◌++◌, map, flat_map, Some, false, ⊤}
use Rattle.std.specs.Ordering.{eq_by_cmp}
use Rattle.gnb_types.specs.declared.names.SnBits.{SnBits}
use Rattle.gnb_types.specs.declared.names.BearerId.{BearerId}
use Rattle.gnb_types.specs.declared.names.Dir.TheVariants.{Dl}
use Rattle.gnb_types.specs.declared.outputs.Tag.TheVariants.{Absent}
use Rattle.gnb_types.specs.Orders.{bearer_cmp}
use Rattle.tables.specs.Tables.{find, put, map_values}
use Rattle.pdcp_defs.specs.Senders.{Sender, numbered as with_next, has_room}
use Rattle.pdcp_defs.specs.Receivers.{Receiver, received_bits}
use Rattle.unit_defs.specs.Ways.{report_pdu, Output, deliver, Way, Answer, gives, spent}
use Rattle.unit_defs.specs.Ue.{UeBearer, UeNode, is_connected, on_air, data_output}
use Rattle.proof_cu_up_orders.specs.chain_rows.Shown.{numbers_all, still_waits, numbered_packets}
use Rattle.bearer_defs.specs.chain_defs.Models.{Model as DownModel}
use Rattle.bearer_defs.specs.uplink_defs.Models.{Model}
use Rattle.bearer_defs.specs.uplink_defs.Orders.{ModelStep, numbers}

-- The two models have this bearer of the terminal: what it sends is that of the model up, its receiver that of the model down. The radio
-- up is there while the terminal is connected; each of its epochs is a radio of the model down, from the first one on, which is 1.
abbrev pub bearer_of : Model → DownModel → UeBearer
bearer_of s d = record s.terminal { receiver = d.terminal }

pub record IsSeen (u : UeNode) (bearer : BearerId) (s : Model) (d : DownModel) : Type 0 where
  pub there : find bearer_cmp u.bearers bearer ≡ Some (bearer_of s d)
  pub connected : s.connected ≡ is_connected u.state
  pub epoch : u.epoch ≡ d.epoch + 1

-- what waits is numbered while there is room: the orders, the packets with their COUNTs, and the bearer after them
unfoldable pub number_orders : SnBits → ℕ → List (List ℕ) → Sender (List ℕ) → List ModelStep
number_orders sn quota [] s = []
number_orders sn quota (p ∷ ps) s = if has_room sn quota s then numbers p ps ∷ number_orders sn quota ps (with_next s p) else []

abbrev pub orders_of : UeNode → UeBearer → List ModelStep
orders_of u b = number_orders u.plan.sn u.plan.quota b.waiting b.sender

abbrev pub packets_of : UeNode → UeBearer → List (ℕ × List ℕ)
packets_of u b = numbered_packets u.plan.sn u.plan.quota b.waiting b.sender

abbrev pub with_lists : UeBearer → Sender (List ℕ) → List (List ℕ) → UeBearer
with_lists b sender waiting = record b { sender = sender; waiting = waiting }

abbrev pub numbered_all : UeNode → UeBearer → UeBearer
numbered_all u b =
    with_lists b (numbers_all u.plan.sn u.plan.quota b.waiting b.sender) (still_waits u.plan.sn u.plan.quota b.waiting b.waiting b.sender)

-- the orders, where a terminal that isn't connected numbers nothing
abbrev pub orders_if : Bool → UeNode → UeBearer → List ModelStep
orders_if is_there u b = if is_there then orders_of u b else []

abbrev pub numbering : UeNode → UeBearer → List ModelStep
numbering u b = orders_if (is_connected u.state) u b

-- exactly these outputs, and this kept; or a counter is spent
unfoldable pub Gives : {M P R : Type 0} → List (Output M P) → R → Answer M P R → Type 0
Gives outputs after (gives others r) = (others ≡ outputs) × (r ≡ after)
Gives outputs after (spent counter) = ⊤

-- exactly these outputs, and the terminal shows these models then
unfoldable pub Shows : {M P : Type 0} → List (Output M P) → BearerId → Model → DownModel → Answer M P UeNode → Type 0
Shows outputs bearer t d (gives others v) = (others ≡ outputs) × IsSeen v bearer t d
Shows outputs bearer t d (spent counter) = ⊤

module _ {M C P : Type 0} (way : Way M C P) where
  -- A row changes this bearer alone, which is that of the model up then, and nothing of the model down; and what it puts out is what went
  -- to the model's radio. `base` is the model with what the row changes besides.
  pub record IsDone (u : UeNode) (bearer : BearerId) (d : DownModel) (base t : Model) (outputs : List (Output M P)) (v : UeNode) : Type 0 where
    pub terminal : UeBearer
    pub packets : List (ℕ × List ℕ)
    pub part : t ≡ record base { terminal = terminal; air = base.air ++ packets }
    pub node : v ≡ record u { bearers = put bearer_cmp u.bearers bearer (record terminal { receiver = d.terminal }) }
    pub outputs_are : outputs ≡ map (λ e. data_output way u bearer e.0 e.1) packets
    pub seen : IsSeen v bearer t d
    pub others : (q : BearerId) → eq_by_cmp bearer_cmp q bearer ≡ false → find bearer_cmp v.bearers q ≡ find bearer_cmp u.bearers q

  unfoldable pub Does : UeNode → BearerId → DownModel → Model → Model → Answer M P UeNode → Type 0
  Does u bearer d base t (gives outputs v) = IsDone u bearer d base t outputs v
  Does u bearer d base t (spent counter) = ⊤

  -- a new connection: a status report, what nothing confirmed, and what gets a COUNT; of each bearer in turn
  abbrev pub connection : UeNode → BearerId × UeBearer → List (Output M P)
  connection u e =
      on_air way u e.0 Absent (way.write u.plan.sn (report_pdu e.1.receiver.deliv (received_bits e.1.receiver)))
      ∷ map (λ x. data_output way u e.0 x.0 x.1) (e.1.sender.unconfirmed ++ packets_of u e.1)

  abbrev pub connections : UeNode → List (Output M P)
  connections u = flat_map (λ e. connection u e) u.bearers

  abbrev pub with_all_numbered : UeNode → UeNode
  with_all_numbered u = record u { bearers = map_values (numbered_all u) u.bearers }

  -- what is delivered to its user
  abbrev pub delivered_to : UeNode → BearerId → List (ℕ × List ℕ) → List (Output M P)
  delivered_to u bearer packets = map (λ e. deliver u.plan.ue bearer Dl e.0 e.1) packets

  -- a bearer's receiver changes, and this bearer alone
  abbrev pub with_receiver : UeNode → BearerId → Model → Receiver (List ℕ) → UeNode
  with_receiver u bearer s r = record u { bearers = put bearer_cmp u.bearers bearer (record s.terminal { receiver = r }) }

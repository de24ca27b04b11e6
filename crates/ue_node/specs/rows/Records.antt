-- What a terminal keeps, as the procedure tables have it.
use Rattle.std.specs.Prelude.{◌≡◌, ◌⊎◌, ℕ, ◌+◌, ◌<◌, ◌≤◌, List, [], ◌∷◌, length}
use Rattle.std.specs.List.{AllByRecursion}
use Rattle.gnb_types.specs.declared.names.BearerId.{BearerId}
use Rattle.gnb_types.specs.declared.plans.Plan.{Plan}
use Rattle.pdcp.specs.Pdus.{Content, data_pdu, status_report}
use Rattle.unit_defs.specs.declared.UeState.{UeState}
use Rattle.unit_defs.specs.Ue.{UeBearer, UeNode}
use Rattle.pdcp_bearers.specs.ue_packets.Bearers.{kept, IsOf}
use Rattle.pdcp_bearers.specs.declared.ue_packets.bearer.Bearer.{Bearer}
use Rattle.pdcp_bearers.specs.declared.ue_packets.terminal.Terminal.{Terminal}
use Rattle.ue_node.specs.declared.rows.record.UeRecord.{UeRecord}

-- bearers by their numbers, from this one on
abbrev pub numbered : ℕ → List Bearer → List (BearerId × UeBearer)
numbered i [] = []
numbered i (b ∷ bs) = (record { 0 = i }, kept b) ∷ numbered (i + 1) bs

-- the record of the tables
abbrev pub record_of : UeRecord → UeNode
record_of u = record {
  plan = u.plan;
  state = u.state;
  epoch = u.epoch;
  home = u.home;
  goal = u.goal;
  token = u.token;
  bearers = numbered 1 u.bearers.items;
}

-- what the rows at a bearer read of it
abbrev pub terminal_in : UeRecord → Terminal
terminal_in u = record { plan = u.plan; state = u.state; epoch = u.epoch }

-- the same of a record of the tables
pub record IsTerminalOf (u : UeNode) (t : Terminal) : Type 0 where
  pub plan : u.plan ≡ t.plan
  pub state : u.state ≡ t.state
  pub epoch : u.epoch ≡ t.epoch

-- a bearer of a terminal with this plan has its numbers and quota, in whatever state and epoch the terminal is
abbrev pub IsPlanned : Plan → Bearer → Type 0
IsPlanned plan b = (state : UeState) (epoch : ℕ) → IsOf (record { plan = plan; state = state; epoch = epoch }) b

-- as many bearers as the plan says, each of them with its numbers and quota
pub record ArePlanned (plan : Plan) (bearers : List Bearer) : Type 0 where
  pub count : length bearers ≡ plan.bearers
  pub all : AllByRecursion (λ b. IsPlanned plan b) bearers

abbrev pub IsRecord : UeRecord → Type 0
IsRecord u = ArePlanned u.plan u.bearers.items

-- no bearer of so many has this number
abbrev pub IsOutside : ℕ → ℕ → Type 0
IsOutside number count = (number ≡ 0) ⊎ (count < number)

-- PDUs that a radio gives: a packet has at most 2,048 octets
abbrev pub IsSizedPdu : Content → Type 0
IsSizedPdu (data_pdu number packet) = length packet ≤ 2048
IsSizedPdu (status_report fmc bitmap) = Unit {0}

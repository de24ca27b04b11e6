-- A terminal over a run: what happens to it, what its table makes of that, and the orders of one of its bearers.
use Rattle.std.specs.Prelude.{ℕ, List, [], ◌∷◌, ◌++◌, Option, Some, None}
use Rattle.gnb_types.specs.declared.names.BearerId.{BearerId}
use Rattle.gnb_types.specs.declared.plans.Plan.{Plan}
use Rattle.message_types.specs.declared.rrc.Token.{Token}
use Rattle.unit_defs.specs.Ways.{Message, Pdu, Input, Answer, gives, spent}
use Rattle.unit_defs.specs.Ue.{UeNode, new_ue, placed, ue_acts}
use Rattle.run_defs.specs.Runs.{plain_way}
use Rattle.proof_node_orders.specs.terminal_inputs.Inputs.{Models, Orders, none, carried_out, orders_by}

-- it comes, or is set up without messages; it is given an input
pub data Happening : Type 0 where
  comes : (plan : Plan) → Happening
  set_up : (plan : Plan) → Happening
  takes : (input : Input Token Pdu) → Happening

-- where a counter is spent the run stops, and nothing more is said
abbrev pub kept_of : UeNode → Answer (Message Token) Pdu UeNode → UeNode
kept_of u (gives outputs v) = v
kept_of u (spent counter) = u

abbrev pub after_input : UeNode → Input Token Pdu → UeNode
after_input u input = kept_of u (ue_acts plain_way u input)

abbrev pub after_one : Option UeNode → Happening → Option UeNode
after_one o (comes plan) = Some (new_ue plan)
after_one o (set_up plan) = Some (placed (new_ue plan))
after_one None (takes input) = None
after_one (Some u) (takes input) = Some (after_input u input)

unfoldable pub after_all : Option UeNode → List Happening → Option UeNode
after_all o [] = o
after_all o (h ∷ hs) = after_all (after_one o h) hs

-- ---- inputs, each with where an arrival leads: to another context, or to the one where the terminal is

pub record Led : Type 0 where
  pub to : Option ℕ
  pub input : Input Token Pdu

unfoldable pub after_inputs : UeNode → List Led → UeNode
after_inputs u [] = u
after_inputs u (l ∷ ls) = after_inputs (after_input u l.input) ls

abbrev pub orders_if : Answer (Message Token) Pdu UeNode → Orders → Orders
orders_if (gives outputs v) o = o
orders_if (spent counter) o = none

abbrev pub orders_of : UeNode → BearerId → Models → Led → Orders
orders_of u bearer b l = orders_if (ue_acts plain_way u l.input) (orders_by plain_way u b bearer l.to l.input)

abbrev pub joined : Orders → Orders → Orders
joined o p = record { up = o.up ++ p.up; down = o.down ++ p.down }

-- the orders of each input, one after another
unfoldable pub orders_over : UeNode → BearerId → Models → List Led → Orders
orders_over u bearer b [] = none
orders_over u bearer b (l ∷ ls) =
    let o = orders_of u bearer b l in
    joined o (orders_over (after_input u l.input) bearer (carried_out b o) ls)

-- What each input of a terminal does to one bearer, in orders of its model up and of its model down; and what they ask for.
use Rattle.std.specs.Prelude.{◌≡◌, ◌==◌, ℕ, ◌+◌, ◌<◌, Bool, true, not, ◌&&◌, if◌then◌else◌, nat_lt, nat_le, List, [], ◌∷◌, ◌++◌, length, Option, Some, None, ⊤}
use Rattle.std.specs.Ordering.{eq_by_cmp}
use Rattle.gnb_types.specs.declared.names.SnBits.{SnBits}
use Rattle.gnb_types.specs.declared.names.NodeId.{NodeId}
use Rattle.gnb_types.specs.declared.names.NodeId.TheVariants.{Du}
use Rattle.gnb_types.specs.declared.names.BearerId.{BearerId}
use Rattle.gnb_types.specs.declared.names.Dir.TheVariants.{Dl, Ul}
use Rattle.gnb_types.specs.declared.inputs.Order.{Order as UeOrder}
use Rattle.gnb_types.specs.declared.inputs.Order.TheVariants as orders
use Rattle.gnb_types.specs.Orders.{bearer_cmp}
use Rattle.tables.specs.Tables.{IsSorted}
use Rattle.message_types.specs.declared.rrc.Token.{Token}
use Rattle.message_types.specs.declared.rrc.Token.TheVariants as tokens
use Rattle.pdcp_defs.specs.Senders.{is_reported, confirmed_to, confirmed_by}
use Rattle.pdcp_defs.specs.Receivers.{is_duplicate, is_ahead}
use Rattle.unit_defs.specs.declared.UeState.{UeState}
use Rattle.unit_defs.specs.declared.UeState.TheVariants as states
use Rattle.unit_defs.specs.Ways.{Message, rrc, Pdu, packet_pdu, report_pdu, Content, packet_content, report_content, Input, control_input, radio_input, confirm_input, offer_input, order_input, Output, radio, deliver, Way, Answer, gives, spent}
use Rattle.unit_defs.specs.Ue.{UeBearer, UeNode, largest_packet, used_uplink, is_connected, is_accessing, may_obey, may_return}
use Rattle.bearer_defs.specs.chain_defs.Models.{Model as DownModel}
use Rattle.bearer_defs.specs.chain_defs.Orders as down
use Rattle.bearer_defs.specs.chain_defs.Assumptions as down_assumptions
use Rattle.bearer_defs.specs.uplink_defs.Models.{Model}
use Rattle.bearer_defs.specs.uplink_defs.Orders.{ModelStep, offers, connects, leaves, arrives, acknowledges, reports, run}
use Rattle.bearer_defs.specs.uplink_defs.Assumptions.{IsAssumed, AreKept}
use Rattle.proof_node_orders.specs.terminal_rows.Shown.{IsSeen, orders_of, numbering}

-- one bearer's models, and orders of each
pub record Models : Type 0 where
  pub up : Model
  pub down : DownModel

pub record Orders : Type 0 where
  pub up : List ModelStep
  pub down : List down.ModelStep

abbrev pub none : Orders
none = record { up = []; down = [] }

abbrev pub carried_out : Models → Orders → Models
carried_out b o = record { up = run b.up o.up; down = down.run b.down o.down }

abbrev pub rest_of : {X : Type 0} → List X → List X
rest_of [] = []
rest_of (x ∷ xs) = xs

-- the terminal shows the models of this bearer, and has no two bearers of one name
pub record IsShown (u : UeNode) (bearer : BearerId) (b : Models) : Type 0 where
  pub seen : IsSeen u bearer b.up b.down
  pub sorted : IsSorted bearer_cmp u.bearers

module _ {M C P : Type 0} (way : Way M C P) (u : UeNode) (b : Models) where
  -- ---- a token: a command, and what is accepted

  -- a new connection
  abbrev pub connecting : List ModelStep
  connecting = connects ∷ orders_of u b.up.terminal

  abbrev pub of_command : ℕ → Orders
  of_command epoch = if may_obey way u.state && epoch == u.epoch + 1 then record { up = leaves ∷ []; down = [] } else none

  abbrev pub of_accepted : UeState → Orders
  of_accepted states.Returning = record { up = connecting; down = [] }
  of_accepted state = none

  abbrev pub of_token : Token → Orders
  of_token (tokens.Command ue epoch gnb du) = if ue.0 == u.plan.ue.0 then of_command epoch else none
  of_token (tokens.Accepted ue epoch) = if ue.0 == u.plan.ue.0 then (if epoch == u.epoch then of_accepted u.state else none) else none
  of_token token = none

  abbrev pub of_control_message : NodeId → Message C → Orders
  of_control_message (Du gnb number) (rrc token) = of_token token
  of_control_message from message = none

  -- ---- a PDU from the radio, and one that was confirmed there

  abbrev pub told_to : ℕ → List Bool → UeBearer
  told_to fmc bits = record b.up.terminal { sender = confirmed_by b.up.terminal.sender fmc bits }

  abbrev pub known_to : ℕ → UeBearer
  known_to count = record b.up.terminal { sender = confirmed_to b.up.terminal.sender count }

  abbrev pub of_taken : (old ahead : Bool) → ℕ → List ℕ → Orders
  of_taken old ahead count packet =
      if not old && ahead then none else record { up = []; down = down.carries count packet (rest_of b.down.air) ∷ [] }

  abbrev pub of_data : Option ℕ → List ℕ → Orders
  of_data None packet = none
  of_data (Some count) packet =
      of_taken (is_duplicate b.down.terminal count) (is_ahead u.plan.quota b.down.terminal count) count packet

  abbrev pub of_pdu : Content → Orders
  of_pdu (packet_content count packet) = of_data count packet
  of_pdu (report_content fmc bits) = record { up = reports fmc bits ∷ numbering u (told_to fmc bits); down = [] }

  abbrev pub of_known : Option ℕ → Orders
  of_known None = record { up = numbering u b.up.terminal; down = [] }
  of_known (Some count) = record { up = acknowledges count (rest_of b.up.carried) ∷ numbering u (known_to count); down = [] }

  abbrev pub of_confirmed : Content → Orders
  of_confirmed (packet_content count packet) = of_known count
  of_confirmed (report_content fmc bits) = none

  -- ---- an offered packet

  abbrev pub offered_to : List ℕ → UeBearer
  offered_to packet = record b.up.terminal { waiting = b.up.terminal.waiting ++ packet ∷ [] }

  abbrev pub of_offer : List ℕ → Orders
  of_offer packet =
      if nat_lt largest_packet (length packet) then none else
      (if nat_le u.plan.quota (used_uplink way b.up.terminal) then none else
      record { up = offers packet ∷ numbering u (offered_to packet); down = [] })

  -- ---- an order of the script. An arrival leads to another context, or to the one where the terminal is: the script says which.

  abbrev pub of_arrival : Option ℕ → Orders
  of_arrival None = record { up = connecting; down = down.fails ∷ [] }
  of_arrival (Some x) = record { up = arrives x ∷ connecting; down = down.arrives x ∷ [] }

  abbrev pub of_return : Option NodeId → Orders
  of_return None = none
  of_return (Some home) = if may_return u.state then record { up = []; down = down.fails ∷ [] } else none

  abbrev pub of_order : Option ℕ → UeOrder → Orders
  of_order to (orders.Arrive ue) = if is_accessing u.state then of_arrival to else none
  of_order to (orders.Return ue) = of_return u.home
  of_order to (orders.Fail ue) = if is_connected u.state then record { up = leaves ∷ []; down = [] } else none
  of_order to order = none

  -- ---- the table. What is of another bearer is none of this one.

  abbrev pub if_here : BearerId → BearerId → Orders → Orders
  if_here bearer other o = if eq_by_cmp bearer_cmp bearer other then o else none

  unfoldable pub orders_by : BearerId → Option ℕ → Input C P → Orders
  orders_by bearer to (control_input from message) = of_control_message from message
  orders_by bearer to (radio_input ue other Dl pdu content) = if_here bearer other (of_pdu content)
  orders_by bearer to (confirm_input ue other Ul pdu content) = if_here bearer other (of_confirmed content)
  orders_by bearer to (offer_input ue other packet) = if_here bearer other (of_offer packet)
  orders_by bearer to (order_input order) = of_order to order
  orders_by bearer to input = none

  -- ---- what they ask for. Owed is that what is taken from a radio, or confirmed there, is the first that stands there; that a report
  -- says what was carried up; and that an arrival may lead where it leads.

  abbrev pub AssumedTaken : Content → Type 0
  AssumedTaken (packet_content None packet) = ⊤
  AssumedTaken (packet_content (Some count) packet) = b.down.air ≡ (count, packet) ∷ rest_of b.down.air
  AssumedTaken (report_content fmc bits) = (i : ℕ) → is_reported fmc bits i ≡ true → i < b.up.reached

  abbrev pub AssumedConfirmed : Content → Type 0
  AssumedConfirmed (packet_content None packet) = ⊤
  AssumedConfirmed (packet_content (Some count) packet) = b.up.carried ≡ count ∷ rest_of b.up.carried
  AssumedConfirmed (report_content fmc bits) = ⊤

  abbrev pub AssumedArrival : Option ℕ → Type 0
  AssumedArrival None = ⊤
  AssumedArrival (Some x) = IsAssumed b.up (arrives x) × down_assumptions.IsAssumed b.down (down.arrives x)

  abbrev pub AssumedOrder : Option ℕ → UeOrder → Type 0
  AssumedOrder to (orders.Arrive ue) = AssumedArrival to
  AssumedOrder to order = ⊤

  unfoldable pub IsAssumedFor : BearerId → Option ℕ → Input C P → Type 0
  IsAssumedFor bearer to (radio_input ue other Dl pdu content) = eq_by_cmp bearer_cmp bearer other ≡ true → AssumedTaken content
  IsAssumedFor bearer to (confirm_input ue other Ul pdu content) = eq_by_cmp bearer_cmp bearer other ≡ true → AssumedConfirmed content
  IsAssumedFor bearer to (order_input order) = AssumedOrder to order
  IsAssumedFor bearer to input = ⊤

abbrev pub AllKept : Models → Orders → Type 0
AllKept b o = AreKept b.up o.up × ((sn : SnBits) (quota : ℕ) → down_assumptions.AreKept sn quota b.down o.down)

-- ---- what is put: packets on this bearer's radio, where PDUs are what they say, and those that are delivered

abbrev pub packet_in : Pdu → List (ℕ × List ℕ)
packet_in (packet_pdu count packet) = (count, packet) ∷ []
packet_in (report_pdu fmc bits) = []

unfoldable pub packets_put : {M : Type 0} → BearerId → List (Output M Pdu) → List (ℕ × List ℕ)
packets_put bearer [] = []
packets_put bearer (radio ue other Ul epoch tag pdu ∷ outputs) =
    (if eq_by_cmp bearer_cmp bearer other then packet_in pdu else []) ++ packets_put bearer outputs
packets_put bearer (output ∷ outputs) = packets_put bearer outputs

unfoldable pub packets_delivered : {M P : Type 0} → BearerId → List (Output M P) → List (ℕ × List ℕ)
packets_delivered bearer [] = []
packets_delivered bearer (deliver ue other Dl count packet ∷ outputs) =
    (if eq_by_cmp bearer_cmp bearer other then (count, packet) ∷ [] else []) ++ packets_delivered bearer outputs
packets_delivered bearer (output ∷ outputs) = packets_delivered bearer outputs

-- what still stands on the radio up after these orders, of what stood there before; the rest was put meanwhile
unfoldable pub left_on : List (ℕ × List ℕ) → List ModelStep → List (ℕ × List ℕ)
left_on air [] = air
left_on air (connects ∷ os) = left_on [] os
left_on air (leaves ∷ os) = left_on [] os
left_on air (arrives x ∷ os) = left_on [] os
left_on air (o ∷ os) = left_on air os

-- The terminal shows the models after these orders; what it put on the bearer's radio is what came there, and what it delivered is what
-- was delivered more.
pub record IsAfter {M : Type 0} (bearer : BearerId) (b : Models) (o : Orders) (outputs : List (Output M Pdu)) (v : UeNode) : Type 0 where
  pub shown : IsShown v bearer (carried_out b o)
  pub air : (carried_out b o).up.air ≡ left_on b.up.air o.up ++ packets_put bearer outputs
  pub delivered : (carried_out b o).down.delivered ≡ b.down.delivered ++ packets_delivered bearer outputs

unfoldable pub Follows : {M : Type 0} → BearerId → Models → Orders → Answer M Pdu UeNode → Type 0
Follows bearer b o (gives outputs v) = IsAfter bearer b o outputs v
Follows bearer b o (spent counter) = ⊤

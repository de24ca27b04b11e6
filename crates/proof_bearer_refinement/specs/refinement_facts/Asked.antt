-- What is asked of each order of a step, but for where its item stands: what the unit tests, what is assumed of control, and where its hop
-- leads.
use Rattle.std.specs.Prelude.{◌≡◌, ◌≢◌, ◌⊎◌, ◌==◌, ◌&&◌, ℕ, List, [], ◌∷◌, map, Option, Some, None, ⊤}
use Rattle.gnb_types.specs.declared.names.Gnb.{Gnb}
use Rattle.gnb_types.specs.declared.names.NodeId.TheVariants.{CuUp as up_id}
use Rattle.gnb_types.specs.declared.names.SnBits.{SnBits}
use Rattle.gnb_types.specs.declared.names.UeId.{UeId}
use Rattle.gnb_types.specs.declared.names.BearerId.{BearerId}
use Rattle.gnb_types.specs.declared.keys.TunnelEnd.{TunnelEnd}
use Rattle.message_types.specs.declared.rrc.Token.{Token}
use Rattle.unit_defs.specs.Ways.{Message, Pdu, Load, Input, Output, gives}
use Rattle.unit_defs.specs.CuUpRecords.{forwarding_down, forwarding_up}
use Rattle.unit_defs.specs.CuUpItems.{held_reason}
use Rattle.unit_defs.specs.CuUp.{cu_up_acts}
use Rattle.run_defs.specs.Lines.{RunLine}
use Rattle.run_defs.specs.Units.{cu_up_of, with_cu_up}
use Rattle.run_defs.specs.Written.{Written, written_put}
use Rattle.run_defs.specs.States.{sn_of, goes}
use Rattle.run_defs.specs.Steps.{carried_out}
use Rattle.run_defs.specs.Runs.{Reading, plain_world, plain_way, input_of}
use Rattle.bearer_defs.specs.chain_defs.Models as down_models
use Rattle.bearer_defs.specs.chain_defs.Orders as down
use Rattle.bearer_defs.specs.uplink_defs.Models as up_models
use Rattle.bearer_defs.specs.uplink_defs.Orders as up
use Rattle.proof_cu_up_orders.specs.context_orders.Orders.{CuUpModel, ContextStep, takes, model_of, carried_out as order_out}
use Rattle.proof_cu_up_orders.specs.context_orders.Inputs.{orders_of}
use Rattle.proof_cu_up_orders.specs.down_orders.Down as down_rows
use Rattle.proof_cu_up_orders.specs.orders.Up as up_rows
use Rattle.proof_cu_up_orders.specs.kept.Down.{ItemAssumes}
use Rattle.proof_cu_up_orders.specs.bearer_orders.Happenings.{Beside, Happening, asks, Contexts, context_after}
use Rattle.proof_cu_up_orders.specs.bearer_orders.Down as downs
use Rattle.proof_cu_up_orders.specs.bearer_orders.Up as ups
use Rattle.proof_cu_up_orders.specs.bearer_lists.Puts.{HopEnds, hop_after}
use Rattle.proof_cu_up_orders.specs.bearer_lists.Down as down_lists
use Rattle.proof_cu_up_orders.specs.bearer_lists.Up as up_lists
use Rattle.law_tunnels_are_owned.specs.open_tunnels.Open.{StandWhereOpen}
use Rattle.law_tunnels_are_owned.specs.owner_facts.Owned.{AreOwned}
use Rattle.law_tunnels_are_owned.specs.run_tunnels.Own.{TunnelsHoldTheirOwn}
use Rattle.proof_run_steps.specs.steps.Causes.{Cause, node_of, given_of, count_of, first_of, by_item}
use Rattle.proof_run_steps.specs.steps.IsOutcome.{IsDone}
use Rattle.law_tunnels_are_owned.specs.tunnel_book.Book.{is_kind}
use Rattle.proof_run_steps.specs.tunnel_steps.Standing.{is_end, standing}
use Rattle.proof_bearer_refinement.specs.run_unit_inputs.Happenings.{CuUpRecord}
use Rattle.proof_bearer_refinement.specs.run_bearers.Things.{PlainUnits}
use Rattle.proof_bearer_refinement.specs.run_bearers.Bearers.{Numbering, contexts_of, instance_in}
use Rattle.proof_bearer_refinement.specs.refinement_facts.Refinements.{RunState, RunItem, Owned, owned_at, downs_of, ups_of, Mirrors}

-- ---- a step of a CU-UP in a run

abbrev pub RunCause : Type 0
RunCause = Cause (Message Token) (Written (Load Pdu)) (Written Pdu)

-- the item that it takes stands first on its tunnel
abbrev pub TakesThere : RunState → RunCause → Type 0
TakesThere s (by_item end item rest) = standing s end ≡ Some (item ∷ rest)
TakesThere s cause = Unit {0}

pub record IsUpStep (reading : Reading) (s t : RunState) (gnb : Gnb) (number : ℕ) (cause : RunCause) (input : Input Token Pdu)
    (outputs : List (Output (Message Token) Pdu)) (v : CuUpRecord) : Type 0 where
  pub node : node_of cause ≡ up_id gnb number
  pub given : input_of reading (given_of cause) ≡ Some input
  pub takes_there : TakesThere s cause
  pub answers : cu_up_acts plain_way (cu_up_of s.units gnb number) input ≡ gives outputs v
  pub done : IsDone (map (written_put (sn_of s)) outputs)
  pub lines : List (RunLine (Message Token))
  pub goes_on : carried_out (plain_world reading) (node_of cause) (count_of cause) (first_of (plain_world reading) cause)
      (map (written_put (sn_of s)) outputs) (with_cu_up s.units gnb number v) s ≡ goes lines t

-- ---- what it is for one bearer: orders to the bearer's context there

-- the number of the bearer's context, or of the one that comes next
abbrev pub context_at : Numbering → UeId → BearerId → PlainUnits → Gnb → ℕ → ℕ
context_at n ue bearer u gnb number =
    let r : CuUpRecord = cu_up_of u gnb number in
    n.number_of (record { gnb = gnb; number = number; instance = instance_in r.next_teid (model_of r ue bearer) })

-- what stands behind the item that is taken
abbrev pub rest_of : RunCause → List RunItem
rest_of (by_item end item rest) = rest
rest_of cause = []

-- what the run says beside an order: what is left on the tunnel; and what it is told of where a freeze leads, of the radio, and of releases
abbrev pub beside_of : RunCause → Beside → Beside
beside_of cause b = record b { left_down = downs_of (rest_of cause); left_up = ups_of (rest_of cause) }

abbrev pub asks_of : UeId → BearerId → CuUpRecord → ℕ → Input Token Pdu → Beside → List (Happening Pdu)
asks_of ue bearer r x input b = map (λ order. asks x order b) (orders_of plain_way r ue bearer input)

-- ---- where a hop leads: of all open tunnels of the bearer its two ends are the two forwarding tunnels of these contexts

abbrev pub LeadsTo : TunnelEnd → Owned → Option HopEnds → ℕ → ℕ → Type 0
LeadsTo end o None next_down next_up = Unit {0}
LeadsTo end o (Some h) next_down next_up =
    (is_end end h.peer h.down ≡ is_kind o.kind forwarding_down && o.context == next_down)
    × (is_end end h.peer h.up ≡ is_kind o.kind forwarding_up && o.context == next_up)

abbrev pub HopLeads : Numbering → UeId → BearerId → PlainUnits → Option HopEnds → ℕ → ℕ → Type 0
HopLeads n ue bearer u h next_down next_up =
    (end : TunnelEnd) (o : Owned) → owned_at n ue bearer u end ≡ Some o → LeadsTo end o h next_down next_up

-- ---- what each order asks, but for where its item stands

abbrev pub AsksDown : down_models.Model → ℕ → Beside → CuUpModel → ContextStep Pdu → Type 0
AsksDown d x b p (takes kind teid item) =
    down_rows.Stands p × (held_reason p.at p.bearer kind item ≡ None)
    × (down_rows.IsOfUplink kind item ⊎ (down_rows.IsFit p kind item × ItemAssumes d x kind item))
AsksDown d x b p order = downs.Asks d x b p order

abbrev pub AsksUp : up_models.Model → ℕ → Beside → CuUpModel → ContextStep Pdu → Type 0
AsksUp u x b p (takes kind teid item) =
    up_rows.Stands p × (held_reason p.at p.bearer kind item ≡ None) × (up_rows.IsOfDownlink kind item ⊎ up_rows.IsFit p kind item)
AsksUp u x b p order = ups.Asks u x b p order

module _ (n : Numbering) (ue : UeId) (bearer : BearerId) (units : PlainUnits) (sn : SnBits) (quota : ℕ) where
  -- a hop leads to another context, and where it leads is known
  pub record Asks (d : down_models.Model) (u : up_models.Model) (x : ℕ) (b : Beside) (p : CuUpModel) (order : ContextStep Pdu) : Type 0 where
    pub down : AsksDown d x b p order
    pub up : AsksUp u x b p order
    pub other_down : down_lists.next_after b.to (d.members x) order ≢ x
    pub other_up : up_lists.next_after b.to (u.members x) order ≢ x
    pub leads : HopLeads n ue bearer units (hop_after p order) (down_lists.next_after b.to (d.members x) order)
        (up_lists.next_after b.to (u.members x) order)

  abbrev pub AsksIn : down_models.Model → up_models.Model → ℕ → Beside → Option CuUpModel → ContextStep Pdu → Type 0
  AsksIn d u x b None order = downs.AsksAnew sn quota d x order × ups.AsksAnew u x order
  AsksIn d u x b (Some p) order = Asks d u x b p order

  abbrev pub AsksBy : down_models.Model → up_models.Model → Contexts → Happening Pdu → Type 0
  AsksBy d u cs (asks x order b) = downs.IsGiven (order_out plain_way ue bearer order (cs x)) × AsksIn d u x b (cs x) order
  AsksBy d u cs h = ⊥

  abbrev pub AllAsk : down_models.Model → up_models.Model → Contexts → List (Happening Pdu) → Type 0
  AllAsk d u cs [] = ⊤
  AllAsk d u cs (h ∷ hs) =
      AsksBy d u cs h
      × AllAsk (down.run d (downs.orders_by cs h)) (up.run u (ups.orders_by cs h)) (context_after plain_way ue bearer cs h) hs

  -- the models after all that is asked
  abbrev pub down_after : down_models.Model → Contexts → List (Happening Pdu) → down_models.Model
  down_after d cs [] = d
  down_after d cs (h ∷ hs) = down_after (down.run d (downs.orders_by cs h)) (context_after plain_way ue bearer cs h) hs

  abbrev pub up_after : up_models.Model → Contexts → List (Happening Pdu) → up_models.Model
  up_after u cs [] = u
  up_after u cs (h ∷ hs) = up_after (up.run u (ups.orders_by cs h)) (context_after plain_way ue bearer cs h) hs

-- ---- before a step, and after it

-- the models have the contexts of the CU-UPs, and their lists are the run's tunnels
pub record Refines (n : Numbering) (ue : UeId) (bearer : BearerId) (sn : SnBits) (quota : ℕ) (s : RunState) (d : down_models.Model) (u : up_models.Model) : Type 0 where
  pub mirrors : Mirrors n ue bearer s d u
  pub down : downs.Has sn quota d (contexts_of n ue bearer s.units)
  pub up : ups.Has u (contexts_of n ue bearer s.units)

-- what is so in each state that a run passes: open TEIDs have owners, tunnels stand where they are open, and hold their owner's items
pub record AreSound (s t : RunState) : Type 0 where
  pub owned : AreOwned s.units
  pub standing_there : StandWhereOpen s
  pub owned_after : AreOwned t.units
  pub own : TunnelsHoldTheirOwn t

-- what the step asks of the bearer
abbrev pub step_asks : Numbering → UeId → BearerId → RunState → Gnb → ℕ → RunCause → Input Token Pdu → Beside → List (Happening Pdu)
step_asks n ue bearer s gnb number cause input b =
    asks_of ue bearer (cu_up_of s.units gnb number) (context_at n ue bearer s.units gnb number) input (beside_of cause b)

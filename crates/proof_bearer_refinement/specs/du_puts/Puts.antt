-- What a DU puts on the tunnels of a bearer, as orders of its uplink: by whose the tunnel is.
use Rattle.std.specs.Prelude.{◌≡◌, ℕ, List, [], ◌∷◌, ◌++◌, map, Option, Some, None}
use Rattle.std.specs.List.{AllByRecursion}
use Rattle.gnb_types.specs.declared.names.Gnb.{Gnb}
use Rattle.gnb_types.specs.declared.names.NodeId.TheVariants.{Du as du_id}
use Rattle.gnb_types.specs.declared.names.UeId.{UeId}
use Rattle.gnb_types.specs.declared.names.BearerId.{BearerId}
use Rattle.message_types.specs.declared.rrc.Token.{Token}
use Rattle.unit_defs.specs.Ways.{Message, Pdu, packet_pdu, Load, uplink, Input, Output, gives}
use Rattle.unit_defs.specs.CuUpRecords.{f1u_uplink}
use Rattle.unit_defs.specs.Du.{du_acts}
use Rattle.run_defs.specs.Lines.{RunLine}
use Rattle.run_defs.specs.Units.{du_of, with_du}
use Rattle.run_defs.specs.Written.{written_put}
use Rattle.run_defs.specs.States.{sn_of, goes}
use Rattle.run_defs.specs.Steps.{carried_out}
use Rattle.run_defs.specs.Runs.{Reading, plain_world, plain_way, input_of}
use Rattle.proof_run_steps.specs.steps.Causes.{node_of, given_of, count_of, first_of}
use Rattle.bearer_defs.specs.uplink_defs.Models as up_models
use Rattle.bearer_defs.specs.uplink_defs.Orders as up
use Rattle.proof_bearer_refinement.specs.run_unit_inputs.Happenings.{DuRecord}
use Rattle.proof_bearer_refinement.specs.run_bearers.Things.{PlainUnits}
use Rattle.proof_bearer_refinement.specs.run_bearers.Bearers.{Numbering}
use Rattle.proof_bearer_refinement.specs.refinement_facts.Refinements.{RunState, Owned, owned_on}
use Rattle.proof_bearer_refinement.specs.refinement_facts.Asked.{RunCause}
use Rattle.proof_node_orders.specs.du_inputs.Puts.{OnTunnel}
use Rattle.proof_node_orders.specs.du_puts.Inputs.{ups_by}
use Rattle.proof_node_orders.specs.du_steps.Steps.{order_of}

-- ---- a step of a DU in a run

pub record IsDuStep (reading : Reading) (s t : RunState) (gnb : Gnb) (number : ℕ) (cause : RunCause) (input : Input Token Pdu)
    (outputs : List (Output (Message Token) Pdu)) (v : DuRecord) : Type 0 where
  pub node : node_of cause ≡ du_id gnb number
  pub given : input_of reading (given_of cause) ≡ Some input
  pub answers : du_acts plain_way (du_of s.units gnb number) input ≡ gives outputs v
  pub lines : List (RunLine (Message Token))
  pub goes_on : carried_out (plain_world reading) (node_of cause) (count_of cause) (first_of (plain_world reading) cause)
      (map (written_put (sn_of s)) outputs) (with_du s.units gnb number v) s ≡ goes lines t

-- a packet goes to the context that the terminal is at
abbrev pub IsAtStation : ℕ → Load Pdu → ℕ → Type 0
IsAtStation station (uplink (packet_pdu count packet)) x = x ≡ station
IsAtStation station load x = Unit {0}

-- where the tunnel is open as the bearer's, it is one of its uplink tunnels
abbrev pub LeadsUp : ℕ → Load Pdu → Option Owned → Type 0
LeadsUp station load None = Unit {0}
LeadsUp station load (Some o) = (o.kind ≡ f1u_uplink) × IsAtStation station load o.context

-- what is put on a tunnel that isn't open is lost
abbrev pub order_up : up_models.Model → OnTunnel → Option Owned → List up.ModelStep
order_up u p None = []
order_up u p (Some o) = order_of o.context u p.teid p.load

module _ (n : Numbering) (ue : UeId) (bearer : BearerId) (units : PlainUnits) where
  abbrev pub owned_to : OnTunnel → Option Owned
  owned_to p = owned_on n ue bearer units p.to p.teid

  abbrev pub AllLead : ℕ → List OnTunnel → Type 0
  AllLead station ps = AllByRecursion (λ (p : OnTunnel). LeadsUp station p.load (owned_to p)) ps

  -- one after another
  unfoldable pub orders_up : up_models.Model → List OnTunnel → List up.ModelStep
  orders_up u [] = []
  orders_up u (p ∷ ps) = let first = order_up u p (owned_to p) in first ++ orders_up (up.run u first) ps

-- what a step of a DU puts for the bearer
abbrev pub puts_of : UeId → BearerId → PlainUnits → Gnb → ℕ → Input Token Pdu → List OnTunnel
puts_of ue bearer units gnb number input = ups_by plain_way ue bearer (du_of units gnb number) input

-- All that is assumed of the steps of a run, for one bearer: what is assumed of control for the packets, and, under headings of their own,
-- what of the packets isn't shown yet.
use Rattle.std.specs.Prelude.{ℕ}
use Rattle.gnb_types.specs.declared.names.Gnb.{Gnb}
use Rattle.gnb_types.specs.declared.names.SnBits.{SnBits}
use Rattle.gnb_types.specs.declared.names.UeId.{UeId}
use Rattle.gnb_types.specs.declared.names.BearerId.{BearerId}
use Rattle.message_types.specs.declared.rrc.Token.{Token}
use Rattle.unit_defs.specs.Ways.{Message, Pdu, Input}
use Rattle.transport_defs.specs.declared.ControlMessage.{ControlMessage}
use Rattle.proof_node_orders.specs.core_rows.Shown.{goal_by}
use Rattle.bearer_defs.specs.chain_defs.Assumptions as down_assumptions
use Rattle.proof_cu_up_orders.specs.bearer_orders.Happenings.{Beside}
use Rattle.proof_bearer_refinement.specs.run_bearers.Bearers.{Numbering, contexts_of}
use Rattle.proof_bearer_refinement.specs.refinement_facts.Asked.{RunCause}
use Rattle.law_handover_delivers.specs.assumptions.Assumed.{AllAssume, final_asks}
use Rattle.proof_bearer_refinement.specs.core_step.Core.{orders_told}
use Rattle.proof_bearer_refinement.specs.runs.Steps.{Point}
use Rattle.law_handover_delivers.specs.core_path.Paths.{NamesN3}

module _ (n : Numbering) (ue : UeId) (bearer : BearerId) (sn : SnBits) (quota : ℕ) (p : Point) where
  -- ---- a CU-UP acts

  pub record OfCuUp (gnb : Gnb) (number : ℕ) (cause : RunCause) (input : Input Token Pdu) (beside : Beside) : Type 0 where
    -- Control (`Assumes` of `law_handover_delivers::assumptions`): a context is made as a target, a freeze leads from the context that the
    -- terminal is at to an untouched one, by the forwarding tunnels of that one, an SN status says what the source had, switch, resume,
    -- release and closing come where they belong, and End Markers and COUNTs to a bearer that takes them. That what confirms a COUNT, or
    -- reports one, says only what was received (`ItemAssumes`) stands among them, as `law_handover_delivers::core_path` asks it; over runs
    -- `law_handover_delivers::report_runs` shows it.
    pub assumes : AllAssume n ue bearer p.state.units sn quota p.down p.up (contexts_of n ue bearer p.state.units)
        (final_asks n ue bearer p.state gnb number cause input beside)

  -- ---- a DU acts: where it takes what stands next on the radio up, `ServingDuLeads` of `proof_bearer_refinement::serving_du`; else
  -- nothing (`proof_bearer_refinement::du_without_uplink`)

  -- ---- a packet is offered: nothing

  -- ---- the core takes a message

  -- Control: a path switch names the N3 tunnel of the context that the terminal is at, after the one that feeds it.
  pub record OfMessage (l : ControlMessage (Message Token)) : Type 0 where
    pub names : NamesN3 n ue bearer p.state.units (goal_by ue bearer p.state.core l.from l.message)
    pub asks : down_assumptions.AreKept sn quota p.down (orders_told n ue bearer p.state l)

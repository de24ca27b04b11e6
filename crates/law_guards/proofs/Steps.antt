-- What is assumed, put together with what each step is.
use Rattle.std.proofs.Common.{◌≡◌, ℕ, List}
use Rattle.gnb_types.specs.declared.names.Gnb.{Gnb}
use Rattle.gnb_types.specs.declared.names.SnBits.{SnBits}
use Rattle.gnb_types.specs.declared.names.UeId.{UeId}
use Rattle.gnb_types.specs.declared.names.BearerId.{BearerId}
use Rattle.message_types.specs.declared.rrc.Token.{Token}
use Rattle.unit_defs.specs.Core.{CorePath, CoreRecord}
use Rattle.unit_defs.specs.Ways.{Message, Pdu, Input, Output}
use Rattle.transport_defs.specs.declared.ControlMessage.{ControlMessage}
use Rattle.run_defs.specs.Runs.{Reading}
use Rattle.bearer_defs.specs.chain_defs.Orders as down
use Rattle.proof_cu_up_orders.specs.bearer_orders.Happenings.{Beside}
use Rattle.proof_bearer_refinement.specs.run_unit_inputs.Happenings.{CuUpRecord}
use Rattle.proof_bearer_refinement.specs.run_bearers.Bearers.{Numbering, contexts_of}
use Rattle.proof_bearer_refinement.specs.refinement_facts.Asked.{RunCause, IsUpStep, down_after, up_after}
use Rattle.proof_bearer_refinement.specs.core_step.Core.{IsOffer, orders_offered, IsCoreStep, orders_told}
use Rattle.proof_bearer_refinement.specs.runs.Steps.{Point}
use Rattle.law_handover_delivers.specs.assumptions.Assumed.{final_asks}
use Rattle.law_handover_delivers.specs.core_path.Paths.{Step, a_cu_up, an_offer, a_message}
use Rattle.law_guards.specs.Guards.{OfCuUp, OfMessage}

module _ (reading : Reading) (n : Numbering) (ue : UeId) (bearer : BearerId) (sn : SnBits) (quota : ℕ) (p q : Point) where
  pub cu_up_step : (gnb : Gnb) (number : ℕ) (cause : RunCause) (input : Input Token Pdu) (outputs : List (Output (Message Token) Pdu)) (left : CuUpRecord)
      (beside : Beside) → IsUpStep reading p.state q.state gnb number cause input outputs left → OfCuUp n ue bearer sn quota p gnb number cause input beside
      → q.down ≡ down_after n ue bearer p.state.units sn quota p.down (contexts_of n ue bearer p.state.units)
      (final_asks n ue bearer p.state gnb number cause input beside)
      → q.up ≡ up_after n ue bearer p.state.units sn quota p.up (contexts_of n ue bearer p.state.units)
      (final_asks n ue bearer p.state gnb number cause input beside) → Step reading n ue bearer sn quota p q
  cu_up_step gnb number cause input outputs left beside acts assumed down_is up_is = a_cu_up (record {
    gnb = gnb;
    number = number;
    cause = cause;
    input = input;
    outputs = outputs;
    left = left;
    beside = beside;
    acts = acts;
    assumes = assumed.assumes;
    down = down_is;
    up = up_is;
  })

  pub offer_step : (who : UeId) (which : BearerId) (packet : List ℕ) (path : CorePath) → IsOffer reading p.state q.state who which packet path
      → q.down ≡ down.run p.down (orders_offered ue bearer who which packet) → q.up ≡ p.up
      → Step reading n ue bearer sn quota p q
  offer_step who which packet path offers down_is up_is = an_offer (record {
    who = who;
    which = which;
    packet = packet;
    path = path;
    offers = offers;
    down = down_is;
    up = up_is;
  })

  pub message_step : (number : ℕ) (control_message : ControlMessage (Message Token)) (outputs : List (Output (Message Token) Pdu)) (core : CoreRecord (Message Token) Token)
      → IsCoreStep reading p.state q.state number control_message outputs core → OfMessage n ue bearer sn quota p control_message
      → q.down ≡ down.run p.down (orders_told n ue bearer p.state control_message) → q.up ≡ p.up → Step reading n ue bearer sn quota p q
  message_step number control_message outputs core takes assumed down_is up_is = a_message (record {
    number = number;
    control_message = control_message;
    outputs = outputs;
    core = core;
    takes = takes;
    names = assumed.names;
    asks = assumed.asks;
    down = down_is;
    up = up_is;
  })

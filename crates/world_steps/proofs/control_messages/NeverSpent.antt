-- The core spends no counter: each of its rows gives.
use Rattle.std.proofs.Common.{◌≡◌, ℕ, List, [], map, Option, Some, None}
use Rattle.std.specs.Prelude.{Ok, Err}
use Rattle.gnb_types.specs.declared.names.NodeId.{NodeId}
use Rattle.gnb_types.specs.declared.names.NodeId.TheVariants.{CuCp, CuUp, Du, Core, Ue}
use Rattle.gnb_types.specs.declared.keys.Channel.{Channel}
use Rattle.gnb_types.specs.declared.outputs.Output.{Output}
use Rattle.message_types.specs.declared.xn.CoreMessage.TheVariants as cores
use Rattle.transaction_defs.specs.Callees.{Verdict, new, again, stale, verdict, taken, kept_reply}
use Rattle.unit_defs.specs.Ways.{Message, f1, e1, xn, core, rrc, Way, control_input, packet_input, radio_input, confirm_input, offer_input, tick_input, order_input, Answer, gives, spent}
use Rattle.unit_defs.specs.Transactions.{Kind, request, reply, transfer, kind_of, Transactions, replied, answered_again, request_by, on_request}
use Rattle.unit_defs.specs.Messages.{channel}
use Rattle.unit_defs.specs.Core.{CoreRecord, asked, came, core_acts, switch_path}
use Rattle.unit_defs.specs.octet_defs.Codec.{Codec, octet_way}
use Rattle.unit_defs.specs.octet_defs.Reading.{ReadInput, read_message}
use Rattle.unit_defs.specs.octet_defs.Units.{OctetAnswer, acts_on, core_takes, core_steps}
use Rattle.run_defs.specs.States.{core_stepped}
use Rattle.run_defs.specs.UnitRuns.{core_done, put_of}
use Rattle.run_links.specs.Networks.{Octets, OctetCore}
use Rattle.unit_messages.specs.declared.steps.StepError.{StepError}
use Rattle.unit_messages.specs.declared.steps.StepError.TheVariants as errors
use Rattle.unit_messages.specs.steps.Steps.{stepped, stopped, step_after, IsStep}
use Rattle.world_steps.specs.Gives.{cause_of}
use Rattle.world_steps.specs.control_messages.ControlMessages.{CoreGives}

abbrev IsGiving : {M P R : Type 0} → Answer M P R → Type 0
IsGiving (gives outputs after) = Unit {0}
IsGiving (spent counter) = ⊥

module _ {M C P : Type 0} (way : Way M C P) where
  switch_gives : (ch : Channel) (message : Message C) (r : CoreRecord M C) → IsGiving (asked way ch message r)
  unfolding switch_path replied
  switch_gives ch (core (cores.PathSwitchRequest ue instance peer n3)) r = tt
  switch_gives ch (core (cores.PathSwitchAcknowledge ue instance)) r = tt
  switch_gives ch (f1 message) r = tt
  switch_gives ch (e1 message) r = tt
  switch_gives ch (xn message) r = tt
  switch_gives ch (rrc token) r = tt

  again_gives : (r : CoreRecord M C) (ch : Channel) (kept : Option M) → IsGiving (answered_again way r ch kept)
  again_gives r ch None = tt
  again_gives r ch (Some kept) = tt

  request_gives : (r : CoreRecord M C) (t : Transactions M C) (ch : Channel) (instance : ℕ) (row : Transactions M C → Answer M P (CoreRecord M C))
      → ((t : Transactions M C) → IsGiving (row t)) → (v : Verdict) → IsGiving (request_by way r t ch instance row v)
  request_gives r t ch instance row all new = all (record t { callee = taken t.callee ch instance })
  request_gives r t ch instance row all again = again_gives r ch (kept_reply t.callee ch)
  request_gives r t ch instance row all stale = tt

  came_gives : (from : NodeId) (message : Message C) (r : CoreRecord M C) (kind : Kind) → IsGiving (came way from message r kind)
  unfolding on_request
  came_gives from message r (request ue instance) =
      request_gives r r.transactions (channel ue from) instance (λ t. asked way (channel ue from) message (record r { transactions = t }))
      (λ t. switch_gives (channel ue from) message (record r { transactions = t })) (verdict r.transactions.callee (channel ue from) instance)
  came_gives from message r (reply ue instance) = tt
  came_gives from message r (transfer ue) = tt

  acts_gives : (r : CoreRecord M C) (from : NodeId) (message : Message C) → IsGiving (core_acts way r from message)
  unfolding core_acts
  acts_gives r (CuCp gnb) message = came_gives (CuCp gnb) message r (kind_of message)
  acts_gives r (CuUp gnb number) message = tt
  acts_gives r (Du gnb number) message = tt
  acts_gives r (Ue ue) message = tt
  acts_gives r Core message = tt

steps_give : (codec : Codec) (r : OctetCore) (from : NodeId) (octets : Octets) → IsGiving (core_steps codec r from octets)
unfolding core_steps
steps_give codec r from octets = by (read_message codec Core from octets)
  where
    by : (read : ReadInput) → IsGiving (acts_on (core_takes codec r) r read)
    by (Ok (control_input from message)) = acts_gives (octet_way codec) r from message
    by (Ok (packet_input teid item)) = tt
    by (Ok (radio_input ue bearer dir pdu content)) = tt
    by (Ok (confirm_input ue bearer dir pdu content)) = tt
    by (Ok (offer_input ue bearer packet)) = tt
    by (Ok tick_input) = tt
    by (Ok (order_input order)) = tt
    by (Err reason) = tt

-- ---- what the code of the core gives

pub core_gives : (codec : Codec) (r after : OctetCore) (from : NodeId) (octets : Octets) (outputs : List Output)
    → step_after [] (core_steps codec r from octets) ≡ stepped outputs after
    → core_done codec r (core_steps codec r from octets) ≡ core_stepped (map put_of outputs) after
core_gives codec r after from octets outputs h = by (core_steps codec r from octets) h
  where
    by : (a : OctetAnswer OctetCore) → step_after [] a ≡ stepped outputs after → core_done codec r a ≡ core_stepped (map put_of outputs) after
    by (gives puts then_r) h = cc
    by (spent counter) h = absurd cc

pub core_fails : (codec : Codec) (r after : OctetCore) (from : NodeId) (octets : Octets) (outputs : List Output) (error : StepError)
    → IsStep {X = Unit {0}} (step_after [] (core_steps codec r from octets)) outputs after (Err error)
    → CoreGives (core_done codec r (core_steps codec r from octets)) after (Err (cause_of error))
core_fails codec r after from octets outputs (errors.Spent counter) h = by (core_steps codec r from octets) (steps_give codec r from octets) h
  where
    by : (a : OctetAnswer OctetCore) → IsGiving a → step_after [] a ≡ stopped counter → ⊥
    by (gives puts then_r) g h = absurd cc
    by (spent other) g h = absurd g
core_fails codec r after from octets outputs errors.Memory h = tt

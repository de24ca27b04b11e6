-- The step of a path switch, over plain values.
use Rattle.std.proofs.Common.{◌≡◌, ℕ, List}
use Rattle.std.specs.Prelude.{Result}
use Rattle.gnb_types.specs.declared.keys.Channel.{Channel}
use Rattle.gnb_types.specs.declared.names.UeId.{UeId}
use Rattle.gnb_types.specs.declared.outputs.Output.{Output}
use Rattle.gnb_types.specs.declared.plans.Peer.{Peer}
use Rattle.gnb_types.specs.declared.plans.Tunnel.{Tunnel}
use Rattle.message_types.specs.declared.xn.CoreMessage.TheVariants as cores
use Rattle.unit_defs.specs.Ways.{core}
use Rattle.unit_defs.specs.Transactions.{replied}
use Rattle.unit_defs.specs.Core.{moved, switch_path}
use Rattle.unit_defs.specs.octet_defs.Codec.{Codec, octet_way}
use Rattle.unit_messages.specs.declared.steps.StepError.{StepError}
use Rattle.unit_messages.specs.steps.Steps.{stepped, step_after, IsStep}
use Rattle.unit_requests.specs.Requests.{Kept}
use Rattle.unit_requests.proofs.Thens.{goes_on}
use Rattle.core_node.specs.Cores.{OctetCore}

module _ (codec : Codec) (ch : Channel) (ue : UeId) (instance : ℕ) (peer : Peer) (n3 : List Tunnel) where
  -- the acknowledge is put, and then the path is moved
  pub switch_step : {Y : Type 0} (r after : OctetCore) (before mid outputs : List Output) (kept : Kept) (result : Result Y StepError)
      → step_after before (replied (octet_way codec) r.transactions ch (core (cores.PathSwitchAcknowledge ue instance))) ≡ stepped mid kept
      → IsStep (step_after mid (moved (octet_way codec) ue peer n3 (record r { transactions = kept }))) outputs after result
      → IsStep (step_after before (switch_path (octet_way codec) ch ue instance peer n3 r)) outputs after result
  unfolding switch_path
  switch_step r after before mid outputs kept result acknowledges moves =
      goes_on before mid (replied (octet_way codec) r.transactions ch (core (cores.PathSwitchAcknowledge ue instance)))
      (λ t. moved (octet_way codec) ue peer n3 (record r { transactions = t })) outputs kept after result acknowledges moves

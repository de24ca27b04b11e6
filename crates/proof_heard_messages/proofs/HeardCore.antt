-- What is written for a message is heard as it: CoreMessage.
use Rattle.std.proofs.Common.{◌≡◌, List, Result, Ok, refl, ap, ◌∙◌}
use Rattle.gnb_types.specs.declared.plans.Peer.{Peer}
use Rattle.gnb_types.specs.declared.plans.Tunnel.{Tunnel}
use Rattle.message_types.specs.declared.xn.CoreMessage.TheVariants as cores
use Rattle.message_types.specs.declared.xn.CoreMessage.{CoreMessage}
use Rattle.message_defs.specs.Fields.{from_tunnels, to_tunnels}
use Rattle.message_defs.specs.FromValue.{Cause}
use Rattle.message_defs.specs.Core.{written_core, core_at, core_from_value}
use Rattle.proof_heard_messages.proofs.Fields.{peer_back, tunnels_back}

answer : CoreMessage → Result CoreMessage Cause
answer msg = Ok msg

pub heard : (msg : CoreMessage) → core_from_value (written_core msg) ≡ Ok msg
unfolding written_core core_at core_from_value answer
heard (cores.PathSwitchRequest ue instance peer n3) =
    ap (λ (x : Peer). answer (cores.PathSwitchRequest ue instance x (to_tunnels (from_tunnels n3)))) (peer_back peer)
    ∙ ap (λ (x : List Tunnel). answer (cores.PathSwitchRequest ue instance peer x)) (tunnels_back n3)
heard (cores.PathSwitchAcknowledge ue instance) = refl

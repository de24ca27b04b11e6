-- What is written for a message is heard as it: XnMessage.
use Rattle.std.proofs.Common.{◌≡◌, List, Some, None, Result, Ok, refl, ap, ◌∙◌}
use Rattle.gnb_types.specs.declared.names.SnBits.{SnBits}
use Rattle.gnb_types.specs.declared.plans.Peer.{Peer}
use Rattle.gnb_types.specs.declared.plans.Tunnel.{Tunnel}
use Rattle.gnb_types.specs.declared.plans.SnStatus.{SnStatus}
use Rattle.message_types.specs.declared.xn.XnMessage.TheVariants as xns
use Rattle.message_types.specs.declared.xn.XnMessage.{XnMessage}
use Rattle.message_defs.specs.Fields.{from_peer, to_peer, from_tunnels, to_tunnels}
use Rattle.message_defs.specs.FromValue.{Cause}
use Rattle.message_defs.specs.Xn.{written_xn, xn_at, xn_from_value}
use Rattle.proof_heard_messages.proofs.Fields.{sn_back, peer_back, tunnels_back, statuses_back}

answer : XnMessage → Result XnMessage Cause
answer msg = Ok msg

pub heard : (msg : XnMessage) → xn_from_value (written_xn msg) ≡ Ok msg
unfolding written_xn xn_at xn_from_value answer
heard (xns.HandoverRequest ue instance epoch bearers sn quota peer du None) =
    ap (λ (x : SnBits). answer (xns.HandoverRequest ue instance epoch bearers x quota (to_peer (from_peer peer)) du None)) (sn_back sn)
    ∙ ap (λ (x : Peer). answer (xns.HandoverRequest ue instance epoch bearers sn quota x du None)) (peer_back peer)
heard (xns.HandoverRequest ue instance epoch bearers sn quota peer du (Some origin)) =
    ap (λ (x : SnBits). answer (xns.HandoverRequest ue instance epoch bearers x quota (to_peer (from_peer peer)) du (Some origin))) (sn_back sn)
    ∙ ap (λ (x : Peer). answer (xns.HandoverRequest ue instance epoch bearers sn quota x du (Some origin))) (peer_back peer)
heard (xns.HandoverRequestAcknowledge ue instance peer forward_down forward_up) =
    ap (λ (x : Peer). answer (xns.HandoverRequestAcknowledge ue instance x (to_tunnels (from_tunnels forward_down)) (to_tunnels (from_tunnels forward_up)))) (peer_back peer)
    ∙ ap (λ (x : List Tunnel). answer (xns.HandoverRequestAcknowledge ue instance peer x (to_tunnels (from_tunnels forward_up)))) (tunnels_back forward_down)
    ∙ ap (λ (x : List Tunnel). answer (xns.HandoverRequestAcknowledge ue instance peer forward_down x)) (tunnels_back forward_up)
heard (xns.HandoverPreparationFailure ue instance cause) = refl
heard (xns.SnStatusTransfer ue instance statuses) = ap (λ (x : List SnStatus). answer (xns.SnStatusTransfer ue instance x)) (statuses_back statuses)
heard (xns.HandoverCancel ue instance) = refl
heard (xns.UeContextRelease ue instance) = refl
heard (xns.TransportConfirm ue instance) = refl

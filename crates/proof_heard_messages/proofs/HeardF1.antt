-- What is written for a message is heard as it: F1.
use Rattle.std.proofs.Common.{◌≡◌, List, Result, Ok, refl, ap, ◌∙◌}
use Rattle.gnb_types.specs.declared.names.SnBits.{SnBits}
use Rattle.gnb_types.specs.declared.plans.Peer.{Peer}
use Rattle.gnb_types.specs.declared.plans.Tunnel.{Tunnel}
use Rattle.message_types.specs.declared.f1.F1.TheVariants as f1s
use Rattle.message_defs.specs.Fields.{from_sn, to_sn, from_peer, to_peer}
use Rattle.message_defs.specs.FromValue.{Cause}
use Rattle.message_defs.specs.F1.{F1Message, written_f1, f1_at, f1_from_value}
use Rattle.proof_heard_messages.proofs.Fields.{sn_back, peer_back, tunnels_back}

answer : F1Message → Result F1Message Cause
answer msg = Ok msg

pub heard : (msg : F1Message) → f1_from_value (written_f1 msg) ≡ Ok msg
unfolding written_f1 f1_at f1_from_value answer
heard (f1s.F1SetupRequest instance name) = refl
heard (f1s.F1SetupResponse instance) = refl
heard (f1s.UeContextSetupRequest ue instance epoch uplinks sn peer) =
    ap (λ (x : List Tunnel). answer (f1s.UeContextSetupRequest ue instance epoch x (to_sn (from_sn sn)) (to_peer (from_peer peer)))) (tunnels_back uplinks)
    ∙ ap (λ (x : SnBits). answer (f1s.UeContextSetupRequest ue instance epoch uplinks x (to_peer (from_peer peer)))) (sn_back sn)
    ∙ ap (λ (x : Peer). answer (f1s.UeContextSetupRequest ue instance epoch uplinks sn x)) (peer_back peer)
heard (f1s.UeContextSetupResponse ue instance downlinks) = ap (λ (x : List Tunnel). answer (f1s.UeContextSetupResponse ue instance x)) (tunnels_back downlinks)
heard (f1s.UeContextModificationRequest ue instance epoch) = refl
heard (f1s.UeContextModificationResponse ue instance downlinks) = ap (λ (x : List Tunnel). answer (f1s.UeContextModificationResponse ue instance x)) (tunnels_back downlinks)
heard (f1s.UeContextReleaseCommand ue instance) = refl
heard (f1s.UeContextReleaseComplete ue instance) = refl
heard (f1s.DlRrcMessageTransfer ue container) = refl
heard (f1s.UlRrcMessageTransfer ue container) = refl

-- Messages whose containers are tokens, as octets: a container is spelled first, and then the message around it.
use Rattle.std.specs.Prelude.{ℕ, List}
use Rattle.message_types.specs.declared.f1.F1.{F1}
use Rattle.message_types.specs.declared.f1.F1.TheVariants as f1s
use Rattle.message_types.specs.declared.rrc.Token.{Token}
use Rattle.unit_defs.specs.Ways.{Message, f1, e1, xn, core, rrc}
use Rattle.unit_defs.specs.octet_defs.Codec.{Codec}

abbrev pub f1_with : {C D : Type 0} → (C → D) → F1 C → F1 D
f1_with f (f1s.F1SetupRequest instance name) = f1s.F1SetupRequest instance name
f1_with f (f1s.F1SetupResponse instance) = f1s.F1SetupResponse instance
f1_with f (f1s.UeContextSetupRequest ue instance epoch uplinks sn peer) = f1s.UeContextSetupRequest ue instance epoch uplinks sn peer
f1_with f (f1s.UeContextSetupResponse ue instance downlinks) = f1s.UeContextSetupResponse ue instance downlinks
f1_with f (f1s.UeContextModificationRequest ue instance epoch) = f1s.UeContextModificationRequest ue instance epoch
f1_with f (f1s.UeContextModificationResponse ue instance downlinks) = f1s.UeContextModificationResponse ue instance downlinks
f1_with f (f1s.UeContextReleaseCommand ue instance) = f1s.UeContextReleaseCommand ue instance
f1_with f (f1s.UeContextReleaseComplete ue instance) = f1s.UeContextReleaseComplete ue instance
f1_with f (f1s.DlRrcMessageTransfer ue container) = f1s.DlRrcMessageTransfer ue (f container)
f1_with f (f1s.UlRrcMessageTransfer ue container) = f1s.UlRrcMessageTransfer ue (f container)

-- the same message with other containers
abbrev pub with_containers : {C D : Type 0} → (C → D) → Message C → Message D
with_containers f (f1 message) = f1 (f1_with f message)
with_containers f (e1 message) = e1 message
with_containers f (xn message) = xn message
with_containers f (core message) = core message
with_containers f (rrc token) = rrc token

-- its octets
abbrev pub spelled : Codec → Message Token → List ℕ
spelled codec message = codec.encode (with_containers (λ token. codec.encode (rrc token)) message)

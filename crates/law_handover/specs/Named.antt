-- The messages of a row of the procedure tables, by name: whom they go to, what they are, and whether the attempt awaits the answer.
use Rattle.std.specs.Prelude.{◌==◌, ℕ, zero, suc, Bool, false, List, [], ◌∷◌, ◌++◌, Option, Some, None}
use Rattle.gnb_types.specs.declared.names.NodeId.{NodeId}
use Rattle.gnb_types.specs.declared.names.NodeId.TheVariants as nodes
use Rattle.message_types.specs.declared.f1.F1.{F1}
use Rattle.message_types.specs.declared.f1.F1.TheVariants as f1s
use Rattle.message_types.specs.declared.e1.E1Message.{E1Message}
use Rattle.message_types.specs.declared.e1.E1Message.TheVariants as e1s
use Rattle.message_types.specs.declared.xn.XnMessage.{XnMessage}
use Rattle.message_types.specs.declared.xn.XnMessage.TheVariants as xns
use Rattle.message_types.specs.declared.xn.CoreMessage.{CoreMessage}
use Rattle.message_types.specs.declared.xn.CoreMessage.TheVariants as cores
use Rattle.unit_defs.specs.Ways.{Message, f1, e1, xn, core, rrc}
use Rattle.unit_defs.specs.CuCpRecords.{CuCpContext, Attempt as CpAttempt, Action, asks, cancels, replies, replies_late, sends, fails, ignores, refuses, forgets}
use Rattle.unit_defs.specs.CuCpRows.{CuCpScope, other_cu_cp, own_up, own_du}
use Rattle.handover.specs.declared.names.MessageName.{MessageName}
use Rattle.handover.specs.declared.names.MessageName.TheVariants as names
use Rattle.handover.specs.declared.names.ModeName.{ModeName}
use Rattle.handover.specs.declared.names.ModeName.TheVariants as modes
use Rattle.handover.specs.declared.names.Role.{Role}
use Rattle.handover.specs.declared.names.Role.TheVariants as roles
use Rattle.handover.specs.declared.names.Send.{Send}
use Rattle.handover.specs.declared.attempt.Awaited.{Awaited}
use Rattle.handover.specs.declared.attempt.Attempt.{Attempt}

-- ---- names of messages, and of the modes of a modification

abbrev pub f1_name : {C : Type 0} → F1 C → MessageName
f1_name (f1s.F1SetupRequest instance name) = names.F1SetupRequest
f1_name (f1s.F1SetupResponse instance) = names.F1SetupResponse
f1_name (f1s.UeContextSetupRequest ue instance epoch uplinks sn peer) = names.UeContextSetupRequest
f1_name (f1s.UeContextSetupResponse ue instance downlinks) = names.UeContextSetupResponse
f1_name (f1s.UeContextModificationRequest ue instance epoch) = names.UeContextModificationRequest
f1_name (f1s.UeContextModificationResponse ue instance downlinks) = names.UeContextModificationResponse
f1_name (f1s.UeContextReleaseCommand ue instance) = names.UeContextReleaseCommand
f1_name (f1s.UeContextReleaseComplete ue instance) = names.UeContextReleaseComplete
f1_name (f1s.DlRrcMessageTransfer ue container) = names.DlRrcMessageTransfer
f1_name (f1s.UlRrcMessageTransfer ue container) = names.UlRrcMessageTransfer

abbrev pub e1_name : E1Message → MessageName
e1_name (e1s.E1SetupRequest instance name) = names.E1SetupRequest
e1_name (e1s.E1SetupResponse instance) = names.E1SetupResponse
e1_name (e1s.BearerContextSetupRequest ue instance bearers sn quota forward) = names.BearerContextSetupRequest
e1_name (e1s.BearerContextSetupResponse ue instance uplinks n3 down up) = names.BearerContextSetupResponse
e1_name (e1s.BearerContextSetupFailure ue instance cause) = names.BearerContextSetupFailure
e1_name (e1s.BearerContextModificationRequest ue instance downlinks mode peer down up statuses du) = names.BearerContextModificationRequest
e1_name (e1s.BearerContextModificationResponse ue instance uplinks statuses) = names.BearerContextModificationResponse
e1_name (e1s.BearerContextModificationFailure ue instance cause) = names.BearerContextModificationFailure
e1_name (e1s.BearerContextReleaseCommand ue instance is_final) = names.BearerContextReleaseCommand
e1_name (e1s.BearerContextReleaseComplete ue instance) = names.BearerContextReleaseComplete

abbrev pub xn_name : XnMessage → MessageName
xn_name (xns.HandoverRequest ue instance epoch bearers sn quota peer du origin) = names.HandoverRequest
xn_name (xns.HandoverRequestAcknowledge ue instance peer down up) = names.HandoverRequestAcknowledge
xn_name (xns.HandoverPreparationFailure ue instance cause) = names.HandoverPreparationFailure
xn_name (xns.SnStatusTransfer ue instance statuses) = names.SnStatusTransfer
xn_name (xns.HandoverCancel ue instance) = names.HandoverCancel
xn_name (xns.UeContextRelease ue instance) = names.UeContextRelease
xn_name (xns.TransportConfirm ue instance) = names.TransportConfirm

abbrev pub core_name : CoreMessage → MessageName
core_name (cores.PathSwitchRequest ue instance peer n3) = names.PathSwitchRequest
core_name (cores.PathSwitchAcknowledge ue instance) = names.PathSwitchAcknowledge

-- Mode ::= ENUMERATED {uplinks, switch, freeze, status, resume, ...}
abbrev pub mode_name : ℕ → Option ModeName
mode_name zero = Some modes.Uplinks
mode_name (suc zero) = Some modes.Switch
mode_name (suc (suc zero)) = Some modes.Freeze
mode_name (suc (suc (suc zero))) = Some modes.Status
mode_name (suc (suc (suc (suc zero)))) = Some modes.Resume
mode_name (suc (suc (suc (suc (suc mode))))) = None

abbrev pub e1_mode : E1Message → Option ModeName
e1_mode (e1s.BearerContextModificationRequest ue instance downlinks mode peer down up statuses du) = mode_name mode
e1_mode message = None

-- ---- a message of a row

pub record Named : Type 0 where
  pub to : NodeId
  pub message : MessageName
  pub mode : Option ModeName
  -- the attempt awaits the answer
  pub awaited : Bool

-- a token by itself is no message between units
abbrev pub named : {C : Type 0} → NodeId → Bool → Message C → List Named
named to awaited (f1 message) = record { to = to; message = f1_name message; mode = None; awaited = awaited } ∷ []
named to awaited (e1 message) = record { to = to; message = e1_name message; mode = e1_mode message; awaited = awaited } ∷ []
named to awaited (xn message) = record { to = to; message = xn_name message; mode = None; awaited = awaited } ∷ []
named to awaited (core message) = record { to = to; message = core_name message; mode = None; awaited = awaited } ∷ []
named to awaited (rrc token) = []

abbrev pub named_in : {C : Type 0} → Action C → List Named
named_in (asks to message deadline awaited) = named to awaited message
named_in (cancels to message) = named to false message
named_in (replies to message) = named to false message
named_in (replies_late to instance message) = named to false message
named_in (sends to message) = named to false message
named_in (fails cause) = []
named_in (ignores reason) = []
named_in (refuses reason) = []
named_in forgets = []

abbrev pub all_named : {C : Type 0} → List (Action C) → List Named
all_named [] = []
all_named (say ∷ says) = named_in say ++ all_named says

-- ---- the same of the messages of a call: roles are nodes of the context and of the attempt before the step

abbrev pub node_of : CuCpScope → CuCpContext → CpAttempt → Role → NodeId
node_of at c a roles.ServingDu = own_du at c.du
node_of at c a roles.TargetDu = own_du at a.du
node_of at c a roles.CuUp = own_up at c.up
node_of at c a roles.OtherCu = other_cu_cp at
node_of at c a roles.Core = nodes.Core

-- the requests whose answers an attempt awaits have numbers of their own, all others 0
abbrev pub number_of : MessageName → ℕ
number_of names.UeContextSetupRequest = 1
number_of names.UeContextModificationRequest = 2
number_of names.UeContextReleaseCommand = 3
number_of names.BearerContextSetupRequest = 4
number_of names.BearerContextModificationRequest = 5
number_of names.BearerContextReleaseCommand = 6
number_of names.HandoverRequest = 7
number_of names.PathSwitchRequest = 8
number_of message = 0

abbrev pub is_awaited_by : Option Awaited → MessageName → Bool
is_awaited_by None message = false
is_awaited_by (Some awaited) message = number_of awaited.request == number_of message

-- the next state awaits the answer to this message
abbrev pub awaits : Option Attempt → Role → MessageName → Bool
awaits None role message = false
awaits (Some h) roles.ServingDu message = is_awaited_by h.awaits.du message
awaits (Some h) roles.TargetDu message = is_awaited_by h.awaits.du message
awaits (Some h) roles.CuUp message = is_awaited_by h.awaits.cu_up message
awaits (Some h) roles.OtherCu message = is_awaited_by h.awaits.other_cu message
awaits (Some h) roles.Core message = is_awaited_by h.awaits.core message

abbrev pub all_sent : CuCpScope → CuCpContext → CpAttempt → Option Attempt → List Send → List Named
all_sent at c a next [] = []
all_sent at c a next (send ∷ rest) =
    record { to = node_of at c a send.to; message = send.message; mode = send.mode; awaited = awaits next send.to send.message }
    ∷ all_sent at c a next rest

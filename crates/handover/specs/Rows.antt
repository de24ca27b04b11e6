-- The calls of the states: what each gives and says, or why it refuses. The rows are those of the procedure tables (TS 38.401, 8.9;
-- TS 38.423, 8.2), with messages, modes and receivers by name.
use Rattle.std.specs.Prelude.{◌≡◌, ℕ, ◌+◌, Bool, true, false, not, ◌&&◌, ◌||◌, is_some, if◌then◌else◌, List, [], ◌∷◌, Option, Some, None, Result, Ok, Err}
use Rattle.gnb_types.specs.declared.names.Gnb.{Gnb}
use Rattle.gnb_types.specs.declared.names.UeId.{UeId}
use Rattle.gnb_types.specs.declared.names.NodeId.{NodeId}
use Rattle.gnb_types.specs.declared.names.NodeId.TheVariants as nodes
use Rattle.gnb_types.specs.declared.plans.Plan.{Plan}
use Rattle.message_types.specs.declared.rrc.Token.{Token}
use Rattle.message_types.specs.declared.rrc.Token.TheVariants as tokens
use Rattle.unit_defs.specs.declared.AttemptKind.{AttemptKind}
use Rattle.unit_defs.specs.declared.AttemptKind.TheVariants as kinds
use Rattle.unit_defs.specs.Messages.{is_same_gnb}
use Rattle.unit_defs.specs.CuCpRows.{is_between_dus, is_between_gnbs}
use Rattle.handover.specs.declared.names.MessageName.{MessageName}
use Rattle.handover.specs.declared.names.MessageName.TheVariants.{UeContextSetupRequest, UeContextModificationRequest, UeContextReleaseCommand, DlRrcMessageTransfer, BearerContextSetupRequest, BearerContextModificationRequest, BearerContextReleaseCommand, HandoverRequest, HandoverRequestAcknowledge, HandoverPreparationFailure, SnStatusTransfer, HandoverCancel, UeContextRelease, TransportConfirm, PathSwitchRequest}
use Rattle.handover.specs.declared.names.ModeName.{ModeName}
use Rattle.handover.specs.declared.names.ModeName.TheVariants.{Uplinks, Switch, Freeze, Resume}
use Rattle.handover.specs.declared.names.Role.{Role}
use Rattle.handover.specs.declared.names.Role.TheVariants.{ServingDu, TargetDu, CuUp, OtherCu, Core}
use Rattle.handover.specs.declared.names.Refusal.{Refusal}
use Rattle.handover.specs.declared.names.Refusal.TheVariants.{Stale, Busy}
use Rattle.handover.specs.declared.names.Send.{Send}
use Rattle.handover.specs.declared.attempt.Attempt.{Attempt}
use Rattle.handover.specs.Attempts.{new_attempt, is_awaited, is_epoch, is_after, is_finished, with_du, with_cu_up, with_core, with_other_cu}

-- ---- messages

abbrev pub sends : MessageName → Role → Send
sends message to = record { message = message; mode = None; to = to }

abbrev pub modifies : ModeName → Send
modifies mode = record { message = BearerContextModificationRequest; mode = Some mode; to = CuUp }

-- a token to the terminal goes by way of its serving DU: the command, and the acceptance of an epoch
abbrev pub tells_terminal : Send
tells_terminal = sends DlRrcMessageTransfer ServingDu

-- ---- what a call comes to

-- the next state, and the messages
abbrev pub Onward : Type 0
Onward = Attempt × List Send

-- the same where the state may be the last one
abbrev pub Ending : Type 0
Ending = Option Attempt × List Send

-- the call gives what the row says, or hands the state back as it was, with the row's refusal
abbrev pub Meets : {A : Type 0} → Result A Refusal → Attempt → Result A (Attempt × Refusal) → Type 0
Meets (Ok given) same (Ok answer) = answer ≡ given
Meets (Err refusal) same (Err answer) = (answer.0 ≡ same) × (answer.1 ≡ refusal)
Meets row same answer = ⊥

abbrev pub only_if : {A : Type 0} → Bool → A → Result A Refusal
only_if b given = if b then Ok given else Err Stale

-- ---- an attach

abbrev pub attaching : UeId → Plan → Onward
attaching ue plan =
    (with_cu_up (Some BearerContextSetupRequest) (new_attempt ue kinds.Attach 1 (Some plan)), sends BearerContextSetupRequest CuUp ∷ [])

-- the bearers have their tunnels: the DU gets the context. An offer goes on in the same way.
abbrev pub asks_du : Role → Attempt → Onward
asks_du role a = (with_du (Some UeContextSetupRequest) (with_cu_up None a), sends UeContextSetupRequest role ∷ [])

abbrev pub has_tunnels : Attempt → ℕ → Result Onward Refusal
has_tunnels a instance = only_if (is_awaited a.awaits.cu_up instance) (asks_du ServingDu a)

-- the DU is ready: the command
abbrev pub first_command : Attempt → Onward
first_command a = (with_du None a, tells_terminal ∷ [])

abbrev pub attach_is_placed : Attempt → ℕ → Result Onward Refusal
attach_is_placed a instance = only_if (is_awaited a.awaits.du instance) (first_command a)

abbrev pub attach_is_declined : Attempt → ℕ → Result (List Send) Refusal
attach_is_declined a instance = only_if (is_awaited a.awaits.cu_up instance) []

-- ---- a handover is prepared, at its source. The epoch that was accepted last is told.

abbrev pub preparing_move : UeId → ℕ → Plan → Onward
preparing_move ue epoch goal =
    (with_cu_up (Some BearerContextModificationRequest) (new_attempt ue kinds.BetweenDus (epoch + 1) (Some goal)), modifies Uplinks ∷ [])

abbrev pub preparing_handover : UeId → ℕ → Plan → Onward
preparing_handover ue epoch goal =
    (with_other_cu (Some HandoverRequest) (new_attempt ue kinds.BetweenGnbs (epoch + 1) (Some goal)), sends HandoverRequest OtherCu ∷ [])

abbrev pub preparing : UeId → Gnb → ℕ → Plan → Onward
preparing ue home epoch goal = if is_same_gnb goal.gnb home then preparing_move ue epoch goal else preparing_handover ue epoch goal

-- between DUs: further uplinks, and then the context at the target. Nothing is frozen, but the next step is the same.
abbrev pub move_has_uplinks : Attempt → ℕ → Result Onward Refusal
move_has_uplinks a instance = only_if (is_awaited a.awaits.cu_up instance) (asks_du TargetDu a)

abbrev pub awaits_command : Attempt → Onward
awaits_command a = (with_du None a, [])

abbrev pub move_is_placed : Attempt → ℕ → Result Onward Refusal
move_is_placed a instance = only_if (is_awaited a.awaits.du instance) (awaits_command a)

-- between gNBs: the target is ready, or isn't
abbrev pub freezes : Attempt → Onward
freezes a = (with_cu_up (Some BearerContextModificationRequest) (with_other_cu None a), modifies Freeze ∷ [])

abbrev pub is_acknowledged : Attempt → ℕ → Result Onward Refusal
is_acknowledged a instance = only_if (is_awaited a.awaits.other_cu instance) (freezes a)

abbrev pub preparation_is_declined : Attempt → ℕ → Result (List Send) Refusal
preparation_is_declined a instance = only_if (is_awaited a.awaits.other_cu instance) []

abbrev pub cancels : List Send
cancels = sends HandoverCancel OtherCu ∷ []

-- all is frozen, or couldn't be
abbrev pub sends_status : Attempt → Onward
sends_status a = (with_cu_up None a, sends SnStatusTransfer OtherCu ∷ [])

abbrev pub is_frozen : Attempt → ℕ → Result Onward Refusal
is_frozen a instance = only_if (is_awaited a.awaits.cu_up instance) (sends_status a)

abbrev pub freeze_is_declined : Attempt → ℕ → Result (List Send) Refusal
freeze_is_declined a instance = only_if (is_awaited a.awaits.cu_up instance) cancels

-- ---- it is given up by an order, before the command alone

abbrev pub cancel_while_preparing : Attempt → Result (List Send) Refusal
cancel_while_preparing a = if is_between_dus a.kind then Err Busy else Ok cancels

abbrev pub cancel_while_frozen : Attempt → List Send
cancel_while_frozen a =
    if is_between_dus a.kind then sends UeContextReleaseCommand TargetDu ∷ [] else sends HandoverCancel OtherCu ∷ modifies Resume ∷ []

-- ---- the terminal returns to the serving DU, with the epoch that the attempt is about: the attempt is given up

abbrev pub returning : UeId → ℕ → Attempt
returning ue epoch = with_du (Some UeContextModificationRequest) (new_attempt ue kinds.Return epoch None)

abbrev pub return_begins : UeId → ℕ → Onward
return_begins ue epoch = (returning ue epoch, sends UeContextModificationRequest ServingDu ∷ [])

abbrev pub lets_target_go : Attempt → Send
lets_target_go a = if is_between_dus a.kind then sends UeContextReleaseCommand TargetDu else sends HandoverCancel OtherCu

abbrev pub returned : Attempt → Onward
returned a = (returning a.ue a.epoch, sends UeContextModificationRequest ServingDu ∷ lets_target_go a ∷ [])

abbrev pub return_while_preparing : Attempt → ℕ → Result Onward Refusal
return_while_preparing a epoch =
    if not (is_epoch a epoch) then Err Stale else (if is_between_dus a.kind then Err Busy else Ok (returned a))

abbrev pub return_while_prepared : Attempt → ℕ → Refusal
return_while_prepared a epoch = if is_epoch a epoch then Busy else Stale

abbrev pub return_while_frozen : Attempt → ℕ → Result Onward Refusal
return_while_frozen a epoch = only_if (is_epoch a epoch) (returned a)

-- ---- after the command

abbrev pub is_attach : AttemptKind → Bool
is_attach kinds.Attach = true
is_attach kind = false

-- an attempt within the own gNB, whose target is a DU
abbrev pub is_own : AttemptKind → Bool
is_own kind = is_attach kind || is_between_dus kind

-- a path switch is asked for at an attach alone
abbrev pub path_of : AttemptKind → Option MessageName
path_of kind = if is_attach kind then Some PathSwitchRequest else None

-- it arrived: the bearers are switched, and the old DU lets go, if there is one
abbrev pub leaves_old : AttemptKind → Send
leaves_old kind = if is_attach kind then sends PathSwitchRequest Core else sends UeContextReleaseCommand ServingDu

abbrev pub completing : Attempt → Onward
completing a =
    (with_core (path_of a.kind) (with_cu_up (Some BearerContextModificationRequest) a), modifies Switch ∷ leaves_old a.kind ∷ [])

abbrev pub arrived : Attempt → ℕ → Result Onward Refusal
arrived a epoch = only_if (is_own a.kind && is_epoch a epoch) (completing a)

-- it arrived, and lost its radio before that was known: the target DU serves
abbrev pub arrived_and_lost : Attempt → ℕ → Onward
arrived_and_lost a epoch = (
  with_core (path_of a.kind) (with_du (Some UeContextModificationRequest) (record a { epoch = epoch })),
  (if is_attach a.kind
      then sends UeContextModificationRequest TargetDu ∷ sends PathSwitchRequest Core ∷ []
      else sends UeContextReleaseCommand ServingDu ∷ sends UeContextModificationRequest TargetDu ∷ []),
)

-- with the epoch of the attempt it is back, and with the one after that at the target DU
abbrev pub return_while_commanded : Attempt → ℕ → Result Onward Refusal
return_while_commanded a epoch =
    if is_epoch a epoch && not (is_attach a.kind) then Ok (returned a) else
    only_if (is_after a epoch && is_own a.kind) (arrived_and_lost a epoch)

-- the other gNB has it, and lets the source go
abbrev pub releases : Attempt → Onward
releases a = (
  with_cu_up (Some BearerContextReleaseCommand) (with_du (Some UeContextReleaseCommand) a),
  sends TransportConfirm OtherCu ∷ sends UeContextReleaseCommand ServingDu ∷ sends BearerContextReleaseCommand CuUp ∷ [],
)

abbrev pub is_let_go : Attempt → Result Onward Refusal
is_let_go a = only_if (is_between_gnbs a.kind) (releases a)

-- ---- after an arrival or a return: the bearers are switched, the epoch is accepted, and the path is switched

abbrev pub unless_finished : Attempt → Option Attempt
unless_finished a = if is_finished a then None else Some a

abbrev pub switches : Attempt → Onward
switches a = (with_cu_up (Some BearerContextModificationRequest) (with_du None a), modifies Switch ∷ [])

abbrev pub is_moved : Attempt → ℕ → Result Onward Refusal
is_moved a instance = only_if (is_awaited a.awaits.du instance) (switches a)

abbrev pub after_switch : Attempt → Attempt
after_switch a = with_cu_up None (record a { switched = true })

abbrev pub is_switched : Attempt → ℕ → Result Ending Refusal
is_switched a instance =
    only_if (is_awaited a.awaits.cu_up instance) (unless_finished (after_switch a), tells_terminal ∷ [])

abbrev pub with_no_path : Attempt → Attempt
with_no_path a = with_core None a

abbrev pub path_is_switched : Attempt → ℕ → Result Ending Refusal
path_is_switched a instance = only_if (is_awaited a.awaits.core instance) (unless_finished (with_no_path a), [])

-- ---- completing: the same; or, where the other gNB has the terminal, until DU and CU-UP have answered

abbrev pub unless_released : Attempt → Option Attempt
unless_released a = if is_some a.awaits.du || is_some a.awaits.cu_up then Some a else None

abbrev pub is_released_by : Attempt → NodeId → ℕ → Result Ending Refusal
is_released_by a (nodes.Du gnb number) instance = only_if (is_awaited a.awaits.du instance) (unless_released (with_du None a), [])
is_released_by a (nodes.CuUp gnb number) instance = only_if (is_awaited a.awaits.cu_up instance) (unless_released (with_cu_up None a), [])
is_released_by a node instance = Err Stale

abbrev pub is_switched_by : Attempt → NodeId → ℕ → Result Ending Refusal
is_switched_by a (nodes.CuUp gnb number) instance = is_switched a instance
is_switched_by a nodes.Core instance = path_is_switched a instance
is_switched_by a node instance = Err Stale

abbrev pub is_completed_by : Attempt → NodeId → ℕ → Result Ending Refusal
is_completed_by a node instance = if is_between_gnbs a.kind then is_released_by a node instance else is_switched_by a node instance

-- ---- at the target of a handover between gNBs

abbrev pub offered : UeId → ℕ → Plan → Onward
offered ue epoch plan =
    (with_cu_up (Some BearerContextSetupRequest) (new_attempt ue kinds.Offer epoch (Some plan)), sends BearerContextSetupRequest CuUp ∷ [])

abbrev pub acknowledges : Attempt → Onward
acknowledges a = (with_du None a, sends HandoverRequestAcknowledge OtherCu ∷ [])

abbrev pub offer_is_placed : Attempt → ℕ → Result Onward Refusal
offer_is_placed a instance = only_if (is_awaited a.awaits.du instance) (acknowledges a)

abbrev pub offer_is_declined : Attempt → ℕ → Result (List Send) Refusal
offer_is_declined a instance = only_if (is_awaited a.awaits.cu_up instance) (sends HandoverPreparationFailure OtherCu ∷ [])

-- the source cancels: the units that were begun are released
abbrev pub cancel_of_ready : List Send
cancel_of_ready =
    sends TransportConfirm OtherCu ∷ sends UeContextReleaseCommand ServingDu ∷ sends BearerContextReleaseCommand CuUp ∷ []

abbrev pub cancel_of_offer : Attempt → List Send
cancel_of_offer a =
    if is_some a.awaits.du then cancel_of_ready else sends TransportConfirm OtherCu ∷ sends BearerContextReleaseCommand CuUp ∷ []

-- the terminal arrives, with the epoch of the offer; or with the one after that, where it lost its radio before that was known
abbrev pub with_path : Attempt → Attempt
with_path a = with_core (Some PathSwitchRequest) a

abbrev pub takes_arrival : Attempt → Onward
takes_arrival a = (with_path (with_cu_up (Some BearerContextModificationRequest) a), modifies Switch ∷ sends PathSwitchRequest Core ∷ [])

abbrev pub takes_arrival_and_loss : Attempt → ℕ → Onward
takes_arrival_and_loss a epoch = (
  with_path (with_du (Some UeContextModificationRequest) (record a { epoch = epoch })),
  sends UeContextModificationRequest ServingDu ∷ sends PathSwitchRequest Core ∷ [],
)

abbrev pub arrives : Attempt → Token → Result Onward Refusal
arrives a (tokens.Complete ue epoch) = only_if (is_epoch a epoch) (takes_arrival a)
arrives a (tokens.Reestablish ue epoch) = only_if (is_after a epoch) (takes_arrival_and_loss a epoch)
arrives a token = Err Stale

-- it serves, and lets the source go once the path is switched
abbrev pub arrival_is_switched : Attempt → ℕ → Result Onward Refusal
arrival_is_switched a instance = only_if (is_awaited a.awaits.cu_up instance) (after_switch a, tells_terminal ∷ [])

abbrev pub lets_source_go : Send
lets_source_go = sends UeContextRelease OtherCu

abbrev pub path_of_arrival_is_switched : Attempt → ℕ → Result Onward Refusal
path_of_arrival_is_switched a instance = only_if (is_awaited a.awaits.core instance) (with_no_path a, lets_source_go ∷ [])

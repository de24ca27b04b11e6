-- Orders to the bearers of a context, one after another.
use Rattle.std.specs.Prelude.{◌≡◌, ℕ, ◌≤◌, Bool, true, List, ◌++◌, length}
use Rattle.std.specs.List.{AllByRecursion}
use Rattle.gnb_types.specs.declared.names.NodeId.{NodeId}
use Rattle.gnb_types.specs.declared.names.UeId.{UeId}
use Rattle.gnb_types.specs.declared.names.BearerId.{BearerId}
use Rattle.gnb_types.specs.declared.plans.Tunnel.{Tunnel}
use Rattle.gnb_types.specs.declared.plans.SnStatus.{SnStatus}
use Rattle.gnb_types.specs.declared.outputs.Output.{Output}
use Rattle.unit_defs.specs.CuUpRecords.{CuUpBearer, CuUpContext, CuUpScope, cu_up_scope}
use Rattle.unit_defs.specs.CuUpBearers.{bits_in, switched, frozen_to, resumed}
use Rattle.unit_defs.specs.Messages.{teid_of}
use Rattle.unit_defs.specs.CuUp.{UpStep, steps, stops, each_bearer}
use Rattle.unit_defs.specs.octet_defs.Codec.{Codec, octet_way}
use Rattle.unit_defs.specs.octet_defs.Units.{OctetAnswer}
use Rattle.unit_defs.specs.octet_defs.Writing.{outputs_of}
use Rattle.unit_messages.specs.steps.Steps.{Step, stepped, stopped}
use Rattle.cu_up_bearer.specs.declared.tunnels.at.Scope.{Scope}
use Rattle.cu_up_bearer.specs.tunnels.Tunnels.{flags_as}
use Rattle.cu_up_contexts.specs.declared.bearer_context.orders.BearerOrder.{BearerOrder}
use Rattle.cu_up_contexts.specs.declared.bearer_context.orders.BearerOrder.TheVariants as order

-- the bearers, after outputs that were made before
abbrev pub bearers_after : (codec : Codec) → List Output → UpStep (octet_way codec) → Step (List (BearerId × CuUpBearer))
bearers_after codec before (steps outputs bearers) = stepped (before ++ outputs_of outputs) bearers
bearers_after codec before (stops counter) = stopped counter

-- the same, and the context with them
abbrev pub context_after : (codec : Codec) → List Output → CuUpContext → UpStep (octet_way codec) → Step CuUpContext
context_after codec before c (steps outputs bearers) = stepped (before ++ outputs_of outputs) (record c { bearers = bearers })
context_after codec before c (stops counter) = stopped counter

-- what an order is to one bearer
abbrev pub row_of : Codec → BearerOrder → CuUpScope → CuUpBearer → OctetAnswer CuUpBearer
row_of codec (order.Switch du downlinks) at b = switched (octet_way codec) at du (teid_of downlinks.now at.bearer) b
row_of codec (order.Freeze peer down up) at b = frozen_to (octet_way codec) at peer (teid_of down.now at.bearer) (teid_of up.now at.bearer) b
row_of codec order.Resume at b = resumed (octet_way codec) at b

-- only a context that has its SN status is resumed
abbrev pub IsAllowed : BearerOrder → Bool → Type 0
IsAllowed order.Resume may_serve = may_serve ≡ true
IsAllowed o may_serve = Unit {0}

-- each bearer of a context begins its downlink on its tunnel of this list; gives all that it holds to its tunnels of these lists; goes on
abbrev pub switched_each : (codec : Codec) → UeId → NodeId → List Tunnel → CuUpContext → UpStep (octet_way codec)
switched_each codec ue du downlinks c =
    each_bearer (octet_way codec) (λ id. switched (octet_way codec) (cu_up_scope ue c id) du (teid_of downlinks id)) c.bearers

abbrev pub frozen_each : (codec : Codec) → UeId → NodeId → List Tunnel → List Tunnel → CuUpContext → UpStep (octet_way codec)
frozen_each codec ue peer down up c =
    each_bearer (octet_way codec) (λ id. frozen_to (octet_way codec) (cu_up_scope ue c id) peer (teid_of down id) (teid_of up id)) c.bearers

abbrev pub resumed_each : (codec : Codec) → UeId → CuUpContext → UpStep (octet_way codec)
resumed_each codec ue c = each_bearer (octet_way codec) (λ id. resumed (octet_way codec) (cu_up_scope ue c id)) c.bearers

-- at another bearer of the same context, and a context that has what they share
abbrev pub at_bearer : Scope → BearerId → Scope
at_bearer a id = record a { bearer = id }

abbrev pub holder : ℕ → Scope → List (BearerId × CuUpBearer) → CuUpContext
holder instance a bearers = record { instance = instance; sn = a.sn; quota = a.quota; flags = flags_as a.flags; bearers = bearers }

-- statuses whose bits fit a report
abbrev pub AreShort : List SnStatus → Type 0
AreShort ss = AllByRecursion (λ s. length (bits_in s.ul_received) ≤ 4096) ss

-- The rows of a CU-UP's orders, without their tests and replies: at a terminal that has no context nothing is done.
use Rattle.std.specs.Prelude.{ℕ, not, if◌then◌else◌, List, [], ◌∷◌, length, Option, Some, None}
use Rattle.gnb_types.specs.declared.names.NodeId.{NodeId}
use Rattle.gnb_types.specs.declared.names.UeId.{UeId}
use Rattle.gnb_types.specs.declared.outputs.Output.{Output}
use Rattle.gnb_types.specs.declared.outputs.Output.TheVariants as outs
use Rattle.gnb_types.specs.declared.plans.Tunnel.{Tunnel}
use Rattle.gnb_types.specs.declared.plans.SnStatus.{SnStatus}
use Rattle.unit_defs.specs.Ways.{spent, nothing, teids_spent}
use Rattle.unit_defs.specs.Teids.{teids_are_left}
use Rattle.unit_defs.specs.CuUpRecords.{CuUpContext}
use Rattle.unit_defs.specs.CuUp.{answer_with, as_switched, as_frozen, as_known, as_resumed, status_each, teids_from, uplinks_from, uplinks_given, ended}
use Rattle.unit_defs.specs.octet_defs.Codec.{Codec, octet_way}
use Rattle.unit_defs.specs.octet_defs.Units.{OctetAnswer}
use Rattle.cu_up_contexts.specs.bearer_context.Orders.{switched_each, frozen_each, resumed_each}
use Rattle.cu_up_contexts.specs.contexts.Tables.{OctetUp}

-- the TEIDs that an output closes
abbrev pub closed_of : Output → List ℕ
closed_of (outs.Closed teid) = teid ∷ []
closed_of output = []

module _ (codec : Codec) where
  -- `switch` with this DU and these downlinks
  abbrev pub switched_at : UeId → NodeId → List Tunnel → OctetUp → Option CuUpContext → OctetAnswer OctetUp
  switched_at ue du downlinks r None = nothing r
  switched_at ue du downlinks r (Some c) =
      let on = as_switched (octet_way codec) c in
      answer_with (octet_way codec) r ue on (switched_each codec ue du downlinks on)

  -- `freeze` with this CU-UP and these forwarding tunnels
  abbrev pub frozen_at : UeId → NodeId → List Tunnel → List Tunnel → OctetUp → Option CuUpContext → OctetAnswer OctetUp
  frozen_at ue peer down up r None = nothing r
  frozen_at ue peer down up r (Some c) =
      let on = as_frozen (octet_way codec) c in
      answer_with (octet_way codec) r ue on (frozen_each codec ue peer down up on)

  -- `status` with these
  abbrev pub known_at : UeId → List SnStatus → OctetUp → Option CuUpContext → OctetAnswer OctetUp
  known_at ue ss r None = nothing r
  known_at ue ss r (Some c) =
      let on = as_known (octet_way codec) c in
      answer_with (octet_way codec) r ue on (status_each (octet_way codec) ue on ss c.bearers)

  -- `resume`
  abbrev pub resumed_at : UeId → OctetUp → Option CuUpContext → OctetAnswer OctetUp
  resumed_at ue r None = nothing r
  resumed_at ue r (Some c) =
      let on = as_resumed (octet_way codec) c in
      answer_with (octet_way codec) r ue on (resumed_each codec ue on)

  -- `uplinks`: if there are TEIDs, one for each bearer from the next one on
  abbrev pub uplinks_at : ℕ → Option CuUpContext → List Tunnel
  uplinks_at next None = []
  uplinks_at next (Some c) = teids_from (octet_way codec) next c.bearers

  abbrev pub added_at : UeId → OctetUp → Option CuUpContext → OctetAnswer OctetUp
  added_at ue r None = nothing r
  added_at ue r (Some c) =
      if not (teids_are_left r.next_teid (length c.bearers)) then spent teids_spent else
      (answer_with (octet_way codec) (uplinks_given (octet_way codec) ue r c (uplinks_at r.next_teid (Some c))) ue c
      (uplinks_from (octet_way codec) r.next_teid c.bearers))

  -- the end of a context, at once
  abbrev pub ended_at : UeId → OctetUp → Option CuUpContext → OctetAnswer OctetUp
  ended_at ue r None = nothing r
  ended_at ue r (Some c) = ended (octet_way codec) r ue c

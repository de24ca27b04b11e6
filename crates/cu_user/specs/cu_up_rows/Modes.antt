-- Bearer Context Modification by its mode, at a terminal that has a context or has none; and the tests of each mode. What a request asks for
-- goes beside its channel, terminal and instance.
use Rattle.std.specs.Prelude.{ℕ, Bool, false, not, ◌&&◌, List, [], Option, Some, None}
use Rattle.gnb_types.specs.declared.keys.Channel.{Channel}
use Rattle.gnb_types.specs.declared.names.UeId.{UeId}
use Rattle.gnb_types.specs.declared.plans.Peer.{Peer}
use Rattle.gnb_types.specs.declared.plans.SnStatus.{SnStatus}
use Rattle.gnb_types.specs.declared.plans.Tunnel.{Tunnel}
use Rattle.gnb_types.specs.declared.reasons.DropReason.TheVariants.{NoContext, Unexpected}
use Rattle.unit_defs.specs.Ways.{◌then◌, drops}
use Rattle.unit_defs.specs.Messages.{bearers_of, statuses_of, are_bearers}
use Rattle.unit_defs.specs.CuUpRecords.{CuUpContext}
use Rattle.unit_defs.specs.CuUp.{names, statuses, peer_node, modified, replies, uplinks_if, switch_if, freeze_if, status_if, resume_if}
use Rattle.unit_defs.specs.octet_defs.Codec.{Codec, octet_way}
use Rattle.unit_defs.specs.octet_defs.Units.{OctetAnswer}
use Rattle.cu_up_contexts.specs.contexts.Tables.{OctetUp}
use Rattle.cu_up_contexts.specs.contexts.Rows.{frozen_at}

-- what no row is for
abbrev pub refused_on : OctetUp → Option CuUpContext → OctetAnswer OctetUp
refused_on r None = drops NoContext r
refused_on r (Some c) = drops Unexpected r

module _ (codec : Codec) where
  -- ---- which state, and which lists, a mode fits

  abbrev pub is_named : CuUpContext → List Tunnel → Bool
  is_named c tunnels = are_bearers (names (octet_way codec) c) (bearers_of tunnels)

  abbrev pub may_add : Option CuUpContext → Bool
  may_add None = false
  may_add (Some c) = not c.flags.released

  abbrev pub may_switch : List Tunnel → Option CuUpContext → Bool
  may_switch downlinks None = false
  may_switch downlinks (Some c) = not c.flags.released && is_named c downlinks

  abbrev pub may_freeze : List Tunnel → List Tunnel → Option CuUpContext → Bool
  may_freeze down up None = false
  may_freeze down up (Some c) = not c.flags.frozen && (not c.flags.released && (c.flags.arrived && (is_named c down && is_named c up)))

  abbrev pub may_know : List SnStatus → Option CuUpContext → Bool
  may_know ss None = false
  may_know ss (Some c) = not c.flags.may_serve && are_bearers (names (octet_way codec) c) (statuses_of ss)

  abbrev pub may_resume : Option CuUpContext → Bool
  may_resume None = false
  may_resume (Some c) = c.flags.frozen && not c.flags.released

  abbrev pub may_serve : Option CuUpContext → Bool
  may_serve None = false
  may_serve (Some c) = c.flags.may_serve

  -- where the target of a freeze is to go on
  abbrev pub statuses_on : Option CuUpContext → List SnStatus
  statuses_on None = []
  statuses_on (Some c) = statuses (octet_way codec) c

  -- ---- the modes

  abbrev pub uplinks_on : Channel → UeId → ℕ → OctetUp → Option CuUpContext → OctetAnswer OctetUp
  uplinks_on ch ue instance r None = drops NoContext r
  uplinks_on ch ue instance r (Some c) = uplinks_if (octet_way codec) ch ue instance c r

  abbrev pub switch_on : Channel → UeId → ℕ → Option ℕ → Option (List Tunnel) → OctetUp → Option CuUpContext → OctetAnswer OctetUp
  switch_on ch ue instance du downlinks r None = drops NoContext r
  switch_on ch ue instance du downlinks r (Some c) = switch_if (octet_way codec) ch ue instance du downlinks c r

  abbrev pub freeze_on : Channel → UeId → ℕ → Option Peer → Option (List Tunnel) → Option (List Tunnel) → OctetUp → Option CuUpContext → OctetAnswer OctetUp
  freeze_on ch ue instance peer down up r None = drops NoContext r
  freeze_on ch ue instance peer down up r (Some c) = freeze_if (octet_way codec) ch ue instance peer down up c r

  abbrev pub status_on : Channel → UeId → ℕ → Option (List SnStatus) → OctetUp → Option CuUpContext → OctetAnswer OctetUp
  status_on ch ue instance ss r None = drops NoContext r
  status_on ch ue instance ss r (Some c) = status_if (octet_way codec) ch ue instance ss c r

  abbrev pub resume_on : Channel → UeId → ℕ → OctetUp → Option CuUpContext → OctetAnswer OctetUp
  resume_on ch ue instance r None = drops NoContext r
  resume_on ch ue instance r (Some c) = resume_if (octet_way codec) ch ue instance c r

  -- a freeze that fits: all that is held goes to the peer, and the response says where it is to go on
  abbrev pub frozen_and_told : Channel → UeId → ℕ → Peer → List Tunnel → List Tunnel → OctetUp → Option CuUpContext → OctetAnswer OctetUp
  frozen_and_told ch ue instance peer down up r o =
      frozen_at codec ue (peer_node (octet_way codec) peer) down up r o
      then replies (octet_way codec) ch (modified (octet_way codec) ue instance None (Some (statuses_on o)))

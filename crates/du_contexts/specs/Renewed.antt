-- A context on the radio of another epoch, with new downlink tunnels.
use Rattle.std.specs.Prelude.{ℕ, ◌+◌, false, List, [], ◌∷◌, Option, Some, None}
use Rattle.gnb_types.specs.declared.names.BearerId.{BearerId}
use Rattle.gnb_types.specs.declared.names.UeId.{UeId}
use Rattle.gnb_types.specs.declared.reasons.DropReason.TheVariants.{NoContext}
use Rattle.gnb_types.specs.declared.plans.Tunnel.{Tunnel}
use Rattle.unit_defs.specs.Ways.{drops}
use Rattle.unit_defs.specs.Du.{DuBearer, DuContext, context_anew, replaces}
use Rattle.unit_defs.specs.octet_defs.Codec.{Codec, octet_way}
use Rattle.unit_defs.specs.octet_defs.Units.{OctetAnswer}
use Rattle.du_contexts.specs.declared.renewing.Uplink.{Uplink}
use Rattle.du_contexts.specs.Tables.{OctetDu}

-- the row of a modification, without its reply
abbrev pub renewed : Codec → UeId → ℕ → OctetDu → Option DuContext → OctetAnswer OctetDu
renewed codec ue epoch r None = drops NoContext r
renewed codec ue epoch r (Some c) = replaces (octet_way codec) ue (Some c) (context_anew (octet_way codec) r epoch c) r

-- where the uplink of a bearer goes
abbrev pub uplink_of : BearerId × DuBearer → Uplink
uplink_of e = record { bearer = e.0; up = e.1.up; teid = e.1.uplink }

-- the bearers with these uplinks, with downlink TEIDs from the next one on
abbrev pub anew_of : ℕ → List Uplink → List (BearerId × DuBearer)
anew_of next [] = []
anew_of next (u ∷ us) =
    (u.bearer, record { up = u.up; uplink = u.teid; downlink = next; awaited = 0; gap = false }) ∷ anew_of (next + 1) us

-- the downlink tunnel of a bearer
abbrev pub downlink_of : BearerId × DuBearer → Tunnel
downlink_of e = record { bearer = e.0; teid = e.1.downlink }

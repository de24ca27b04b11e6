-- The core: it answers a path switch, and knows where each terminal's downlink goes (TS 23.501, 5.6; TS 38.413, 8.4.4).
--
--   Path Switch Request     switch_path     End Markers on the old tunnels; the new path
use Rattle.std.specs.Prelude.{ℕ, List, [], map, Option, Some, None}
use Rattle.gnb_types.specs.declared.names.NodeId.{NodeId}
use Rattle.gnb_types.specs.declared.names.NodeId.TheVariants.{CuCp, CuUp}
use Rattle.gnb_types.specs.declared.names.UeId.{UeId}
use Rattle.gnb_types.specs.declared.names.Dir.TheVariants.{Dl}
use Rattle.gnb_types.specs.declared.keys.Channel.{Channel}
use Rattle.gnb_types.specs.declared.plans.Peer.{Peer}
use Rattle.gnb_types.specs.declared.plans.Tunnel.{Tunnel}
use Rattle.gnb_types.specs.declared.reasons.DropReason.TheVariants.{Unexpected}
use Rattle.gnb_types.specs.declared.outputs.Tag.TheVariants.{Absent}
use Rattle.gnb_types.specs.Orders.{ue_cmp}
use Rattle.tables.specs.Tables.{find, put}
use Rattle.message_types.specs.declared.xn.CoreMessage.TheVariants as cores
use Rattle.unit_defs.specs.Ways.{Message, core, end_marker, Output, packet, Way, Answer, gives, ◌then◌, drops}
use Rattle.unit_defs.specs.Transactions.{Kind, request, kind_of, Transactions, no_transactions, replied, on_request}
use Rattle.unit_defs.specs.Messages.{channel}

-- the CU-UP to which a terminal's downlink goes, and the N3 tunnel of each bearer
pub record CorePath : Type 0 where
  pub up : NodeId
  pub n3 : List Tunnel

pub record CoreRecord (M C : Type 0) : Type 0 where
  pub paths : List (UeId × CorePath)
  pub transactions : Transactions M C

abbrev pub new_core : {M C : Type 0} → CoreRecord M C
new_core = record { paths = []; transactions = no_transactions }

module _ {M C P : Type 0} (way : Way M C P) where
  -- an End Marker on each old tunnel, and the path is the new one
  abbrev pub end_of : UeId → NodeId → Tunnel → Output M P
  end_of ue up t = packet up t.teid ue t.bearer Dl Absent end_marker

  abbrev pub old_ends : UeId → Option CorePath → List (Output M P)
  old_ends ue None = []
  old_ends ue (Some path) = map (end_of ue path.up) path.n3

  abbrev pub new_path : Peer → List Tunnel → CorePath
  new_path peer n3 = record { up = CuUp peer.gnb peer.up; n3 = n3 }

  abbrev pub moved : UeId → Peer → List Tunnel → CoreRecord M C → Answer M P (CoreRecord M C)
  moved ue peer n3 r = gives (old_ends ue (find ue_cmp r.paths ue)) (record r { paths = put ue_cmp r.paths ue (new_path peer n3) })

  unfoldable pub switch_path : Channel → UeId → ℕ → Peer → List Tunnel → CoreRecord M C → Answer M P (CoreRecord M C)
  switch_path ch ue instance peer n3 r =
      replied way r.transactions ch (core (cores.PathSwitchAcknowledge ue instance))
      then (λ t. moved ue peer n3 (record r { transactions = t }))

  abbrev pub asked : Channel → Message C → CoreRecord M C → Answer M P (CoreRecord M C)
  asked ch (core (cores.PathSwitchRequest ue instance peer n3)) r = switch_path ch ue instance peer n3 r
  asked ch message r = drops Unexpected r

  abbrev pub came : NodeId → Message C → CoreRecord M C → Kind → Answer M P (CoreRecord M C)
  came from message r (request ue instance) =
      on_request way r r.transactions (channel ue from) instance (λ t. asked (channel ue from) message (record r { transactions = t }))
  came from message r kind = drops Unexpected r

  unfoldable pub core_acts : CoreRecord M C → NodeId → Message C → Answer M P (CoreRecord M C)
  core_acts r (CuCp gnb) message = came (CuCp gnb) message r (kind_of message)
  core_acts r from message = drops Unexpected r

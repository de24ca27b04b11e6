-- The lines of a transcript, with whatever stands for a control message.
use Rattle.std.specs.Prelude.{ℕ, List, Option}
use Rattle.gnb_types.specs.declared.names.NodeId.{NodeId}
use Rattle.gnb_types.specs.declared.names.UeId.{UeId}
use Rattle.gnb_types.specs.declared.names.BearerId.{BearerId}
use Rattle.gnb_types.specs.declared.keys.TunnelEnd.{TunnelEnd}
use Rattle.gnb_types.specs.declared.keys.EntityKey.{EntityKey}
use Rattle.gnb_types.specs.declared.reasons.DropReason.{DropReason}
use Rattle.gnb_types.specs.declared.reasons.HeldReason.{HeldReason}
use Rattle.gnb_types.specs.declared.reasons.CauseName.{CauseName}
use Rattle.gnb_types.specs.declared.reasons.RefuseReason.{RefuseReason}
pub use Rattle.transport_defs.specs.declared.ControlMessage.{ControlMessage}
use Rattle.scenario_text.specs.declared.line.Link.{Link}
use Rattle.scenario_text.specs.declared.line.Link.TheVariants as links
use Rattle.scenario_text.specs.declared.line.Item.{Item as ShownItem}

pub data RunLine (M : Type 0) : Type 0 where
  put_item : (link : Link) (item : ShownItem) → RunLine M
  got_item : (link : Link) (item : ShownItem) → RunLine M
  put_message : (number : ℕ) (control_message : ControlMessage M) → RunLine M
  got_message : (number : ℕ) (control_message : ControlMessage M) → RunLine M
  delivers : (key : EntityKey) (count : ℕ) (packet : List ℕ) → RunLine M
  lost_items : (link : Link) (items : ℕ) → RunLine M
  lost_message : (number : ℕ) → RunLine M
  drops_input : (node : NodeId) (reason : DropReason) → RunLine M
  held_at : (link : Link) (reason : HeldReason) → RunLine M
  procedure_failed : (node : NodeId) (ue : UeId) (cause : CauseName) → RunLine M
  is_quiet : (ue : UeId) (bearer : BearerId) (downlink uplink : ℕ) → RunLine M
  is_busy : (ue : UeId) (bearer : BearerId) → RunLine M
  has_settled : (rounds : ℕ) → RunLine M
  has_not_settled : (rounds : ℕ) → RunLine M
  was_refused : (reason : RefuseReason) → RunLine M

abbrev pub tunnel_link : TunnelEnd → Link
tunnel_link t = links.Tunnel t.node t.teid

abbrev pub radio_link : EntityKey → ℕ → Link
radio_link key epoch = links.Radio key.ue key.bearer key.dir epoch

abbrev pub shown : EntityKey → Option ℕ → List ℕ → ShownItem
shown key count octets = record { ue = key.ue; bearer = key.bearer; dir = key.dir; count = count; bytes = octets }

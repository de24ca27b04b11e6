-- What a terminal's step is told: what is taken or ordered, and what couples terminals at the node that acts.
use Rattle.std.specs.Prelude.{ℕ, Bool, List}
use Rattle.gnb_types.specs.declared.names.NodeId.{NodeId}
use Rattle.gnb_types.specs.declared.names.NodeId.TheVariants.{CuCp, CuUp as up_id, Du as du_id}
use Rattle.message_types.specs.declared.rrc.Token.{Token}
use Rattle.unit_defs.specs.Ways.{Message, Load, Pdu}
use Rattle.transport_defs.specs.declared.Item.{Item}
use Rattle.run_defs.specs.Units.{Units, cu_cp_of, cu_up_of, du_of}
use Rattle.run_defs.specs.Written.{Written}
use Rattle.proof_run_steps.specs.steps.Causes.{Cause, by_item, by_ack, by_control_message}
use Rattle.law_terminals_are_isolated.specs.cu_cp_projection.CuCps.{CuCpShared, cu_cp_shared}
use Rattle.law_terminals_are_isolated.specs.cu_up_projection.CuUps.{UpShared, cu_up_shared, has_blocks}
use Rattle.law_terminals_are_isolated.specs.du_projection.Dus.{DuShared, du_shared}

-- ---- what couples terminals at a node: at a CU-CP its gNB and which units are set up; at a CU-UP and a DU its name, whether it is set
-- up and the TEID that comes next; at a CU-UP also whether so many bearers with this quota have room

pub data Shared : Type 0 where
  of_cu_cp : (shared : CuCpShared) → Shared
  of_up : (shared : UpShared) (room : ℕ → ℕ → Bool) → Shared
  of_du : (shared : DuShared) → Shared
  of_none : Shared

abbrev pub shared_at : {M C : Type 0} → Units M C → NodeId → Shared
shared_at units (CuCp gnb) = of_cu_cp (cu_cp_shared (cu_cp_of units gnb))
shared_at units (up_id gnb number) = of_up (cu_up_shared (cu_up_of units gnb number)) (λ count quota. has_blocks count quota (cu_up_of units gnb number))
shared_at units (du_id gnb number) = of_du (du_shared (du_of units gnb number))
shared_at units node = of_none

-- ---- what a step takes, without what stands behind it on its link, and without the number of a control message

abbrev pub RunCause : Type 0
RunCause = Cause (Message Token) (Written (Load Pdu)) (Written Pdu)

-- the items behind the one that is taken, and the number
pub record Place : Type 0 where
  pub items : List (Item (Written (Load Pdu)))
  pub pdus : List (Item (Written Pdu))
  pub number : ℕ

-- what is taken stands in this place; what the cause itself says of its place says nothing
abbrev pub in_place : Place → RunCause → RunCause
in_place place (by_item end item rest) = by_item end item place.items
in_place place (by_ack key home item rest) = by_ack key home item place.pdus
in_place place (by_control_message number l to) = by_control_message place.number l to
in_place place cause = cause

-- What happens to the core over a run, and what its table makes of it.
use Rattle.std.specs.Prelude.{ℕ, List, [], ◌∷◌}
use Rattle.gnb_types.specs.declared.names.NodeId.{NodeId}
use Rattle.gnb_types.specs.declared.names.NodeId.TheVariants.{CuUp}
use Rattle.gnb_types.specs.declared.plans.Plan.{Plan}
use Rattle.gnb_types.specs.Orders.{ue_cmp}
use Rattle.tables.specs.Tables.{put}
use Rattle.message_types.specs.declared.rrc.Token.{Token}
use Rattle.unit_defs.specs.Ways.{Message}
use Rattle.unit_defs.specs.Core.{CoreRecord, core_acts}
use Rattle.run_defs.specs.Conditions.{n3_from}
use Rattle.run_defs.specs.Runs.{plain_way}
use Rattle.proof_bearer_refinement.specs.run_unit_inputs.Happenings.{kept_of}

-- a terminal is set up without messages, with its N3 tunnels from this TEID on; it is given a message
pub data CoreHappening : Type 0 where
  places : (plan : Plan) (teid : ℕ) → CoreHappening
  takes : (from : NodeId) (message : Message Token) → CoreHappening

abbrev pub CoreKept : Type 0
CoreKept = CoreRecord (Message Token) Token

abbrev pub after_core : CoreKept → CoreHappening → CoreKept
after_core r (places plan teid) =
    record r { paths = put ue_cmp r.paths plan.ue (record { up = CuUp plan.gnb plan.up; n3 = n3_from 1 teid plan.bearers }) }
after_core r (takes from message) = kept_of r (core_acts plain_way r from message)

unfoldable pub after_messages : CoreKept → List CoreHappening → CoreKept
after_messages r [] = r
after_messages r (h ∷ hs) = after_messages (after_core r h) hs

-- What happens to a CU-UP and to a DU over a run, and what the tables make of it.
use Rattle.std.specs.Prelude.{ℕ, List, [], ◌∷◌}
use Rattle.gnb_types.specs.declared.plans.Plan.{Plan}
use Rattle.message_types.specs.declared.rrc.Token.{Token}
use Rattle.unit_defs.specs.Ways.{Message, Pdu, Input, gives, spent}
use Rattle.unit_defs.specs.CuUpRecords.{CuUp}
use Rattle.unit_defs.specs.CuUp.{cu_up_acts}
use Rattle.unit_defs.specs.Du.{Du, du_acts}
use Rattle.unit_defs.specs.Static.{cu_up_placed, cu_up_set_up, du_placed, du_set_up}
use Rattle.run_defs.specs.Runs.{Plain, plain_way}

-- A terminal is set up there without messages, on tunnels of the other unit from this TEID on; the unit counts as set up; it is given
-- an input.
pub data Happening : Type 0 where
  places : (plan : Plan) (teid : ℕ) → Happening
  counts : Happening
  takes : (input : Input Token Pdu) → Happening

abbrev pub CuUpRecord : Type 0
CuUpRecord = CuUp (Message Token) Token

abbrev pub DuRecord : Type 0
DuRecord = Du (Message Token) Token

-- where a counter is spent the run stops, and nothing more is said
abbrev pub kept_of : {R : Type 0} → R → Plain R → R
kept_of r (gives outputs v) = v
kept_of r (spent counter) = r

abbrev pub after_up : CuUpRecord → Happening → CuUpRecord
after_up r (places plan teid) = cu_up_placed r plan teid
after_up r counts = cu_up_set_up r
after_up r (takes input) = kept_of r (cu_up_acts plain_way r input)

abbrev pub after_du : DuRecord → Happening → DuRecord
after_du r (places plan teid) = du_placed r plan teid
after_du r counts = du_set_up r
after_du r (takes input) = kept_of r (du_acts plain_way r input)

-- one after another
unfoldable pub after_each : {R : Type 0} → (R → Happening → R) → R → List Happening → R
after_each after r [] = r
after_each after r (h ∷ hs) = after_each after (after r h) hs

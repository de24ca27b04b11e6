-- What a CU-CP keeps of one terminal, what its terminals share, and whose an input is.
use Rattle.std.specs.Prelude.{List, Option, Some, None}
use Rattle.gnb_types.specs.declared.names.Gnb.{Gnb}
use Rattle.gnb_types.specs.declared.names.NodeId.{NodeId}
use Rattle.gnb_types.specs.declared.names.UeId.{UeId}
use Rattle.unit_defs.specs.Ways.{Input, control_input, order_input}
use Rattle.unit_defs.specs.CuCpRecords.{CuCpTerminal, CuCpRecord, terminal_of}
use Rattle.law_terminals_are_isolated.specs.projections.Projections.{Requests, requests_of, message_ue, order_ue}

-- its context, the greatest epoch that was taken, and its requests and replies
pub record CuCpProjection (M C : Type 0) : Type 0 where
  pub terminal : CuCpTerminal
  pub requests : Requests M C

abbrev pub cu_cp_projection : {M C : Type 0} → UeId → CuCpRecord M C → CuCpProjection M C
cu_cp_projection ue r = record { terminal = terminal_of r ue; requests = requests_of ue.0 r.transactions }

-- what couples terminals: the gNB, and which of its units are set up
pub record CuCpShared : Type 0 where
  pub gnb : Gnb
  pub units : List NodeId

abbrev pub cu_cp_shared : {M C : Type 0} → CuCpRecord M C → CuCpShared
cu_cp_shared r = record { gnb = r.gnb; units = r.units }

-- the arguments of a terminal's step
abbrev pub cu_cp_view : {M C : Type 0} → UeId → CuCpRecord M C → CuCpProjection M C × CuCpShared
cu_cp_view ue r = (cu_cp_projection ue r, cu_cp_shared r)

-- the terminal that an input is for: none where it is for each of them, or where a CU-CP has no use for it
abbrev pub cu_cp_ue : {C P : Type 0} → Input C P → Option UeId
cu_cp_ue (control_input from message) = Some (message_ue from message)
cu_cp_ue (order_input order) = Some (order_ue order)
cu_cp_ue input = None

-- The arguments of a terminal's step at a node: the terminal's projection there, and what couples terminals.
use Rattle.std.specs.Prelude.{◌≡◌}
use Rattle.gnb_types.specs.declared.names.NodeId.{NodeId}
use Rattle.gnb_types.specs.declared.names.NodeId.TheVariants.{CuCp, CuUp as up_id, Du as du_id, Core, Ue}
use Rattle.gnb_types.specs.declared.names.UeId.{UeId}
use Rattle.run_defs.specs.Units.{Units, cu_cp_of, cu_up_of, du_of, ue_of}
use Rattle.run_defs.specs.States.{Stepped, stepped, step_spent}
use Rattle.law_terminals_are_isolated.specs.cu_cp_projection.CuCps.{cu_cp_view}
use Rattle.law_terminals_are_isolated.specs.cu_up_projection.CuUps.{cu_up_view, SameRoom}
use Rattle.law_terminals_are_isolated.specs.du_projection.Dus.{du_view}

-- at this node, both have the terminal's projection in common, and what is shared: at a CU-CP the gNB and which units are set up; at a
-- CU-UP and a DU the name, whether it is set up and the TEID that comes next; at a CU-UP also for which setups there is room
abbrev pub AreEqualAt : {M C : Type 0} → NodeId → UeId → Units M C → Units M C → Type 0
AreEqualAt (CuCp gnb) ue u v = cu_cp_view ue (cu_cp_of u gnb) ≡ cu_cp_view ue (cu_cp_of v gnb)
AreEqualAt (up_id gnb number) ue u v =
    (cu_up_view ue (cu_up_of u gnb number) ≡ cu_up_view ue (cu_up_of v gnb number)) × SameRoom (cu_up_of u gnb number) (cu_up_of v gnb number)
AreEqualAt (du_id gnb number) ue u v = du_view ue (du_of u gnb number) ≡ du_view ue (du_of v gnb number)
AreEqualAt Core ue u v = Unit {0}
AreEqualAt (Ue n) ue u v = ue_of u (record { 0 = n }) ≡ ue_of v (record { 0 = n })

-- and then: but for the room, which is all terminals'
abbrev pub StayEqualAt : {M C : Type 0} → NodeId → UeId → Units M C → Units M C → Type 0
StayEqualAt (up_id gnb number) ue u v = cu_up_view ue (cu_up_of u gnb number) ≡ cu_up_view ue (cu_up_of v gnb number)
StayEqualAt node ue u v = AreEqualAt node ue u v

-- both put out the same, and are alike there then; or the same counter is spent
abbrev pub AnswerEqual : {M C L P : Type 0} → NodeId → UeId → Stepped M C L P → Stepped M C L P → Type 0
AnswerEqual node ue (stepped xs u) (stepped ys v) = (xs ≡ ys) × StayEqualAt node ue u v
AnswerEqual node ue (step_spent m) (step_spent n) = m ≡ n
AnswerEqual node ue (stepped xs u) (step_spent n) = ⊥
AnswerEqual node ue (step_spent m) (stepped ys v) = ⊥

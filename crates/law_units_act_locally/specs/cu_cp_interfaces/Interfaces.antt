-- Of which interface a control message is, and between which nodes that interface is (TS 38.401, 6.1.2).
use Rattle.std.specs.Prelude.{◌≡◌, false}
use Rattle.gnb_types.specs.declared.names.NodeId.{NodeId}
use Rattle.gnb_types.specs.declared.names.NodeId.TheVariants.{CuCp, CuUp, Du, Core, Ue}
use Rattle.unit_defs.specs.Ways.{Message, f1, e1, xn, core, rrc}
use Rattle.unit_defs.specs.Messages.{is_same_gnb}

pub data Interface : Type 0 where
  f1_c : Interface
  e1_c : Interface
  xn_c : Interface
  to_core : Interface
  on_radio : Interface

abbrev pub interface_of : {C : Type 0} → Message C → Interface
interface_of (f1 message) = f1_c
interface_of (e1 message) = e1_c
interface_of (xn message) = xn_c
interface_of (core message) = to_core
interface_of (rrc token) = on_radio

-- F1 between a CU-CP and a DU of its gNB, E1 between a CU-CP and a CU-UP of its gNB, Xn between the two CU-CPs, one between a CU-CP
-- and the core, and the radio between a DU and a terminal
abbrev pub Joins : Interface → NodeId → NodeId → Type 0
Joins f1_c (CuCp g) (Du h n) = h ≡ g
Joins f1_c (Du h n) (CuCp g) = h ≡ g
Joins e1_c (CuCp g) (CuUp h n) = h ≡ g
Joins e1_c (CuUp h n) (CuCp g) = h ≡ g
Joins xn_c (CuCp g) (CuCp h) = is_same_gnb g h ≡ false
Joins to_core (CuCp g) Core = Unit {0}
Joins to_core Core (CuCp g) = Unit {0}
Joins on_radio (Du g n) (Ue ue) = Unit {0}
Joins on_radio (Ue ue) (Du g n) = Unit {0}
Joins interface from to = ⊥

abbrev pub IsOf : {C : Type 0} → NodeId → NodeId → Message C → Type 0
IsOf from to message = Joins (interface_of message) from to

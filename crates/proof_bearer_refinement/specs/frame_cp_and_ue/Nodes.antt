-- Nodes that put no item on a tunnel.
use Rattle.gnb_types.specs.declared.names.NodeId.{NodeId}
use Rattle.gnb_types.specs.declared.names.NodeId.TheVariants.{CuCp, Ue}

abbrev pub PutsNoItem : NodeId → Type 0
PutsNoItem (CuCp gnb) = Unit {0}
PutsNoItem (Ue ue) = Unit {0}
PutsNoItem node = ⊥

-- Nodes that put no status report for a terminal: all but CU-UPs and DUs.
use Rattle.gnb_types.specs.declared.names.NodeId.{NodeId}
use Rattle.gnb_types.specs.declared.names.NodeId.TheVariants.{CuUp, Du}

abbrev pub PutsNoReport : NodeId → Type 0
PutsNoReport (CuUp gnb number) = ⊥
PutsNoReport (Du gnb number) = ⊥
PutsNoReport node = Unit {0}

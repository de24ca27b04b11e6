-- Units that are no terminals.
use Rattle.gnb_types.specs.declared.names.NodeId.{NodeId}
use Rattle.gnb_types.specs.declared.names.NodeId.TheVariants.{Ue}

abbrev pub IsNoTerminal : NodeId → Type 0
IsNoTerminal (Ue ue) = ⊥
IsNoTerminal node = Unit {0}

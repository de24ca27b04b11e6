-- Units that have no radio.
use Rattle.gnb_types.specs.declared.names.NodeId.{NodeId}
use Rattle.gnb_types.specs.declared.names.NodeId.TheVariants.{CuCp, CuUp}

abbrev pub HasNoRadio : NodeId → Type 0
HasNoRadio (CuCp gnb) = Unit {0}
HasNoRadio (CuUp gnb number) = Unit {0}
HasNoRadio node = ⊥

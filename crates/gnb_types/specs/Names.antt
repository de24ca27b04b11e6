-- How nodes, terminals, bearers and directions are written.
use Rattle.std.specs.Prelude.{ℕ, List, ◌++◌, codes}
use Rattle.std.specs.Fmt.{decimal}
use Rattle.gnb_types.specs.declared.names.Gnb.{Gnb}
use Rattle.gnb_types.specs.declared.names.Gnb.TheVariants.{A, B}
use Rattle.gnb_types.specs.declared.names.NodeId.{NodeId}
use Rattle.gnb_types.specs.declared.names.NodeId.TheVariants.{CuCp, CuUp, Du, Core, Ue}
use Rattle.gnb_types.specs.declared.names.UeId.{UeId}
use Rattle.gnb_types.specs.declared.names.BearerId.{BearerId}
use Rattle.gnb_types.specs.declared.names.Dir.{Dir}
use Rattle.gnb_types.specs.declared.names.Dir.TheVariants.{Dl, Ul}

abbrev pub gnb_text : Gnb → List ℕ
gnb_text A = codes "A"
gnb_text B = codes "B"

-- as `A.cp`, `A.up1`, `B.du2`, `core` and `u1`
abbrev pub node_text : NodeId → List ℕ
node_text (CuCp gnb) = gnb_text gnb ++ codes ".cp"
node_text (CuUp gnb number) = gnb_text gnb ++ codes ".up" ++ decimal number
node_text (Du gnb number) = gnb_text gnb ++ codes ".du" ++ decimal number
node_text Core = codes "core"
node_text (Ue number) = codes "u" ++ decimal number

abbrev pub ue_text : UeId → List ℕ
ue_text ue = codes "u" ++ decimal ue.0

abbrev pub bearer_text : BearerId → List ℕ
bearer_text bearer = codes "b" ++ decimal bearer.0

abbrev pub dir_text : Dir → List ℕ
dir_text Dl = codes "dl"
dir_text Ul = codes "ul"

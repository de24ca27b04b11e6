-- The order of nodes: by kind (first those of gNB A, then those of B, the core and the terminals), then by number.
use Rattle.std.specs.Prelude.{ℕ}
use Rattle.std.specs.declared.cmp.Ordering.{Ordering}
use Rattle.std.specs.Ordering.{nat_cmp, on, then_cmp}
use Rattle.gnb_types.specs.declared.names.Gnb.TheVariants.{A, B}
use Rattle.gnb_types.specs.declared.names.NodeId.{NodeId}
use Rattle.gnb_types.specs.declared.names.NodeId.TheVariants.{CuCp, CuUp, Du, Core, Ue}

abbrev pub node_class : NodeId → ℕ
node_class (CuCp A) = 0
node_class (CuUp A number) = 1
node_class (Du A number) = 2
node_class (CuCp B) = 3
node_class (CuUp B number) = 4
node_class (Du B number) = 5
node_class Core = 6
node_class (Ue number) = 7

abbrev pub node_number : NodeId → ℕ
node_number (CuCp gnb) = 0
node_number (CuUp gnb number) = number
node_number (Du gnb number) = number
node_number Core = 0
node_number (Ue number) = number

abbrev pub node_cmp : NodeId → NodeId → Ordering
node_cmp = then_cmp (on node_class nat_cmp) (on node_number nat_cmp)

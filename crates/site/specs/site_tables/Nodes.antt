-- The DUs of both gNBs, by their names, and what calls leave of them.
use Rattle.std.specs.Prelude.{◌≡◌, ℕ, List, [], ◌∷◌, None, Result, Ok, Err}
use Rattle.gnb_types.specs.declared.names.Gnb.{Gnb}
use Rattle.gnb_types.specs.declared.names.Gnb.TheVariants.{A, B}
use Rattle.gnb_types.specs.declared.names.NodeId.{NodeId}
use Rattle.gnb_types.specs.declared.names.NodeId.TheVariants.{Du}
use Rattle.gnb_types.specs.declared.plans.Plan.{Plan}
use Rattle.gnb_types.specs.Orders.{node_cmp}
use Rattle.tables.specs.Tables.{at, put}
use Rattle.unit_defs.specs.Static.{du_set_up}
use Rattle.unit_messages.specs.declared.steps.StepError.{StepError}
use Rattle.du_contexts.specs.Tables.{OctetDu}
use Rattle.du_contexts.specs.Placing.{IsPlaced}
use Rattle.du_node.specs.Nodes.{Node, new_node}
use Rattle.site.specs.site_tables.Steps.{Kind}

abbrev pub Nodes : Type 0
Nodes = List (NodeId × Node)

abbrev pub node_kind : Kind Node OctetDu
node_kind = record { kept = λ n. n.du; failure = λ n. n.failure }

abbrev pub first_nodes : Nodes
first_nodes =
    (Du A 1, new_node A 1) ∷ (Du A 2, new_node A 2) ∷ (Du B 1, new_node B 1) ∷ (Du B 2, new_node B 2) ∷ []

-- one that isn't there is as it is at first
abbrev pub node_at : Nodes → Gnb → ℕ → Node
node_at nodes gnb number = at node_cmp (new_node gnb number) nodes (Du gnb number)

-- A terminal is placed at the DU of its plan, which works on; or the counter of TEIDs is spent. Out of memory nothing is said.
abbrev pub PlacesNode : Plan → ℕ → Nodes → Nodes → Result (Unit {0}) StepError → Type 0
PlacesNode plan uplink old new (Ok done) =
    (n : Node) × (n.failure ≡ None) × IsPlaced (node_at old plan.gnb plan.du).du plan uplink n.du (Ok done)
    × (new ≡ put node_cmp old (Du plan.gnb plan.du) n)
PlacesNode plan uplink old new (Err error) =
    IsPlaced (node_at old plan.gnb plan.du).du plan uplink (node_at old plan.gnb plan.du).du (Err error)

abbrev pub as_set_up : Node → Node
as_set_up n = record n { du = du_set_up n.du }

-- Which types and assignments lead to which. The vertices are a module's types by their numbers, and then its assignments.
use Rattle.std.specs.Prelude.{ℕ, zero, suc, ◌+◌, ◌-◌, List, [], ◌∷◌, ◌++◌, length, Option, Some, None}
use Rattle.asn1_syntax.specs.declared.types.definition.Component.{Component}
use Rattle.asn1_syntax.specs.declared.types.definition.Extensible.{Extensible}
use Rattle.asn1_syntax.specs.declared.types.definition.Definition.{Definition}
use Rattle.asn1_syntax.specs.declared.types.definition.Definition.TheVariants as types
use Rattle.asn1_syntax.specs.declared.types.definition.Node.{Node}
use Rattle.asn1_syntax.specs.types.Members.{additions_of}
use Rattle.asn1_syntax.specs.declared.assignments.assignment.Assignment.{Assignment}
use Rattle.asn1_syntax.specs.declared.assignments.assignment.Syntax.{Syntax}
use Rattle.asn1_defs.specs.declared.graph.Edge.{Edge}
use Rattle.asn1_defs.specs.Numbers.{number_in}

abbrev pub edge : ℕ → ℕ → Edge
edge from to = record { from = from; to = to }

-- from a type to those of its members
unfoldable pub member_edges : ℕ → List Component → List Edge
member_edges from [] = []
member_edges from (member ∷ members) = edge from member.definition.number ∷ member_edges from members

abbrev pub all_member_edges : ℕ → Extensible Component → List Edge
all_member_edges from members = member_edges from members.root ++ member_edges from (additions_of members.additions)

-- from a type to the assignment of the name in it
abbrev pub numbered_edges : ℕ → ℕ → Option ℕ → List Edge
numbered_edges base from None = []
numbered_edges base from (Some number) = edge from (base + number) ∷ []

-- from a type whose name, where it has one, refers to the assignment of this number; base is the number of types
abbrev pub definition_edges : ℕ → Option ℕ → ℕ → Definition → List Edge
definition_edges base target from (types.Sequence members) = all_member_edges from members
definition_edges base target from (types.Choice members) = all_member_edges from members
definition_edges base target from (types.SequenceOf size element) = edge from element.number ∷ []
definition_edges base target from (types.Reference name) = numbered_edges base from target
definition_edges base target from (types.IeContainer set) = numbered_edges base from target
definition_edges base target from (types.Pdu set) = numbered_edges base from target
definition_edges base target from _ = []

unfoldable pub node_edges : ℕ → List Assignment → ℕ → Definition → List Edge
node_edges base assignments from definition = definition_edges base (number_in assignments definition) from definition

-- from each of these types, of which the first has this number
unfoldable pub nodes_edges : ℕ → List Assignment → ℕ → List Node → List Edge
nodes_edges base assignments first [] = []
nodes_edges base assignments first (node ∷ nodes) = node_edges base assignments first node.definition ++ nodes_edges base assignments (first + 1) nodes

-- from an assignment to each of that many types
unfoldable pub range_edges : ℕ → ℕ → ℕ → List Edge
range_edges from first zero = []
range_edges from first (suc count) = edge from first ∷ range_edges from (first + 1) count

-- from each of these assignments to the types that stand in it; the first has this vertex, and its types begin there
unfoldable pub parts_edges : ℕ → ℕ → List Assignment → List Edge
parts_edges vertex first [] = []
parts_edges vertex first (assignment ∷ assignments) = range_edges vertex first (assignment.end - first) ++ parts_edges (vertex + 1) assignment.end assignments

abbrev pub vertex_count : Syntax → ℕ
vertex_count syntax = length syntax.nodes + length syntax.assignments

unfoldable pub edges_of : Syntax → List Edge
edges_of syntax = nodes_edges (length syntax.nodes) syntax.assignments 0 syntax.nodes ++ parts_edges (length syntax.nodes) 0 syntax.assignments

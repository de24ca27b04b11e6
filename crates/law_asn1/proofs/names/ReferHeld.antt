-- Assignments lead to each other as their items refer to each other.
use Rattle.std.proofs.Common.{◌≡◌, ℕ, ◌+◌, ◌-◌, ◌<◌, ◌≤◌, List, length, take, drop, refl, sym, ap, ◌∙◌, subst, inl, inr, arith}
use Rattle.std.specs.Prelude.{◌⊎◌, ◌↔◌, Option, Some, slice_get}
use Rattle.std.proofs.lemmas.Option.{slice_get_within}
use Rattle.std.proofs.lemmas.List.Quantifiers.{position-Some}
use Rattle.asn1_tokens.specs.Words.{is_text}
use Rattle.asn1_syntax.specs.declared.types.definition.Node.{Node}
use Rattle.asn1_syntax.specs.declared.assignments.assignment.Assignment.{Assignment}
use Rattle.asn1_syntax.specs.declared.assignments.assignment.Syntax.{Syntax}
use Rattle.asn1_syntax.specs.assignments.Index.{number_of}
use Rattle.asn1_defs.specs.declared.graph.Edge.{Edge}
use Rattle.asn1_defs.specs.Numbers.{name_in}
use Rattle.asn1_defs.specs.Graph.{edge, numbered_edges, node_edges, nodes_edges, parts_edges, vertex_count, edges_of}
use Rattle.asn1_defs.specs.Paths.{IsAmong, IsStep, Leads, first, further}
use Rattle.asn1_defs.specs.Links.{IsLinked}
use Rattle.law_asn1.specs.names.Held.{Mention, Given, HoldsName, Refers, directly, further as and_further}
use Rattle.law_asn1.proofs.names.ModuleHeld.{AreParts}
use Rattle.law_asn1.proofs.names.StepsHeld.{among_cases, joined, type_step, name_step, begin_of, GivenPart, part_of_given, PartGiven, given_of_part, same_number, Mentioned, mentioned, has_mention, dropped_at, taken_at, at_taken, parts_have, IntoPart, parts_into, named_edges_of, ToName, node_into, FromNode, from_node}

module _ (m : Syntax) (gs : List Given) (linked : IsLinked m) (parts : AreParts 0 m.nodes m.assignments gs) where
  -- an assignment leads to this vertex by a step
  abbrev Step : ℕ → ℕ → Type 0
  Step v w = IsStep (vertex_count m) (edges_of m) v w

  abbrev Path : ℕ → ℕ → Type 0
  Path v w = Leads (vertex_count m) (edges_of m) v w

  there_is : (name : List ℕ) (j : ℕ) (a : Assignment) → number_of name m.assignments ≡ Some j → j < length m.assignments
  there_is name j a found = (position-Some (λ (b : Assignment). is_text b.name name) m.assignments j a found).0

  -- by a type that stands in the assignment and refers by the name
  through_type : (k j n : ℕ) (a : Assignment) (node : Node) (name : List ℕ) → k < length m.assignments → slice_get m.assignments k ≡ Some a
      → begin_of 0 m.assignments k ≤ n → n < a.end → a.end ≤ length m.nodes
      → slice_get m.nodes n ≡ Some node → name_in node.definition ≡ Some name → number_of name m.assignments ≡ Some j
      → Path (length m.nodes + k) (length m.nodes + j)
  through_type k j n a node name lt there least most ends at named target = further (first one) two
    where
      one : Step (length m.nodes + k) n
      one = name_step m k n lt (omega arith) (parts_have (length m.nodes) 0 m.assignments k n a there least most)

      among : IsAmong (edge n (length m.nodes + j)) (node_edges (length m.nodes) m.assignments n node.definition)
      among =
          subst (λ (es : List Edge). IsAmong (edge n (length m.nodes + j)) es) (sym (named_edges_of (length m.nodes) m.assignments n node.definition name named))
          (subst (λ (o : Option ℕ). IsAmong (edge n (length m.nodes + j)) (numbered_edges (length m.nodes) n o)) (sym target) (inl refl))

      two : Step n (length m.nodes + j)
      two = type_step m n (length m.nodes + j) node at (omega arith) (omega (arith, there_is name j a target)) among

  holds_leads : (k j : ℕ) → k < length m.assignments → HoldsName gs k j → Path (length m.nodes + k) (length m.nodes + j)
  holds_leads k j lt h = go (part_of_given 0 m.nodes m.assignments gs parts k h.given h.there)
    where
      go : GivenPart 0 m.nodes m.assignments k h.given → Path (length m.nodes + k) (length m.nodes + j)
      go found = by_type (mentioned own h.number h.mention (subst (λ (l : List Mention). slice_get l h.number ≡ Some h.mention) found.part.holds h.held))
        where
          own : List Node
          own = take (found.assignment.end - begin_of 0 m.assignments k) (drop (begin_of 0 m.assignments k) m.nodes)

          by_type : Mentioned own h.mention → Path (length m.nodes + k) (length m.nodes + j)
          by_type named =
              let taken = taken_at (found.assignment.end - begin_of 0 m.assignments k) (drop (begin_of 0 m.assignments k) m.nodes) named.number named.node named.there in
              through_type k j (begin_of 0 m.assignments k + named.number) found.assignment named.node h.mention.name lt found.there
              (omega arith) (omega (arith, taken.0)) found.part.ends
              (sym (dropped_at (begin_of 0 m.assignments k) m.nodes named.number) ∙ taken.1)
              named.name
              (sym (same_number h.mention.name m.nodes m.assignments gs parts) ∙ h.target)

  held_inside : (k j : ℕ) → HoldsName gs k j → j < length m.assignments
  held_inside k j h =
      let found = part_of_given 0 m.nodes m.assignments gs parts k h.given h.there in
      there_is h.mention.name j found.assignment (sym (same_number h.mention.name m.nodes m.assignments gs parts) ∙ h.target)

  refers_inside : (k j : ℕ) → Refers gs k j → j < length m.assignments
  refers_inside k j (directly h) = held_inside k j h
  refers_inside k j (and_further {j = i} r h) = held_inside i j h

  refers_leads : (k j : ℕ) → k < length m.assignments → Refers gs k j → Path (length m.nodes + k) (length m.nodes + j)
  refers_leads k j lt (directly h) = holds_leads k j lt h
  refers_leads k j lt (and_further {j = i} r h) =
      joined (vertex_count m) (edges_of m) (length m.nodes + k) (length m.nodes + i) (length m.nodes + j) (refers_leads k i lt r) (holds_leads i j (refers_inside k i r) h)

  -- a type that stands in an assignment
  record StandsIn (k v : ℕ) : Type 0 where
    assignment : Assignment
    there : slice_get m.assignments k ≡ Some assignment
    least : begin_of 0 m.assignments k ≤ v
    most : v < assignment.end

  from_name : (k v : ℕ) → Step (length m.nodes + k) v → StandsIn k v
  unfolding edges_of
  from_name k v step =
      elim (among_cases (edge (length m.nodes + k) v) (nodes_edges (length m.nodes) m.assignments 0 m.nodes) (parts_edges (length m.nodes) 0 m.assignments) step.among) [
        | inl l ↦ not_type (from_node (length m.nodes) m.assignments 0 m.nodes (length m.nodes + k) v linked.types l)
        | inr r ↦ there (parts_into (length m.nodes) 0 m.assignments (length m.nodes + k) v r)
      ]
    where
      not_type : FromNode (length m.nodes) m.assignments 0 m.nodes (length m.nodes + k) v → StandsIn k v
      not_type found = absurd (omega (arith, found.at, slice_get_within m.nodes found.i found.node found.there))

      there : IntoPart (length m.nodes) 0 m.assignments (length m.nodes + k) v → StandsIn k v
      there found =
          let same : found.k ≡ k = omega (arith, found.at) in
          record {
            assignment = found.assignment;
            there = subst (λ (n : ℕ). slice_get m.assignments n ≡ Some found.assignment) same found.there;
            least = subst (λ (n : ℕ). begin_of 0 m.assignments n ≤ v) same found.least;
            most = found.most;
          }

  from_type : (k v w : ℕ) → StandsIn k v → Step v w → StandsIn k w ⊎ ((j : ℕ) × (w ≡ length m.nodes + j) × HoldsName gs k j)
  unfolding edges_of
  from_type k v w stands step = on (given_of_part 0 m.nodes m.assignments gs parts k stands.assignment stands.there)
    where
      on : PartGiven 0 m.nodes m.assignments gs k stands.assignment → StandsIn k w ⊎ ((j : ℕ) × (w ≡ length m.nodes + j) × HoldsName gs k j)
      on found =
          elim (among_cases (edge v w) (nodes_edges (length m.nodes) m.assignments 0 m.nodes) (parts_edges (length m.nodes) 0 m.assignments) step.among) [
            | inl l ↦ of_type (from_node (length m.nodes) m.assignments 0 m.nodes v w linked.types l)
            | inr r ↦ not_name (parts_into (length m.nodes) 0 m.assignments v w r)
          ]
        where
          not_name : IntoPart (length m.nodes) 0 m.assignments v w → StandsIn k w ⊎ ((j : ℕ) × (w ≡ length m.nodes + j) × HoldsName gs k j)
          not_name name = absurd (omega (arith, name.at, stands.most, found.part.ends))

          of_type : FromNode (length m.nodes) m.assignments 0 m.nodes v w → StandsIn k w ⊎ ((j : ℕ) × (w ≡ length m.nodes + j) × HoldsName gs k j)
          of_type node =
              let here : slice_get m.nodes v ≡ Some node.node = subst (λ (n : ℕ). slice_get m.nodes n ≡ Some node.node) (omega (arith, node.at)) node.there in
              elim (node_into (begin_of 0 m.assignments k) (length m.nodes) m.assignments v w node.node.definition node.inside (found.part.inside v node.node stands.least stands.most here) node.among) [
                | inl within ↦ inl (record { assignment = stands.assignment; there = stands.there; least = within.1; most = omega (arith, within.0, stands.most) })
                | inr named ↦ inr (named.number, named.at, holds here named)
              ]
            where
              holds : slice_get m.nodes v ≡ Some node.node → (named : ToName (length m.nodes) m.assignments node.node.definition w) → HoldsName gs k named.number
              holds here named =
                  let own : List Node = take (stands.assignment.end - begin_of 0 m.assignments k) (drop (begin_of 0 m.assignments k) m.nodes) in
                  let behind : slice_get (drop (begin_of 0 m.assignments k) m.nodes) (v - begin_of 0 m.assignments k) ≡ Some node.node =
                  dropped_at (begin_of 0 m.assignments k) m.nodes (v - begin_of 0 m.assignments k) ∙ subst (λ (n : ℕ). slice_get m.nodes n ≡ Some node.node) (omega (arith, stands.least)) here in
                  let taken : slice_get own (v - begin_of 0 m.assignments k) ≡ Some node.node =
                  at_taken (stands.assignment.end - begin_of 0 m.assignments k) (drop (begin_of 0 m.assignments k) m.nodes) (v - begin_of 0 m.assignments k) node.node (omega (arith, stands.least, stands.most)) behind in
                  let mention = has_mention own (v - begin_of 0 m.assignments k) node.node named.name taken named.named in
                  record {
                    given = found.given;
                    there = found.there;
                    mention = mention.mention;
                    number = mention.number;
                    held = subst (λ (l : List Mention). slice_get l mention.number ≡ Some mention.mention) (sym found.part.holds) mention.there;
                    target = same_number mention.mention.name m.nodes m.assignments gs parts ∙ ap (λ (n : List ℕ). number_of n m.assignments) mention.named ∙ named.found;
                  }

  abbrev At : ℕ → ℕ → Type 0
  At k v = ((i : ℕ) × StandsIn i v × ((i ≡ k) ⊎ Refers gs k i)) ⊎ ((j : ℕ) × (v ≡ length m.nodes + j) × Refers gs k j)

  leads_at : (k v : ℕ) → Path (length m.nodes + k) v → At k v
  leads_at k v (first step) = inl (k, from_name k v step, inl refl)
  leads_at k v (further {b} path step) = on (leads_at k b path)
    where
      held : (i : ℕ) → (i ≡ k) ⊎ Refers gs k i → (j : ℕ) → HoldsName gs i j → Refers gs k j
      held i (inl same) j h = directly (subst (λ (n : ℕ). HoldsName gs n j) same h)
      held i (inr refers) j h = and_further refers h

      on : At k b → At k v
      on (inl (i, stands, so)) = elim (from_type i b v stands step) [
        | inl within ↦ inl (i, within, so)
        | inr named ↦ inr (named.0, named.1, held i so named.0 named.2)
      ]
      on (inr (j, same, refers)) = inl (j, from_name j v (subst (λ (n : ℕ). Step n v) same step), inr refers)

  leads_refers : (k j : ℕ) → Path (length m.nodes + k) (length m.nodes + j) → Refers gs k j
  leads_refers k j path = on (leads_at k (length m.nodes + j) path)
    where
      on : At k (length m.nodes + j) → Refers gs k j
      on (inl (i, stands, so)) =
          let found = given_of_part 0 m.nodes m.assignments gs parts i stands.assignment stands.there in
          absurd (omega (arith, stands.most, found.part.ends))
      on (inr (i, same, refers)) = subst (λ (n : ℕ). Refers gs k n) (omega (arith, same)) refers

  pub leads_by_names : (k j : ℕ) → k < length m.assignments → Path (length m.nodes + k) (length m.nodes + j) ↔ Refers gs k j
  leads_by_names k j lt = (λ path. leads_refers k j path, λ refers. refers_leads k j lt refers)

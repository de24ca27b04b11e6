-- Types stand as deep in an assignment as its items say.
use Rattle.std.proofs.Common.{◌≡◌, ℕ, ◌+◌, ◌<◌, ◌≤◌, List, length, refl, sym, ap, ◌∙◌, subst, inl, inr, arith}
use Rattle.std.specs.Prelude.{◌⊎◌, ◌↔◌, Option, Some, slice_get, slice_index}
use Rattle.std.proofs.lemmas.Option.{slice_get_within, slice_get_cases}
use Rattle.std.proofs.lemmas.List.Quantifiers.{position-Some}
use Rattle.asn1_tokens.specs.Words.{is_text}
use Rattle.asn1_syntax.specs.declared.types.definition.Node.{Node}
use Rattle.asn1_syntax.specs.declared.assignments.assignment.Assignment.{Assignment}
use Rattle.asn1_syntax.specs.declared.assignments.assignment.Syntax.{Syntax}
use Rattle.asn1_syntax.specs.assignments.Index.{number_of}
use Rattle.asn1_defs.specs.declared.graph.Edge.{Edge}
use Rattle.asn1_defs.specs.Graph.{edge, numbered_edges, nodes_edges, parts_edges, vertex_count, edges_of}
use Rattle.asn1_defs.specs.Paths.{IsAmong, IsStep, Nests, alone, around}
use Rattle.asn1_defs.specs.Judgement.{weight_of, weights_of}
use Rattle.asn1_defs.specs.Links.{IsLinked}
use Rattle.law_asn1.proofs.names.StepsHeld.{begin_of, among_cases, type_step, name_step, parts_have, IntoPart, parts_into, named_edges_of, ToName, FromNode, from_node}
use Rattle.law_asn1.specs.depth.Levels.{Item, Assigned, HasItem, Stands, here, by_name}
use Rattle.law_asn1.proofs.depth.Paths.{Holds, Below, itself, inside, Names, Sound, Found, no_name}
use Rattle.law_asn1.proofs.depth.RowsStand.{InRange}
use Rattle.law_asn1.proofs.depth.ModuleStands.{AreLaid}
use Rattle.law_asn1.proofs.depth.StepsStand.{LaidFor, laid_for, LaidAt, laid_at, same_number, sound_at, type_weight, name_weight, holds_among, among_holds, holds_less, below_within}

module _ (m : Syntax) (gs : List Assigned) (linked : IsLinked m) (laid : AreLaid m.nodes 0 m.assignments gs) where
  abbrev Step : ℕ → ℕ → Type 0
  Step v w = IsStep (vertex_count m) (edges_of m) v w

  abbrev Nest : ℕ → ℕ → Type 0
  Nest v d = Nests (vertex_count m) (edges_of m) (weights_of m) v d

  -- ---- from items to types

  there_is : (name : List ℕ) (j : ℕ) (a : Assignment) → number_of name m.assignments ≡ Some j → j < length m.assignments
  there_is name j a found = (position-Some (λ (b : Assignment). is_text b.name name) m.assignments j a found).0

  holds_step : (v r : ℕ) (new : Node) → slice_get m.nodes v ≡ Some new → Holds new.definition r → r < length m.nodes → Step v r
  holds_step v r new there holds lt =
      type_step m v r new there (slice_get_within m.nodes v new there) (omega (arith, lt)) (holds_among (length m.nodes) m.assignments v r new.definition holds)

  ends_nest : (v w s : ℕ) → Below m.nodes v w s → Nest v s
  ends_nest v w s (itself {new} there) =
      subst (λ (n : ℕ). Nest v n) (type_weight m v new there) (alone (omega (arith, slice_get_within m.nodes v new there)))
  ends_nest v w s (inside {r} {s = t} {new} there holds path) =
      subst (λ (n : ℕ). Nest v (n + t)) (type_weight m v new there)
      (around (holds_step v r new there holds (below_within m.nodes r w t path)) (ends_nest r w t path))

  -- and on by the name of the last of these types
  names_nest : (v w s u e : ℕ) → Below m.nodes v w s → Step w u → Nest u e → Nest v (s + e)
  names_nest v w s u e (itself {new} there) step nest =
      subst (λ (n : ℕ). Nest v (n + e)) (type_weight m v new there) (around step nest)
  names_nest v w s u e (inside {r} {s = t} {new} there holds path) step nest =
      let sum : slice_index (weights_of m) v + (t + e) ≡ (weight_of new.definition + t) + e = omega (arith, type_weight m v new there) in
      subst (λ (n : ℕ). Nest v n) sum
      (around (holds_step v r new there holds (below_within m.nodes r w t path)) (names_nest r w t u e path step nest))

  from_assignment : (k r s : ℕ) (a : Assignment) → k < length m.assignments → slice_get m.assignments k ≡ Some a → begin_of 0 m.assignments k ≤ r → r < a.end → a.end ≤ length m.nodes
      → Nest r s → Nest (length m.nodes + k) (slice_index (weights_of m) (length m.nodes + k) + s)
  from_assignment k r s a lt there least most ends nest =
      around (name_step m k r lt (omega arith) (parts_have (length m.nodes) 0 m.assignments k r a there least most)) nest

  name_leads : (w j : ℕ) (name : List ℕ) → Names m.nodes w name → number_of name m.assignments ≡ Some j → j < length m.assignments → Step w (length m.nodes + j)
  name_leads w j name names found lt =
      type_step m w (length m.nodes + j) names.new names.there (slice_get_within m.nodes w names.new names.there) (omega (arith, lt)) (
      subst (λ (es : List Edge). IsAmong (edge w (length m.nodes + j)) es) (sym (named_edges_of (length m.nodes) m.assignments w names.new.definition name names.named))
      (subst (λ (o : Option ℕ). IsAmong (edge w (length m.nodes + j)) (numbered_edges (length m.nodes) w o)) (sym found) (inl refl))
      )

  -- as deep, or deeper
  abbrev NestsAt : ℕ → ℕ → Type 0
  NestsAt k d = (e : ℕ) × Nest (length m.nodes + k) e × (d ≤ e)

  here_nests : (k : ℕ) (item : Item) → k < length m.assignments → HasItem gs k item → NestsAt k item.level
  here_nests k item lt h = on (laid_for m.nodes 0 m.assignments gs laid k h.given h.there)
    where
      on : LaidFor m.nodes 0 m.assignments k h.given → NestsAt k item.level
      on found = of (sound_at m.nodes (InRange (begin_of 0 m.assignments k) found.assignment.end) 0 h.given.items h.number item found.laid.shows.sound h.at)
        where
          of : Sound m.nodes (InRange (begin_of 0 m.assignments k) found.assignment.end) 0 item → NestsAt k item.level
          of (inl flat) = (slice_index (weights_of m) (length m.nodes + k), alone (omega (arith, lt)), omega (arith, flat.0))
          of (inr reached) = (
            slice_index (weights_of m) (length m.nodes + k) + reached.s,
            from_assignment k reached.r reached.s found.assignment lt found.there reached.from.0 reached.from.1 found.laid.ends (ends_nest reached.r reached.w reached.s reached.path),
            omega (arith, reached.level),
          )

  name_nests : (k j d : ℕ) (item : Item) (name : List ℕ) → k < length m.assignments → HasItem gs k item → item.name ≡ Some name → number_of name m.assignments ≡ Some j → j < length m.assignments
      → NestsAt j d → NestsAt k (item.level + d)
  name_nests k j d item name lt h named target inner later = on (laid_for m.nodes 0 m.assignments gs laid k h.given h.there)
    where
      on : LaidFor m.nodes 0 m.assignments k h.given → NestsAt k (item.level + d)
      on found = of (sound_at m.nodes (InRange (begin_of 0 m.assignments k) found.assignment.end) 0 h.given.items h.number item found.laid.shows.sound h.at)
        where
          of : Sound m.nodes (InRange (begin_of 0 m.assignments k) found.assignment.end) 0 item → NestsAt k (item.level + d)
          of (inl flat) = absurd (no_name item.name flat.1 name named)
          of (inr reached) = (
            slice_index (weights_of m) (length m.nodes + k) + (reached.s + later.0),
            from_assignment k reached.r (reached.s + later.0) found.assignment lt found.there reached.from.0 reached.from.1 found.laid.ends
                (names_nest reached.r reached.w reached.s (length m.nodes + j) later.0 reached.path (name_leads reached.w j name (reached.named name named) target inner) later.1),
            omega (arith, reached.level, later.2),
          )

  stands_nests : (k d : ℕ) → k < length m.assignments → Stands gs k d → NestsAt k d
  stands_nests k d lt (here {item} h) = here_nests k item lt h
  stands_nests k d lt (by_name {j} {d = e} {item} {name} h named target stands) =
      let found : number_of name m.assignments ≡ Some j = sym (same_number name m.nodes m.assignments gs laid) ∙ target in
      let part = laid_for m.nodes 0 m.assignments gs laid k h.given h.there in
      let inner = there_is name j part.assignment found in
      name_nests k j e item name lt h named found inner (stands_nests j e inner stands)

  -- ---- from types to items

  -- a name, and how deep types stand in the assignment that has it
  record Onward (w s d : ℕ) : Type 0 where
    name : List ℕ
    j : ℕ
    e : ℕ
    names : Names m.nodes w name
    found : number_of name m.assignments ≡ Some j
    stands : Stands gs j e
    level : d ≤ s + e

  record Down (v d : ℕ) : Type 0 where
    w : ℕ
    s : ℕ
    path : Below m.nodes v w s
    rest : (d ≤ s) ⊎ Onward w s d

  abbrev StandsAt : ℕ → ℕ → Type 0
  StandsAt k d = (d ≤ 0) ⊎ ((e : ℕ) × Stands gs k e × (d ≤ e))

  record Told (v d : ℕ) : Type 0 where
    of_type : v < length m.nodes → Down v d
    of_name : (k : ℕ) → v ≡ length m.nodes + k → StandsAt k d

  type_there : (v : ℕ) → v < length m.nodes → (new : Node) × (slice_get m.nodes v ≡ Some new)
  type_there v lt = elim (slice_get_cases m.nodes v).1 [
    | inl found ↦ (found.0, found.2)
    | inr past ↦ absurd (omega (arith, past.0, lt))
  ]

  -- a type inside, and on from there
  down_inside : (v r d : ℕ) (new : Node) → slice_get m.nodes v ≡ Some new → Holds new.definition r → Down r d → Down v (slice_index (weights_of m) v + d)
  down_inside v r d new there holds one = record { w = one.w; s = weight_of new.definition + one.s; path = inside there holds one.path; rest = on one.rest }
    where
      on : (d ≤ one.s) ⊎ Onward one.w one.s d → (slice_index (weights_of m) v + d ≤ weight_of new.definition + one.s) ⊎ Onward one.w (weight_of new.definition + one.s) (slice_index (weights_of m) v + d)
      on (inl le) = inl (omega (arith, le, type_weight m v new there))
      on (inr more) = inr (record {
        name = more.name;
        j = more.j;
        e = more.e;
        names = more.names;
        found = more.found;
        stands = more.stands;
        level = omega (arith, more.level, type_weight m v new there);
      })

  down_name : (v d : ℕ) (new : Node) (b : ℕ) → slice_get m.nodes v ≡ Some new → (named : ToName (length m.nodes) m.assignments new.definition b) → StandsAt named.number d
      → Down v (slice_index (weights_of m) v + d)
  down_name v d new b there named (inl le) =
      record { w = v; s = weight_of new.definition; path = itself there; rest = inl (omega (arith, le, type_weight m v new there)) }
  down_name v d new b there named (inr (e, stands, le)) = record {
    w = v;
    s = weight_of new.definition;
    path = itself there;
    rest = inr (record {
      name = named.name;
      j = named.number;
      e = e;
      names = record { new = new; there = there; named = named.named };
      found = named.found;
      stands = stands;
      level = omega (arith, le, type_weight m v new there);
    });
  }

  down_step : (v b d : ℕ) → v < length m.nodes → Step v b → Told b d → Down v (slice_index (weights_of m) v + d)
  unfolding edges_of
  down_step v b d lt step told =
      elim (among_cases (edge v b) (nodes_edges (length m.nodes) m.assignments 0 m.nodes) (parts_edges (length m.nodes) 0 m.assignments) step.among) [
        | inl l ↦ of_type (from_node (length m.nodes) m.assignments 0 m.nodes v b linked.types l)
        | inr r ↦ not_name (parts_into (length m.nodes) 0 m.assignments v b r)
      ]
    where
      not_name : IntoPart (length m.nodes) 0 m.assignments v b → Down v (slice_index (weights_of m) v + d)
      not_name found = absurd (omega (arith, found.at, lt))

      of_type : FromNode (length m.nodes) m.assignments 0 m.nodes v b → Down v (slice_index (weights_of m) v + d)
      of_type found =
          let there : slice_get m.nodes v ≡ Some found.node = subst (λ (n : ℕ). slice_get m.nodes n ≡ Some found.node) (omega (arith, found.at)) found.there in
          elim (among_holds (length m.nodes) m.assignments v b found.node.definition found.among) [
            | inl holds ↦ down_inside v b d found.node there holds (told.of_type (omega (arith, holds_less v b found.node.definition found.inside holds, lt)))
            | inr named ↦ down_name v d found.node b there named (told.of_name named.number named.at)
          ]

  -- a path from a type of an assignment has an item as deep as it
  found_item : (k b d : ℕ) (a : Assignment) → slice_get m.assignments k ≡ Some a → begin_of 0 m.assignments k ≤ b → b < a.end → Down b d → StandsAt k d
  found_item k b d a there least most one = on (laid_at m.nodes 0 m.assignments gs laid k a there)
    where
      on : LaidAt m.nodes 0 m.assignments gs k a → StandsAt k d
      on at = of (at.laid.shows.complete b one.w one.s least most one.path) one.rest
        where
          of : Found m.nodes one.w (0 + one.s) at.given.items → (d ≤ one.s) ⊎ Onward one.w one.s d → StandsAt k d
          of found (inl le) =
              inr (found.item.level, here {item = found.item} (record { given = at.given; there = at.there; number = found.number; at = found.at }), omega (arith, le, found.level))
          of found (inr more) = inr (
            found.item.level + more.e,
            by_name {item = found.item} {name = more.name} (record { given = at.given; there = at.there; number = found.number; at = found.at }) (found.named more.name more.names)
                (same_number more.name m.nodes m.assignments gs laid ∙ more.found) more.stands,
            omega (arith, more.level, found.level),
          )

  name_steps : (k b d : ℕ) → Step (length m.nodes + k) b → Told b d → StandsAt k (slice_index (weights_of m) (length m.nodes + k) + d)
  unfolding edges_of
  name_steps k b d step told =
      elim (among_cases (edge (length m.nodes + k) b) (nodes_edges (length m.nodes) m.assignments 0 m.nodes) (parts_edges (length m.nodes) 0 m.assignments) step.among) [
        | inl l ↦ not_type (from_node (length m.nodes) m.assignments 0 m.nodes (length m.nodes + k) b linked.types l)
        | inr r ↦ of_part (parts_into (length m.nodes) 0 m.assignments (length m.nodes + k) b r)
      ]
    where
      not_type : FromNode (length m.nodes) m.assignments 0 m.nodes (length m.nodes + k) b → StandsAt k (slice_index (weights_of m) (length m.nodes + k) + d)
      not_type found = absurd (omega (arith, found.at, slice_get_within m.nodes found.i found.node found.there))

      of_part : IntoPart (length m.nodes) 0 m.assignments (length m.nodes + k) b → StandsAt k (slice_index (weights_of m) (length m.nodes + k) + d)
      of_part found =
          let same : found.k ≡ k = omega (arith, found.at) in
          let there : slice_get m.assignments k ≡ Some found.assignment = subst (λ (n : ℕ). slice_get m.assignments n ≡ Some found.assignment) same found.there in
          let least : begin_of 0 m.assignments k ≤ b = subst (λ (n : ℕ). begin_of 0 m.assignments n ≤ b) same found.least in
          let part = laid_at m.nodes 0 m.assignments gs laid k found.assignment there in
          subst (λ (n : ℕ). StandsAt k n) (sum (name_weight m k (slice_get_within m.assignments k found.assignment there)))
          (found_item k b d found.assignment there least found.most (told.of_type (omega (arith, found.most, part.laid.ends))))
        where
          sum : slice_index (weights_of m) (length m.nodes + k) ≡ 0 → d ≡ slice_index (weights_of m) (length m.nodes + k) + d
          sum none = omega (arith, none)

  nests_told : (v d : ℕ) → Nest v d → Told v d
  nests_told v d (alone lt) = record {
    of_type = λ within.
        let new = type_there v within in
        record { w = v; s = weight_of new.0.definition; path = itself new.1; rest = inl (omega (arith, type_weight m v new.0 new.1)) };
    of_name = λ k at. inl (none k at (name_weight m k (omega (arith, at, lt))));
  }
    where
      none : (k : ℕ) → v ≡ length m.nodes + k → slice_index (weights_of m) (length m.nodes + k) ≡ 0 → slice_index (weights_of m) v ≤ 0
      none k at zero_there = omega (arith, ap (λ (n : ℕ). slice_index (weights_of m) n) at, zero_there)
  nests_told v d (around {b} {d = e} step nest) = record {
    of_type = λ within. down_step v b e within step (nests_told b e nest);
    of_name = λ k at. subst (λ (n : ℕ). StandsAt k (slice_index (weights_of m) n + e)) (sym at) (name_steps k b e (subst (λ (n : ℕ). Step n b) at step) (nests_told b e nest));
  }

  -- types stand deeper than this one inside another in an assignment, told of types or of items
  pub depth_held : (k n : ℕ) → k < length m.assignments
      → ((d : ℕ) × Nests (vertex_count m) (edges_of m) (weights_of m) (length m.nodes + k) d × (n < d)) ↔ ((d : ℕ) × Stands gs k d × (n < d))
  depth_held k n lt = (λ h. to h.0 h.2 ((nests_told (length m.nodes + k) h.0 h.1).of_name k refl), λ h. from h.0 h.2 (stands_nests k h.0 lt h.1))
    where
      to : (d : ℕ) → n < d → StandsAt k d → (e : ℕ) × Stands gs k e × (n < e)
      to d less (inl le) = absurd (omega (arith, less, le))
      to d less (inr (e, stands, le)) = (e, stands, omega (arith, less, le))

      from : (d : ℕ) → n < d → NestsAt k d → (e : ℕ) × Nest (length m.nodes + k) e × (n < e)
      from d less (e, nest, le) = (e, nest, omega (arith, less, le))

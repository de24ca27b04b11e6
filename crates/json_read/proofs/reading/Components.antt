-- Components of a SEQUENCE, one after the other.
use Rattle.std.proofs.Common.{◌≡◌, ℕ, ◌+◌, ◌<◌, ◌≤◌, List, [], ◌∷◌, ◌++◌, length, drop, get_or, Option, Some, None, Result, Ok, Err, Vec, refl, sym, ap, subst, ◌∙◌}
use Rattle.std.proofs.lemmas.List.{drop_all}
use Rattle.serde_json.specs.Data.{Data, Members}
use Rattle.serde_json.specs.Find.{get_member}
use Rattle.asn1_syntax.specs.declared.types.definition.Component.{Component}
use Rattle.aper_defs.specs.Fields.{Path}
use Rattle.aper_defs.specs.Fields as ways
use Rattle.aper_defs.specs.Values as seen
use Rattle.aper_fields.proofs.members.Turns.{item_at}
use Rattle.aper_values.specs.declared.value.Value.{Value}
use Rattle.aper_values.specs.Views.{options_of, options_view}
use Rattle.json_defs.specs.Named.{Named}
use Rattle.json_defs.specs.Readings.{components_in, present_if, read_if, value_of}
use Rattle.json_defs.specs.Demands.{Demand, shape, if_there, demands, component_demands}
use Rattle.json_defs.specs.type_defs.Types.{parts_with}
use Rattle.json_fields.specs.declared.simple.refusal.Refusal.{Refusal}
use Rattle.json_fields.specs.simple.Answers.{Tells, Reads}
use Rattle.json_read.proofs.wholes.Demanded.{NoneFails, told_first, reads_later}
use Rattle.json_read.proofs.wholes.Puts.{options_then, option_more, options_end}
use Rattle.json_read.proofs.reading.Lists.{reads_other}
use Rattle.std.specs.declared.alloc.Global.{Global}

abbrev pub OptValues : Type 0
OptValues = Vec (Option Value) Global

module _ (of : ℕ → Named) (ms : Members) where
  abbrev pub component_asked : Component → Path → List Demand
  component_asked c p = if_there (λ d. demands (ways.component c.name ∷ p) (of c.definition.number) d) (get_member c.name ms)
      (shape (ways.component c.name ∷ p) c.optional ∷ [])

  abbrev pub component_read : Component → Option seen.Value
  component_read c = read_if (λ d. value_of (of c.definition.number) d) (get_member c.name ms)

  abbrev IsMade : List (Option seen.Value) → List Component → OptValues → Type 0
  IsMade made cs values = options_view values.items ≡ options_then made (components_in (parts_with of cs) ms)

  abbrev pub ComponentsLeft : List (Option seen.Value) → List Component → Result OptValues Refusal → Type 0
  ComponentsLeft made cs answer = Reads (λ p. component_demands p (parts_with of cs) ms) (λ values. IsMade made cs values) answer

  next : (made more : List (Option seen.Value)) (c : Component) (cs : List Component) (answer : Result OptValues Refusal)
      → NoneFails (component_asked c) → more ≡ made ++ component_read c ∷ [] → ComponentsLeft more cs answer
      → ComponentsLeft made (c ∷ cs) answer
  unfolding component_demands components_in
  next made more c cs answer none put rest =
      reads_later (IsMade made (c ∷ cs)) (component_asked c) (λ p. component_demands p (parts_with of cs) ms) answer none
      (reads_other (λ p. component_demands p (parts_with of cs) ms) (IsMade more cs) (IsMade made (c ∷ cs)) answer
      (λ values h. h ∙ ap (λ (ws : List (Option seen.Value)). options_then ws (components_in (parts_with of cs) ms)) put
      ∙ option_more made (component_read c) (components_in (parts_with of cs) ms)) rest)

  ends : (made : List (Option seen.Value)) (c : Component) (cs : List Component) (refusal : Refusal) → Tells (component_asked c) refusal
      → ComponentsLeft made (c ∷ cs) (Err refusal)
  unfolding component_demands
  ends made c cs refusal h = told_first (component_asked c) (λ p. component_demands p (parts_with of cs) ms) refusal h

  module _ (cs : List Component) (i : ℕ) where
    pub component_turn : (c : Component) (made more : List (Option seen.Value)) (answer : Result OptValues Refusal) → i < length cs
        → c ≡ get_or cs i c → NoneFails (component_asked c) → more ≡ made ++ component_read c ∷ []
        → ComponentsLeft more (drop (i + 1) cs) answer → ComponentsLeft made (drop i cs) answer
    component_turn c made more answer lt is none put rest =
        subst (λ (ds : List Component). ComponentsLeft made ds answer) (sym (item_at cs i c lt is))
        (next made more c (drop (i + 1) cs) answer none put rest)

    pub component_stop : (c : Component) (made : List (Option seen.Value)) (refusal : Refusal) → i < length cs → c ≡ get_or cs i c
        → Tells (component_asked c) refusal → ComponentsLeft made (drop i cs) (Err refusal)
    component_stop c made refusal lt is told =
        subst (λ (ds : List Component). ComponentsLeft made ds (Err refusal)) (sym (item_at cs i c lt is))
        (ends made c (drop (i + 1) cs) refusal told)

  nothing_left : (values : OptValues) (made : List (Option seen.Value)) → options_view values.items ≡ options_of made
      → ComponentsLeft made [] (Ok values)
  unfolding component_demands components_in
  nothing_left values made h = (λ p. refl, h ∙ sym (options_end made))

  pub components_done : (cs : List Component) (i : ℕ) (values : OptValues) (made : List (Option seen.Value)) → length cs ≤ i
      → options_view values.items ≡ options_of made → ComponentsLeft made (drop i cs) (Ok values)
  components_done cs i values made most h =
      subst (λ (ds : List Component). ComponentsLeft made ds (Ok values)) (sym (drop_all i cs most)) (nothing_left values made h)

  -- a member that is there, and one that isn't
  pub asked_there : (c : Component) (d : Data) → Some d ≡ get_member c.name ms → (p : Path)
      → component_asked c p ≡ demands (ways.component c.name ∷ p) (of c.definition.number) d
  asked_there c d h p =
      ap (λ (o : Option Data). if_there (λ e. demands (ways.component c.name ∷ p) (of c.definition.number) e) o
      (shape (ways.component c.name ∷ p) c.optional ∷ [])) (sym h)

  pub asked_absent : (c : Component) → None ≡ get_member c.name ms → (p : Path) → component_asked c p ≡ shape (ways.component c.name ∷ p) c.optional ∷ []
  asked_absent c h p =
      ap (λ (o : Option Data). if_there (λ e. demands (ways.component c.name ∷ p) (of c.definition.number) e) o
      (shape (ways.component c.name ∷ p) c.optional ∷ [])) (sym h)

-- What is asked of components and additions, one at a time.
use Rattle.std.proofs.Common.{◌≡◌, ℕ, List, [], ◌∷◌, ◌++◌, Bool, true, false, Option, Some, None, refl, sym, ap, ◌∙◌}
use Rattle.asn1_syntax.specs.declared.types.definition.Component.{Component}
use Rattle.aper_defs.specs.Trees.{Tree}
use Rattle.aper_defs.specs.Values as seen
use Rattle.aper_defs.specs.Fields.{Path}
use Rattle.aper_defs.specs.Fields as fields
use Rattle.aper_defs.specs.Questions.{Prog, ask_open, ask_raw}
use Rattle.aper_defs.specs.Asking.{asks, ask_components, ask_additions, ask_marks}
use Rattle.aper_values.specs.types.Types.{parts_of}
use Rattle.aper_values.specs.declared.value.Value.{Value}
use Rattle.aper_values.specs.Views.{options_view}
use Rattle.aper_frames.specs.declared.frame.Components.{Components}
use Rattle.aper_frames.specs.declared.frame.Additions.{Additions}
use Rattle.aper_frames.specs.declared.parts.Addition.{Addition}
use Rattle.aper_frames.specs.declared.parts.Addition.TheVariants as additions
use Rattle.aper_frames.specs.Frames.{options_before, components_left, components_next, after_components, additions_left, additions_next, after_additions, IsNamed}
use Rattle.aper_frames.proofs.Before.{options_absent}

module _ (of : ℕ → Tree) (p : Path) where
  pub component_absent : (q : Component) (parts : List Component) (there : List Bool) (made : List (Option Value)) (J : seen.Options → Prog)
      → ask_components p (parts_of of (q ∷ parts)) (false ∷ there) (options_before made J)
      ≡ ask_components p (parts_of of parts) there (options_before (made ++ None ∷ []) J)
  unfolding ask_components
  component_absent q parts there made J = ap (λ (L : seen.Options → Prog). ask_components p (parts_of of parts) there L) (sym (options_absent made J))

  pub component_there : (q : Component) (parts : List Component) (there : List Bool) (J : seen.Options → Prog)
      → ask_components p (parts_of of (q ∷ parts)) (true ∷ there) J
      ≡ asks (fields.component q.name ∷ p) (of q.definition.number) (λ v. ask_components p (parts_of of parts) there (λ vs. J (seen.present v vs)))
  unfolding ask_components
  component_there q parts there J = refl

  pub components_none : (there : List Bool) (J : seen.Options → Prog) → ask_components p (parts_of of []) there J ≡ J seen.no_options
  unfolding ask_components
  components_none there J = refl

  pub components_unmarked : (parts : List Component) (J : seen.Options → Prog) → ask_components p (parts_of of parts) [] J ≡ J seen.no_options
  unfolding ask_components
  components_unmarked [] J = refl
  components_unmarked (q ∷ parts) J = refl

  pub addition_absent : (q : Component) (parts : List Component) (there : List Bool) (made : List (Option Value)) (J : seen.Options → Prog)
      → ask_additions p (parts_of of (q ∷ parts)) (false ∷ there) (options_before made J)
      ≡ ask_additions p (parts_of of parts) there (options_before (made ++ None ∷ []) J)
  unfolding ask_additions
  addition_absent q parts there made J = ap (λ (L : seen.Options → Prog). ask_additions p (parts_of of parts) there L) (sym (options_absent made J))

  pub unnamed_absent : (there : List Bool) (made : List (Option Value)) (J : seen.Options → Prog)
      → ask_additions p (parts_of of []) (false ∷ there) (options_before made J)
      ≡ ask_additions p (parts_of of []) there (options_before (made ++ None ∷ []) J)
  unfolding ask_additions
  unnamed_absent there made J = ap (λ (L : seen.Options → Prog). ask_additions p (parts_of of []) there L) (sym (options_absent made J))

  pub addition_there : (q : Component) (parts : List Component) (there : List Bool) (J : seen.Options → Prog)
      → ask_additions p (parts_of of (q ∷ parts)) (true ∷ there) J
      ≡ ask_open p (fields.component q.name ∷ p) (asks (fields.component q.name ∷ p) (of q.definition.number))
      (λ v. ask_additions p (parts_of of parts) there (λ more. J (seen.present v more)))
  unfolding ask_additions
  addition_there q parts there J = refl

  pub unnamed_there : (there : List Bool) (J : seen.Options → Prog)
      → ask_additions p (parts_of of []) (true ∷ there) J
      ≡ ask_raw p p (λ v. ask_additions p (parts_of of []) there (λ more. J (seen.present v more)))
  unfolding ask_additions
  unnamed_there there J = refl

  pub additions_unmarked : (parts : List Component) (J : seen.Options → Prog) → ask_additions p (parts_of of parts) [] J ≡ J seen.no_options
  unfolding ask_additions
  additions_unmarked [] J = refl
  additions_unmarked (q ∷ parts) J = refl

-- ---- components, as a loop over their flags has them
module _ (of : ℕ → Tree) (p : Path) (K : seen.Value → Prog) where
  pub components_over : (a : Components) → a.there ≡ []
      → components_left of a p K ≡ options_before a.made.items (after_components of a p K) seen.no_options
  components_over a e =
      ap (λ (there : List Bool). ask_components p (parts_of of a.left.now) there (options_before a.made.items (after_components of a p K))) e
      ∙ components_unmarked of p a.left.now (options_before a.made.items (after_components of a p K))

  module _ (a n : Components) (made : n.made.items ≡ a.made.items) (added : n.additions.now ≡ a.additions.now)
      (extended : n.extended ≡ a.extended) where
    components_same : (parts : List Component) (there : List Bool) → a.left.now ≡ parts → a.there ≡ there
        → components_left of a p K ≡ ask_components p (parts_of of parts) there (options_before n.made.items (after_components of n p K))
    components_same parts there left marks =
        ap (λ (ps : List Component). ask_components p (parts_of of ps) a.there (options_before a.made.items (after_components of a p K))) left
        ∙ ap (λ (bs : List Bool). ask_components p (parts_of of parts) bs (options_before a.made.items (after_components of a p K))) marks
        ∙ ap (λ (vs : List (Option Value)). ask_components p (parts_of of parts) there (options_before vs (after_components of a p K))) (sym made)
        ∙ ap (λ (ps : List Component). ask_components p (parts_of of parts) there (options_before n.made.items
        (λ vs. ask_marks p a.extended (λ bs. ask_additions p (parts_of of ps) bs (λ more. K (seen.components vs more)))))) (sym added)
        ∙ ap (λ (b : Bool). ask_components p (parts_of of parts) there (options_before n.made.items
        (λ vs. ask_marks p b (λ bs. ask_additions p (parts_of of n.additions.now) bs (λ more. K (seen.components vs more)))))) (sym extended)

    pub components_ended : (b : Bool) (there : List Bool) → a.left.now ≡ [] → a.there ≡ b ∷ there
        → components_left of a p K ≡ options_before n.made.items (after_components of n p K) seen.no_options
    components_ended b there left marks =
        components_same [] (b ∷ there) left marks
        ∙ components_none of p (b ∷ there) (options_before n.made.items (after_components of n p K))

    pub component_found : (q : Component) (b : Bool) (there : List Bool) → a.left.now ≡ q ∷ n.left.now → a.there ≡ b ∷ there → b ≡ true
        → n.there ≡ there → components_left of a p K ≡ components_next of n p K (Some q)
    component_found q b there left marks is rest =
        components_same (q ∷ n.left.now) (true ∷ n.there) left
        (marks ∙ ap (λ (x : Bool). x ∷ there) is ∙ ap (λ (bs : List Bool). true ∷ bs) (sym rest))
        ∙ component_there of p q n.left.now n.there (options_before n.made.items (after_components of n p K))

    pub component_skipped : (q : Component) (b : Bool) (there : List Bool) (more : List (Option Value))
        → a.left.now ≡ q ∷ n.left.now → a.there ≡ b ∷ there → b ≡ false → n.there ≡ there → more ≡ n.made.items ++ None ∷ []
        → components_left of a p K ≡ ask_components p (parts_of of n.left.now) n.there (options_before more (after_components of n p K))
    component_skipped q b there more left marks is rest put =
        components_same (q ∷ n.left.now) (false ∷ n.there) left
        (marks ∙ ap (λ (x : Bool). x ∷ there) is ∙ ap (λ (bs : List Bool). false ∷ bs) (sym rest))
        ∙ component_absent of p q n.left.now n.there n.made.items (after_components of n p K)
        ∙ ap (λ (vs : List (Option Value)). ask_components p (parts_of of n.left.now) n.there (options_before vs (after_components of n p K))) (sym put)

-- ---- additions
module _ (of : ℕ → Tree) (p : Path) (K : seen.Value → Prog) where
  pub additions_over : (a : Additions) → a.there ≡ []
      → additions_left of a p K ≡ options_before a.made.items (after_additions a K) seen.no_options
  additions_over a e =
      ap (λ (there : List Bool). ask_additions p (parts_of of a.left.now) there (options_before a.made.items (after_additions a K))) e
      ∙ additions_unmarked of p a.left.now (options_before a.made.items (after_additions a K))

  module _ (a n : Additions) (made : n.made.items ≡ a.made.items) (root : n.root.items ≡ a.root.items) where
    additions_same : (parts : List Component) (there : List Bool) → a.left.now ≡ parts → a.there ≡ there
        → additions_left of a p K ≡ ask_additions p (parts_of of parts) there (options_before n.made.items (after_additions n K))
    additions_same parts there left marks =
        ap (λ (ps : List Component). ask_additions p (parts_of of ps) a.there (options_before a.made.items (after_additions a K))) left
        ∙ ap (λ (bs : List Bool). ask_additions p (parts_of of parts) bs (options_before a.made.items (after_additions a K))) marks
        ∙ ap (λ (vs : List (Option Value)). ask_additions p (parts_of of parts) there (options_before vs (after_additions a K))) (sym made)
        ∙ ap (λ (vs : List (Option Value)). ask_additions p (parts_of of parts) there (options_before n.made.items
        (λ more. K (seen.components (options_view vs) more)))) (sym root)

    marked : (b c : Bool) (there : List Bool) → a.there ≡ b ∷ there → b ≡ c → n.there ≡ there → a.there ≡ c ∷ n.there
    marked b c there marks is rest = marks ∙ ap (λ (x : Bool). x ∷ there) is ∙ ap (λ (bs : List Bool). c ∷ bs) (sym rest)

    pub addition_found : (x : Addition) (b : Bool) (there : List Bool) → IsNamed a.left.now n.left.now x → a.there ≡ b ∷ there → b ≡ true
        → n.there ≡ there → additions_left of a p K ≡ additions_next of n p K x
    addition_found (additions.Named q) b there left marks is rest =
        additions_same (q.now ∷ n.left.now) (true ∷ n.there) left (marked b true there marks is rest)
        ∙ addition_there of p q.now n.left.now n.there (options_before n.made.items (after_additions n K))
    addition_found additions.Unnamed b there left marks is rest =
        additions_same [] (true ∷ n.there) left.0 (marked b true there marks is rest)
        ∙ unnamed_there of p n.there (options_before n.made.items (after_additions n K))
        ∙ ap (λ (ps : List Component). ask_raw p p (λ v. ask_additions p (parts_of of ps) n.there
        (λ more. options_before n.made.items (after_additions n K) (seen.present v more)))) (sym left.1)
    addition_found additions.End b there left marks is rest = absurd left

    pub addition_skipped : (x : Addition) (b : Bool) (there : List Bool) (more : List (Option Value)) → IsNamed a.left.now n.left.now x
        → a.there ≡ b ∷ there → b ≡ false → n.there ≡ there → more ≡ n.made.items ++ None ∷ []
        → additions_left of a p K ≡ ask_additions p (parts_of of n.left.now) n.there (options_before more (after_additions n K))
    addition_skipped (additions.Named q) b there more left marks is rest put =
        additions_same (q.now ∷ n.left.now) (false ∷ n.there) left (marked b false there marks is rest)
        ∙ addition_absent of p q.now n.left.now n.there n.made.items (after_additions n K)
        ∙ ap (λ (vs : List (Option Value)). ask_additions p (parts_of of n.left.now) n.there (options_before vs (after_additions n K))) (sym put)
    addition_skipped additions.Unnamed b there more left marks is rest put =
        additions_same [] (false ∷ n.there) left.0 (marked b false there marks is rest)
        ∙ unnamed_absent of p n.there n.made.items (after_additions n K)
        ∙ ap (λ (ps : List Component). ask_additions p (parts_of of ps) n.there (options_before (n.made.items ++ None ∷ []) (after_additions n K))) (sym left.1)
        ∙ ap (λ (vs : List (Option Value)). ask_additions p (parts_of of n.left.now) n.there (options_before vs (after_additions n K))) (sym put)
    addition_skipped additions.End b there more left marks is rest put = absurd left

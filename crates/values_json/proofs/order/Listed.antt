-- Where the names ascend as they come, the members come in the order of their names.
use Rattle.std.proofs.Common.{◌≡◌, List, [], ◌∷◌, length, Bool, true, false, Option, Some, None, ℕ, suc, refl, ap, ◌∙◌, Ordering}
use Rattle.std.specs.Ordering.{match_ordering}
use Rattle.serde_json.specs.Data.{Data, array, Items, Members, member, put}
use Rattle.serde_json.specs.Events.{members_len}
use Rattle.asn1_syntax.specs.declared.types.definition.Component.{Component}
use Rattle.aper_values.specs.declared.value.Value.{Value}
use Rattle.aper_values.specs.Views.{view, options_view}
use Rattle.json_defs.specs.Named.{Named}
use Rattle.json_defs.specs.Members.{Text, dots}
use Rattle.json_defs.specs.shown_defs.Printed.{shown_as, components_shown}
use Rattle.json_defs.specs.type_defs.Types.{parts_with}
use Rattle.values_json.specs.order.Names.{names_there, object_names, IsBeforeNext, AreAscending}
use Rattle.values_json.specs.order.Listed.{listed, with_dots, dots_first}

module _ (of : ℕ → Named) where
  put_first : (k : Text) (d : Data) (ps : List Component) (vs : List (Option Value)) → IsBeforeNext k (names_there ps vs)
      → put k d (listed (parts_with of ps) (options_view vs)) ≡ member k d (listed (parts_with of ps) (options_view vs))
  put_first k d [] vs h = refl
  put_first k d (p ∷ ps) [] h = refl
  put_first k d (p ∷ ps) (None ∷ vs) h = put_first k d ps vs h
  put_first k d (p ∷ ps) (Some v ∷ vs) h =
      let e : Data = shown_as (of p.definition.number) (view v) in
      let ms : Members = listed (parts_with of ps) (options_view vs) in
      ap (λ (o : Ordering). match_ordering o (member k d (member p.name e ms)) (member p.name d ms) (member p.name e (put k d ms))) h

  shown_listed : (ps : List Component) (vs : List (Option Value)) → AreAscending (names_there ps vs)
      → components_shown (parts_with of ps) (options_view vs) ≡ listed (parts_with of ps) (options_view vs)
  unfolding components_shown
  shown_listed [] vs h = refl
  shown_listed (p ∷ ps) [] h = refl
  shown_listed (p ∷ ps) (None ∷ vs) h = shown_listed ps vs h
  shown_listed (p ∷ ps) (Some v ∷ vs) h =
      ap (put p.name (shown_as (of p.definition.number) (view v))) (shown_listed ps vs h.1)
      ∙ put_first p.name (shown_as (of p.definition.number) (view v)) ps vs h.0

  -- the order as they come is that of the names
  pub ascending_listed : (ds : Items) (has : Bool) (ps : List Component) (vs : List (Option Value)) → AreAscending (object_names has ps vs)
      → with_dots has ds (components_shown (parts_with of ps) (options_view vs))
      ≡ dots_first has ds (listed (parts_with of ps) (options_view vs))
  ascending_listed ds false ps vs h = shown_listed ps vs h
  ascending_listed ds true ps vs h = ap (put dots (array ds)) (shown_listed ps vs h.1) ∙ put_first dots (array ds) ps vs h.0

  there_length : (ps : List Component) (vs : List (Option Value))
      → members_len (listed (parts_with of ps) (options_view vs)) ≡ length (names_there ps vs)
  there_length [] vs = refl
  there_length (p ∷ ps) [] = refl
  there_length (p ∷ ps) (None ∷ vs) = there_length ps vs
  there_length (p ∷ ps) (Some v ∷ vs) = ap suc (there_length ps vs)

  -- as many members as names
  pub listed_length : (ds : Items) (has : Bool) (ps : List Component) (vs : List (Option Value))
      → members_len (dots_first has ds (listed (parts_with of ps) (options_view vs))) ≡ length (object_names has ps vs)
  listed_length ds false ps vs = there_length ps vs
  listed_length ds true ps vs = ap suc (there_length ps vs)

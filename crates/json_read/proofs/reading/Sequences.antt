-- A SEQUENCE: its components, its additions, and its keys.
use Rattle.std.proofs.Common.{◌≡◌, ℕ, List, [], ◌∷◌, ◌++◌, Bool, true, false, cond, Option, Some, None, Result, Ok, Err, Vec, Global, refl, sym, ap, subst, ◌∙◌}
use Rattle.std.specs.Prelude.{is_some}
use Rattle.serde_json.specs.Data.{Data, object, Members}
use Rattle.serde_json.specs.Find.{get_member, as_array}
use Rattle.asn1_syntax.specs.declared.types.definition.Component.{Component}
use Rattle.asn1_syntax.specs.declared.types.definition.Extensible.{Extensible}
use Rattle.asn1_syntax.specs.types.Members.{additions_of}
use Rattle.aper_defs.specs.Fields.{Path}
use Rattle.aper_defs.specs.Values as seen
use Rattle.aper_values.specs.types.Types.{is_extensible}
use Rattle.aper_values.specs.declared.value.Value.{Value}
use Rattle.aper_values.specs.Views.{view, options_view}
use Rattle.json_defs.specs.Named.{Named, sequence}
use Rattle.json_defs.specs.Members.{are_keys_among, items_in, dots}
use Rattle.json_defs.specs.Shown.{keys_of}
use Rattle.json_defs.specs.Readings.{components_in, added_in, additions_in, value_of}
use Rattle.json_defs.specs.Demands.{Demand, first_fault, shape, if_there, added_demands, demands, component_demands, each_added, open_demands}
use Rattle.json_defs.specs.type_defs.Types.{parts_with}
use Rattle.json_fields.specs.types.Forms.{sequence_named}
use Rattle.json_fields.specs.declared.simple.refusal.Refusal.{Refusal}
use Rattle.json_fields.specs.simple.Answers.{Tells, Reads}
use Rattle.json_read.specs.declared.wholes.wholes.Additions.{Additions}
use Rattle.json_read.specs.wholes.Reads.{ReadsAs, ReadsAdditions}
use Rattle.json_read.proofs.wholes.Demanded.{NoneFails, told_first, told_later, reads_later, reads_same}
use Rattle.json_read.specs.reading.Inside.{listed, opened, added}
use Rattle.json_read.proofs.reading.Forms.{no_additions, some_additions}
use Rattle.json_read.proofs.reading.Components.{OptValues}

module _ (of : ℕ → Named) (members : Extensible Component) (ms : Members) where
  abbrev e : Bool
  e = is_extensible members

  abbrev more : List Component
  more = additions_of members.additions

  abbrev keys : Bool
  keys = are_keys_among (keys_of e (parts_with of members.root)) ms

  abbrev rest : Option Data → Path → List Demand
  rest o p = if_there (λ d. listed of more d p) o [] ++ (shape p keys ∷ if_there (λ d. opened of more d p) o [])

  abbrev there : Option Data
  there = cond e (get_member dots ms) None

  abbrev root_asked : Path → List Demand
  root_asked p = component_demands p (parts_with of members.root) ms

  pub root_told : (refusal : Refusal) → Tells root_asked refusal
      → ReadsAs (λ p. demands p (sequence_named of members) (object ms)) (value_of (sequence_named of members) (object ms)) (Err refusal)
  unfolding demands
  root_told refusal told =
      told_later (λ p. shape p true ∷ []) (λ p. root_asked p ++ rest there p) refusal (λ p. refl) (told_first root_asked (rest there) refusal told)

  whole : (more_read : seen.Options) (answer : Result Value Refusal) → NoneFails root_asked
      → cond e (additions_in (λ ds. added_in (parts_with of more) ds) (get_member dots ms)) seen.no_options ≡ more_read
      → ReadsAs (rest there) (seen.components (components_in (parts_with of members.root) ms) more_read) answer
      → ReadsAs (λ p. demands p (sequence_named of members) (object ms)) (value_of (sequence_named of members) (object ms)) answer
  unfolding demands value_of
  whole more_read answer none same h =
      reads_later _ (λ p. shape p true ∷ []) (λ p. root_asked p ++ rest there p) answer (λ p. refl)
      (reads_later _ root_asked (rest there) answer none
      (reads_same _ (rest there) (rest there) _ answer (λ p. refl)
      (ap (seen.components (components_in (parts_with of members.root) ms)) same) h))

  -- what was read of the root, by the parts that were asked
  abbrev RootRead : OptValues → Type 0
  RootRead root = NoneFails root_asked × (options_view root.items ≡ components_in (parts_with of members.root) ms)

  pub root_read : (parts : List Component) (root : OptValues) → parts ≡ members.root
      → Reads (λ p. component_demands p (parts_with of parts) ms) (λ (vs : OptValues). options_view vs.items ≡ components_in (parts_with of parts) ms) (Ok root)
      → RootRead root
  root_read parts root is h =
      subst (λ (cs : List Component). Reads (λ p. component_demands p (parts_with of cs) ms)
      (λ (vs : OptValues). options_view vs.items ≡ components_in (parts_with of cs) ms) (Ok root)) is h

  module _ (parts : List Component) (x : Bool) (is : parts ≡ members.root) (ext : x ≡ e) (answer : Result Value Refusal) (root : OptValues)
      (read : RootRead root) where
    abbrev asked_keys : Bool
    asked_keys = are_keys_among (keys_of x (parts_with of parts)) ms

    same_keys : asked_keys ≡ keys
    same_keys =
        ap (λ (cs : List Component). are_keys_among (keys_of x (parts_with of cs)) ms) is
        ∙ ap (λ (b : Bool). are_keys_among (keys_of b (parts_with of members.root)) ms) ext

    same_there : (o : Option Data) → o ≡ cond x (get_member dots ms) None → o ≡ there
    same_there o h = h ∙ ap (λ (b : Bool). cond b (get_member dots ms) None) ext

    pub plain_whole : None ≡ cond x (get_member dots ms) None
        → ReadsAs (λ p. [] ++ (shape p asked_keys ∷ [])) (seen.components (options_view root.items) seen.no_options) answer
        → ReadsAs (λ p. demands p (sequence_named of members) (object ms)) (value_of (sequence_named of members) (object ms)) answer
    plain_whole none h =
        let gone : None ≡ there = same_there None none in
        whole seen.no_options answer read.0 (no_additions (λ ds. added_in (parts_with of more) ds) e (get_member dots ms) gone)
        (reads_same _ (rest there) (λ p. shape p asked_keys ∷ []) _ answer
        (λ p. ap (λ (o : Option Data). rest o p) (sym gone) ∙ ap (λ (b : Bool). shape p b ∷ []) (sym same_keys))
        (ap (λ (vs : seen.Options). seen.components vs seen.no_options) (sym read.1)) h)

    pub extended_whole : (d : Data) → Some d ≡ cond x (get_member dots ms) None
        → ReadsAs (λ p. listed of more d p ++ (shape p asked_keys ∷ opened of more d p))
        (seen.components (options_view root.items) (added of more d)) answer
        → ReadsAs (λ p. demands p (sequence_named of members) (object ms)) (value_of (sequence_named of members) (object ms)) answer
    extended_whole d some h =
        let got : Some d ≡ there = same_there (Some d) some in
        whole (added of more d) answer read.0 (some_additions (λ ds. added_in (parts_with of more) ds) e (get_member dots ms) d got)
        (reads_same _ (rest there) (λ p. listed of more d p ++ (shape p asked_keys ∷ opened of more d p)) _ answer
        (λ p. ap (λ (o : Option Data). rest o p) (sym got)
        ∙ ap (λ (b : Bool). listed of more d p ++ (shape p b ∷ opened of more d p)) (sym same_keys))
        (ap (λ (vs : seen.Options). seen.components vs (added of more d)) (sym read.1)) h)

-- additions that aren't there
pub no_additions_asked : (values : OptValues) → values.items ≡ []
    → ReadsAdditions (λ p. []) (λ p. []) seen.no_options (Ok (record { values = values; unfit = None }))
no_additions_asked values h = (λ p. refl, (ap (λ (xs : List (Option Value)). options_view xs) h, λ p. refl))

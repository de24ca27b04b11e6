-- What the steps from a text to a value give together.
use Rattle.std.proofs.Common.{◌≡◌, ℕ, List, [], map, Some, Result, Ok, Err, Vec, Global, ap, subst, ◌∙◌, append-nil}
use Rattle.std.specs.Prelude.{IfOk, reverse}
use Rattle.std.proofs.lemmas.List.{reverse-reverse}
use Rattle.serde_json.specs.Data.{Data}
use Rattle.serde_json.specs.declared.value.Value.{Value as Json}
use Rattle.asn1_syntax.specs.declared.assignments.assignment.Syntax.{Syntax}
use Rattle.asn1_defs.specs.Modules.{IsModule}
use Rattle.aper.specs.PathText.{path_text}
use Rattle.aper_defs.specs.Fields.{Path}
use Rattle.aper_frames.specs.Paths.{path_view, step_view}
use Rattle.aper_frames.specs.declared.path.Step.{Step}
use Rattle.aper_values.specs.declared.value.Value.{Value}
use Rattle.aper_values.specs.Views.{view}
use Rattle.json_defs.specs.Named.{Named}
use Rattle.json_defs.specs.Readings.{value_of}
use Rattle.json_defs.specs.declared.fault.JsonFault.{JsonFault}
use Rattle.json_defs.specs.Demands.{Demand, demands}
use Rattle.json_defs.specs.type_defs.Types.{named}
use Rattle.proof_json.proofs.modules.Members.{read_json}
use Rattle.json_fields.specs.declared.simple.refusal.Refusal.{Refusal}
use Rattle.json_fields.specs.declared.simple.refusal.Refusal.TheVariants.{Fault}
use Rattle.json_fields.specs.simple.Answers.{Tells}
use Rattle.values_json.specs.declared.error.JsonError.{JsonError}
use Rattle.values_json.specs.declared.error.JsonError.TheVariants.{NotJson, Shape, Range, Memory}
use Rattle.values_json.specs.Texts.{IsJson, IsNoJson, IsTextOf, HasFault, OnNotJson, OnFault}
use Rattle.values_json.specs.inside.Answered.{IsTreeOf, IsFirst, IsAnswered}

module _ (m : Syntax) (id : ℕ) (text : List ℕ) (d : Data) (is : IsModule m) (json : IsJson text d) where
  abbrev Answers : Result Value JsonError → Type 0
  Answers r = IsAnswered (λ p. demands p (named m id) d) (value_of (named m id) d) r

  pub text_value : (r : Result Value JsonError) → Answers r → IfOk r (λ v. IsTextOf (named m id) text (view v))
  text_value (Ok v) h = (d, json, read_json m id d is h.0 (view v) h.1)
  text_value (Err error) h = tt

  pub text_json : (r : Result Value JsonError) → Answers r → OnNotJson r (IsNoJson text)
  text_json (Ok v) h = tt
  text_json (Err NotJson) h = absurd h
  text_json (Err (Shape path)) h = tt
  text_json (Err (Range path)) h = tt
  text_json (Err Memory) h = tt

  pub text_fault : (r : Result Value JsonError) → Answers r → OnFault r (HasFault (named m id) text)
  text_fault (Ok v) h = tt
  text_fault (Err NotJson) h = absurd h
  text_fault (Err (Shape path)) h = (d, h.0, json, h.1, h.2)
  text_fault (Err (Range path)) h = (d, h.0, json, h.1, h.2)
  text_fault (Err Memory) h = tt

-- a refusal, with the text of its way
pub first_told : (of : Path → List Demand) (refusal : Refusal) (told fault : JsonFault) (steps : Vec Step Global) (text : List ℕ)
    → refusal ≡ Fault told steps → told ≡ fault → text ≡ path_text (path_view (reverse steps.items)) → Tells of refusal
    → IsFirst of fault text
first_told of refusal told fault steps text is kind put tells =
    let way : Path = map step_view steps.items in (
      way,
      subst (λ (r : Refusal). Tells of r) is tells [] ∙ ap (λ (w : Path). Some (told, w)) (append-nil way) ∙ ap (λ (f : JsonFault). Some (f, way)) kind,
      put ∙ ap (λ (xs : List Step). path_text (map step_view xs)) (reverse-reverse steps.items),
    )

-- no tree: the text is no JSON, or memory ran out
module _ (t : Named) (text : List ℕ) where
  abbrev NoTree : JsonError → Type 0
  NoTree error = IsTreeOf text (let r : Result Json JsonError = Err error in r)

  pub no_tree_json : (error : JsonError) → NoTree error → OnNotJson (let r : Result Value JsonError = Err error in r) (IsNoJson text)
  no_tree_json NotJson h = h
  no_tree_json (Shape path) h = tt
  no_tree_json (Range path) h = tt
  no_tree_json Memory h = tt

  pub no_tree_fault : (error : JsonError) → NoTree error → OnFault (let r : Result Value JsonError = Err error in r) (HasFault t text)
  no_tree_fault NotJson h = tt
  no_tree_fault (Shape path) h = absurd h
  no_tree_fault (Range path) h = absurd h
  no_tree_fault Memory h = tt

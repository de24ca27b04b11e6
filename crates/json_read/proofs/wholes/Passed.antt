-- What is demanded after what was asked for, and where it is told.
use Rattle.std.proofs.Common.{◌≡◌, ℕ, ◌≤◌, ◌<◌, List, [], ◌∷◌, ◌++◌, map, Bool, true, false, Some, None, Result, Ok, Err, refl, sym, ap, subst, ◌∙◌}
use Rattle.std.specs.Prelude.{◌↔◌, IsTrue, nat_le, is_some}
use Rattle.serde_json.specs.Data.{Data, null, boolean, number, string, array, object}
use Rattle.serde_json.specs.Find.{as_null}
use Rattle.asn1_syntax.specs.declared.assignments.assignment.Syntax.{Syntax}
use Rattle.aper_defs.specs.Bits.{closed, octet_count}
use Rattle.aper_defs.specs.Fields.{Path}
use Rattle.aper_defs.specs.Layouts.{layout}
use Rattle.aper_defs.specs.Membership.{FitsOpen}
use Rattle.aper_defs.specs.Trees.{Tree}
use Rattle.aper_defs.specs.Values.{Value as SeenValue}
use Rattle.aper_frames.specs.declared.path.Step.{Step}
use Rattle.aper_frames.specs.Paths.{step_view}
use Rattle.aper_values.specs.types.Types.{tree}
use Rattle.aper_values.specs.declared.value.Value.{Value}
use Rattle.json_defs.specs.declared.fault.JsonFault.{JsonFault}
use Rattle.json_defs.specs.Named.{tree_of}
use Rattle.json_defs.specs.Members.{is_null}
use Rattle.json_defs.specs.Readings.{value_of, past_in}
use Rattle.json_defs.specs.Demands.{Demand, fits_open, past_demands}
use Rattle.json_defs.specs.type_defs.Types.{named}
use Rattle.proof_json.proofs.values.Holding.{by_cases, all_hold}
use Rattle.proof_json.proofs.values.Words.{at_most, is_at_most, past_forth}
use Rattle.proof_json.proofs.modules.Forgotten.{forgotten}
use Rattle.json_fields.specs.declared.simple.refusal.Refusal.{Refusal}
use Rattle.json_fields.specs.declared.simple.refusal.Refusal.TheVariants.{Fault, Memory}
use Rattle.json_fields.specs.simple.Answers.{Tells, Reads, IsHere}
use Rattle.json_read.specs.wholes.Reads.{ReadsAs}
use Rattle.json_read.proofs.wholes.Demanded.{NoneFails, both_none, told_first, told_later, one_some}

-- a test by an order
pub by_order : (b : Bool) (n : ℕ) → (IsTrue b ↔ (n ≤ 16383)) → b ≡ nat_le n 16383
by_order true n h = sym (is_at_most n 16383 (h.0 refl))
by_order false n h = by_cases (nat_le n 16383) (λ c. false ≡ c) (λ e. h.1 (at_most n 16383 e)) (λ _. refl)

pub holds_is : (m : Syntax) (id : ℕ) (v : SeenValue) (d : Data) (p : Path) (b : Bool)
    → (IsTrue b ↔ FitsOpen p (layout p (tree m id) v)) → v ≡ value_of (named m id) d → b ≡ fits_open p (named m id) d
holds_is m id v d p b h e =
    by_order b (octet_count (closed p (layout p (tree m id) v))) h
    ∙ ap (λ (t : Tree). nat_le (octet_count (closed p (layout p t v))) 16383) (sym (forgotten m id))
    ∙ ap (λ (w : SeenValue). nat_le (octet_count (closed p (layout p (tree_of (named m id)) w))) 16383) e

-- a refusal here is told of a demand that fails here
pub here_told : (fault : JsonFault) (refusal : Refusal) (holds : Path → Bool) → IsHere fault refusal → ((p : Path) → holds p ≡ false)
    → Tells (λ p. record { path = p; fault = fault; holds = holds p } ∷ []) refusal
here_told fault (Fault told path) holds h n =
    λ p. one_some p fault (holds p) (n p)
    ∙ ap (λ (f : JsonFault). Some (f, p)) (sym h.0)
    ∙ ap (λ (steps : List Step). Some (told, map step_view steps ++ p)) (sym h.1)
here_told fault Memory holds h n = absurd h

module _ (of : Path → List Demand) (v : SeenValue) (asked : Result Value Refusal) (read : ReadsAs of v asked) where
  module _ (x : Value) (is : asked ≡ Ok x) where
    pub was_read : ReadsAs of v (Ok x)
    was_read = subst (ReadsAs of v) is read

    pub passed : (more : Path → List Demand) → NoneFails more → ReadsAs (λ p. of p ++ more p) v (Ok x)
    passed more n = (both_none of more was_read.0 n, was_read.1)

    pub refused_later : (more : Path → List Demand) (refusal : Refusal) → Tells more refusal → ReadsAs (λ p. of p ++ more p) v (Err refusal)
    refused_later more refusal told = told_later of more refusal was_read.0 told

  module _ (refusal : Refusal) (is : asked ≡ Err refusal) where
    pub was_told : Tells of refusal
    was_told = subst (ReadsAs of v) is read

    pub refused_first : (more : Path → List Demand) → ReadsAs (λ p. of p ++ more p) v (Err refusal)
    refused_first more = told_first of more refusal was_told

-- the test of null of a tree
pub null_is : (d : Data) → is_some (as_null d) ≡ is_null d
null_is null = refl
null_is (boolean b) = refl
null_is (number n) = refl
null_is (string s) = refl
null_is (array ds) = refl
null_is (object ms) = refl

-- so far past the last name
pub below_room : (room : ℕ) (d : Data) → NoneFails (λ p. past_demands p room d) → past_in d < room
below_room room d n = (past_forth [] room d (all_hold (past_demands [] room d) (n []))).1

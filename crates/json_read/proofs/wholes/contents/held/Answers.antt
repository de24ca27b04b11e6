use Rattle.std.proofs.Common.{◌≡◌, List, [], ◌∷◌, ◌++◌, Bool, false, Result, Err, sym, ap, subst, ◌∙◌}
use Rattle.std.proofs.lemmas.Result.{err_from_is_err_and}
use Rattle.serde_json.specs.Data.{Data}
use Rattle.aper_frames.specs.Paths.{step_put}
use Rattle.aper_values.specs.types.Types.{tree}
use Rattle.aper_defs.specs.Fields.{Path}
use Rattle.aper_defs.specs.Values.{Value as SeenValue}
use Rattle.aper_values.specs.declared.value.Value.{Value}
use Rattle.aper_values.specs.Views.{view}
use Rattle.json_defs.specs.Demands.{Demand, range, fits_open}
use Rattle.json_fields.specs.declared.simple.refusal.Refusal.{Refusal}
use Rattle.json_read.specs.wholes.Reads.{ReadsAs, HasAsked}
use Rattle.json_defs.specs.declared.fault.JsonFault.TheVariants.{Range}
use Rattle.json_defs.specs.Named.{Named}
use Rattle.json_defs.specs.Readings.{value_of}
use Rattle.json_defs.specs.type_defs.Types.{named}
use Rattle.json_read.proofs.wholes.Demanded.{one_none, told_same}
use Rattle.json_read.proofs.wholes.Passed.{was_read, passed, refused_first, refused_later}
use Rattle.json_read.proofs.wholes.contents.held.Goals as goal

pub is_held-requires-clause-member : goal.is_held-requires-clause-member
is_held-requires-clause-member c =
    subst (λ (r : Result Value Refusal). HasAsked (tree c.args.m.now c.args.id.number) r) c.in_ok-value.was c.requires.member

pub returns-in_err-value : goal.returns-in_err-value
returns-in_err-value c =
    λ d of h. let t : Named = named c.args.m.now c.args.id.number in
    let more : Path → List Demand = λ p. range (step_put c.args.step p) (fits_open (step_put c.args.step p) t d) ∷ [] in
    let p = err_from_is_err_and c.from_residual.result c.from_residual.ensures.1 in
    subst (λ (r : Result Value Refusal). ReadsAs (λ q. of q ++ more q) (value_of t d) r) (sym p.1)
    (subst (λ (e : Refusal). ReadsAs (λ q. of q ++ more q) (value_of t d) (Err e)) (sym p.2)
    (refused_first of (value_of t d) c.args.asked h c.in_err-value.field-0.0 c.in_err-value.was more))

pub returns-then-is_held : goal.returns-then-is_held
returns-then-is_held c =
    λ d of h. let t : Named = named c.args.m.now c.args.id.number in
    let k = was_read of (value_of t d) c.args.asked h c.in_ok-value.value c.in_ok-value.was in
    passed of (value_of t d) c.args.asked h c.in_ok-value.value c.in_ok-value.was
    (λ p. range (step_put c.args.step p) (fits_open (step_put c.args.step p) t d) ∷ [])
    (λ p. one_none (step_put c.args.step p) Range (fits_open (step_put c.args.step p) t d)
    (sym (c.is_held.ensures d (step_put c.args.step p) k.1) ∙ c.if-is_held.true))

pub returns : goal.returns
returns c =
    λ d of h. let t : Named = named c.args.m.now c.args.id.number in
    let k = was_read of (value_of t d) c.args.asked h c.in_ok-value.value c.in_ok-value.was in
    let more : Path → List Demand = λ p. range (step_put c.args.step p) (fits_open (step_put c.args.step p) t d) ∷ [] in
    refused_later of (value_of t d) c.args.asked h c.in_ok-value.value c.in_ok-value.was more c.range_at.result
    (told_same more (λ p. range (step_put c.args.step p) false ∷ []) c.range_at.result
    (λ p. ap (λ (b : Bool). range (step_put c.args.step p) b ∷ [])
    (sym (c.is_held.ensures d (step_put c.args.step p) k.1) ∙ c.if-is_held.false)) c.range_at.ensures)

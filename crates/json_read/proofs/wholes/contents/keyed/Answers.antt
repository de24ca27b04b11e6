use Rattle.std.proofs.Common.{◌≡◌, List, [], ◌∷◌, ◌++◌, Result, Err, sym, subst, ◌∙◌}
use Rattle.std.proofs.lemmas.Result.{err_from_is_err_and}
use Rattle.serde_json.specs.Data.{Members}
use Rattle.serde_json.specs.View.{members_view}
use Rattle.aper_defs.specs.Fields.{Path}
use Rattle.aper_defs.specs.Values.{Value as SeenValue}
use Rattle.aper_values.specs.declared.value.Value.{Value}
use Rattle.aper_values.specs.Views.{view}
use Rattle.json_defs.specs.Demands.{Demand, shape}
use Rattle.json_fields.specs.declared.simple.refusal.Refusal.{Refusal}
use Rattle.json_read.specs.wholes.Reads.{ReadsAs}
use Rattle.json_defs.specs.declared.fault.JsonFault.TheVariants.{Shape}
use Rattle.json_defs.specs.Members.{are_keys_among, criticality_key}
use Rattle.json_read.proofs.wholes.Demanded.{one_none}
use Rattle.json_read.proofs.wholes.Passed.{passed, refused_first, refused_later, here_told}
use Rattle.json_read.proofs.wholes.contents.keyed.Goals as goal

pub returns-in_err-value : goal.returns-in_err-value
returns-in_err-value c =
    λ of v h. let ms : Members = members_view c.args.members.now.entries in
    let more : Path → List Demand = λ p. shape p (are_keys_among (c.args.contents.now ∷ criticality_key ∷ c.args.number.now ∷ []) ms) ∷ [] in
    let p = err_from_is_err_and c.from_residual.result c.from_residual.ensures.1 in
    subst (λ (r : Result Value Refusal). ReadsAs (λ q. of q ++ more q) v r) (sym p.1)
    (subst (λ (e : Refusal). ReadsAs (λ q. of q ++ more q) v (Err e)) (sym p.2)
    (refused_first of v c.args.asked h c.in_err-value.field-0.0 c.in_err-value.was more))

pub returns-then-are_body_keys : goal.returns-then-are_body_keys
returns-then-are_body_keys c =
    λ of v h. let ms : Members = members_view c.args.members.now.entries in
    passed of v c.args.asked h c.in_ok-value.value c.in_ok-value.was (λ p. shape p (are_keys_among (c.args.contents.now ∷ criticality_key ∷ c.args.number.now ∷ []) ms) ∷ [])
    (λ p. one_none p Shape (are_keys_among (c.args.contents.now ∷ criticality_key ∷ c.args.number.now ∷ []) ms) (sym c.are_body_keys.ensures ∙ c.if-are_body_keys.true))

pub returns : goal.returns
returns c =
    λ of v h. let ms : Members = members_view c.args.members.now.entries in
    refused_later of v c.args.asked h c.in_ok-value.value c.in_ok-value.was (λ p. shape p (are_keys_among (c.args.contents.now ∷ criticality_key ∷ c.args.number.now ∷ []) ms) ∷ []) c.shape.result
    (here_told Shape c.shape.result (λ p. are_keys_among (c.args.contents.now ∷ criticality_key ∷ c.args.number.now ∷ []) ms) c.shape.ensures (λ p. sym c.are_body_keys.ensures ∙ c.if-are_body_keys.false))

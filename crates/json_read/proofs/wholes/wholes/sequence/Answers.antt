use Rattle.std.proofs.Common.{rules, ◌≡◌, ℕ, List, [], ◌∷◌, ◌++◌, Bool, false, Option, Some, Result, Ok, Err, refl, sym, ap, subst, ◌∙◌}
use Rattle.std.proofs.lemmas.Result.{err_from_is_err_and}
use Rattle.serde_json.specs.Data.{Members}
use Rattle.serde_json.specs.View.{members_view}
use Rattle.aper_frames.specs.declared.path.Step.{Step}
use Rattle.aper_frames.specs.Paths.{step_view}
use Rattle.aper_values.specs.Views.{options_view, view}
use Rattle.aper_defs.specs.Values.{Options, components, Value as SeenValue}
use Rattle.aper_defs.specs.Fields.{Path}
use Rattle.aper_values.specs.declared.value.Value.{Value, the_lemmas}
use Rattle.aper_values.specs.declared.value.Value.TheVariants as values
use Rattle.json_defs.specs.Demands.{Demand, shape, range, first_fault}
use Rattle.json_fields.specs.declared.simple.refusal.Refusal.{Refusal}
use Rattle.json_fields.specs.declared.simple.refusal.Refusal.TheVariants.{Fault, Memory}
use Rattle.json_fields.specs.simple.Answers.{Tells, Reads}
use Rattle.json_read.specs.wholes.Reads.{ReadsAs, ReadsAdditions, unfit_at}
use Rattle.json_defs.specs.declared.fault.JsonFault.TheVariants.{Shape, Range}
use Rattle.json_defs.specs.Members.{are_keys_among}
use Rattle.json_defs.specs.Named.{Named}
use Rattle.json_defs.specs.Shown.{keys_of}
use Rattle.json_defs.specs.type_defs.Types.{parts_with}
use Rattle.json_read.specs.declared.wholes.wholes.Additions.{Additions}
use Rattle.json_read.proofs.wholes.Demanded.{NoneFails, both_none, one_none, told_first, told_later}
use Rattle.json_read.proofs.wholes.Passed.{here_told}
use Rattle.json_read.proofs.wholes.wholes.sequence.Goals as goal

module _ (listed opens : Path → List Demand) (more : Options) (asked : Result Additions Refusal) (h : ReadsAdditions listed opens more asked) where
  told : (e : Refusal) → asked ≡ Err e → Tells listed e
  told e is = subst (λ (r : Result Additions Refusal). ReadsAdditions listed opens more r) is h

  read : (a : Additions) → asked ≡ Ok a → ReadsAdditions listed opens more (Ok a)
  read a is = subst (λ (r : Result Additions Refusal). ReadsAdditions listed opens more r) is h

-- the fault of an addition that no open type holds
unfit_told : (opens : Path → List Demand) (unfit : Option Step) (step : Step) (refusal : Refusal)
    → ((p : Path) → first_fault (opens p) ≡ unfit_at p unfit) → unfit ≡ Some step → Tells (λ p. range (step_view step ∷ p) false ∷ []) refusal
    → Tells opens refusal
unfit_told opens unfit step (Fault fault path) h e t =
    λ p. h p ∙ ap (unfit_at p) e ∙ t p
unfit_told opens unfit step Memory h e t = tt

pub returns-in_err-values : goal.returns-in_err-values
returns-in_err-values c =
    λ of listed opens more h. let p = err_from_is_err_and c.from_residual.result c.from_residual.ensures.1 in
    rw (p.1, p.2) (told_first listed _ c.in_err-values.field-0.0 (told listed opens more c.args.asked h c.in_err-values.field-0.0 c.in_err-values.was))

pub returns-then-not-are_keys : goal.returns-then-not-are_keys
returns-then-not-are_keys c =
    λ of listed opens more h. let ms : Members = members_view c.args.members.now.entries in
    let keys : Bool = are_keys_among (keys_of c.args.extensible (parts_with of c.args.parts.now)) ms in
    let k = read listed opens more c.args.asked h c.in_ok-values.field-0 c.in_ok-values.was in
    told_later listed (λ p. shape p keys ∷ opens p) c.shape.result k.0
    (told_first (λ p. shape p keys ∷ []) opens c.shape.result
    (here_told Shape c.shape.result (λ p. keys) c.shape.ensures (λ p. sym (c.are_keys.ensures of) ∙ c.if-not-are_keys.true)))

pub returns-in-Some : goal.returns-in-Some
returns-in-Some c =
    λ of listed opens more h. let ms : Members = members_view c.args.members.now.entries in
    let keys : Bool = are_keys_among (keys_of c.args.extensible (parts_with of c.args.parts.now)) ms in
    let k = read listed opens more c.args.asked h c.in_ok-values.field-0 c.in_ok-values.was in
    let passes : NoneFails (λ p. shape p keys ∷ []) = λ p. one_none p Shape keys (sym (c.are_keys.ensures of) ∙ c.if-not-are_keys.false) in
    told_later listed (λ p. shape p keys ∷ opens p) c.under.result k.0
    (told_later (λ p. shape p keys ∷ []) opens c.under.result passes
    (unfit_told opens c.in_ok-values.field-0.unfit c.in-Some.step c.under.result k.1.1 c.in-Some.is
    (c.under.ensures (λ p. range p false ∷ []) (here_told Range c.range.result (λ p. false) c.range.ensures (λ p. refl)))))

pub returns : goal.returns
returns c =
    λ of listed opens more h. let ms : Members = members_view c.args.members.now.entries in
    let keys : Bool = are_keys_among (keys_of c.args.extensible (parts_with of c.args.parts.now)) ms in
    let k = read listed opens more c.args.asked h c.in_ok-values.field-0 c.in_ok-values.was in
    let passes : NoneFails (λ p. shape p keys ∷ []) = λ p. one_none p Shape keys (sym (c.are_keys.ensures of) ∙ c.if-not-are_keys.false) in
    let fits : NoneFails opens = λ p. k.1.1 p ∙ ap (unfit_at p) c.in_default.is in
    let is : view (values.Seq c.args.root c.in_ok-values.field-0.values)
    ≡ components (options_view c.args.root.items) (options_view c.in_ok-values.field-0.values.items) = search (rules, the_lemmas) in (
      both_none listed (λ p. shape p keys ∷ opens p) k.0 (both_none (λ p. shape p keys ∷ []) opens passes fits),
      is ∙ ap (components (options_view c.args.root.items)) k.1.0,
    )

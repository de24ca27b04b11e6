use Rattle.std.proofs.Common.{◌≡◌, ℕ, ◌+◌, ◌<◌, List, [], ◌∷◌, ◌++◌, ◌&&◌, Bool, true, Some, Result, sym, ap, subst, ◌∙◌, arith}
use Rattle.std.specs.Prelude.{is_some}
use Rattle.std.proofs.lemmas.Result.{err_from_is_err_and}
use Rattle.serde_json.specs.Data.{Data, Members}
use Rattle.serde_json.specs.Find.{get_member}
use Rattle.serde_json.specs.View.{view as json, members_view}
use Rattle.aper_defs.specs.Fields.{Path}
use Rattle.aper_defs.specs.Values.{chosen}
use Rattle.aper_values.specs.declared.value.Value.{Value}
use Rattle.json_defs.specs.declared.fault.JsonFault.TheVariants.{Shape}
use Rattle.json_defs.specs.Members.{has_member, member_of, or_null, dots}
use Rattle.json_defs.specs.Readings.{past_in, past_raw_in}
use Rattle.json_defs.specs.Demands.{Demand, shape, past_demands, only_member}
use Rattle.json_fields.specs.declared.simple.refusal.Refusal.{Refusal}
use Rattle.json_fields.specs.simple.Answers.{Tells}
use Rattle.json_read.specs.wholes.Reads.{ReadsAs}
use Rattle.json_read.proofs.wholes.Demanded.{NoneFails, one_none, told_first, told_later, reads_later, reads_same}
use Rattle.json_read.proofs.wholes.Passed.{here_told, below_room}
use Rattle.json_read.proofs.wholes.wholes.past_alternative.Goals as goal

-- what is demanded first, and what comes after it
abbrev first : Bool → Members → Path → List Demand
first e ms p = shape p (e && has_member dots ms) ∷ []

abbrev later : ℕ → Members → Path → List Demand
later room ms p = past_demands p room (member_of dots ms) ++ only_member p ms

is_there : (e : Bool) (ms : Members) (d : Data) → e ≡ true → Some d ≡ get_member dots ms → NoneFails (first e ms)
is_there e ms d h g = λ p. one_none p Shape (e && has_member dots ms) (ap (λ b. b && has_member dots ms) h ∙ ap is_some (sym g))

pub returns-then-not-extensible : goal.returns-then-not-extensible
returns-then-not-extensible c =
    let ms : Members = members_view c.args.members.now.entries in
    told_first (first c.args.extensible ms) (later c.args.room ms) c.shape.result
    (here_told Shape c.shape.result (λ p. c.args.extensible && has_member dots ms) c.shape.ensures
    (λ p. ap (λ b. b && has_member dots ms) c.if-not-extensible.true))

pub returns-in_default : goal.returns-in_default
returns-in_default c =
    let ms : Members = members_view c.args.members.now.entries in
    told_first (first c.args.extensible ms) (later c.args.room ms) c.shape-in_default.result
    (here_told Shape c.shape-in_default.result (λ p. c.args.extensible && has_member dots ms) c.shape-in_default.ensures
    (λ p. ap (λ b. b && has_member dots ms) c.if-not-extensible.false ∙ ap is_some (sym c.in_default.ensures)))

pub returns-in_err-past : goal.returns-in_err-past
returns-in_err-past c =
    let ms : Members = members_view c.args.members.now.entries in
    let d : Data = json c.in-Some.d.now in
    let same : d ≡ member_of dots ms = ap or_null c.in-Some.ensures in
    let p = err_from_is_err_and c.from_residual.result c.from_residual.ensures.1 in
    let e : Refusal = c.in_err-past.field-0.0 in
    let told : Tells (λ q. past_demands q c.args.room (member_of dots ms)) e =
    subst (λ (x : Data). Tells (λ q. past_demands q c.args.room x) e) same c.in_err-past.ensures in
    rw (p.1, p.2)
    (told_later (first c.args.extensible ms) (later c.args.room ms) e
    (is_there c.args.extensible ms d c.if-not-extensible.false c.in-Some.ensures)
    (told_first (λ q. past_demands q c.args.room (member_of dots ms)) (λ q. only_member q ms) e told))

pub overflow_cast-past : goal.overflow_cast-past
overflow_cast-past c =
    let few : past_in (json c.in-Some.d.now) < c.args.room = below_room c.args.room (json c.in-Some.d.now) c.in_ok-past.ensures.0 in
    omega (arith, few, c.in_ok-past.ensures.1.0, c.requires)

pub overflow_add-first : goal.overflow_add-first
overflow_add-first c =
    let few : past_in (json c.in-Some.d.now) < c.args.room = below_room c.args.room (json c.in-Some.d.now) c.in_ok-past.ensures.0 in
    omega (arith, few, c.in_ok-past.ensures.1.0, c.requires)

pub returns : goal.returns
returns c =
    let ms : Members = members_view c.args.members.now.entries in
    let d : Data = json c.in-Some.d.now in
    let same : d ≡ member_of dots ms = ap or_null c.in-Some.ensures in
    let r : Result Value Refusal = c.alternative.result in
    let i : ℕ = c.args.first + c.in_ok-past.past in
    let alone : ReadsAs (λ p. past_demands p c.args.room d ++ only_member p ms) (past_raw_in d) c.alone.result =
    c.alone.ensures (λ p. past_demands p c.args.room d) (past_raw_in d) (c.in_ok-past.ensures.0, c.in_ok-past.ensures.1.1) in
    let told : ReadsAs (λ p. past_demands p c.args.room d ++ only_member p ms) (chosen i (past_raw_in d)) r =
    c.alternative.ensures (λ p. past_demands p c.args.room d ++ only_member p ms) (past_raw_in d) alone in
    reads_later _ (first c.args.extensible ms) (later c.args.room ms) r
    (is_there c.args.extensible ms d c.if-not-extensible.false c.in-Some.ensures)
    (reads_same (chosen (c.args.first + past_in (member_of dots ms)) (past_raw_in (member_of dots ms))) (later c.args.room ms)
    (λ p. past_demands p c.args.room d ++ only_member p ms) (chosen i (past_raw_in d)) r
    (λ p. ap (λ (x : Data). past_demands p c.args.room x ++ only_member p ms) (sym same))
    (ap (λ (x : Data). chosen (c.args.first + past_in x) (past_raw_in x)) (sym same)
    ∙ ap (λ (n : ℕ). chosen (c.args.first + n) (past_raw_in d)) (sym c.in_ok-past.ensures.1.0)) told)

use Rattle.std.proofs.Common.{rules, ◌≡◌, ℕ, ◌+◌, ◌<◌, List, [], ◌∷◌, ◌++◌, Some, Result, sym, ap, subst, ◌∙◌, arith}
use Rattle.std.specs.Prelude.{is_some}
use Rattle.std.proofs.lemmas.Result.{err_from_is_err_and}
use Rattle.serde_json.specs.Data.{Data, Members}
use Rattle.serde_json.specs.Find.{get_member}
use Rattle.serde_json.specs.View.{view as json, members_view}
use Rattle.aper_defs.specs.Fields.{Path}
use Rattle.aper_defs.specs.Values.{message}
use Rattle.aper_values.specs.declared.value.Value.{Value, the_lemmas}
use Rattle.aper_values.specs.declared.value.Value.TheVariants as values
use Rattle.json_defs.specs.declared.fault.JsonFault.TheVariants.{Shape}
use Rattle.json_defs.specs.Members.{has_member, member_of, or_null, dots}
use Rattle.json_defs.specs.Readings.{past_in, past_raw_in}
use Rattle.json_defs.specs.Demands.{Demand, shape, past_demands, only_member}
use Rattle.json_fields.specs.declared.simple.refusal.Refusal.{Refusal}
use Rattle.json_fields.specs.simple.Answers.{Tells}
use Rattle.json_read.specs.wholes.Reads.{ReadsAs}
use Rattle.json_read.proofs.wholes.Demanded.{NoneFails, one_none, told_first, told_later, both_none}
use Rattle.json_read.proofs.wholes.Passed.{here_told, below_room}
use Rattle.aper_values.specs.Views.{view}
use Rattle.json_read.proofs.wholes.wholes.past_message.Goals as goal

-- what is demanded first, and what comes after it
abbrev first : Members → Path → List Demand
first ms p = shape p (has_member dots ms) ∷ []

abbrev later : Members → Path → List Demand
later ms p = past_demands p 64 (member_of dots ms) ++ only_member p ms

is_there : (ms : Members) (d : Data) → Some d ≡ get_member dots ms → NoneFails (first ms)
is_there ms d g = λ p. one_none p Shape (has_member dots ms) (ap is_some (sym g))

pub returns-in_default : goal.returns-in_default
returns-in_default c =
    let ms : Members = members_view c.args.members.now.entries in
    told_first (first ms) (later ms) c.shape.result
    (here_told Shape c.shape.result (λ p. has_member dots ms) c.shape.ensures (λ p. ap is_some (sym c.in_default.ensures)))

pub returns-in_err-past : goal.returns-in_err-past
returns-in_err-past c =
    let ms : Members = members_view c.args.members.now.entries in
    let d : Data = json c.in-Some.d.now in
    let same : d ≡ member_of dots ms = ap or_null c.in-Some.ensures in
    let p = err_from_is_err_and c.from_residual.result c.from_residual.ensures.1 in
    let e : Refusal = c.in_err-past.field-0.0 in
    let told : Tells (λ q. past_demands q 64 (member_of dots ms)) e =
    subst (λ (x : Data). Tells (λ q. past_demands q 64 x) e) same c.in_err-past.ensures in
    rw (p.1, p.2)
    (told_later (first ms) (later ms) e (is_there ms d c.in-Some.ensures)
    (told_first (λ q. past_demands q 64 (member_of dots ms)) (λ q. only_member q ms) e told))

pub returns-in_err-alone : goal.returns-in_err-alone
returns-in_err-alone c =
    let ms : Members = members_view c.args.members.now.entries in
    let d : Data = json c.in-Some.d.now in
    let same : d ≡ member_of dots ms = ap or_null c.in-Some.ensures in
    let p = err_from_is_err_and c.from_residual-in_err-alone.result c.from_residual-in_err-alone.ensures.1 in
    let e : Refusal = c.in_err-alone.field-0.0 in
    let told : Tells (λ q. past_demands q 64 d ++ only_member q ms) e =
    c.in_err-alone.ensures (λ q. past_demands q 64 d) (past_raw_in d) (c.in_ok-past.ensures.0, c.in_ok-past.ensures.1.1) in
    rw (p.1, p.2)
    (told_later (first ms) (later ms) e (is_there ms d c.in-Some.ensures)
    (subst (λ (x : Data). Tells (λ q. past_demands q 64 x ++ only_member q ms) e) same told))

pub overflow_cast-result : goal.overflow_cast-result
overflow_cast-result c =
    let few : past_in (json c.in-Some.d.now) < 64 = below_room 64 (json c.in-Some.d.now) c.in_ok-past.ensures.0 in
    omega (arith, few, c.in_ok-past.ensures.1.0)

pub overflow_add-result : goal.overflow_add-result
overflow_add-result c =
    let few : past_in (json c.in-Some.d.now) < 64 = below_room 64 (json c.in-Some.d.now) c.in_ok-past.ensures.0 in
    omega (arith, few, c.in_ok-past.ensures.1.0)

pub returns : goal.returns
returns c =
    let ms : Members = members_view c.args.members.now.entries in
    let d : Data = json c.in-Some.d.now in
    let same : d ≡ member_of dots ms = ap or_null c.in-Some.ensures in
    let k = c.in_ok-alone.ensures (λ q. past_demands q 64 d) (past_raw_in d) (c.in_ok-past.ensures.0, c.in_ok-past.ensures.1.1) in
    let is : view (values.Pdu (3 + c.in_ok-past.past) 0 0 c.in_ok-body.body) ≡ message (3 + c.in_ok-past.past) 0 0 (view c.in_ok-body.body.value) =
    search (rules, the_lemmas) in (
      both_none (first ms) (later ms) (is_there ms d c.in-Some.ensures)
          (subst (λ (x : Data). NoneFails (λ q. past_demands q 64 x ++ only_member q ms)) same k.0),
      is
          ∙ ap (λ (x : Value). message (3 + c.in_ok-past.past) 0 0 (view x)) c.in_ok-body.ensures.ok
          ∙ ap (message (3 + c.in_ok-past.past) 0 0) k.1
          ∙ ap (λ (n : ℕ). message (3 + n) 0 0 (past_raw_in d)) c.in_ok-past.ensures.1.0
          ∙ ap (λ (x : Data). message (3 + past_in x) 0 0 (past_raw_in x)) same,
    )

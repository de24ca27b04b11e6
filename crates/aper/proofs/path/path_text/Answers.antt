use Rattle.std.proofs.Common.{◌≡◌, List, ℕ, ◌++◌, ap, ◌∙◌, arith}
use Rattle.std.specs.Prelude.{codes}
use Rattle.aper.proofs.PathLemmas.{steps_turn, steps_all}
use Rattle.aper.proofs.path.path_text.Goals as goal

pub loop-step-preserved : goal.loop-step-preserved
loop-step-preserved c =
    let l = c.loop-step in
    let dotted : c.append.new.self ≡ l.text ++ codes "." = (c.in_ok-append.ensures {u = tt}).ok in
    let put = (c.in_ok-extend.ensures {u = tt}).ok in
    steps_turn l.text c.extend.new.self c.in-Some.others.now l.step-index _ (omega arith)
    (put ∙ ap (λ (text : List ℕ). text ++ c.in_ok-step_text.field-0) dotted
    ∙ ap (λ (text : List ℕ). (l.text ++ codes ".") ++ text) (c.in_ok-step_text.ensures {u = tt}))
    ∙ l.invariant

pub returns : goal.returns
returns c =
    let l = c.loop-step in
    let cases = (c.in-Some.ensures {u = tt}).cases in
    steps_all l.text c.in_ok-text.text c.args.path.now c.in-Some.first.now c.in-Some.others.now l.step-index c.loop-step-test.false
    cases.0 (c.in_ok-text.ensures {u = tt}) l.invariant

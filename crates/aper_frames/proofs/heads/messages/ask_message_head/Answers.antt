use Rattle.std.proofs.Common.{true, false, ◌+◌, ◌∙◌}
use Rattle.std.proofs.lemmas.Result.{err_from_is_err_and}
use Rattle.aper_frames.specs.declared.heads.messages.MessageHead.TheVariants.{Past}
use Rattle.aper_frames.proofs.heads.HeadTurns.{after_past, after_outcome, after_code, after_criticality, head_after}
use Rattle.aper_frames.proofs.heads.messages.ask_message_head.Goals as goal

pub returns-in_err-is_past-clause-asked : goal.returns-in_err-is_past-clause-asked
returns-in_err-is_past-clause-asked c =
    let p = err_from_is_err_and c.from_residual.result c.from_residual.ensures.1 in
    rw (p.1, p.2) (λ way K. c.in_err-is_past.ensures {u = tt} way (after_past way K))

pub returns-in_err-past-clause-asked : goal.returns-in_err-past-clause-asked
returns-in_err-past-clause-asked c =
    let p = err_from_is_err_and c.from_residual-in_err-past.result c.from_residual-in_err-past.ensures.1 in
    rw (p.1, p.2) (λ way K. head_after c.args.cursor.now c.ask_flag.new.cursor c.in_ok-is_past.is_past true (c.in_ok-is_past.ensures {u = tt}) c.if-is_past.true way K
    ∙ (c.in_err-past.ensures {u = tt}).asked way (λ n. K (Past (3 + n))))

pub returns-then-is_past-clause-asked : goal.returns-then-is_past-clause-asked
returns-then-is_past-clause-asked c = λ way K. head_after c.args.cursor.now c.ask_flag.new.cursor c.in_ok-is_past.is_past true (c.in_ok-is_past.ensures {u = tt}) c.if-is_past.true way K
    ∙ (c.in_ok-past.ensures {u = tt}).asked way (λ n. K (Past (3 + n)))

pub returns-in_err-outcome-clause-asked : goal.returns-in_err-outcome-clause-asked
returns-in_err-outcome-clause-asked c =
    let p = err_from_is_err_and c.from_residual-in_err-outcome.result c.from_residual-in_err-outcome.ensures.1 in
    rw (p.1, p.2) (λ way K. head_after c.args.cursor.now c.ask_flag.new.cursor c.in_ok-is_past.is_past false (c.in_ok-is_past.ensures {u = tt}) c.if-is_past.false way K
    ∙ (c.in_err-outcome.ensures {u = tt}).asked way (after_outcome way K))

pub returns-in_err-code-clause-asked : goal.returns-in_err-code-clause-asked
returns-in_err-code-clause-asked c =
    let p = err_from_is_err_and c.from_residual-in_err-code.result c.from_residual-in_err-code.ensures.1 in
    rw (p.1, p.2) (λ way K. head_after c.args.cursor.now c.ask_flag.new.cursor c.in_ok-is_past.is_past false (c.in_ok-is_past.ensures {u = tt}) c.if-is_past.false way K
    ∙ (c.in_ok-outcome.ensures {u = tt}).asked way (after_outcome way K)
    ∙ (c.in_err-code.ensures {u = tt}).asked way (after_code way K c.in_ok-outcome.outcome))

pub returns-in_err-criticality-clause-asked : goal.returns-in_err-criticality-clause-asked
returns-in_err-criticality-clause-asked c =
    let p = err_from_is_err_and c.from_residual-in_err-criticality.result c.from_residual-in_err-criticality.ensures.1 in
    rw (p.1, p.2) (λ way K. head_after c.args.cursor.now c.ask_flag.new.cursor c.in_ok-is_past.is_past false (c.in_ok-is_past.ensures {u = tt}) c.if-is_past.false way K
    ∙ (c.in_ok-outcome.ensures {u = tt}).asked way (after_outcome way K)
    ∙ (c.in_ok-code.ensures {u = tt}).asked way (after_code way K c.in_ok-outcome.outcome)
    ∙ (c.in_err-criticality.ensures {u = tt}).asked way (after_criticality K c.in_ok-outcome.outcome c.in_ok-code.code))

pub returns-clause-asked : goal.returns-clause-asked
returns-clause-asked c = λ way K. head_after c.args.cursor.now c.ask_flag.new.cursor c.in_ok-is_past.is_past false (c.in_ok-is_past.ensures {u = tt}) c.if-is_past.false way K
    ∙ (c.in_ok-outcome.ensures {u = tt}).asked way (after_outcome way K)
    ∙ (c.in_ok-code.ensures {u = tt}).asked way (after_code way K c.in_ok-outcome.outcome)
    ∙ (c.in_ok-criticality.ensures {u = tt}).asked way (after_criticality K c.in_ok-outcome.outcome c.in_ok-code.code)

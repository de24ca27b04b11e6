use Rattle.std.proofs.Common.{ℕ, List, Option, None, sym, ap, ◌∙◌}
use Rattle.gnb_types.specs.declared.outputs.Output.{Output}
use Rattle.unit_defs.specs.CuUpItems.{closed_n3}
use Rattle.unit_defs.specs.octet_defs.Codec.{octet_way}
use Rattle.unit_messages.specs.steps.Steps.{step_after, stepped}
use Rattle.cu_up_bearer.proofs.downlink.Sequels.{nothing_more}
use Rattle.cu_up_bearer.specs.bearers.Bearers.{kept}
use Rattle.cu_up_items.proofs.ends.ending.close_n3.Goals as goal

pub returns-in_default-clause-step : goal.returns-in_default-clause-step
returns-in_default-clause-step c = λ codec.
    let b = kept c.args.bearer.now in
    ap (λ (o : Option ℕ). step_after c.args.out.now (closed_n3 (octet_way codec) b o)) c.in_default.is ∙ nothing_more c.args.out.now b

pub returns-clause-step : goal.returns-clause-step
returns-clause-step c = λ codec.
    let b = kept c.args.bearer.now in
    ap (λ (o : Option ℕ). step_after c.args.out.now (closed_n3 (octet_way codec) b o)) c.in-Some.is
    ∙ ap (λ (os : List Output). stepped os (record b { n3 = None })) (sym c.in_ok-push.ensures.ok)

use Rattle.std.proofs.Common.{List, map, ap, ◌∙◌}
use Rattle.cu_up_contexts.specs.bearer_context.Answers.{entry_as}
use Rattle.cu_up_contexts.specs.declared.bearer_context.answers.Opening.{Opening}
use Rattle.cu_up_contexts.proofs.contexts.Makings.{nobody, when_ok, shows}
use Rattle.cu_up_contexts.proofs.contexts.making.show_context.Goals as goal

pub returns : goal.returns
returns c = λ codec.
    when_ok c.show_opened.result _ _
    (shows codec c.args.out.now c.show_opened.new.out c.as_slice.result.now c.args.context.now.bearers
    (ap (λ (os : List Opening). map (entry_as nobody 0) os) c.as_slice.ensures ∙ c.in_ok-openings.ensures nobody 0))
    c.show_opened.ensures

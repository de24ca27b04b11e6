use Rattle.std.proofs.Common.{rules, ◌*◌, ℕ, ap, ◌∙◌}
use Rattle.cu_up_contexts.specs.bearer_context.Contexts.{made_from}
use Rattle.cu_up_contexts.proofs.contexts.Makings.{made_step}
use Rattle.cu_up_contexts.proofs.contexts.contexts.Contexts.make.Goals as goal

pub returns : goal.returns
returns c = λ codec r.
    made_step codec r c.args.ue c.args.out.now c.args.self.now c.args.setup.now c.show_context.new.out c.place.new.self _ _
    (λ k. c.from.ensures k * c.teids_of_bearer.ensures k) (search rules)
    (c.in_ok-context.ensures ∙ ap (λ (n : ℕ). made_from n c.args.setup.now) c.next_teid.ensures)
    (c.in_ok-show_context.ensures codec) c.in_ok-place.ensures

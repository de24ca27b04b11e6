use Rattle.std.proofs.Common.{◌≡◌, length, sym, ap, ◌∙◌, arith}
use Rattle.unit_defs.specs.CuUpRecords.{CuUpContext}
use Rattle.cu_up_contexts.proofs.bearer_context.Numbered.{length-numbered}
use Rattle.cu_up_contexts.proofs.bearer_context.context.Context.count.Goals as goal

pub returns : goal.returns
returns c =
    let own : c.len.result ≡ c.self.inside.bearers.len = omega (arith, c.len.ensures) in
    own ∙ c.self.inside.bearers.ok.0 ∙ sym (length-numbered 1 c.self.inside.bearers.items) ∙ ap (λ (x : CuUpContext). length x.bearers) c.self.view_is

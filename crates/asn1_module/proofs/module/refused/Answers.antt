use Rattle.std.proofs.Common.{◌∙◌, ap, take, ℕ, refl}
use Rattle.asn1_defs.specs.Positions.{line_after, column_after}
use Rattle.asn1_module.proofs.JudgementLemmas.{take-min}
use Rattle.asn1_module.proofs.module.refused.Goals as goal

pub returns : goal.returns
returns c =
    let front = ap (λ (n : ℕ). take n c.args.text.now) c.min.ensures ∙ take-min c.args.fault.place c.args.text.now in
    record {
      fault = c.args.fault;
      first = c.requires;
      line-is = c.position_after-line.ensures.line ∙ ap line_after front;
      column-is = c.position_after-line.ensures.column ∙ ap column_after front;
      reason-is = refl;
    }

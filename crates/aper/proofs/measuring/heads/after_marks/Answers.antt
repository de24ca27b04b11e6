use Rattle.std.proofs.Common.{◌≡◌, ◌==◌, length, false, sym, ◌∙◌}
use Rattle.aper.proofs.measuring.HeadLemmas.{marks_end}
use Rattle.aper.proofs.measuring.heads.after_marks.Goals as goal

pub returns : goal.returns
returns c =
    let some : (length c.args.additions.now == 0) ≡ false = sym c.is_empty.ensures ∙ c.if-is_empty.false in
    marks_end c.args.additions.now c.args.place c.passed.result some c.passed.ensures

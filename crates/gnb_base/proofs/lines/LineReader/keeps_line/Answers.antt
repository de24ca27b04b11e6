use Rattle.gnb_base.proofs.LineReaderLemmas.{line_kept}
use Rattle.gnb_base.proofs.lines.LineReader.keeps_line.Goals as goal

pub returns : goal.returns
returns c =
    line_kept c.self.inside _ _ c.line_end.result c.is_some.result c.is_some.ensures c.self.view_is c.self.invariant c.deref.ensures.value
    c.line_end.ensures

use Rattle.gnb_base.proofs.LineLemmas.{first_lf}
use Rattle.gnb_base.proofs.lines.line_end.Goals as goal

pub returns : goal.returns
returns c = first_lf c.args.bytes.now c.memchr.result c.memchr.ensures

use Rattle.std.proofs.Common.{[]}
use Rattle.gnb_base.specs.Reading.{fresh}
use Rattle.gnb_base.proofs.Handing.{handed_none, handed_run}
use Rattle.gnb_base.proofs.lines.lines_handed_out_are_the_lines.Goals as goal

pub returns : goal.returns
returns c = λ calls taken reader run. handed_run fresh reader calls taken [] [] handed_none run

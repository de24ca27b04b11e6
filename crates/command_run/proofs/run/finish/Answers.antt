use Rattle.command_run.proofs.Finished.{finishes, finish_cut, finish_out}
use Rattle.command_run.proofs.run.finish.Goals as goal

pub returns-in_default-text_at : goal.returns-in_default-text_at
returns-in_default-text_at g c = finish_out _ c.in-Some.line _ c.in-Some.is c.last_line.ensures

pub returns-in-Ok-write_all : goal.returns-in-Ok-write_all
returns-in-Ok-write_all g c = finishes _ c.in-Some.line _ c.in-Some.is c.last_line.ensures _ _ c.as_slice.ensures c.in-Ok.ensures c.in-Ok-write_all.ensures

pub returns-in-Err : goal.returns-in-Err
returns-in-Err g c = finish_cut _ c.in-Some.line _ c.in-Some.is c.last_line.ensures _ _ c.as_slice.ensures c.in-Ok.ensures c.in-Err.ensures

use Rattle.nr_user_plane.proofs.FrameLaws.{answers_found, answers_only, answers_refused, answers_all}
use Rattle.nr_user_plane.proofs.frames.decode.Goals as goal

pub returns-clause-found : goal.returns-clause-found
returns-clause-found c = answers_found c.args.content.now c.read_frame.result c.read_frame.ensures

pub returns-clause-only : goal.returns-clause-only
returns-clause-only c = answers_only c.args.content.now c.read_frame.result c.read_frame.ensures

pub returns-clause-refused : goal.returns-clause-refused
returns-clause-refused c = answers_refused c.args.content.now c.read_frame.result c.read_frame.ensures

pub returns-clause-all : goal.returns-clause-all
returns-clause-all c = answers_all c.args.content.now c.read_frame.result c.read_frame.ensures

use Rattle.nr_user_plane.proofs.Spellings.{frame_written, length-nru_octets}
use Rattle.nr_user_plane.proofs.laws.written_is_read.Goals as goal

pub returns-clause-frame : goal.returns-clause-frame
returns-clause-frame c = frame_written

pub returns-clause-length : goal.returns-clause-length
returns-clause-length c = length-nru_octets

use Rattle.std.proofs.Common.{arith}
use Rattle.std.proofs.lemmas.Grind.{common_steps}
use Rattle.nr_user_plane.proofs.Statuses.{answers_status}
use Rattle.nr_user_plane.proofs.frames.decode_status.Goals as goal

pub returns : goal.returns
returns c =
    answers_status c.args.content.now _ c.from_be_bytes-room.result c.decode_fields.result c.requires.status (omega arith)
    (grind (arith, common_steps)) (omega (arith, c.from_be_bytes-room.ensures)) c.decode_fields.ensures

use Rattle.std.proofs.Common.{sym, ap, length, arith}
use Rattle.bits_core.specs.Reading.{bits_left}
use Rattle.aper_cursor.proofs.Places.{room_size}
use Rattle.aper_cursor.proofs.Runs.{taken_ok}
use Rattle.aper_cursor.proofs.cursor.Cursor.look.Goals as goal

pub unwrap-requires : goal.unwrap-requires
unwrap-requires c =
    let room = room_size c.self.inside c.args.self.now c.args.width c.self.view_is (sym (c.in_default.ensures {u = tt})) in
    taken_ok c.at-reader.result c.take_bits.new.self c.args.width c.take_bits.result
    (omega (arith, room, ap (λ r. length (bits_left r)) c.at-reader.ensures)) c.take_bits.ensures

use Rattle.std.proofs.Common.{◌≡◌, ◌+◌, ◌*◌, ◌%◌, ◌≤◌, ◌++◌, length, replicate, sym, ap, subst, ◌∙◌, arith}
use Rattle.bits_core.specs.Bits.{numbers_at}
use Rattle.aper_defs.specs.Reading.{Cursor, bits_at}
use Rattle.aper_cursor.proofs.Places.{room_octets}
use Rattle.aper_cursor.proofs.Runs.{aligned_run}
use Rattle.aper_cursor.proofs.cursor.Cursor.put_octets.Goals as goal

pub returns : goal.returns
returns c =
    let items = (c.in_ok-extend_from_slice.ensures {u = tt}).items in
    let whole : c.self.inside.place % 8 ≡ 0 =
    subst (λ (z : Cursor). z.place % 8 ≡ 0) (sym c.self.view_is) c.requires.whole in
    let there : c.self.inside.place + 8 * c.args.count ≤ 8 * length c.self.inside.octets.now =
    room_octets c.self.inside c.args.self.now (8 * c.args.count) c.self.view_is c.self.invariant c.requires.room in
    aligned_run c.self.inside.octets.now c.self.inside.place c.args.count c.args.out.now.items c.extend_from_slice.new.self.items whole
    (omega (arith, there, whole)) items c.type_inv.out
    ∙ ap (λ (z : Cursor). c.args.out.now.items ++ numbers_at (replicate c.args.count 8) (bits_at z)) c.self.view_is

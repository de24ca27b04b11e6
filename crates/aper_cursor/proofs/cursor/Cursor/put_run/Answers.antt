use Rattle.std.proofs.Common.{subst}
use Rattle.bits_core.specs.Reading.{TakesBits}
use Rattle.aper_cursor.proofs.Runs.{taken_ok, room_in_run, run_moves, run_puts}
use Rattle.aper_cursor.proofs.cursor.Cursor.put_run.Goals as goal

pub unwrap-requires : goal.unwrap-requires
unwrap-requires c =
    taken_ok c.loop-done.reader c.take_bits.new.self c.args.width c.take_bits.result
    (room_in_run c.args.self.now c.args.width c.args.count c.loop-done.done c.loop-done.reader c.requires.room c.loop-done-test.true c.loop-done.invariant.reader)
    c.take_bits.ensures

pub loop-done-preserved : goal.loop-done-preserved
loop-done-preserved c =
    let takes = subst (TakesBits c.loop-done.reader c.take_bits.new.self c.args.width) c.unwrap.ensures c.take_bits.ensures in
    record {
      reader = run_moves c.args.self.now c.args.width c.loop-done.done c.unwrap.result c.loop-done.reader c.take_bits.new.self c.loop-done.invariant.reader takes;
      put = run_puts c.args.self.now c.args.width c.loop-done.done c.unwrap.result c.loop-done.reader c.take_bits.new.self c.args.out.now.items c.loop-done.out.items c.push.new.self.items c.loop-done.invariant.reader takes c.loop-done.invariant.put (c.in_ok-push.ensures {u = tt}).items;
    }

use Rattle.std.proofs.Common.{Some, refl}
use Rattle.gnb_types.specs.declared.outputs.Tag.TheVariants.{Absent}
use Rattle.unit_defs.specs.Ways.{end_marker}
use Rattle.cu_up_items.proofs.packets.Passes.{passes_one}
use Rattle.cu_up_items.proofs.ends.ending.pass_end.Goals as goal

pub returns : goal.returns
returns c = λ codec b same.
    passes_one codec c.args.at.now Absent end_marker b c.args.out.now (Some c.args.hop) same c.args.dir c.args.hop c.put_end.new.out refl c.in_ok-put_end.ensures

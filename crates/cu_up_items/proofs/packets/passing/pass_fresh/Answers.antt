use Rattle.gnb_types.specs.declared.names.Dir.TheVariants.{Dl}
use Rattle.gnb_types.specs.declared.outputs.Tag.TheVariants.{Absent}
use Rattle.unit_defs.specs.Ways.{fresh}
use Rattle.cu_up_items.proofs.packets.Passes.{passes_nothing, passes_one}
use Rattle.cu_up_items.proofs.packets.passing.pass_fresh.Goals as goal

pub returns-in_default : goal.returns-in_default
returns-in_default c = λ codec b same.
    passes_nothing codec c.args.at.now Absent (fresh c.args.packet.now) b c.args.out.now c.args.hop same Dl c.in_default.is

pub returns : goal.returns
returns c = λ codec b same.
    passes_one codec c.args.at.now Absent (fresh c.args.packet.now) b c.args.out.now c.args.hop same Dl c.in-Some.hop c.put_fresh.new.out
    c.in-Some.is c.in_ok-put_fresh.ensures

use Rattle.unit_defs.specs.Ways.{numbered}
use Rattle.cu_up_items.proofs.packets.Passes.{passes_nothing, passes_one}
use Rattle.cu_up_items.proofs.packets.passing.pass_counted.Goals as goal

pub returns-in_default : goal.returns-in_default
returns-in_default c = λ codec b same.
    passes_nothing codec c.args.at.now c.args.shown.tag (numbered c.args.at.now.sn c.args.shown.count c.args.packet.now) b c.args.out.now c.args.hop same
    c.args.dir c.in_default.is

pub returns : goal.returns
returns c = λ codec b same.
    passes_one codec c.args.at.now c.args.shown.tag (numbered c.args.at.now.sn c.args.shown.count c.args.packet.now) b c.args.out.now c.args.hop same
    c.args.dir c.in-Some.hop c.put_counted.new.out c.in-Some.is c.in_ok-put_counted.ensures

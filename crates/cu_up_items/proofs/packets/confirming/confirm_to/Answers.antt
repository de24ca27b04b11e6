use Rattle.cu_up_bearer.specs.downlink.Downlinks.{with_down}
use Rattle.cu_up_items.proofs.packets.Confirms.{confirms_one, confirms_none}
use Rattle.cu_up_items.proofs.packets.confirming.confirm_to.Goals as goal

pub returns-in_default-clause-confirms : goal.returns-in_default-clause-confirms
returns-in_default-clause-confirms c = λ codec sn b sn_is.
    confirms_none codec (with_down b c.args.down.now) sn c.args.delivered c.in_default.is

pub returns-clause-confirms : goal.returns-clause-confirms
returns-clause-confirms c = λ codec sn b sn_is.
    confirms_one codec c.confirm_to.new.self c.args.down.now.sending c.args.down.now.frames b sn c.args.delivered c.in-Some.number c.in-Some.is sn_is
    c.confirm_to.ensures

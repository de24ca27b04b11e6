use Rattle.std.proofs.Common.{◌+◌, drop, ◌∙◌}
use Rattle.run_links.specs.Networks.{state_of}
use Rattle.world.proofs.turns.Lists.{drop_one}
use Rattle.world.proofs.settling.OfBearers.{packets_more}
use Rattle.world.proofs.settling.limit.all_undelivered.Goals as goal

pub loop-ue-preserved : goal.loop-ue-preserved
loop-ue-preserved c world units core =
    let l = c.loop-ue in
    let xs = c.args.bearers.now in
    packets_more (state_of units core c.args.network.now) _ (drop (l.ue-index + 1) xs) (drop l.ue-index xs) world l.packets
    c.in_ok-packets.packets
    (drop_one xs l.ue-index _ c.loop-ue-test.true) (c.in_ok-packets.ensures world units core)
    ∙ l.invariant world units core

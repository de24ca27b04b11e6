use Rattle.std.proofs.Common.{◌≡◌, drop}
use Rattle.gnb_types.specs.Orders.{channel_cmp}
use Rattle.transactions.specs.inside.Ticks.{aged_all}
use Rattle.transactions.proofs.caller.Caller.tick.Given as goal

abbrev pub invariant-loop-channel : goal.invariant-loop-channel
invariant-loop-channel l =
    record {
      last : l.self.last ≡ l.initial.self.last;
      opened :
          aged_all channel_cmp (drop l.channel-index l.channel-items) l.self.opened
          ≡ aged_all channel_cmp l.channel-items l.initial.self.opened;
    }

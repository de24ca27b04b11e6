use Rattle.std.proofs.Common.{◌≡◌, ◌≤◌, length, sym, ap, ◌∙◌, subst, List, arith}
use Rattle.gnb_types.specs.declared.keys.Channel.{Channel}
use Rattle.gnb_types.specs.Orders.{channel_cmp}
use Rattle.gnb_types.proofs.OrderLemmas.{channel_total}
use Rattle.transaction_defs.specs.Callers.{Caller, after_tick}
use Rattle.transactions.specs.inside.Ticks.{aged_all}
use Rattle.transactions.proofs.TickLemmas.{aged_next, aged_end, all_aged, no_more}
use Rattle.transactions.proofs.caller.Caller.tick.Goals as goal

pub loop-channel-preserved : goal.loop-channel-preserved
loop-channel-preserved c = record {
  last = ap (λ (r : Caller _). r.last) c.age.ensures ∙ c.loop-channel.invariant.last;
  opened =
      aged_next channel_total c.as_slice-channel-items.result.now c.loop-channel.channel-index _ c.loop-channel.self.opened
      c.age.new.self.opened c.loop-channel-test.true (ap (λ (r : Caller _). r.opened) c.age.ensures)
      ∙ c.loop-channel.invariant.opened;
}

pub returns-clause-ok : goal.returns-clause-ok
unfolding after_tick
returns-clause-ok c =
    let items = c.as_slice-channel-items.result.now in
    let opened = c.args.self.now.opened in
    let all : c.loop-channel.self.opened ≡ _ =
    sym (aged_end channel_total items c.loop-channel.channel-index c.loop-channel.self.opened (omega arith))
    ∙ c.loop-channel.invariant.opened
    ∙ ap (λ (cs : List Channel). aged_all channel_cmp cs opened) (c.as_slice-channel-items.ensures ∙ c.in_ok-channels.ensures.ok)
    ∙ all_aged channel_total opened c.in_ok-channels.ensures.ordered in
    λ i. record { last = c.loop-channel.invariant.last i; opened = all i }

pub returns-clause-no_more : goal.returns-clause-no_more
unfolding after_tick
returns-clause-no_more c =
    subst (λ (r : Caller _). length r.opened ≤ length c.args.self.now.opened) (sym (returns-clause-ok c))
    (no_more channel_total c.args.self.now.opened)

use Rattle.std.proofs.Common.{◌≡◌, List, None, ap, ◌∙◌}
use Rattle.gnb_types.specs.declared.keys.Channel.{Channel}
use Rattle.gnb_types.specs.Orders.{channel_cmp}
use Rattle.gnb_types.proofs.OrderLemmas.{channel_total}
use Rattle.tables.specs.Tables.{find, without}
use Rattle.transaction_defs.specs.Callers.{Caller, Opened}
use Rattle.transactions.proofs.TickLemmas.{without-put}
use Rattle.transactions.proofs.caller.Caller.open.Goals as goal

pub returns-in-Err-clause-err : goal.returns-in-Err-clause-err
returns-in-Err-clause-err c =
    let none : find channel_cmp c.self.inside.opened c.args.channel ≡ None =
    ap (λ (r : Caller _). find channel_cmp r.opened c.args.channel) c.self.view_is ∙ c.requires in
    let opened : c.take.new.self ≡ c.self.inside.opened =
    c.take.ensures.rest
    ∙ ap (λ (m : List (Channel × Opened _)). without channel_cmp m c.args.channel) c.in_ok-put.ensures.ok
    ∙ without-put channel_total c.self.inside.opened c.args.channel _ none in
    (λ i. record { last = c.in-Err.ensures.err i; opened = opened i }) ∙ c.self.view_is

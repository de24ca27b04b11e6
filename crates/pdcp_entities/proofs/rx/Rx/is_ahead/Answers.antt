use Rattle.std.proofs.Common.{◌≡◌, ◌≤◌, nat_le, sym, ap, ◌∙◌, arith, ◌+◌, ◌-◌}
use Rattle.pdcp_defs.specs.Receivers.{is_ahead}
use Rattle.pdcp_entities.specs.Entities.{RxState}
use Rattle.pdcp_entities.proofs.RxLemmas.{ahead_is}
use Rattle.pdcp_entities.proofs.rx.Rx.is_ahead.Goals as goal

pub returns : goal.returns
unfolding is_ahead
returns c =
    let t = c.self.inside in
    let deliv = ap (λ (v : RxState). v.receiver.deliv) c.self.view_is in
    let from : t.stored.first ≤ c.args.count = omega (arith, deliv, c.requires) in
    ap (λ q. nat_le q (c.args.count - t.stored.first)) c.from.ensures
    ∙ (ahead_is t.quota t.stored.first c.args.count from ∙ ap (λ (v : RxState). is_ahead v.quota v.receiver c.args.count) c.self.view_is)

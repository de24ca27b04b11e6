use Rattle.std.proofs.Common.{true, false, length, sym, ap, ◌∙◌}
use Rattle.gnb_types.specs.declared.names.SnBits.{SnBits}
use Rattle.pdcp_defs.specs.Counts.{near_count}
use Rattle.cu_up_bearer.specs.tunnels.Tunnels.{at_as}
use Rattle.cu_up_bearer.specs.bearers.Bearers.{kept}
use Rattle.cu_up_items.proofs.items.HeldTests.{held_up_is, test_fails, sum_holds, sum_fails}
use Rattle.cu_up_items.proofs.items.holding.held_uplink.Goals as goal

pub returns-then-from : goal.returns-then-from
returns-then-from c =
    let a = at_as c.args.at.now in
    let b = kept c.args.bearer.now in
    let deliv = c.args.bearer.now.receiving.receiver.deliv in
    let count = c.in_ok-count.count in
    let found = ap (λ (k : SnBits). near_count k deliv c.args.number) (sym c.requires.1.0) ∙ sym c.count_of.ensures ∙ c.in_ok-count.was in
    let few = test_fails a.quota (length b.receiver.stored) c.from.result c.len.result c.from.ensures c.len.ensures c.if-from-len.false in
    let ahead = sum_holds deliv a.quota count c.from-2.result c.from-3.result c.from-4.result (c.from-2.ensures ∙ c.awaited.ensures) c.from-3.ensures c.from-4.ensures c.if-from.true in
    sym (held_up_is a b (near_count a.sn deliv c.args.number) count false true found few ahead)

pub returns : goal.returns
returns c =
    let a = at_as c.args.at.now in
    let b = kept c.args.bearer.now in
    let deliv = c.args.bearer.now.receiving.receiver.deliv in
    let count = c.in_ok-count.count in
    let found = ap (λ (k : SnBits). near_count k deliv c.args.number) (sym c.requires.1.0) ∙ sym c.count_of.ensures ∙ c.in_ok-count.was in
    let few = test_fails a.quota (length b.receiver.stored) c.from.result c.len.result c.from.ensures c.len.ensures c.if-from-len.false in
    let ahead = sum_fails deliv a.quota count c.from-2.result c.from-3.result c.from-4.result (c.from-2.ensures ∙ c.awaited.ensures) c.from-3.ensures c.from-4.ensures c.if-from.false in
    sym (held_up_is a b (near_count a.sn deliv c.args.number) count false false found few ahead)

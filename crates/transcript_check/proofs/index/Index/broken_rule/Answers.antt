use Rattle.std.proofs.Common.{Option, reverse, sym, subst}
use Rattle.transcript_defs.specs.declared.rule.Rule.{Rule}
use Rattle.transcript_check.specs.inside.Judge.{FirstBroken}
use Rattle.transcript_check.proofs.JudgeLemmas.{failed_meets}
use Rattle.transcript_check.proofs.index.Index.broken_rule.Goals as goal

pub returns : goal.returns
returns g c = λ is.
    let past = reverse c.args.lines.now in
    subst (λ (broken : Option Rule). FirstBroken (g.S.Spells.spelling c.args.spells.now) past c.args.line.now broken) (sym c.first_failed.ensures)
    (failed_meets (g.S.Spells.spelling c.args.spells.now) past c.args.line.now c.keeps_form-form.result c.keeps_wire-wire.result c.keeps_packet-packet.result
    c.keeps_count-count.result c.keeps_order-order.result c.in_ok-seen.seen c.in_ok-spelling.spelling
    c.keeps_form-form.ensures (c.keeps_wire-wire.ensures past is) (c.keeps_packet-packet.ensures past is) (c.keeps_count-count.ensures past is)
    (c.keeps_order-order.ensures past is) (c.in_ok-seen.ensures past is) c.in_ok-spelling.ensures)

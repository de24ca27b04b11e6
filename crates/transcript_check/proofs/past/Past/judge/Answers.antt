use Rattle.std.proofs.Common.{List, ◌∷◌, Option, Some, None, reverse, ap, subst, ◌∙◌}
use Rattle.std.specs.Prelude.{option_copied}
use Rattle.transcript_defs.specs.declared.line.TextLine.{TextLine}
use Rattle.transcript_defs.specs.declared.rule.Rule.{Rule}
use Rattle.transcript_check.specs.inside.Judge.{FirstBroken}
use Rattle.transcript_check.proofs.CheckLemmas.{judged_index, shows_count, in_order}
use Rattle.transcript_check.proofs.past.Past.judge.Goals as goal

pub take-requires-clause-index : goal.take-requires-clause-index
take-requires-clause-index g c =
    judged_index (reverse c.self.inside.lines) c.args.line (option_copied c.newest.result) c.self.inside.index c.settle.new.accepted c.newest.ensures
    c.self.invariant c.in_ok-settle.ensures

pub take-requires-clause-count : goal.take-requires-clause-count
take-requires-clause-count g c =
    let past = reverse c.self.inside.lines in
    let is = judged_index past c.args.line (option_copied c.newest.result) c.self.inside.index c.settle.new.accepted c.newest.ensures c.self.invariant c.in_ok-settle.ensures in
    shows_count (g.S.Spells.spelling c.args.spells.now) past c.args.line
    (subst (λ (b : Option Rule). FirstBroken (g.S.Spells.spelling c.args.spells.now) past c.args.line b) c.in-None.is (c.in_ok-broken.ensures is))

pub take-requires-clause-order : goal.take-requires-clause-order
take-requires-clause-order g c =
    let past = reverse c.self.inside.lines in
    let is = judged_index past c.args.line (option_copied c.newest.result) c.self.inside.index c.settle.new.accepted c.newest.ensures c.self.invariant c.in_ok-settle.ensures in
    in_order (g.S.Spells.spelling c.args.spells.now) past c.args.line
    (subst (λ (b : Option Rule). FirstBroken (g.S.Spells.spelling c.args.spells.now) past c.args.line b) c.in-None.is (c.in_ok-broken.ensures is))

pub returns-in-Some : goal.returns-in-Some
returns-in-Some g c =
    let past = reverse c.self.inside.lines in
    let is = judged_index past c.args.line (option_copied c.newest.result) c.self.inside.index c.settle.new.accepted c.newest.ensures c.self.invariant c.in_ok-settle.ensures in (
      subst (λ (p : List TextLine). FirstBroken (g.S.Spells.spelling c.args.spells.now) p c.args.line (Some c.in-Some.rule)) c.self.view_is
          (subst (λ (b : Option Rule). FirstBroken (g.S.Spells.spelling c.args.spells.now) past c.args.line b) c.in-Some.is (c.in_ok-broken.ensures is)),
      c.self.view_is,
    )

pub returns-in_ok-past-in-None : goal.returns-in_ok-past-in-None
returns-in_ok-past-in-None g c =
    let past = reverse c.self.inside.lines in
    let is = judged_index past c.args.line (option_copied c.newest.result) c.self.inside.index c.settle.new.accepted c.newest.ensures c.self.invariant c.in_ok-settle.ensures in (
      subst (λ (p : List TextLine). FirstBroken (g.S.Spells.spelling c.args.spells.now) p c.args.line None) c.self.view_is
          (subst (λ (b : Option Rule). FirstBroken (g.S.Spells.spelling c.args.spells.now) past c.args.line b) c.in-None.is (c.in_ok-broken.ensures is)),
      c.in_ok-past-in-None.ensures ∙ ap (λ (p : List TextLine). c.args.line ∷ p) c.self.view_is,
    )

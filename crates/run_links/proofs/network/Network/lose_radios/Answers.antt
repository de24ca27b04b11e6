use Rattle.std.proofs.Common.{◌<◌, ◌∙◌, length, sym, ap, subst}
use Rattle.run_links.specs.declared.network.Network.{Network}
use Rattle.run_links.proofs.FirstRadios.{splits_first}
use Rattle.run_links.proofs.Losses.{lose_then, lose_none}
use Rattle.run_links.proofs.OnRadios.{loses_nowhere, loses_in}
use Rattle.run_links.proofs.network.Network.lose_radios.Goals as goal

pub returns-in_default-clause-told : goal.returns-in_default-clause-told
returns-in_default-clause-told c = loses_nowhere c.args.ue c.args.self.now c.args.lines.now c.in_default.ensures

pub loop-key-smaller : goal.loop-key-smaller
loop-key-smaller c =
    subst (λ (g : Network). length g.radios.radios < length c.loop-key.self.radios.radios) (sym c.lose_radio.ensures.rest)
    (splits_first c.args.ue c.in-Some-first_of.key c.loop-key.self.radios.radios c.in-Some-first_of.ensures.ordered
    (sym c.in-Some-first_of.ensures.first)).fewer

pub loop-key-preserved : goal.loop-key-preserved
loop-key-preserved c = record {
  bag = ap (λ (g : Network). g.bag) c.lose_radio.ensures.rest ∙ c.loop-key.invariant.bag;
  rest = λ new lines h.
      c.loop-key.invariant.rest new lines
      (lose_then c.args.ue c.in-Some.epoch c.in-Some-first_of.key c.loop-key.self c.lose_radio.new.self new c.loop-key.lines c.lose_radio.new.lines lines
      (splits_first c.args.ue c.in-Some-first_of.key c.loop-key.self.radios.radios c.in-Some-first_of.ensures.ordered
      (sym c.in-Some-first_of.ensures.first))
      c.in_ok-lose_radio.ensures.told (ap (λ (g : Network). g.radios.radios) c.lose_radio.ensures.rest) h);
}

pub returns-clause-told : goal.returns-clause-told
returns-clause-told c =
    loses_in c.args.ue c.in-Some.epoch c.args.self.now c.loop-key.self c.args.lines.now c.loop-key.lines c.in-Some.ensures
    (c.loop-key.invariant.rest c.loop-key.self c.loop-key.lines
    (lose_none c.args.ue c.in-Some.epoch c.loop-key.self c.loop-key.lines (sym c.in_default-first_of.ensures.first)))

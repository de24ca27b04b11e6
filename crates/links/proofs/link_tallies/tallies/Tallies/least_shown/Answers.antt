use Rattle.std.proofs.Common.{sym}
use Rattle.links.proofs.link_tallies.SoundLemmas.{least_found, least_absent, least_of_these}
use Rattle.links.proofs.link_tallies.tallies.Tallies.least_shown.Goals as goal

pub returns-in-Some-clause-first : goal.returns-in-Some-clause-first
returns-in-Some-clause-first c =
    least_found c.self.inside.tallies c.args.self.now c.args.key c.in-Some.tally.now c.least_shown.result c.self.view_is (sym c.in-Some.ensures)
    c.least_shown.ensures

pub returns-in-Some-clause-least : goal.returns-in-Some-clause-least
returns-in-Some-clause-least c =
    least_of_these c.self.inside.tallies c.args.self.now c.args.key c.least_shown.result c.self.invariant c.self.view_is
    (least_found c.self.inside.tallies c.args.self.now c.args.key c.in-Some.tally.now c.least_shown.result c.self.view_is (sym c.in-Some.ensures)
    c.least_shown.ensures)

pub returns-in-None-clause-first : goal.returns-in-None-clause-first
returns-in-None-clause-first c = least_absent c.self.inside.tallies c.args.self.now c.args.key c.self.view_is (sym c.in-None.ensures)

pub returns-in-None-clause-least : goal.returns-in-None-clause-least
returns-in-None-clause-least c =
    least_of_these c.self.inside.tallies c.args.self.now c.args.key _ c.self.invariant c.self.view_is
    (least_absent c.self.inside.tallies c.args.self.now c.args.key c.self.view_is (sym c.in-None.ensures))

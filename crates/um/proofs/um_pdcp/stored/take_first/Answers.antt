use Rattle.std.proofs.Common.{None, Some, sym, ◌∙◌}
use Rattle.um.proofs.um_pdcp.StoredLemmas.{none_first, found_first, left_first}
use Rattle.um.proofs.um_pdcp.stored.take_first.Goals as goal

pub returns-in_default-clause-first : goal.returns-in_default-clause-first
returns-in_default-clause-first c = sym (none_first c.args.stored.now (sym c.in_default.ensures))

pub returns-in_default-take-clause-first : goal.returns-in_default-take-clause-first
returns-in_default-take-clause-first c =
    found_first c.args.stored.now c.in-Some.count None (sym c.in-Some.ensures) c.in_default-take.ensures.value

pub returns-in_default-take-clause-rest : goal.returns-in_default-take-clause-rest
returns-in_default-take-clause-rest c =
    c.take.ensures.rest ∙ left_first c.args.stored.now c.in-Some.count c.len.ensures.ordered (sym c.in-Some.ensures)

pub returns-clause-first : goal.returns-clause-first
returns-clause-first c =
    found_first c.args.stored.now c.in-Some.count (Some c.in-Some-take.packet) (sym c.in-Some.ensures) c.in-Some-take.ensures.value

pub returns-clause-rest : goal.returns-clause-rest
returns-clause-rest c =
    c.take.ensures.rest ∙ left_first c.args.stored.now c.in-Some.count c.len.ensures.ordered (sym c.in-Some.ensures)

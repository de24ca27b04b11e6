use Rattle.std.proofs.Common.{◌∙◌}
use Rattle.um.proofs.um_pdcp.StoredLemmas.{is_below}
use Rattle.um.proofs.um_pdcp.stored.take_below.Goals as goal

pub returns-clause-first : goal.returns-clause-first
returns-clause-first c =
    c.take_first.ensures.first ∙ is_below c.args.count c.in-Some.first c.args.stored.now c.in-Some.ensures c.if-first-count.false

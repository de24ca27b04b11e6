use Rattle.std.proofs.Common.{◌∙◌}
use Rattle.um.proofs.um_pdcp.StoredLemmas.{same_first}
use Rattle.um.proofs.um_pdcp.stored.take_at.Goals as goal

pub returns-clause-first : goal.returns-clause-first
returns-clause-first c =
    c.take_first.ensures.first ∙ same_first c.args.count c.in-Some.first c.args.stored.now c.in-Some.ensures c.if-first-count.false

use Rattle.std.proofs.Common.{sym, ap, ◌∙◌}
use Rattle.um.proofs.um_pdcp.StoredLemmas.{key_in, first_is}
use Rattle.um.proofs.um_pdcp.stored.first_count.Goals as goal

pub returns-in-Some : goal.returns-in-Some
returns-in-Some c = ap key_in c.in-Some.ensures ∙ sym (first_is c.args.stored.now)

pub returns-in-None : goal.returns-in-None
returns-in-None c = ap key_in c.in-None.ensures ∙ sym (first_is c.args.stored.now)

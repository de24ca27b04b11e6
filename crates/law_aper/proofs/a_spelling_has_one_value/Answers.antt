use Rattle.std.proofs.Common.{append-nil, [], sym, subst}
use Rattle.aper_defs.specs.Spelling.{Spells}
use Rattle.law_aper.proofs.Spelled.{one_value}
use Rattle.law_aper.proofs.a_spelling_has_one_value.Goals as goal

pub returns-clause-value : goal.returns-clause-value
returns-clause-value c = λ t v w octets b s r. (one_value t v w octets [] b s (subst (Spells t w) (sym (append-nil octets)) r)).0

pub returns-clause-whole : goal.returns-clause-whole
returns-clause-whole c = λ t v w octets more b s r. (one_value t v w octets more b s r).1

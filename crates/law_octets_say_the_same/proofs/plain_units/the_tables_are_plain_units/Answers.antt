use Rattle.law_octets_say_the_same.proofs.plain_units.Keeping.{tables_keep, tables_plain}
use Rattle.law_octets_say_the_same.proofs.plain_units.the_tables_are_plain_units.Goals as goal

pub returns-clause-range : goal.returns-clause-range
returns-clause-range c = λ codec. tables_keep codec

pub returns-clause-plain : goal.returns-clause-plain
returns-clause-plain c = λ codec. tables_plain codec

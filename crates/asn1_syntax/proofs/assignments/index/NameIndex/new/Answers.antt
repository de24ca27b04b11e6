use Rattle.asn1_syntax.proofs.assignments.Indexed.{none_numbered}
use Rattle.asn1_syntax.proofs.assignments.index.NameIndex.new.Goals as goal

pub returns : goal.returns
returns c = none_numbered (record { numbers = c.new.result }) c.new.ensures.empty

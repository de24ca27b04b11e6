use Rattle.law_codecs.proofs.Lawful.{lawful, reads_items, reads_pdus, reads_in_range, reads_the_rest}
use Rattle.law_codecs.proofs.messages_in_range_are_read.Goals as goal

pub returns : goal.returns
returns c = λ given. (lawful given, reads_items given, reads_pdus given, reads_in_range given, reads_the_rest given)

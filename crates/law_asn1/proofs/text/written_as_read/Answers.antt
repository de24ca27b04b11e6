use Rattle.proof_asn1.proofs.reading.Readings.{read_of}
use Rattle.law_asn1.proofs.text.ModuleTexts.{written_so}
use Rattle.law_asn1.proofs.text.written_as_read.Goals as goal

pub returns : goal.returns
returns c text n m reads = written_so text m (read_of text m reads.is)

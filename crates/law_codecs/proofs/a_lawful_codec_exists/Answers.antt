use Rattle.law_codecs.proofs.Lawful.{silent, lawful, reads_items, reads_pdus}
use Rattle.law_codecs.proofs.a_lawful_codec_exists.Goals as goal

pub returns : goal.returns
returns c = (lawful silent, reads_items silent, reads_pdus silent)

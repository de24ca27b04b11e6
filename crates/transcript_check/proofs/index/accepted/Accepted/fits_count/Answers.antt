use Rattle.transcript_check.specs.Readings.{says_of}
use Rattle.transcript_check.proofs.ItemLemmas.{not_true, reads_with}
use Rattle.transcript_check.proofs.index.accepted.Accepted.fits_count.Goals as goal

pub returns-in-Some : goal.returns-in-Some
returns-in-Some c = λ happened are.
    reads_with happened c.args.self.now c.args.link c.args.item.now c.in-Some.reading.sn (says_of c.in-Some.reading.says) are
    (c.in-Some.ensures.found happened are) (λ reading. c.in-Some.ensures.only happened are reading) c.fits.result c.fits.ensures

pub returns-in-None : goal.returns-in-None
returns-in-None c = λ happened are. not_true (λ shows. c.in-None.ensures.only happened are shows.0)

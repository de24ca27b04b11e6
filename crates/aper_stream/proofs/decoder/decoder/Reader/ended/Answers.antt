use Rattle.std.proofs.Common.{◌≡◌, ◌*◌, ◌==◌, false, length, Err, sym, ap, subst, ◌∙◌, arith}
use Rattle.std.proofs.lemmas.Bool.Decides.{nat_tests}
use Rattle.aper_values.specs.Views.{view}
use Rattle.aper_stream.specs.declared.decoder.turns.End.{End}
use Rattle.aper_stream.specs.decoder.inside.Reading.{end_of}
use Rattle.aper_stream.specs.decoder.inside.States.{front, Gives}
use Rattle.aper_stream.proofs.decoder.Ends.{tail_given}
use Rattle.aper_stream.proofs.decoder.decoder.Reader.ended.Goals as goal

pub returns-in-Whole : goal.returns-in-Whole
returns-in-Whole c =
    let reader = c.args.self.now in
    let same : c.front-octets.result.now ≡ front reader.kept.items = c.front-octets.ensures.front ∙ ap front c.as_slice.ensures.value in
    let more : (c.in-Whole.place == 8 * length (front reader.kept.items)) ≡ false = grind (arith, nat_tests, ap length same, c.if-place-octets.false) in
    subst (λ (x : End). Gives (end_of (length (front reader.kept.items)) reader.frames x) (Err c.left_over.result)) (sym c.in-Whole.is)
    (tail_given (length (front reader.kept.items)) (view c.in-Whole.value) c.in-Whole.place c.left_over.result more c.left_over.ensures)

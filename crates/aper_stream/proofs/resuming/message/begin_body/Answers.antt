use Rattle.std.proofs.Common.{ap, ◌∙◌, arith}
use Rattle.aper_frames.specs.Weights.{outcome_weight}
use Rattle.aper_frames.proofs.aper_elements.MessageLemmas.{body_next}
use Rattle.aper_frames.proofs.aper_elements.Weighing.{message_weighs}
use Rattle.aper_stream.proofs.resuming.message.begin_body.Goals as goal

pub returns-clause-asked : goal.returns-clause-asked
returns-clause-asked c = λ fs of.
    body_next of c.args.rows.now c.args.body c.message_type-known.result fs c.requires c.message_type-known.ensures
    ∙ c.contents.ensures.asked fs of

pub returns-clause-lighter : goal.returns-clause-lighter
returns-clause-lighter c = λ w.
    omega (
      arith,
      c.contents.ensures.lighter w,
      ap (outcome_weight w) c.message_type-known.ensures,
      message_weighs w c.args.body.outcome c.args.body.code c.args.rows.now,
    )

use Rattle.aper_values.specs.types.Types.{tree}
use Rattle.aper_values.proofs.types.Bounded.{tree_bounded}
use Rattle.aper_values.specs.Views.{view}
use Rattle.proof_aper.proofs.values.FoundWhole.{decoded_spells}
use Rattle.aper.proofs.Sets.{tree_sets}
use Rattle.aper.proofs.Answered.{refused_so}
use Rattle.aper.proofs.decoder.decode.Goals as goal

pub returns-in-Ok-clause-value : goal.returns-in-Ok-clause-value
returns-in-Ok-clause-value c =
    decoded_spells (tree c.args.m.now c.args.id.number) (view c.in-Ok.value) c.args.octets.now
    (tree_bounded c.args.m.now c.args.id.number c.name.ensures.sound) (c.in-Ok.ensures {u = tt})

pub returns-in-Err-clause-refused : goal.returns-in-Err-clause-refused
returns-in-Err-clause-refused c =
    refused_so (tree c.args.m.now c.args.id.number) c.args.octets.now c.in-Err.error c.printed.result
    (tree_bounded c.args.m.now c.args.id.number c.name.ensures.sound) (tree_sets c.args.m.now c.args.id.number c.name.ensures.sound) (c.in-Err.ensures {u = tt}) c.printed.ensures

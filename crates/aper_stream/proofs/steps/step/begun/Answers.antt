use Rattle.aper_stream.proofs.steps.Strings.{begun_light}
use Rattle.aper_stream.proofs.steps.step.begun.Goals as goal

pub returns-clause-light : goal.returns-clause-light
returns-clause-light c =
    begun_light c.args.m.now c.args.pending c.string_of.result c.in-Some.string c.new.result c.in-Some.is c.string_of.ensures

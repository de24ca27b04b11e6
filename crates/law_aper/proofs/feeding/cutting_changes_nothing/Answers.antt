use Rattle.law_aper.proofs.feeding.Cutting.{cutting, keeps}
use Rattle.law_aper.proofs.feeding.cutting_changes_nothing.Goals as goal

pub returns-clause-said : goal.returns-clause-said
returns-clause-said c = cutting

pub returns-clause-kept : goal.returns-clause-kept
returns-clause-kept c = keeps

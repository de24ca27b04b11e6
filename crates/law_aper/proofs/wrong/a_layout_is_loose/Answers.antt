use Rattle.law_aper.proofs.wrong.LayoutsLoose.{loose_layout}
use Rattle.law_aper.proofs.wrong.a_layout_is_loose.Goals as goal

pub returns : goal.returns
returns c = loose_layout

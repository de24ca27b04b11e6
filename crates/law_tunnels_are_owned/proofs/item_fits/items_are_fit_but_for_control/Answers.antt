use Rattle.law_tunnels_are_owned.proofs.item_fits.Items.{items_fit}
use Rattle.law_tunnels_are_owned.proofs.item_fits.items_are_fit_but_for_control.Goals as goal

pub returns : goal.returns
returns c = λ reading events t is gnb number teid owner items is_open found. items_fit reading events t is gnb number teid owner items is_open found

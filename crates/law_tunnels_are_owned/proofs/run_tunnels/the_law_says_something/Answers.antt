use Rattle.std.proofs.Common.{◌≡◌, Some, refl, ap, arith}
use Rattle.std.specs.Ordering.{nat_cmp}
use Rattle.gnb_types.specs.declared.names.Gnb.TheVariants.{A}
use Rattle.gnb_types.specs.declared.names.UeId.{UeId}
use Rattle.gnb_types.specs.Orders.{tunnel_cmp}
use Rattle.tables.specs.Tables.{find, put, at}
use Rattle.run_defs.specs.Units.{cu_up_of}
use Rattle.law_tunnels_are_owned.specs.run_tunnels.Example.{its_end, its_owner, its_items, of_another}
use Rattle.law_tunnels_are_owned.proofs.run_tunnels.the_law_says_something.Goals as goal

items_there : find tunnel_cmp of_another.tunnels its_end ≡ Some its_items
unfolding find
items_there = refl

owner_there : find nat_cmp (cu_up_of of_another.units A 1).tunnels 1 ≡ Some its_owner
unfolding find put at
owner_there = refl

pub returns : goal.returns
returns c = λ h. let same : 2 ≡ 1 = ap (λ (ue : UeId). ue.0) ((h its_end its_items items_there).0 its_owner owner_there).0 in absurd (omega (arith, same))

use Rattle.std.proofs.Common.{refl}
use Rattle.ue_node.specs.Nodes.{new_node}
use Rattle.site.proofs.Others.{comes_to_work, comes_as}
use Rattle.site.proofs.unit_set.UnitSet.seat.Goals as goal

pub returns-clause-works : goal.returns-clause-works
returns-clause-works c =
    comes_to_work c.args.self.now c.args.plan (new_node c.args.plan) c.seat.new.terminals c.seat.result c.requires.works refl c.seat.ensures

pub returns-clause-records : goal.returns-clause-records
returns-clause-records c = comes_as c.args.self.now c.args.plan (new_node c.args.plan) c.seat.new.terminals c.seat.result c.seat.ensures

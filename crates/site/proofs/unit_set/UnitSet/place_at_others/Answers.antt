use Rattle.site.proofs.Sets.{node_works}
use Rattle.site.proofs.Others.{node_placed_works, others_placed}
use Rattle.site.proofs.unit_set.UnitSet.place_at_others.Goals as goal

pub place-requires-clause-works : goal.place-requires-clause-works
place-requires-clause-works c = node_works c.args.self.now c.args.plan.gnb c.args.plan.du c.requires.works

pub place_at_control-requires : goal.place_at_control-requires
place_at_control-requires c =
    node_placed_works c.args.plan c.args.uplink c.args.self.now c.place.new.nodes c.requires.works c.in_ok-place.ensures

pub returns : goal.returns
returns c =
    others_placed c.args.plan c.args.uplink c.args.self.now c.place.new.nodes c.place-2.new.terminals c.place_at_control.new.self c.mark_set_up.new.self
    c.requires.works c.in_ok-place.ensures c.in_ok-place_at_control.ensures.placed c.in_ok-place-2.ensures.placed c.in_ok-mark_set_up.ensures

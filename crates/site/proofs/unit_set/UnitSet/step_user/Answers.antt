use Rattle.site.proofs.Sets.{user_works, user_gives, user_goes_on}
use Rattle.site.proofs.unit_set.UnitSet.step_user.Goals as goal

pub step-requires : goal.step-requires
step-requires g c = user_works c.args.self.now c.args.gnb c.args.number c.requires

pub returns-clause-works : goal.returns-clause-works
returns-clause-works g c =
    user_goes_on g.C.MessageCodec.codec c.args.self.now c.requires c.args.input.now c.args.gnb c.args.number c.step.new.users c.step.result c.step.ensures

pub returns-clause-gives : goal.returns-clause-gives
returns-clause-gives g c =
    user_gives g.C.MessageCodec.codec c.args.self.now c.requires c.args.input.now c.args.gnb c.args.number c.step.new.users c.step.result c.step.ensures

use Rattle.std.proofs.Common.{refl}
use Rattle.gnb_types.specs.declared.names.NodeId.TheVariants.{CuUp}
use Rattle.gnb_types.specs.Orders.{node_cmp}
use Rattle.cu_user.specs.Users.{new_user}
use Rattle.site.proofs.site_tables.Stepped.{at_some, user_steps}
use Rattle.site.proofs.site_tables.users.step.Goals as goal

pub returns : goal.returns
returns g c =
    user_steps g.C.MessageCodec.codec c.args.input.now c.args.users.now _ c.args.gnb c.args.number c.in-Some.user.now c.step.new.self c.step.result
    (at_some node_cmp c.args.users.now (new_user c.args.gnb c.args.number) (CuUp c.args.gnb c.args.number) c.in-Some.user.now c.in-Some.ensures.value)
    c.requires (c.step.ensures.steps g.met.C.LawfulCodec.reads_items) c.step.ensures.kept (λ os is. refl)

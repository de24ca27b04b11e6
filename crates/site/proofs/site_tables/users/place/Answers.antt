use Rattle.std.proofs.Common.{refl, sym, ap, ◌∙◌}
use Rattle.gnb_types.specs.declared.names.NodeId.TheVariants.{CuUp}
use Rattle.gnb_types.specs.Orders.{node_cmp, ue_cmp}
use Rattle.tables.specs.Tables.{find, put}
use Rattle.cu_user.specs.Users.{User, new_user}
use Rattle.site.proofs.site_tables.Stepped.{at_some, user_placed}
use Rattle.site.proofs.site_tables.users.place.Goals as goal

pub place_static-requires-clause-new : goal.place_static-requires-clause-new
place_static-requires-clause-new c =
    ap (λ (u : User). find ue_cmp u.up.contexts c.args.plan.ue)
    (sym (at_some node_cmp c.args.users.now (new_user c.args.plan.gnb c.args.plan.up) (CuUp c.args.plan.gnb c.args.plan.up) c.in-Some.user.now c.in-Some.ensures.value))
    ∙ c.requires.new

pub returns : goal.returns
returns c =
    user_placed c.args.plan c.args.downlink c.args.users.now _ c.in-Some.user.now c.place_static.new.self
    (at_some node_cmp c.args.users.now (new_user c.args.plan.gnb c.args.plan.up) (CuUp c.args.plan.gnb c.args.plan.up) c.in-Some.user.now c.in-Some.ensures.value)
    c.requires.works c.place_static.result c.place_static.ensures.placed c.place_static.ensures.kept (λ is. refl)
    (λ is same. ap (λ (u : User). put node_cmp c.args.users.now (CuUp c.args.plan.gnb c.args.plan.up) u) same ∙ c.in-Some.ensures.same)

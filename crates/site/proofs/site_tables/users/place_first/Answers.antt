use Rattle.std.proofs.Common.{◌≡◌, refl, sym, ap, ◌∙◌}
use Rattle.std.specs.Prelude.{Ok, Err}
use Rattle.gnb_types.specs.declared.names.NodeId.TheVariants.{CuUp}
use Rattle.gnb_types.specs.Orders.{node_cmp, ue_cmp}
use Rattle.tables.specs.Tables.{find, put}
use Rattle.cu_user.specs.Users.{User, new_user}
use Rattle.site.specs.site_tables.Users.{user_at}
use Rattle.site.proofs.site_tables.Stepped.{at_none, user_placed, kept_placed}
use Rattle.site.proofs.site_tables.users.place_first.Goals as goal

pub place_static-requires-clause-new : goal.place_static-requires-clause-new
unfolding find
place_static-requires-clause-new c = ap (λ (u : User). find ue_cmp u.up.contexts c.args.plan.ue) c.new-user.ensures

pub returns-in-Ok : goal.returns-in-Ok
returns-in-Ok c =
    let old = c.args.users.now in
    let name = CuUp c.args.plan.gnb c.args.plan.up in
    let first : user_at old c.args.plan.gnb c.args.plan.up ≡ new_user c.args.plan.gnb c.args.plan.up =
    at_none node_cmp old (new_user c.args.plan.gnb c.args.plan.up) name c.requires.absent in
    kept_placed c.args.plan c.args.downlink old c.keep_placed.new.users (put node_cmp old name c.place_static.new.self) c.keep_placed.result
    (user_placed c.args.plan c.args.downlink old (put node_cmp old name c.place_static.new.self) c.new-user.result c.place_static.new.self
    (first ∙ sym c.new-user.ensures) (ap (λ (u : User). u.failure) first) (Ok tt) c.in-Ok.ensures.placed c.in-Ok.ensures.kept (λ is. refl)
    (λ is same. absurd (cc)))
    c.keep_placed.ensures.ok c.keep_placed.ensures.fails

pub returns-in-Err : goal.returns-in-Err
returns-in-Err c =
    let old = c.args.users.now in
    let name = CuUp c.args.plan.gnb c.args.plan.up in
    let first : user_at old c.args.plan.gnb c.args.plan.up ≡ new_user c.args.plan.gnb c.args.plan.up =
    at_none node_cmp old (new_user c.args.plan.gnb c.args.plan.up) name c.requires.absent in
    user_placed c.args.plan c.args.downlink old old c.new-user.result c.place_static.new.self (first ∙ sym c.new-user.ensures)
    (ap (λ (u : User). u.failure) first) (Err c.in-Err.error) c.in-Err.ensures.placed c.in-Err.ensures.kept (λ is. absurd (cc)) (λ is same. refl)

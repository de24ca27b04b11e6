use Rattle.std.proofs.Common.{◌≡◌, [], refl, sym, ap, ◌∙◌}
use Rattle.std.specs.Prelude.{Ok, Err}
use Rattle.gnb_types.specs.declared.names.NodeId.TheVariants.{CuUp}
use Rattle.gnb_types.specs.Orders.{node_cmp}
use Rattle.tables.specs.Tables.{put}
use Rattle.unit_defs.specs.octet_defs.Units.{cu_up_steps}
use Rattle.unit_messages.specs.steps.Steps.{step_after}
use Rattle.cu_user.specs.Users.{User, new_user}
use Rattle.site.specs.site_tables.Users.{user_kind, user_at}
use Rattle.site.proofs.site_tables.Stepped.{at_none, kept_steps, user_steps}
use Rattle.site.proofs.site_tables.users.step_first.Goals as goal

pub returns-in-Ok : goal.returns-in-Ok
returns-in-Ok g c =
    let codec = g.C.MessageCodec.codec in
    let old = c.args.users.now in
    let first : user_at old c.args.gnb c.args.number ≡ new_user c.args.gnb c.args.number =
    at_none node_cmp old (new_user c.args.gnb c.args.number) (CuUp c.args.gnb c.args.number) c.requires in
    kept_steps user_kind (step_after [] (cu_up_steps codec (user_at old c.args.gnb c.args.number).up c.args.input.now)) (put node_cmp old (CuUp c.args.gnb c.args.number))
    (put node_cmp old (CuUp c.args.gnb c.args.number) c.step.new.self) c.keep.new.table c.in-Ok.outputs c.keep.result
    (user_steps codec c.args.input.now old (put node_cmp old (CuUp c.args.gnb c.args.number) c.step.new.self) c.args.gnb c.args.number c.new-user.result c.step.new.self
    (Ok c.in-Ok.outputs) (first ∙ sym c.new-user.ensures) (ap (λ (u : User). u.failure) first)
    (c.in-Ok.ensures.steps g.met.C.LawfulCodec.reads_items) c.in-Ok.ensures.kept (λ os is. refl))
    c.keep.ensures.given c.keep.ensures.ok c.keep.ensures.fails

pub returns-in-Err : goal.returns-in-Err
returns-in-Err g c =
    let codec = g.C.MessageCodec.codec in
    let old = c.args.users.now in
    let first : user_at old c.args.gnb c.args.number ≡ new_user c.args.gnb c.args.number =
    at_none node_cmp old (new_user c.args.gnb c.args.number) (CuUp c.args.gnb c.args.number) c.requires in
    user_steps codec c.args.input.now old old c.args.gnb c.args.number c.new-user.result c.step.new.self (Err c.in-Err.error) (first ∙ sym c.new-user.ensures)
    (ap (λ (u : User). u.failure) first) (c.in-Err.ensures.steps g.met.C.LawfulCodec.reads_items) c.in-Err.ensures.kept (λ os is. absurd (cc))

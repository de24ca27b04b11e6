use Rattle.std.proofs.Common.{◌≡◌, ◌≤◌, is_some, sym, ap, ◌∙◌, subst}
use Rattle.std.specs.Ordering.{nat_cmp}
use Rattle.tables.specs.Tables.{find}
use Rattle.um.specs.run.Worlds.{UmWorldState}
use Rattle.um.proofs.run.SentLemmas.{is_there}
use Rattle.um.proofs.run.world.UmWorld.refusal.Goals as goal

pub returns-clause-none : goal.returns-clause-none
returns-clause-none c =
    is_there c.args.number c.args.self.now.run
    (subst (λ (v : UmWorldState). c.args.number ≤ v.run.puts) c.self.view_is c.if-number-self.false)
    (ap (λ (v : UmWorldState). is_some (find nat_cmp v.run.flight c.args.number)) (sym c.self.view_is) ∙ (sym c.has.ensures ∙ c.if-not-has.false))

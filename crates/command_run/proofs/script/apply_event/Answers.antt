use Rattle.std.proofs.Common.{◌∷◌, ap, ◌∙◌}
use Rattle.scenario_text.specs.declared.line.OutLine.TheVariants.{Happens}
use Rattle.scenario_text.specs.Print.{print}
use Rattle.command_run.proofs.Applied.{event_ends}
use Rattle.command_run.proofs.script.apply_event.Goals as goal

pub returns : goal.returns
returns g c =
    record {
      ready = c.in-Ok.ensures.ready;
      meets = event_ends _ _ _ _ c.in-Ok.field-0 c.in-Ok.ensures.happens _
          (c.as_slice-2.ensures ∙ c.in-Ok-text.ensures ∙ ap (λ ls. print (Happens c.args.event ∷ ls)) c.as_slice.ensures)
          _ c.in-Some.cause _ c.in-Some.is c.end_at.ensures c.in-Ok-write_all.ensures;
    }

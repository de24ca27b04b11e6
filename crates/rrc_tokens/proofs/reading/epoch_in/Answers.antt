use Rattle.std.proofs.Common.{◌<◌, ap, subst, sym, ◌∙◌}
use Rattle.aper_values.specs.Views.{view}
use Rattle.message_defs.specs.Fields.{to_number}
use Rattle.message_defs.specs.Places.{or_empty}
use Rattle.rrc_tokens.proofs.Parts.{component_is}
use Rattle.rrc_tokens.proofs.reading.epoch_in.Goals as goal

pub to_number-requires : goal.to_number-requires
to_number-requires c =
    subst (λ v. to_number v < 4294967296) (component_is 1 (view c.args.body.now) ∙ ap or_empty (sym c.in-Some.ensures)) c.requires.epoch

pub returns-in-Some : goal.returns-in-Some
returns-in-Some c =
    c.to_number.ensures ∙ ap to_number (sym (component_is 1 (view c.args.body.now) ∙ ap or_empty (sym c.in-Some.ensures)))

pub returns-in-None : goal.returns-in-None
returns-in-None c = ap to_number (sym (component_is 1 (view c.args.body.now) ∙ ap or_empty (sym c.in-None.ensures)))

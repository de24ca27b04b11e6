use Rattle.std.proofs.Common.{◌<◌, ap, subst, sym, ◌∙◌}
use Rattle.aper_values.specs.Views.{view}
use Rattle.message_defs.specs.Fields.{to_number}
use Rattle.message_defs.specs.Places.{or_empty}
use Rattle.rrc_tokens.proofs.Parts.{component_is}
use Rattle.rrc_tokens.proofs.reading.du_in.Goals as goal

pub to_octet-requires : goal.to_octet-requires
to_octet-requires c =
    subst (λ v. to_number v < 256) (component_is 3 (view c.args.body.now) ∙ ap or_empty (sym c.in-Some.ensures)) c.requires.du

pub returns-in-Some : goal.returns-in-Some
returns-in-Some c =
    c.to_octet.ensures ∙ ap to_number (sym (component_is 3 (view c.args.body.now) ∙ ap or_empty (sym c.in-Some.ensures)))

pub returns-in-None : goal.returns-in-None
returns-in-None c = ap to_number (sym (component_is 3 (view c.args.body.now) ∙ ap or_empty (sym c.in-None.ensures)))

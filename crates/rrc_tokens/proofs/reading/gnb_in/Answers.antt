use Rattle.std.proofs.Common.{ap, sym, ◌∙◌}
use Rattle.aper_defs.specs.Values.{Value}
use Rattle.aper_values.specs.Views.{view}
use Rattle.message_defs.specs.Fields.{to_index, gnb_at}
use Rattle.message_defs.specs.Places.{or_empty}
use Rattle.rrc_tokens.proofs.Parts.{component_is}
use Rattle.rrc_tokens.proofs.reading.gnb_in.Goals as goal

pub returns-in-Some : goal.returns-in-Some
returns-in-Some c =
    c.to_gnb.ensures ∙ ap (λ (v : Value). gnb_at (to_index v)) (sym (component_is 2 (view c.args.body.now) ∙ ap or_empty (sym c.in-Some.ensures)))

pub returns-in-None : goal.returns-in-None
returns-in-None c =
    ap (λ (v : Value). gnb_at (to_index v)) (sym (component_is 2 (view c.args.body.now) ∙ ap or_empty (sym c.in-None.ensures)))

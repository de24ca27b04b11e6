use Rattle.std.proofs.Common.{ℕ, ◌<◌, ap, subst, sym, ◌∙◌}
use Rattle.aper_values.specs.Views.{view}
use Rattle.gnb_types.specs.declared.names.UeId.{UeId}
use Rattle.message_defs.specs.Fields.{to_number, to_ue}
use Rattle.message_defs.specs.Places.{or_empty}
use Rattle.rrc_tokens.proofs.Parts.{component_is}
use Rattle.rrc_tokens.proofs.reading.ue_in.Goals as goal

ue : ℕ → UeId
ue n = record { 0 = n }

pub to_octet-requires : goal.to_octet-requires
to_octet-requires c =
    subst (λ v. to_number v < 256) (component_is 0 (view c.args.body.now) ∙ ap or_empty (sym c.in-Some.ensures)) c.requires.ue

pub returns-in-Some : goal.returns-in-Some
unfolding ue
returns-in-Some c =
    ap ue c.to_octet.ensures ∙ ap to_ue (sym (component_is 0 (view c.args.body.now) ∙ ap or_empty (sym c.in-Some.ensures)))

pub returns-in-None : goal.returns-in-None
returns-in-None c = ap to_ue (sym (component_is 0 (view c.args.body.now) ∙ ap or_empty (sym c.in-None.ensures)))

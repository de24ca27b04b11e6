use Rattle.std.proofs.Common.{ℕ, List, sym, subst, ◌∙◌}
use Rattle.aper_values.specs.Views.{view}
use Rattle.proof_json.proofs.values.Words.{texts_same}
use Rattle.json_defs.specs.shown_defs.Printed.{shown_as}
use Rattle.json_defs.specs.type_defs.Types.{named}
use Rattle.values_json.specs.Texts.{IsReadAgain}
use Rattle.values_json.proofs.Again.{text_again}
use Rattle.values_json.proofs.printed_value.Goals as goal

pub returns-then-is_same : goal.returns-then-is_same
returns-then-is_same c =
    let again =
    subst (λ (text : List ℕ). IsReadAgain text (shown_as (named c.args.m.now c.args.id.number) (view c.in_ok-value.value)))
    (sym c.as_slice.ensures ∙ texts_same _ _ (sym c.is_same.ensures ∙ c.if-is_same.true)) c.in-Ok.ensures.again in
    text_again c.args.m.now c.args.id.number (view c.in_ok-value.value) c.args.text.now c.name.ensures.sound (c.is_value.ensures.0 c.if-not-is_value.false)
    again

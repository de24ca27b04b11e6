use Rattle.std.proofs.Common.{List, sym, ap, subst, ◌∙◌}
use Rattle.serde_json.specs.Data.{Data, array}
use Rattle.serde_json.specs.declared.value.Value.{Value}
use Rattle.serde_json.specs.View.{view, items_view}
use Rattle.serde_json.proofs.Views.{view-Array}
use Rattle.json_fields.specs.simple.Answers.{IsPair}
use Rattle.json_fields.proofs.simple.past.pair_of.Goals as goal

pub returns-in-Array : goal.returns-in-Array
returns-in-Array c =
    subst (λ (d : Data). IsPair d c.two_of.result)
    (sym (ap view c.in-Array.is ∙ view-Array c.in-Array.items ∙ ap (λ (vs : List Value). array (items_view vs)) (sym c.deref.ensures.value)))
    c.two_of.ensures

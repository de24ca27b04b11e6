use Rattle.serde_json.specs.View.{view as json}
use Rattle.json_defs.specs.Readings.{value_of}
use Rattle.json_defs.specs.Demands.{demands}
use Rattle.json_defs.specs.type_defs.Types.{named}
use Rattle.std.proofs.lemmas.Result.{err_from_is_err_and}
use Rattle.values_json.proofs.Answered.{text_value, text_json, text_fault, no_tree_json, no_tree_fault}
use Rattle.values_json.proofs.value_from_json.Goals as goal

pub returns-in_err-d-clause-not_json : goal.returns-in_err-d-clause-not_json
returns-in_err-d-clause-not_json c =
    let p = err_from_is_err_and c.from_residual.result c.from_residual.ensures.1 in
    rw (p.1, p.2) (no_tree_json (named c.args.m.now c.args.id.number) c.args.text.now c.in_err-d.field-0.0 c.in_err-d.ensures)

pub returns-in_err-d-clause-fault : goal.returns-in_err-d-clause-fault
returns-in_err-d-clause-fault c =
    let p = err_from_is_err_and c.from_residual.result c.from_residual.ensures.1 in
    rw (p.1, p.2) (no_tree_fault (named c.args.m.now c.args.id.number) c.args.text.now c.in_err-d.field-0.0 c.in_err-d.ensures)

pub returns-clause-value : goal.returns-clause-value
returns-clause-value c =
    let t = named c.args.m.now c.args.id.number in
    let d = json c.in_ok-d.d in
    text_value c.args.m.now c.args.id.number c.args.text.now d c.value_in-asked.ensures.sound c.in_ok-d.ensures c.answered.result
    (c.answered.ensures (λ p. demands p t d) (value_of t d) c.value_in-asked.ensures.read)

pub returns-clause-not_json : goal.returns-clause-not_json
returns-clause-not_json c =
    let t = named c.args.m.now c.args.id.number in
    let d = json c.in_ok-d.d in
    text_json c.args.m.now c.args.id.number c.args.text.now d c.value_in-asked.ensures.sound c.in_ok-d.ensures c.answered.result
    (c.answered.ensures (λ p. demands p t d) (value_of t d) c.value_in-asked.ensures.read)

pub returns-clause-fault : goal.returns-clause-fault
returns-clause-fault c =
    let t = named c.args.m.now c.args.id.number in
    let d = json c.in_ok-d.d in
    text_fault c.args.m.now c.args.id.number c.args.text.now d c.value_in-asked.ensures.sound c.in_ok-d.ensures c.answered.result
    (c.answered.ensures (λ p. demands p t d) (value_of t d) c.value_in-asked.ensures.read)

use Rattle.std.proofs.Common.{◌≡◌, Err, suc, ◌-◌, sym, ap, subst, ◌∙◌, arith}
use Rattle.std.proofs.lemmas.Result.{err_from_is_err_and}
use Rattle.aper_defs.specs.Reading.{run}
use Rattle.aper_values.specs.types.Types.{tree}
use Rattle.aper_frames.specs.Frames.{elements_left, element_after}
use Rattle.aper_frames.specs.Weights.{outcome_weight, elements_weight}
use Rattle.aper_frames.proofs.aper_elements.ContainerLemmas.{asked_row}
use Rattle.aper_decode.specs.Elements.{IsBodyOf, ReadsContainer}
use Rattle.aper_decode.proofs.ContainerSteps.{elements_last, head_wrong, head_taken, body_read, body_refused, element_kept, element_weighs, known_inside}
use Rattle.aper_decode.proofs.container.read_elements.Goals as goal

pub returns-in_err-head-clause-asked : goal.returns-in_err-head-clause-asked
returns-in_err-head-clause-asked c =
    let p = err_from_is_err_and c.from_residual.result c.from_residual.ensures.1 in
    let l = c.loop-others in
    let some : l.others.left ≡ suc (l.others.left - 1) = omega arith in
    rw (p.1, p.2) (λ q K.
    l.invariant.same q K
    ∙ head_wrong (tree c.args.m.now) l.others q K (l.others.left - 1) some l.cursor c.ask_element_head.new.cursor
    c.in_err-head.field-0.0 (c.in_err-head.ensures {u = tt}).asked)

pub body_of-requires : goal.body_of-requires
body_of-requires c =
    let l = c.loop-others in
    let some : l.others.left ≡ suc (l.others.left - 1) = omega arith in
    known_inside c.args.m.now (λ w. elements_weight w c.args.elements) c.row_type.result c.requires
    (λ w. omega (
      arith,
      element_weighs w l.others (l.others.left - 1) c.in_ok-head.head.id c.row_type.result some c.row_type.ensures,
      l.invariant.lighter w,
    ))

pub returns-in-Inside-clause-asked : goal.returns-in-Inside-clause-asked
returns-in-Inside-clause-asked c = λ p K.
    let l = c.loop-others in
    let of = tree c.args.m.now in
    let head = c.in_ok-head.head in
    let others = record l.others { left = l.others.left - 1; possible = c.rows_left-others.result } in
    let some : l.others.left ≡ suc (l.others.left - 1) = omega arith in
    l.invariant.same p K
    ∙ head_taken of l.others p K (l.others.left - 1) some l.cursor c.ask_element_head.new.cursor head c.row_type.result
    c.rows_left-others.result c.rows_left-others.ensures c.row_type.ensures (c.in_ok-head.ensures {u = tt}).asked
    ∙ ap (λ x. run (asked_row of p head.id (element_after of others head.id head.criticality p K) x) c.ask_element_head.new.cursor)
    (subst (IsBodyOf of c.row_type.result) c.in-Inside.is c.body_of.ensures.same)

pub returns-in-Inside-clause-lighter : goal.returns-in-Inside-clause-lighter
returns-in-Inside-clause-lighter c = λ w.
    let l = c.loop-others in
    let of = tree c.args.m.now in
    let some : l.others.left ≡ suc (l.others.left - 1) = omega arith in
    omega (
      arith,
      element_weighs w l.others (l.others.left - 1) c.in_ok-head.head.id c.row_type.result some c.row_type.ensures,
      ap (outcome_weight w) (subst (IsBodyOf of c.row_type.result) c.in-Inside.is c.body_of.ensures.same),
      l.invariant.lighter w,
    )

pub loop-others-preserved : goal.loop-others-preserved
loop-others-preserved c =
    let l = c.loop-others in
    let of = tree c.args.m.now in
    let head = c.in_ok-head.head in
    let others = record l.others { left = l.others.left - 1; possible = c.rows_left-others.result } in
    let some : l.others.left ≡ suc (l.others.left - 1) = omega arith in
    let element = c.in_default.ensures {u = tt} of in
    record {
      same = λ p K.
          l.invariant.same p K
          ∙ head_taken of l.others p K (l.others.left - 1) some l.cursor c.ask_element_head.new.cursor head c.row_type.result
          c.rows_left-others.result c.rows_left-others.ensures c.row_type.ensures (c.in_ok-head.ensures {u = tt}).asked
          ∙ body_read of p head.id (element_after of others head.id head.criticality p K) c.row_type.result c.ask_element_head.new.cursor
          c.put_body.new.cursor c.in-Whole.form element.value
          (subst (IsBodyOf of c.row_type.result) c.in-Whole.is c.body_of.ensures.same) element.read
          ∙ element_kept of others c.put_body.new.made.items (record { id = head.id; criticality = head.criticality; body = element.value })
          p K c.put_body.new.cursor element.put;
      lighter = λ w. omega (
        arith,
        element_weighs w l.others (l.others.left - 1) head.id c.row_type.result some c.row_type.ensures,
        l.invariant.lighter w,
      );
    }

pub returns-in-Err-clause-asked : goal.returns-in-Err-clause-asked
returns-in-Err-clause-asked c =
    let l = c.loop-others in
    let of = tree c.args.m.now in
    let head = c.in_ok-head.head in
    let some : l.others.left ≡ suc (l.others.left - 1) = omega arith in
    let others = record l.others { left = l.others.left - 1; possible = c.rows_left-others.result } in
    subst (λ halt. ReadsContainer (elements_left of c.args.elements) of c.args.cursor.now c.put_body.new.cursor (Err halt)) (sym c.refuse.ensures)
    (body_refused of (elements_left of c.args.elements) head others (record others { made = c.put_body.new.made }) c.row_type.result c.in-Whole.form
    c.args.cursor.now c.ask_element_head.new.cursor c.put_body.new.cursor
    (λ p K.
    l.invariant.same p K
    ∙ head_taken of l.others p K (l.others.left - 1) some l.cursor c.ask_element_head.new.cursor head c.row_type.result
    c.rows_left-others.result c.rows_left-others.ensures c.row_type.ensures (c.in_ok-head.ensures {u = tt}).asked)
    (subst (IsBodyOf of c.row_type.result) c.in-Whole.is c.body_of.ensures.same) c.in-Err.error (c.in-Err.ensures of))

pub returns-clause-asked : goal.returns-clause-asked
returns-clause-asked c = λ p K.
    let l = c.loop-others in
    l.invariant.same p K ∙ elements_last (tree c.args.m.now) l.others p K l.cursor c.elements.result (omega arith) c.elements.ensures

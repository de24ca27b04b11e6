use Rattle.std.proofs.Common.{refl}
use Rattle.std.proofs.lemmas.Result.{err_from_is_err_and}
use Rattle.aper_values.specs.types.Types.{tree}
use Rattle.aper_frames.specs.declared.frame.Elements.{Elements}
use Rattle.aper_frames.specs.Frames.{elements_left}
use Rattle.aper_frames.specs.Weights.{container_weight}
use Rattle.aper_frames.proofs.aper_elements.Weighing.{container_weighs}
use Rattle.aper_decode.proofs.InPlace.{module_less}
use Rattle.aper_decode.proofs.ContainerSteps.{asked_container, count_wrong, elements_begun, reads_after, leaves_less}
use Rattle.aper_decode.proofs.container.read_container.Goals as goal

pub returns-in_err-left-clause-asked : goal.returns-in_err-left-clause-asked
returns-in_err-left-clause-asked c =
    let p = err_from_is_err_and c.from_residual.result c.from_residual.ensures.1 in
    rw (p.1, p.2) (
    count_wrong (tree c.args.m.now) c.args.rows.now c.args.cursor.now c.ask_element_count.new.cursor c.in_err-left.field-0.0
    (c.in_err-left.ensures {u = tt}).asked)

pub read_elements-requires : goal.read_elements-requires
read_elements-requires c =
    module_less c.args.m.now (λ w. container_weight w 65535 c.args.rows.now) (λ w. container_weight w c.in_ok-left.left c.args.rows.now) c.requires
    (λ w. container_weighs w c.in_ok-left.left c.args.rows.now (c.in_ok-left.ensures {u = tt}).most)

pub returns-clause-asked : goal.returns-clause-asked
returns-clause-asked c =
    let of = tree c.args.m.now in
    let old = c.args.cursor.now in
    let mid = c.ask_element_count.new.cursor in
    let first : Elements = record { rows = c.args.rows; possible = c.args.rows; left = c.in_ok-left.left; made = c.new.result } in
    reads_after of (asked_container of c.args.rows.now old mid) (elements_left of first) old mid c.read_elements.new.cursor c.read_elements.result
    (λ p K. elements_begun of c.args.rows.now old mid first p K refl refl c.new.ensures.items (c.in_ok-left.ensures {u = tt}).asked)
    c.read_elements.ensures.asked

pub returns-clause-lighter : goal.returns-clause-lighter
returns-clause-lighter c =
    leaves_less (λ w. container_weight w c.in_ok-left.left c.args.rows.now) (λ w. container_weight w 65535 c.args.rows.now) c.read_elements.result
    (λ w. container_weighs w c.in_ok-left.left c.args.rows.now (c.in_ok-left.ensures {u = tt}).most) c.read_elements.ensures.lighter

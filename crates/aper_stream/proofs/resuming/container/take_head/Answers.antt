use Rattle.std.proofs.Common.{suc, ◌≤◌, refl, ap, subst, ◌∙◌, arith}
use Rattle.aper_cursor.specs.Questions.{slots_of}
use Rattle.aper_cursor.specs.asking.Going.{GoesOn}
use Rattle.aper_frames.specs.heads.Heads.{ask_element_head}
use Rattle.aper_frames.specs.Frames.{path_of, next_of}
use Rattle.aper_frames.specs.Weights.{rows_weight, outcome_weight}
use Rattle.aper_frames.proofs.aper_elements.ContainerLemmas.{elements_some, after_element_head, element_next}
use Rattle.aper_frames.proofs.aper_elements.Weighing.{row_weighs}
use Rattle.aper_stream.specs.declared.resuming.pending.Pending.TheVariants as pendings
use Rattle.aper_stream.proofs.resuming.Leading.{turn_on, turn_wrong}
use Rattle.aper_stream.proofs.resuming.Heads.{told_element}
use Rattle.aper_stream.proofs.resuming.container.take_head.Goals as goal

pub returns-in-Err-clause-asked : goal.returns-in-Err-clause-asked
returns-in-Err-clause-asked c =
    let fs = c.args.frames.now in
    let e = record c.args.elements { left = suc c.args.elements.left } in
    let left = c.args.elements.left in
    turn_wrong (λ p. ask_element_head p (slots_of e.rows.now) (slots_of e.possible.now) left) (pendings.Head c.args.elements)
    (λ of. after_element_head of (path_of fs) (next_of of fs) e left) fs
    (λ of. elements_some of (path_of fs) (next_of of fs) e left refl) c.args.cursor.now c.ask_element_head.new.cursor c.in-Err.reason
    (subst (GoesOn (λ p. ask_element_head p (slots_of e.rows.now) (slots_of e.possible.now) left) c.args.cursor.now
    c.ask_element_head.new.cursor)
    c.in-Err.is c.ask_element_head.ensures.asked)

pub returns-in-Ok-clause-asked : goal.returns-in-Ok-clause-asked
returns-in-Ok-clause-asked c =
    let fs = c.args.frames.now in
    let e = record c.args.elements { left = suc c.args.elements.left } in
    let left = c.args.elements.left in
    let others = record c.args.elements { possible = c.rows_left-others.result } in
    turn_on (λ p. ask_element_head p (slots_of e.rows.now) (slots_of e.possible.now) left) (pendings.Head c.args.elements)
    (λ of. after_element_head of (path_of fs) (next_of of fs) e left) fs
    (λ of. elements_some of (path_of fs) (next_of of fs) e left refl) c.args.cursor.now c.ask_element_head.new.cursor
    (told_element (slots_of e.rows.now) (slots_of e.possible.now) left) c.in-Ok.head c.contents.result fs
    (subst (GoesOn (λ p. ask_element_head p (slots_of e.rows.now) (slots_of e.possible.now) left) c.args.cursor.now
    c.ask_element_head.new.cursor)
    c.in-Ok.is c.ask_element_head.ensures.asked)
    (λ of. element_next of e others c.in-Ok.head c.row_type-known.result fs refl refl c.rows_left-others.ensures c.row_type-known.ensures
    ∙ c.contents.ensures.asked fs of)

pub returns-in-Ok-clause-lighter : goal.returns-in-Ok-clause-lighter
returns-in-Ok-clause-lighter c = λ w.
    let e = c.args.elements in
    let known : outcome_weight w c.row_type-known.result ≤ rows_weight w e.rows.now =
    omega (arith, ap (outcome_weight w) c.row_type-known.ensures, row_weighs w c.in-Ok.head.id e.rows.now) in
    omega (arith, known, c.contents.ensures.lighter w)

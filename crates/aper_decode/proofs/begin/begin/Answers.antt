use Rattle.std.proofs.Common.{sym, ap, subst}
use Rattle.std.proofs.lemmas.Result.{err_from_is_err_and}
use Rattle.aper_defs.specs.Asking.{asks}
use Rattle.aper_defs.specs.Reading.{run}
use Rattle.aper_values.specs.declared.types.form.Form.TheVariants as forms
use Rattle.aper_values.specs.types.Types.{tree}
use Rattle.aper_values.specs.types.Forms.{form_tree}
use Rattle.aper_frames.specs.Frames.{path_of, next_of}
use Rattle.aper_decode.specs.Forms.{form_weight}
use Rattle.aper_decode.specs.InModule.{IsOfModule, StepsIn}
use Rattle.aper_decode.proofs.InPlace.{steps_in, read_refused}
use Rattle.aper_decode.proofs.begin.begin.Goals as goal

-- ---- what holds no others
pub returns-in_err-read_form-clause-asked : goal.returns-in_err-read_form-clause-asked
returns-in_err-read_form-clause-asked c =
    let p = err_from_is_err_and c.from_residual.result c.from_residual.ensures.1 in
    let of = tree c.args.m.now in
    rw (p.1, p.2) (
    read_refused c.in_err-read_form.field-0.0 of (form_tree of c.args.form) c.args.frames.now c.args.cursor.now c.read_form.new.cursor
    (c.in_err-read_form.ensures {u = tt} of))

-- ---- what holds others
pub begin_sequence-requires : goal.begin_sequence-requires
begin_sequence-requires c = subst (λ f. IsOfModule c.args.m.now (λ w. form_weight w f)) c.in-Sequence.is c.requires.inside

pub begin_list-requires-clause-inside : goal.begin_list-requires-clause-inside
begin_list-requires-clause-inside c = subst (λ f. IsOfModule c.args.m.now (λ w. form_weight w f)) c.in-SequenceOf.is c.requires.inside

pub begin_container-requires : goal.begin_container-requires
begin_container-requires c = subst (λ f. IsOfModule c.args.m.now (λ w. form_weight w f)) c.in-Container.is c.requires.inside

pub returns-in-Sequence-clause-asked : goal.returns-in-Sequence-clause-asked
returns-in-Sequence-clause-asked c =
    let fs = c.args.frames.now in
    let of = tree c.args.m.now in
    subst (λ f. StepsIn of (asks (path_of fs) (form_tree of f) (next_of of fs)) c.args.cursor.now c.begin_sequence.new.cursor
    c.begin_sequence.new.frames c.begin_sequence.result) (sym c.in-Sequence.is) c.begin_sequence.ensures.asked

pub returns-in-SequenceOf-clause-asked : goal.returns-in-SequenceOf-clause-asked
returns-in-SequenceOf-clause-asked c =
    let fs = c.args.frames.now in
    let of = tree c.args.m.now in
    subst (λ f. StepsIn of (asks (path_of fs) (form_tree of f) (next_of of fs)) c.args.cursor.now c.begin_list.new.cursor
    c.begin_list.new.frames c.begin_list.result) (sym c.in-SequenceOf.is) c.begin_list.ensures.asked

pub returns-in-Choice-clause-asked : goal.returns-in-Choice-clause-asked
returns-in-Choice-clause-asked c =
    let fs = c.args.frames.now in
    let of = tree c.args.m.now in
    steps_in c.begin_choice.result of (λ types. asks (path_of fs) (form_tree types (forms.Choice c.in-Choice.members)) (next_of types fs))
    (asks (path_of fs) (form_tree of c.args.form) (next_of of fs)) c.args.cursor.now c.args.cursor.now c.begin_choice.new.cursor
    c.begin_choice.new.frames (ap (λ f. run (asks (path_of fs) (form_tree of f) (next_of of fs)) c.args.cursor.now) c.in-Choice.is)
    c.begin_choice.ensures.asked

pub returns-in-Container-clause-asked : goal.returns-in-Container-clause-asked
returns-in-Container-clause-asked c =
    let fs = c.args.frames.now in
    let of = tree c.args.m.now in
    subst (λ f. StepsIn of (asks (path_of fs) (form_tree of f) (next_of of fs)) c.args.cursor.now c.begin_container.new.cursor
    c.begin_container.new.frames c.begin_container.result) (sym c.in-Container.is) c.begin_container.ensures.asked

pub returns-in-Pdu-clause-asked : goal.returns-in-Pdu-clause-asked
returns-in-Pdu-clause-asked c =
    let fs = c.args.frames.now in
    let of = tree c.args.m.now in
    steps_in c.begin_message.result of (λ types. asks (path_of fs) (form_tree types (forms.Pdu c.in-Pdu.rows)) (next_of types fs))
    (asks (path_of fs) (form_tree of c.args.form) (next_of of fs)) c.args.cursor.now c.args.cursor.now c.begin_message.new.cursor
    c.begin_message.new.frames (ap (λ f. run (asks (path_of fs) (form_tree of f) (next_of of fs)) c.args.cursor.now) c.in-Pdu.is)
    c.begin_message.ensures.asked

use Rattle.std.proofs.Common.{Err, refl}
use Rattle.std.proofs.lemmas.Result.{err_from_is_err_and}
use Rattle.aper_values.specs.types.Types.{tree}
use Rattle.aper_frames.specs.declared.frame.Components.{Components}
use Rattle.aper_frames.specs.Frames.{components_left, path_of, next_of}
use Rattle.aper_decode.proofs.InPlace.{steps_in, in_after}
use Rattle.aper_decode.proofs.SequenceSteps.{asked_sequence, extension_wrong, flags_refused, sequence_begun}
use Rattle.aper_decode.proofs.sequence.begin_components.Goals as goal

pub returns-in_err-extended-clause-asked : goal.returns-in_err-extended-clause-asked
returns-in_err-extended-clause-asked c =
    let p = err_from_is_err_and c.from_residual.result c.from_residual.ensures.1 in
    rw (p.1, p.2) (
    extension_wrong c.args.extensible c.args.root.now c.args.additions.now c.args.frames.now c.args.cursor.now c.ask_extension.new.cursor
    c.in_err-extended.field-0.0 (c.in_err-extended.ensures {u = tt}) (tree c.args.m.now))

pub returns-in_err-there-clause-asked : goal.returns-in_err-there-clause-asked
returns-in_err-there-clause-asked c =
    let p = err_from_is_err_and c.from_residual-in_err-there.result c.from_residual-in_err-there.ensures.1 in
    let asked = asked_sequence c.args.extensible c.args.root.now c.args.additions.now c.args.frames.now c.args.cursor.now c.ask_extension.new.cursor in
    rw (p.1, p.2) (
    steps_in (Err c.in_err-there.field-0.0) (tree c.args.m.now) asked (asked (tree c.args.m.now)) c.args.cursor.now c.args.cursor.now
    c.ask_flags.new.cursor c.args.frames.now refl
    (flags_refused c.args.extensible c.args.root.now c.args.additions.now c.args.frames.now c.args.cursor.now c.ask_extension.new.cursor
    c.in_ok-extended.extended (c.in_ok-extended.ensures {u = tt}) c.ask_flags.new.cursor
    c.in_err-there.field-0.0 (c.in_err-there.ensures {u = tt}).asked))

pub returns-clause-asked : goal.returns-clause-asked
returns-clause-asked c =
    let of = tree c.args.m.now in
    let fs = c.args.frames.now in
    let first : Components = record { left = c.args.root; there = c.new.result; made = c.in_ok-made.made; additions = c.args.additions; extended = c.in_ok-extended.extended } in
    in_after c.read_components.result of
    (asked_sequence c.args.extensible c.args.root.now c.args.additions.now fs c.args.cursor.now c.ask_extension.new.cursor of)
    (components_left of first (path_of fs) (next_of of fs))
    c.args.cursor.now c.ask_flags.new.cursor c.read_components.new.cursor c.read_components.new.frames
    (sequence_begun c.args.extensible c.args.root.now c.args.additions.now fs c.args.cursor.now c.ask_extension.new.cursor
    c.in_ok-extended.extended (c.in_ok-extended.ensures {u = tt}) c.ask_flags.new.cursor of c.in_ok-there.there first
    refl refl refl c.new.ensures (c.in_ok-made.ensures {u = tt}).items ((c.in_ok-there.ensures {u = tt}).asked of))
    c.read_components.ensures.asked

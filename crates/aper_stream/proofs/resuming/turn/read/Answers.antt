use Rattle.std.proofs.Common.{◌+◌, ◌*◌, Err, sym, subst, arith}
use Rattle.aper_defs.specs.Bounds.{IsBounded}
use Rattle.aper_defs.specs.Asking.{asks}
use Rattle.aper_values.specs.types.Types.{tree}
use Rattle.aper_values.specs.types.Forms.{form_tree}
use Rattle.aper_frames.specs.Frames.{path_of, next_of}
use Rattle.aper_frames.specs.Weights.{frames_weight}
use Rattle.aper_decode.specs.Forms.{form_weight}
use Rattle.aper_decode.specs.Heavy.{weighed}
use Rattle.aper_decode.proofs.FormBounds.{form_bounded}
use Rattle.aper_decode.proofs.HeavyLemmas.{form_weighed}
use Rattle.aper_stream.specs.declared.resuming.pending.Pending.TheVariants as pendings
use Rattle.aper_stream.specs.declared.resuming.pending.Stopped.{Stopped}
use Rattle.aper_stream.specs.resuming.Turns.{Resumes, Keeps, TurnsBy}
use Rattle.aper_stream.specs.resuming.Weights.{Lightens}
use Rattle.aper_stream.proofs.resuming.Beginnings.{read_on, read_refused}
use Rattle.aper_stream.proofs.resuming.turn.read.Goals as goal

pub begin-requires : goal.begin-requires
begin-requires c =
    form_bounded (tree c.args.m.now) c.form_of.result (subst IsBounded c.form_of.ensures.tree c.form_of.ensures.bounded)

pub returns-in-Ok-clause-asked : goal.returns-in-Ok-clause-asked
returns-in-Ok-clause-asked c =
    let fs = c.args.frames.now in
    read_on c.args.m.now c.args.id c.form_of.result c.form_of.ensures.tree fs c.begin.new.frames c.args.cursor.now c.begin.new.cursor
    c.in-Ok.pending
    (subst (Resumes (λ of. asks (path_of fs) (form_tree of c.form_of.result) (next_of of fs)) c.args.cursor.now c.begin.new.cursor
    c.begin.new.frames)
    c.in-Ok.is c.begin.ensures.asked)

pub returns-in-Ok-clause-lighter : goal.returns-in-Ok-clause-lighter
returns-in-Ok-clause-lighter c = λ other.
    let fs = c.args.frames.now in
    let less = subst (Lightens (λ w. 2 * (form_weight w c.form_of.result + frames_weight w fs)) c.begin.new.frames) c.in-Ok.is
    c.begin.ensures.lighter in
    omega (
      arith,
      less (weighed c.args.m.now other),
      form_weighed c.args.m.now other c.args.id.number c.form_of.result c.requires c.form_of.ensures.tree c.form_of.ensures.inside,
    )

pub returns-in-Err-clause-asked : goal.returns-in-Err-clause-asked
returns-in-Err-clause-asked c =
    let fs = c.args.frames.now in
    let old = c.args.cursor.now in
    let new = c.begin.new.cursor in
    let e = c.in-Err.error in
    subst (λ (s : Stopped). TurnsBy (tree c.args.m.now) (pendings.Read c.args.id) old new fs c.begin.new.frames (Err s))
    (sym c.handed_back.ensures)
    (read_refused c.args.m.now c.args.id c.form_of.result c.form_of.ensures.tree fs c.begin.new.frames old new e
    (subst (Resumes (λ of. asks (path_of fs) (form_tree of c.form_of.result) (next_of of fs)) old new c.begin.new.frames) c.in-Err.is
    c.begin.ensures.asked)
    (subst (Keeps fs c.begin.new.frames) c.in-Err.is c.begin.ensures.kept))

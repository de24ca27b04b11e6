use Rattle.std.proofs.Common.{◌≡◌, suc, ◌-◌, ap, subst, arith}
use Rattle.aper_defs.specs.Bounds.{IsBounded}
use Rattle.aper_defs.specs.Reading.{run}
use Rattle.aper_values.specs.types.Types.{tree}
use Rattle.aper_frames.specs.Frames.{path_of, next_of}
use Rattle.aper_frames.specs.Weights.{members_weight}
use Rattle.aper_decode.proofs.FormBounds.{form_bounded}
use Rattle.aper_decode.proofs.ListLemmas.{members_last}
use Rattle.aper_decode.proofs.InPlace.{type_inside, members_step}
use Rattle.aper_decode.proofs.list.read_members.Goals as goal

pub form_of-form-requires : goal.form_of-form-requires
form_of-form-requires c =
    let m = c.args.members in
    let count : m.left ≡ suc (m.left - 1) = omega arith in
    type_inside c.args.m.now (λ w. members_weight w m) m.element.number c.requires (λ w. omega (arith, members_step w m (m.left - 1) count))

pub read_all-requires-clause-bounded : goal.read_all-requires-clause-bounded
read_all-requires-clause-bounded c =
    form_bounded (tree c.args.m.now) c.form_of-form.result (subst IsBounded c.form_of-form.ensures.tree c.form_of-form.ensures.bounded)

pub returns-then-members-eq0-clause-asked : goal.returns-then-members-eq0-clause-asked
returns-then-members-eq0-clause-asked c =
    let fs = c.args.frames.now in
    let of = tree c.args.m.now in
    ap (λ P. run P c.args.cursor.now)
    (members_last of c.args.members (path_of fs) (next_of of fs) c.listed.result c.if-members-eq0.true c.listed.ensures)

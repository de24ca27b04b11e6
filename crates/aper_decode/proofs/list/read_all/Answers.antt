use Rattle.std.proofs.Common.{◌≡◌, Ok, suc, ◌-◌, [], ◌∷◌, ◌++◌, ap, ◌∙◌, arith}
use Rattle.aper_defs.specs.Reading.{run}
use Rattle.aper_values.specs.types.Forms.{form_tree}
use Rattle.aper_decode.proofs.ListLemmas.{members_last}
use Rattle.aper_decode.proofs.InPlace.{reads_as, member_read, member_refused}
use Rattle.aper_decode.proofs.list.read_all.Goals as goal

pub loop-others-preserved : goal.loop-others-preserved
loop-others-preserved c =
    let l = c.loop-others in
    let m = l.others in
    let count : m.left ≡ suc (m.left - 1) = omega arith in
    record {
      same = λ of p K is.
          let put = c.in_default.ensures {u = tt} of in
          l.invariant.same of p K is
          ∙ member_read of m (m.left - 1) count p K put.value c.put_part.new.made.items l.cursor c.put_part.new.cursor
          (reads_as (Ok put.value) (of m.element.number) (form_tree of c.args.form) l.cursor c.put_part.new.cursor
          (ap (λ t. of t.number) l.invariant.element ∙ is) put.read)
          (put.put ∙ ap (λ v. m.made.items ++ v ∷ []) put.kept_as);
      element = l.invariant.element;
    }

pub returns-in-Err : goal.returns-in-Err
returns-in-Err c = λ of is.
    let l = c.loop-others in
    let m = l.others in
    let count : m.left ≡ suc (m.left - 1) = omega arith in
    member_refused of m (m.left - 1) count c.args.members (record { element = m.element; left = m.left - 1; made = c.put_part.new.made })
    c.args.form (λ x y. y ≡ x) c.in-Err.error c.args.cursor.now l.cursor c.put_part.new.cursor (λ p K. l.invariant.same of p K is)
    (ap (λ t. of t.number) l.invariant.element ∙ is) (c.in-Err.ensures of)

pub returns : goal.returns
returns c = λ of is p K.
    let l = c.loop-others in
    let none : l.others.left ≡ 0 = omega arith in
    l.invariant.same of p K is ∙ ap (λ P. run P l.cursor) (members_last of l.others p K c.listed.result none c.listed.ensures)

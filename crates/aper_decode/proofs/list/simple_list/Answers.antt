use Rattle.std.proofs.Common.{sym, subst, ◌∙◌}
use Rattle.aper_defs.specs.Bounds.{IsBounded}
use Rattle.aper_values.specs.types.Types.{tree}
use Rattle.aper_decode.specs.Forms.{IsFormBounded}
use Rattle.aper_decode.proofs.FormBounds.{form_bounded}
use Rattle.aper_decode.proofs.ListLemmas.{members_hold, no_list}
use Rattle.aper_decode.proofs.list.simple_list.Goals as goal

pub returns-then-is_simple : goal.returns-then-is_simple
returns-then-is_simple c = record {
  is = c.in-SequenceOf.is;
  size = subst IsFormBounded c.in-SequenceOf.is c.requires.bounded;
  member = c.form_of-form.ensures.tree;
  bounded = form_bounded (tree c.args.m.now) c.form_of-form.result (subst IsBounded c.form_of-form.ensures.tree c.form_of-form.ensures.bounded);
  simple = sym c.is_simple.ensures ∙ c.if-is_simple.true;
}

pub returns-else-is_simple : goal.returns-else-is_simple
returns-else-is_simple c =
    members_hold (tree c.args.m.now) c.args.form c.form_of-form.result c.in-SequenceOf.size c.in-SequenceOf.element c.in-SequenceOf.is
    c.form_of-form.ensures.tree (sym c.is_simple.ensures ∙ c.if-is_simple.false)

pub returns-in_default : goal.returns-in_default
returns-in_default c = no_list (tree c.args.m.now) c.args.form c.in_default.not-SequenceOf

use Rattle.std.proofs.Common.{◌≡◌, false, drop}
use Rattle.bits_core.specs.Writing.{Written}
use Rattle.aper_values.specs.types.Types.{tree, parts_of, rows_of}
use Rattle.aper_values.specs.Views.{values_view, options_view, ies_view}
use Rattle.aper_fields.specs.members.Membership.{AreComponents, AreNamed, AreMembers, AreBodies}
use Rattle.aper_fields.specs.members.Followed.{ComponentsFollow, AdditionsFollow, MembersFollow, ElementsFollow}
use Rattle.aper.proofs.encoding.values.+put.Given as goal

abbrev pub invariant-put_components-loop-i : goal.invariant-put_components-loop-i
invariant-put_components-loop-i l = record {
  going : l.out.failed ≡ false;
  member : AreComponents (parts_of (tree l.m) (drop l.i l.parts)) (options_view (drop l.i l.values));
  follows : (new : Written) → ComponentsFollow (tree l.m) l.out new (drop l.i l.parts) (drop l.i l.values)
      → ComponentsFollow (tree l.m) l.fn.out new l.parts l.values;
}

abbrev pub invariant-put_additions-loop-i : goal.invariant-put_additions-loop-i
invariant-put_additions-loop-i l = record {
  going : l.out.failed ≡ false;
  member : AreNamed (parts_of (tree l.m) (drop l.i l.parts)) (options_view (drop l.i l.values));
  follows : (new : Written) → AdditionsFollow (tree l.m) l.out new (drop l.i l.parts) (drop l.i l.values)
      → AdditionsFollow (tree l.m) l.fn.out new l.parts l.values;
}

abbrev pub invariant-put_list-loop-member : goal.invariant-put_list-loop-member
invariant-put_list-loop-member l = record {
  going : l.out.failed ≡ false;
  members : AreMembers (tree l.m l.element.number) (values_view (drop l.member-index l.member-items));
  follows : (new : Written) → MembersFollow (tree l.m l.element.number) l.out new (drop l.member-index l.member-items)
      → MembersFollow (tree l.m l.element.number) l.initial.out new l.member-items;
}

abbrev pub invariant-put_container-loop-ie : goal.invariant-put_container-loop-ie
invariant-put_container-loop-ie l = record {
  going : l.out.failed ≡ false;
  bodies : AreBodies (rows_of (tree l.m) l.rows) (ies_view (drop l.ie-index l.ie-items));
  follows : (new : Written) → ElementsFollow (tree l.m) l.rows l.out new (drop l.ie-index l.ie-items)
      → ElementsFollow (tree l.m) l.rows l.initial.out new l.ie-items;
}

use Rattle.std.proofs.Common.{drop, length}
use Rattle.asn1_syntax.specs.types.Members.{additions_of}
use Rattle.aper_values.specs.Views.{values_view, options_view, ies_view}
use Rattle.json_defs.specs.shown_defs.Printed.{shown_as, items_shown, elements_shown, added_shown, row_shown}
use Rattle.json_defs.specs.type_defs.Types.{named, parts_with, rows_with}
use Rattle.values_json.specs.order.Listed.{listed, by_name, AreWithin}
use Rattle.values_json.specs.printing.Inside.{place_shown}
use Rattle.values_json.proofs.printing.Written.{LeavesItems, LeavesMembers}
use Rattle.values_json.proofs.printing.values.+write.Given as goal

abbrev pub invariant-write_additions-loop-i : goal.invariant-write_additions-loop-i
invariant-write_additions-loop-i l =
    LeavesItems l.initial.out (added_shown (parts_with (named l.m) l.parts) (options_view l.values)) l.out
    (added_shown (parts_with (named l.m) (drop l.i l.parts)) (options_view (drop l.i l.values)))

abbrev pub invariant-write_components-loop-i : goal.invariant-write_components-loop-i
invariant-write_components-loop-i l =
    LeavesMembers l.initial.out (listed (parts_with (named l.m) l.parts) (options_view l.values)) l.out
    (listed (parts_with (named l.m) (drop l.i l.parts)) (options_view (drop l.i l.values)))

abbrev pub invariant-write_container-loop-ie : goal.invariant-write_container-loop-ie
invariant-write_container-loop-ie l =
    LeavesItems l.initial.out (elements_shown (λ id v. row_shown (rows_with (named l.m) l.rows) id v) (ies_view l.ie-items)) l.out
    (elements_shown (λ id v. row_shown (rows_with (named l.m) l.rows) id v) (ies_view (drop l.ie-index l.ie-items)))

abbrev pub invariant-write_list-loop-member : goal.invariant-write_list-loop-member
invariant-write_list-loop-member l =
    LeavesItems l.initial.out (items_shown (λ v. shown_as (named l.m l.element.number) v) (values_view l.member-items)) l.out
    (items_shown (λ v. shown_as (named l.m l.element.number) v) (values_view (drop l.member-index l.member-items)))

abbrev pub invariant-write_by_name-loop-name : goal.invariant-write_by_name-loop-name
invariant-write_by_name-loop-name l =
    let of = named l.m in
    let ds = added_shown (parts_with of (additions_of l.members.additions)) (options_view l.additions.items) in
    let at = place_shown of l.members.root l.root.items in
    LeavesMembers l.initial.out (by_name at ds l.initial.name-iterator) l.out (by_name at ds l.name-iterator)
    × AreWithin (length l.root.items) l.name-iterator

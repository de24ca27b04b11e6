use Rattle.std.proofs.Common.{ℕ, drop, Option}
use Rattle.aper_values.specs.types.Types.{tree}
use Rattle.aper.specs.measuring.Measured.{ComponentsMeasured, AdditionsMeasured, MembersMeasured, ElementsMeasured}
use Rattle.aper.proofs.value_checks.values.+measure.Given as goal

abbrev pub invariant-components_end-loop-i : goal.invariant-components_end-loop-i
invariant-components_end-loop-i l = (r : Option ℕ) → ComponentsMeasured (tree l.m) (drop l.i l.parts) (drop l.i l.values) l.place r
    → ComponentsMeasured (tree l.m) l.parts l.values l.initial.place r

abbrev pub invariant-additions_end-loop-i : goal.invariant-additions_end-loop-i
invariant-additions_end-loop-i l = (r : Option ℕ) → AdditionsMeasured (tree l.m) (drop l.i l.parts) (drop l.i l.additions) l.place r
    → AdditionsMeasured (tree l.m) l.parts l.additions l.initial.place r

abbrev pub invariant-list_end-loop-member : goal.invariant-list_end-loop-member
invariant-list_end-loop-member l = (r : Option ℕ)
    → MembersMeasured (tree l.m l.element.number) (drop l.member-index l.member-items) l.place r
    → MembersMeasured (tree l.m l.element.number) l.member-items l.initial.place r

abbrev pub invariant-container_end-loop-ie : goal.invariant-container_end-loop-ie
invariant-container_end-loop-ie l = (r : Option ℕ) → ElementsMeasured (tree l.m) l.rows l.left (drop l.ie-index l.ie-items) l.place r
    → ElementsMeasured (tree l.m) l.rows l.initial.left l.ie-items l.initial.place r

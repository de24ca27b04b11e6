use Rattle.std.proofs.Common.{◌≡◌, ℕ, suc, ◌-◌, sym, ap, ◌∙◌, arith}
use Rattle.aper_frames.specs.Frames.{elements_left, path_of, next_of}
use Rattle.aper_frames.proofs.aper_elements.ContainerLemmas.{elements_none}
use Rattle.aper_stream.proofs.resuming.container.next_element.Goals as goal

pub returns-then-elements-eq0-clause-asked : goal.returns-then-elements-eq0-clause-asked
returns-then-elements-eq0-clause-asked c = λ fs of.
    elements_none of (path_of fs) (next_of of fs) c.args.elements c.if-elements-eq0.true ∙ ap (next_of of fs) (sym c.elements.ensures)

pub returns-clause-asked : goal.returns-clause-asked
returns-clause-asked c = λ fs of.
    let e = c.args.elements in
    let some : e.left ≡ suc (e.left - 1) = omega arith in
    ap (λ (n : ℕ). elements_left of (record e { left = n }) (path_of fs) (next_of of fs)) some

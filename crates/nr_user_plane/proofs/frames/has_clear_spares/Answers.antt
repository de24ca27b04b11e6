use Rattle.std.proofs.Common.{◌≡◌, ◌==◌, ◌&&◌, ◌∙◌, true, false, sym, ap, nat_eq, arith}
use Rattle.std.specs.Int.RustNames.{bit_and}
use Rattle.nr_user_plane.proofs.Spares.{spares_clear}
use Rattle.nr_user_plane.proofs.frames.has_clear_spares.Goals as goal

pub returns-then-first-eq0 : goal.returns-then-first-eq0
returns-then-first-eq0 c =
    let clear : nat_eq (bit_and c.args.first 10) 0 ≡ true = grind arith in
    sym (ap (λ b. b && (c.args.second == 0)) (sym (spares_clear c.args.first) ∙ clear))

pub returns-else-first-eq0 : goal.returns-else-first-eq0
returns-else-first-eq0 c =
    let set : nat_eq (bit_and c.args.first 10) 0 ≡ false = grind arith in
    set ∙ sym (ap (λ b. b && (c.args.second == 0)) (sym (spares_clear c.args.first) ∙ set))

use Rattle.std.proofs.Common.{◌≡◌, ◌==◌, length, false, sym, ◌∙◌, arith}
use Rattle.aper.proofs.measuring.HeadLemmas.{some_are_additions, additions_are}
use Rattle.aper.proofs.measuring.heads.are_additions.Goals as goal
use Rattle.aper.proofs.measuring.heads.are_additions.Goals.{then-not-extensible-via-then-not-extensible, then-not-extensible-via-else-not-extensible+then-additions-gt64}

pub returns-then-not-extensible : goal.returns-then-not-extensible
returns-then-not-extensible c =
    let some : (length c.args.additions.now == 0) ≡ false = sym c.is_empty.ensures ∙ c.if-is_empty.false in (
      λ t. absurd (let both : ⊥ = cc in both),
      λ h. let all = additions_are c.args.extensible c.args.additions.now some h in
          elim c.then-not-extensible.branch [
            | then-not-extensible-via-then-not-extensible w ↦ sym w.if-not-extensible.true ∙ all.0
            | then-not-extensible-via-else-not-extensible+then-additions-gt64 w ↦ absurd (omega (arith, all.1, w.if-additions-gt64.true))
          ],
    )

pub returns : goal.returns
returns c =
    let some : (length c.args.additions.now == 0) ≡ false = sym c.is_empty.ensures ∙ c.if-is_empty.false in (
      λ t. some_are_additions c.args.extensible c.args.additions.now c.if-not-extensible.false c.if-additions-gt64.false
          (sym c.is_some_there.ensures ∙ t),
      λ h. c.is_some_there.ensures ∙ (additions_are c.args.extensible c.args.additions.now some h).2,
    )

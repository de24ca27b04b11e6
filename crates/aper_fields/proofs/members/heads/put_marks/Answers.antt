use Rattle.std.proofs.Common.{ℕ, ◌∷◌, [], length, sym, subst, ◌∙◌}
use Rattle.aper_defs.specs.Fields.{asked, addition_bits}
use Rattle.aper_fields.specs.Following.{Follows}
use Rattle.aper_fields.proofs.members.HeadLemmas.{marks_follow}
use Rattle.aper_fields.proofs.members.heads.put_marks.Goals as goal

pub returns-clause-follows : goal.returns-clause-follows
returns-clause-follows c =
    marks_follow c.args.out.now c.put_small.new.out c.put_addition_bits.new.out c.args.additions.now
    (sym c.is_empty.ensures ∙ c.if-is_empty.false)
    c.in_ok-put_small.ensures.follows
    (subst (λ (n : ℕ). Follows c.put_small.new.out c.put_addition_bits.new.out
    (λ p. asked p (addition_bits (length c.args.additions.now)) n ∷ [])) c.marks.ensures.value c.in_ok-put_addition_bits.ensures.follows)

use Rattle.std.proofs.Common.{ℕ, List, map, Some, Bor, sym, ap, ◌∙◌}
use Rattle.asn1_defs.specs.Targets.{type_ids}
use Rattle.profile.specs.profile_module.inside.Same.{is_among}
use Rattle.profile.proofs.profile_module.Turns.{new_here, new_later}
use Rattle.profile.proofs.profile_module.types.first_new.Goals as goal

pub loop-i-preserved : goal.loop-i-preserved
loop-i-preserved c =
    let names = map (λ (name : Bor (List ℕ)). name.now) c.args.names.now in
    let all = c.args.module.now.assignments in
    let known = ap (λ (n : List ℕ). is_among n names) (sym c.type_name-name.ensures) ∙ sym c.is_among.ensures ∙ c.if-not-is_among.false in
    sym (new_later names all (type_ids all) c.loop-i.i c.at.result c.at.ensures.id known) ∙ c.loop-i.invariant

pub returns-then-not-is_among : goal.returns-then-not-is_among
returns-then-not-is_among c =
    let names = map (λ (name : Bor (List ℕ)). name.now) c.args.names.now in
    let all = c.args.module.now.assignments in
    let new = ap (λ (n : List ℕ). is_among n names) (sym c.type_name-name.ensures) ∙ sym c.is_among.ensures ∙ c.if-not-is_among.true in
    ap Some c.type_name-name.ensures ∙ sym (new_here names all (type_ids all) c.loop-i.i c.at.result c.at.ensures.id new) ∙ c.loop-i.invariant

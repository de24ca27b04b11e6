use Rattle.std.proofs.Common.{◌≡◌, ℕ, ◌*◌, ◌/◌, ◌≤◌, List, length, min, arith, rules}
use Rattle.std.proofs.lemmas.Result.{on_ok_weaker}
use Rattle.aper_fields.specs.Strings.{content_of, units_of}
use Rattle.aper_fields.proofs.PartLemmas.{part_turn, part_last}
use Rattle.aper_fields.proofs.strings.put_parts.Goals as goal

pub loop-left-preserved : goal.loop-left-preserved
loop-left-preserved c = λ new more.
    let units : List ℕ = units_of c.loop-left.left in
    let is : 16384 * c.min.result ≡ 16384 * min (length units / 16384) 4 = search rules in
    let whole : 16384 ≤ length units = omega (arith, c.len.ensures) in
    c.loop-left.invariant new (part_turn c.loop-left.out c.put_part.new.out new (content_of c.loop-left.left) units (16384 * c.min.result)
    (content_of c.split_at.result.0) (content_of c.split_at.result.1) (units_of c.split_at.result.0) (units_of c.split_at.result.1)
    c.split_at.ensures.contents.0 c.split_at.ensures.contents.1 c.split_at.ensures.front c.split_at.ensures.rest is whole
    c.in_ok-put_part.ensures.follows more)

pub returns-clause-follows : goal.returns-clause-follows
returns-clause-follows c = on_ok_weaker c.put_part-2.result (λ follows outside p rest.
    c.loop-left.invariant c.put_part-2.new.out
    (part_last c.loop-left.out c.put_part-2.new.out (content_of c.loop-left.left) (units_of c.loop-left.left) (omega (arith, c.len.ensures)) follows)
    p outside (length (units_of c.args.units) / 16384) 0 65536 rest (omega arith)) c.put_part-2.ensures.follows

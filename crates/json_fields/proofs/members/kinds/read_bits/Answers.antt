use Rattle.std.proofs.Common.{◌+◌, drop, List, Bool, ap, ◌∙◌}
use Rattle.json_defs.specs.Members.{read_bits}
use Rattle.json_fields.proofs.members.Words.{bits_then, bits_turn, bits_stop}
use Rattle.json_fields.proofs.members.kinds.read_bits.Goals as goal

pub returns-in_default : goal.returns-in_default
returns-in_default c =
    bits_stop c.args.text.now c.loop-digit.digit-index _ c.loop-digit.bits c.loop-digit-test.true c.in_default.ensures
    ∙ c.loop-digit.invariant

pub loop-digit-preserved : goal.loop-digit-preserved
loop-digit-preserved c =
    let l = c.loop-digit in
    ap (λ (bits : List Bool). bits_then bits (read_bits (drop (l.digit-index + 1) c.args.text.now))) c.in_ok-push.ensures.ok
    ∙ bits_turn c.args.text.now l.digit-index _ c.in-Some.bit l.bits c.loop-digit-test.true c.in-Some.ensures
    ∙ l.invariant

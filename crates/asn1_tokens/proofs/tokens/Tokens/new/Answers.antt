use Rattle.std.proofs.Common.{length, arith}
use Rattle.asn1_tokens.proofs.StreamLemmas.{made}
use Rattle.asn1_tokens.proofs.tokens.Tokens.new.Goals as goal

pub invariant_of-result : goal.invariant_of-result
invariant_of-result c = omega (arith, c.after_gap-here.ensures.shorter, c.in_ok-token.ensures.shorter)

pub returns : goal.returns
returns c = made (length c.args.text.now) c.args.text.now _ c.in_ok-token.token _ c.after_gap-here.ensures.rest c.in_ok-token.ensures.lexeme

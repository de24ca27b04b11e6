use Rattle.std.proofs.Common.{List, ap, ◌∙◌, sym, arith}
use Rattle.asn1_tokens.specs.Stream.{Placed, first_token, is_last, others}
use Rattle.asn1_tokens.proofs.StreamLemmas.{stored, advanced}
use Rattle.asn1_tokens.proofs.tokens.Tokens.advance.Goals as goal

pub invariant_of-self : goal.invariant_of-self
invariant_of-self c = omega (arith, c.self.invariant, c.after_gap-here.ensures.shorter, c.in_ok-token.ensures.shorter)

pub returns-clause-others : goal.returns-clause-others
returns-clause-others c =
    stored c.self.inside.total c.self.inside.rest.now _ c.in_ok-token.token _ _ c.after_gap-here.ensures.rest c.in_ok-token.ensures.lexeme c.replace.ensures.after
    ∙ sym (advanced c.self.inside.total c.self.inside.token c.self.inside.rest.now (ap (λ (ps : List Placed). is_last (first_token ps)) c.self.view_is ∙ c.requires))
    ∙ ap others c.self.view_is

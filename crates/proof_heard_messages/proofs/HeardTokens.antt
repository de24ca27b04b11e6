-- What is written for a message is heard as it: Token.
use Rattle.std.proofs.Common.{◌≡◌, Result, Ok, refl, ap}
use Rattle.gnb_types.specs.declared.names.Gnb.{Gnb}
use Rattle.message_types.specs.declared.rrc.Token.TheVariants as tokens
use Rattle.message_types.specs.declared.rrc.Token.{Token}
use Rattle.message_defs.specs.FromValue.{Cause}
use Rattle.message_defs.specs.Tokens.{written_token, token_from_value}
use Rattle.proof_heard_messages.proofs.Fields.{gnb_back}

answer : Token → Result Token Cause
answer msg = Ok msg

pub heard : (msg : Token) → token_from_value (written_token msg) ≡ Ok msg
unfolding written_token token_from_value answer
heard (tokens.Command ue epoch gnb du) = ap (λ (x : Gnb). answer (tokens.Command ue epoch x du)) (gnb_back gnb)
heard (tokens.Complete ue epoch) = refl
heard (tokens.Reestablish ue epoch) = refl
heard (tokens.Accepted ue epoch) = refl

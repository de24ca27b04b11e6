-- What is written for a token says it.
use Rattle.std.proofs.Common.{◌≡◌, refl}
use Rattle.message_types.specs.declared.rrc.Token.{Token}
use Rattle.message_types.specs.declared.rrc.Token.TheVariants as tokens
use Rattle.message_defs.specs.profile_defs.Forms.{tree, parts}
use Rattle.message_defs.specs.profile_defs.Profile.{token_type}
use Rattle.message_defs.specs.Known.{known, known_components, known_additions, known_part}
use Rattle.message_defs.specs.Tokens.{written_token}

pub said : (token : Token) → known token_type (written_token token) ≡ written_token token
unfolding token_type tree parts known known_components known_additions known_part written_token
said (tokens.Command ue epoch gnb du) = refl
said (tokens.Complete ue epoch) = refl
said (tokens.Reestablish ue epoch) = refl
said (tokens.Accepted ue epoch) = refl

use Rattle.message_defs.specs.profile_defs.Profile.{token_type}
use Rattle.message_types.specs.declared.rrc.Token.{Token}
use Rattle.message_defs.specs.Tokens.{token_from_value}
use Rattle.message_octets.proofs.Read.{bounded, reading}
use Rattle.message_octets.proofs.token_octets.from_bytes.Goals as goal

pub returns-clause-read : goal.returns-clause-read
returns-clause-read c = reading Token token_type token_from_value
    (bounded c.module-module.result.now c.args.profile.now.syntax token_type c.rrc_token-id.result.number c.name-name.ensures.sound
    c.module-module.ensures.syntax c.rrc_token-id.ensures.is)
    c.args.octets.now c.from_value_in.result c.from_value_in.ensures

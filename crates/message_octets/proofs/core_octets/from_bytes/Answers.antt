use Rattle.message_defs.specs.profile_defs.Profile.{core_type}
use Rattle.message_types.specs.declared.xn.CoreMessage.{CoreMessage}
use Rattle.message_defs.specs.Core.{core_from_value}
use Rattle.message_octets.proofs.Read.{bounded, reading}
use Rattle.message_octets.proofs.core_octets.from_bytes.Goals as goal

pub returns-clause-read : goal.returns-clause-read
returns-clause-read c = reading CoreMessage core_type core_from_value
    (bounded c.module-module.result.now c.args.profile.now.syntax core_type c.core_pdu-id.result.number c.name-name.ensures.sound
    c.module-module.ensures.syntax c.core_pdu-id.ensures.is)
    c.args.octets.now c.from_value_in.result c.from_value_in.ensures

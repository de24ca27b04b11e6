use Rattle.message_defs.specs.profile_defs.Profile.{e1_type}
use Rattle.message_types.specs.declared.e1.E1Message.{E1Message}
use Rattle.message_defs.specs.E1.{e1_from_value}
use Rattle.message_octets.proofs.Read.{bounded, reading}
use Rattle.message_octets.proofs.e1_octets.from_bytes.Goals as goal

pub returns-clause-read : goal.returns-clause-read
returns-clause-read c = reading E1Message e1_type e1_from_value
    (bounded c.module-module.result.now c.args.profile.now.syntax e1_type c.e1_pdu-id.result.number c.name-name.ensures.sound
    c.module-module.ensures.syntax c.e1_pdu-id.ensures.is)
    c.args.octets.now c.from_value_in.result c.from_value_in.ensures

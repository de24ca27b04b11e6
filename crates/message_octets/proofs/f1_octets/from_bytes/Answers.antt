use Rattle.message_defs.specs.profile_defs.Profile.{f1_type}
use Rattle.message_defs.specs.F1.{F1Message, f1_from_value}
use Rattle.message_octets.proofs.Read.{bounded, reading}
use Rattle.message_octets.proofs.f1_octets.from_bytes.Goals as goal

pub returns-clause-read : goal.returns-clause-read
returns-clause-read c = reading F1Message f1_type f1_from_value
    (bounded c.module-module.result.now c.args.profile.now.syntax f1_type c.f1_pdu-id.result.number c.name-name.ensures.sound
    c.module-module.ensures.syntax c.f1_pdu-id.ensures.is)
    c.args.octets.now c.from_value_in.result c.from_value_in.ensures

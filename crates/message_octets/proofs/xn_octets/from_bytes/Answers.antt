use Rattle.std.proofs.Common.{Result, refl, subst}
use Rattle.aper_defs.specs.Trees.{Tree}
use Rattle.aper_defs.specs.Values.{Value}
use Rattle.aper_defs.specs.Reading.{Fault}
use Rattle.aper_values.specs.types.Types.{tree}
use Rattle.message_types.specs.declared.xn.XnMessage.{XnMessage}
use Rattle.profile.specs.Versions.{number_of}
use Rattle.message_defs.specs.profile_defs.Profile.{xn_type}
use Rattle.profile.proofs.xn.Spellings.{same_decoded}
use Rattle.message_defs.specs.Xn.{xn_from_value}
use Rattle.message_octets.specs.Reading.{read_value, IsReading}
use Rattle.message_octets.proofs.Read.{bounded, reading}
use Rattle.message_octets.proofs.XnAnswers.{xn_wrong, answered}
use Rattle.message_octets.proofs.xn_octets.from_bytes.Goals as goal

pub returns-clause-from_value : goal.returns-clause-from_value
returns-clause-from_value c = answered (tree c.args.profile.now.syntax c.xn_pdu-id.result.number) (xn_type (number_of c.args.profile.now.version))
    c.xn_pdu-id.ensures.alike (xn_wrong c.args.profile.now.version) c.args.octets.now c.from_value_in.result c.from_value_in.ensures

-- The same is read for both types, since the same is asked of octets.
pub returns-clause-read : goal.returns-clause-read
returns-clause-read c =
    let own : Tree = tree c.args.profile.now.syntax c.xn_pdu-id.result.number in
    let type : Tree = xn_type (number_of c.args.profile.now.version) in
    subst (λ (r : Result Value Fault). IsReading c.from_value_in.result (read_value xn_from_value r))
    (same_decoded own type c.xn_pdu-id.ensures.alike c.args.octets.now)
    (reading XnMessage own xn_from_value
    (bounded c.module-module.result.now c.args.profile.now.syntax own c.xn_pdu-id.result.number c.name-name.ensures.sound
    c.module-module.ensures.syntax refl)
    c.args.octets.now c.from_value_in.result c.from_value_in.ensures)

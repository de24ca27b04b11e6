use Rattle.message_types.specs.declared.e1.E1Message.{E1Message}
use Rattle.message_types.specs.declared.xn.XnMessage.{XnMessage}
use Rattle.message_types.specs.declared.xn.CoreMessage.{CoreMessage}
use Rattle.message_types.specs.declared.rrc.Token.{Token}
use Rattle.profile.specs.Versions.{number_of}
use Rattle.message_defs.specs.profile_defs.Profile.{f1_type, e1_type, xn_type, core_type, token_type}
use Rattle.message_defs.specs.F1.{F1Message, f1_from_value}
use Rattle.message_defs.specs.E1.{e1_from_value}
use Rattle.message_defs.specs.Xn.{xn_from_value}
use Rattle.message_defs.specs.Core.{core_from_value}
use Rattle.message_defs.specs.Tokens.{token_from_value}
use Rattle.law_messages.proofs.law_message_octets.Found.{found}
use Rattle.law_messages.proofs.law_message_octets.read_messages_are_from_value.Goals as goal

pub returns : goal.returns
returns c = record {
  f1 = found F1Message f1_type f1_from_value;
  e1 = found E1Message e1_type e1_from_value;
  xn = λ w. found XnMessage (xn_type (number_of w)) xn_from_value;
  core = found CoreMessage core_type core_from_value;
  token = found Token token_type token_from_value;
}

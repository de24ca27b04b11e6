use Rattle.message_types.specs.declared.e1.E1Message.{E1Message}
use Rattle.message_types.specs.declared.xn.XnMessage.{XnMessage}
use Rattle.message_types.specs.declared.xn.CoreMessage.{CoreMessage}
use Rattle.message_types.specs.declared.rrc.Token.{Token}
use Rattle.message_defs.specs.profile_defs.Profile.{f1_type, e1_type, xn_type, core_type, token_type}
use Rattle.message_defs.specs.F1.{F1Message, f1_from_value}
use Rattle.message_defs.specs.E1.{e1_from_value}
use Rattle.message_defs.specs.Xn.{xn_from_value}
use Rattle.message_defs.specs.Core.{core_from_value}
use Rattle.message_defs.specs.Tokens.{token_from_value}
use Rattle.law_messages.proofs.law_message_octets.Determined.{refused}
use Rattle.law_messages.proofs.law_message_octets.what_spells_nothing_is_refused.Goals as goal

pub returns : goal.returns
returns c = record {
  f1 = refused F1Message f1_type f1_from_value;
  e1 = refused E1Message e1_type e1_from_value;
  xn = λ version. refused XnMessage (xn_type version) xn_from_value;
  core = refused CoreMessage core_type core_from_value;
  token = refused Token token_type token_from_value;
}

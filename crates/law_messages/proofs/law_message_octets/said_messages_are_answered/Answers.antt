use Rattle.std.specs.Prelude.{None}
use Rattle.message_types.specs.declared.e1.E1Message.{E1Message}
use Rattle.message_types.specs.declared.xn.XnMessage.{XnMessage}
use Rattle.message_types.specs.declared.xn.CoreMessage.{CoreMessage}
use Rattle.message_types.specs.declared.rrc.Token.{Token}
use Rattle.profile.specs.Versions.{number_of}
use Rattle.message_defs.specs.profile_defs.Profile.{f1_type, e1_type, xn_type, core_type, token_type}
use Rattle.message_defs.specs.profile_defs.Messages.{f1_messages, e1_messages, xn_messages, core_messages}
use Rattle.message_defs.specs.FromValue.{rejected_in}
use Rattle.message_defs.specs.F1.{F1Message, written_f1, f1_from_value}
use Rattle.message_defs.specs.E1.{written_e1, e1_from_value}
use Rattle.message_defs.specs.Xn.{written_xn, xn_from_value}
use Rattle.message_defs.specs.Core.{written_core, core_from_value}
use Rattle.message_defs.specs.Tokens.{written_token, token_from_value}
use Rattle.law_messages.proofs.from_value_messages.SaysF1 as f1
use Rattle.law_messages.proofs.from_value_messages.SaysE1 as e1
use Rattle.law_messages.proofs.from_value_messages.SaysXn as xn
use Rattle.law_messages.proofs.from_value_messages.SaysCore as core
use Rattle.law_messages.proofs.from_value_messages.SaysToken as tokens
use Rattle.law_messages.proofs.law_message_octets.Types as bounded
use Rattle.law_messages.proofs.law_message_octets.Said.{where_said}
use Rattle.law_messages.proofs.law_message_octets.said_messages_are_answered.Goals as goal

pub returns : goal.returns
returns c = record {
  f1 = where_said F1Message f1_type f1_from_value written_f1 (rejected_in f1_messages) bounded.f1 f1.from_value_says f1.said_hears;
  e1 = where_said E1Message e1_type e1_from_value written_e1 (rejected_in e1_messages) bounded.e1 e1.from_value_says e1.said_hears;
  xn = λ w. where_said XnMessage (xn_type (number_of w)) xn_from_value written_xn (rejected_in (xn_messages (number_of w))) (bounded.xn w)
      (xn.from_value_says (number_of w)) (xn.said_hears (number_of w));
  core = where_said CoreMessage core_type core_from_value written_core (rejected_in core_messages) bounded.core core.from_value_says core.said_hears;
  token = where_said Token token_type token_from_value written_token (λ v. None) bounded.token tokens.from_value_says tokens.said_hears;
}

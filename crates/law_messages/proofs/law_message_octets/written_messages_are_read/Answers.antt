use Rattle.message_types.specs.declared.e1.E1Message.{E1Message}
use Rattle.message_types.specs.declared.xn.XnMessage.{XnMessage}
use Rattle.message_types.specs.declared.xn.CoreMessage.{CoreMessage}
use Rattle.message_types.specs.declared.rrc.Token.{Token}
use Rattle.profile.specs.Versions.{number_of}
use Rattle.message_defs.specs.profile_defs.Profile.{f1_type, e1_type, xn_type, core_type, token_type}
use Rattle.message_defs.specs.F1.{F1Message, written_f1, f1_from_value}
use Rattle.message_defs.specs.E1.{written_e1, e1_from_value}
use Rattle.message_defs.specs.Xn.{written_xn, xn_from_value}
use Rattle.message_defs.specs.Core.{written_core, core_from_value}
use Rattle.message_defs.specs.Tokens.{written_token, token_from_value}
use Rattle.proof_heard_messages.proofs.HeardF1 as f1
use Rattle.proof_heard_messages.proofs.HeardE1 as e1
use Rattle.proof_heard_messages.proofs.HeardXn as xn
use Rattle.proof_heard_messages.proofs.HeardCore as core
use Rattle.proof_heard_messages.proofs.HeardTokens as tokens
use Rattle.law_messages.proofs.law_message_octets.Types as bounded
use Rattle.law_messages.proofs.law_message_octets.Determined.{said}
use Rattle.law_messages.proofs.law_message_octets.written_messages_are_read.Goals as goal

pub returns : goal.returns
returns c = record {
  f1 = λ msg octets result. said F1Message f1_type f1_from_value bounded.f1 (written_f1 msg) msg octets result (f1.heard msg);
  e1 = λ msg octets result. said E1Message e1_type e1_from_value bounded.e1 (written_e1 msg) msg octets result (e1.heard msg);
  xn = λ w msg octets result. said XnMessage (xn_type (number_of w)) xn_from_value (bounded.xn w) (written_xn msg) msg octets result (xn.heard msg);
  core = λ msg octets result. said CoreMessage core_type core_from_value bounded.core (written_core msg) msg octets result (core.heard msg);
  token = λ token octets result. said Token token_type token_from_value bounded.token (written_token token) token octets result (tokens.heard token);
}

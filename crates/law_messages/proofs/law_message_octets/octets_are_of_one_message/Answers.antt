use Rattle.message_types.specs.declared.e1.E1Message.{E1Message}
use Rattle.message_types.specs.declared.xn.XnMessage.{XnMessage}
use Rattle.message_types.specs.declared.xn.CoreMessage.{CoreMessage}
use Rattle.message_types.specs.declared.rrc.Token.{Token}
use Rattle.profile.specs.Versions.{number_of}
use Rattle.message_defs.specs.profile_defs.Profile.{f1_type, e1_type, xn_type, core_type, token_type}
use Rattle.message_defs.specs.F1.{F1Message, written_f1, f1_from_value}
use Rattle.message_defs.specs.E1.{written_e1, e1_from_value}
use Rattle.message_defs.specs.Xn.{written_xn, xn_from_value}
use Rattle.message_defs.specs.Core.{written_core, core_from_value}
use Rattle.message_defs.specs.Tokens.{written_token, token_from_value}
use Rattle.proof_heard_messages.proofs.HeardF1 as f1
use Rattle.proof_heard_messages.proofs.HeardE1 as e1
use Rattle.proof_heard_messages.proofs.HeardXn as xn
use Rattle.proof_heard_messages.proofs.HeardCore as core
use Rattle.proof_heard_messages.proofs.HeardTokens as tokens
use Rattle.law_messages.proofs.law_message_octets.Types as bounded
use Rattle.law_messages.proofs.law_message_octets.Determined.{one_message}
use Rattle.law_messages.proofs.law_message_octets.octets_are_of_one_message.Goals as goal

pub returns : goal.returns
returns c = record {
  f1 = λ a b octets. one_message F1Message f1_type f1_from_value bounded.f1 (written_f1 a) (written_f1 b) a b octets (f1.heard a) (f1.heard b);
  e1 = λ a b octets. one_message E1Message e1_type e1_from_value bounded.e1 (written_e1 a) (written_e1 b) a b octets (e1.heard a) (e1.heard b);
  xn = λ w a b octets. one_message XnMessage (xn_type (number_of w)) xn_from_value (bounded.xn w) (written_xn a) (written_xn b) a b octets
      (xn.heard a) (xn.heard b);
  core = λ a b octets. one_message CoreMessage core_type core_from_value bounded.core (written_core a) (written_core b) a b octets
      (core.heard a) (core.heard b);
  token = λ a b octets. one_message Token token_type token_from_value bounded.token (written_token a) (written_token b) a b octets
      (tokens.heard a) (tokens.heard b);
}

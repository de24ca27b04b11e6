use Rattle.std.proofs.Common.{◌≡◌, Result, Ok, sym, ap, ◌∙◌}
use Rattle.aper_defs.specs.Values.{Value}
use Rattle.message_defs.specs.FromValue.{Cause}
use Rattle.message_defs.specs.F1.{f1_from_value, written_f1}
use Rattle.message_defs.specs.E1.{e1_from_value, written_e1}
use Rattle.message_defs.specs.Xn.{xn_from_value, written_xn}
use Rattle.message_defs.specs.Core.{core_from_value, written_core}
use Rattle.message_defs.specs.Tokens.{token_from_value, written_token}
use Rattle.proof_heard_messages.proofs.HeardF1 as f1
use Rattle.proof_heard_messages.proofs.HeardE1 as e1
use Rattle.proof_heard_messages.proofs.HeardXn as xn
use Rattle.proof_heard_messages.proofs.HeardCore as core
use Rattle.proof_heard_messages.proofs.HeardTokens as tokens
use Rattle.law_messages.proofs.a_value_says_one_message.Goals as goal

same : {M : Type 0} → (a b : M) → (let x : Result M Cause = Ok a in x) ≡ Ok b → a ≡ b
same a b h = cc

-- messages that are heard in what is written for them are told apart by that
one : {M : Type 0} → (written : M → Value) (from_value : Value → Result M Cause) → ((m : M) → from_value (written m) ≡ Ok m) → (a b : M) (v : Value)
    → v ≡ written a → v ≡ written b → a ≡ b
one written from_value back a b v h k = same a b (sym (back a) ∙ ap from_value (sym h ∙ k) ∙ back b)

pub returns : goal.returns
returns c = record {
  f1 = λ a b v s r. one written_f1 f1_from_value f1.heard a b _ s.is r.is;
  e1 = λ a b v s r. one written_e1 e1_from_value e1.heard a b _ s.is r.is;
  xn = λ version a b v s r. one written_xn xn_from_value xn.heard a b _ s.is r.is;
  core = λ a b v s r. one written_core core_from_value core.heard a b _ s.is r.is;
  token = λ a b v s r. one written_token token_from_value tokens.heard a b _ s.is r.is;
}

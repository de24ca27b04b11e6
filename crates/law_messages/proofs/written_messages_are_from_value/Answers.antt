use Rattle.proof_heard_messages.proofs.HeardF1 as f1
use Rattle.proof_heard_messages.proofs.HeardE1 as e1
use Rattle.proof_heard_messages.proofs.HeardXn as xn
use Rattle.proof_heard_messages.proofs.HeardCore as core
use Rattle.proof_heard_messages.proofs.HeardTokens as tokens
use Rattle.law_messages.proofs.written_messages_are_from_value.Goals as goal

pub returns : goal.returns
returns c = record { f1 = f1.heard; e1 = e1.heard; xn = xn.heard; core = core.heard; token = tokens.heard }

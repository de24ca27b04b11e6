use Rattle.law_messages.proofs.message_ranges.InRangeF1 as f1
use Rattle.law_messages.proofs.message_ranges.InRangeE1 as e1
use Rattle.law_messages.proofs.message_ranges.InRangeXn as xn
use Rattle.law_messages.proofs.message_ranges.InRangeCore as core
use Rattle.law_messages.proofs.message_ranges.messages_in_range_are_values.Goals as goal

pub returns : goal.returns
returns c = record { f1 = f1.in_range; e1 = e1.in_range; xn = xn.in_range; core = core.in_range }

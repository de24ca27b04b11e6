use Rattle.law_handover_delivers.proofs.downlink_path_steps.Terminals.{terminal_way}
use Rattle.law_handover_delivers.proofs.downlink_path_steps.the_terminal_keeps_the_way.Goals as goal

pub returns : goal.returns
returns c = terminal_way

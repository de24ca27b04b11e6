use Rattle.law_downlink_scripts.proofs.packet_scripts.Runs.{bag_stays}
use Rattle.law_downlink_scripts.proofs.packet_scripts.packets_need_no_control.Goals as goal

pub returns : goal.returns
returns c = λ reading events are s t is. bag_stays reading events are s t is

use Rattle.law_frames_are_numbered.proofs.run_switches.Runs.{named_once}
use Rattle.law_frames_are_numbered.proofs.run_switches.no_two_switches_name_a_downlink.Goals as goal

pub returns : goal.returns
returns c = λ reading events t s is. named_once reading t events s is

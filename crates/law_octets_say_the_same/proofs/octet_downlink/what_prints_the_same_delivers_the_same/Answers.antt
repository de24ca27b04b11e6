use Rattle.gnb_types.specs.declared.names.Dir.TheVariants.{Dl}
use Rattle.run_defs.specs.States.{entity}
use Rattle.law_octets_say_the_same.proofs.octet_downlink.Runs.{same_order, same_counts}
use Rattle.law_octets_say_the_same.proofs.octet_downlink.what_prints_the_same_delivers_the_same.Goals as goal

pub returns-clause-order : goal.returns-clause-order
returns-clause-order g = λ encode said told e ue bearer d. same_order encode said told e (entity ue bearer Dl) d

pub returns-clause-counts : goal.returns-clause-counts
returns-clause-counts g = λ encode said told e h. same_counts encode said told e h

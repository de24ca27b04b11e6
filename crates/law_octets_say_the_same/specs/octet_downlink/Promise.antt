-- What is promised of a transcript over octets, on scripts of packets down.
use Rattle.std.specs.Prelude.{ℕ, List}
use Rattle.gnb_types.specs.declared.names.UeId.{UeId}
use Rattle.gnb_types.specs.declared.names.BearerId.{BearerId}
use Rattle.gnb_types.specs.declared.names.Dir.TheVariants.{Dl}
use Rattle.unit_defs.specs.octet_defs.Codec.{Codec}
use Rattle.unit_defs.specs.octet_defs.Spelling.{spelled}
use Rattle.run_defs.specs.Local.{Local, CountMeans}
use Rattle.run_defs.specs.Runs.{Happened}
use Rattle.run_defs.specs.Said.{all_lines, Wires}
use Rattle.run_defs.specs.States.{entity}
use Rattle.law_downlink_scripts.specs.downlink_only_runs.Scripts.{DeliversInOrder}
use Rattle.law_units_act_locally.specs.cu_cp_interfaces.Interfaces.{IsOf}
use Rattle.law_octets_say_the_same.specs.octet_local.Spelt.{Spelt}

pub record KeepsPromise (codec : Codec) (happened : List (Happened (List ℕ))) : Type 0 where
  -- what is delivered is a prefix of what was offered, each packet once, with COUNTs 0, 1, 2 and so on
  pub delivers : (ue : UeId) (bearer : BearerId) → DeliversInOrder (entity ue bearer Dl) happened
  -- what is got from a link is the oldest that was put there
  pub wires : Wires (all_lines happened)
  -- what a unit puts or delivers it was offered, or got before
  pub local : Local (Spelt (spelled codec) IsOf) happened
  -- a COUNT that is shown is the packet's place among those offered
  pub counts : CountMeans happened

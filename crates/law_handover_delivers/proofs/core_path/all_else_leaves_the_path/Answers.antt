use Rattle.std.proofs.Common.{refl}
use Rattle.run_defs.specs.Runs.{plain_world}
use Rattle.law_handover_delivers.proofs.core_path.Cores.{core_stays, same_path, set_up_path, octets_path}
use Rattle.law_handover_delivers.proofs.core_path.all_else_leaves_the_path.Goals as goal

pub returns : goal.returns
returns c = record {
  unit = λ reading ue s t cause outputs units lines goes_on. same_path ue s t (core_stays (plain_world reading) cause outputs units s t lines goes_on);
  set_up = λ ue s plan apart. set_up_path ue s plan apart;
  octets = λ reading ue s t from octets outputs core lines answers goes_on. octets_path ue reading s t from octets outputs core lines answers goes_on;
  lost = λ ue s started bag tunnels. refl;
}

use Rattle.gnb_types.specs.declared.names.NodeId.TheVariants.{Ue}
use Rattle.proof_unit_steps.specs.tunnel_names.Names.{by_test}
use Rattle.proof_unit_steps.proofs.tunnels.Terminals.{terminal_keeps}
use Rattle.proof_unit_steps.proofs.tunnels.a_terminal_puts_on_no_tunnel.Goals as goal

pub returns : goal.returns
returns g c = λ way test ue u input long. terminal_keeps (by_test test) (Ue ue.0) u input long

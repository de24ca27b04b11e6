use Rattle.law_tunnels_are_owned.specs.owner_facts.Owned.{cu_up_names}
use Rattle.law_tunnels_are_owned.proofs.owner_facts.Owners.{one_owner}
use Rattle.law_tunnels_are_owned.proofs.tunnel_owners.CuUps.{cu_up_owns}
use Rattle.law_tunnels_are_owned.proofs.tunnel_owners.a_cu_up_keeps_owners.Goals as goal

pub returns-clause-keeps : goal.returns-clause-keeps
returns-clause-keeps g c = λ way r input p. cu_up_owns way r input p

pub returns-clause-once : goal.returns-clause-once
returns-clause-once g c = λ r p teid a b h k. one_owner r.tunnels (cu_up_names r.contexts) p.0 teid a b h k

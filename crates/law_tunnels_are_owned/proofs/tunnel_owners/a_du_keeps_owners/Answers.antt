use Rattle.law_tunnels_are_owned.specs.owner_facts.Owned.{du_names}
use Rattle.law_tunnels_are_owned.proofs.owner_facts.Owners.{one_owner}
use Rattle.law_tunnels_are_owned.proofs.tunnel_owners.Dus.{du_owns}
use Rattle.law_tunnels_are_owned.proofs.tunnel_owners.a_du_keeps_owners.Goals as goal

pub returns-clause-keeps : goal.returns-clause-keeps
returns-clause-keeps g c = λ way r input p. du_owns way r input p

pub returns-clause-once : goal.returns-clause-once
returns-clause-once g c = λ r p teid a b h k. one_owner r.tunnels (du_names r.contexts) p.0 teid a b h k

-- States of a run that differ in nothing that a bearer's models speak of, or in what stands on a tunnel to a DU.
use Rattle.std.specs.Prelude.{◌≡◌, true, List}
use Rattle.gnb_types.specs.declared.keys.TunnelEnd.{TunnelEnd}
use Rattle.gnb_types.specs.Orders.{tunnel_cmp}
use Rattle.tables.specs.Tables.{put}
use Rattle.run_defs.specs.Events.{is_lossy}
use Rattle.run_defs.specs.Runs.{Reading, plain_world}
use Rattle.proof_bearer_refinement.specs.refinement_facts.Refinements.{RunState, RunItem}

-- a control message lands or is lost, the run begins, lines are printed
pub record IsAlike (s t : RunState) : Type 0 where
  pub units : t.units ≡ s.units
  pub tunnels : t.tunnels ≡ s.tunnels

-- an item is lost on a tunnel that may lose one
pub record LosesItem (reading : Reading) (s t : RunState) : Type 0 where
  pub end : TunnelEnd
  pub lossy : is_lossy (plain_world reading) end.node ≡ true
  pub rest : List RunItem
  pub units : t.units ≡ s.units
  pub tunnels : t.tunnels ≡ put tunnel_cmp s.tunnels end rest

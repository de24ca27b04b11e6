-- That two states of runs have a terminal's whole projection in common.
use Rattle.std.specs.Prelude.{ℕ, ◌≡◌}
use Rattle.gnb_types.specs.declared.names.Gnb.{Gnb}
use Rattle.gnb_types.specs.declared.names.UeId.{UeId}
use Rattle.gnb_types.specs.declared.keys.TunnelEnd.{TunnelEnd}
use Rattle.gnb_types.specs.declared.keys.EntityKey.{EntityKey}
use Rattle.gnb_types.specs.Orders.{ue_cmp}
use Rattle.tables.specs.Tables.{find}
use Rattle.run_defs.specs.Units.{cu_up_of}
use Rattle.run_defs.specs.States.{State, radio_of, book_of}
use Rattle.law_terminals_are_isolated.specs.projections.Projections.{core_projection}
use Rattle.law_terminals_are_isolated.specs.cu_up_projection.CuUps.{cu_up_projection}
use Rattle.law_terminals_are_isolated.specs.run_projections.Units.{units_projection}
use Rattle.law_terminals_are_isolated.specs.frame_of_steps.Others.{control_messages_of, items_on}

-- what all units keep of the terminal, which open TEIDs of CU-UPs are its, and what the core keeps; its control messages in the order
-- in which they were put, its items on every tunnel and radio, its books, its connection and its plan
pub record ShareProjection {M C L P : Type 0} (ue : UeId) (s t : State M C L P) : Type 0 where
  pub units : units_projection ue s.units ≡ units_projection ue t.units
  pub tunnels : (gnb : Gnb) (number : ℕ) → cu_up_projection ue (cu_up_of s.units gnb number) ≡ cu_up_projection ue (cu_up_of t.units gnb number)
  pub core : core_projection ue s.core ≡ core_projection ue t.core
  pub control_messages : control_messages_of ue s.bag.control_messages ≡ control_messages_of ue t.bag.control_messages
  pub items : (end : TunnelEnd) (key : EntityKey) → key.ue ≡ ue → items_on s end key ≡ items_on t end key
  pub radios : (key : EntityKey) → key.ue ≡ ue → radio_of s key ≡ radio_of t key
  pub books : (key : EntityKey) → key.ue ≡ ue → book_of s key ≡ book_of t key
  pub connected : find ue_cmp s.connected ue ≡ find ue_cmp t.connected ue
  pub plan : find ue_cmp s.plans ue ≡ find ue_cmp t.plans ue

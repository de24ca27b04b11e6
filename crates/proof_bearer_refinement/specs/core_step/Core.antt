-- What the core puts on the tunnels of a bearer, as orders of its downlink: by whose the tunnel is.
use Rattle.std.specs.Prelude.{◌≡◌, ℕ, if◌then◌else◌, List, [], ◌∷◌, map, Option, Some, None}
use Rattle.gnb_types.specs.declared.names.NodeId.TheVariants.{Core}
use Rattle.gnb_types.specs.declared.names.UeId.{UeId}
use Rattle.gnb_types.specs.declared.names.BearerId.{BearerId}
use Rattle.gnb_types.specs.declared.names.Dir.TheVariants.{Dl}
use Rattle.gnb_types.specs.Orders.{ue_cmp}
use Rattle.tables.specs.Tables.{find}
use Rattle.message_types.specs.declared.rrc.Token.{Token}
use Rattle.unit_defs.specs.Ways.{Message, Pdu, Output, gives}
use Rattle.unit_defs.specs.CuUpRecords.{n3}
use Rattle.unit_defs.specs.Messages.{teid_of}
use Rattle.unit_defs.specs.Core.{CorePath, CoreRecord, core_acts}
use Rattle.transport_defs.specs.declared.ControlMessage.{ControlMessage}
use Rattle.run_defs.specs.Lines.{RunLine}
use Rattle.run_defs.specs.Written.{written_put}
use Rattle.run_defs.specs.States.{entity, sn_of, goes, ◌next◌}
use Rattle.run_defs.specs.Steps.{check_spans, put_on_tunnel, put_out_all}
use Rattle.run_defs.specs.Events.{landed_as, offered}
use Rattle.run_defs.specs.Runs.{Reading, plain_world, plain_way}
use Rattle.bearer_defs.specs.chain_defs.Models as down_models
use Rattle.bearer_defs.specs.chain_defs.Orders as down
use Rattle.proof_cu_up_orders.specs.context_orders.Shown.{is_bearer}
use Rattle.proof_bearer_refinement.specs.run_bearers.Things.{PlainUnits}
use Rattle.proof_bearer_refinement.specs.run_bearers.Bearers.{Numbering}
use Rattle.proof_bearer_refinement.specs.refinement_facts.Refinements.{RunState, Owned, owned_on}
use Rattle.proof_node_orders.specs.core_rows.Shown.{teids_of, Places, goal_by, orders_to}

-- ---- the core's path of the bearer: its N3 tunnel of the context that the model sends to

pub record PathLeads (n : Numbering) (ue : UeId) (bearer : BearerId) (s : RunState) (d : down_models.Model) : Type 0 where
  pub path : CorePath
  pub teid : ℕ
  pub there : find ue_cmp s.core.paths ue ≡ Some path
  pub one : teids_of bearer path.n3 ≡ teid ∷ []
  pub leads : owned_on n ue bearer s.units path.up teid ≡ Some (record { context = d.path; kind = n3 })

-- ---- a packet is offered: of this bearer, or of another one

pub record IsOffer (reading : Reading) (s t : RunState) (who : UeId) (which : BearerId) (packet : List ℕ) (path : CorePath) : Type 0 where
  pub there : find ue_cmp s.core.paths who ≡ Some path
  pub lines : List (RunLine (Message Token))
  pub goes_on : (put_on_tunnel (plain_world reading) (record { node = path.up; teid = teid_of path.n3 which })
      (record { key = entity who which Dl; count = None; content = (plain_world reading).lay_n3 (teid_of path.n3 which) packet })
      (offered (plain_world reading) (entity who which Dl) s) next check_spans) ≡ goes lines t

abbrev pub orders_offered : UeId → BearerId → UeId → BearerId → List ℕ → List down.ModelStep
orders_offered ue bearer who which packet = if is_bearer ue bearer who which then down.offers packet ∷ [] else []

-- ---- the core takes a message

pub record IsCoreStep (reading : Reading) (s t : RunState) (number : ℕ) (l : ControlMessage (Message Token)) (outputs : List (Output (Message Token) Pdu))
    (core : CoreRecord (Message Token) Token) : Type 0 where
  pub answers : core_acts plain_way s.core l.from l.message ≡ gives outputs core
  pub lines : List (RunLine (Message Token))
  pub goes_on : (landed_as (plain_world reading) number l (record s { core = core })
      next put_out_all (plain_world reading) Core None (map (written_put (sn_of s)) outputs) next check_spans) ≡ goes lines t

-- which context an N3 tunnel ends at
abbrev pub context_of : Option Owned → ℕ
context_of None = 0
context_of (Some o) = o.context

abbrev pub places_of : Numbering → UeId → BearerId → PlainUnits → Places
places_of n ue bearer units node teid = context_of (owned_on n ue bearer units node teid)

abbrev pub orders_told : Numbering → UeId → BearerId → RunState → ControlMessage (Message Token) → List down.ModelStep
orders_told n ue bearer s l = orders_to (places_of n ue bearer s.units) (goal_by ue bearer s.core l.from l.message)

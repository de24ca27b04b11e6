-- What a CU-CP names: the tunnels of its attempts, who it is that an attempt awaits, and how long its terminals' numbers are.
use Rattle.std.specs.Prelude.{ℕ, ◌≡◌, Bool, true, false, not, if◌then◌else◌, Option, Some, None}
use Rattle.std.specs.List.{AllByRecursion}
use Rattle.gnb_types.specs.declared.names.Gnb.{Gnb}
use Rattle.gnb_types.specs.declared.names.NodeId.{NodeId}
use Rattle.gnb_types.specs.declared.names.NodeId.TheVariants.{CuCp, CuUp, Du, Core}
use Rattle.gnb_types.specs.declared.names.UeId.{UeId}
use Rattle.gnb_types.specs.Orders.{ue_cmp}
use Rattle.tables.specs.Tables.{find}
use Rattle.unit_defs.specs.declared.StateName.{StateName}
use Rattle.unit_defs.specs.declared.StateName.TheVariants as states
use Rattle.unit_defs.specs.declared.AttemptKind.{AttemptKind}
use Rattle.unit_defs.specs.Ways.{Way}
use Rattle.unit_defs.specs.CuUpRecords.{n3, forwarding_down, forwarding_up}
use Rattle.unit_defs.specs.CuCpRecords.{Awaited, Attempt, CuCpContext, CuCpTerminal, CuCpRecord}
use Rattle.unit_defs.specs.CuCpRows.{is_between_gnbs}
use Rattle.unit_defs.specs.Core.{CorePath, CoreRecord}
use Rattle.proof_unit_steps.specs.tunnel_names.Names.{Property, CuUpList, DuList, OwnUpList, KeptNames}

-- ---- whom an attempt awaits: its own CU-UP and one DU; at the source of a handover between gNBs that is the serving one

abbrev pub asked_du : CuCpContext → Attempt → ℕ
asked_du c a = if is_between_gnbs a.kind then c.du else a.du

abbrev pub AwaitedOf : Gnb → ℕ → ℕ → NodeId → Type 0
AwaitedOf gnb up du (CuUp g number) = (g ≡ gnb) × (number ≡ up)
AwaitedOf gnb up du (Du g number) = (g ≡ gnb) × (number ≡ du)
AwaitedOf gnb up du node = Unit {0}

-- in these states the attempt's DU is the serving one
abbrev pub is_at_goal : StateName → AttemptKind → Bool
is_at_goal states.Attaching kind = true
is_at_goal states.Returning kind = true
is_at_goal states.Completing kind = not (is_between_gnbs kind)
is_at_goal states.Offered kind = true
is_at_goal states.Ready kind = true
is_at_goal states.Arrived kind = true
is_at_goal state kind = false

module _ {M C P : Type 0} {way : Way M C P} (is : Property way) where
  pub record AttemptNames (gnb : Gnb) (ue : UeId) (c : CuCpContext) (a : Attempt) : Type 0 where
    pub paths : CuUpList is.owners gnb c.up n3 ue a.n3
    pub downlinks : DuList is.owners gnb a.du ue a.downlinks
    pub down : CuUpList is.owners gnb c.up forwarding_down ue a.forward_down
    pub up : CuUpList is.owners gnb c.up forwarding_up ue a.forward_up
    pub awaits : AllByRecursion (λ (w : Awaited). AwaitedOf gnb c.up (asked_du c a) w.from) a.awaits
    pub at_goal : is_at_goal c.state a.kind ≡ true → a.du ≡ c.du
    pub sn : is.owners.length ue c.sn

  abbrev pub ContextNames : Gnb → UeId → CuCpContext → Option Attempt → Type 0
  ContextNames gnb ue c None = is.owners.length ue c.sn
  ContextNames gnb ue c (Some a) = AttemptNames gnb ue c a

  abbrev pub TerminalNames : Gnb → UeId → Option CuCpContext → Type 0
  TerminalNames gnb ue None = Unit {0}
  TerminalNames gnb ue (Some c) = ContextNames gnb ue c c.attempt

  pub record CuCpNames (gnb : Gnb) (r : CuCpRecord M C) : Type 0 where
    pub own : r.gnb ≡ gnb
    pub terminals : (ue : UeId) (t : CuCpTerminal) → find ue_cmp r.terminals ue ≡ Some t → TerminalNames gnb ue t.context
    pub kept : KeptNames is (CuCp gnb) r.transactions

  -- ---- the core: the path of a terminal is of N3 tunnels of the CU-UP that it names

  abbrev pub PathNames : UeId → CorePath → Type 0
  PathNames ue path = OwnUpList is.owners path.up n3 ue path.n3

  pub record CoreNames (r : CoreRecord M C) : Type 0 where
    pub paths : (ue : UeId) (path : CorePath) → find ue_cmp r.paths ue ≡ Some path → PathNames ue path
    pub kept : KeptNames is Core r.transactions

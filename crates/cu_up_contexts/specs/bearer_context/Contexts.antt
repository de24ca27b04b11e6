-- A context, as it is made, and its tests.
use Rattle.std.specs.Prelude.{ℕ, ◌+◌, ◌==◌, Bool, false, not, ◌&&◌, ◌||◌, List, length}
use Rattle.std.specs.List.{list_all, flat_map}
use Rattle.gnb_types.specs.declared.names.UeId.{UeId}
use Rattle.gnb_types.specs.declared.names.BearerId.{BearerId}
use Rattle.gnb_types.specs.Orders.{bearer_cmp}
use Rattle.tables.specs.Tables.{put}
use Rattle.unit_defs.specs.CuUpRecords.{CuUpBearer, CuUpContext, CuUpFlags}
use Rattle.unit_defs.specs.CuUpBearers.{is_closed, no_uplink, hop_is_done, is_over, open_teids}
use Rattle.unit_defs.specs.CuUp.{bearers_from, bearers_made, new_flags_of}
use Rattle.cu_up_bearer.specs.declared.tunnels.at.Scope.{Scope}
use Rattle.cu_up_bearer.specs.declared.tunnels.at.Flags.{Flags}
use Rattle.cu_up_contexts.specs.declared.bearer_context.context.ContextSetup.{ContextSetup}

-- the flags of a new one
abbrev pub flags_at_first : Bool → Flags
flags_at_first target = record { target = target; may_serve = not target; arrived = not target; frozen = false; released = false }

-- with TEIDs from this one on
abbrev pub made_from : ℕ → ContextSetup → CuUpContext
made_from first setup = record {
  instance = first;
  sn = setup.sn;
  quota = setup.quota;
  flags = new_flags_of setup.target;
  bearers = bearers_made setup.target first (bearers_from 1 setup.count);
}

-- it was released, and nothing comes any more
abbrev pub is_all_over : CuUpContext → Bool
is_all_over c = c.flags.released && list_all (λ e. is_over c.flags e.1) c.bearers

-- an End Marker is awaited at a bearer: of N3 or an uplink after a release, or of the source
abbrev pub awaits : CuUpFlags → CuUpBearer → Bool
awaits f b = (f.released && not (is_closed b.n3 && no_uplink b.uplinks)) || not (hop_is_done f b)

-- nothing of a bearer is held here, and no End Marker is awaited for it
abbrev pub bearer_rests : CuUpFlags → CuUpBearer → Bool
bearer_rests f b = not (awaits f b) && length b.sender.unconfirmed + length b.waiting == 0

-- its open tunnels, in the order in which they are closed
abbrev pub all_open : CuUpContext → List ℕ
all_open c = flat_map (λ e. open_teids e.1) c.bearers

-- with this bearer in the place of the one that has its number
abbrev pub with_one : CuUpContext → BearerId → CuUpBearer → CuUpContext
with_one c bearer b = record c { bearers = put bearer_cmp c.bearers bearer b }

-- whose order a bearer's part carries out, as the code has it
abbrev pub flags_of : CuUpFlags → Flags
flags_of f = record { target = f.target; may_serve = f.may_serve; arrived = f.arrived; frozen = f.frozen; released = f.released }

abbrev pub at_in : UeId → CuUpContext → BearerId → Scope
at_in ue c bearer = record { ue = ue; bearer = bearer; sn = c.sn; quota = c.quota; flags = flags_of c.flags }

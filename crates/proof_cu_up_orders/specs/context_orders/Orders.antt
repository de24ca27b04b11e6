-- One bearer of a CU-UP as it stands in its context, and what happens to it, in orders: each is a row of the bearer, with what the
-- bearers of the context share then.
use Rattle.std.specs.Prelude.{ℕ, Bool, true, false, List, [], ◌∷◌, Option, Some, None}
use Rattle.gnb_types.specs.declared.names.NodeId.{NodeId}
use Rattle.gnb_types.specs.declared.names.UeId.{UeId}
use Rattle.gnb_types.specs.declared.names.BearerId.{BearerId}
use Rattle.gnb_types.specs.declared.names.SnBits.{SnBits}
use Rattle.gnb_types.specs.declared.plans.SnStatus.{SnStatus}
use Rattle.gnb_types.specs.declared.outputs.Tag.TheVariants.{Absent}
use Rattle.gnb_types.specs.Orders.{bearer_cmp}
use Rattle.tables.specs.Tables.{find}
use Rattle.unit_defs.specs.Ways.{Taken, Way, Answer, gives, spent, ◌then◌, nothing}
use Rattle.unit_defs.specs.CuUpRecords.{TunnelKind, CuUpBearer, CuUpFlags, CuUpContext, CuUp, CuUpScope, cu_up_scope}
use Rattle.unit_defs.specs.CuUpBearers.{made, with_uplink, switched, frozen_to, with_status, resumed, released, framed}
use Rattle.unit_defs.specs.CuUpItems.{took}
use Rattle.unit_defs.specs.CuUp.{context_of, new_flags_of}

-- the instance of its context, what it shares with the others, and the bearer
pub record CuUpModel : Type 0 where
  pub instance : ℕ
  pub at : CuUpScope
  pub bearer : CuUpBearer

abbrev pub model_with : UeId → CuUpContext → BearerId → CuUpBearer → CuUpModel
model_with ue c bearer b = record { instance = c.instance; at = cu_up_scope ue c bearer; bearer = b }

abbrev pub model_of_bearer : UeId → CuUpContext → BearerId → Option CuUpBearer → Option CuUpModel
model_of_bearer ue c bearer None = None
model_of_bearer ue c bearer (Some b) = Some (model_with ue c bearer b)

abbrev pub model_in : UeId → BearerId → Option CuUpContext → Option CuUpModel
model_in ue bearer None = None
model_in ue bearer (Some c) = model_of_bearer ue c bearer (find bearer_cmp c.bearers bearer)

-- the terminal has one context at most at a CU-UP
abbrev pub model_of : {M C : Type 0} → CuUp M C → UeId → BearerId → Option CuUpModel
model_of r ue bearer = model_in ue bearer (context_of r ue)

-- ---- orders

pub data ContextStep (P : Type 0) : Type 0 where
  -- a context is made, with these TEIDs of the bearer, the first one of which is told
  makes : (instance : ℕ) (sn : SnBits) (quota : ℕ) (target : Bool) (teid : ℕ) → ContextStep P
  -- its modifications
  adds : (teid : ℕ) → ContextStep P
  switches : (du : NodeId) (teid : ℕ) → ContextStep P
  freezes : (peer : NodeId) (down up : ℕ) → ContextStep P
  knows : (status : SnStatus) → ContextStep P
  resumes : ContextStep P
  -- it is released, where it still passes on what comes, and it ends
  releases : ContextStep P
  closes : ContextStep P
  -- an item of one of its tunnels, which isn't held; and a poll
  takes : (kind : TunnelKind) (teid : ℕ) (item : Taken P) → ContextStep P
  polls : ContextStep P

-- ---- what the bearers share then

abbrev pub with_flags : CuUpModel → CuUpFlags → CuUpModel
with_flags p flags = record p { at = record p.at { flags = flags } }

abbrev pub on_switch : CuUpModel → CuUpModel
on_switch p = with_flags p (record p.at.flags { frozen = false; arrived = true })

abbrev pub on_freeze : CuUpModel → CuUpModel
on_freeze p = with_flags p (record p.at.flags { frozen = true })

abbrev pub on_status : CuUpModel → CuUpModel
on_status p = with_flags p (record p.at.flags { may_serve = true })

abbrev pub on_resume : CuUpModel → CuUpModel
on_resume p = with_flags p (record p.at.flags { frozen = false })

abbrev pub on_release : CuUpModel → CuUpModel
on_release p = record (with_flags p (record p.at.flags { released = true })) { bearer = released p.bearer }

-- ---- what an order does

abbrev pub kept_in : {M P : Type 0} → CuUpModel → Answer M P CuUpBearer → Answer M P (Option CuUpModel)
kept_in p (gives outputs b) = gives outputs (Some (record p { bearer = b }))
kept_in p (spent counter) = spent counter

-- where there is no such bearer, it may be made
abbrev pub begun : {P : Type 0} → UeId → BearerId → ContextStep P → Option CuUpModel
begun ue bearer (makes instance sn quota target teid) = Some (record {
  instance = instance;
  at = record { ue = ue; bearer = bearer; sn = sn; quota = quota; flags = new_flags_of target };
  bearer = made target teid;
})
begun ue bearer order = None

module _ {M C P : Type 0} (way : Way M C P) where
  abbrev pub done : ContextStep P → CuUpModel → Answer M P (Option CuUpModel)
  done (makes instance sn quota target teid) p = nothing (Some p)
  done (adds teid) p = kept_in p (with_uplink way teid p.bearer)
  done (switches du teid) p = kept_in (on_switch p) (switched way (on_switch p).at du teid p.bearer)
  done (freezes peer down up) p = kept_in (on_freeze p) (frozen_to way (on_freeze p).at peer down up p.bearer)
  done (knows status) p = kept_in (on_status p) (with_status way (on_status p).at status p.bearer)
  done resumes p = kept_in (on_resume p) (resumed way (on_resume p).at p.bearer)
  done releases p = nothing (Some (on_release p))
  done closes p = nothing None
  done (takes kind teid item) p = kept_in p (took way p.at kind teid item p.bearer)
  done polls p = kept_in p (framed way p.at true false None Absent p.bearer)

  abbrev pub carried_out : UeId → BearerId → ContextStep P → Option CuUpModel → Answer M P (Option CuUpModel)
  carried_out ue bearer order None = nothing (begun ue bearer order)
  carried_out ue bearer order (Some p) = done order p

  -- one after another
  abbrev pub carried : UeId → BearerId → List (ContextStep P) → Option CuUpModel → Answer M P (Option CuUpModel)
  carried ue bearer [] p = nothing p
  carried ue bearer (order ∷ orders) p = carried_out ue bearer order p then carried ue bearer orders

-- Whose the ends of a bearer's tunnels are: no two bearers have one, nor two kinds.
use Rattle.std.proofs.Common.{◌≡◌, ◌==◌, ℕ, Bool, true, false, ◌&&◌, ◌||◌, [], ◌∷◌, Option, Some, None, refl, sym, ap, ◌∙◌, eq-eqb, eqb-true}
use Rattle.std.specs.Ordering.{nat_cmp, eq_by_cmp}
use Rattle.gnb_types.proofs.Choices.{both}
use Rattle.gnb_types.specs.declared.names.Gnb.{Gnb}
use Rattle.gnb_types.specs.declared.names.NodeId.{NodeId}
use Rattle.gnb_types.specs.declared.names.NodeId.TheVariants.{CuUp as up_id, Du as du_id}
use Rattle.gnb_types.specs.declared.names.UeId.{UeId}
use Rattle.gnb_types.specs.declared.names.BearerId.{BearerId}
use Rattle.gnb_types.specs.declared.keys.TunnelEnd.{TunnelEnd}
use Rattle.gnb_types.specs.Orders.{ue_cmp, bearer_cmp, tunnel_cmp}
use Rattle.gnb_types.proofs.OrderLemmas.{tunnel_exact}
use Rattle.tables.specs.Tables.{find}
use Rattle.unit_defs.specs.CuUpRecords.{CuUpBearer, CuUpContext, TunnelKind, n3, f1u_uplink, CuUpTunnel}
use Rattle.unit_defs.specs.CuUpBearers.{is_one_of, teid_in}
use Rattle.unit_defs.specs.Du.{DuBearer, DuContext, DuTunnel}
use Rattle.run_defs.specs.Units.{cu_up_of, du_of}
use Rattle.proof_cu_up_orders.specs.context_orders.Orders.{CuUpModel, model_with, model_of as up_model_of}
use Rattle.proof_node_orders.specs.du_inputs.Changes.{DuModel, model_with as du_part_with, model_in as du_part_in, model_of as du_model_of}
use Rattle.law_tunnels_are_owned.specs.owner_facts.Owned.{ends_of as teids_of, has_such, has_end, up_context_names, is_downlink, du_context_names, AreOwned}
use Rattle.law_downlink_scripts.specs.downlink_only_rows.DownlinkOnly.{TheEnds}
use Rattle.law_downlink_scripts.proofs.downlink_only_facts.Views.{PlainState, PlainUnits, View, n3_end, uplink_end, downlink_end, Sees, IsFit}
use Rattle.law_downlink_scripts.proofs.downlink_only_facts.Keys.{apart_by, Apart, up_found, up_part, du_found}

-- at a CU-UP with its kind
pub record Owner : Type 0 where
  pub ue : UeId
  pub bearer : BearerId
  pub kind : Option TunnelKind

abbrev pub owner_of : UeId → BearerId → Option TunnelKind → Owner
owner_of ue bearer kind = record { ue = ue; bearer = bearer; kind = kind }

abbrev up_owner : Option CuUpTunnel → Option Owner
up_owner None = None
up_owner (Some t) = Some (owner_of t.ue t.bearer (Some t.kind))

abbrev du_owner : Option DuTunnel → Option Owner
du_owner None = None
du_owner (Some t) = Some (owner_of t.ue t.bearer None)

abbrev owner_by : PlainUnits → NodeId → ℕ → Option Owner
owner_by u (up_id g n) teid = up_owner (find nat_cmp (cu_up_of u g n).tunnels teid)
owner_by u (du_id g n) teid = du_owner (find nat_cmp (du_of u g n).tunnels teid)
owner_by u node teid = None

abbrev pub owner_at : PlainUnits → TunnelEnd → Option Owner
owner_at u end = owner_by u end.node end.teid

-- ends of different owners are different
pub ends_apart : (u : PlainUnits) (a b : TunnelEnd) (x y : Owner) → owner_at u a ≡ Some x → owner_at u b ≡ Some y → (x ≡ y → ⊥)
    → eq_by_cmp tunnel_cmp a b ≡ false
ends_apart u a b x y p q differ =
    apart_by tunnel_cmp tunnel_exact a b (λ same. differ (owners (sym p ∙ ap (owner_at u) same ∙ q)))
  where
    owners : Some x ≡ Some y → x ≡ y
    owners e = cc

one_of : (teid : ℕ) → is_one_of (teid ∷ []) teid ≡ true
one_of teid = ap (λ (t : Bool). t || false) (eq-eqb teid teid refl)

module _ (u : PlainUnits) (owned : AreOwned u) where
  -- ---- the tunnels that a part names are its bearer's

  module _ (g : Gnb) (number : ℕ) (ue : UeId) (bearer : BearerId) (p : CuUpModel) (is : up_model_of (cu_up_of u g number) ue bearer ≡ Some p) where
    -- the owner's entry, with its context
    pub up_open : (kind : TunnelKind) (teid : ℕ) → is_one_of (teids_of kind p.bearer) teid ≡ true
        → (context : ℕ) × (find nat_cmp (cu_up_of u g number).tunnels teid ≡ Some (record { ue = ue; bearer = bearer; kind = kind; context = context }))
    up_open kind teid among =
        let f = up_found (cu_up_of u g number) ue bearer p is in
        let t : CuUpTunnel = record { ue = ue; bearer = bearer; kind = kind; context = f.context.instance } in (
          f.context.instance,
          (owned.0 g number).0.stands teid t
              (ap (up_context_names t teid) f.there
              ∙ ap (λ (same : Bool). same && has_end kind teid (find bearer_cmp f.context.bearers bearer)) (eq-eqb f.context.instance f.context.instance refl)
              ∙ ap (has_end kind teid) f.has ∙ ap (λ (q : CuUpModel). is_one_of (teids_of kind q.bearer) teid) f.is ∙ among),
        )

    up_owned : (kind : TunnelKind) (teid : ℕ) → is_one_of (teids_of kind p.bearer) teid ≡ true
        → owner_at u (record { node = up_id g number; teid = teid }) ≡ Some (owner_of ue bearer (Some kind))
    up_owned kind teid among = ap up_owner (up_open kind teid among).1

  module _ (g : Gnb) (number : ℕ) (ue : UeId) (bearer : BearerId) (p : DuModel) (is : du_model_of (du_of u g number) ue bearer ≡ Some p) where
    pub du_open : find nat_cmp (du_of u g number).tunnels p.bearer.downlink ≡ Some (record { ue = ue; bearer = bearer })
    du_open =
        let f = du_found (du_of u g number) ue bearer p is in
        let t : DuTunnel = record { ue = ue; bearer = bearer } in
        (owned.1 g number).0.stands p.bearer.downlink t
        (ap (du_context_names t p.bearer.downlink) f.there ∙ ap (is_downlink p.bearer.downlink) f.has
        ∙ ap (λ (q : DuModel). q.bearer.downlink == p.bearer.downlink) f.is ∙ eq-eqb p.bearer.downlink p.bearer.downlink refl)

    du_owned : owner_at u (record { node = du_id g number; teid = p.bearer.downlink }) ≡ Some (owner_of ue bearer None)
    du_owned = ap du_owner du_open

  -- ---- an open TEID is named by its owner's part

  pub record UpNamed (g : Gnb) (number teid : ℕ) (t : CuUpTunnel) : Type 0 where
    pub part : CuUpModel
    pub is : up_model_of (cu_up_of u g number) t.ue t.bearer ≡ Some part
    pub among : is_one_of (teids_of t.kind part.bearer) teid ≡ true

  pub up_named : (g : Gnb) (number teid : ℕ) (t : CuUpTunnel) → find nat_cmp (cu_up_of u g number).tunnels teid ≡ Some t → UpNamed g number teid t
  up_named g number teid t found =
      in_context (find ue_cmp (cu_up_of u g number).contexts t.ue) refl ((owned.0 g number).0.named teid t found)
    where
      in_bearer : (c : CuUpContext) → find ue_cmp (cu_up_of u g number).contexts t.ue ≡ Some c → (o : Option CuUpBearer) → find bearer_cmp c.bearers t.bearer ≡ o
          → has_such (λ b. is_one_of (teids_of t.kind b) teid) o ≡ true → UpNamed g number teid t
      in_bearer c there None has e = absurd cc
      in_bearer c there (Some x) has e = record { part = model_with t.ue c t.bearer x; is = up_part (cu_up_of u g number) t.ue t.bearer c x there has; among = e }

      in_context : (o : Option CuUpContext) → find ue_cmp (cu_up_of u g number).contexts t.ue ≡ o → up_context_names t teid o ≡ true → UpNamed g number teid t
      in_context None there e = absurd cc
      in_context (Some c) there e = in_bearer c there (find bearer_cmp c.bearers t.bearer) refl (both (c.instance == t.context) _ e).1

  pub record DuNamed (g : Gnb) (number teid : ℕ) (t : DuTunnel) : Type 0 where
    pub part : DuModel
    pub is : du_model_of (du_of u g number) t.ue t.bearer ≡ Some part
    pub downlink : part.bearer.downlink ≡ teid

  pub du_named : (g : Gnb) (number teid : ℕ) (t : DuTunnel) → find nat_cmp (du_of u g number).tunnels teid ≡ Some t → DuNamed g number teid t
  du_named g number teid t found =
      in_context (find ue_cmp (du_of u g number).contexts t.ue) refl ((owned.1 g number).0.named teid t found)
    where
      in_bearer : (c : DuContext) → find ue_cmp (du_of u g number).contexts t.ue ≡ Some c → (o : Option DuBearer) → find bearer_cmp c.bearers t.bearer ≡ o
          → is_downlink teid o ≡ true → DuNamed g number teid t
      in_bearer c there None has e = absurd cc
      in_bearer c there (Some x) has e = record {
        part = record { epoch = c.epoch; sn = c.sn; bearer = x };
        is = ap (du_part_in t.bearer) there ∙ ap (du_part_with c) has;
        downlink = eqb-true x.downlink teid e;
      }

      in_context : (o : Option DuContext) → find ue_cmp (du_of u g number).contexts t.ue ≡ o → du_context_names t teid o ≡ true → DuNamed g number teid t
      in_context None there e = absurd cc
      in_context (Some c) there e = in_bearer c there (find bearer_cmp c.bearers t.bearer) refl e

-- ---- the ends of a bearer

module _ (s : PlainState) (owned : AreOwned s.units) (ue : UeId) (bearer : BearerId) (v : View) (sees : Sees s ue bearer v) (fit : IsFit bearer v) where
  among_n3 : is_one_of (teids_of n3 v.up.bearer) v.n3 ≡ true
  among_n3 = ap (λ (e : TheEnds). is_one_of (teid_in e.0) v.n3) fit.ends ∙ one_of v.n3

  among_uplinks : is_one_of (teids_of f1u_uplink v.up.bearer) v.du.bearer.uplink ≡ true
  among_uplinks = ap (λ (e : TheEnds). is_one_of e.1 v.du.bearer.uplink) fit.ends ∙ one_of v.du.bearer.uplink

  pub n3_open : (context : ℕ) × (find nat_cmp (cu_up_of s.units v.plan.gnb v.plan.up).tunnels v.n3
      ≡ Some (record { ue = ue; bearer = bearer; kind = n3; context = context }))
  n3_open = up_open s.units owned v.plan.gnb v.plan.up ue bearer v.up sees.up n3 v.n3 among_n3

  pub uplink_open : (context : ℕ) × (find nat_cmp (cu_up_of s.units v.plan.gnb v.plan.up).tunnels v.du.bearer.uplink
      ≡ Some (record { ue = ue; bearer = bearer; kind = f1u_uplink; context = context }))
  uplink_open = up_open s.units owned v.plan.gnb v.plan.up ue bearer v.up sees.up f1u_uplink v.du.bearer.uplink among_uplinks

  pub downlink_open : find nat_cmp (du_of s.units v.plan.gnb v.plan.du).tunnels v.du.bearer.downlink ≡ Some (record { ue = ue; bearer = bearer })
  downlink_open = du_open s.units owned v.plan.gnb v.plan.du ue bearer v.du sees.du

  pub n3_owned : owner_at s.units (n3_end v) ≡ Some (owner_of ue bearer (Some n3))
  n3_owned = ap up_owner n3_open.1

  pub uplink_owned : owner_at s.units (uplink_end v) ≡ Some (owner_of ue bearer (Some f1u_uplink))
  uplink_owned = ap up_owner uplink_open.1

  pub downlink_owned : owner_at s.units (downlink_end v) ≡ Some (owner_of ue bearer None)
  downlink_owned = ap du_owner downlink_open

-- an end of one bearer isn't one of another bearer, nor one of another kind
pub others_apart : (u : PlainUnits) (a b : TunnelEnd) (ue other : UeId) (bearer c : BearerId) (kind of : Option TunnelKind)
    → owner_at u a ≡ Some (owner_of ue bearer kind) → owner_at u b ≡ Some (owner_of other c of) → Apart ue bearer other c
    → eq_by_cmp tunnel_cmp a b ≡ false
others_apart u a b ue other bearer c kind of p q apart =
    ends_apart u a b (owner_of ue bearer kind) (owner_of other c of) p q (λ e. apart (ap (λ (o : Owner). o.ue) e) (ap (λ (o : Owner). o.bearer) e))

pub kinds_apart : (u : PlainUnits) (a b : TunnelEnd) (ue other : UeId) (bearer c : BearerId) (kind of : Option TunnelKind)
    → owner_at u a ≡ Some (owner_of ue bearer kind) → owner_at u b ≡ Some (owner_of other c of) → (kind ≡ of → ⊥)
    → eq_by_cmp tunnel_cmp a b ≡ false
kinds_apart u a b ue other bearer c kind of p q apart =
    ends_apart u a b (owner_of ue bearer kind) (owner_of other c of) p q (λ e. apart (ap (λ (o : Owner). o.kind) e))

-- A step of another bearer leaves a bearer at its stage.
use Rattle.std.proofs.Common.{◌≡◌, ◌==◌, ℕ, false, List, Option, Some, None, sym, ap, ◌∙◌}
use Rattle.gnb_types.specs.declared.names.Gnb.{Gnb}
use Rattle.gnb_types.specs.declared.names.UeId.{UeId}
use Rattle.gnb_types.specs.declared.names.BearerId.{BearerId}
use Rattle.gnb_types.specs.declared.names.Dir.TheVariants.{Dl, Ul}
use Rattle.gnb_types.specs.declared.keys.TunnelEnd.{TunnelEnd}
use Rattle.gnb_types.specs.declared.plans.Plan.{Plan}
use Rattle.gnb_types.specs.Orders.{ue_cmp, bearer_cmp, tunnel_cmp}
use Rattle.tables.specs.Tables.{find}
use Rattle.unit_defs.specs.CuUpRecords.{TunnelKind}
use Rattle.unit_defs.specs.Ue.{UeNode, UeBearer}
use Rattle.run_defs.specs.Units.{cu_up_of, du_of, ue_of}
use Rattle.run_defs.specs.States.{entity, radio_of}
use Rattle.proof_cu_up_orders.specs.context_orders.Orders.{model_of as up_model_of}
use Rattle.proof_node_orders.specs.du_inputs.Changes.{model_of as du_model_of}
use Rattle.law_tunnels_are_owned.specs.owner_facts.Owned.{AreOwned}
use Rattle.law_downlink_scripts.proofs.downlink_only_facts.Views.{PlainState, PlainUnits, OnTunnel, View, HasUe, Sees, IsFit, IsNowhere, Stage, comes, lacks, stands}
use Rattle.law_downlink_scripts.proofs.downlink_only_facts.Ends.{owner_of, owner_at, n3_owned, uplink_owned, downlink_owned}

-- at the terminal the bearer, or that it has none, stays
pub record UeKept (u w : PlainUnits) (ue : UeId) (bearer : BearerId) : Type 0 where
  pub has : (plan : Plan) (b : UeBearer) → HasUe u ue bearer plan b → HasUe w ue bearer plan b
  pub absent : ue_of u ue ≡ None → ue_of w ue ≡ None
  pub lacking : (x : UeNode) → ue_of u ue ≡ Some x → find bearer_cmp x.bearers bearer ≡ None
      → (y : UeNode) × (ue_of w ue ≡ Some y) × (find bearer_cmp y.bearers bearer ≡ None)

pub record Kept (s t : PlainState) (ue : UeId) (bearer : BearerId) : Type 0 where
  pub plans : find ue_cmp t.plans ue ≡ find ue_cmp s.plans ue
  pub paths : find ue_cmp t.core.paths ue ≡ find ue_cmp s.core.paths ue
  pub ups : (g : Gnb) (n : ℕ) → up_model_of (cu_up_of t.units g n) ue bearer ≡ up_model_of (cu_up_of s.units g n) ue bearer
  pub dus : (g : Gnb) (n : ℕ) → du_model_of (du_of t.units g n) ue bearer ≡ du_model_of (du_of s.units g n) ue bearer
  pub gnbs : (g : Gnb) (n : ℕ) → ((cu_up_of t.units g n).gnb ≡ (cu_up_of s.units g n).gnb) × ((du_of t.units g n).gnb ≡ (du_of s.units g n).gnb)
  pub terminal : UeKept s.units t.units ue bearer
  pub tunnels : (end : TunnelEnd) (kind : Option TunnelKind) (items : List OnTunnel) → owner_at s.units end ≡ Some (owner_of ue bearer kind)
      → end.teid == 0 ≡ false → find tunnel_cmp s.tunnels end ≡ Some items → find tunnel_cmp t.tunnels end ≡ Some items
  pub radio : radio_of t (entity ue bearer Dl) ≡ radio_of s (entity ue bearer Dl)
  pub radio_up : radio_of t (entity ue bearer Ul) ≡ radio_of s (entity ue bearer Ul)
  pub connected : find ue_cmp s.connected ue ≡ Some 1 → find ue_cmp t.connected ue ≡ Some 1

module _ (s t : PlainState) (ue : UeId) (bearer : BearerId) (owned : AreOwned s.units) (k : Kept s t ue bearer) where
  nowhere_kept : IsNowhere s ue bearer → IsNowhere t ue bearer
  nowhere_kept none = (
    λ g n. k.ups g n ∙ none.0 g n,
    λ g n. k.dus g n ∙ none.1 g n,
    k.radio ∙ none.2,
    k.radio_up ∙ none.3,
    λ g n. ((k.gnbs g n).0 ∙ (none.4 g n).0, (k.gnbs g n).1 ∙ (none.4 g n).1),
  )

  pub view_kept : (v : View) → Sees s ue bearer v → IsFit bearer v → Sees t ue bearer v
  view_kept v a fit = record {
    plan = k.plans ∙ a.plan;
    path = k.paths ∙ a.path;
    up = k.ups v.plan.gnb v.plan.up ∙ a.up;
    du = k.dus v.plan.gnb v.plan.du ∙ a.du;
    terminal = k.terminal.has v.plan v.bearer a.terminal;
    on_n3 = k.tunnels _ _ v.on_n3 (n3_owned s owned ue bearer v a fit) fit.n3_given a.on_n3;
    on_uplink = k.tunnels _ _ v.on_uplink (uplink_owned s owned ue bearer v a fit) fit.uplink_given a.on_uplink;
    on_downlink = k.tunnels _ _ v.on_downlink (downlink_owned s owned ue bearer v a fit) fit.downlink_given a.on_downlink;
    radio = k.radio ∙ a.radio;
    radio_up = k.radio_up ∙ a.radio_up;
    connected = k.connected a.connected;
    theirs = a.theirs;
    only_up = λ g n p is. a.only_up g n p (sym (k.ups g n) ∙ is);
    only_du = λ g n p is. a.only_du g n p (sym (k.dus g n) ∙ is);
  }

  pub stage_kept : (n : ℕ) (left : List (List ℕ)) → Stage s ue bearer n left → Stage t ue bearer n left
  stage_kept n left (comes plan absent none first empty) = comes (k.plans ∙ plan) (k.terminal.absent absent) (nowhere_kept none) first empty
  stage_kept n left (lacks l none first) =
      let there = k.terminal.lacking l.node l.there l.has_not in
      lacks (record {
        plan = l.plan;
        planned = k.plans ∙ l.planned;
        path = l.path;
        path_there = k.paths ∙ l.path_there;
        path_up = l.path_up;
        path_n3 = l.path_n3;
        node = there.0;
        there = there.1;
        has_not = there.2;
      }) (nowhere_kept none) first
  stage_kept n left (stands v a fit order) = stands v (view_kept v a fit) fit order

-- where a terminal stays as it is
pub same_terminal : (u w : PlainUnits) (ue : UeId) (bearer : BearerId) → ue_of w ue ≡ ue_of u ue → UeKept u w ue bearer
same_terminal u w ue bearer same = record {
  has = λ plan b h. record {
    node = h.node;
    there = same ∙ h.there;
    has = h.has;
    state = h.state;
    epoch = h.epoch;
    home = h.home;
    own = h.own;
  };
  absent = λ none. same ∙ none;
  lacking = λ x there has. (x, same ∙ there, has);
}

pub same_terminals : (u w : PlainUnits) (ue : UeId) (bearer : BearerId) → w.ues ≡ u.ues → UeKept u w ue bearer
same_terminals u w ue bearer same = same_terminal u w ue bearer (ap (λ es. find ue_cmp es ue) same)

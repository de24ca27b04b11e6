-- Steps by which the models do nothing, as steps of `core_path`; and whether a terminal shows the models after steps of others.
use Rattle.std.proofs.Common.{◌≡◌, ℕ, Bool, true, false, ◌&&◌, [], Option, Some, None, refl, ap, ◌∙◌}
use Rattle.std.specs.Prelude.{if◌then◌else◌}
use Rattle.std.specs.Ordering.{eq_by_cmp}
use Rattle.std.specs.Cmp.{Equal-is}
use Rattle.gnb_types.specs.declared.names.Gnb.{Gnb}
use Rattle.gnb_types.specs.declared.names.NodeId.{NodeId}
use Rattle.gnb_types.specs.declared.names.NodeId.TheVariants.{CuCp, CuUp, Du, Core, Ue}
use Rattle.gnb_types.specs.declared.names.SnBits.{SnBits}
use Rattle.gnb_types.specs.declared.names.UeId.{UeId}
use Rattle.gnb_types.specs.declared.names.BearerId.{BearerId}
use Rattle.gnb_types.specs.declared.keys.EntityKey.{EntityKey}
use Rattle.gnb_types.specs.Orders.{entity_cmp}
use Rattle.gnb_types.proofs.OrderLemmas.{entity_exact}
use Rattle.scenario_text.specs.declared.event.Event.{Event}
use Rattle.unit_defs.specs.Ue.{UeNode, is_connected}
use Rattle.run_defs.specs.Units.{ue_of, epoch_at}
use Rattle.run_defs.specs.Conditions.{same_epoch, ready_at, ready_of, receiver_of, sender_of}
use Rattle.run_defs.specs.Runs.{Reading}
use Rattle.proof_run_steps.specs.steps.Causes.{by_order, by_tick, by_octets, by_octets_on, by_attach, by_release, by_offer, by_item, by_air, by_ack, by_control_message, Stands, node_of}
use Rattle.bearer_defs.specs.chain_defs.Orders as down
use Rattle.bearer_defs.specs.chain_defs.Assumptions as down_assumptions
use Rattle.bearer_defs.specs.uplink_defs.Orders as up
use Rattle.bearer_defs.specs.uplink_defs.Assumptions as up_assumptions
use Rattle.proof_bearer_refinement.specs.run_bearers.Bearers.{Numbering}
use Rattle.proof_bearer_refinement.specs.runs.Steps.{Point, LeavesBearer}
use Rattle.law_handover_delivers.specs.core_path.Paths as path
use Rattle.law_handover_delivers.specs.core_path.Paths.{PathStays}
use Rattle.proof_bearer_refinement.specs.uplink_radio.Radio.{RunState, RunCause, up_key, Leaves, IsAtTerminal}
use Rattle.proof_bearer_refinement.specs.ue_view.Looks.{DownSame, UpSame}
use Rattle.proof_bearer_refinement.proofs.ue_view.Shown.{looks_same}
use Rattle.law_handover_delivers.specs.whole_runs.Whole.{both, ModelsStay}

module _ (reading : Reading) (n : Numbering) (ue : UeId) (bearer : BearerId) (sn : SnBits) (quota : ℕ) (p q : Point) where
  pub beside : LeavesBearer n ue bearer p.state q.state → PathStays ue p.state q.state → ModelsStay p q → path.StaysInFrame reading n ue bearer sn quota p q
  unfolding down.run up.run down_assumptions.AreKept up_assumptions.AreKept
  beside left path models = record {
    stays = record {
      rest = left;
      radio = [];
      terminal = [];
      of_radio = tt;
      of_terminal = tt;
      radio_asks = tt;
      terminal_asks = tt;
      down = models.down;
      up = models.up;
    };
    path = path;
  }

  pub down_alike : q.down ≡ p.down → DownSame p.down q.down
  down_alike same = record { terminal = ap (λ d. d.terminal) same; epoch = ap (λ d. d.epoch) same }

  pub up_alike : q.up ≡ p.up → UpSame p.up q.up
  up_alike same = record {
    terminal = ap (λ u. u.terminal) same;
    connected = ap (λ u. u.connected) same;
    carried = ap (λ u. u.carried) same;
    air = ap (λ u. u.air) same;
  }

  pub shows_alike : ModelsStay p q → IsAtTerminal reading ue bearer q.state (both p) → IsAtTerminal reading ue bearer q.state (both q)
  shows_alike models refinement = looks_same reading ue bearer q.state (both p) (both q) (down_alike models.down) (up_alike models.up) refinement

-- ---- a CU-UP is no terminal's home

if_so : (t : Bool) (node home : NodeId) → (if t then Some node else None) ≡ Some home → node ≡ home
if_so true node home is = cc
if_so false node home is = absurd cc

no_if : (t : Bool) (node home : NodeId) → (if t && false then Some node else None) ≡ Some home → ⊥
no_if true node home is = absurd cc
no_if false node home is = absurd cc

home_is_du : (s : RunState) (ue : UeId) (u : UeNode) (h : Option NodeId) (home : NodeId) → ready_at s ue u h ≡ Some home → (g : Gnb) (k : ℕ) → home ≡ CuUp g k → ⊥
home_is_du s ue u None home is g k at = absurd cc
home_is_du s ue u (Some (Du h m)) home is g k at =
    let same : Du h m ≡ home = if_so (is_connected u.state && same_epoch (epoch_at s.units (Du h m) ue) u.epoch) (Du h m) home is in
    let never : Du h m ≡ CuUp g k = same ∙ at in absurd cc
home_is_du s ue u (Some (CuCp h)) home is g k at = no_if (is_connected u.state) (CuCp h) home is
home_is_du s ue u (Some (CuUp h m)) home is g k at = no_if (is_connected u.state) (CuUp h m) home is
home_is_du s ue u (Some Core) home is g k at = no_if (is_connected u.state) Core home is
home_is_du s ue u (Some (Ue w)) home is g k at = no_if (is_connected u.state) (Ue w) home is

ready_no_up : (s : RunState) (ue : UeId) (o : Option UeNode) (home : NodeId) → ready_of s ue o ≡ Some home → (g : Gnb) (k : ℕ) → home ≡ CuUp g k → ⊥
ready_no_up s ue None home is g k at = absurd cc
ready_no_up s ue (Some u) home is g k at = home_is_du s ue u u.home home is g k at

module _ (event : Event) (s : RunState) (ue : UeId) (bearer : BearerId) (g : Gnb) (k : ℕ) where
  apart_if : (from : EntityKey) → (up_key ue bearer ≡ from → ⊥) → eq_by_cmp entity_cmp (up_key ue bearer) from ≡ false
  apart_if from never = by (eq_by_cmp entity_cmp (up_key ue bearer) from) refl
    where
      by : (t : Bool) → eq_by_cmp entity_cmp (up_key ue bearer) from ≡ t → t ≡ false
      by false e = refl
      by true e = absurd (never (entity_exact (up_key ue bearer) from ((Equal-is (entity_cmp (up_key ue bearer) from)).0 e)))

  -- so what makes a CU-UP act is nothing of that radio, and comes and goes with no terminal
  pub up_leaves : (c : RunCause) → node_of c ≡ CuUp g k → Stands event s c → Leaves (up_key ue bearer) c
  up_leaves (by_air from home item) at stands =
      apart_if from (λ same.
      ready_no_up s ue (ue_of s.units ue) home (ap (λ (x : EntityKey). ready_of s x.ue (ue_of s.units x.ue)) same ∙ stands.0) g k
      (ap (λ (x : EntityKey). receiver_of x home) same ∙ at))
  up_leaves (by_ack from home item rest) at stands =
      apart_if from (λ same. let never : Ue ue.0 ≡ CuUp g k = ap (λ (x : EntityKey). sender_of x home) same ∙ at in absurd cc)
  up_leaves (by_release gnb who) at stands = absurd cc
  up_leaves (by_attach plan) at stands = absurd cc
  up_leaves (by_order node order) at stands = tt
  up_leaves (by_tick node) at stands = tt
  up_leaves (by_octets from to octets) at stands = tt
  up_leaves (by_octets_on end octets) at stands = tt
  up_leaves (by_offer who q sdu) at stands = tt
  up_leaves (by_item end item rest) at stands = tt
  up_leaves (by_control_message number l to) at stands = tt

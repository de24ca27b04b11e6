-- A step beside the way of a bearer's packets leaves it as it is.
use Rattle.std.proofs.Common.{◌≡◌, ℕ, ◌+◌, ◌≤◌, List, [], Some, sym, ap, subst, ◌∙◌, arith}
use Rattle.gnb_types.specs.declared.names.Gnb.{Gnb}
use Rattle.gnb_types.specs.declared.names.UeId.{UeId}
use Rattle.gnb_types.specs.declared.names.BearerId.{BearerId}
use Rattle.gnb_types.specs.declared.keys.TunnelEnd.{TunnelEnd}
use Rattle.bearer_defs.specs.chain_defs.Models.{Member, Model}
use Rattle.unit_defs.specs.Du.{DuBearer}
use Rattle.unit_defs.specs.CuUpRecords.{CuUpBearer}
use Rattle.run_defs.specs.Units.{du_of}
use Rattle.run_defs.specs.Runs.{Reading}
use Rattle.proof_run_steps.specs.teids.Given.{below, GiveOnce}
use Rattle.law_downlink_order.specs.path.Paths.{Frame}
use Rattle.proof_node_orders.specs.du_inputs.Changes.{DuModel, model_of as du_model_of}
use Rattle.proof_cu_up_orders.specs.frame_rows.Shown.{end_of}
use Rattle.proof_bearer_refinement.specs.f1u_frames.Frames.{du_end, frames_in}
use Rattle.proof_run_steps.specs.radio_steps.Radios.{on_air}
use Rattle.proof_bearer_refinement.specs.downlink_radio.Down.{down_key}
use Rattle.proof_cu_up_orders.specs.sending_contexts.Sending.{IsSending}
use Rattle.proof_cu_up_orders.proofs.sending_contexts.Beside.{loses_one}
use Rattle.proof_bearer_refinement.proofs.other_contexts.Later.{all_lost}
use Rattle.proof_bearer_refinement.proofs.other_contexts.Orders.{Stays, sends_on}
use Rattle.proof_cu_up_orders.specs.bearer_orders.Happenings.{Contexts}
use Rattle.proof_cu_up_orders.specs.context_orders.Orders.{CuUpModel}
use Rattle.proof_bearer_refinement.specs.run_bearers.Bearers.{Numbering, contexts_of}
use Rattle.proof_run_steps.specs.tunnel_steps.Standing.{standing}
use Rattle.proof_bearer_refinement.specs.refinement_facts.Refinements.{RunState, RunItem}
use Rattle.proof_bearer_refinement.specs.runs.Steps.{Point}
use Rattle.proof_bearer_refinement.specs.runs.Fair.{IsFair}
use Rattle.law_handover_delivers.specs.downlink_path_links.Links.{AreLeft, all, rest, none, Waits}
use Rattle.law_handover_delivers.proofs.downlink_path_links.Homes.{home_stands}
use Rattle.law_handover_delivers.proofs.downlink_path_links.Airs.{waits_later}
use Rattle.law_handover_delivers.specs.downlink_path_steps.Way.{Leads, IsDownlinkPath, IsOnDownlinkPath}

pub left_sends : (before frames : List Frame) → AreLeft before frames → (d : Model) (x : ℕ) (c : CuUpBearer) (du : DuBearer) (waits : List (ℕ × List ℕ))
    → IsSending d x c (record { du = du; frames = before; waits = waits }) → IsSending d x c (record { du = du; frames = frames; waits = waits })
left_sends before frames (all is) d x c du waits h =
    subst (λ (fs : List Frame). IsSending d x c (record { du = du; frames = fs; waits = waits })) (sym is) h
left_sends before frames (rest f is) d x c du waits h = loses_one d x c (record { du = du; frames = before; waits = waits }) [] frames f is h
left_sends before frames (none is) d x c du waits h =
    subst (λ (fs : List Frame). IsSending d x c (record { du = du; frames = fs; waits = waits })) (sym is)
    (all_lost d x c (record { du = du; frames = before; waits = waits }) h)

-- the tunnel of a DU's bearer is open
pub home_open : (reading : Reading) (ue : UeId) (bearer : BearerId) (s : RunState) → IsFair s → (g : Gnb) (k : ℕ) (home : DuModel)
    → du_model_of (du_of s.units g k) ue bearer ≡ Some home → (items : List RunItem) × (standing s (du_end g k home.bearer.downlink) ≡ Some items)
home_open reading ue bearer s fair g k home there =
    home_stands ue bearer s fair.sound.standing g k (fair.sound.owned.1 g k) home there

module _ (reading : Reading) (n : Numbering) (ue : UeId) (bearer : BearerId) (p q : Point) (fair : IsFair p.state)
    (comes : GiveOnce p.state.units q.state.units) (way : IsOnDownlinkPath n ue bearer p) where
  -- the context that leads there did so before
  module _ (contexts : contexts_of n ue bearer q.state.units ≡ contexts_of n ue bearer p.state.units) (stays : (y : ℕ) → Stays y p.down q.down) where
    pub led : (x : ℕ) (part : CuUpModel) (g : Gnb) (k teid : ℕ) → Leads n ue bearer q x part g k teid → Leads n ue bearer p x part g k teid
    led x part g k teid l = record {
      there = ap (λ (c : Contexts). c x) (sym contexts) ∙ l.there;
      present = sym (ap (λ (m : Member). m.epoch) (stays x).alike) ∙ l.present ∙ (stays x).epoch;
      leads = l.leads;
    }

    pub alone_then : (x y : ℕ) (one other : CuUpModel) (end : TunnelEnd) → contexts_of n ue bearer q.state.units x ≡ Some one
        → contexts_of n ue bearer q.state.units y ≡ Some other → end_of one.bearer.downlink ≡ Some end → end_of other.bearer.downlink ≡ Some end → x ≡ y
    alone_then x y one other end first second leads same =
        way.alone x y one other end (ap (λ (c : Contexts). c x) (sym contexts) ∙ first) (ap (λ (c : Contexts). c y) (sym contexts) ∙ second) leads same

    pub given_then : (x : ℕ) (part : CuUpModel) (g : Gnb) (k teid : ℕ) → Leads n ue bearer q x part g k teid
        → teid + 1 ≤ below (du_of q.state.units g k).next_teid
    given_then x part g k teid l =
        let low = way.given x part g k teid (led x part g k teid l) in
        let more = (comes.1 g k).0 in omega (arith, low, more)

  -- contexts stay, and what DUs have of the bearer; no frame comes, and the same waits on the radio
  pub record Keeps : Type 0 where
    pub contexts : contexts_of n ue bearer q.state.units ≡ contexts_of n ue bearer p.state.units
    pub stays : (y : ℕ) → Stays y p.down q.down
    pub models : (g : Gnb) (k : ℕ) → du_model_of (du_of q.state.units g k) ue bearer ≡ du_model_of (du_of p.state.units g k) ue bearer
    pub waits : Waits (on_air q.state (down_key ue bearer)) p.down way.down.waits (on_air p.state (down_key ue bearer)).epoch
    pub frames : (g : Gnb) (k teid : ℕ) (before items : List RunItem) → standing p.state (du_end g k teid) ≡ Some before
        → standing q.state (du_end g k teid) ≡ Some items → AreLeft (frames_in before) (frames_in items)

  pub keeps_way : Keeps → IsOnDownlinkPath n ue bearer q
  keeps_way k = record {
    down = later.down;
    sends = sends_then;
    given = given_then k.contexts k.stays;
    alone = alone_then k.contexts k.stays;
  }
    where
      later : Waits (on_air q.state (down_key ue bearer)) q.down way.down.waits (on_air p.state (down_key ue bearer)).epoch
      later =
          waits_later (on_air q.state (down_key ue bearer)) p.down q.down way.down.waits (on_air p.state (down_key ue bearer)).epoch
          (ap (λ r. r.deliv) (k.stays 0).terminal) (k.stays 0).put k.waits

      sends_then : (x : ℕ) (part : CuUpModel) (g : Gnb) (m : ℕ) (home : DuModel) (items : List RunItem) → IsDownlinkPath n ue bearer q x part g m home items
          → IsSending q.down x part.bearer (record { du = home.bearer; frames = frames_in items; waits = later.down.waits })
      sends_then x part g m home items w =
          let at : du_model_of (du_of p.state.units g m) ue bearer ≡ Some home = sym (k.models g m) ∙ w.at in
          let opened = home_open reading ue bearer p.state fair g m home at in
          let was = way.sends x part g m home opened.0 (record {
            from = led k.contexts k.stays x part g m home.bearer.downlink w.from;
            at = at;
            connected = sym k.waits.at ∙ w.connected;
            stands = opened.1;
          }) in
          let on = sends_on x p.down q.down part.bearer (record { du = home.bearer; frames = frames_in opened.0; waits = way.down.waits }) (k.stays x) was in
          subst (λ (ws : List (ℕ × List ℕ)). IsSending q.down x part.bearer (record { du = home.bearer; frames = frames_in items; waits = ws })) (sym later.same)
          (left_sends (frames_in opened.0) (frames_in items) (k.frames g m home.bearer.downlink opened.0 items opened.1 w.stands) q.down x part.bearer home.bearer
          way.down.waits on)

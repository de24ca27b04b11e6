-- The way of a bearer's packets down in a run, from a CU-UP that sends to a DU to the terminal's radio, beside the bearer's model down; and
-- what is assumed of control of it.
use Rattle.std.specs.Prelude.{◌≡◌, ℕ, ◌+◌, ◌≤◌, false, List, [], Some}
use Rattle.std.specs.List.{AllByRecursion}
use Rattle.gnb_types.specs.declared.names.Gnb.{Gnb}
use Rattle.gnb_types.specs.declared.names.NodeId.{NodeId}
use Rattle.gnb_types.specs.declared.names.NodeId.TheVariants.{Du as du_id}
use Rattle.gnb_types.specs.declared.names.UeId.{UeId}
use Rattle.gnb_types.specs.declared.names.BearerId.{BearerId}
use Rattle.gnb_types.specs.declared.keys.TunnelEnd.{TunnelEnd}
use Rattle.message_types.specs.declared.rrc.Token.{Token}
use Rattle.unit_defs.specs.Ways.{Pdu, Input}
use Rattle.run_defs.specs.Units.{cu_up_of, du_of}
use Rattle.run_defs.specs.Runs.{plain_way}
use Rattle.proof_run_steps.specs.teids.Given.{below}
use Rattle.law_downlink_order.specs.path.Paths.{Frame}
use Rattle.proof_node_orders.specs.du_inputs.Changes.{DuModel, model_of as du_model_of, change_by, takes}
use Rattle.proof_cu_up_orders.specs.frame_rows.Shown.{end_of}
use Rattle.proof_bearer_refinement.specs.f1u_frames.Frames.{du_end, frames_in}
use Rattle.proof_run_steps.specs.radio_steps.Radios.{on_air}
use Rattle.proof_bearer_refinement.specs.downlink_radio.Down.{down_key, IsDown}
use Rattle.proof_cu_up_orders.specs.sending_contexts.Sending.{IsSending}
use Rattle.proof_cu_up_orders.specs.context_orders.Inputs.{orders_of}
use Rattle.proof_cu_up_orders.specs.context_orders.Orders.{CuUpModel, ContextStep, switches}
use Rattle.proof_bearer_refinement.specs.run_bearers.Bearers.{Numbering, contexts_of}
use Rattle.proof_run_steps.specs.tunnel_steps.Standing.{standing}
use Rattle.proof_bearer_refinement.specs.refinement_facts.Asked.{context_at}
use Rattle.proof_bearer_refinement.specs.refinement_facts.Refinements.{RunItem}
use Rattle.proof_bearer_refinement.specs.runs.Steps.{Point}

module _ (n : Numbering) (ue : UeId) (bearer : BearerId) where
  -- a context's downlink leads to this tunnel of a DU, and was switched for the present radio
  pub record Leads (p : Point) (x : ℕ) (part : CuUpModel) (gnb : Gnb) (number teid : ℕ) : Type 0 where
    pub there : contexts_of n ue bearer p.state.units x ≡ Some part
    pub present : (p.down.members x).epoch ≡ p.down.epoch
    pub leads : end_of part.bearer.downlink ≡ Some (du_end gnb number teid)

  -- there the DU has the bearer, in the epoch in which the terminal's radio is connected; and this stands on the tunnel
  pub record IsDownlinkPath (p : Point) (x : ℕ) (part : CuUpModel) (gnb : Gnb) (number : ℕ) (home : DuModel) (items : List RunItem) : Type 0 where
    pub from : Leads p x part gnb number home.bearer.downlink
    pub at : du_model_of (du_of p.state.units gnb number) ue bearer ≡ Some home
    pub connected : (on_air p.state (down_key ue bearer)).epoch ≡ Some home.epoch
    pub stands : standing p.state (du_end gnb number home.bearer.downlink) ≡ Some items

  -- What waits on the terminal's radio down is so. Whoever sends there on a downlink that was switched for the present radio is a context that
  -- sends (`proof_cu_up_orders::sending_contexts`), with the DU's bearer, the frames on its tunnel, and what waits on the radio. Such a downlink leads to a
  -- tunnel that its DU gave; and no two contexts' downlinks lead to one tunnel.
  pub record IsOnDownlinkPath (p : Point) : Type 0 where
    pub down : IsDown (on_air p.state (down_key ue bearer)) p.down
    pub sends : (x : ℕ) (part : CuUpModel) (gnb : Gnb) (number : ℕ) (home : DuModel) (items : List RunItem) → IsDownlinkPath p x part gnb number home items
        → IsSending p.down x part.bearer (record { du = home.bearer; frames = frames_in items; waits = down.waits })
    pub given : (x : ℕ) (part : CuUpModel) (gnb : Gnb) (number teid : ℕ) → Leads p x part gnb number teid
        → teid + 1 ≤ below (du_of p.state.units gnb number).next_teid
    pub alone : (x y : ℕ) (one other : CuUpModel) (end : TunnelEnd) → contexts_of n ue bearer p.state.units x ≡ Some one
        → contexts_of n ue bearer p.state.units y ≡ Some other → end_of one.bearer.downlink ≡ Some end → end_of other.bearer.downlink ≡ Some end → x ≡ y

  -- ---- what is assumed of control

  -- A frame that a DU takes for the bearer while the terminal's radio is connected in its context's epoch is on a tunnel to which a context
  -- sends that was switched for this radio: the CU-CP has each DU set up with the epoch of the radio that comes to it, and switches the
  -- CU-UP to it once the terminal is there.
  pub record IsSentTo (p : Point) (gnb : Gnb) (number teid : ℕ) : Type 0 where
    pub context : ℕ
    pub part : CuUpModel
    pub leads : Leads p context part gnb number teid

  abbrev pub AssumesFrame : Point → Gnb → ℕ → Input Token Pdu → Type 0
  AssumesFrame p gnb number input =
      (home : DuModel) (f : Frame) → du_model_of (du_of p.state.units gnb number) ue bearer ≡ Some home
      → change_by plain_way ue bearer (du_of p.state.units gnb number) input ≡ takes f
      → (on_air p.state (down_key ue bearer)).epoch ≡ Some home.epoch → IsSentTo p gnb number home.bearer.downlink

  -- A switch for the present radio names a tunnel that its DU gave; and where this is the tunnel of the DU's bearer, nothing came there
  -- yet: the DU gave it for this radio, in its answer to a set-up or a modification, and the CU-UP is asked once to switch there.
  pub record IsFresh (p : Point) (gnb : Gnb) (number teid : ℕ) : Type 0 where
    pub given : teid + 1 ≤ below (du_of p.state.units gnb number).next_teid
    pub untouched : (home : DuModel) (items : List RunItem) → du_model_of (du_of p.state.units gnb number) ue bearer ≡ Some home
        → home.bearer.downlink ≡ teid → standing p.state (du_end gnb number teid) ≡ Some items
        → (home.bearer.awaited ≡ 0) × (home.bearer.gap ≡ false) × (frames_in items ≡ [])

  -- and no other context's downlink leads there: a DU gives a TEID once, and the CU-CP tells it to one CU-UP
  pub record IsNamed (p : Point) (x epoch : ℕ) (to : NodeId) (teid : ℕ) : Type 0 where
    pub alone : (y : ℕ) (part : CuUpModel) → contexts_of n ue bearer p.state.units y ≡ Some part
        → end_of part.bearer.downlink ≡ Some (record { node = to; teid = teid }) → y ≡ x
    pub fresh : epoch ≡ p.down.epoch → (gnb : Gnb) (number : ℕ) → to ≡ du_id gnb number → IsFresh p gnb number teid

  abbrev pub AssumesSwitch : Point → ℕ → ℕ → ContextStep Pdu → Type 0
  AssumesSwitch p x epoch (switches to teid) = IsNamed p x epoch to teid
  AssumesSwitch p x epoch order = Unit {0}

  -- of each order of a CU-UP's step, where its switches are for this radio
  abbrev pub AssumesSwitches : Point → Gnb → ℕ → Input Token Pdu → ℕ → Type 0
  AssumesSwitches p gnb number input epoch =
      AllByRecursion (AssumesSwitch p (context_at n ue bearer p.state.units gnb number) epoch)
      (orders_of plain_way (cu_up_of p.state.units gnb number) ue bearer input)

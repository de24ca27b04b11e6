-- What the orders of a bearer's uplink ask that a CU-UP doesn't test of its own: that items stand first where they are taken from, and
-- what is assumed of control.
use Rattle.std.specs.Prelude.{◌≡◌, ◌≢◌, ℕ, true, List, ◌∷◌, Some}
use Rattle.unit_defs.specs.Ways.{packet_content, Taken, numbered_item, uplink_item, end_item}
use Rattle.unit_defs.specs.CuUpRecords.{TunnelKind, f1u_uplink, forwarding_up}
use Rattle.unit_defs.specs.CuUpBearers.{is_one_of}
use Rattle.bearer_defs.specs.uplink_defs.Models.{Item, numbered, end_marker, Member, Model, no_member}
use Rattle.bearer_defs.specs.uplink_defs.Orders.{adds, switches, knows, resumes, releases}
use Rattle.bearer_defs.specs.uplink_defs.Assumptions.{IsAssumed}
use Rattle.proof_cu_up_orders.specs.context_orders.Orders.{CuUpModel, ContextStep}
use Rattle.proof_cu_up_orders.specs.context_orders.Orders as ups

-- the item stands first on the tunnel that it is of, which is open
abbrev pub StandsFirst : {P : Type 0} → Member → List Item → TunnelKind → ℕ → Taken P → Type 0
StandsFirst m rest f1u_uplink teid (uplink_item (packet_content (Some count) packet)) =
    (is_one_of m.bearer.uplinks teid ≡ true) × (m.uplink teid ≡ numbered count packet ∷ rest)
StandsFirst m rest f1u_uplink teid end_item = (is_one_of m.bearer.uplinks teid ≡ true) × (m.uplink teid ≡ end_marker ∷ rest)
StandsFirst m rest forwarding_up teid (numbered_item (Some count) packet) = m.forwarded ≡ numbered count packet ∷ rest
StandsFirst m rest forwarding_up teid end_item = m.forwarded ≡ end_marker ∷ rest
StandsFirst m rest kind teid item = Unit {0}

-- control owes of the orders what is asked of them; an SN status that comes where the terminal is there hands up, so that this is the
-- context that it is at
abbrev pub ControlAssumes : {P : Type 0} → Model → ℕ → CuUpModel → ContextStep P → Type 0
ControlAssumes s x p (ups.adds teid) = IsAssumed s (adds x teid)
ControlAssumes s x p (ups.switches du teid) = IsAssumed s (switches x)
ControlAssumes s x p (ups.knows status) = IsAssumed s (knows x status) × (p.at.flags.arrived ≡ true → x ≡ s.station)
ControlAssumes s x p ups.resumes = IsAssumed s (resumes x)
ControlAssumes s x p ups.releases = IsAssumed s (releases x)
ControlAssumes s x p order = Unit {0}

-- this context is no more, and nothing else changed
pub record Ended (s t : Model) (x : ℕ) : Type 0 where
  pub here : t.members x ≡ no_member
  pub others : (y : ℕ) → y ≢ x → t.members y ≡ s.members y
  pub rest : (t.delivered ≡ s.delivered) × (t.station ≡ s.station) × (t.terminal ≡ s.terminal) × (t.connected ≡ s.connected)
      × (t.air ≡ s.air) × (t.carried ≡ s.carried) × (t.reached ≡ s.reached) × (t.offered ≡ s.offered)

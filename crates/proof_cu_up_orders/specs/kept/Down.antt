-- What the orders of a bearer's downlink ask that a CU-UP doesn't test of its own: that items stand first where they are taken
-- from, and what is assumed of control.
use Rattle.std.specs.Prelude.{◌≡◌, ◌≢◌, ℕ, true, List, ◌∷◌, Some}
use Rattle.unit_defs.specs.Ways.{report_content, Taken, fresh_item, numbered_item, uplink_item, status_item, end_item}
use Rattle.unit_defs.specs.CuUpRecords.{TunnelKind, n3, f1u_uplink, forwarding_down}
use Rattle.bearer_defs.specs.chain_defs.Models.{Item, numbered, fresh, end_marker, Member, Model, is_open, no_member}
use Rattle.bearer_defs.specs.chain_defs.Orders.{switches, knows, resumes, releases, confirms, reports}
use Rattle.bearer_defs.specs.chain_defs.Assumptions.{IsAssumed}
use Rattle.proof_cu_up_orders.specs.context_orders.Orders.{ContextStep}
use Rattle.proof_cu_up_orders.specs.context_orders.Orders as ups

-- the item stands first on the tunnel that it is of, which is open
abbrev pub StandsFirst : {P : Type 0} → Member → List Item → TunnelKind → Taken P → Type 0
StandsFirst m rest n3 (fresh_item packet) = (is_open m.bearer.n3 ≡ true) × (m.n3 ≡ fresh packet ∷ rest)
StandsFirst m rest n3 end_item = (is_open m.bearer.n3 ≡ true) × (m.n3 ≡ end_marker ∷ rest)
StandsFirst m rest forwarding_down (fresh_item packet) = m.forwarded ≡ fresh packet ∷ rest
StandsFirst m rest forwarding_down (numbered_item (Some count) packet) = m.forwarded ≡ numbered count packet ∷ rest
StandsFirst m rest forwarding_down end_item = m.forwarded ≡ end_marker ∷ rest
StandsFirst m rest kind item = Unit {0}

-- what is known of items that confirm; of others nothing is assumed
abbrev pub ItemAssumes : {P : Type 0} → Model → ℕ → TunnelKind → Taken P → Type 0
ItemAssumes s x f1u_uplink (uplink_item (report_content fmc bits)) = IsAssumed s (reports x fmc bits)
ItemAssumes s x f1u_uplink (status_item lost (Some count)) = IsAssumed s (confirms x count)
ItemAssumes s x kind item = Unit {0}

-- control owes of the first order what is asked of it, and of those after it nothing
abbrev pub ControlAssumes : {P : Type 0} → Model → ℕ → ℕ → ContextStep P → Type 0
ControlAssumes s x epoch (ups.switches du teid) = IsAssumed s (switches x (record { du = du; teid = teid; next = 0 }) epoch)
ControlAssumes s x epoch (ups.knows status) = IsAssumed s (knows x status)
ControlAssumes s x epoch ups.resumes = IsAssumed s (resumes x)
ControlAssumes s x epoch ups.releases = IsAssumed s (releases x)
ControlAssumes s x epoch order = Unit {0}

-- this context is no more, and nothing else changed
pub record Ended (s t : Model) (x : ℕ) : Type 0 where
  pub here : t.members x ≡ no_member
  pub others : (y : ℕ) → y ≢ x → t.members y ≡ s.members y
  pub rest : (t.air ≡ s.air) × (t.epoch ≡ s.epoch) × (t.path ≡ s.path) × (t.station ≡ s.station) × (t.offered ≡ s.offered)
      × (t.terminal ≡ s.terminal) × (t.delivered ≡ s.delivered)

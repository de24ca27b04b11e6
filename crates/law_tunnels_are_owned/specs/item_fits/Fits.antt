-- What an item of a CU-UP's tunnel asks of the bearer that control owes; but for that it is one that its orders take.
use Rattle.std.specs.Prelude.{ℕ, ◌≡◌, true, false, Some, ◌⊎◌}
use Rattle.unit_defs.specs.Ways.{Taken, numbered_item, status_item, end_item}
use Rattle.unit_defs.specs.CuUpRecords.{TunnelKind, n3, f1u_uplink, forwarding_down, forwarding_up}
use Rattle.unit_defs.specs.CuUpBearers.{has_downlink}
use Rattle.proof_cu_up_orders.specs.context_orders.Orders.{CuUpModel}
use Rattle.proof_cu_up_orders.specs.down_orders.Down as down
use Rattle.proof_cu_up_orders.specs.orders.Up as up

-- The End Marker of N3 comes to a frozen bearer whose N3 is open; one of forwarding comes once; and what is sent again, or makes room
-- for what waits, has a downlink to go to.
abbrev pub ControlAssumes : {P : Type 0} → CuUpModel → TunnelKind → Taken P → Type 0
ControlAssumes p n3 end_item = (p.at.flags.frozen ≡ true) × ((teid : ℕ) × (p.bearer.n3 ≡ Some teid))
ControlAssumes p forwarding_down end_item = p.bearer.down_ended ≡ false
ControlAssumes p forwarding_up end_item = p.bearer.up_ended ≡ false
ControlAssumes p forwarding_down (numbered_item count packet) = p.at.flags.frozen ≡ false → has_downlink p.bearer.downlink ≡ true
ControlAssumes p f1u_uplink (status_item lost delivered) = p.at.flags.frozen ≡ false → has_downlink p.bearer.downlink ≡ true
ControlAssumes p kind item = Unit {0}

-- it is fit for the bearer's downlink, or for its uplink
abbrev pub IsFit : {P : Type 0} → CuUpModel → TunnelKind → Taken P → Type 0
IsFit p kind item = down.IsFit p kind item ⊎ up.IsFit p kind item

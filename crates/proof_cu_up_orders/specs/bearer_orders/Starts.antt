-- The first context of a bearer, and what a model has of it.
use Rattle.std.specs.Prelude.{ℕ, false, List, [], ◌∷◌, Some, None}
use Rattle.gnb_types.specs.declared.names.SnBits.{SnBits}
use Rattle.unit_defs.specs.CuUpRecords.{CuUpBearer, DownlinkTunnel}
use Rattle.unit_defs.specs.CuUpBearers.{made}
use Rattle.bearer_defs.specs.chain_defs.Models.{set}
use Rattle.bearer_defs.specs.chain_defs.Models as down_models
use Rattle.bearer_defs.specs.chain_defs.Orders as down
use Rattle.bearer_defs.specs.chain_defs.Assumptions as down_assumptions
use Rattle.bearer_defs.specs.uplink_defs.Models as up_models
use Rattle.proof_cu_up_orders.specs.context_orders.Orders.{CuUpModel}
use Rattle.proof_cu_up_orders.specs.bearer_orders.Happenings.{Contexts}
use Rattle.proof_cu_up_orders.specs.bearer_orders.Down as downs
use Rattle.proof_cu_up_orders.specs.bearer_orders.Up as ups

-- one context alone
abbrev pub only : ℕ → CuUpModel → Contexts
only first p = set (λ q. None) first (Some p)

abbrev pub with_downlink : ℕ → DownlinkTunnel → CuUpBearer
with_downlink teid d = record (made false teid) { downlink = Some d }

-- after a switch at the start, which is kept, the model has this context
abbrev pub DownStarts : SnBits → ℕ → ℕ → ℕ → DownlinkTunnel → CuUpModel → Type 0
DownStarts sn quota first teid d p =
    let orders : List down.ModelStep = down.switches first d 0 ∷ [] in
    down_assumptions.AreKept sn quota (down_models.initial first teid) orders × downs.Has sn quota (down.run (down_models.initial first teid) orders) (only first p)

abbrev pub UpStarts : ℕ → ℕ → CuUpModel → Type 0
UpStarts first teid p = ups.Has (up_models.initial first teid) (only first p)

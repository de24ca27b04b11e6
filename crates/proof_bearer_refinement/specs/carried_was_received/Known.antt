-- What was carried on a terminal's radio down and isn't confirmed to the DU was received.
use Rattle.std.specs.Prelude.{◌≡◌, true, ℕ, ◌<◌, List}
use Rattle.std.specs.List.{AllByRecursion}
use Rattle.std.specs.Ordering.{eq_by_cmp}
use Rattle.gnb_types.specs.declared.keys.EntityKey.{EntityKey}
use Rattle.gnb_types.specs.Orders.{entity_cmp}
use Rattle.unit_defs.specs.Ways.{Pdu, packet_pdu, report_pdu}
use Rattle.transport_defs.specs.Links.{Radio}
use Rattle.run_defs.specs.Written.{Written}
use Rattle.proof_run_steps.specs.steps.Causes.{by_air}
use Rattle.proof_bearer_refinement.specs.uplink_radio.Radio.{RunCause, IsRadio}

-- a packet was received, where the terminal received all below `deliv`
abbrev pub WasBelow : ℕ → Pdu → Type 0
WasBelow deliv (packet_pdu count packet) = count < deliv
WasBelow deliv (report_pdu fmc bits) = Unit {0}

-- `known`: the COUNTs of what was carried there and isn't confirmed to the DU; `waits`: the packets that weren't carried
pub record AreKnown (r : Radio (Written Pdu)) (deliv : ℕ) : Type 0 where
  pub known : List ℕ
  pub waits : List (ℕ × List ℕ)
  pub radio : IsRadio r known waits
  pub received : AllByRecursion (λ (count : ℕ). count < deliv) known

-- a packet that is carried there was received
abbrev pub Receives : EntityKey → ℕ → RunCause → Type 0
Receives key deliv (by_air from home item) = eq_by_cmp entity_cmp key from ≡ true → WasBelow deliv item.content.says
Receives key deliv cause = Unit {0}

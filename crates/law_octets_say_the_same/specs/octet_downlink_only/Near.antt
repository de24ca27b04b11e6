-- That the COUNT of the delivery status that a CU-UP gets next from a tunnel is among the last space of COUNTs below its next one: so it
-- finds the COUNT from its number.
use Rattle.std.specs.Prelude.{ℕ, ◌≡◌, ◌<◌, ◌≤◌, ◌+◌, List, [], ◌∷◌, Some}
use Rattle.std.specs.List.{AllByRecursion}
use Rattle.std.specs.Ordering.{nat_cmp}
use Rattle.gnb_types.specs.declared.names.Gnb.{Gnb}
use Rattle.gnb_types.specs.declared.names.NodeId.TheVariants.{CuUp as up_id}
use Rattle.gnb_types.specs.Orders.{tunnel_cmp, bearer_cmp}
use Rattle.tables.specs.Tables.{find}
use Rattle.pdcp.specs.Numbers.{space}
use Rattle.scenario_text.specs.declared.event.Event.{Event}
use Rattle.transport_defs.specs.declared.Item.{Item}
use Rattle.unit_defs.specs.Ways.{Pdu, Load, status}
use Rattle.unit_defs.specs.CuUpRecords.{CuUpBearer, CuUpContext, CuUpTunnel}
use Rattle.unit_defs.specs.CuUp.{context_of}
use Rattle.run_defs.specs.Units.{cu_up_of}
use Rattle.run_defs.specs.Written.{Written}
use Rattle.run_defs.specs.States.{new_state}
use Rattle.run_defs.specs.Runs.{Reading, plain_world}
use Rattle.proof_run_steps.specs.steps.Reached.{reached}
use Rattle.law_octets_say_the_same.specs.octet_runs.Again.{PlainState}
use Rattle.law_octets_say_the_same.specs.octet_facts.Ranges.{IsConfirmedDown}

abbrev pub AreNear : PlainState → Type 0
AreNear s =
    (g : Gnb) (n teid : ℕ) (item : Item (Written (Load Pdu))) (rest : List (Item (Written (Load Pdu))))
    → find tunnel_cmp s.tunnels (record { node = up_id g n; teid = teid }) ≡ Some (item ∷ rest)
    → (count : ℕ) → item.content.says ≡ status [] (Some count)
    → (t : CuUpTunnel) → find nat_cmp (cu_up_of s.units g n).tunnels teid ≡ Some t
    → (c : CuUpContext) → context_of (cu_up_of s.units g n) t.ue ≡ Some c
    → (b : CuUpBearer) → find bearer_cmp c.bearers t.bearer ≡ Some b
    → (count < b.sender.next) × (b.sender.next ≤ count + space c.sn)

-- in each state to which such a script comes
abbrev pub StatusesAreNear : Reading → Type 0
StatusesAreNear reading =
    (past : List Event) (s : PlainState) → AllByRecursion IsConfirmedDown past → reached (plain_world reading) past new_state ≡ Some s → AreNear s

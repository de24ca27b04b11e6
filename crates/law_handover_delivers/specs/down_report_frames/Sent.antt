-- The status reports in the frames that a bearer of a CU-UP sends: at a switch what its receiver has, and at an SN status, where the terminal
-- is there, what this says.
use Rattle.std.specs.Prelude.{◌≡◌, ℕ, true, List}
use Rattle.std.specs.List.{AllByRecursion}
use Rattle.pdcp_defs.specs.Receivers.{received_bits}
use Rattle.unit_defs.specs.Ways.{Pdu}
use Rattle.unit_defs.specs.CuUpBearers.{bits_in}
use Rattle.proof_cu_up_orders.specs.context_orders.Orders.{CuUpModel, ContextStep, switches, knows}
use Rattle.law_downlink_order.specs.path.Paths.{Frame}
use Rattle.proof_cu_up_orders.specs.frame_rows.Sent.{switched_to}
use Rattle.law_handover_delivers.specs.down_reports.Reports.{ReportIsTrue, PayloadIsTrue}

abbrev pub FramesAreTrue : ℕ → List Frame → Type 0
FramesAreTrue reached fs = AllByRecursion (λ (f : Frame). PayloadIsTrue reached f.pdu) fs

abbrev pub OrderIsTrue : ℕ → CuUpModel → ContextStep Pdu → Type 0
OrderIsTrue reached p (switches du teid) =
    p.at.flags.may_serve ≡ true → ReportIsTrue reached (switched_to p du teid).receiver.deliv (received_bits (switched_to p du teid).receiver)
OrderIsTrue reached p (knows status) = p.at.flags.arrived ≡ true → ReportIsTrue reached status.ul_first (bits_in status.ul_received)
OrderIsTrue reached p order = Unit {0}

use Rattle.std.proofs.Common.{◌≡◌, length}
use Rattle.std.specs.List.{AllByRecursion}
use Rattle.unit_defs.specs.Ue.{new_bearer}
use Rattle.pdcp_bearers.specs.ue_packets.Bearers.{kept}
use Rattle.ue_node.specs.rows.Records.{IsPlanned}
use Rattle.ue_node.proofs.rows.record.UeRecord.new.Given as goal

abbrev pub invariant-loop-number : goal.invariant-loop-number
invariant-loop-number l = record {
  count : length l.bearers.items ≡ l.number;
  new : AllByRecursion (λ b. kept b ≡ new_bearer) l.bearers.items;
  all : AllByRecursion (λ b. IsPlanned l.plan b) l.bearers.items;
}

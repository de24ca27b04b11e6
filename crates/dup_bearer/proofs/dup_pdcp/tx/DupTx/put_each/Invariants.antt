use Rattle.std.proofs.Common.{◌≡◌, ◌++◌, length}
use Rattle.std.specs.List.{AllByRecursion}
use Rattle.dup_defs.specs.Senders.{all_on}
use Rattle.pdcp_bearers.specs.ue_bearers.Senders.{from_on}
use Rattle.dup_bearer.specs.dup_pdcp.Entity.{IsPut, puts_of_code}
use Rattle.dup_bearer.proofs.dup_pdcp.tx.DupTx.put_each.Given as goal

-- what was put, and what is put from this COUNT on, is all
abbrev pub invariant-loop-count : goal.invariant-loop-count
invariant-loop-count l = record {
  all : puts_of_code l.self.sn l.puts ++ all_on l.leg (from_on l.from l.self.entity.sender.unconfirmed)
      ≡ puts_of_code l.self.sn l.initial.puts ++ all_on l.leg (from_on 0 l.self.entity.sender.unconfirmed);
  are : AllByRecursion (IsPut l.self.sn) l.initial.puts → AllByRecursion (IsPut l.self.sn) l.puts;
}

abbrev pub decreases-loop-count : goal.decreases-loop-count
decreases-loop-count l = length (from_on l.from l.self.entity.sender.unconfirmed)

use Rattle.std.proofs.Common.{◌≡◌, length}
use Rattle.std.specs.List.{AllByRecursion}
use Rattle.dup_defs.specs.Senders.{puts_first, number_waiting}
use Rattle.dup_bearer.specs.dup_pdcp.Entity.{IsPut, puts_of_code}
use Rattle.dup_bearer.specs.dup_pdcp.inside.Views.{with_entity}
use Rattle.dup_bearer.proofs.dup_pdcp.tx.DupTx.number_waiting.Given as goal

-- what was put, and what is numbered from here on, is all
abbrev pub invariant-loop-puts : goal.invariant-loop-puts
invariant-loop-puts l = record {
  all : puts_first (puts_of_code l.initial.self.sn l.puts) (number_waiting l.initial.self.sn l.initial.self.quota l.self.entity)
      ≡ puts_first (puts_of_code l.initial.self.sn l.initial.puts) (number_waiting l.initial.self.sn l.initial.self.quota l.initial.self.entity);
  are : AllByRecursion (IsPut l.initial.self.sn) l.puts;
  same : l.self ≡ with_entity l.initial.self l.self.entity;
}

abbrev pub decreases-loop-puts : goal.decreases-loop-puts
decreases-loop-puts l = length l.self.entity.waiting

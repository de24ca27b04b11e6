use Rattle.proof_unit_steps.proofs.count_ranges.Ups.{fresh_in, status_in}
use Rattle.proof_unit_steps.proofs.count_ranges.a_cu_up_counts_in_range.Goals as goal

pub returns-clause-packets : goal.returns-clause-packets
returns-clause-packets g c = λ way at p b h. fresh_in way at p b h

pub returns-clause-statuses : goal.returns-clause-statuses
returns-clause-statuses g c = λ way at lost delivered b h. status_in way at lost delivered b h

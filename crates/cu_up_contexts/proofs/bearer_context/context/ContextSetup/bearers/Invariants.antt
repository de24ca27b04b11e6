use Rattle.std.proofs.Common.{◌≡◌, ◌+◌, ◌*◌, length}
use Rattle.unit_defs.specs.CuUpBearers.{teids_of_bearer}
use Rattle.unit_defs.specs.CuUp.{bearers_from, bearers_made}
use Rattle.cu_up_contexts.specs.bearer_context.Bearers.{numbered, shared, AreServed}
use Rattle.cu_up_contexts.specs.bearer_context.Contexts.{flags_at_first}
use Rattle.cu_up_contexts.proofs.bearer_context.context.ContextSetup.bearers.Given as goal

abbrev pub invariant-loop-index : goal.invariant-loop-index
invariant-loop-index l = record {
  count : length l.bearers.items ≡ l.index;
  teid : l.teid ≡ l.first + l.index * teids_of_bearer l.self.target;
  made : numbered 1 l.bearers.items ≡ bearers_made l.self.target l.first (bearers_from 1 l.index);
  served : AreServed (shared l.self.sn l.self.quota (flags_at_first l.self.target)) l.bearers.items;
}

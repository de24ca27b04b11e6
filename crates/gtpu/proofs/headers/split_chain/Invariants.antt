use Rattle.std.proofs.Common.{◌≤◌, length}
use Rattle.gtpu.proofs.Chains.{Passes}
use Rattle.gtpu.proofs.headers.split_chain.Given as goal

abbrev pub invariant-loop-code : goal.invariant-loop-code
invariant-loop-code l = record {
  passes : Passes l.fn.first l.octets l.code l.rest;
  within : length l.rest ≤ length l.octets;
}

abbrev pub decreases-loop-code : goal.decreases-loop-code
decreases-loop-code l = length l.rest

use Rattle.std.proofs.Common.{◌≡◌, ◌++◌}
use Rattle.std.specs.List.{AllByRecursion}
use Rattle.std.specs.VecDeque.Iter.{deque_iter_rest}
use Rattle.pdcp_bearers.specs.ue_bearers.Senders.{IsPacket}
use Rattle.cu_up_bearer.proofs.bearers.Forwards.{fresh_outputs}
use Rattle.cu_up_bearer.proofs.bearers.forwarding.forward_waiting.Given as goal

-- what was put out, and what still goes on, is all
abbrev pub invariant-loop-packet : goal.invariant-loop-packet
invariant-loop-packet l = record {
  all : l.out ++ fresh_outputs l.at l.hop (deque_iter_rest l.packet-iterator) ≡ l.initial.out ++ fresh_outputs l.at l.hop l.sending.waiting;
  packets : AllByRecursion IsPacket (deque_iter_rest l.packet-iterator);
}

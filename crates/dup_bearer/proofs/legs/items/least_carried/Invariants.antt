use Rattle.std.proofs.Common.{◌≡◌, fold, min}
use Rattle.std.specs.VecDeque.Iter.{deque_iter_rest}
use Rattle.dup_bearer.proofs.legs.items.least_carried.Given as goal

abbrev pub invariant-loop-count : goal.invariant-loop-count
invariant-loop-count l = fold min l.least (deque_iter_rest l.count-iterator) ≡ fold min l.initial.least (deque_iter_rest l.initial.count-iterator)

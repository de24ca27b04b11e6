use Rattle.std.proofs.Common.{◌≡◌, fold, min, map}
use Rattle.std.specs.VecDeque.Iter.{deque_iter_rest}
use Rattle.dup_bearer.proofs.legs.items.least_coming.Given as goal

abbrev pub invariant-loop-count : goal.invariant-loop-count
invariant-loop-count l =
    fold min l.least (map (λ e. e.0) (deque_iter_rest l.count-iterator))
    ≡ fold min l.initial.least (map (λ e. e.0) (deque_iter_rest l.initial.count-iterator))

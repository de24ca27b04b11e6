use Rattle.std.proofs.Common.{◌≡◌, ◌++◌, length, map}
use Rattle.unit_defs.specs.octet_defs.Codec.{Codec, octet_way}
use Rattle.unit_defs.specs.CuCpRecords.{not_awaited}
use Rattle.unit_requests.proofs.waiting_requests.forgetting.not_awaited.Given as goal

-- what is done, and what is left, is all
abbrev pub invariant-loop-waiting : goal.invariant-loop-waiting
invariant-loop-waiting l =
    (codec : Codec) → l.after ++ map (not_awaited (octet_way codec)) l.queue ≡ map (not_awaited (octet_way codec)) l.initial.queue

abbrev pub decreases-loop-waiting : goal.decreases-loop-waiting
decreases-loop-waiting l = length l.queue

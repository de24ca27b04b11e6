use Rattle.std.proofs.Common.{◌≡◌, length}
use Rattle.packet_pool.proofs.RegionLemmas.{AreLinked}
use Rattle.packet_pool.proofs.region.Region.new.Given as goal

abbrev pub invariant-loop-number : goal.invariant-loop-number
invariant-loop-number l = record { size : length l.blocks.items ≡ l.number; linked : AreLinked l.blocks.items }

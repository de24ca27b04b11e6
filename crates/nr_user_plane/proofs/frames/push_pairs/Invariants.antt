-- The octets so far and those of the pairs that are left are all.
use Rattle.std.proofs.Common.{◌≡◌, ◌++◌, drop}
use Rattle.std.specs.List.{flat_map}
use Rattle.nr_user_plane.specs.Frames.{range_octets}
use Rattle.nr_user_plane.proofs.frames.push_pairs.Given as goal

abbrev pub invariant-loop-start : goal.invariant-loop-start
invariant-loop-start l =
    l.octets ++ flat_map range_octets (drop l.start-index l.pairs) ≡ l.fn.octets ++ flat_map range_octets l.pairs

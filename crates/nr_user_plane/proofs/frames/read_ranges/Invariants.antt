-- The ranges so far and those that are left to read are all, the rest decides whether all are apart, and it is long enough.
use Rattle.std.proofs.Common.{◌≡◌, ◌≤◌, ◌-◌, ◌*◌, ◌^◌, ◌++◌, length, drop}
use Rattle.nr_user_plane.specs.Reasons.{pairs_at, are_apart}
use Rattle.nr_user_plane.proofs.frames.read_ranges.Given as goal

abbrev pub invariant-loop-rest : goal.invariant-loop-rest
invariant-loop-rest l = record {
  pairs : l.ranges ++ pairs_at (l.count - length l.ranges) l.rest ≡ pairs_at l.count l.fn.octets;
  apart : are_apart 0 (pairs_at l.count l.fn.octets) ≡ are_apart l.least (pairs_at (l.count - length l.ranges) l.rest);
  ends : drop (6 * (l.count - length l.ranges)) l.rest ≡ drop (6 * l.count) l.fn.octets;
  whole : 6 * (l.count - length l.ranges) ≤ length l.rest;
  room : length l.ranges ≤ l.count;
  bound : l.least ≤ 2 ^ 24;
}

abbrev pub decreases-loop-rest : goal.decreases-loop-rest
decreases-loop-rest l = l.count - length l.ranges

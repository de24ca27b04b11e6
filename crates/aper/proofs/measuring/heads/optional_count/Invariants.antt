use Rattle.std.proofs.Common.{◌≡◌, ◌+◌, ◌≤◌, drop}
use Rattle.aper.specs.measuring.Heads.{optional_count}
use Rattle.aper.proofs.measuring.heads.optional_count.Given as goal

abbrev pub invariant-loop-part : goal.invariant-loop-part
invariant-loop-part l = (l.count + optional_count (drop l.part-index l.parts) ≡ optional_count l.parts) × (l.count ≤ l.part-index)

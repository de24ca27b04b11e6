-- A CU-UP between two hops (TS 38.300, 9.2.3.2.3): what comes from below goes on above.
use Rattle.std.specs.Prelude.{ℕ, List, Option, Some, None, Result, Ok, Err}
use Rattle.link_defs.specs.Layouts.{forwarded_numbered, forwarded_fresh}
use Rattle.forwarding.specs.declared.error.HopError.{HopError}
use Rattle.forwarding.specs.Sources.{SourceEnd}
use Rattle.forwarding.specs.Targets.{TargetEnd, count_after}

pub record Relayed : Type 0 where
  pub below : TargetEnd
  pub above : SourceEnd

abbrev pub relay : TargetEnd → SourceEnd → Relayed
relay below above = record { below = below; above = above }

-- a packet with the COUNT that its number stands for below, or without a number
abbrev pub numbered_above : SourceEnd → List ℕ → Result ℕ HopError → Result (List ℕ) HopError
numbered_above above packet (Err error) = Err error
numbered_above above packet (Ok count) = Ok (forwarded_numbered above.sn above.hop.down count packet)

abbrev pub passed : Relayed → Option ℕ → List ℕ → Result (List ℕ) HopError
passed r None packet = Ok (forwarded_fresh r.above.hop.down packet)
passed r (Some number) packet = numbered_above r.above packet (count_after r.below.sn r.below.dl_next number)

-- Items above a COUNT.
use Rattle.std.proofs.Common.{◌≡◌, ℕ, ◌+◌, ◌≤◌, Bool, true, false, cond, nat_lt, List, [], ◌∷◌, length, arith}
use Rattle.dup_defs.specs.dup_run_defs.Run.{above}
use Rattle.dup_bearer.specs.legs.Legs.{IsPacket, ArePackets}

pub fewer_above : (count : ℕ) (es : List (ℕ × List ℕ)) → length (above count es) ≤ length es
fewer_above count [] = omega arith
fewer_above count (e ∷ es) = by (nat_lt count e.0) (fewer_above count es)
  where
    by : (b : Bool) → length (above count es) ≤ length es → length (cond b (e ∷ above count es) (above count es)) ≤ length (e ∷ es)
    by true later = omega (arith, later)
    by false later = omega (arith, later)

pub packets_above : (count : ℕ) (es : List (ℕ × List ℕ)) → ArePackets es → ArePackets (above count es)
packets_above count [] all = tt
packets_above count (e ∷ es) all = by (nat_lt count e.0) (packets_above count es all.1)
  where
    by : (b : Bool) → ArePackets (above count es) → ArePackets (cond b (e ∷ above count es) (above count es))
    by true later = (all.0, later)
    by false later = later

-- The runs that a script reaches: each event goes on, and leaves at most half a space of COUNTs outstanding. The newest event first.
use Rattle.std.specs.Prelude.{◌≡◌, ◌⊎◌, ℕ, ◌+◌, ◌≤◌, List, [], ◌∷◌, ⊤}
use Rattle.gnb_types.specs.declared.names.SnBits.{SnBits}
use Rattle.pdcp.specs.Numbers.{half}
use Rattle.um_defs.specs.declared.types.event.UmEvent.{UmEvent}
use Rattle.um_defs.specs.declared.types.event.UmEvent.TheVariants.{Offer}
use Rattle.um_defs.specs.declared.types.line.UmLine.{UmLine}
use Rattle.um_defs.specs.declared.types.line.UmLine.TheVariants as lines
use Rattle.um_defs.specs.um_run_defs.Run.{UmRun, new_run, goes_on, does_event, span}

pub record GoesOn (sn : SnBits) (ticks : ℕ) (event : UmEvent) (before : UmRun) (printed : List UmLine) (after : UmRun) : Type 0 where
  pub outcome : does_event sn ticks event before ≡ goes_on printed after
  pub within : span after ≤ half sn

abbrev pub IsReached : SnBits → ℕ → List UmEvent → UmRun → Type 0
IsReached sn ticks [] s = s ≡ new_run
IsReached sn ticks (event ∷ earlier) s =
    (before : UmRun) × (printed : List UmLine) × IsReached sn ticks earlier before × GoesOn sn ticks event before printed s

-- this packet was offered as the one of this COUNT: so many messages were put before
abbrev pub WasOffered : SnBits → ℕ → List UmEvent → ℕ → List ℕ → Type 0
WasOffered sn ticks [] count packet = ⊥
WasOffered sn ticks (event ∷ earlier) count packet =
    ((event ≡ Offer packet) × (before : UmRun) × IsReached sn ticks earlier before × (before.puts ≡ count))
    ⊎ WasOffered sn ticks earlier count packet

-- each packet that is delivered in these lines has the property
abbrev pub EachDelivered : (ℕ → List ℕ → Type 0) → List UmLine → Type 0
EachDelivered P [] = ⊤
EachDelivered P (lines.Deliver count packet ∷ more) = P count packet × EachDelivered P more
EachDelivered P (line ∷ more) = EachDelivered P more

-- the COUNTs that are delivered in these lines rise, none below the first number, each below the second
abbrev pub Rises : ℕ → ℕ → List UmLine → Type 0
Rises low high [] = low ≤ high
Rises low high (lines.Deliver count packet ∷ more) = (low ≤ count) × Rises (count + 1) high more
Rises low high (line ∷ more) = Rises low high more

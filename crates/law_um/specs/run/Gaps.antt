-- How long a COUNT that is missing was awaited, in events.
use Rattle.std.specs.Prelude.{◌≡◌, ◌⊎◌, ℕ, ◌+◌, ◌<◌, ◌≤◌, List, [], ◌∷◌, Some, None}
use Rattle.std.specs.Ordering.{nat_cmp}
use Rattle.gnb_types.specs.declared.names.SnBits.{SnBits}
use Rattle.tables.specs.Tables.{find}
use Rattle.um_defs.specs.declared.types.event.UmEvent.{UmEvent}
use Rattle.um_defs.specs.declared.types.event.UmEvent.TheVariants as events
use Rattle.um_defs.specs.Receivers.{refuses}
use Rattle.um_defs.specs.um_run_defs.Run.{UmRun}
use Rattle.law_um.specs.run.Reached.{IsReached}

-- the message of a COUNT is given, once or not for the last time
abbrev pub Gives : UmEvent → ℕ → Type 0
Gives event count = (event ≡ events.Give (count + 1)) ⊎ (event ≡ events.Again (count + 1))

-- it is on the link, and the entity takes it
abbrev pub TakesNow : SnBits → ℕ → UmEvent → List UmEvent → ℕ → Type 0
TakesNow sn ticks event earlier count =
    Gives event count × (before : UmRun) × IsReached sn ticks earlier before
    × (packet : List ℕ) × (find nat_cmp before.flight (count + 1) ≡ Some packet) × (refuses before.entity (Some count) ≡ None)

abbrev pub ticks_of : UmEvent → ℕ
ticks_of events.Tick = 1
ticks_of event = 0

-- a packet of this COUNT was taken, and so many ticks came since
abbrev pub GotAgo : SnBits → ℕ → ℕ → ℕ → List UmEvent → Type 0
GotAgo sn ticks n count [] = ⊥
GotAgo sn ticks n count (event ∷ earlier) =
    ((n ≡ 0) × TakesNow sn ticks event earlier count) ⊎ ((m : ℕ) × (n ≡ m + ticks_of event) × GotAgo sn ticks m count earlier)

-- RX_DELIV passes a COUNT: its packet is given now; or by a tick, where a greater COUNT was taken at least as many ticks ago as the timer
-- has, this tick among them
abbrev pub Passes : SnBits → ℕ → UmEvent → List UmEvent → ℕ → Type 0
Passes sn ticks event earlier count =
    Gives event count
    ⊎ ((event ≡ events.Tick) × (n greater : ℕ) × (count < greater) × GotAgo sn ticks n greater earlier × (ticks ≤ n + 1))

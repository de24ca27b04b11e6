-- What came to a receiving entity: packets with their COUNTs, and ticks; the newest first.
use Rattle.std.specs.Prelude.{◌≡◌, ℕ, zero, suc, List, [], ◌∷◌, Option, Some, None, ◌⊎◌}
use Rattle.um_defs.specs.declared.types.error.UmError.{UmError}
use Rattle.um_defs.specs.Receivers.{UmReceiver, UmDelivery, new_um_receiver, refuses, received, none_up, ticked}

pub data Step (X : Type 0) : Type 0 where
  arrival : ℕ → X → Step X
  a_tick : Step X

-- a packet that is refused changes nothing
abbrev pub arrives_unless : {X : Type 0} → ℕ → UmReceiver X → ℕ → X → Option UmError → UmDelivery X
arrives_unless ticks r count x (Some error) = none_up r
arrives_unless ticks r count x None = received ticks r count x

abbrev pub arrives : {X : Type 0} → ℕ → UmReceiver X → ℕ → X → UmDelivery X
arrives ticks r count x = arrives_unless ticks r count x (refuses r (Some count))

abbrev pub does : {X : Type 0} → ℕ → UmReceiver X → Step X → UmDelivery X
does ticks r (arrival count x) = arrives ticks r count x
does ticks r a_tick = ticked ticks r

-- the entity after all of it
abbrev pub state : {X : Type 0} → ℕ → List (Step X) → UmReceiver X
state ticks [] = new_um_receiver
state ticks (step ∷ earlier) = (does ticks (state ticks earlier) step).after

-- a packet of this COUNT was taken, and so many ticks came since
abbrev pub TakenAgo : {X : Type 0} → ℕ → ℕ → ℕ → List (Step X) → Type 0
TakenAgo ticks n count [] = ⊥
TakenAgo ticks n count (arrival c x ∷ earlier) =
    ((n ≡ 0) × (c ≡ count) × (refuses (state ticks earlier) (Some count) ≡ None)) ⊎ TakenAgo ticks n count earlier
TakenAgo ticks zero count (a_tick ∷ earlier) = ⊥
TakenAgo ticks (suc n) count (a_tick ∷ earlier) = TakenAgo ticks n count earlier

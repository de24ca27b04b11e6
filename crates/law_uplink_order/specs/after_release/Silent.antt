-- Orders by which nothing is delivered, down and up: those after a terminal is released.
use Rattle.std.specs.Prelude.{◌≡◌, true, ◌||◌, List, [], ◌∷◌, ⊤}
use Rattle.bearer_defs.specs.chain_defs.Orders as down
use Rattle.bearer_defs.specs.uplink_defs.Models.{Model}
use Rattle.bearer_defs.specs.uplink_defs.Orders as up

-- the terminal takes nothing from its radio
abbrev pub TakesNone : down.ModelStep → Type 0
TakesNone (down.carries count packet rest) = ⊥
TakesNone order = ⊤

unfoldable pub TakeNone : List down.ModelStep → Type 0
TakeNone [] = ⊤
TakeNone (o ∷ os) = TakesNone o × TakeNone os

-- no context serves: a packet is taken where it goes on, and no context is switched or resumed
abbrev pub IsSilent : Model → up.ModelStep → Type 0
IsSilent s (up.takes x from count packet rest) = ((s.members x).flags.frozen || (s.members x).flags.released) ≡ true
IsSilent s (up.switches x) = ⊥
IsSilent s (up.resumes x) = ⊥
IsSilent s order = ⊤

unfoldable pub AreSilent : Model → List up.ModelStep → Type 0
AreSilent s [] = ⊤
AreSilent s (o ∷ os) = IsSilent s o × AreSilent (up.after s o) os

-- What the terminal takes of its radio down where frames of F1-U may have been lost, in orders of the chain of contexts. The chain's radio
-- has all that was put for the present one: so before the packet that is taken others may stand there that never came.
use Rattle.std.specs.Prelude.{◌≡◌, ◌==◌, ℕ, ◌<◌, if◌then◌else◌, List, [], ◌∷◌, ◌⊎◌, ⊤}
use Rattle.pdcp_defs.specs.Receivers.{is_duplicate, stored, deliver}
use Rattle.bearer_defs.specs.chain_defs.Models.{Model, initial}
use Rattle.bearer_defs.specs.chain_defs.Orders.{ModelStep, offers, keeps_n3, numbers, reports_loss, sends_again, arrives, fails, carries, handed, run}

-- this packet stands there with this COUNT
unfoldable pub StandsAmong : ℕ → List ℕ → List (ℕ × List ℕ) → Type 0
StandsAmong count packet [] = ⊥
StandsAmong count packet ((other, one) ∷ more) = ((other ≡ count) × (one ≡ packet)) ⊎ StandsAmong count packet more

-- it was received before, or it was put for the present radio, and lost or not
abbrev pub WasPut : Model → ℕ → List ℕ → Type 0
WasPut s count packet = (count < s.terminal.deliv) ⊎ StandsAmong count packet s.air

-- ---- all that stands up to the first packet with this COUNT is carried, and it too; what is left then

unfoldable pub carried_to : ℕ → List (ℕ × List ℕ) → List ModelStep
carried_to count [] = []
carried_to count ((other, packet) ∷ more) = carries other packet more ∷ (if other == count then [] else carried_to count more)

unfoldable pub left_after : ℕ → List (ℕ × List ℕ) → List (ℕ × List ℕ)
left_after count [] = []
left_after count ((other, packet) ∷ more) = if other == count then more else left_after count more

-- ---- the terminal takes a packet: where it is a duplicate the chain does nothing

unfoldable pub receives : Model → ℕ → List ModelStep
receives s count = if is_duplicate s.terminal count then [] else carried_to count s.air

abbrev pub air_after : Model → ℕ → List (ℕ × List ℕ)
air_after s count = if is_duplicate s.terminal count then s.air else left_after count s.air

-- what the terminal makes of it, and what is left on the chain's radio
abbrev pub taken : Model → ℕ → List ℕ → Model
taken s count packet =
    handed (record s { air = air_after s count }) (is_duplicate s.terminal count) (deliver (stored s.terminal count packet))

-- ---- orders that begin no other radio, and carry nothing

abbrev pub LeavesRadio : ModelStep → Type 0
LeavesRadio (arrives x) = ⊥
LeavesRadio fails = ⊥
LeavesRadio (carries count packet rest) = ⊥
LeavesRadio order = ⊤

-- ---- a packet is put twice, since a loss was told; then one more: the second copy still stands before it

abbrev pub a : List ℕ
a = 97 ∷ []

abbrev pub b : List ℕ
b = 98 ∷ []

unfoldable pub put_twice : List ModelStep
put_twice = offers a ∷ keeps_n3 1 a [] ∷ numbers 1 a [] ∷ reports_loss 1 ∷ sends_again 1 ∷ []

unfoldable pub one_more : List ModelStep
one_more = offers b ∷ keeps_n3 1 b [] ∷ numbers 1 b [] ∷ []

-- the terminal takes the first, and then the next
unfoldable pub after_one : Model
after_one = let s = run (initial 1 10) put_twice in run (run s (receives s 0)) one_more

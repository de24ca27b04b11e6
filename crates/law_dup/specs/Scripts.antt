-- What a script says of the packets of a bearer with duplication: those that were offered and not refused, and those that were delivered.
use Rattle.std.specs.Prelude.{◌≡◌, ℕ, ◌+◌, Bool, true, false, List, [], ◌∷◌, slice_get, Some}
use Rattle.std.specs.List.{flat_map}
use Rattle.dup_defs.specs.declared.types.event.DupEvent.{DupEvent}
use Rattle.dup_defs.specs.declared.types.event.DupEvent.TheVariants as events
use Rattle.dup_defs.specs.declared.types.line.DupLine.{DupLine}
use Rattle.dup_defs.specs.declared.types.line.DupLine.TheVariants as lines
use Rattle.dup_defs.specs.dup_run_defs.Steps.{DupHappening, DupScript}
use Rattle.law_dup.specs.events.Counted.{delivered_in, AreOf, AreCounted}

-- an event was refused
abbrev pub is_refused : List DupLine → Bool
is_refused (lines.Refused reason ∷ more) = true
is_refused printed = false

-- the packet that an event offers
abbrev pub offered_in : DupEvent → List (List ℕ)
offered_in (events.Offer packet) = packet ∷ []
offered_in event = []

abbrev pub unless_refused : Bool → List (List ℕ) → List (List ℕ)
unless_refused true packets = []
unless_refused false packets = packets

abbrev pub accepted_in : DupHappening → List (List ℕ)
accepted_in h = unless_refused (is_refused h.printed) (offered_in h.event)

-- the packets that were accepted, in order
abbrev pub accepted : DupScript → List (List ℕ)
accepted script = flat_map accepted_in script.happened

-- those that were delivered, in order
abbrev pub delivered : DupScript → List (ℕ × List ℕ)
delivered script = flat_map (λ h. delivered_in h.printed) script.happened

-- COUNTs 0, 1, 2 and so on, each with the packet that was accepted as that one: no packet twice, none left out, all in order
abbrev pub IsPrefix : List (ℕ × List ℕ) → List (List ℕ) → Type 0
IsPrefix es packets = (end : ℕ) × AreCounted 0 end es × AreOf packets es

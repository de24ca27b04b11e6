-- Internal: what `settle` asks of a list of bearers.
use Rattle.std.specs.Prelude.{ℕ, ◌+◌, Bool, List, [], ◌∷◌, map}
use Rattle.std.specs.List.{list_all}
use Rattle.gnb_types.specs.declared.names.UeId.{UeId}
use Rattle.gnb_types.specs.declared.names.BearerId.{BearerId}
use Rattle.gnb_types.specs.declared.names.Dir.TheVariants.{Dl, Ul}
use Rattle.run_defs.specs.Lines.{RunLine}
use Rattle.run_defs.specs.States.{entity}
use Rattle.run_defs.specs.Conditions.{rests, ask_line}
use Rattle.run_defs.specs.Settling.{undelivered}
use Rattle.run_links.specs.Networks.{Octets, OctetState, OctetWorld}

abbrev pub are_quiet : OctetState → List (UeId × BearerId) → Bool
are_quiet s bearers = list_all (λ e. rests s e.0 e.1) bearers

abbrev pub lines_of : OctetState → List (UeId × BearerId) → List (RunLine Octets)
lines_of s bearers = map (λ e. ask_line s e.0 e.1) bearers

-- packets of them that were offered and aren't delivered, in both directions
abbrev pub undelivered_of : OctetWorld → OctetState → List (UeId × BearerId) → ℕ
undelivered_of world s [] = 0
undelivered_of world s (e ∷ es) =
    undelivered world s (entity e.0 e.1 Dl) + undelivered world s (entity e.0 e.1 Ul) + undelivered_of world s es

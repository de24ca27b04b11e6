-- Internal: the first parts of a round, and the end of `settle`.
use Rattle.std.specs.Prelude.{ℕ, Bool, ◌∷◌, if◌then◌else◌}
use Rattle.run_defs.specs.Lines.{RunLine, has_settled, has_not_settled}
use Rattle.run_defs.specs.States.{◌next◌, prints}
use Rattle.run_defs.specs.Events.{pump}
use Rattle.run_defs.specs.Settling.{attached_plans, attached_entities, attached_bearers, move_each, all_tunnels, all_radios, poll_each, ask_lines}
use Rattle.run_links.specs.Networks.{Octets, OctetState, OctetWorld, OctetOutcome}

abbrev pub opening : OctetWorld → OctetState → OctetOutcome
opening world s = move_each world (attached_plans s) s next pump world next all_tunnels world

abbrev pub packets_move : OctetWorld → OctetState → OctetOutcome
packets_move world s =
    opening world s
    next (λ t. all_radios world (attached_entities t) t)
    next (λ t. poll_each world (attached_bearers t) t)

-- so many rounds were made, and all is quiet or isn't
abbrev pub end_line : ℕ → Bool → RunLine Octets
end_line rounds quiet = if quiet then has_settled rounds else has_not_settled rounds

abbrev pub ends_with : OctetWorld → ℕ → Bool → OctetState → OctetOutcome
ends_with world rounds quiet s = prints (end_line rounds quiet ∷ ask_lines world s) s

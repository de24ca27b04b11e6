-- How a run of the generated script ends, what status reports it, and what is written then.
use Rattle.std.specs.Prelude.{◌≡◌, ℕ, ◌+◌, ◌*◌, ◌/◌, List, [], ◌∷◌, ◌++◌, length, Some, None, codes}
use Rattle.std.specs.Fmt.{decimal}
use Rattle.scenario_text.specs.Print.{print, ◌then◌}
use Rattle.run_defs.specs.States.{outstanding, spent_counter}
use Rattle.run_defs.specs.Runs.{Transcript}
use Rattle.run_links.specs.Told.{outstanding_line}
use Rattle.command_defs.specs.declared.Status.{Status}
use Rattle.command_defs.specs.Statuses.{done_status, outstanding_status, spent_status, stop_line}
use Rattle.command_run.specs.declared.generate.end.GenerateEnd.{GenerateEnd}
use Rattle.command_run.specs.declared.generate.end.GenerateEnd.TheVariants.{Done, Outstanding, Spent}

abbrev pub generate_status : GenerateEnd → Status
generate_status (Done packets) = done_status
generate_status (Outstanding place span) = outstanding_status place
generate_status (Spent place counter) = spent_status place counter

-- The run goes on to its end; or it stops so in its last event. The line of an event is the one that it has in a script whose header
-- is the first line.
abbrev pub EndMeets : Transcript (List ℕ) → ℕ → GenerateEnd → Type 0
EndMeets run packets (Done count) = (run.stop ≡ None) × (count ≡ packets)
EndMeets run packets (Outstanding place o) =
    (run.stop ≡ Some (outstanding o.key o.span o.window)) × (place ≡ 1 + length run.events)
EndMeets run packets (Spent place counter) = (run.stop ≡ Some (spent_counter counter)) × (place ≡ 1 + length run.events)

-- ---- what is written

abbrev pub returns_in : ℕ → ℕ
returns_in packets = packets / 100

-- how many events there are: those at both ends, six a packet and nine a return
abbrev pub events_in : ℕ → ℕ
events_in packets = 2 + 6 * packets + 9 * returns_in packets

-- `generated N delivered N returns R events E quiet 1`
abbrev pub summary : ℕ → List ℕ
summary packets =
    codes "generated" then decimal packets then codes "delivered" then decimal packets then codes "returns" then decimal (returns_in packets)
    then codes "events" then decimal (events_in packets) then codes "quiet 1" ++ 10 ∷ []

abbrev pub end_text : GenerateEnd → List ℕ
end_text (Done packets) = summary packets
end_text (Outstanding place o) = print (outstanding_line o ∷ stop_line (outstanding_status place) ∷ [])
end_text (Spent place counter) = print (stop_line (spent_status place counter) ∷ [])

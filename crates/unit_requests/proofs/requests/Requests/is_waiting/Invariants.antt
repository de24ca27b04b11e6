use Rattle.std.proofs.Common.{◌≡◌, ◌==◌}
use Rattle.std.specs.List.{list_any}
use Rattle.unit_requests.proofs.requests.Requests.is_waiting.Given as goal

abbrev pub invariant-loop-channel : goal.invariant-loop-channel
invariant-loop-channel l =
    list_any (λ e. e.0.ue == l.ue) l.channel-iterator ≡ list_any (λ e. e.0.ue == l.ue) l.initial.channel-iterator

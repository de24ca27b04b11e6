use Rattle.std.proofs.Common.{◌≡◌, ℕ, ◌+◌, ◌*◌, length, ◌∙◌, ap}
use Rattle.std.proofs.lemmas.Result.{IfOk-weaker}
use Rattle.run_defs.specs.Settling.{attached_plans, round_limit}
use Rattle.run_defs.specs.UnitRuns.{Records}
use Rattle.run_links.specs.Networks.{OctetWorld, OctetCore, OctetState, state_of}
use Rattle.world.specs.settling.Bearers.{undelivered_of}
use Rattle.world.proofs.settling.Limits.{packets_are}
use Rattle.world.proofs.settling.limit.round_limit.Goals as goal

pub returns : goal.returns
returns c =
    let network = c.args.network.now in
    IfOk-weaker c.rounds_for.result (λ (n : ℕ). n ≡ 100 + 10 * (c.in_flight-messages.result + c.in_ok-packets.packets))
    (λ (n : ℕ). (world : OctetWorld) (units : Records) (core : OctetCore) → n ≡ round_limit world (state_of units core network))
    (λ n e world units core.
    let s : OctetState = state_of units core network in
    e ∙ ap (λ (m : ℕ). 100 + 10 * (m + c.in_ok-packets.packets)) c.in_flight-messages.ensures
    ∙ ap (λ (m : ℕ). 100 + 10 * (length s.bag.flight + m))
    (c.in_ok-packets.ensures world units core
    ∙ ap (undelivered_of world s) (c.as_slice.ensures ∙ c.in_ok-bearers.ensures units core)
    ∙ packets_are world s (attached_plans s)))
    c.rounds_for.ensures

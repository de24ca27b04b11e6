use Rattle.std.proofs.Common.{◌≡◌, ℕ, ◌+◌}
use Rattle.std.proofs.lemmas.Result.{IfOk-weaker}
use Rattle.gnb_types.specs.declared.names.Dir.TheVariants.{Dl, Ul}
use Rattle.run_defs.specs.States.{entity}
use Rattle.run_defs.specs.Settling.{undelivered}
use Rattle.run_defs.specs.UnitRuns.{Records}
use Rattle.run_links.specs.Networks.{OctetWorld, OctetCore, OctetState, state_of}
use Rattle.world.proofs.settling.Limits.{both_added}
use Rattle.world.proofs.settling.limit.add_bearer.Goals as goal

pub returns : goal.returns
returns c =
    let network = c.args.network.now in
    IfOk-weaker c.add-2.result (λ (n : ℕ). n ≡ c.in_ok-packets.packets + c.undelivered-uplink.result)
    (λ (n : ℕ). (world : OctetWorld) (units : Records) (core : OctetCore) → n ≡ c.args.packets
    + undelivered world (state_of units core network) (entity c.args.ue c.args.bearer Dl)
    + undelivered world (state_of units core network) (entity c.args.ue c.args.bearer Ul))
    (λ n e world units core.
    let s : OctetState = state_of units core network in
    both_added n c.in_ok-packets.packets c.args.packets c.undelivered-downlink.result c.undelivered-uplink.result
    (undelivered world s (entity c.args.ue c.args.bearer Dl)) (undelivered world s (entity c.args.ue c.args.bearer Ul)) e
    c.in_ok-packets.ensures (c.undelivered-downlink.ensures world units core) (c.undelivered-uplink.ensures world units core))
    c.add-2.ensures

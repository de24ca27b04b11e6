use Rattle.std.proofs.Common.{◌∙◌, ap}
use Rattle.unit_defs.specs.Ue.{new_ue}
use Rattle.run_defs.specs.Units.{with_ue}
use Rattle.run_defs.specs.UnitRuns.{Records}
use Rattle.run_links.specs.declared.network.Network.{Network}
use Rattle.run_links.specs.Networks.{state_of}
use Rattle.run_links.proofs.Results.{ok_then}
use Rattle.world_events.proofs.attaches.attaches.seat.Goals as goal

pub returns-clause-seats : goal.returns-clause-seats
returns-clause-seats g c =
    let old = g.U.Units.records c.args.run_state.now.units in
    let plan = c.args.plan in
    ok_then c.seat-2.result c.seat-2.ensures
    (λ told.
    ap (λ (r : Records). state_of r c.args.run_state.now.core c.seat-2.new.self) c.in_ok-seat.ensures.records
    ∙ ap (λ (x : Network). state_of (with_ue old plan.ue (new_ue plan)) c.args.run_state.now.core x) told)

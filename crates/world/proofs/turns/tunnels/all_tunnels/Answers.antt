use Rattle.std.proofs.Common.{ℕ, ◌+◌, ◌-◌, arith}
use Rattle.std.specs.Prelude.{Ok, Err}
use Rattle.links.specs.Tunnels.{next_entry}
use Rattle.run_defs.specs.Settling.{tunnels_from}
use Rattle.run_defs.specs.UnitRuns.{unit_world}
use Rattle.run_links.specs.Networks.{state_of}
use Rattle.world_steps.specs.Gives.{EventGives}
use Rattle.world_steps.proofs.Following.{nothing_more}
use Rattle.world.proofs.turns.Turned.{counted, none_left}
use Rattle.world.proofs.turns.OnTunnels.{no_tunnel, next_tunnel, tunnel_stops}
use Rattle.world.proofs.turns.tunnels.all_tunnels.Goals as goal

pub loop-init : goal.loop-init
loop-init g c = record { ready = c.requires; rest = λ u lines result k. k }

pub loop-preserved : goal.loop-preserved
loop-preserved g c =
    let world = unit_world g.C.MessageCodec.codec g.U.Units.answer in
    let records = g.U.Units.records in
    let s = state_of (records c.loop.run_state.units) c.loop.run_state.core c.loop.run_state.network in
    let t = state_of (records c.tunnel_turn.new.run_state.units) c.tunnel_turn.new.run_state.core c.tunnel_turn.new.run_state.network in
    let entry = next_entry c.loop.run_state.network.tunnels.tunnels c.loop.place in
    record {
      ready = c.in-Ok.ensures.ready;
      rest = λ u lines result k.
          c.loop.invariant.rest u lines result
          (counted (λ (n : ℕ). EventGives c.loop.lines (tunnels_from world n s entry) lines u result) 34359738368 c.loop.counter (omega arith)
          (next_tunnel world (34359738368 - (c.loop.counter + 1)) s entry c.in-Some.node c.in-Some.teid t c.loop.lines
          c.tunnel_turn.new.lines c.in-Some.ensures c.in-Ok.ensures.gives u lines result k));
    }

pub returns-in_default-clause-gives : goal.returns-in_default-clause-gives
returns-in_default-clause-gives g c =
    let world = unit_world g.C.MessageCodec.codec g.U.Units.answer in
    let s = state_of (g.U.Units.records c.loop.run_state.units) c.loop.run_state.core c.loop.run_state.network in
    let entry = next_entry c.loop.run_state.network.tunnels.tunnels c.loop.place in
    c.loop.invariant.rest s c.loop.lines (Ok tt)
    (counted (λ (n : ℕ). EventGives c.loop.lines (tunnels_from world n s entry) c.loop.lines s (Ok tt)) 34359738368 c.loop.counter (omega arith)
    (no_tunnel world (34359738368 - (c.loop.counter + 1)) s entry c.loop.lines c.in_default.ensures))

pub returns-in-Err-clause-gives : goal.returns-in-Err-clause-gives
returns-in-Err-clause-gives g c =
    let world = unit_world g.C.MessageCodec.codec g.U.Units.answer in
    let records = g.U.Units.records in
    let s = state_of (records c.loop.run_state.units) c.loop.run_state.core c.loop.run_state.network in
    let t = state_of (records c.tunnel_turn.new.run_state.units) c.tunnel_turn.new.run_state.core c.tunnel_turn.new.run_state.network in
    let entry = next_entry c.loop.run_state.network.tunnels.tunnels c.loop.place in
    c.loop.invariant.rest t c.tunnel_turn.new.lines (Err c.in-Err.cause)
    (counted (λ (n : ℕ). EventGives c.loop.lines (tunnels_from world n s entry) c.tunnel_turn.new.lines t (Err c.in-Err.cause)) 34359738368
    c.loop.counter (omega arith)
    (tunnel_stops world (34359738368 - (c.loop.counter + 1)) s entry c.in-Some.node c.in-Some.teid t c.loop.lines c.tunnel_turn.new.lines
    c.in-Err.cause c.in-Some.ensures c.in-Err.ensures.gives))

pub returns-clause-gives : goal.returns-clause-gives
returns-clause-gives g c =
    let world = unit_world g.C.MessageCodec.codec g.U.Units.answer in
    let s = state_of (g.U.Units.records c.loop.run_state.units) c.loop.run_state.core c.loop.run_state.network in
    let entry = next_entry c.loop.run_state.network.tunnels.tunnels c.loop.place in
    c.loop.invariant.rest s c.loop.lines (Ok tt)
    (none_left (λ (n : ℕ). EventGives c.loop.lines (tunnels_from world n s entry) c.loop.lines s (Ok tt)) 34359738368 c.loop.counter (omega arith)
    (nothing_more c.loop.lines s))

use Rattle.std.proofs.Common.{◌+◌, List, drop, refl}
use Rattle.std.specs.Prelude.{Ok, Err}
use Rattle.std.proofs.lemmas.List.{drop_all}
use Rattle.gnb_types.specs.declared.names.UeId.{UeId}
use Rattle.gnb_types.specs.declared.names.BearerId.{BearerId}
use Rattle.world.specs.radios.RadioTurns.{both_turns, bearer_turns}
use Rattle.run_defs.specs.UnitRuns.{unit_world}
use Rattle.run_links.specs.Networks.{OctetState, state_of}
use Rattle.world.proofs.turns.Lists.{drop_one}
use Rattle.world.proofs.turns.Turned.{each_goes, each_stops, each_ends}
use Rattle.world.proofs.radios.radios.bearer_turns.Goals as goal

pub loop-ue-preserved : goal.loop-ue-preserved
loop-ue-preserved g c =
    let world = unit_world g.C.MessageCodec.codec g.U.Units.answer in
    let records = g.U.Units.records in
    let l = c.loop-ue in
    let xs = c.args.bearers.now in
    let s = state_of (records l.run_state.units) l.run_state.core l.run_state.network in
    let t = state_of (records c.both_turns.new.run_state.units) c.both_turns.new.run_state.core c.both_turns.new.run_state.network in
    record {
      ready = c.in-Ok.ensures.ready;
      rest = λ u lines result k.
          l.invariant.rest u lines result
          (each_goes (λ (e : UeId × BearerId) (x : OctetState). both_turns world e.0 e.1 x) (bearer_turns world) (λ (x : OctetState). refl)
          (λ (y : UeId × BearerId) (ys : List (UeId × BearerId)) (x : OctetState). refl) _ (drop (l.ue-index + 1) xs) (drop l.ue-index xs) s t l.lines
          c.both_turns.new.lines (drop_one xs l.ue-index _ c.loop-ue-test.true) c.in-Ok.ensures.gives u lines result k);
    }

pub returns-in-Err-clause-gives : goal.returns-in-Err-clause-gives
returns-in-Err-clause-gives g c =
    let world = unit_world g.C.MessageCodec.codec g.U.Units.answer in
    let records = g.U.Units.records in
    let l = c.loop-ue in
    let xs = c.args.bearers.now in
    let s = state_of (records l.run_state.units) l.run_state.core l.run_state.network in
    let t = state_of (records c.both_turns.new.run_state.units) c.both_turns.new.run_state.core c.both_turns.new.run_state.network in
    l.invariant.rest t c.both_turns.new.lines (Err c.in-Err.cause)
    (each_stops (λ (e : UeId × BearerId) (x : OctetState). both_turns world e.0 e.1 x) (bearer_turns world) (λ (x : OctetState). refl)
    (λ (y : UeId × BearerId) (ys : List (UeId × BearerId)) (x : OctetState). refl) _ (drop (l.ue-index + 1) xs) (drop l.ue-index xs) s t l.lines c.both_turns.new.lines
    c.in-Err.cause (drop_one xs l.ue-index _ c.loop-ue-test.true) c.in-Err.ensures.gives)

pub returns-clause-gives : goal.returns-clause-gives
returns-clause-gives g c =
    let world = unit_world g.C.MessageCodec.codec g.U.Units.answer in
    let l = c.loop-ue in
    let xs = c.args.bearers.now in
    let s = state_of (g.U.Units.records l.run_state.units) l.run_state.core l.run_state.network in
    l.invariant.rest s l.lines (Ok tt)
    (each_ends (λ (e : UeId × BearerId) (x : OctetState). both_turns world e.0 e.1 x) (bearer_turns world) (λ (x : OctetState). refl)
    (λ (y : UeId × BearerId) (ys : List (UeId × BearerId)) (x : OctetState). refl) (drop l.ue-index xs) s l.lines (drop_all l.ue-index xs c.loop-ue-test.false))

use Rattle.std.proofs.Common.{sym, ◌∙◌, ap, subst}
use Rattle.std.specs.Prelude.{Err}
use Rattle.run_defs.specs.Events.{static}
use Rattle.run_defs.specs.UnitRuns.{Records, unit_world}
use Rattle.run_links.specs.Networks.{state_of}
use Rattle.cu_up_contexts.specs.declared.contexts.placing.PlaceError.{PlaceError}
use Rattle.run_units.specs.Steps.{PlacingGives}
use Rattle.world_steps.specs.declared.cause.Cause.{Cause}
use Rattle.world_steps.specs.Gives.{EventGives}
use Rattle.world_events.proofs.attaches.Placed.{static_known, static_full, static_done, static_stops, keeps_all}
use Rattle.world_events.proofs.attaches.setups.set_up.Goals as goal

pub returns-then-is_known-clause-gives : goal.returns-then-is_known-clause-gives
returns-then-is_known-clause-gives g c =
    static_known (unit_world g.C.MessageCodec.codec g.U.Units.answer) c.args.plan
    (state_of (g.U.Units.records c.args.run_state.now.units) c.args.run_state.now.core c.args.run_state.now.network) c.args.lines.now c.push.new.self
    (sym c.is_known.ensures ∙ c.if-is_known.true) c.in_ok-push.ensures.ok

pub returns-in_ok-keep_terminal-in-Ok-clause-gives : goal.returns-in_ok-keep_terminal-in-Ok-clause-gives
returns-in_ok-keep_terminal-in-Ok-clause-gives g c =
    let codec = g.C.MessageCodec.codec in
    let answer = g.U.Units.answer in
    let records = g.U.Units.records in
    let s = state_of (records c.args.run_state.now.units) c.args.run_state.now.core c.args.run_state.now.network in
    let t = state_of (records c.place_static.new.self) c.keep_path.new.core c.keep_terminal.new.network in
    static_done (unit_world codec answer) c.args.plan s t c.args.lines.now (sym c.is_known.ensures ∙ c.if-is_known.false) c.in-Ok.ensures.places.0
    c.in-Ok.ensures.places.1
    (keeps_all codec answer c.args.plan c.next_at_up-up.result c.next_at_du-du.result (records c.args.run_state.now.units)
    (records c.place_static.new.self) c.args.run_state.now.core c.keep_path.new.core c.args.run_state.now.network c.keep_terminal.new.network
    c.args.lines.now c.next_at_up-up.ensures c.next_at_du-du.ensures c.in-Ok.ensures.places.2 c.in_ok-keep_path-in-Ok.ensures
    (c.in_ok-keep_terminal-in-Ok.ensures c.args.lines.now))

pub returns-in_ok-push-in-Err-NoQuota-clause-gives : goal.returns-in_ok-push-in-Err-NoQuota-clause-gives
returns-in_ok-push-in-Err-NoQuota-clause-gives g c =
    let records = g.U.Units.records in
    let s = state_of (records c.args.run_state.now.units) c.args.run_state.now.core c.args.run_state.now.network in
    let t = state_of (records c.place_static.new.self) c.args.run_state.now.core c.args.run_state.now.network in
    let old = records c.args.run_state.now.units in
    let after = records c.place_static.new.self in
    let places = subst (λ (e : PlaceError). PlacingGives c.args.plan old after (Err e)) c.in-Err-NoQuota.field-0-is c.in-Err-NoQuota.ensures.places in
    static_full (unit_world g.C.MessageCodec.codec g.U.Units.answer) c.args.plan s t c.args.lines.now c.push-in-Err-NoQuota.new.self
    (sym c.is_known.ensures ∙ c.if-is_known.false) places.0
    (ap (λ (r : Records). state_of r c.args.run_state.now.core c.args.run_state.now.network) (sym places.1))
    c.in_ok-push-in-Err-NoQuota.ensures.ok

pub returns-in-Err-Step-clause-gives : goal.returns-in-Err-Step-clause-gives
returns-in-Err-Step-clause-gives g c =
    let world = unit_world g.C.MessageCodec.codec g.U.Units.answer in
    let records = g.U.Units.records in
    let s = state_of (records c.args.run_state.now.units) c.args.run_state.now.core c.args.run_state.now.network in
    let t = state_of (records c.place_static.new.self) c.args.run_state.now.core c.args.run_state.now.network in
    let old = records c.args.run_state.now.units in
    let after = records c.place_static.new.self in
    let places = subst (λ (e : PlaceError). PlacingGives c.args.plan old after (Err e)) c.in-Err-Step.field-0-is c.in-Err-Step.ensures.places in
    let is = rw c.in-Err-Step.field-0-is at c.cause_of.ensures in
    subst (λ (x : Cause). EventGives c.args.lines.now (static world c.args.plan s) c.args.lines.now t (Err x)) (sym is)
    (static_stops world c.args.plan s t after c.in-Err-Step.error c.args.lines.now
    (sym c.is_known.ensures ∙ c.if-is_known.false) places)

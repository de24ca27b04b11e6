use Rattle.std.proofs.Common.{sym, ◌∙◌}
use Rattle.unit_defs.specs.Accessors.{ue_rests}
use Rattle.run_defs.specs.Units.{ups_rest}
use Rattle.run_defs.specs.Conditions.{is_at_rest, links_are_empty}
use Rattle.run_links.specs.Networks.{state_of}
use Rattle.world_events.proofs.bearers.Tests.{second_fails, third_fails, fourth_decides}
use Rattle.world_events.proofs.bearers.quiet.is_quiet.Goals as goal

pub returns-then-not-links_are_empty : goal.returns-then-not-links_are_empty
returns-then-not-links_are_empty g c =
    let records = g.U.Units.records c.args.run_state.now.units in
    let s = state_of records c.args.run_state.now.core c.args.run_state.now.network in
    let u = c.args.terminal.now.node in
    second_fails (is_at_rest s c.args.ue u) (links_are_empty s c.args.ue c.args.bearer) (ue_rests u c.args.bearer) (ups_rest records c.args.ue c.args.bearer)
    (sym c.is_at_rest.ensures ∙ c.if-not-is_at_rest.false) (sym (c.links_are_empty.ensures records c.args.run_state.now.core) ∙ c.if-not-links_are_empty.true)

pub returns-else-rests : goal.returns-else-rests
returns-else-rests g c =
    let records = g.U.Units.records c.args.run_state.now.units in
    let s = state_of records c.args.run_state.now.core c.args.run_state.now.network in
    let u = c.args.terminal.now.node in
    c.if-rests.false
    ∙ third_fails (is_at_rest s c.args.ue u) (links_are_empty s c.args.ue c.args.bearer) (ue_rests u c.args.bearer) (ups_rest records c.args.ue c.args.bearer)
    (sym c.is_at_rest.ensures ∙ c.if-not-is_at_rest.false) (sym (c.links_are_empty.ensures records c.args.run_state.now.core) ∙ c.if-not-links_are_empty.false)
    (sym c.rests.ensures ∙ c.if-rests.false)

pub returns-then-rests : goal.returns-then-rests
returns-then-rests g c =
    let records = g.U.Units.records c.args.run_state.now.units in
    let s = state_of records c.args.run_state.now.core c.args.run_state.now.network in
    let u = c.args.terminal.now.node in
    c.cu_users_rest.ensures
    ∙ fourth_decides (is_at_rest s c.args.ue u) (links_are_empty s c.args.ue c.args.bearer) (ue_rests u c.args.bearer) (ups_rest records c.args.ue c.args.bearer)
    (sym c.is_at_rest.ensures ∙ c.if-not-is_at_rest.false) (sym (c.links_are_empty.ensures records c.args.run_state.now.core) ∙ c.if-not-links_are_empty.false)
    (sym c.rests.ensures ∙ c.if-rests.true)

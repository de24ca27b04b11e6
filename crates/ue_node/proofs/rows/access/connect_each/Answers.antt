use Rattle.std.proofs.Common.{◌<◌, length, sym, ◌∙◌, arith}
use Rattle.ue_node.specs.rows.Records.{IsPlanned, numbered}
use Rattle.std.proofs.Math.ListN.{set}
use Rattle.ue_node.proofs.rows.BearerLemmas.{each_at, planned_of, planned_set}
use Rattle.ue_node.proofs.rows.RowSteps.{connecting_starts, connecting_ends, connects_one, connects_fail, error_as}
use Rattle.ue_node.proofs.rows.access.connect_each.Goals as goal

pub loop-number-init : goal.loop-number-init
loop-number-init c = record { all = λ codec u t. connecting_starts codec u c.args.out.now c.args.bearers.now; sound = c.requires }

pub connect-requires : goal.connect-requires
connect-requires c =
    let l = c.loop-number in
    let t = c.args.terminal.now in
    let within : c.from.result < length l.bearers = omega (arith, c.from.ensures, c.loop-number-test.true, l.invariant.sound.count) in
    each_at (λ b. IsPlanned t.plan b) l.bearers c.from.result c.index-bearers-from.result within l.invariant.sound.all t.state t.epoch

pub returns-in_err-connect-clause-step : goal.returns-in_err-connect-clause-step
returns-in_err-connect-clause-step c = λ codec u is.
    let l = c.loop-number in
    let within : l.number < length l.bearers = omega (arith, c.loop-number-test.true, l.invariant.sound.count) in
    error_as _ c.connect.new.out (numbered 1 (set l.bearers c.from.result c.connect.new.self)) c.in_err-connect.field-0.0 c.from_residual.result c.from_residual.ensures.1
    (connects_fail codec u c.args.terminal.now is l.out c.connect.new.out l.number c.from.result l.bearers c.index-bearers-from.result c.connect.new.self within
    c.from.ensures _ c.in_err-connect.field-0.0 (numbered 1 (set l.bearers c.from.result c.connect.new.self)) (l.invariant.all codec u is)
    (c.in_err-connect.ensures.step codec))

pub loop-number-preserved : goal.loop-number-preserved
loop-number-preserved c =
    let l = c.loop-number in
    let within : l.number < length l.bearers = omega (arith, c.loop-number-test.true, l.invariant.sound.count) in
    record {
      all = λ codec u is.
          connects_one codec u c.args.terminal.now is l.out c.connect.new.out l.number c.from.result l.bearers c.index-bearers-from.result c.connect.new.self within
          c.from.ensures (c.in_ok-connect.ensures.step codec)
          ∙ l.invariant.all codec u is;
      sound =
          planned_set c.args.terminal.now.plan l.bearers c.from.result c.connect.new.self l.invariant.sound
          (planned_of c.args.terminal.now c.connect.new.self c.in_ok-connect.ensures.of);
    }

pub returns-clause-step : goal.returns-clause-step
returns-clause-step c = λ codec u is.
    let l = c.loop-number in
    sym (l.invariant.all codec u is) ∙ connecting_ends codec u l.out l.number l.bearers (omega (arith, c.loop-number-test.false, l.invariant.sound.count))

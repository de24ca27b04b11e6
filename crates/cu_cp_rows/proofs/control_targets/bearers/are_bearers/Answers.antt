use Rattle.std.proofs.Common.{◌≡◌, refl, sym, ◌∙◌, arith}
use Rattle.cu_cp_rows.proofs.control_targets.Naming.{begins, not_so_many, agrees}
use Rattle.cu_cp_rows.proofs.control_targets.bearers.are_bearers.Goals as goal

pub returns-then-bearers-from : goal.returns-then-bearers-from
returns-then-bearers-from c =
    let same : c.args.context.now.bearers ≡ c.from.result = grind arith in
    sym (not_so_many c.args.context.now.bearers c.args.bearers.now (λ e. c.if-bearers-from.true (e ∙ same)))

pub loop-bearer-init : goal.loop-bearer-init
loop-bearer-init c = record { number = refl; rest = begins c.args.context.now.bearers c.args.bearers.now }

pub loop-bearer-preserved : goal.loop-bearer-preserved
loop-bearer-preserved c =
    let same : c.args.context.now.bearers ≡ c.from.result = grind arith in
    record {
      number = omega arith;
      rest =
          c.loop-bearer.invariant.rest
          ∙ agrees c.loop-bearer.bearer-index c.args.context.now.bearers c.args.bearers.now _ c.loop-bearer-test.true
          (c.if-bearers-from.false ∙ sym same)
          (sym c.from-in-loop-bearer.ensures ∙ c.if-from-next.false ∙ c.loop-bearer.invariant.number);
    }

use Rattle.std.proofs.Common.{◌≡◌, ℕ, List, ap, ◌∙◌, arith}
use Rattle.gnb_types.specs.declared.names.BearerId.{BearerId}
use Rattle.unit_defs.specs.Ue.{UeBearer, new_ue, new_bearers}
use Rattle.ue_node.proofs.rows.BearerLemmas.{all_new}
use Rattle.ue_node.proofs.rows.record.UeRecord.new.Goals as goal

pub returns-clause-new : goal.returns-clause-new
unfolding new_ue
returns-clause-new c =
    let count : c.loop-number.number ≡ c.args.plan.bearers = omega arith in
    ap (λ (es : List (BearerId × UeBearer)). record (new_ue c.args.plan) { bearers = es })
    (all_new c.loop-number.bearers.items 1 c.loop-number.invariant.new ∙ ap (λ (n : ℕ). new_bearers 1 n) (c.loop-number.invariant.count ∙ count))

use Rattle.std.proofs.Common.{rules, List, ap, ◌∙◌, ℕ}
use Rattle.du_contexts.specs.declared.renewing.Uplink.{Uplink}
use Rattle.du_contexts.specs.Renewed.{anew_of}
use Rattle.du_contexts.specs.Tables.{with_tables}
use Rattle.du_contexts.proofs.RenewSteps.{anew_is, uplinks_sorted, no_teids_to_renew, renew_step}
use Rattle.du_contexts.proofs.contexts.DuContexts.renew.Goals as goal

pub returns-then-not-has_teids : goal.returns-then-not-has_teids
returns-then-not-has_teids c = λ codec r.
    no_teids_to_renew codec r c.args.ue c.args.epoch c.args.outputs.now c.args.self.now c.in-Some.context.now c.in-Some.ensures
    c.as_slice-slice.result.now (c.as_slice-slice.ensures ∙ c.in_ok-uplinks.ensures.ok) (search rules)

pub anew-requires-clause-sorted : goal.anew-requires-clause-sorted
anew-requires-clause-sorted c =
    uplinks_sorted c.in-Some.context.now.bearers c.as_slice-slice.result.now (c.as_slice-slice.ensures ∙ c.in_ok-uplinks.ensures.ok)
    c.in_ok-uplinks.ensures.sorted

pub returns : goal.returns
returns c = λ codec r.
    renew_step codec r c.args.ue c.args.epoch c.args.outputs.now c.args.self.now c.in-Some.context.now c.in-Some.ensures
    c.sn-length.result c.in_ok-bearers.bearers c.replace.new.outputs (with_tables r c.replace.new.self) c.replace.result
    c.sn-length.ensures
    (c.in_ok-bearers.ensures
    ∙ ap (λ (n : ℕ). anew_of n c.as_slice-slice.result.now) c.next_teid.ensures
    ∙ ap (λ (us : List Uplink). anew_of c.args.self.now.next_teid us) (c.as_slice-slice.ensures ∙ c.in_ok-uplinks.ensures.ok)
    ∙ anew_is c.args.self.now.next_teid c.in-Some.context.now.bearers)
    (c.replace.ensures codec r)

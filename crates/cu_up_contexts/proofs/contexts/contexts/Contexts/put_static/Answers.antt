use Rattle.std.proofs.Common.{rules, ◌*◌, ℕ, false, length, ap, ◌∙◌, arith}
use Rattle.unit_defs.specs.CuUpRecords.{CuUpContext}
use Rattle.unit_defs.specs.Static.{with_downlinks}
use Rattle.cu_up_contexts.specs.bearer_context.Contexts.{made_from}
use Rattle.cu_up_contexts.proofs.contexts.Placings.{static_setup, length_made, placed_is, may}
use Rattle.cu_up_contexts.proofs.contexts.contexts.Contexts.put_static.Goals as goal

pub begin_at-requires : goal.begin_at-requires
begin_at-requires c =
    let size = ap (λ (x : CuUpContext). length x.bearers) c.in_ok-context.ensures in
    let count = length_made false c.next_teid.result 1 c.args.plan.bearers in
    omega (arith, size, count, c.downlinks_fit.ensures.fits (search rules))

pub returns : goal.returns
returns c = λ r gnb_is.
    let plan = c.args.plan in
    let teids = ap (λ (n : ℕ). 2 * n) c.from-teids.ensures in (
      may r c.args.gnb gnb_is plan c.args.downlink c.args.self.now _ teids (search rules) (search rules),
      placed_is r c.args.gnb gnb_is plan c.args.downlink c.args.self.now c.place.new.self _ _ teids
          (c.begin_at.ensures
          ∙ ap (λ (x : CuUpContext). record x { bearers = with_downlinks c.args.gnb plan.du c.args.downlink x.bearers })
          (c.in_ok-context.ensures ∙ ap (λ (n : ℕ). made_from n (static_setup plan)) c.next_teid.ensures))
          c.in_ok-place.ensures,
    )

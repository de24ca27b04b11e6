use Rattle.std.proofs.Common.{List, length, arith, sym, ap, ◌∙◌, subst}
use Rattle.cu_up_bearer.specs.declared.bearers.bearer.Bearer.{Bearer}
use Rattle.cu_up_contexts.specs.bearer_context.Bearers.{numbered, shared, IsServed, AreServed}
use Rattle.cu_up_contexts.specs.bearer_context.Contexts.{flags_at_first}
use Rattle.cu_up_contexts.proofs.bearer_context.Numbered.{each_push}
use Rattle.cu_up_contexts.proofs.bearer_context.Made.{fits_turn, made_turn, count_turn, teid_turn, made_served}
use Rattle.cu_up_contexts.proofs.bearer_context.context.ContextSetup.bearers.Goals as goal

pub new-requires-clause-teids : goal.new-requires-clause-teids
new-requires-clause-teids c =
    let l = c.loop-index in
    fits_turn c.args.self.now.target c.args.first l.index c.args.self.now.count l.teid l.invariant.teid (omega (arith, c.loop-index-test.true)) c.requires.teids

pub loop-index-preserved : goal.loop-index-preserved
loop-index-preserved c =
    let l = c.loop-index in
    let s = c.args.self.now in
    let b = c.in_ok-new.field-0 in
    record {
      count = ap (λ (bs : List Bearer). length bs) c.in_ok-push.ensures.items ∙ count_turn l.bearers.items b l.index l.invariant.count;
      teid = teid_turn s.target c.args.first l.index l.teid c.from.result l.invariant.teid (c.from.ensures ∙ c.teids_of_bearer.ensures);
      made =
          ap (λ (bs : List Bearer). numbered 1 bs) c.in_ok-push.ensures.items
          ∙ made_turn s.target c.args.first l.index l.teid l.bearers.items b l.invariant.count l.invariant.teid l.invariant.made c.in_ok-new.ensures.made;
      served =
          subst (λ (bs : List Bearer). AreServed (shared s.sn s.quota (flags_at_first s.target)) bs) (sym c.in_ok-push.ensures.items)
          (each_push (λ x. IsServed (shared s.sn s.quota (flags_at_first s.target)) x) l.bearers.items b l.invariant.served
          (made_served s.sn s.quota (flags_at_first s.target) b s.target l.teid c.in_ok-new.ensures.made c.in_ok-new.ensures.of));
    }

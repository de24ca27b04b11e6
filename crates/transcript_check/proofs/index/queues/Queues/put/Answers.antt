use Rattle.std.proofs.Common.{◌++◌, ◌∷◌, [], List, ap, sym, ◌∙◌}
use Rattle.scenario_text.specs.declared.line.Item.{Item}
use Rattle.transcript_check.proofs.QueueLemmas.{put_absent, put_present}
use Rattle.transcript_check.proofs.index.queues.Queues.put.Goals as goal

pub returns-in_default : goal.returns-in_default
returns-in_default c =
    put_absent c.args.link c.args.item.now c.args.self.now.queues c.put.new.self c.of-key.result c.push.new.self c.of-key.ensures (sym c.in_default.ensures.value)
    (c.in_ok-push.ensures.ok ∙ ap (λ (items : List Item). items ++ c.in_ok-item.item ∷ []) c.new-queue.ensures
    ∙ ap (λ (item : Item). [] ++ item ∷ []) c.in_ok-item.ensures)
    c.in_ok-put.ensures.ok

pub returns : goal.returns
returns c =
    put_present c.args.link (λ items. items ++ c.args.item.now ∷ []) c.args.self.now.queues c.of-key.result c.in-Some.queue.now c.push-2.new.self c.of-key.ensures
    (sym c.in-Some.ensures.value) (c.in_ok-push-2.ensures.ok ∙ ap (λ (item : Item). c.in-Some.queue.now ++ item ∷ []) c.in_ok-item.ensures)

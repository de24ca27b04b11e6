use Rattle.std.proofs.Common.{refl, ap, sym, subst, ◌∙◌}
use Rattle.gnb_types.specs.declared.keys.EntityKey.{EntityKey}
use Rattle.transcript_defs.specs.declared.line.TextLine.{TextLine}
use Rattle.transcript_defs.specs.declared.line.TextLine.TheVariants.{Printed}
use Rattle.transcript_check.specs.declared.index.Index.{Index}
use Rattle.transcript_check.proofs.IndexLemmas.{Grows, grows_quiet, grows_put, grows_got, grows_deliver, not_printed, not_those}
use Rattle.transcript_check.proofs.index.Index.follow.Goals as goal

pub returns-in_default : goal.returns-in_default
returns-in_default c = λ past shows order is.
    let old = c.args.self.now in
    let new : Index = record { queues = c.follow.new.self; messages = old.messages; accepted = old.accepted; receipts = old.receipts } in
    let quiet = not_printed c.args.line.now c.in_default.not-Printed in
    grows_quiet old new c.follow.new.self.queues refl refl refl refl c.args.line.now quiet.0 quiet.1 quiet.2 past c.in_ok-follow.ensures shows order is

pub returns-in_default-line : goal.returns-in_default-line
returns-in_default-line c = λ past shows order is.
    let old = c.args.self.now in
    let new : Index = record { queues = c.follow.new.self; messages = old.messages; accepted = old.accepted; receipts = old.receipts } in
    let quiet = not_those c.in-Printed.line c.in_default-line.not-Got c.in_default-line.not-PutMessage c.in_default-line.not-Deliver in
    subst (λ (line : TextLine). Grows old c.follow.new.self.queues new line) (sym c.in-Printed.is)
    (grows_quiet old new c.follow.new.self.queues refl refl refl refl (Printed c.in-Printed.line) quiet.0 quiet.1 quiet.2) past c.in_ok-follow.ensures shows order is

pub returns-in_ok-push-in-PutMessage : goal.returns-in_ok-push-in-PutMessage
returns-in_ok-push-in-PutMessage c = λ past shows order is.
    let old = c.args.self.now in
    let new : Index = record { queues = c.follow.new.self; messages = c.push.new.self; accepted = old.accepted; receipts = old.receipts } in
    subst (λ (line : TextLine). Grows old c.follow.new.self.queues new line) (sym (c.in-Printed.is ∙ ap Printed c.in-PutMessage.is))
    (grows_put old new c.follow.new.self.queues refl refl c.in-PutMessage.message c.in_ok-message-in-PutMessage.message c.in_ok-message-in-PutMessage.ensures
    c.in_ok-push-in-PutMessage.ensures.ok refl) past c.in_ok-follow.ensures shows order is

pub returns-in_ok-deliver-in-Deliver : goal.returns-in_ok-deliver-in-Deliver
returns-in_ok-deliver-in-Deliver c = λ past shows order is.
    let old = c.args.self.now in
    let new : Index = record { queues = c.follow.new.self; messages = old.messages; accepted = old.accepted; receipts = c.deliver.new.self } in
    let key : EntityKey = record { ue = c.in-Deliver.ue; bearer = c.in-Deliver.bearer; dir = c.in-Deliver.dir } in
    subst (λ (line : TextLine). Grows old c.follow.new.self.queues new line) (sym (c.in-Printed.is ∙ ap Printed c.in-Deliver.is))
    (grows_deliver old new c.follow.new.self.queues refl refl key c.in-Deliver.count c.in-Deliver.packet refl
    c.in_ok-deliver-in-Deliver.ensures.delivered c.in_ok-deliver-in-Deliver.ensures.received) past c.in_ok-follow.ensures shows order is

pub returns-in_ok-receive-in-Got : goal.returns-in_ok-receive-in-Got
returns-in_ok-receive-in-Got c = λ past shows order is.
    let old = c.args.self.now in
    subst (λ (line : TextLine). Grows old c.follow.new.self.queues c.receive.new.self line) (sym (c.in-Printed.is ∙ ap Printed c.in-Got.is))
    (grows_got old c.receive.new.self c.follow.new.self.queues (ap (λ (q : _). q.queues) c.in_ok-receive-in-Got.ensures.queues) c.in_ok-receive-in-Got.ensures.accepted
    c.in-Got.link c.in-Got.item c.in_ok-receive-in-Got.ensures.messages c.in_ok-receive-in-Got.ensures.delivered c.in_ok-receive-in-Got.ensures.received)
    past c.in_ok-follow.ensures shows order is

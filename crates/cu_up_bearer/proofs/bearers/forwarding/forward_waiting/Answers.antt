use Rattle.std.proofs.Common.{List, sym, ap, ◌∙◌}
use Rattle.std.specs.VecDeque.Iter.{deque_iter_rest}
use Rattle.gnb_types.specs.declared.outputs.Output.{Output}
use Rattle.unit_messages.specs.steps.Steps.{stepped}
use Rattle.cu_up_bearer.proofs.bearers.Forwards.{fresh_none, waiting}
use Rattle.cu_up_bearer.proofs.bearers.forwarding.forward_waiting.Goals as goal

pub returns : goal.returns
returns c = λ codec b hop_is.
    let l = c.loop-packet in
    waiting c.args.at.now c.args.hop codec b hop_is c.args.sending.now.waiting c.args.out.now
    ∙ ap (λ (os : List Output). stepped os b)
    (sym (sym (fresh_none c.args.at.now c.args.hop l.out (deque_iter_rest l.packet-iterator) c.in-None.ensures.steps.0) ∙ l.invariant.all))

use Rattle.std.proofs.Common.{◌≡◌, ℕ, List, Ok, sym, ap, ◌∙◌, subst}
use Rattle.std.specs.Prelude.{Err, IfOk}
use Rattle.um_defs.specs.declared.types.error.UmError.{UmError}
use Rattle.um_defs.specs.Receivers.{UmReceiver, ticked, entries}
use Rattle.um.specs.um_pdcp.Entity.{UmState}
use Rattle.um.proofs.um_pdcp.OutLemmas.{still_out, new_entity, new_numbers, same_where_ok, refused_again, noted}
use Rattle.um.proofs.um_pdcp.rx.UmRx.tick.Goals as goal

pub returns-then-self-clause-out : goal.returns-then-self-clause-out
returns-then-self-clause-out c = still_out c.args.self.now (ap (λ (u : UmState). u.lacks_memory) (sym c.self.view_is) ∙ c.if-self.true)

pub returns-clause-ticked : goal.returns-clause-ticked
returns-clause-ticked c =
    let u = c.args.self.now in
    subst (λ (e : UmReceiver (List ℕ)). IfOk c.count_tick-answer.result (λ outs. ticked u.ticks u.entity ≡ record { packets = entries outs; after = e }))
    (sym (new_entity c.args.self.now c.count_tick-answer.new.self c.note.new.self c.runs_out.result (ap (λ (u : UmState). u.lacks_memory) (sym c.self.view_is) ∙ c.if-self.false) c.note.ensures)) c.count_tick-answer.ensures.ticked

pub returns-clause-same : goal.returns-clause-same
returns-clause-same c = same_where_ok c.args.self.now c.count_tick-answer.new.self c.note.new.self c.runs_out.result (ap (λ (u : UmState). u.lacks_memory) (sym c.self.view_is) ∙ c.if-self.false) c.note.ensures c.count_tick-answer.result c.runs_out.ensures c.count_tick-answer.ensures.same

pub returns-clause-numbers : goal.returns-clause-numbers
returns-clause-numbers c = new_numbers c.args.self.now c.count_tick-answer.new.self c.note.new.self c.runs_out.result (ap (λ (u : UmState). u.lacks_memory) (sym c.self.view_is) ∙ c.if-self.false) c.note.ensures c.count_tick-answer.ensures.numbers

pub returns-clause-out : goal.returns-clause-out
returns-clause-out c = noted c.args.self.now c.count_tick-answer.new.self c.note.new.self c.runs_out.result (ap (λ (u : UmState). u.lacks_memory) (sym c.self.view_is) ∙ c.if-self.false) c.note.ensures c.count_tick-answer.result c.runs_out.ensures

use Rattle.std.proofs.Common.{◌≡◌, ℕ, List, Ok, sym, ap, ◌∙◌, subst}
use Rattle.std.specs.Prelude.{Err, IfOk}
use Rattle.um_defs.specs.declared.types.error.UmError.{UmError}
use Rattle.um_defs.specs.Receivers.{UmReceiver, takes, entries}
use Rattle.um.specs.um_pdcp.Entity.{UmState}
use Rattle.um.proofs.um_pdcp.OutLemmas.{still_out, new_entity, new_numbers, same_where_ok, refused_again, noted}
use Rattle.um.proofs.um_pdcp.rx.UmRx.take.Goals as goal

pub returns-then-self-clause-out : goal.returns-then-self-clause-out
returns-then-self-clause-out c = still_out c.args.self.now (ap (λ (u : UmState). u.lacks_memory) (sym c.self.view_is) ∙ c.if-self.true)

pub returns-clause-taken : goal.returns-clause-taken
returns-clause-taken c =
    let u = c.args.self.now in
    subst (λ (e : UmReceiver (List ℕ)). IfOk c.receive-answer.result (λ outs. takes u.sn u.ticks u.entity c.args.number c.args.packet.now
    ≡ Ok (record { packets = entries outs; after = e })))
    (sym (new_entity c.args.self.now c.receive-answer.new.self c.note.new.self c.runs_out.result (ap (λ (u : UmState). u.lacks_memory) (sym c.self.view_is) ∙ c.if-self.false) c.note.ensures)) c.receive-answer.ensures.taken

pub returns-clause-refused : goal.returns-clause-refused
returns-clause-refused c =
    let u = c.args.self.now in
    refused_again c.args.self.now c.receive-answer.new.self c.note.new.self c.runs_out.result (ap (λ (u : UmState). u.lacks_memory) (sym c.self.view_is) ∙ c.if-self.false) c.note.ensures c.receive-answer.result c.runs_out.ensures
    (λ (e : UmError). takes u.sn u.ticks u.entity c.args.number c.args.packet.now ≡ Err e) c.receive-answer.ensures.refused

pub returns-clause-same : goal.returns-clause-same
returns-clause-same c = same_where_ok c.args.self.now c.receive-answer.new.self c.note.new.self c.runs_out.result (ap (λ (u : UmState). u.lacks_memory) (sym c.self.view_is) ∙ c.if-self.false) c.note.ensures c.receive-answer.result c.runs_out.ensures c.receive-answer.ensures.same

pub returns-clause-numbers : goal.returns-clause-numbers
returns-clause-numbers c = new_numbers c.args.self.now c.receive-answer.new.self c.note.new.self c.runs_out.result (ap (λ (u : UmState). u.lacks_memory) (sym c.self.view_is) ∙ c.if-self.false) c.note.ensures c.receive-answer.ensures.numbers

pub returns-clause-out : goal.returns-clause-out
returns-clause-out c = noted c.args.self.now c.receive-answer.new.self c.note.new.self c.runs_out.result (ap (λ (u : UmState). u.lacks_memory) (sym c.self.view_is) ∙ c.if-self.false) c.note.ensures c.receive-answer.result c.runs_out.ensures

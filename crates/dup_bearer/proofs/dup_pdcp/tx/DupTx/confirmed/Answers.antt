use Rattle.std.proofs.Common.{◌≡◌, refl, sym, ap, ◌∙◌, subst}
use Rattle.gnb_types.specs.declared.names.SnBits.{SnBits}
use Rattle.pdcp_defs.specs.Counts.{count_below as count_below_of}
use Rattle.dup_defs.specs.Senders.{DupNumbers, confirmed}
use Rattle.pdcp_bearers.specs.ue_bearers.Senders.{SenderState}
use Rattle.pdcp_entities.specs.Entities.{confirmed_number}
use Rattle.dup_bearer.specs.dup_pdcp.Entity.{DupTxState}
use Rattle.dup_bearer.specs.dup_pdcp.inside.Views.{tx_state, sender_state, marks, IsGiven}
use Rattle.dup_bearer.proofs.dup_pdcp.NumberLemmas.{confirmed_none, confirmed_some, given_none}
use Rattle.dup_bearer.proofs.dup_pdcp.tx.DupTx.confirmed.Goals as goal

pub returns-in-None : goal.returns-in-None
returns-in-None c =
    let old = c.args.self.now in
    given_none _ old old old.entity c.new.result (confirmed_none old.sn old.quota c.args.number old.entity (sym c.count_below.ensures ∙ c.in-None.is)) c.new.ensures refl

pub returns-in-Some : goal.returns-in-Some
returns-in-Some c =
    let t = c.self.inside in
    let m = marks t.mode t.first_up t.second_up in
    let old = tx_state t.sn t.quota t.packets m t.ended in
    let going = c.self.invariant (ap (λ (v : DupTxState). v.ended) c.self.view_is ∙ c.requires) in
    let found = subst (λ (v : DupTxState). c.count_below.result ≡ count_below_of v.sn v.entity.sender.next c.args.number) (sym c.self.view_is) c.count_below.ensures in
    let sender_is = c.confirm_to.ensures ∙ ap (λ (k : SnBits). record t.packets { sender = confirmed_number k t.packets.sender c.args.number }) going.0 in
    subst (λ (v : DupTxState). IsGiven (confirmed v.sn v.quota c.args.number v.entity) v c.number_waiting.new.self c.number_waiting.result) c.self.view_is
    (subst (λ (d : DupNumbers). IsGiven d old c.number_waiting.new.self c.number_waiting.result)
    (confirmed_some t.sn t.quota c.args.number _ old.entity _ (sym found ∙ c.in-Some.is) (ap (λ (u : SenderState). sender_state u m) sender_is))
    c.number_waiting.ensures)

use Rattle.std.proofs.Common.{ap, subst}
use Rattle.dup_defs.specs.Senders.{DupNumbers, offered}
use Rattle.pdcp_bearers.specs.ue_bearers.Senders.{SenderState}
use Rattle.dup_bearer.specs.dup_pdcp.Entity.{DupTxState}
use Rattle.dup_bearer.specs.dup_pdcp.inside.Views.{tx_state, sender_state, marks, IsGiven}
use Rattle.dup_bearer.proofs.dup_pdcp.NumberLemmas.{offered_is}
use Rattle.dup_bearer.proofs.dup_pdcp.tx.DupTx.offered.Goals as goal

pub returns : goal.returns
returns c =
    let t = c.self.inside in
    let m = marks t.mode t.first_up t.second_up in
    let old = tx_state t.sn t.quota t.packets m t.ended in
    subst (λ (v : DupTxState). IsGiven (offered v.sn v.quota c.args.packet.now v.entity) v c.number_waiting.new.self c.number_waiting.result) c.self.view_is
    (subst (λ (d : DupNumbers). IsGiven d old c.number_waiting.new.self c.number_waiting.result)
    (offered_is t.sn t.quota c.args.packet.now c.in_ok-packet.packet old.entity _ (ap (λ (u : SenderState). sender_state u m) c.in-Ok.ensures) c.in_ok-packet.ensures)
    c.number_waiting.ensures)

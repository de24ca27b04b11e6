use Rattle.std.proofs.Common.{◌∙◌, ap, sym, ℕ}
use Rattle.pdcp_defs.specs.Counts.{near_count}
use Rattle.pdcp_entities.proofs.NearLemmas.{near_agrees}
use Rattle.pdcp_bearers.specs.ue_bearers.Receivers.{ReceiverState}
use Rattle.pdcp_bearers.proofs.ue_bearers.StoreLemmas.{deliv_seen}
use Rattle.pdcp_bearers.proofs.ue_bearers.receiver.Receiver.count_of.Goals as goal

pub returns : goal.returns
returns c =
    let i = c.self.inside in
    let deliv = c.deliv.ensures ∙ deliv_seen i.sn i.quota i.pool i.rx c.args.self.now c.self.view_is in
    sym (near_agrees i.sn c.deliv.result c.args.number c.near.result c.near.ensures.found c.near.ensures.only)
    ∙ (ap (λ (n : ℕ). near_count i.sn n c.args.number) deliv
    ∙ ap (λ (d : ReceiverState). near_count d.sn c.args.self.now.receiver.deliv c.args.number) c.self.view_is)

use Rattle.std.proofs.Common.{◌≡◌, ◌+◌, sym, ap, ◌∙◌}
use Rattle.pdcp_defs.specs.Receivers.{received_bits}
use Rattle.pdcp_entities.specs.Entities.{RxState}
use Rattle.pdcp_entities.proofs.SlotLemmas.{bits-after}
use Rattle.pdcp_entities.proofs.rx.Rx.report.Goals as goal

pub returns : goal.returns
unfolding received_bits
returns c =
    let ring = c.self.inside.stored in (
      ap (λ (v : RxState). v.receiver.deliv) c.self.view_is,
      c.in_ok-bits.ensures
          ∙ (sym (bits-after ring.first ring.slots.items c.self.invariant.last_full) ∙ ap (λ (v : RxState). received_bits v.receiver) c.self.view_is),
    )

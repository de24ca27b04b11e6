use Rattle.std.proofs.Common.{ℕ, List, subst}
use Rattle.unit_defs.specs.CuCpRecords.{Row}
use Rattle.unit_defs.specs.CuCpRows.{offer}
use Rattle.unit_defs.specs.octet_defs.Codec.{octet_way}
use Rattle.cu_cp_records.specs.control_actions.Rows.{RowGives}
use Rattle.cu_control.proofs.asked.offered.Goals as goal

pub returns : goal.returns
returns g c =
    let way = octet_way g.C.MessageCodec.codec in
    c.carry_made.ensures _
    (subst (λ (wanted : Row (List ℕ)). RowGives wanted c.offer-row.result)
    (λ i. offer way (c.at_of-at.ensures i) c.args.channel.peer c.args.offered.instance (c.offer_context-context.ensures i) (c.in_ok-terminal.ensures i))
    c.offer-row.ensures)

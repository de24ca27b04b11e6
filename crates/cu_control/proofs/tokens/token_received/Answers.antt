use Rattle.std.proofs.Common.{ℕ, List, ap, ◌∙◌, subst}
use Rattle.unit_defs.specs.CuCpRecords.{Row}
use Rattle.unit_defs.specs.CuCp.{no_context_first, token_received}
use Rattle.unit_defs.specs.octet_defs.Codec.{octet_way}
use Rattle.cu_cp_records.specs.control_actions.Rows.{RowGives}
use Rattle.cu_control.proofs.tokens.token_received.Goals as goal

pub returns : goal.returns
unfolding token_received
returns g c =
    let codec = g.C.MessageCodec.codec in
    let way = octet_way codec in
    let token_is = c.in_ok-token.ensures ∙ ap (λ (octets : List ℕ). codec.read_token octets) c.as_slice.ensures in
    c.carry_made.ensures _
    (subst (λ (wanted : Row (List ℕ)). RowGives wanted c.token_received-row.result)
    (λ i. no_context_first way (c.at_of-at.ensures i) c.args.from (c.in_ok-terminal.ensures i) (c.in_ok-terminal.ensures i).context (token_is i))
    c.token_received-row.ensures)

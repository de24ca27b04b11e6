use Rattle.std.proofs.Common.{rules, length}
use Rattle.aper_values.specs.types.Types.{tree}
use Rattle.aper_fields.proofs.members.MessageLemmas.{messages_below}
use Rattle.aper_fields.proofs.members.RowLemmas.{body_below}
use Rattle.json_read.proofs.guess.Parts.{placed_below}
use Rattle.json_read.proofs.guess.values.+guess.Goals as goal

pub sequence-value-requires : goal.sequence-value-requires
sequence-value-requires t c =
    (search rules, placed_below (length c.args.m.now.nodes) c.args.parts.now c.in_ok-place.place _ c.requires c.in_ok-place.ensures)

pub choice-value-requires : goal.choice-value-requires
choice-value-requires t c =
    (search rules, placed_below (length c.args.m.now.nodes) c.args.parts.now c.in_ok-place.place _ c.requires c.in_ok-place.ensures)

pub element-contents-requires : goal.element-contents-requires
element-contents-requires t c = (
  search rules,
  body_below (tree c.args.m.now) (length c.args.m.now.nodes) c.in_ok-id.id c.args.rows.now c.row_type.result c.requires c.row_type.ensures,
)

pub pdu-contents-requires : goal.pdu-contents-requires
pdu-contents-requires t c = (
  search rules,
  messages_below (length c.args.m.now.nodes) c.in_ok-outcome.outcome c.in_ok-code.code c.args.rows.now c.message_type.result c.requires
      c.message_type.ensures,
)

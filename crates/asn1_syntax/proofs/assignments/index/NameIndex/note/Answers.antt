use Rattle.std.proofs.Common.{sym, ◌∙◌}
use Rattle.asn1_syntax.proofs.assignments.Indexed.{stays_noted, key_noted}
use Rattle.asn1_syntax.proofs.assignments.index.NameIndex.note.Goals as goal

pub returns-then-contains_key : goal.returns-then-contains_key
returns-then-contains_key c = stays_noted c.args.self.now c.args.name.now c.args.number (sym c.contains_key.ensures ∙ c.if-contains_key.true)

pub returns : goal.returns
returns c =
    key_noted c.args.self.now (record { numbers = c.insert.new.self }) c.args.name.now c.in_ok-name.name c.args.number c.in_ok-name.ensures.items
    (sym c.contains_key.ensures ∙ c.if-contains_key.false) c.in_ok-insert.ensures.updates

use Rattle.message_spellings.proofs.Somewhere.{no_octets, on_its_interface, on_any}
use Rattle.message_spellings.proofs.ProfileSpellingsSpells.is_spelling.Goals as goal

pub returns-then-is_empty : goal.returns-then-is_empty
returns-then-is_empty c = no_octets c.args.octets.now _ c.is_empty.ensures c.if-is_empty.true

pub returns-then-branch : goal.returns-then-branch
returns-then-branch c =
    on_its_interface c.args.octets.now _ c.is_empty.ensures _ _ _ c.if-branch.true c.in_ok-is_spelled_between.ensures

pub returns : goal.returns
returns c = on_any c.args.octets.now _ c.is_empty.ensures _ c.if-is_empty.false c.is_spelled_somewhere.ensures

-- What a shelf ends as, where a `&mut` to one of its values is returned.
use Rattle.std.specs.Prelude.{List, Option}
use Rattle.std.specs.Borrow.{LendsIf, Fml, RattleType, MutBor}
use Rattle.std.specs.BTreeMap.Lent.{OrdMembers}
use Rattle.tables.specs.Tables.{put}
use Rattle.tables.specs.contracts.shelf.Shelf.{the_row}

-- once the borrow r ends, the key has the last value written through r; at `None` the shelf stays as it is
abbrev pub lends_get : (K V : RattleType) → OrdMembers K.Denot → MutBor (List (K.Denot × V.Denot)) → K.Denot → Option (MutBor V.Denot) → Fml
lends_get K V g s key r =
    LendsIf (the_row K V (record { cmp = g.cmp }) (record { eq = g.eq }) (record { partial_cmp = g.partial_cmp })) V s r
    (put g.cmp s.now key) s.now

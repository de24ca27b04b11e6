use Rattle.std.proofs.Common.{◌≡◌, drop}
use Rattle.std.specs.List.{list_all}
use Rattle.aper_defs.specs.Membership.{is_printable}
use Rattle.aper.proofs.measuring.bounds.are_printable.Given as goal

abbrev pub invariant-loop-character : goal.invariant-loop-character
invariant-loop-character l = list_all is_printable (drop l.character-index l.characters) ≡ list_all is_printable l.characters

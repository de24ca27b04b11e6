use Rattle.std.proofs.Common.{◌≡◌, ◌≤◌, ◌+◌, take}
use Rattle.asn1_defs.specs.Positions.{line_after, column_after}
use Rattle.asn1_module.proofs.position.position_after.Given as goal

abbrev pub invariant-loop-c : goal.invariant-loop-c
invariant-loop-c l = record {
  line : l.line ≡ line_after (take l.c-index l.front);
  column : l.column ≡ column_after (take l.c-index l.front);
  line_fits : l.line ≤ l.c-index + 1;
  column_fits : l.column ≤ l.c-index + 1;
}

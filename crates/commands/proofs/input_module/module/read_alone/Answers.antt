use Rattle.std.proofs.Common.{refl}
use Rattle.commands.proofs.input_module.Steps.{blank_after, more_after}
use Rattle.commands.proofs.input_module.module.read_alone.Goals as goal

pub returns-then-not-branch : goal.returns-then-not-branch
returns-then-not-branch c = record {
  m = c.in_ok-module.module;
  octets = c.in_ok-module.end;
  reads = c.in_ok-module.ensures;
  more = more_after _ _ _ _ c.in_ok-is_blank.ensures c.min.ensures c.if-not-branch.true;
  at = refl;
  extra = refl;
}

pub returns : goal.returns
returns c = record {
  octets = c.in_ok-module.end;
  reads = c.in_ok-module.ensures;
  alone = blank_after _ _ _ _ c.in_ok-is_blank.ensures c.min.ensures c.if-not-branch.false;
}

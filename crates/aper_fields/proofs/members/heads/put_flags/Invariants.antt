use Rattle.std.proofs.Common.{◌≡◌, false, drop}
use Rattle.bits_core.specs.Writing.{Written}
use Rattle.aper_fields.proofs.members.HeadLemmas.{FlagsFollow}
use Rattle.aper_fields.proofs.members.heads.put_flags.Given as goal

abbrev pub invariant-loop-i : goal.invariant-loop-i
invariant-loop-i l = record {
  going : l.out.failed ≡ false;
  follows : (new : Written) → FlagsFollow l.out new (drop l.i l.parts) (drop l.i l.values) → FlagsFollow l.fn.out new l.parts l.values;
}

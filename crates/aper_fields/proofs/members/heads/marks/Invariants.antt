use Rattle.std.proofs.Common.{◌≡◌, ◌+◌, ◌*◌, ◌^◌, ◌<◌, length, drop}
use Rattle.aper_fields.proofs.members.HeadLemmas.{marks_of}
use Rattle.aper_fields.proofs.members.heads.marks.Given as goal

abbrev pub invariant-loop-addition : goal.invariant-loop-addition
invariant-loop-addition l = record {
  value : l.marks * 2 ^ length (drop l.addition-index l.additions) + marks_of (drop l.addition-index l.additions) ≡ marks_of l.additions;
  small : l.marks < 2 ^ l.addition-index;
}

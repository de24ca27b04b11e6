use Rattle.std.proofs.Common.{◌≡◌, ◌≤◌, ◌^◌, take}
use Rattle.asn1_tokens.specs.Scan.{magnitude}
use Rattle.asn1_tokens.proofs.scan.magnitude.Given as goal

abbrev pub invariant-loop-digit : goal.invariant-loop-digit
invariant-loop-digit l = record { value : l.value ≡ magnitude (take l.digit-index l.digits); small : l.value ≤ 2 ^ 64 }

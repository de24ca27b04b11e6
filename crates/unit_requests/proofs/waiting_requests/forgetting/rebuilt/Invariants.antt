use Rattle.std.proofs.Common.{◌≡◌, ◌++◌, length, map}
use Rattle.std.specs.List.Sorted.{IsStrictlySortedBy}
use Rattle.std.specs.Map.{keys_of}
use Rattle.gnb_types.specs.Orders.{channel_cmp}
use Rattle.unit_defs.specs.octet_defs.Codec.{Codec, octet_way}
use Rattle.unit_defs.specs.CuCpRecords.{unawaited}
use Rattle.unit_requests.proofs.waiting_requests.forgetting.rebuilt.Given as goal

-- what is done, and what is left, is all, in the order of channels
abbrev pub invariant-loop-channel : goal.invariant-loop-channel
invariant-loop-channel l = record {
  sorted : IsStrictlySortedBy channel_cmp (keys_of l.after ++ keys_of l.left);
  all : (codec : Codec) → l.after ++ map (unawaited (octet_way codec) l.ue) l.left ≡ map (unawaited (octet_way codec) l.ue) l.initial.left;
}

abbrev pub decreases-loop-channel : goal.decreases-loop-channel
decreases-loop-channel l = length l.left

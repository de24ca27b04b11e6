-- No order of the model up takes back what was carried up.
use Rattle.std.proofs.Common.{◌≡◌, ℕ, ◌≤◌, Bool, true, false, nat_lt, List, [], ◌∷◌, Option, Some, None, refl, arith}
use Rattle.pdcp_defs.specs.Receivers.{is_duplicate}
use Rattle.unit_defs.specs.CuUpRecords.{SourceHop}
use Rattle.bearer_defs.specs.uplink_defs.Models.{uplink_tunnel, forwarding, Member, Model, with_rest}
use Rattle.bearer_defs.specs.uplink_defs.Orders.{ModelStep, carries, takes, ends_uplink, ends_hop, after, run, stored_at, new_at, late_at, taken_at, ended_if, ended_at, is_up_over, without_uplink}

module _ (s : Model) (x : ℕ) (m : Member) where
  ended_reached : (hop : Option SourceHop) → (ended_at s x m hop).reached ≡ s.reached
  ended_reached None = refl
  ended_reached (Some hop) = by (is_up_over m hop)
    where
      by : (t : Bool) → (ended_if s x m hop t).reached ≡ s.reached
      by true = refl
      by false = refl

  taken_reached : (count : ℕ) (packet : List ℕ) (t : Bool) → (taken_at s x m count packet t).reached ≡ s.reached
  taken_reached count packet true = by (nat_lt count m.bearer.receiver.deliv)
    where
      by : (t : Bool) → (late_at s x m count packet t).reached ≡ s.reached
      by true = refl
      by false = refl
  taken_reached count packet false = by (is_duplicate m.bearer.receiver count)
    where
      stored_by : (t : Bool) → (stored_at s x m count packet t).reached ≡ s.reached
      stored_by true = refl
      stored_by false = refl

      by : (t : Bool) → (new_at s x m count packet t).reached ≡ s.reached
      by true = refl
      by false = stored_by m.flags.frozen

same_or_more : (a b : ℕ) → b ≡ a → a ≤ b
same_or_more a b e = omega arith

pub one_grows : (s : Model) (o : ModelStep) → s.reached ≤ (after s o).reached
unfolding after
one_grows s (carries teid count packet rest) = omega arith
one_grows s (takes x from count packet rest) = same_or_more s.reached (after s (takes x from count packet rest)).reached
    (taken_reached s x (with_rest (s.members x) from rest) count packet (s.members x).flags.released)
one_grows s (ends_uplink x teid rest) =
    let m : Member = without_uplink (with_rest (s.members x) (uplink_tunnel teid) rest) teid in
    same_or_more s.reached (after s (ends_uplink x teid rest)).reached (ended_reached s x m m.bearer.hop)
one_grows s (ends_hop x rest) =
    let m : Member = with_rest (s.members x) forwarding rest in
    same_or_more s.reached (after s (ends_hop x rest)).reached
    (ended_reached s x (record m { bearer = record m.bearer { up_ended = true } }) m.bearer.hop)
one_grows s o = omega arith

pub all_grow : (s : Model) (os : List ModelStep) → s.reached ≤ (run s os).reached
unfolding run
all_grow s [] = omega arith
all_grow s (o ∷ os) = let l = one_grows s o in let k = all_grow (after s o) os in omega arith

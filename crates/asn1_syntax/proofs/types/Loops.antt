-- One turn of a loop, and its end.
use Rattle.std.proofs.Common.{◌≡◌, ℕ, suc, List, ◌+◌, ◌-◌, ◌<◌, ◌≤◌, Bool, cond, ap, arith}
use Rattle.std.specs.Prelude.{Result, Ok, Err}
use Rattle.asn1_syntax.specs.declared.types.fault.Fault.{Fault}
use Rattle.asn1_syntax.specs.types.Reading.{Left}
use Rattle.asn1_syntax.specs.types.inside.Reading.{◌>>=◌, unexpected, repeat_at}
use Rattle.asn1_syntax.specs.declared.types.definition.Node.{Node}
use Rattle.asn1_syntax.specs.declared.types.members.Frame.{Frame}
use Rattle.asn1_syntax.specs.types.inside.Types.{type_turn_at, type_goes_on, type_within_at}

pub repeat_turn : {S : Type 0} (turn : S → Left → Result (Bool × S × Left) Fault) (turns counter : ℕ) (state : S) (ts : Left) → counter < turns → repeat_at turn (turns - counter) state ts ≡ (turn state ts >>= λ t. cond t.0 (repeat_at turn (turns - (counter + 1)) t.1 t.2) (Ok (t.1, t.2)))
unfolding repeat_at
repeat_turn turn turns counter state ts h =
    let next : turns - counter ≡ suc (turns - (counter + 1)) = omega arith in
    ap (λ (n : ℕ). repeat_at turn n state ts) next

pub repeat_end : {S : Type 0} (turn : S → Left → Result (Bool × S × Left) Fault) (turns counter : ℕ) (state : S) (ts : Left) → turns ≤ counter → repeat_at turn (turns - counter) state ts ≡ Err (unexpected ts)
unfolding repeat_at
repeat_end turn turns counter state ts h =
    let none : turns - counter ≡ 0 = omega arith in
    ap (λ (n : ℕ). repeat_at turn n state ts) none

pub type_turn : (most turns counter : ℕ) (stack : List Frame) (nodes : List Node) (ts : Left) → counter < turns → type_within_at most (turns - counter) stack nodes ts ≡ (type_turn_at most stack nodes ts >>= λ t. type_goes_on t (type_within_at most (turns - (counter + 1))))
unfolding type_within_at
type_turn most turns counter stack nodes ts h =
    let next : turns - counter ≡ suc (turns - (counter + 1)) = omega arith in
    ap (λ (n : ℕ). type_within_at most n stack nodes ts) next

pub type_end : (most turns counter : ℕ) (stack : List Frame) (nodes : List Node) (ts : Left) → turns ≤ counter → type_within_at most (turns - counter) stack nodes ts ≡ Err (unexpected ts)
unfolding type_within_at
type_end most turns counter stack nodes ts h =
    let none : turns - counter ≡ 0 = omega arith in
    ap (λ (n : ℕ). type_within_at most n stack nodes ts) none

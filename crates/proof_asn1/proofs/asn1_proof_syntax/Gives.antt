-- What a reading function gives, where it gives a value.
use Rattle.std.proofs.Common.{◌≡◌, ℕ, zero, suc, Bool, true, false, ◌&&◌, refl}
use Rattle.std.specs.Prelude.{Result, Ok, Err}
use Rattle.gnb_types.proofs.Choices.{by_choice}
use Rattle.asn1_syntax.specs.declared.types.fault.Fault.{Fault}
use Rattle.asn1_syntax.specs.types.Reading.{Left}
use Rattle.asn1_syntax.specs.types.inside.Reading.{◌>>=◌, repeat_at}

pub data Gives {A : Type 0} (P : A → Type 0) : Result A Fault → Type 0 where
  ok : {a : A} → P a → Gives P (Ok a)
  no_value : {f : Fault} → Gives P (Err f)

pub and_gives : {A B : Type 0} {P : A → Type 0} {Q : B → Type 0} {r : Result A Fault} {g : A → Result B Fault} → Gives P r → ((a : A) → P a → Gives Q (g a)) → Gives Q (r >>= g)
and_gives (ok {a} p) on = on a p
and_gives no_value on = no_value

pub gives_so : {A : Type 0} {P Q : A → Type 0} {r : Result A Fault} → Gives P r → ((a : A) → P a → Q a) → Gives Q r
gives_so (ok {a} p) on = ok (on a p)
gives_so no_value on = no_value

pub and_parts : (a b : Bool) → a && b ≡ true → (a ≡ true) × (b ≡ true)
and_parts true b h = (refl, h)
and_parts false b h = cc

-- turns that each go on from one state to another, or end
abbrev pub Next : {S : Type 0} → (S → Left → Type 0) → (S → Left → Type 0) → Bool × S × Left → Type 0
Next P Q a = (a.0 ≡ true → P a.1 a.2) × (a.0 ≡ false → Q a.1 a.2)

pub repeat_gives : {S : Type 0} (turn : S → Left → Result (Bool × S × Left) Fault) (P Q : S → Left → Type 0) → ((state : S) (ts : Left) → P state ts → Gives (Next P Q) (turn state ts)) → (turns : ℕ) (state : S) (ts : Left) → P state ts → Gives (λ (a : S × Left). Q a.0 a.1) (repeat_at turn turns state ts)
unfolding repeat_at
repeat_gives turn P Q step zero state ts p = no_value
repeat_gives turn P Q step (suc turns) state ts p = and_gives (step state ts p) (λ t later.
    by_choice (Gives (λ (a : _ × Left). Q a.0 a.1)) t.0 (repeat_at turn turns t.1 t.2) (Ok (t.1, t.2))
    (λ h. repeat_gives turn P Q step turns t.1 t.2 (later.0 h))
    (λ h. ok (later.1 h)))

-- What is so of a receiving entity of an unacknowledged bearer, whatever came to it.
use Rattle.std.specs.Prelude.{◌≡◌, ℕ, ◌+◌, ◌<◌, ◌≤◌, nat_lt, List, [], ◌∷◌, is_some, IfSome, ⊤}
use Rattle.um_defs.specs.Receivers.{UmReceiver}

-- COUNTs that rise, none below the first number, each below the second
abbrev pub IsWithin : {X : Type 0} → ℕ → ℕ → List (ℕ × X) → Type 0
IsWithin low high [] = ⊤
IsWithin low high (e ∷ es) = (low ≤ e.0) × (e.0 < high) × IsWithin (e.0 + 1) high es

-- one COUNT after the other, from the first number up to the second
abbrev pub IsRun : {X : Type 0} → ℕ → ℕ → List (ℕ × X) → Type 0
IsRun low high [] = low ≡ high
IsRun low high (e ∷ es) = (e.0 ≡ low) × IsRun (low + 1) high es

-- no packet has this COUNT
abbrev pub HasNone : {X : Type 0} → ℕ → List (ℕ × X) → Type 0
HasNone count [] = ⊤
HasNone count (e ∷ es) = (e.0 ≡ count → ⊥) × HasNone count es

-- What is stored lies between RX_DELIV, which isn't stored, and RX_NEXT; the timer runs exactly while something below RX_NEXT is
-- awaited, and then RX_REORD is above RX_DELIV.
pub record IsSound {X : Type 0} (r : UmReceiver X) : Type 0 where
  pub deliv : r.receiver.deliv ≤ r.next
  pub stored : IsWithin (r.receiver.deliv + 1) r.next r.receiver.stored
  pub reord : r.reord ≤ r.next
  pub runs : is_some r.left ≡ nat_lt r.receiver.deliv r.next
  pub awaits : IfSome r.left (λ left. r.receiver.deliv < r.reord)

-- The receiving PDCP entity (TS 38.323, 5.2.2): RX_DELIV, and the packets that are stored for delivery in order, each with its
-- COUNT, in ascending order. The reordering timer is infinite.
use Rattle.std.specs.Prelude.{◌==◌, ℕ, ◌+◌, ◌-◌, Bool, true, false, ◌||◌, nat_lt, nat_le, if◌then◌else◌, List, [], ◌∷◌, ◌++◌, is_some, replicate}
use Rattle.std.specs.Ordering.{nat_cmp}
use Rattle.tables.specs.Tables.{find, put}

pub record Receiver (X : Type 0) : Type 0 where
  pub deliv : ℕ
  pub stored : List (ℕ × X)

abbrev pub new_receiver : {X : Type 0} → ℕ → Receiver X
new_receiver deliv = record { deliv = deliv; stored = [] }

-- a COUNT that was delivered or is stored is a duplicate
unfoldable pub is_duplicate : {X : Type 0} → Receiver X → ℕ → Bool
is_duplicate r count = nat_lt count r.deliv || is_some (find nat_cmp r.stored count)

-- a COUNT that has no room is ahead
unfoldable pub is_ahead : {X : Type 0} → ℕ → Receiver X → ℕ → Bool
is_ahead quota r count = nat_le (r.deliv + quota) count

unfoldable pub stored : {X : Type 0} → Receiver X → ℕ → X → Receiver X
stored r count x = record r { stored = put nat_cmp r.stored count x }

-- what is handed up: the packets from RX_DELIV on without a gap, and what is left
pub record Delivery (X : Type 0) : Type 0 where
  pub packets : List (ℕ × X)
  pub after : Receiver X

abbrev pub with_packet : {X : Type 0} → ℕ × X → Delivery X → Delivery X
with_packet e d = record d { packets = e ∷ d.packets }

abbrev pub deliver_from : {X : Type 0} → ℕ → List (ℕ × X) → Delivery X
deliver_from deliv [] = record { packets = []; after = record { deliv = deliv; stored = [] } }
deliver_from deliv (e ∷ es) =
    if e.0 == deliv then with_packet e (deliver_from (deliv + 1) es)
    else record { packets = []; after = record { deliv = deliv; stored = e ∷ es } }

unfoldable pub deliver : {X : Type 0} → Receiver X → Delivery X
deliver r = deliver_from r.deliv r.stored

-- the bits of a status report (6.3.10): whether each COUNT after FMC, which is RX_DELIV, is stored, up to the last one that is
abbrev pub bits_from : {X : Type 0} → ℕ → List (ℕ × X) → List Bool
bits_from next [] = []
bits_from next (e ∷ es) = if nat_lt e.0 next then bits_from next es else replicate (e.0 - next) false ++ true ∷ bits_from (e.0 + 1) es

unfoldable pub received_bits : {X : Type 0} → Receiver X → List Bool
received_bits r = bits_from (r.deliv + 1) r.stored

-- The transmitting PDCP entity (TS 38.323, 5.2.1): TX_NEXT, and the packets that nothing confirmed, each with its COUNT, in
-- ascending order. What stands for a packet is a parameter.
use Rattle.std.specs.Prelude.{ℕ, ◌+◌, ◌-◌, Bool, true, false, not, ◌&&◌, ◌||◌, nat_lt, nat_le, min, List, [], ◌∷◌, ◌++◌, filter, Option, Some, None, slice_get, unwrap_or}
use Rattle.gnb_types.specs.declared.names.SnBits.{SnBits}
use Rattle.pdcp.specs.Numbers.{half}

pub record Sender (X : Type 0) : Type 0 where
  pub next : ℕ
  pub unconfirmed : List (ℕ × X)

abbrev pub new_sender : {X : Type 0} → ℕ → Sender X
new_sender next = record { next = next; unconfirmed = [] }

-- the least COUNT that nothing confirmed, or the next one
abbrev pub first_of : {X : Type 0} → ℕ → List (ℕ × X) → ℕ
first_of next [] = next
first_of next (e ∷ es) = e.0

unfoldable pub first : {X : Type 0} → Sender X → ℕ
first s = first_of s.next s.unconfirmed

-- the last COUNT that is held, if any
abbrev pub last_of : {X : Type 0} → Option ℕ → List (ℕ × X) → Option ℕ
last_of last [] = last
last_of last (e ∷ es) = last_of (Some e.0) es

-- how many COUNTs may be under way: less than half the space of numbers (7.2: Window_Size), and the quota at most
abbrev pub window : SnBits → ℕ → ℕ
window sn quota = min (half sn - 1) quota

unfoldable pub has_room : {X : Type 0} → SnBits → ℕ → Sender X → Bool
has_room sn quota s = nat_lt (s.next - first s) (window sn quota)

-- a packet gets the next COUNT
unfoldable pub numbered : {X : Type 0} → Sender X → X → Sender X
numbered s x = record { next = s.next + 1; unconfirmed = s.unconfirmed ++ (s.next, x) ∷ [] }

-- a packet that another entity numbered is held: its COUNT is within the window below TX_NEXT, and above all that is held
abbrev pub is_above : ℕ → Option ℕ → Bool
is_above count None = true
is_above count (Some last) = nat_lt last count

unfoldable pub may_restore : {X : Type 0} → SnBits → ℕ → Sender X → ℕ → Bool
may_restore sn quota s count =
    nat_le (s.next - window sn quota) count && nat_lt count s.next && is_above count (last_of None s.unconfirmed)

unfoldable pub restored : {X : Type 0} → Sender X → ℕ → X → Sender X
restored s count x = record s { unconfirmed = s.unconfirmed ++ (count, x) ∷ [] }

-- all up to this COUNT are confirmed
unfoldable pub confirmed_to : {X : Type 0} → Sender X → ℕ → Sender X
confirmed_to s count = record s { unconfirmed = filter (λ e. nat_lt count e.0) s.unconfirmed }

-- a status report (5.4.2): all below FMC are confirmed, and each COUNT whose bit is set; the first bit is that of FMC + 1
abbrev pub is_set : List Bool → ℕ → Bool
is_set bits i = unwrap_or (slice_get bits i) false

abbrev pub is_reported : ℕ → List Bool → ℕ → Bool
is_reported fmc bits count = nat_lt count fmc || (nat_lt fmc count && is_set bits (count - fmc - 1))

unfoldable pub confirmed_by : {X : Type 0} → Sender X → ℕ → List Bool → Sender X
confirmed_by s fmc bits = record s { unconfirmed = filter (λ e. not (is_reported fmc bits e.0)) s.unconfirmed }

-- what is held is given up
abbrev pub emptied : {X : Type 0} → Sender X → Sender X
emptied s = record s { unconfirmed = [] }

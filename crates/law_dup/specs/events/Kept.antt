-- What is always so of a run, where these packets were accepted.
use Rattle.std.specs.Prelude.{◌≡◌, ℕ, ◌+◌, ◌<◌, ◌≤◌, Bool, true, false, max, List, [], ◌∷◌, drop, length}
use Rattle.std.specs.List.{AllByRecursion}
use Rattle.gnb_types.specs.declared.names.SnBits.{SnBits}
use Rattle.pdcp.specs.Near.{last_count}
use Rattle.pdcp.specs.Numbers.{half}
use Rattle.pdcp_defs.specs.Senders.{window}
use Rattle.pdcp_defs.specs.Receivers.{Receiver, is_duplicate}
use Rattle.dup_defs.specs.declared.types.leg.Leg.TheVariants as legs
use Rattle.dup_defs.specs.Senders.{serves}
use Rattle.dup_defs.specs.dup_run_defs.Run.{LegItems, DupRun}
use Rattle.law_dup.specs.events.Counted.{AreOf, AreCounted}

-- packets wait only where the window is full
abbrev pub WaitsFull : ℕ → ℕ → List (List ℕ) → Type 0
WaitsFull full next [] = Unit {0}
WaitsFull full next (p ∷ ps) = next ≡ full

-- What was carried on a leg, up to this COUNT: the oldest is none above the least COUNT that nothing confirmed, and once it is confirmed so
-- is the next oldest, and so on.
abbrev pub IsCarried : ℕ → ℕ → List ℕ → Type 0
IsCarried low high [] = high ≤ low
IsCarried low high (c ∷ cs) = (c ≤ low) × (c < high) × IsCarried (max low (c + 1)) high cs

-- what a leg that serves holds: carried up to a COUNT, and all from there on that is numbered
pub record IsLeg (r : Receiver (List ℕ)) (low next : ℕ) (items : LegItems) : Type 0 where
  pub high : ℕ
  pub above : low ≤ high
  pub carried : IsCarried low high items.carried
  pub came : AllByRecursion (λ c. is_duplicate r c ≡ true) items.carried
  pub coming : AreCounted high next items.coming

-- one that doesn't serve holds nothing
abbrev pub KeepsLeg : Receiver (List ℕ) → ℕ → ℕ → Bool → LegItems → Type 0
KeepsLeg r low next true items = IsLeg r low next items
KeepsLeg r low next false items = (items.carried ≡ []) × (items.coming ≡ [])

-- each COUNT is above this one and the one before it
abbrev pub AreAbove : ℕ → List (ℕ × List ℕ) → Type 0
AreAbove low [] = Unit {0}
AreAbove low (e ∷ es) = (low < e.0) × AreAbove e.0 es

pub record IsOpen (sn : SnBits) (quota : ℕ) (packets : List (List ℕ)) (s : DupRun) : Type 0 where
  pub low : ℕ
  pub numbered : s.entity.sender.next ≤ length packets
  pub waiting : drop s.entity.sender.next packets ≡ s.entity.waiting
  pub counts : s.entity.sender.next ≤ last_count + 1
  pub unconfirmed : AreCounted low s.entity.sender.next s.entity.sender.unconfirmed
  pub held : AreOf packets s.entity.sender.unconfirmed
  pub near : s.entity.sender.next ≤ low + window sn quota
  pub first : KeepsLeg s.receiver low s.entity.sender.next (serves s.entity legs.First) s.first
  pub first_of : AreOf packets s.first.coming
  pub second : KeepsLeg s.receiver low s.entity.sender.next (serves s.entity legs.Second) s.second
  pub second_of : AreOf packets s.second.coming
  pub confirmed : low ≤ s.receiver.deliv
  pub given : s.receiver.deliv ≤ s.entity.sender.next
  pub above : AreAbove s.receiver.deliv s.receiver.stored
  pub below : AllByRecursion (λ e. e.0 < s.entity.sender.next) s.receiver.stored
  pub stored : AreOf packets s.receiver.stored

-- and packets wait only where no more may be numbered
pub record IsKept (sn : SnBits) (quota : ℕ) (packets : List (List ℕ)) (s : DupRun) : Type 0 where
  pub base : IsOpen sn quota packets s
  pub full : WaitsFull (base.low + window sn quota) s.entity.sender.next s.entity.waiting

-- no COUNT on a leg is further below the next one than half the space of numbers
pub record AreNear (sn : SnBits) (s : DupRun) : Type 0 where
  pub first : AllByRecursion (λ c. s.entity.sender.next ≤ c + half sn) s.first.carried
  pub second : AllByRecursion (λ c. s.entity.sender.next ≤ c + half sn) s.second.carried

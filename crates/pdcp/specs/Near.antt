-- The COUNT of a received number (TS 38.323, 5.2.2). The standard computes it by comparing halves; here it is named.
use Rattle.std.specs.Prelude.{◌≡◌, ℕ, ◌+◌, ◌-◌, ◌^◌, ◌%◌, ◌<◌, ◌≤◌, ◌⊎◌}
use Rattle.gnb_types.specs.declared.names.SnBits.{SnBits}
use Rattle.pdcp.specs.Numbers.{space, half}

-- the last COUNT that is ever given
abbrev pub last_count : ℕ
last_count = 2 ^ 32 - 2

-- count is the one COUNT with this number from half a space below RX_DELIV to half a space above it, which is left out
pub record IsNear (sn : SnBits) (deliv number count : ℕ) : Type 0 where
  pub same : count % space sn ≡ number % space sn
  pub low : deliv ≤ count + half sn
  pub high : count < deliv + half sn
  pub given : count ≤ last_count

-- The same of the COUNT raised by one space, which is never below 0, whether the COUNT itself is one that is given or
-- not: there is one such number for each RX_DELIV and number.
pub record IsRaised (sn : SnBits) (deliv number raised : ℕ) : Type 0 where
  pub same : raised % space sn ≡ number % space sn
  pub low : deliv + half sn ≤ raised
  pub high : raised < deliv + half sn + space sn

-- the one COUNT would be below 0, or above the last one that is given
pub record IsOutside (sn : SnBits) (deliv number : ℕ) : Type 0 where
  pub raised : ℕ
  pub is : IsRaised sn deliv number raised
  pub outside : (raised < space sn) ⊎ (last_count + space sn < raised)

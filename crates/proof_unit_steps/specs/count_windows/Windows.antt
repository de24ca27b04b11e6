-- A sender whose unconfirmed packets have the COUNTs below its next one, without a gap, and are no more than its window.
use Rattle.std.specs.Prelude.{ℕ, ◌≡◌, ◌+◌, ◌≤◌, map}
use Rattle.std.specs.List.{range_with_len}
use Rattle.gnb_types.specs.declared.names.SnBits.{SnBits}
use Rattle.pdcp_defs.specs.Senders.{Sender, window}
use Rattle.unit_defs.specs.Ways.{Answer, gives, spent}
use Rattle.unit_defs.specs.CuUpRecords.{CuUpBearer, CuUpScope}

pub record InWindow {X : Type 0} (sn : SnBits) (quota : ℕ) (s : Sender X) : Type 0 where
  pub first : ℕ
  pub many : ℕ
  pub unconfirmed : map (λ e. e.0) s.unconfirmed ≡ range_with_len first many
  pub below : s.next ≡ first + many
  pub few : many ≤ window sn quota

abbrev pub EndsInWindow : {M P : Type 0} → CuUpScope → Answer M P CuUpBearer → Type 0
EndsInWindow at (gives outputs b) = InWindow at.sn at.quota b.sender
EndsInWindow at (spent counter) = Unit {0}

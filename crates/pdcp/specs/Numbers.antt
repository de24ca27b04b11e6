-- Sequence numbers (TS 38.323, 6.3.2, 7.2).
use Rattle.std.specs.Prelude.{ℕ}
use Rattle.gnb_types.specs.declared.names.SnBits.{SnBits}
use Rattle.gnb_types.specs.declared.names.SnBits.TheVariants.{Len12, Len18}

-- how many sequence numbers there are
abbrev pub space : SnBits → ℕ
space Len12 = 4096
space Len18 = 262144

-- half of them: the window of a receiver
abbrev pub half : SnBits → ℕ
half Len12 = 2048
half Len18 = 131072

-- Internal: a tick of one open request after the other. `R` compares the keys.
use Rattle.std.specs.Prelude.{List, [], ◌∷◌, Option, Some, None, if◌then◌else◌}
use Rattle.std.specs.declared.cmp.Ordering.{Ordering}
use Rattle.tables.specs.Tables.{find, put, without}
use Rattle.transaction_defs.specs.Callers.{Opened, is_last, one_less}

module _ {K M : Type 0} (R : K → K → Ordering) where
  abbrev pub aged_in : List (K × Opened M) → K → Option (Opened M) → List (K × Opened M)
  aged_in m c None = m
  aged_in m c (Some o) = if is_last o.deadline then without R m c else put R m c (record o { deadline = one_less o.deadline })

  -- the request at the key c expires, or one tick less is left to it
  unfoldable pub aged_at : List (K × Opened M) → K → List (K × Opened M)
  aged_at m c = aged_in m c (find R m c)

  unfoldable pub aged_all : List K → List (K × Opened M) → List (K × Opened M)
  aged_all [] m = m
  aged_all (c ∷ cs) m = aged_all cs (aged_at m c)

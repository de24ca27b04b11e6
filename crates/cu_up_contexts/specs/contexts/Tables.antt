-- The part of a CU-UP's record that terminals' contexts are kept in, and the whole record around it.
use Rattle.std.specs.Prelude.{ℕ, List, []}
use Rattle.gnb_types.specs.declared.names.UeId.{UeId}
use Rattle.unit_defs.specs.CuUpRecords.{CuUpContext, CuUpTunnel, CuUp}

-- the TEID that is given next, the open tunnels and the contexts
pub record CuUpTables : Type 0 where
  pub next_teid : ℕ
  pub tunnels : List (ℕ × CuUpTunnel)
  pub contexts : List (UeId × CuUpContext)

-- the record over octets
abbrev pub OctetUp : Type 0
OctetUp = CuUp (List ℕ) (List ℕ)

-- a record with these tables
abbrev pub with_tables : OctetUp → CuUpTables → OctetUp
with_tables r t = record r { next_teid = t.next_teid; tunnels = t.tunnels; contexts = t.contexts }

abbrev pub no_tables : CuUpTables
no_tables = record { next_teid = 1; tunnels = []; contexts = [] }

-- The record of a CU-UP, of its parts.
use Rattle.std.specs.Prelude.{ℕ, Bool}
use Rattle.gnb_types.specs.declared.names.Gnb.{Gnb}
use Rattle.unit_requests.specs.Requests.{Kept}
use Rattle.cu_up_contexts.specs.contexts.Tables.{OctetUp, CuUpTables}

abbrev pub cu_up_record : Gnb → ℕ → Bool → CuUpTables → Kept → OctetUp
cu_up_record gnb number is_set_up tables requests = record {
  gnb = gnb;
  number = number;
  is_set_up = is_set_up;
  next_teid = tables.next_teid;
  tunnels = tables.tunnels;
  contexts = tables.contexts;
  transactions = requests;
}

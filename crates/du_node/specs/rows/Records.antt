-- The record of a DU, of its parts.
use Rattle.std.specs.Prelude.{ℕ, Bool}
use Rattle.gnb_types.specs.declared.names.Gnb.{Gnb}
use Rattle.unit_requests.specs.Requests.{Kept}
use Rattle.du_contexts.specs.Tables.{OctetDu, DuTables}

abbrev pub du_record : Gnb → ℕ → Bool → DuTables → Kept → OctetDu
du_record gnb number is_set_up tables requests = record {
  gnb = gnb;
  number = number;
  is_set_up = is_set_up;
  next_teid = tables.next_teid;
  tunnels = tables.tunnels;
  contexts = tables.contexts;
  transactions = requests;
}

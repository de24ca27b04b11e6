use Rattle.law_handover_delivers.proofs.down_reports_elsewhere.Rest.{set_up_told, octets_told}
use Rattle.law_handover_delivers.proofs.down_reports_elsewhere.all_else_keeps_reports_true.Goals as goal

pub returns : goal.returns
returns c = record {
  set_up = λ ue bearer reached plan s told. set_up_told ue bearer reached plan s told;
  octets = λ reading ue bearer reached s t from octets outputs core lines answers goes_on told.
      octets_told ue bearer reached reading s t from octets outputs core lines answers goes_on told;
}

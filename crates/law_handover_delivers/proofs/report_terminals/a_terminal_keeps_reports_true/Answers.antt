use Rattle.law_handover_delivers.proofs.report_terminals.Steps.{all_grow, terminal_keeps}
use Rattle.law_handover_delivers.proofs.report_terminals.a_terminal_keeps_reports_true.Goals as goal

pub returns : goal.returns
returns c = record {
  keeps = λ reading event s t ue bearer b refinement sn quota kept v cause input outputs step told.
      terminal_keeps reading event s t ue bearer b refinement sn quota kept v cause input outputs step told;
  grows = λ d orders. all_grow d orders;
}

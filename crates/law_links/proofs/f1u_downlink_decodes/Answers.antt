use Rattle.link_defs.proofs.Written.{f1u_downlink_data_decodes, f1u_downlink_packet_decodes, f1u_downlink_report_decodes, f1u_downlink_poll_decodes}
use Rattle.law_links.proofs.f1u_downlink_decodes.Goals as goal

pub returns : goal.returns
returns c = record {
  without_restart = f1u_downlink_data_decodes;
  packet = f1u_downlink_packet_decodes;
  report = f1u_downlink_report_decodes;
  poll = f1u_downlink_poll_decodes;
}

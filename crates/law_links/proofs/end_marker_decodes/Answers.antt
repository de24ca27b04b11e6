use Rattle.link_defs.proofs.Written.{end_marker_decodes_on_n3, end_marker_decodes_on_f1u_uplink, end_marker_decodes_on_forwarding_down, end_marker_decodes_on_forwarding_up}
use Rattle.law_links.proofs.end_marker_decodes.Goals as goal

pub returns : goal.returns
returns c = record {
  n3 = end_marker_decodes_on_n3;
  f1u_uplink = end_marker_decodes_on_f1u_uplink;
  forwarding_down = end_marker_decodes_on_forwarding_down;
  forwarding_up = end_marker_decodes_on_forwarding_up;
}

use Rattle.link_defs.proofs.Written.{f1u_uplink_data_decodes, f1u_uplink_report_decodes, delivery_status_decodes}
use Rattle.law_links.proofs.f1u_uplink_decodes.Goals as goal

pub returns : goal.returns
returns c = record { packet = f1u_uplink_data_decodes; report = f1u_uplink_report_decodes; status = delivery_status_decodes }

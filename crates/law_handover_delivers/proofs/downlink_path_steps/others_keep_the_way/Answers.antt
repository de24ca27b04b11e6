use Rattle.law_handover_delivers.proofs.downlink_path_steps.Others.{cu_cp_way, other_way, offer_way, message_way, octets_way, set_up_way, loses_way, lands_way}
use Rattle.law_handover_delivers.proofs.downlink_path_steps.others_keep_the_way.Goals as goal

pub returns : goal.returns
returns c = record {
  cu_cp = cu_cp_way;
  other = other_way;
  offer = offer_way;
  message = message_way;
  octets = octets_way;
  set_up = set_up_way;
  lost = loses_way;
  lands = lands_way;
}

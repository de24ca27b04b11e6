use Rattle.law_downlink_order.proofs.sent_frames.Sends.{sends, polls, reports, again, begins}
use Rattle.law_downlink_order.proofs.sent_frames.what_a_cu_up_sends_fits.Goals as goal

pub returns : goal.returns
returns c = record {
  packets = λ d c b frames waits cursor packets h all no_gap. sends d b waits c frames cursor packets h all no_gap;
  poll = λ d c b frames waits cursor poll h. polls d b waits c frames cursor poll h;
  report = λ d c b frames waits cursor poll fmc bits h. reports d b waits c frames cursor poll fmc bits h;
  again = λ d c b frames waits cursor range ranges h all no_gap. again d b waits c frames cursor range ranges h all no_gap;
  anew = λ d c b waits downlink fmc bits all no_gap. begins d c b waits downlink fmc bits all no_gap;
}

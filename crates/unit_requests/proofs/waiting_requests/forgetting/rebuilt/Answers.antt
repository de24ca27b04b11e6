use Rattle.std.proofs.Common.{map}
use Rattle.gnb_types.proofs.OrderLemmas.{channel_total}
use Rattle.unit_defs.specs.CuCpRecords.{unawaited}
use Rattle.unit_defs.specs.octet_defs.Codec.{octet_way}
use Rattle.unit_requests.proofs.waiting_requests.Refilling.{all_over, all_stays, still_sorted}
use Rattle.unit_requests.proofs.waiting_requests.forgetting.rebuilt.Goals as goal

pub loop-channel-preserved-in_ok-put : goal.loop-channel-preserved-in_ok-put
loop-channel-preserved-in_ok-put c = record {
  sorted =
      still_sorted channel_total (λ e. e) c.loop-channel.after c.loop-channel.left c.take_first.new.table (c.in-Some.channel, c.in-Some.queue)
      c.in_ok-queue.queue c.put.new.self c.in-Some.ensures c.loop-channel.invariant.sorted c.in_ok-put.ensures.ok;
  all = λ codec.
      all_stays channel_total (unawaited (octet_way codec) c.args.ue) c.loop-channel.after c.loop-channel.left c.take_first.new.table
      (c.in-Some.channel, c.in-Some.queue) c.in_ok-queue.queue c.put.new.self c.in-Some.ensures c.loop-channel.invariant.sorted c.in_ok-put.ensures.ok
      (map (unawaited (octet_way codec) c.args.ue) c.args.left) (c.in_ok-queue.ensures codec) (c.loop-channel.invariant.all codec);
}

pub loop-channel-preserved : goal.loop-channel-preserved
loop-channel-preserved c = record {
  sorted =
      still_sorted channel_total (λ e. e) c.loop-channel.after c.loop-channel.left c.take_first.new.table (c.in-Some.channel, c.in-Some.queue)
      c.in_ok-queue.queue c.put.new.self c.in-Some.ensures c.loop-channel.invariant.sorted c.in_ok-put.ensures.ok;
  all = λ codec.
      all_stays channel_total (unawaited (octet_way codec) c.args.ue) c.loop-channel.after c.loop-channel.left c.take_first.new.table
      (c.in-Some.channel, c.in-Some.queue) c.in_ok-queue.queue c.put.new.self c.in-Some.ensures c.loop-channel.invariant.sorted c.in_ok-put.ensures.ok
      (map (unawaited (octet_way codec) c.args.ue) c.args.left) (c.in_ok-queue.ensures codec) (c.loop-channel.invariant.all codec);
}

pub returns : goal.returns
returns c = λ codec.
    all_over (unawaited (octet_way codec) c.args.ue) c.loop-channel.after c.loop-channel.left (map (unawaited (octet_way codec) c.args.ue) c.args.left)
    c.in_default.ensures.0 (c.loop-channel.invariant.all codec)

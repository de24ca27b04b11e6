use Rattle.dup_bearer.proofs.dup_pdcp.PutLemmas.{one_more}
use Rattle.dup_bearer.proofs.dup_pdcp.tx.put_pdu.Goals as goal

pub returns : goal.returns
returns c =
    one_more c.args.sn c.args.puts.now c.push.new.self c.args.place.leg c.args.place.count c.in_ok-bytes.bytes c.args.packet.now c.requires
    c.in_ok-bytes.ensures c.in_ok-push.ensures.ok

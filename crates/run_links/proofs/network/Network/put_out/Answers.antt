use Rattle.run_links.proofs.Results.{ok_then}
use Rattle.run_links.proofs.network.Network.put_out.Goals as goal

pub returns-in-Deliver-clause-told : goal.returns-in-Deliver-clause-told
returns-in-Deliver-clause-told c =
    ok_then c.deliver_packet.result c.deliver_packet.ensures.told (λ told codec answer units core. rw c.in-Deliver.is (told codec answer units core))

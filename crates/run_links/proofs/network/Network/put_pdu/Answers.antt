use Rattle.run_defs.specs.Steps.{put_on_radio}
use Rattle.run_links.proofs.Results.{ok_then}
use Rattle.run_links.proofs.Puts.{after_noted}
use Rattle.run_links.proofs.network.Network.put_pdu.Goals as goal

pub returns-clause-told : goal.returns-clause-told
returns-clause-told c =
    ok_then c.put_on_radio.result c.put_on_radio.ensures.told
    (λ told. after_noted (λ world. put_on_radio world c.args.epoch c.args.item) c.args.item.key c.args.tag c.args.self.now c.note.new.self c.put_on_radio.new.self
    c.args.lines.now c.put_on_radio.new.lines c.in_ok-note.ensures told)

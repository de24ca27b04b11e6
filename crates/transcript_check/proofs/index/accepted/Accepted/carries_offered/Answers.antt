use Rattle.std.proofs.Common.{◌↔◌, IsTrue, Bool, List, ℕ, Option, subst}
use Rattle.std.specs.Prelude.{option_copied}
use Rattle.std.proofs.lemmas.Result.{IfOk-weaker}
use Rattle.scenario_text.specs.declared.event.Event.{Event}
use Rattle.transcript_defs.specs.Packets.{IsAmong, packet_in, key_of}
use Rattle.transcript_defs.specs.Rules.{CarriesOffered}
use Rattle.transcript_check.specs.Readings.{says_of}
use Rattle.transcript_check.specs.inside.Accepted.{AreAccepted, offered_on}
use Rattle.transcript_check.proofs.ItemLemmas.{not_true, carries_with, copied_packet}
use Rattle.transcript_check.proofs.index.accepted.Accepted.carries_offered.Goals as goal

pub returns-in-Some : goal.returns-in-Some
returns-in-Some c =
    let says = says_of c.in-Some.reading.says in
    IfOk-weaker c.has_packet.result
    (λ (has : Bool). IsTrue has ↔ IsAmong (offered_on c.args.self.now (key_of c.args.item.now)) (option_copied c.packet.result))
    (λ (carries : Bool). (happened : List Event) → AreAccepted happened c.args.self.now → IsTrue carries ↔ CarriesOffered happened c.args.link c.args.item.now)
    (λ carries test happened are.
    carries_with happened c.args.self.now c.args.link c.args.item.now c.in-Some.reading.sn says are (c.in-Some.ensures.found happened are)
    (λ reading. c.in-Some.ensures.only happened are reading) carries
    (subst (λ (p : Option (List ℕ)). IsTrue carries ↔ IsAmong (offered_on c.args.self.now (key_of c.args.item.now)) p)
    (copied_packet c.packet.result (packet_in says) c.packet.ensures) test))
    c.has_packet.ensures

pub returns-in-None : goal.returns-in-None
returns-in-None c = λ happened are. not_true (λ carries. c.in-None.ensures.only happened are carries.0)

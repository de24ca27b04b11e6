use Rattle.std.proofs.Common.{refl, sym, ◌∙◌}
use Rattle.pdcp_entities.proofs.ParkLemmas.{still_given}
use Rattle.pdcp_defs.specs.Senders.{may_restore}
use Rattle.pdcp_bearers.proofs.ue_bearers.PutLemmas.{never_full_with, parked_with, given_with, kept_spent, seen_spent}
use Rattle.pdcp_bearers.proofs.ue_bearers.RestoreLemmas.{not_held, room_with, may_seen, kept_restored, restored_seen}
use Rattle.pdcp_bearers.proofs.ue_bearers.sender.Sender.restore.Goals as goal

pub unreachable-requires : goal.unreachable-requires
unreachable-requires c =
    let i = c.self.inside in
    never_full_with i.sn i.quota i.key i.held i.pool i.tx i.waiting c.self.invariant (room_with i.sn i.quota i.key i.held i.pool i.tx i.waiting c.self.invariant c.args.self.now c.self.view_is c.requires.room) c.in-Err.ensures.refused

pub restore-requires-clause-parked : goal.restore-requires-clause-parked
restore-requires-clause-parked c = let i = c.self.inside in parked_with i.sn i.quota i.key i.held i.pool i.tx i.waiting c.self.invariant c.args.packet.now c.in-Ok.r c.args.packet.now refl c.put.ensures.sound c.in-Ok.ensures.fresh c.put.new.self c.in-Ok.ensures.ok

pub restore-requires-clause-given : goal.restore-requires-clause-given
restore-requires-clause-given c = let i = c.self.inside in given_with i.sn i.quota i.key i.held i.pool i.tx i.waiting c.self.invariant c.args.packet.now c.in-Ok.r c.args.packet.now refl c.put.ensures.sound c.in-Ok.ensures.fresh c.put.new.self c.in-Ok.ensures.ok

pub invariant_of-self : goal.invariant_of-self
invariant_of-self c =
    let i = c.self.inside in
    let h = c.in-Ok-restore.ensures.held in
    kept_restored i.sn i.quota i.key i.held i.pool i.tx i.waiting c.self.invariant c.args.self.now c.self.view_is c.requires.room c.args.packet.now c.requires.packet c.in-Ok.r c.args.packet.now refl c.put.ensures.sound c.in-Ok.ensures.fresh c.put.new.self c.in-Ok.ensures.ok
    c.restore.new.pool c.restore.new.self h.0 c.args.count (c.in-Ok-restore.ensures.ok.0 refl) h.1 h.2 c.in-Ok-restore.ensures.octets c.restore.ensures.parked

pub take-requires : goal.take-requires
take-requires c =
    let i = c.self.inside in
    let e = c.in-Err-restore.ensures.err in
    still_given c.put.new.self c.restore.new.pool c.in-Ok.r c.in-Err-restore.r e.2 e.0 (given_with i.sn i.quota i.key i.held i.pool i.tx i.waiting c.self.invariant c.args.packet.now c.in-Ok.r c.args.packet.now refl c.put.ensures.sound c.in-Ok.ensures.fresh c.put.new.self c.in-Ok.ensures.ok)

pub invariant_of-self-in-Err-restore : goal.invariant_of-self-in-Err-restore
invariant_of-self-in-Err-restore c =
    let i = c.self.inside in
    let e = c.in-Err-restore.ensures.err in
    kept_spent i.sn i.quota i.key i.held i.pool i.tx i.waiting c.self.invariant c.args.packet.now c.in-Ok.r c.args.packet.now refl c.put.ensures.sound c.in-Ok.ensures.fresh c.put.new.self c.in-Ok.ensures.ok c.restore.new.pool c.take.new.self c.in-Err-restore.r c.restore.new.self e.0 e.1 e.2 c.take.ensures.taken

pub returns-in-Ok-restore-clause-answer : goal.returns-in-Ok-restore-clause-answer
returns-in-Ok-restore-clause-answer c =
    let i = c.self.inside in
    sym (c.in-Ok-restore.ensures.ok.0 refl) ∙ may_seen i.sn i.quota i.key i.held i.pool i.tx i.waiting c.self.invariant c.args.self.now c.self.view_is c.requires.room c.args.count

pub returns-in-Ok-restore-clause-kept : goal.returns-in-Ok-restore-clause-kept
returns-in-Ok-restore-clause-kept c =
    let i = c.self.inside in
    let h = c.in-Ok-restore.ensures.held in
    restored_seen i.sn i.quota i.key i.held i.pool i.tx i.waiting c.self.invariant c.args.self.now c.self.view_is c.requires.room c.args.packet.now c.requires.packet c.in-Ok.r c.args.packet.now refl c.put.ensures.sound c.in-Ok.ensures.fresh c.put.new.self c.in-Ok.ensures.ok
    c.restore.new.pool c.restore.new.self h.0 c.args.count (c.in-Ok-restore.ensures.ok.0 refl) h.1 h.2 c.in-Ok-restore.ensures.octets c.restore.ensures.parked

pub returns-in-Err-restore-clause-answer : goal.returns-in-Err-restore-clause-answer
returns-in-Err-restore-clause-answer c =
    let i = c.self.inside in
    not_held (may_restore i.tx.sn i.tx.quota i.tx.sender c.args.count) c.in-Err-restore.ensures.ok.1
    ∙ may_seen i.sn i.quota i.key i.held i.pool i.tx i.waiting c.self.invariant c.args.self.now c.self.view_is c.requires.room c.args.count

pub returns-in-Err-restore-clause-kept : goal.returns-in-Err-restore-clause-kept
returns-in-Err-restore-clause-kept c =
    let i = c.self.inside in
    let e = c.in-Err-restore.ensures.err in
    seen_spent i.sn i.quota i.key i.held i.pool i.tx i.waiting c.self.invariant c.args.packet.now c.in-Ok.r c.args.packet.now refl c.put.ensures.sound c.in-Ok.ensures.fresh c.put.new.self c.in-Ok.ensures.ok c.restore.new.pool c.take.new.self c.in-Err-restore.r c.restore.new.self e.0 e.1 e.2 c.take.ensures.taken c.args.self.now c.self.view_is

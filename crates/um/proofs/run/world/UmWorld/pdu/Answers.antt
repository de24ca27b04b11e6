use Rattle.std.proofs.Common.{◌≡◌, ◌≤◌, ◌-◌, ℕ, List, length, Some, sym, ap, ◌∙◌, subst}
use Rattle.std.proofs.lemmas.Result.{IfOk-weaker}
use Rattle.std.specs.Ordering.{nat_cmp}
use Rattle.tables.specs.Tables.{find}
use Rattle.pdcp.specs.Pdus.{radio_data}
use Rattle.pdcp.specs.declared.pdu.TheConstants.{PACKET_LIMIT}
use Rattle.um.specs.run.Worlds.{UmWorldState}
use Rattle.um.proofs.run.SentLemmas.{sent_find}
use Rattle.um.proofs.run.world.UmWorld.pdu.Goals as goal

pub write_pdu-requires-clause-least : goal.write_pdu-requires-clause-least
write_pdu-requires-clause-least c =
    let t = c.self.inside in
    subst (λ (p : List ℕ). 1 ≤ length p) (sym c.as_slice.ensures)
    (sent_find t.puts t.flight c.args.number c.in-Some.packet.now c.self.invariant.flight (sym c.in-Some.ensures)).0

pub write_pdu-requires-clause-most : goal.write_pdu-requires-clause-most
write_pdu-requires-clause-most c =
    let t = c.self.inside in
    subst (λ (p : List ℕ). length p ≤ PACKET_LIMIT) (sym c.as_slice.ensures)
    (sent_find t.puts t.flight c.args.number c.in-Some.packet.now c.self.invariant.flight (sym c.in-Some.ensures)).1

pub returns : goal.returns
returns c =
    let t = c.self.inside in
    let packet = c.in-Some.packet.now in
    let sized = sent_find t.puts t.flight c.args.number packet c.self.invariant.flight (sym c.in-Some.ensures) in
    IfOk-weaker c.write_pdu.result (λ pdu. pdu ≡ radio_data t.sn (c.args.number - 1) c.as_slice.result.now)
    (λ pdu. (x : List ℕ) × (find nat_cmp c.args.self.now.run.flight c.args.number ≡ Some x) × (1 ≤ length x)
    × (pdu ≡ radio_data c.args.self.now.sn (c.args.number - 1) x))
    (λ pdu is. (
      packet,
      ap (λ (v : UmWorldState). find nat_cmp v.run.flight c.args.number) (sym c.self.view_is) ∙ sym c.in-Some.ensures,
      sized.0,
      is ∙ (ap (radio_data t.sn (c.args.number - 1)) c.as_slice.ensures ∙ ap (λ (v : UmWorldState). radio_data v.sn (c.args.number - 1) packet) c.self.view_is),
    ))
    c.write_pdu.ensures

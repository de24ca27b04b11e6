use Rattle.std.proofs.Common.{◌≡◌, Result, Ok, ap}
use Rattle.gnb_types.specs.declared.items.Memory.{Memory}
use Rattle.aper_defs.specs.Reading.{Cursor}
use Rattle.aper_stream.specs.declared.decoder.turns.Turned.{Turned}
use Rattle.aper_stream.specs.declared.decoder.turns.Turned.TheVariants as turneds
use Rattle.aper_stream.proofs.decoder.Turned.{turned_reads, turned_stands}
use Rattle.aper_stream.proofs.decoder.turns.take_turns.Goals as goal

abbrev taken : Turned → Result Turned Memory
taken turned = Ok turned

pub loop-turn-preserved : goal.loop-turn-preserved
loop-turn-preserved c =
    let l = c.loop-turn in let m = c.args.m.now in
    let spot = c.take_turn.new.spot in let fs = c.take_turn.new.frames in
    let turned = turneds.Next c.in-Next.other in
    let same : l.cursor.octets ≡ c.args.octets.now = ap (λ (x : Cursor). x.octets) l.invariant.at in
    let ensured = c.in_ok-other.ensures {u = tt} in
    let stands = turned_stands m l.cursor.octets c.args.octets.now same spot fs _ turned (ap taken c.in-Next.is) c.take_turn.new.cursor ensured.stands in
    record {
      at = stands.0;
      stands = stands.1;
      reading = λ t r.
          turned_reads m l.cursor.octets c.args.octets.now same spot fs _ turned (ap taken c.in-Next.is)
          l.spot l.next l.frames ensured.turned t (l.invariant.reading t r);
    }

pub returns-in-End-clause-ends : goal.returns-in-End-clause-ends
returns-in-End-clause-ends c =
    let l = c.loop-turn in let m = c.args.m.now in
    let spot = c.take_turn.new.spot in let fs = c.take_turn.new.frames in
    let turned = turneds.End c.in-End.end in
    let same : l.cursor.octets ≡ c.args.octets.now = ap (λ (x : Cursor). x.octets) l.invariant.at in
    let ensured = c.in_ok-other.ensures {u = tt} in
    λ t r.
    turned_reads m l.cursor.octets c.args.octets.now same spot fs _ turned (ap taken c.in-End.is)
    l.spot l.next l.frames ensured.turned t (l.invariant.reading t r)

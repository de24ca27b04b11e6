use Rattle.std.proofs.Common.{◌≡◌, ◌-◌, ◌<◌, ◌⊎◌, inl, inr, length, refl, suc, arith, length-drop}
use Rattle.nr_user_plane.proofs.Pairs.{Turn, pairs_more, apart_more, apart_stops, rest_more, left_is, grown}
use Rattle.nr_user_plane.proofs.frames.read_ranges.Goals as goal
use Rattle.nr_user_plane.proofs.frames.read_ranges.Goals.{then-start-least-via-then-start-least, then-start-least-via-else-start-least+then-end-start}

pub returns-then-start-least : goal.returns-then-start-least
returns-then-start-least c =
    let bad : (c.read_pair-start.result.0.0 < c.loop-rest.least) ⊎ (c.read_pair-start.result.0.1 < c.read_pair-start.result.0.0) =
    elim c.then-start-least.branch [
      | then-start-least-via-then-start-least w ↦ inl w.if-start-least.true
      | then-start-least-via-else-start-least+then-end-start w ↦ inr w.if-end-start.true
    ] in
    let left : c.args.count - length c.loop-rest.ranges ≡ suc (c.args.count - length c.loop-rest.ranges - 1) = omega arith in
    (apart_stops _ _ _ _ _ _ _ left c.read_pair-start.ensures.start c.read_pair-start.ensures.end c.loop-rest.invariant.apart bad, refl)

pub loop-rest-preserved : goal.loop-rest-preserved
loop-rest-preserved c =
    let turn : Turn c.args.count c.loop-rest.ranges c.push.new.self c.loop-rest.rest.now c.read_pair-start.result.1.now c.read_pair-start.result.0.0 c.read_pair-start.result.0.1 = record {
      more = omega arith;
      pushed = c.push.ensures;
      start_is = c.read_pair-start.ensures.start;
      end_is = c.read_pair-start.ensures.end;
      after_is = c.read_pair-start.ensures.rest;
    } in
    let left = left_is _ _ _ _ _ _ _ turn in
    let one_more = grown _ _ _ _ _ _ _ turn in
    record {
      pairs = pairs_more _ _ _ _ _ _ _ _ turn c.loop-rest.invariant.pairs;
      apart = apart_more _ _ _ _ _ _ _ _ _ turn c.loop-rest.invariant.apart c.if-start-least.false c.if-end-start.false;
      ends = rest_more _ _ _ _ _ _ _ _ turn c.loop-rest.invariant.ends;
      whole = rw (c.read_pair-start.ensures.rest, length-drop) (omega arith);
      room = omega arith;
      bound = omega arith;
    }

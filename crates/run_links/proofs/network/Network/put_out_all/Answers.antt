use Rattle.std.proofs.Common.{◌≡◌, List, [], length, map, sym, subst, arith}
use Rattle.std.proofs.lemmas.Grind.{common_steps}
use Rattle.std.specs.Vec.Iter.{into_iter_items}
use Rattle.gnb_types.specs.declared.outputs.Output.{Output}
use Rattle.run_defs.specs.Steps.{put_out_all}
use Rattle.run_defs.specs.UnitRuns.{put_of}
use Rattle.run_links.specs.Told.{Makes}
use Rattle.run_links.proofs.Puts.{put_then, put_none, room_left}
use Rattle.run_links.proofs.network.Network.put_out_all.Goals as goal

pub loop-output-preserved : goal.loop-output-preserved
loop-output-preserved c = record {
  room = room_left (length c.loop-output.self.bag.control_messages) (length c.put_out.new.self.bag.control_messages) c.in-Some.output
      (into_iter_items c.next.new.self) (into_iter_items c.loop-output.output-iterator) c.in-Some.ensures.steps.0 c.in_ok-put_out.ensures.control_messages
      c.loop-output.invariant.room;
  rest = λ new lines h.
      c.loop-output.invariant.rest new lines
      (subst (λ (l : List Output). Makes (λ world. put_out_all world c.args.node c.args.taken (map put_of l)) c.loop-output.self new c.loop-output.lines
      lines) (sym c.in-Some.ensures.steps.0)
      (put_then c.args.node c.args.taken c.in-Some.output (into_iter_items c.next.new.self) c.loop-output.self c.put_out.new.self new
      c.loop-output.lines c.put_out.new.lines lines c.in_ok-put_out.ensures.told h));
}

pub returns : goal.returns
returns c =
    let none : into_iter_items c.loop-output.output-iterator ≡ [] = grind (arith, common_steps) in
    subst (λ (l : List Output). Makes (λ world. put_out_all world c.args.node c.args.taken (map put_of l)) c.args.self.now c.loop-output.self
    c.args.lines.now c.loop-output.lines) c.into_iter-output-iterator.ensures.into_iter_gives.0
    (c.loop-output.invariant.rest c.loop-output.self c.loop-output.lines
    (subst (λ (l : List Output). Makes (λ world. put_out_all world c.args.node c.args.taken (map put_of l)) c.loop-output.self c.loop-output.self
    c.loop-output.lines c.loop-output.lines)
    (sym none)
    (put_none c.args.node c.args.taken c.loop-output.self c.loop-output.lines)))

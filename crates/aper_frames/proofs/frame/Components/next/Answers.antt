use Rattle.std.proofs.Common.{◌∙◌, arith}
use Rattle.aper_frames.proofs.Skipped.{components_over, components_ended, component_found, component_skipped}
use Rattle.aper_frames.proofs.Lighter as lighter
use Rattle.aper_frames.proofs.frame.Components.next.Goals as goal

pub returns-in_default-take : goal.returns-in_default-take
returns-in_default-take c = record {
  asked = λ of p K. c.loop-is_there.invariant.same of p K
      ∙ components_ended of p K c.loop-is_there.self c.take.new.self c.take.ensures.made c.take.ensures.additions c.take.ensures.extended
      c.in-Some.is_there c.next.new.self (c.in_default-take.ensures {u = tt}).next.0 c.in-Some.ensures;
  lighter = λ w. omega (
    arith,
    c.loop-is_there.invariant.lighter w,
    lighter.components_ended w c.loop-is_there.self c.take.new.self (c.in_default-take.ensures {u = tt}).next.0
        (c.in_default-take.ensures {u = tt}).next.1 c.take.ensures.additions,
  );
}

pub returns-then-is_there : goal.returns-then-is_there
returns-then-is_there c = record {
  asked = λ of p K. c.loop-is_there.invariant.same of p K
      ∙ component_found of p K c.loop-is_there.self c.take.new.self c.take.ensures.made c.take.ensures.additions c.take.ensures.extended
      c.in-Some-take.component.now c.in-Some.is_there c.next.new.self c.in-Some-take.ensures.next c.in-Some.ensures c.if-is_there.true c.take.ensures.there;
  lighter = λ w. omega (
    arith,
    c.loop-is_there.invariant.lighter w,
    lighter.component_taken w c.loop-is_there.self c.take.new.self c.in-Some-take.component.now c.in-Some-take.ensures.next c.take.ensures.additions,
  );
}

pub loop-is_there-preserved : goal.loop-is_there-preserved
loop-is_there-preserved c = record {
  same = λ of p K. c.loop-is_there.invariant.same of p K
      ∙ component_skipped of p K c.loop-is_there.self c.take.new.self c.take.ensures.made c.take.ensures.additions c.take.ensures.extended
      c.in-Some-take.component.now c.in-Some.is_there c.next.new.self c.push.new.self.items c.in-Some-take.ensures.next c.in-Some.ensures
      c.if-is_there.false c.take.ensures.there (c.in_ok-push.ensures {u = tt}).items;
  lighter = λ w. omega (
    arith,
    c.loop-is_there.invariant.lighter w,
    lighter.component_taken w c.loop-is_there.self c.take.new.self c.in-Some-take.component.now c.in-Some-take.ensures.next c.take.ensures.additions,
  );
}

pub returns : goal.returns
returns c = record {
  asked = λ of p K. c.loop-is_there.invariant.same of p K ∙ components_over of p K c.loop-is_there.self (c.in_default.ensures {u = tt}).0;
  lighter = λ w. omega (arith, c.loop-is_there.invariant.lighter w);
}

use Rattle.std.proofs.Common.{◌∙◌, ap, length, arith}
use Rattle.aper_frames.proofs.Skipped.{additions_over, addition_found, addition_skipped}
use Rattle.aper_frames.proofs.Lighter.{addition_taken}
use Rattle.aper_frames.proofs.frame.Additions.next.Goals as goal

pub returns-then-is_there : goal.returns-then-is_there
returns-then-is_there c = record {
  asked = λ of p K. c.loop-is_there.invariant.same of p K
      ∙ addition_found of p K c.loop-is_there.self c.named-named.new.self c.named-named.ensures.made c.named-named.ensures.root c.named-named.result
      c.in-Some.is_there c.next.new.self c.named-named.ensures.next c.in-Some.ensures c.if-is_there.true c.named-named.ensures.there;
  lighter = λ w. omega (
    arith,
    c.loop-is_there.invariant.lighter w,
    addition_taken w c.loop-is_there.self c.named-named.new.self c.named-named.result c.in-Some.is_there c.next.new.self
        c.named-named.ensures.next c.in-Some.ensures c.named-named.ensures.there,
  );
}

pub loop-is_there-preserved : goal.loop-is_there-preserved
loop-is_there-preserved c = record {
  same = λ of p K. c.loop-is_there.invariant.same of p K
      ∙ addition_skipped of p K c.loop-is_there.self c.named-named.new.self c.named-named.ensures.made c.named-named.ensures.root c.named-named.result
      c.in-Some.is_there c.next.new.self c.push.new.self.items c.named-named.ensures.next c.in-Some.ensures c.if-is_there.false
      c.named-named.ensures.there (c.in_ok-push.ensures {u = tt}).items;
  lighter = λ w. omega (
    arith,
    c.loop-is_there.invariant.lighter w,
    addition_taken w c.loop-is_there.self c.named-named.new.self c.named-named.result c.in-Some.is_there c.next.new.self
        c.named-named.ensures.next c.in-Some.ensures c.named-named.ensures.there,
  );
}

pub returns : goal.returns
returns c = record {
  asked = λ of p K. c.loop-is_there.invariant.same of p K ∙ additions_over of p K c.loop-is_there.self (c.in_default.ensures {u = tt}).0;
  lighter = λ w. omega (
    arith,
    c.loop-is_there.invariant.lighter w,
    ap length (c.in_default.ensures {u = tt}).0,
    ap length (c.in_default.ensures {u = tt}).1,
  );
}

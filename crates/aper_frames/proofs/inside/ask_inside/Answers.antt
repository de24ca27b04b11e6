use Rattle.aper_frames.proofs.Opened.{inside_on}
use Rattle.aper_frames.proofs.Lighter.{inside_lighter}
use Rattle.aper_frames.proofs.inside.ask_inside.Goals as goal

pub returns : goal.returns
returns c = record {
  asked = inside_on c.args.frame c.args.frames.now c.args.cursor.now c.ask_opening.new.cursor c.args.id c.in_ok-ask_opening.field-0
      c.push.new.self c.push-2.new.self (c.in_ok-ask_opening.ensures {u = tt}) (c.in_ok-push.ensures {u = tt}) (c.in_ok-push-2.ensures {u = tt});
  lighter = inside_lighter c.args.frame c.args.frames.now c.push.new.self c.push-2.new.self c.args.id
      (c.in_ok-push.ensures {u = tt}) (c.in_ok-push-2.ensures {u = tt});
}

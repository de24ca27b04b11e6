use Rattle.aper_frames.proofs.aper_elements.MessageLemmas.{body_steps, body_lighter}
use Rattle.aper_frames.proofs.aper_elements.message.begin_body.Goals as goal

pub returns : goal.returns
returns c = record {
  asked = body_steps c.args.rows.now c.args.frames.now c.args.body c.message_type-known.result c.ask_contents.new.frames c.ask_contents.result
      c.message_type-known.ensures c.args.cursor.now c.ask_contents.new.cursor c.requires c.ask_contents.ensures.asked;
  lighter = body_lighter c.args.rows.now c.args.frames.now c.args.body c.message_type-known.result c.ask_contents.new.frames c.ask_contents.result
      c.message_type-known.ensures c.ask_contents.ensures.lighter;
}

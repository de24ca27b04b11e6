use Rattle.std.proofs.Common.{subst}
use Rattle.std.proofs.lemmas.Result.{err_from_is_err_and}
use Rattle.aper_frames.specs.heads.Heads.{IsMessageHead}
use Rattle.aper_frames.proofs.aper_elements.MessageLemmas.{message_wrong, message_past, message_known}
use Rattle.aper_frames.proofs.aper_elements.message.begin_message.Goals as goal

pub returns-in_err-head-clause-asked : goal.returns-in_err-head-clause-asked
returns-in_err-head-clause-asked c =
    let p = err_from_is_err_and c.from_residual.result c.from_residual.ensures.1 in
    rw (p.1, p.2) (
    message_wrong c.args.rows.now c.args.frames.now c.args.cursor.now c.ask_message_head.new.cursor c.in_err-head.field-0.0
    (c.in_err-head.ensures {u = tt}).asked)

pub returns-in-Past-clause-asked : goal.returns-in-Past-clause-asked
returns-in-Past-clause-asked c =
    message_past c.args.rows.now c.args.frames.now c.args.cursor.now c.ask_message_head.new.cursor c.ask_unknown.new.cursor c.ask_unknown.new.frames
    c.ask_unknown.result c.in_ok-head.head (c.in_ok-head.ensures {u = tt}).asked c.in-Past.outcome c.in-Past.is
    (subst IsMessageHead c.in-Past.is (c.in_ok-head.ensures {u = tt}).head).0 c.ask_unknown.ensures.asked

pub returns-in-Known-clause-asked : goal.returns-in-Known-clause-asked
returns-in-Known-clause-asked c =
    message_known c.args.rows.now c.args.frames.now c.args.cursor.now c.ask_message_head.new.cursor c.begin_body.new.cursor c.begin_body.new.frames
    c.begin_body.result c.in_ok-head.head (c.in_ok-head.ensures {u = tt}).asked
    (record { outcome = c.in-Known.outcome; code = c.in-Known.code; criticality = c.in-Known.criticality }) c.in-Known.is c.begin_body.ensures.asked

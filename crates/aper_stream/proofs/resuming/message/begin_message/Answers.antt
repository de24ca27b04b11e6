use Rattle.std.proofs.Common.{Bool, ◌≤◌, ◌∷◌, cond, ap, ◌∙◌, subst, sym}
use Rattle.std.proofs.lemmas.Result.{err_from_is_err_and}
use Rattle.aper_defs.specs.Values as seen
use Rattle.aper_defs.specs.Fields as fields
use Rattle.aper_defs.specs.Questions.{ask_raw}
use Rattle.proof_aper.proofs.answers.NumberFacts.{is_not_below}
use Rattle.aper_frames.specs.heads.Heads.{ask_message_head, IsMessageHead}
use Rattle.aper_frames.specs.declared.frame.Frame.TheVariants as frames
use Rattle.aper_frames.specs.Frames.{path_of, next_of}
use Rattle.aper_frames.proofs.aper_elements.MessageLemmas.{whole_message, after_head, message_as, message_wrong}
use Rattle.aper_stream.specs.declared.resuming.pending.Pending.TheVariants as pendings
use Rattle.aper_stream.proofs.resuming.Leading.{answered_on}
use Rattle.aper_stream.proofs.resuming.Heads.{told_message}
use Rattle.aper_stream.proofs.resuming.message.begin_message.Goals as goal

pub returns-in_err-head-clause-asked : goal.returns-in_err-head-clause-asked
returns-in_err-head-clause-asked c =
    let p = err_from_is_err_and c.from_residual.result c.from_residual.ensures.1 in
    rw (p.1, p.2) (
    message_wrong c.args.rows.now c.args.frames.now c.args.cursor.now c.ask_message_head.new.cursor c.in_err-head.field-0.0
    (c.in_err-head.ensures {u = tt}).asked)

pub returns-in-Past-clause-asked : goal.returns-in-Past-clause-asked
returns-in-Past-clause-asked c =
    let fs = c.args.frames.now in
    let n = c.in-Past.outcome in
    let late : 3 ≤ n = (subst IsMessageHead c.in-Past.is (c.in_ok-head.ensures {u = tt}).head).0 in
    answered_on ask_message_head (whole_message c.args.rows.now fs) (λ of. after_head of (path_of fs) c.args.rows.now (next_of of fs)) fs
    (λ of. message_as of (path_of fs) c.args.rows.now (next_of of fs)) c.args.cursor.now c.ask_message_head.new.cursor told_message
    c.in_ok-head.head (pendings.Unknown (frames.Body (record { outcome = n; code = 0; criticality = 0 }))) fs
    (c.in_ok-head.ensures {u = tt}).asked
    (λ of. ap (after_head of (path_of fs) c.args.rows.now (next_of of fs)) c.in-Past.is
    ∙ ap (λ (b : Bool). ask_raw (path_of fs) (cond b (fields.outcome n ∷ path_of fs) (path_of fs))
    (λ v. next_of of fs (seen.message n 0 0 v)))
    (sym (is_not_below n 3 late)))

pub returns-in-Known-clause-asked : goal.returns-in-Known-clause-asked
returns-in-Known-clause-asked c =
    let fs = c.args.frames.now in
    answered_on ask_message_head (whole_message c.args.rows.now fs) (λ of. after_head of (path_of fs) c.args.rows.now (next_of of fs)) fs
    (λ of. message_as of (path_of fs) c.args.rows.now (next_of of fs)) c.args.cursor.now c.ask_message_head.new.cursor told_message
    c.in_ok-head.head c.begin_body.result fs (c.in_ok-head.ensures {u = tt}).asked
    (λ of. ap (after_head of (path_of fs) c.args.rows.now (next_of of fs)) c.in-Known.is ∙ c.begin_body.ensures.asked fs of)

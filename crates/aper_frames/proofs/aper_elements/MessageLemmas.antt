-- Bodies of messages by their procedures.
use Rattle.std.proofs.Common.{◌≡◌, ℕ, ◌+◌, ◌<◌, ◌≤◌, ◌==◌, cond, Bool, true, false, List, [], ◌∷◌, Option, Some, None, Result, Ok, Err, refl, sym, ap, ◌∙◌, arith}
use Rattle.asn1_syntax.specs.declared.types.definition.TypeId.{TypeId}
use Rattle.asn1_syntax.specs.declared.assignments.assignment.ProcedureRow.{ProcedureRow}
use Rattle.aper_defs.specs.declared.reason.Reason.{Reason}
use Rattle.aper_defs.specs.Trees.{Tree, pdu}
use Rattle.aper_defs.specs.Values as seen
use Rattle.aper_defs.specs.Fields.{Path}
use Rattle.aper_defs.specs.Fields as fields
use Rattle.aper_defs.specs.Questions.{Prog, ask_open, ask_raw}
use Rattle.aper_defs.specs.Asking.{asks, ask_body, ask_outcome}
use Rattle.aper_values.specs.types.Types.{procedures_of, outcome_of}
use Rattle.aper_frames.specs.declared.heads.messages.MessageHead.{MessageHead}
use Rattle.aper_frames.specs.declared.heads.messages.MessageHead.TheVariants.{Known, Past}
use Rattle.aper_frames.specs.heads.Heads.{ask_message_head}
use Rattle.aper_defs.specs.Reading.{Cursor, run}
use Rattle.aper_cursor.specs.declared.error.Unanswered.{Unanswered}
use Rattle.aper_cursor.specs.declared.error.Unanswered.TheVariants.{Wrong}
use Rattle.aper_cursor.specs.asking.Going.{GoesOn}
use Rattle.aper_fields.specs.members.Rows.{message_type}
use Rattle.proof_aper.proofs.answers.NumberFacts.{is_below, is_not_below}
use Rattle.aper_frames.specs.declared.frame.BodyFrame.{BodyFrame}
use Rattle.aper_frames.specs.declared.frame.Frame.{Frame}
use Rattle.aper_frames.specs.declared.frame.Frame.TheVariants as frames
use Rattle.aper_frames.specs.declared.frame.Turn.{Turn}
use Rattle.aper_frames.specs.Frames.{path_of, next_of, body_inside, asked_unknown, asked_contents}
use Rattle.aper_frames.specs.Steps.{Steps}
use Rattle.aper_frames.specs.Weights.{contents_weight, outcome_weight, message_weight, frame_weight, frames_weight, Lighter}
use Rattle.aper_frames.proofs.Onward.{steps_after, steps_as, first_wrong}
use Rattle.aper_frames.proofs.Lighter.{lighter_than}
use Rattle.aper_frames.proofs.aper_elements.Weighing.{message_weighs, contents_weighs}

module _ (of : ℕ → Tree) (p : Path) where
  -- a body of a type, or of none
  abbrev pub asked_body : ℕ → (seen.Value → Prog) → Option TypeId → Prog
  asked_body index J None = ask_raw p (fields.outcome index ∷ p) J
  asked_body index J (Some id) = ask_open p (fields.outcome index ∷ p) (asks (fields.outcome index ∷ p) (of id.number)) J

  outcome_as : (index : ℕ) (J : seen.Value → Prog) (x : Option TypeId) → ask_outcome p index (outcome_of of x) J ≡ asked_body index J x
  unfolding ask_outcome
  outcome_as index J None = refl
  outcome_as index J (Some id) = refl

  either_body : (index : ℕ) (J : seen.Value → Prog) (b : Bool) (x y : Option TypeId) (P Q : Prog)
      → P ≡ asked_body index J x → Q ≡ asked_body index J y → cond b P Q ≡ asked_body index J (cond b x y)
  either_body index J true x y P Q e f = e
  either_body index J false x y P Q e f = f

  pub body_as : (index code : ℕ) (J : seen.Value → Prog) (rows : List ProcedureRow)
      → ask_body p (procedures_of of rows) index code J ≡ asked_body index J (message_type index code rows)
  unfolding ask_body message_type
  body_as index code J [] = refl
  body_as index code J (r ∷ rows) =
      either_body index J (r.code == code) _ _ _ _
      (either_body index J (index == 0) _ _ _ _ (outcome_as index J (Some r.initiating))
      (either_body index J (index == 1) _ _ _ _ (outcome_as index J r.successful) (outcome_as index J r.unsuccessful)))
      (body_as index code J rows)

  -- what is asked after the head
  abbrev pub after_head : List ProcedureRow → (seen.Value → Prog) → MessageHead → Prog
  after_head rows K (Past outcome) = ask_raw p p (λ v. K (seen.message outcome 0 0 v))
  after_head rows K (Known outcome code criticality) =
      ask_body p (procedures_of of rows) outcome code (λ v. K (seen.message outcome code criticality v))

  pub message_as : (rows : List ProcedureRow) (K : seen.Value → Prog)
      → asks p (pdu (procedures_of of rows)) K ≡ ask_message_head p (after_head rows K)
  unfolding asks
  message_as rows K = refl

  pub message_on : (rows : List ProcedureRow) (K : seen.Value → Prog) (head other : MessageHead) (old mid : Cursor) → head ≡ other
      → ((q : Path) (J : MessageHead → Prog) → run (ask_message_head q J) old ≡ run (J head) mid)
      → run (asks p (pdu (procedures_of of rows)) K) old ≡ run (after_head rows K other) mid
  message_on rows K head other old mid is asked =
      ap (λ (X : Prog). run X old) (message_as rows K) ∙ asked p (after_head rows K) ∙ ap (λ (h : MessageHead). run (after_head rows K h) mid) is

-- the body of a known outcome
pub body_next : (of : ℕ → Tree) (rows : List ProcedureRow) (b : BodyFrame) (x : Option TypeId) (fs : List Frame) → b.outcome < 3
    → x ≡ message_type b.outcome b.code rows
    → ask_body (path_of fs) (procedures_of of rows) b.outcome b.code (λ v. next_of of fs (seen.message b.outcome b.code b.criticality v))
    ≡ asked_contents of (frames.Body b) x fs
body_next of rows b x fs less known =
    body_as of (path_of fs) b.outcome b.code (λ v. next_of of fs (seen.message b.outcome b.code b.criticality v)) rows
    ∙ ap (asked_body of (path_of fs) b.outcome (λ v. next_of of fs (seen.message b.outcome b.code b.criticality v))) (sym known)
    ∙ same x
  where
    place : fields.outcome b.outcome ∷ path_of fs ≡ body_inside b.outcome (path_of fs)
    place = ap (λ (t : Bool). cond t (fields.outcome b.outcome ∷ path_of fs) (path_of fs)) (sym (is_below b.outcome 3 less))

    same : (y : Option TypeId)
        → asked_body of (path_of fs) b.outcome (λ v. next_of of fs (seen.message b.outcome b.code b.criticality v)) y
        ≡ asked_contents of (frames.Body b) y fs
    same None = ap (λ (q : Path). ask_raw (path_of fs) q (λ v. next_of of fs (seen.message b.outcome b.code b.criticality v))) place
    same (Some id) = ap (λ (q : Path). ask_open (path_of fs) q (asks q (of id.number))
        (λ v. next_of of fs (seen.message b.outcome b.code b.criticality v))) place

-- ---- steps of a message
module _ (rows : List ProcedureRow) (fs : List Frame) where
  abbrev pub whole_message : (ℕ → Tree) → Prog
  whole_message of = asks (path_of fs) (pdu (procedures_of of rows)) (next_of of fs)

  abbrev pub whole_body : BodyFrame → (ℕ → Tree) → Prog
  whole_body b of = ask_body (path_of fs) (procedures_of of rows) b.outcome b.code (λ v. next_of of fs (seen.message b.outcome b.code b.criticality v))

  pub message_wrong : (old mid : Cursor) (reason : Reason) → GoesOn ask_message_head old mid (Err reason)
      → Steps whole_message old mid fs (Err (Wrong reason))
  message_wrong old mid reason asked =
      first_wrong whole_message ask_message_head (λ of. after_head of (path_of fs) rows (next_of of fs)) old mid fs reason
      (λ of. message_as of (path_of fs) rows (next_of of fs)) asked

  module _ (old mid new : Cursor) (more : List Frame) (r : Result Turn Unanswered) (head : MessageHead) (asked : GoesOn ask_message_head old mid (Ok head)) where
    pub message_past : (outcome : ℕ) → head ≡ Past outcome → 3 ≤ outcome
        → Steps (λ of. asked_unknown of (frames.Body (record { outcome = outcome; code = 0; criticality = 0 })) fs) mid new more r
        → Steps whole_message old new more r
    message_past outcome is least h =
        steps_after r whole_message (λ of. asked_unknown of (frames.Body (record { outcome = outcome; code = 0; criticality = 0 })) fs) old mid new more
        (λ of. message_on of (path_of fs) rows (next_of of fs) head (Past outcome) old mid is asked
        ∙ ap (λ (q : Path). run (ask_raw (path_of fs) q (λ v. next_of of fs (seen.message outcome 0 0 v))) mid) place) h
      where
        place : path_of fs ≡ body_inside outcome (path_of fs)
        place = ap (λ (t : Bool). cond t (fields.outcome outcome ∷ path_of fs) (path_of fs)) (sym (is_not_below outcome 3 least))

    pub message_known : (b : BodyFrame) → head ≡ Known b.outcome b.code b.criticality → Steps (whole_body b) mid new more r
        → Steps whole_message old new more r
    message_known b is h =
        steps_after r whole_message (whole_body b) old mid new more
        (λ of. message_on of (path_of fs) rows (next_of of fs) head (Known b.outcome b.code b.criticality) old mid is asked) h

  module _ (b : BodyFrame) (known : Option TypeId) (more : List Frame) (r : Result Turn Unanswered)
      (is : known ≡ message_type b.outcome b.code rows) where
    pub body_steps : (old new : Cursor) → b.outcome < 3 → Steps (λ of. asked_contents of (frames.Body b) known fs) old new more r
        → Steps (whole_body b) old new more r
    body_steps old new less h =
        steps_as r (whole_body b) (λ of. asked_contents of (frames.Body b) known fs) old new more
        (λ of. body_next of rows b known fs less is) h

    pub body_lighter : Lighter (λ w. contents_weight w known + frame_weight w (frames.Body b) + frames_weight w fs) more r
        → Lighter (λ w. message_weight w rows + frames_weight w fs) more r
    body_lighter h =
        lighter_than r more (λ w. contents_weight w known + frame_weight w (frames.Body b) + frames_weight w fs)
        (λ w. message_weight w rows + frames_weight w fs)
        (λ w. omega (arith, contents_weighs w known, ap (outcome_weight w) is, message_weighs w b.outcome b.code rows)) h

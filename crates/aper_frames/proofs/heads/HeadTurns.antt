-- What is asked after the first bit of a PDU.
use Rattle.std.proofs.Common.{◌≡◌, ℕ, ◌+◌, ◌==◌, cond, Bool, ap, ◌∙◌}
use Rattle.aper_defs.specs.Fields.{Path, flag, constrained, small}
use Rattle.aper_defs.specs.Fields as fields
use Rattle.aper_defs.specs.Questions.{Prog, ask, ask_aligned}
use Rattle.aper_defs.specs.Reading.{Cursor, run}
use Rattle.aper_frames.specs.declared.heads.messages.MessageHead.{MessageHead}
use Rattle.aper_frames.specs.declared.heads.messages.MessageHead.TheVariants.{Known, Past}
use Rattle.aper_frames.specs.heads.Heads.{ask_third, ask_message_head}

abbrev pub after_criticality : (MessageHead → Prog) → (outcome code criticality : ℕ) → Prog
after_criticality K outcome code criticality = K (Known outcome code criticality)

abbrev pub after_code : Path → (MessageHead → Prog) → (outcome code : ℕ) → Prog
after_code p K outcome code = ask_third p (after_criticality K outcome code)

abbrev pub after_outcome : Path → (MessageHead → Prog) → (outcome : ℕ) → Prog
after_outcome p K outcome = ask_aligned p (constrained fields.index 8 255) (after_code p K outcome)

abbrev pub after_past : Path → (MessageHead → Prog) → Bool → Prog
after_past p K is_past = cond is_past (ask p (small fields.index) (λ n. K (Past (3 + n)))) (ask_third p (after_outcome p K))

pub head_after : (old mid : Cursor) (b is_past : Bool)
    → ((p : Path) (J : Bool → Prog) → run (ask p flag (λ n. J (n == 1))) old ≡ run (J b) mid) → b ≡ is_past
    → (p : Path) (K : MessageHead → Prog) → run (ask_message_head p K) old ≡ run (after_past p K is_past) mid
head_after old mid b is_past asked e p K = asked p (after_past p K) ∙ ap (λ (x : Bool). run (after_past p K x) mid) e

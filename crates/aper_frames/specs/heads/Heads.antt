-- What is asked before the body of a message, and before that of an information element.
use Rattle.std.specs.Prelude.{ℕ, ◌+◌, ◌==◌, ◌<◌, ◌≤◌, List, if◌then◌else◌}
use Rattle.aper_defs.specs.Trees.{Slot}
use Rattle.aper_defs.specs.Fields.{Path, flag, constrained, small, ie_id}
use Rattle.aper_defs.specs.Fields as fields
use Rattle.aper_defs.specs.Questions.{Prog, ask, ask_aligned}
use Rattle.aper_frames.specs.declared.heads.messages.MessageHead.{MessageHead}
use Rattle.aper_frames.specs.declared.heads.messages.MessageHead.TheVariants.{Known, Past}
use Rattle.aper_frames.specs.declared.heads.elements.ElementHead.{ElementHead}

-- one of three
abbrev pub ask_third : Path → (ℕ → Prog) → Prog
ask_third p K = ask p (constrained fields.index 2 2) K

abbrev pub ask_message_head : Path → (MessageHead → Prog) → Prog
ask_message_head p K = ask p flag (λ b. if b == 1
    then ask p (small fields.index) (λ n. K (Past (3 + n)))
    else ask_third p (λ outcome. ask_aligned p (constrained fields.index 8 255) (λ code.
    ask_third p (λ criticality. K (Known outcome code criticality)))))

abbrev pub IsMessageHead : MessageHead → Type 0
IsMessageHead (Known outcome code criticality) = (outcome < 3) × (criticality ≤ 2)
IsMessageHead (Past outcome) = (3 ≤ outcome) × (outcome < 67)

abbrev pub ask_element_head : Path → (known left : List Slot) → (after : ℕ) → (ElementHead → Prog) → Prog
ask_element_head p known left after K = ask_aligned p (ie_id known left after) (λ id.
    ask_third p (λ criticality. K (record { id = id; criticality = criticality })))

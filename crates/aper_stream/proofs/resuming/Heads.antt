-- Heads and ends, told as values.
use Rattle.std.proofs.Common.{◌≡◌, ℕ, ◌+◌, ◌==◌, cond, ap, true, List, refl}
use Rattle.aper_defs.specs.Trees.{Slot}
use Rattle.aper_defs.specs.Values.{Value, truth, enumeral, message}
use Rattle.aper_defs.specs.Fields.{Path, closing, end, flag, constrained, small}
use Rattle.aper_defs.specs.Fields as fields
use Rattle.aper_defs.specs.Questions.{Prog, ask, ask_aligned}
use mathlib.Core.Path.{fun_ext}
use Rattle.proof_aper.specs.followed.Followed.{followed, IsPlain}
use Rattle.proof_aper.proofs.followed.Stays.{Told}
use Rattle.proof_aper.proofs.followed.Plain.{either}
use Rattle.aper_frames.specs.declared.heads.messages.MessageHead.{MessageHead}
use Rattle.aper_frames.specs.declared.heads.messages.MessageHead.TheVariants.{Known, Past}
use Rattle.aper_frames.specs.declared.heads.elements.ElementHead.{ElementHead}
use Rattle.aper_frames.specs.heads.Heads.{ask_third, ask_message_head, ask_element_head}

abbrev the_element : Value → ElementHead
the_element (message id criticality n v) = record { id = id; criticality = criticality }
the_element v = record { id = 0; criticality = 0 }

pub told_element : (known left : List Slot) (after : ℕ) → Told (λ p. ask_element_head p known left after)
unfolding followed
told_element known left after = record {
  plain = λ p J K. refl;
  tell = λ h. message h.id h.criticality 0 (truth true);
  heard = the_element;
  same = λ h. refl;
}

abbrev the_message : Value → MessageHead
the_message (message outcome code criticality v) = Known outcome code criticality
the_message (enumeral n) = Past n
the_message v = Past 0

abbrev told_as : MessageHead → Value
told_as (Known outcome code criticality) = message outcome code criticality (truth true)
told_as (Past n) = enumeral n

same_message : (h : MessageHead) → the_message (told_as h) ≡ h
same_message (Known outcome code criticality) = refl
same_message (Past n) = refl

plain_message : IsPlain ask_message_head
unfolding followed
plain_message = λ p J K. ap (ask p flag) (fun_ext (each p J K))
  where
    each : (p : Path) (J : MessageHead → Prog) (K : Value → Prog) (b : ℕ)
        → followed (cond (b == 1) (ask p (small fields.index) (λ n. J (Past (3 + n))))
        (ask_third p (λ outcome. ask_aligned p (constrained fields.index 8 255) (λ code.
        ask_third p (λ criticality. J (Known outcome code criticality)))))) K
        ≡ cond (b == 1) (ask p (small fields.index) (λ n. followed (J (Past (3 + n))) K))
        (ask_third p (λ outcome. ask_aligned p (constrained fields.index 8 255) (λ code.
        ask_third p (λ criticality. followed (J (Known outcome code criticality)) K))))
    each p J K b = either (b == 1) _ _ _ _ K refl refl

pub told_message : Told ask_message_head
told_message = record { plain = plain_message; tell = told_as; heard = the_message; same = same_message }

abbrev pub ask_end : Path → (Unit {0} → Prog) → Prog
ask_end p K = ask p closing (λ m. ask p end (λ z. K tt))

pub told_end : Told ask_end
unfolding followed
told_end = record { plain = λ p J K. refl; tell = λ u. truth true; heard = λ v. tt; same = λ u. refl }

-- Where a line may stand, and how many lines show events.
use Rattle.std.proofs.Common.{◌≡◌, ◌+◌, ℕ, Bool, true, false, cond, List, [], ◌∷◌, ◌++◌, reverse, length, take, get_or, ◌<◌, refl, ap, sym, ◌∙◌, arith}
use Rattle.std.proofs.lemmas.List.Sums.{count_by_more_yes, count_by_more_no}
use Rattle.std.specs.Prelude.{count_by}
use Rattle.std.proofs.lemmas.Grind.{reverse_onto}
use Rattle.std.proofs.lemmas.List.Recursion.{is_count_by}
use Rattle.scenario_text.specs.declared.line.OutLine.TheVariants as lines
use Rattle.transcript_defs.specs.declared.line.TextLine.{TextLine}
use Rattle.transcript_defs.specs.declared.line.TextLine.TheVariants.{Printed}
use Rattle.transcript_defs.specs.Past.{events_of}
use Rattle.transcript_check.specs.inside.Judge.{shows_event}

events_cons : (line : TextLine) (past : List TextLine) → events_of (line ∷ past) ≡ cond (shows_event line) (1 + events_of past) (events_of past)
unfolding events_of shows_event
events_cons (Printed (lines.Happens event)) past = omega arith
events_cons line past = refl

swapped : (a b : Bool) (n m : ℕ) → m ≡ cond b (1 + n) n → cond a (1 + m) m ≡ cond b (1 + cond a (1 + n) n) (cond a (1 + n) n)
swapped true true n m is = omega arith
swapped true false n m is = omega arith
swapped false true n m is = is
swapped false false n m is = is

events_snoc : (past : List TextLine) (line : TextLine) → events_of (past ++ line ∷ []) ≡ cond (shows_event line) (1 + events_of past) (events_of past)
events_snoc [] line = events_cons line []
events_snoc (newest ∷ past) line =
    events_cons newest (past ++ line ∷ [])
    ∙ swapped (shows_event newest) (shows_event line) (events_of past) (events_of (past ++ line ∷ [])) (events_snoc past line)
    ∙ ap (λ (n : ℕ). cond (shows_event line) (1 + n) n) (sym (events_cons newest past))

pub events_counted : (lines : List TextLine) → count_by shows_event lines ≡ events_of (reverse lines)
unfolding events_of
events_counted lines =
    sym (is_count_by (λ xs. events_of (reverse xs)) shows_event refl
    (λ x xs. ap events_of (reverse_onto xs x []) ∙ events_snoc (reverse xs) x) lines)

pub count_step : (lines : List TextLine) (i events after : ℕ) (line : TextLine) → i < length lines → line ≡ get_or lines i line → events ≡ count_by shows_event (take i lines)
    → after ≡ events + cond (shows_event line) 1 0 → after ≡ count_by shows_event (take (i + 1) lines)
count_step lines i events after line within is counted more = by (shows_event line) refl
  where
    by : (b : Bool) → shows_event line ≡ b → after ≡ count_by shows_event (take (i + 1) lines)
    by true shows =
        more ∙ ap (λ (t : Bool). events + cond t 1 0) shows ∙ ap (λ (n : ℕ). n + 1) counted
        ∙ sym (count_by_more_yes shows_event lines i line within (ap shows_event (sym is) ∙ shows))
    by false shows =
        more ∙ ap (λ (t : Bool). events + cond t 1 0) shows ∙ omega arith ∙ counted
        ∙ sym (count_by_more_no shows_event lines i line within (ap shows_event (sym is) ∙ shows))

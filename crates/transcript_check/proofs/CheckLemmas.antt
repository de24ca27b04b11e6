-- What becomes of a line, and of a checker.
use Rattle.std.proofs.Common.{◌≡◌, ◌<◌, ℕ, List, [], ◌∷◌, ◌++◌, reverse, Option, Some, None, refl, ap, sym, ◌∙◌, subst, arith}
use Rattle.std.specs.Prelude.{Ok, Err}
use Rattle.scenario_text.specs.declared.event.Event.{Event}
use Rattle.tables.specs.Queues.{first_item}
use Rattle.transcript_defs.specs.declared.line.TextLine.{TextLine}
use Rattle.transcript_defs.specs.declared.rule.Rule.{Rule}
use Rattle.transcript_defs.specs.declared.rule.Rule.TheVariants as rules
use Rattle.transcript_defs.specs.Lines.{IsLineOf}
use Rattle.transcript_defs.specs.Past.{accepted}
use Rattle.transcript_defs.specs.Rules.{Spelling, a_line, no_line, rule_number, ShowsCount, IsInOrder}
use Rattle.transcript_check.specs.declared.checker.CheckError.TheVariants.{Unsound, Memory}
use Rattle.transcript_check.specs.declared.index.Index.{Index}
use Rattle.transcript_check.specs.declared.index.accepted.Accepted.{Accepted}
use Rattle.transcript_check.specs.Steps.{Progress, going, refused, spent, LineMeets}
use Rattle.transcript_check.specs.inside.Accepted.{AreAccepted}
use Rattle.transcript_check.specs.inside.Index.{IsIndex, settled, newly_accepted}
use Rattle.transcript_check.specs.inside.Judge.{FirstBroken}
use Rattle.transcript_check.proofs.IndexLemmas.{index_settled, reverse_more}

-- ---- the index

pub judged_index : (past : List TextLine) (line : TextLine) (newest : Option TextLine) (old : Index) (after : Accepted) → newest ≡ first_item past
    → IsIndex past (settled past) old
    → ((happened : List Event) → AreAccepted happened old.accepted → AreAccepted (happened ++ newly_accepted newest line) after)
    → IsIndex past (accepted line past) (record old { accepted = after })
judged_index past line newest old after is index settles =
    index_settled past line old (record old { accepted = after }) index
    (subst (λ (n : Option TextLine). AreAccepted (settled past ++ newly_accepted n line) after) is (settles (settled past) index.accepts)) refl

pub taken_index : (lines after : List TextLine) (line : TextLine) (index : Index) → after ≡ lines ++ line ∷ []
    → IsIndex (line ∷ reverse lines) (accepted line (reverse lines)) index → IsIndex (reverse after) (settled (reverse after)) index
unfolding settled
taken_index lines after line index more is =
    subst (λ (past : List TextLine). IsIndex past (settled past) index) (sym (ap reverse more ∙ reverse_more lines line)) is

pub shows_count : (encode : Spelling) (past : List TextLine) (line : TextLine) → FirstBroken encode past line None → ShowsCount past line
shows_count encode past line kept = kept rules.Count

pub in_order : (encode : Spelling) (past : List TextLine) (line : TextLine) → FirstBroken encode past line None → IsInOrder past line
in_order encode past line kept = kept rules.Order

-- ---- the checker

none_before : (rule : Rule) → rule_number rule < 1 → ⊥
none_before rules.Form less = omega (arith, less)
none_before rules.Wire less = omega (arith, less)
none_before rules.Packet less = omega (arith, less)
none_before rules.Count less = omega (arith, less)
none_before rules.Order less = omega (arith, less)
none_before rules.Seen less = omega (arith, less)
none_before rules.Spelling less = omega (arith, less)
none_before rules.End less = omega (arith, less)

module _ (encode : Spelling) (text : List ℕ) (past : List TextLine) where
  pub no_line_meets : (lines : List TextLine) → ((line : TextLine) → IsLineOf text line → ⊥) → reverse lines ≡ past
      → LineMeets encode text (going past) (refused (reverse lines) rules.Form) (Err (Unsound rules.Form))
  no_line_meets lines none is = (
    record { at = no_line; stands = none; broken = λ keeps. keeps; least = λ other less. absurd (none_before other less) },
    ap (λ (p : List TextLine). refused p rules.Form) is,
  )

  pub taken_meets : (line : TextLine) (after : List TextLine) → IsLineOf text line → FirstBroken encode past line None → after ≡ line ∷ past
      → LineMeets encode text (going past) (going after) (Ok tt)
  taken_meets line after is kept more = (line, record { is_line = is; keeps = kept }, ap going more)

  pub broken_meets : (line : TextLine) (lines : List TextLine) (rule : Rule) → IsLineOf text line → FirstBroken encode past line (Some rule) → reverse lines ≡ past
      → LineMeets encode text (going past) (refused (reverse lines) rule) (Err (Unsound rule))
  broken_meets line lines rule is broken same = (
    record { at = a_line line; stands = is; broken = broken.0; least = broken.1 },
    ap (λ (p : List TextLine). refused p rule) same,
  )

pub memory_meets : (encode : Spelling) (text : List ℕ) (before : Progress) → LineMeets encode text before spent (Err Memory)
memory_meets encode text (going past) = refl
memory_meets encode text (refused past rule) = refl
memory_meets encode text spent = refl

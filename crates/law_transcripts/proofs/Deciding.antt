-- A text that breaks no rule at a first place is sound: it can't be that neither holds.
use Rattle.std.proofs.Common.{◌≡◌, ℕ, ◌+◌, ◌<◌, List, [], ◌∷◌, ◌++◌, length, refl, ◌∙◌, subst, arith, inl, inr}
use Rattle.std.specs.List.{AllByRecursion}
use Rattle.std.proofs.lemmas.List.{append-nil}
use Rattle.std.proofs.lemmas.Bool.{cases_lt}
use Rattle.transcript_defs.specs.declared.line.TextLine.{TextLine}
use Rattle.transcript_defs.specs.declared.rule.Rule.{Rule}
use Rattle.transcript_defs.specs.declared.rule.Rule.TheVariants as rules
use Rattle.transcript_defs.specs.Lines.{IsProper}
use Rattle.transcript_defs.specs.Rules.{Spelling, AtPlace, a_line, no_line, the_end, Keeps, rule_number}
use Rattle.transcript_defs.specs.Sound.{AreSound, texts_of, Stands, Sound, IsUnsound}
use Rattle.proof_sound_transcripts.proofs.RuleNumbers.{one_rule, small}
use Rattle.proof_sound_transcripts.proofs.Texts.{texts_step}

pub record Neither (encode : Spelling) (texts : List (List ℕ)) : Type 0 where
  pub not_sound : Sound encode texts → ⊥
  pub not_unsound : (place : ℕ) (rule : Rule) → IsUnsound encode texts place rule → ⊥

-- what is known at a place: the lines before it, and the texts from it on
record Upto (encode : Spelling) (texts : List (List ℕ)) (past : List TextLine) (rest : List (List ℕ)) : Type 0 where
  texts_are : texts ≡ texts_of past ++ rest
  proper : AllByRecursion IsProper past
  sound : AreSound encode past

Below : Spelling → List TextLine → AtPlace → ℕ → Type 0
Below encode past at n = (other : Rule) → rule_number other < n → Keeps encode other past at

-- the rules below the next number are kept, where this one is
one_more : (encode : Spelling) (past : List TextLine) (at : AtPlace) (rule : Rule) → Below encode past at (rule_number rule)
    → Keeps encode rule past at → Below encode past at (rule_number rule + 1)
unfolding Below
one_more encode past at rule below kept other less =
    elim (cases_lt (rule_number other) (rule_number rule)) [
      | inl lower ↦ below other lower
      | inr high ↦ subst (λ r. Keeps encode r past at) (one_rule rule other (omega (arith, less, high))) kept
    ]

-- a rule whose lower ones are kept can't be missing
next : (encode : Spelling) (texts : List (List ℕ)) (past : List TextLine) (rest : List (List ℕ)) (at : AtPlace)
    → Neither encode texts → Upto encode texts past rest → Stands rest at
    → (rule : Rule) → Below encode past at (rule_number rule) → (Below encode past at (rule_number rule + 1) → ⊥) → ⊥
unfolding Below
next encode texts past rest at neither upto stands rule below go =
    neither.not_unsound (length past + 1) rule (record {
      past = past;
      rest = rest;
      texts_are = upto.texts_are;
      proper = upto.proper;
      sound = upto.sound;
      place_is = refl;
      at = at;
      stands = stands;
      broken = λ kept. go (one_more encode past at rule below kept);
      least = below;
    })

none_below : (encode : Spelling) (past : List TextLine) (at : AtPlace) → Below encode past at 1
unfolding Below
none_below encode past at other less = absurd (let low = (small other).0 in omega arith)

-- every rule is kept
all_rules_kept : (encode : Spelling) (texts : List (List ℕ)) (past : List TextLine) (rest : List (List ℕ)) (at : AtPlace)
    → Neither encode texts → Upto encode texts past rest → Stands rest at → (((rule : Rule) → Keeps encode rule past at) → ⊥) → ⊥
unfolding Below
all_rules_kept encode texts past rest at neither upto stands go =
    let rule = next encode texts past rest at neither upto stands in
    rule rules.Form (none_below encode past at) (λ b2.
    rule rules.Wire b2 (λ b3.
    rule rules.Packet b3 (λ b4.
    rule rules.Count b4 (λ b5.
    rule rules.Order b5 (λ b6.
    rule rules.Seen b6 (λ b7.
    rule rules.Spelling b7 (λ b8.
    rule rules.End b8 (λ b9. go (λ r. b9 r (small r).1)))))))))

neither_from : (encode : Spelling) (texts : List (List ℕ)) → Neither encode texts
    → (rest : List (List ℕ)) (past : List TextLine) → Upto encode texts past rest → ⊥
unfolding Below
neither_from encode texts neither [] past upto =
    all_rules_kept encode texts past [] the_end neither upto tt (λ kept.
    neither.not_sound (record {
      past = past;
      texts_are = upto.texts_are ∙ append-nil (texts_of past);
      proper = upto.proper;
      sound = upto.sound;
      finished = kept rules.End;
    }))
neither_from encode texts neither (text ∷ rest) past upto =
    neither.not_unsound (length past + 1) rules.Form (record {
      past = past;
      rest = text ∷ rest;
      texts_are = upto.texts_are;
      proper = upto.proper;
      sound = upto.sound;
      place_is = refl;
      at = no_line;
      stands = λ line is.
          all_rules_kept encode texts past (text ∷ rest) (a_line line) neither upto is (λ kept.
          neither_from encode texts neither rest (line ∷ past) (record {
            texts_are = upto.texts_are ∙ texts_step line past text rest is.text_is;
            proper = (is.proper, upto.proper);
            sound = (upto.sound, kept);
          }));
      broken = λ kept. kept;
      least = none_below encode past no_line;
    })

-- A text is sound, or breaks a rule at a first place.
pub not_neither : (encode : Spelling) (texts : List (List ℕ)) → (Sound encode texts → ⊥)
    → ((place : ℕ) (rule : Rule) → IsUnsound encode texts place rule → ⊥) → ⊥
not_neither encode texts not_sound not_unsound =
    neither_from encode texts (record { not_sound = not_sound; not_unsound = not_unsound }) texts [] (record { texts_are = refl; proper = tt; sound = tt })

-- Lines that keep every rule, with one more; and a line, or an end, that doesn't.
use Rattle.std.proofs.Common.{◌≡◌, ℕ, ◌+◌, ◌<◌, List, [], ◌∷◌, ◌++◌, length, reverse, sym, ap, ◌∙◌, subst, append-nil, arith}
use Rattle.std.proofs.lemmas.List.{length-map, length-reverse}
use Rattle.transcript_defs.specs.declared.line.TextLine.{TextLine}
use Rattle.transcript_defs.specs.declared.rule.Rule.{Rule}
use Rattle.transcript_defs.specs.declared.rule.Rule.TheVariants as rules
use Rattle.transcript_defs.specs.Lines.{text_of}
use Rattle.transcript_defs.specs.Rules.{Spelling, AtPlace, a_line, no_line, the_end, Keeps, IsFinished, rule_number}
use Rattle.transcript_defs.specs.Sound.{texts_of, Stands, Sound, IsUnsound}
use Rattle.proof_sound_transcripts.proofs.Texts.{texts_more}
use Rattle.transcript_check.specs.Steps.{KeepsAll, BreaksRule}
use Rattle.command_verify.specs.Verify.{AreKept}

-- as many texts as lines
texts-length : (past : List TextLine) → length (texts_of past) ≡ length past
texts-length past = length-map (reverse past) text_of ∙ length-reverse past

module _ (encode : Spelling) (past : List TextLine) (texts : List (List ℕ)) (kept : AreKept encode past texts) where
  pub lines-length : length texts ≡ length past
  lines-length = ap (λ (ts : List (List ℕ)). length ts) kept.texts_are ∙ texts-length past

  pub kept_more : (text : List ℕ) (line : TextLine) → KeepsAll encode past text line → AreKept encode (line ∷ past) (texts ++ text ∷ [])
  kept_more text line h = record {
    texts_are = ap (λ (ts : List (List ℕ)). ts ++ text ∷ []) kept.texts_are ∙ ap (λ (t : List ℕ). texts_of past ++ t ∷ []) h.is_line.text_is
        ∙ sym (texts_more line past);
    proper = (h.is_line.proper, kept.proper);
    sound = (kept.sound, h.keeps);
  }

  -- what follows a line doesn't change what stands there
  stands_so : (text : List ℕ) (more : List (List ℕ)) (at : AtPlace) → Stands (text ∷ []) at → Stands (text ∷ more) at
  stands_so text more (a_line line) h = h
  stands_so text more no_line h = h
  stands_so text more the_end h = h

  pub broken_next : (text : List ℕ) (rule : Rule) → BreaksRule encode past (text ∷ []) rule → (place : ℕ) → place ≡ length texts + 1
      → (more : List (List ℕ)) → IsUnsound encode (texts ++ text ∷ more) place rule
  broken_next text rule h place is more = record {
    past = past;
    rest = text ∷ more;
    texts_are = ap (λ (ts : List (List ℕ)). ts ++ text ∷ more) kept.texts_are;
    proper = kept.proper;
    sound = kept.sound;
    place_is = is ∙ ap (λ (n : ℕ). n + 1) lines-length;
    at = h.at;
    stands = stands_so text more h.at h.stands;
    broken = h.broken;
    least = h.least;
  }

  pub sound_there : IsFinished past → Sound encode texts
  sound_there finished =
      record { past = past; texts_are = kept.texts_are; proper = kept.proper; sound = kept.sound; finished = finished }

  kept_at_end : (other : Rule) → rule_number other < rule_number rules.End → Keeps encode other past the_end
  kept_at_end rules.End less = absurd (omega arith)
  kept_at_end other less = tt

  pub broken_end : (rule : Rule) → rule ≡ rules.End → (IsFinished past → ⊥) → (place : ℕ) → place ≡ length texts + 1
      → IsUnsound encode texts place rule
  broken_end rule same unfinished place is =
      subst (λ (r : Rule). IsUnsound encode texts place r) (sym same)
      (record {
        past = past;
        rest = [];
        texts_are = kept.texts_are ∙ sym (append-nil (texts_of past));
        proper = kept.proper;
        sound = kept.sound;
        place_is = is ∙ ap (λ (n : ℕ). n + 1) lines-length;
        at = the_end;
        stands = tt;
        broken = unfinished;
        least = kept_at_end;
      })

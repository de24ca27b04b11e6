-- Several turns of `next`: the bytes of all reads, one after the other.
use Rattle.std.proofs.Common.{◌≡◌, ◌⊎◌, inl, inr, ℕ, ◌+◌, ◌≤◌, ◌<◌, true, List, [], ◌∷◌, ◌++◌, length, Option, Some, None, Result, Ok, Err, refl, sym, ap, ◌∙◌, subst, arith, append_assoc, append-nil}
use Rattle.std.proofs.lemmas.List.{length-append}
use Rattle.std.proofs.KnownBytes.{Consumes-nil, Consumes-trans}
use Rattle.std.specs.Io.KnownBytes.{Consumes, IsAtEnd}
use Rattle.gnb_base.specs.declared.lines.Line.{Line}
use Rattle.gnb_base.specs.declared.lines.ReadPhase.TheVariants.{Going, Ended, TooLong}
use Rattle.gnb_base.specs.declared.lines.ReadError.{ReadError}
use Rattle.gnb_base.specs.declared.lines.ReadError.TheVariants as errors
use Rattle.gnb_base.specs.Outside.{SourceAt}
use Rattle.gnb_base.specs.Lines.{HasNoLf, past_line}
use Rattle.gnb_base.specs.Reading.{Reading, EndsInLf, EndsInput, Answers, CountsReadFault, FailsLast, NextMeets, piece_size}
use Rattle.gnb_base.specs.LineReader.{GoesOn}
use Rattle.gnb_base.proofs.LineLemmas.{HasNoLf-front}

-- the reads so far, from an old reader to the one now
pub record SoFar (old now : Reading) (before after : SourceAt) : Type 0 where
  pub taken : List ℕ
  pub consumes : Consumes before.left after.left taken
  pub calls : after.calls ≤ before.calls + length taken
  pub faults : after.faults ≡ before.faults
  pub failed : after.failed ≡ true → before.failed ≡ true
  pub counts : now.taken ≡ old.taken + length taken
  pub kept : now.kept ≡ old.kept ++ taken
  pub lines : now.lines ≡ old.lines
  pub went : old.phase ≡ Going
  pub going : now.phase ≡ Going
  pub lazy : ((taken ≡ []) × (after ≡ before)) ⊎ HasNoLf old.kept

pub none_so_far : (old : Reading) (source : SourceAt) → old.phase ≡ Going → SoFar old old source source
none_so_far old source going =
    record {
      taken = [];
      consumes = Consumes-nil source.left;
      calls = omega arith;
      faults = refl;
      failed = λ e. e;
      counts = omega arith;
      kept = sym (append-nil old.kept);
      lines = refl;
      went = going;
      going = going;
      lazy = inl (refl, refl);
    }

module _ (old now new : Reading) (before mid after : SourceAt) (s : SoFar old now before mid) where
  -- the kept bytes with those of a further read
  joined : (more : List ℕ) → old.kept ++ (s.taken ++ more) ≡ now.kept ++ more
  joined more = sym (append_assoc old.kept s.taken more) ∙ ap (λ (xs : List ℕ). xs ++ more) (sym s.kept)

  counted : (more : List ℕ) → new.taken ≡ now.taken + length more → new.taken ≡ old.taken + length (s.taken ++ more)
  counted more e = omega (arith, e, s.counts, length-append s.taken more)

  pub more_so_far : GoesOn now new mid after → SoFar old new before after
  more_so_far m =
      record {
        taken = s.taken ++ m.taken;
        consumes = Consumes-trans before.left mid.left after.left s.taken m.taken s.consumes m.consumes;
        calls = omega (arith, s.calls, m.calls, length-append s.taken m.taken);
        faults = m.faults ∙ s.faults;
        failed = λ e. s.failed (m.failed e);
        counts = counted m.taken m.counts;
        kept = m.kept ∙ sym (joined m.taken);
        lines = m.lines ∙ s.lines;
        went = s.went;
        going = m.phase;
        lazy = inr (HasNoLf-front old.kept s.taken (subst HasNoLf s.kept m.without_lf));
      }

  still_lazy : (more : List ℕ) → ((more ≡ []) × (after ≡ mid)) ⊎ HasNoLf now.kept → ((s.taken ++ more ≡ []) × (after ≡ before))
      ⊎ HasNoLf old.kept
  still_lazy more h = by s.lazy h
    where
      by : ((s.taken ≡ []) × (mid ≡ before)) ⊎ HasNoLf old.kept → ((more ≡ []) × (after ≡ mid)) ⊎ HasNoLf now.kept
          → ((s.taken ++ more ≡ []) × (after ≡ before)) ⊎ HasNoLf old.kept
      by (inl none) (inl no_more) = inl (ap (λ (xs : List ℕ). xs ++ more) none.0 ∙ no_more.0, no_more.1 ∙ none.1)
      by (inl none) (inr without_lf) = inr (HasNoLf-front old.kept s.taken (subst HasNoLf s.kept without_lf))
      by (inr without_lf) h = inr without_lf

  -- the count of faults stood still so far
  still_counts : (result : Result (Option Line) ReadError) → CountsReadFault mid.faults after.faults result
      → CountsReadFault before.faults after.faults result
  still_counts result h = subst (λ (n : ℕ). CountsReadFault n after.faults result) s.faults h

  still_fails : (result : Result (Option Line) ReadError) → FailsLast mid.failed after.failed result
      → FailsLast before.failed after.failed result
  still_fails (Ok line) h = λ e. s.failed (h e)
  still_fails (Err errors.ReadFault) h = h
  still_fails (Err errors.TooLong) h = λ e. s.failed (h e)
  still_fails (Err errors.Memory) h = λ e. s.failed (h e)

  same_end : (more text : List ℕ) → EndsInLf now new more text ⊎ EndsInput now new after.left more text
      → EndsInLf old new (s.taken ++ more) text ⊎ EndsInput old new after.left (s.taken ++ more) text
  same_end more text (inl e) = inl (record { phase = e.phase; split = joined more ∙ e.split })
  same_end more text (inr e) = inr (record { phase = e.phase; whole = joined more ∙ e.whole; some = e.some; kept = e.kept; at_end = e.at_end })

  same_answer : (more : List ℕ) (result : Result (Option Line) ReadError) → new.taken ≡ now.taken + length more
      → Answers now new after.left more result → Answers old new after.left (s.taken ++ more) result
  same_answer more (Ok (Some line)) counts h =
      record {
        going = s.went;
        without_lf = h.without_lf;
        ends = same_end more line.text h.ends;
        number = h.number ∙ ap (λ (n : ℕ). n + 1) s.lines;
        lines = h.lines;
        counted = h.counted;
        within = h.within;
        few = h.few;
        falls = omega (arith, h.falls, h.within, counts, s.counts, ap length s.kept, length-append old.kept s.taken);
      }
  same_answer more (Ok None) counts h =
      record {
        phase = h.phase;
        nothing = joined more ∙ h.nothing;
        kept = h.kept;
        lines = h.lines ∙ s.lines;
        within = h.within;
        seen = seen h.seen;
      }
    where
      seen : ((now.phase ≡ Going) × IsAtEnd after.left) ⊎ (now.phase ≡ Ended) → ((old.phase ≡ Going) × IsAtEnd after.left)
          ⊎ (old.phase ≡ Ended)
      seen (inl (going, end)) = inl (s.went, end)
      seen (inr ended) = let e = sym s.going ∙ ended in absurd cc
  same_answer more (Err errors.ReadFault) counts h =
      record {
        going = s.went;
        phase = h.phase;
        kept = h.kept ∙ sym (joined more);
        without_lf = h.without_lf;
        lines = h.lines ∙ s.lines;
        within = h.within;
      }
  same_answer more (Err errors.TooLong) counts h =
      record { phase = h.phase; kept = h.kept ∙ sym (joined more); at = h.at; lines = h.lines ∙ s.lines; seen = seen h.seen }
    where
      seen : ((now.phase ≡ Going) × ((front : List ℕ) × (last : ℕ) × (now.kept ++ more ≡ front ++ last ∷ []) × HasNoLf front))
          ⊎ (now.phase ≡ TooLong)
          → ((old.phase ≡ Going) × ((front : List ℕ) × (last : ℕ) × (old.kept ++ (s.taken ++ more) ≡ front ++ last ∷ []) × HasNoLf front))
          ⊎ (old.phase ≡ TooLong)
      seen (inl (going, (front, last, split, without_lf))) = inl (s.went, (front, last, joined more ∙ split, without_lf))
      seen (inr too_long) = let e = sym s.going ∙ too_long in absurd cc
  same_answer more (Err errors.Memory) counts h = h

  pub meets_so_far : (result : Result (Option Line) ReadError) → NextMeets now new mid after result → NextMeets old new before after result
  meets_so_far result m =
      record {
        taken = s.taken ++ m.taken;
        consumes = Consumes-trans before.left mid.left after.left s.taken m.taken s.consumes m.consumes;
        counts = counted m.taken m.counts;
        answers = same_answer m.taken result m.counts m.answers;
        faults = still_counts result m.faults;
        failed = still_fails result m.failed;
        lazy = still_lazy m.taken m.lazy;
        calls = omega (arith, m.calls, s.calls, length-append s.taken m.taken);
        few = subst (λ (xs : List ℕ). length (past_line xs) < piece_size) (sym (joined m.taken)) m.few;
        stays = inl s.went;
      }

-- A call of `next`, at each of its exits, and over several reads.
use Rattle.std.proofs.Common.{◌≡◌, inl, inr, ℕ, ◌+◌, ◌≤◌, ◌<◌, Bool, true, false, List, [], ◌∷◌, ◌++◌, length, Option, Some, None, Result, Ok, Err, refl, sym, ap, ◌∙◌, subst, arith, append-nil}
use Rattle.std.proofs.lemmas.List.{length-append}
use Rattle.std.proofs.KnownBytes.{Consumes-nil}
use Rattle.gnb_base.specs.declared.lines.Line.{Line}
use Rattle.gnb_base.specs.declared.lines.ReadPhase.{ReadPhase}
use Rattle.gnb_base.specs.declared.lines.ReadPhase.TheVariants.{Going, Ended, TooLong, Failed}
use Rattle.gnb_base.specs.declared.lines.ReadError.{ReadError}
use Rattle.gnb_base.specs.declared.lines.ReadError.TheVariants as errors
use Rattle.gnb_base.specs.Outside.{SourceAt}
use Rattle.gnb_base.specs.Lines.{line_feed, HasNoLf, past_line}
use Rattle.gnb_base.specs.Reading.{Reading, input_limit, piece_size, Answers, CountsReadFault, FailsLast, NextMeets}
use Rattle.gnb_base.proofs.LineLemmas.{few_after, few_past}
use Rattle.gnb_base.proofs.LineReaderLemmas.{kept_few, some_length}
use Rattle.gnb_base.specs.declared.lines.LineReader.TheInside.{Inside}
use Rattle.gnb_base.specs.LineReader.{reading_of, IsSound, TakesOff, TakesLine, TakesLast, ReadsMore, GoesOn, PhaseFits}

no_bytes : (xs piece : List ℕ) → piece ≡ [] → xs ++ piece ≡ xs
no_bytes xs piece e = ap (λ (p : List ℕ). xs ++ p) e ∙ append-nil xs

-- a line that was kept
pub kept_line_meets : (old new : Reading) (source : SourceAt) (line : Line) → old.phase ≡ Going → TakesOff old new line
    → NextMeets old new source source (Ok (Some line))
kept_line_meets old new source line going t =
    let longer : length old.kept ≡ length line.text + (length new.kept + 1) =
    omega (arith, ap length t.split, length-append line.text (line_feed ∷ new.kept)) in
    record {
      taken = [];
      consumes = Consumes-nil source.left;
      counts = omega (arith, t.taken);
      faults = refl;
      failed = λ e. e;
      lazy = inl (refl, refl);
      calls = omega arith;
      few = few_past (old.kept ++ []) line.text new.kept (append-nil old.kept ∙ t.split) t.without_lf t.few;
      answers = record {
        going = going;
        without_lf = t.without_lf;
        ends = inl (record { phase = t.phase; split = append-nil old.kept ∙ t.split });
        number = t.number;
        lines = t.lines;
        counted = t.counted;
        within = t.within;
        few = t.few;
        falls = omega (arith, t.taken, longer);
      };
      stays = inl going;
    }

pub no_memory_meets : (old new : Reading) (source : SourceAt) → old.phase ≡ Going → new.phase ≡ Failed → new.taken ≡ old.taken
    → new.taken ≤ input_limit
    → length (past_line old.kept) < piece_size → NextMeets old new source source (Err errors.Memory)
no_memory_meets old new source going failed same within few =
    record {
      taken = [];
      consumes = Consumes-nil source.left;
      counts = omega (arith, same);
      answers = (failed, omega (arith, within));
      faults = refl;
      failed = λ e. e;
      lazy = inl (refl, refl);
      calls = omega arith;
      few = subst (λ (xs : List ℕ). length (past_line xs) < piece_size) (sym (append-nil old.kept)) few;
      stays = inl going;
    }

-- bytes came
pub goes_on : (old new : Reading) (before after : SourceAt) → HasNoLf old.kept
    → ReadsMore old new before after (Ok true) → GoesOn old new before after
goes_on old new before after without_lf r =
    record {
      taken = r.piece;
      some = r.reads.0;
      consumes = r.consumes;
      calls = omega (arith, r.calls, r.reads.0);
      faults = r.faults;
      failed = r.failed;
      counts = r.taken;
      without_lf = without_lf;
      kept = r.kept;
      lines = r.lines;
      phase = r.reads.1;
      within = subst (λ (p : ReadPhase). PhaseFits p new) r.reads.1 r.fits;
    }

-- at most one byte after bytes without LF
few_read : (kept piece : List ℕ) → HasNoLf kept → length piece ≤ 1 → length (past_line (kept ++ piece)) < piece_size
few_read kept piece without_lf short = few_after kept piece without_lf (omega arith)

-- the end came: a last line, or none
pub last_meets : (old mid new : Reading) (before after : SourceAt) (line : Option Line) → old.phase ≡ Going → HasNoLf old.kept
    → ReadsMore old mid before after (Ok false) → TakesLast mid new (Ok line) → NextMeets old new before after (Ok line)
last_meets old mid new before after (Some line) going without_lf r t =
    let same : mid.kept ≡ old.kept = r.kept ∙ no_bytes old.kept r.piece r.reads.0 in
    let whole : old.kept ++ r.piece ≡ line.text = sym r.kept ∙ sym t.text in
    let none : length r.piece ≡ 0 = ap length r.reads.0 in
    record {
      taken = r.piece;
      consumes = r.consumes;
      counts = t.taken ∙ r.taken;
      faults = r.faults;
      failed = r.failed;
      lazy = inr without_lf;
      calls = omega (arith, r.calls);
      few = few_read old.kept r.piece without_lf (omega (arith, ap (λ (xs : List ℕ). length xs) r.reads.0));
      answers = record {
        going = going;
        without_lf = subst HasNoLf (sym (t.text ∙ same)) without_lf;
        ends = inr (record { phase = t.phase; whole = whole; some = t.some; kept = t.kept; at_end = r.reads.2 });
        number = t.number ∙ ap (λ (n : ℕ). n + 1) r.lines;
        lines = t.lines;
        counted = t.counted;
        within = t.within;
        few = omega (arith, ap length t.kept);
        falls = omega (arith, t.taken, r.taken, none, ap length t.kept, ap length same, ap length t.text, some_length line.text t.some);
      };
      stays = inl going;
    }
last_meets old mid new before after None going without_lf r t =
    record {
      taken = r.piece;
      consumes = r.consumes;
      counts = t.taken ∙ r.taken;
      faults = r.faults;
      failed = r.failed;
      lazy = inr without_lf;
      calls = omega (arith, r.calls);
      few = few_read old.kept r.piece without_lf (omega (arith, ap (λ (xs : List ℕ). length xs) r.reads.0));
      answers = record {
        phase = t.phase;
        nothing = sym r.kept ∙ t.nothing;
        kept = t.kept;
        lines = t.lines ∙ r.lines;
        within = t.within;
        seen = inl (going, r.reads.2);
      };
      stays = inl going;
    }

pub no_memory_last : (old mid new : Reading) (before after : SourceAt) → old.phase ≡ Going → HasNoLf old.kept
    → ReadsMore old mid before after (Ok false) → new.phase ≡ Failed → new.taken ≡ mid.taken → new.taken ≤ input_limit
    → NextMeets old new before after (Err errors.Memory)
no_memory_last old mid new before after going without_lf r failed same within =
    record {
      taken = r.piece;
      consumes = r.consumes;
      counts = same ∙ r.taken;
      answers = (failed, omega (arith, within));
      faults = r.faults;
      failed = r.failed;
      lazy = inr without_lf;
      calls = omega (arith, r.calls);
      few = few_read old.kept r.piece without_lf (omega (arith, ap (λ (xs : List ℕ). length xs) r.reads.0));
      stays = inl going;
    }

-- a list of one byte
one_byte : (xs : List ℕ) → length xs ≡ 1 → (b : ℕ) × (xs ≡ b ∷ [])
one_byte [] e = absurd (omega (arith, e))
one_byte (b ∷ []) e = (b, refl)
one_byte (b ∷ c ∷ xs) e = absurd (omega (arith, e))

-- the read refused
module _ (old new : Reading) (before after : SourceAt) (going : old.phase ≡ Going) (without_lf : HasNoLf old.kept) where
  refused_by : (e : ReadError) (r : ReadsMore old new before after (Err e)) → length r.piece ≤ 1
      → Answers old new after.left r.piece (Err e)
      → NextMeets old new before after (Err e)
  refused_by e r short answers =
      record {
        taken = r.piece;
        consumes = r.consumes;
        counts = r.taken;
        answers = answers;
        faults = r.faults;
        failed = r.failed;
        lazy = inr without_lf;
        calls = omega (arith, r.calls);
        few = few_read old.kept r.piece without_lf short;
        stays = inl going;
      }

  pub refused_meets : (e : ReadError) → ReadsMore old new before after (Err e) → NextMeets old new before after (Err e)
  refused_meets errors.ReadFault r =
      refused_by errors.ReadFault r (omega (arith, ap (λ (xs : List ℕ). length xs) r.reads.0))
      (record {
        going = going;
        phase = r.reads.1;
        kept = r.kept;
        without_lf = subst HasNoLf (sym (r.kept ∙ no_bytes old.kept r.piece r.reads.0)) without_lf;
        lines = r.lines;
        within = subst (λ (p : ReadPhase). PhaseFits p new) r.reads.1 r.fits;
      })
  refused_meets errors.TooLong r =
      let one = one_byte r.piece r.reads.0 in
      refused_by errors.TooLong r (omega (arith, r.reads.0))
      (record {
        phase = r.reads.1;
        kept = r.kept;
        at = subst (λ (p : ReadPhase). PhaseFits p new) r.reads.1 r.fits;
        lines = r.lines;
        seen = inl (going, (old.kept, one.0, ap (λ (p : List ℕ). old.kept ++ p) one.1, without_lf));
      })
  refused_meets errors.Memory r =
      refused_by errors.Memory r (omega (arith, ap (λ (xs : List ℕ). length xs) r.reads.0))
      (r.reads.1, subst (λ (p : ReadPhase). PhaseFits p new) r.reads.1 r.fits)

-- a reader that stopped before answers again
module _ (r : Inside) (old : Reading) (source : SourceAt) (is : reading_of r ≡ old) (sound : IsSound r) where
  again : (result : Result (Option Line) ReadError) → Answers old old source.left [] result
      → CountsReadFault source.faults source.faults result
      → FailsLast source.failed source.failed result → NextMeets old old source source result
  again result answers faults failed =
      record {
        taken = [];
        consumes = Consumes-nil source.left;
        counts = omega arith;
        answers = answers;
        faults = faults;
        failed = failed;
        lazy = inl (refl, refl);
        calls = omega arith;
        few = subst (λ (xs : List ℕ). length (past_line xs) < piece_size) (sym (append-nil old.kept)) (kept_few r old is sound);
        stays = inr (record { reader = refl; source = refl });
      }

  phase_of : (p : ReadPhase) → r.phase ≡ p → (old.phase ≡ p) × PhaseFits p old
  phase_of p phase = (
    sym (ap (λ (o : Reading). o.phase) is) ∙ phase,
    subst (λ (o : Reading). PhaseFits p o) is (subst (λ (q : ReadPhase). PhaseFits q (reading_of r)) phase sound.phased),
  )

  pub too_long_again : r.phase ≡ TooLong → NextMeets old old source source (Err errors.TooLong)
  too_long_again phase =
      let p = phase_of TooLong phase in
      again (Err errors.TooLong)
      (record { phase = p.0; kept = sym (append-nil old.kept); at = p.1; lines = refl; seen = inr p.0 }) refl (λ e. e)

  pub failed_again : r.phase ≡ Failed → NextMeets old old source source (Err errors.Memory)
  failed_again phase = let p = phase_of Failed phase in again (Err errors.Memory) (p.0, p.1) refl (λ e. e)

  pub ended_again : r.phase ≡ Ended → NextMeets old old source source (Ok None)
  ended_again phase =
      let p = phase_of Ended phase in
      again (Ok None)
      (record { phase = p.0; nothing = append-nil old.kept ∙ p.1.1; kept = p.1.1; lines = refl; within = p.1.0; seen = inr p.0 }) refl (λ e. e)

-- what looking for a kept line answered
pub found_line : (old new : Reading) (found : Option Line) (line : Line) → found ≡ Some line → TakesLine old new (Ok found)
    → TakesOff old new line
found_line old new found line e t = subst (λ (f : Option Line). TakesLine old new (Ok f)) e t

pub found_none : (old new : Reading) (found : Option Line) → found ≡ None → TakesLine old new (Ok found) → HasNoLf old.kept × (new ≡ old)
found_none old new found e t = subst (λ (f : Option Line). TakesLine old new (Ok f)) e t

-- a read after it
pub read_from : (old mid new : Reading) (before after : SourceAt) (result : Result Bool ReadError) → HasNoLf old.kept × (mid ≡ old)
    → ReadsMore mid new before after result → ReadsMore old new before after result
read_from old mid new before after result none r = subst (λ (o : Reading). ReadsMore o new before after result) none.1 r

-- a read that gave no bytes
pub read_end : (old mid new : Reading) (before after : SourceAt) (came : Bool) → came ≡ false → HasNoLf old.kept × (mid ≡ old)
    → ReadsMore mid new before after (Ok came) → ReadsMore old new before after (Ok false)
read_end old mid new before after came e none r =
    subst (λ (b : Bool). ReadsMore old new before after (Ok b)) e (read_from old mid new before after (Ok came) none r)

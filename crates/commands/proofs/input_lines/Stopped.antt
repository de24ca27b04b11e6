-- A reader that can't hand out a line.
use Rattle.std.proofs.Common.{◌≡◌, ◌⊎◌, ℕ, ◌+◌, List, ◌++◌, length, Option, Result, Err, refl, sym, ap, ◌∙◌, subst, inl, inr, length-append}
use Rattle.std.proofs.KnownBytes.{Consumes-trans}
use Rattle.gnb_base.specs.declared.lines.Line.{Line}
use Rattle.gnb_base.specs.declared.lines.ReadError.{ReadError}
use Rattle.gnb_base.specs.declared.lines.ReadError.TheVariants as errors
use Rattle.gnb_base.specs.declared.lines.ReadPhase.TheVariants as phases
use Rattle.gnb_base.specs.Lines.{HasNoLf}
use Rattle.gnb_base.specs.Outside.{SourceAt}
use Rattle.gnb_base.specs.Reading.{Reading, IsUntouched, NextMeets}
use Rattle.command_defs.specs.declared.input_defs.InputEnd.{InputEnd}
use Rattle.command_defs.specs.input_defs.Split.{InputSplit, input_split, Whole, TakesInput}
use Rattle.command_defs.specs.input_defs.Ends.{IsReadFault, IsTooLong, EndsReading}
use Rattle.command_defs.specs.input_defs.Faults.{FaultsOfEnd}
use Rattle.command_defs.specs.input_defs.Standing.{Stands, Within, AtEnd, StandsAfter}
use Rattle.commands.specs.input_lines.ReadsLine.{StopsReading, end_of_read}
use Rattle.commands.proofs.input_lines.Sources.{none_then_none, none_then_last}
use Rattle.commands.proofs.input_lines.Standing.{within, bytes_more}

open_phase : {left : Option (List ℕ)} {reading : Reading} {taken : List ℕ} {lines : List (List ℕ)} → Stands left reading taken lines
    → (reading.phase ≡ phases.Going) ⊎ (reading.phase ≡ phases.Ended)
open_phase (Within going e) = inl going
open_phase (AtEnd ended none at_end divides) = inr ended

failed_going : (old new : Reading) → new.phase ≡ phases.Failed → (old.phase ≡ phases.Going) ⊎ (new ≡ old)
    → (old.phase ≡ phases.Going) ⊎ (old.phase ≡ phases.Ended) → old.phase ≡ phases.Going
failed_going old new failed (inl going) opened = going
failed_going old new failed (inr same) (inl going) = going
failed_going old new failed (inr same) (inr ended) =
    let e : old.phase ≡ phases.Failed = sym (ap (λ (r : Reading). r.phase) same) ∙ failed in absurd (cc)

stays_same : (old new : Reading) (s1 s2 : SourceAt) → (old.phase ≡ phases.Going) ⊎ IsUntouched old new s1 s2
    → (old.phase ≡ phases.Going) ⊎ (new ≡ old)
stays_same old new s1 s2 (inl going) = inl going
stays_same old new s1 s2 (inr kept) = inr kept.reader

long_going : (old : Reading) (X : Type 0) → ((old.phase ≡ phases.Going) × X) ⊎ (old.phase ≡ phases.TooLong)
    → (old.phase ≡ phases.Going) ⊎ (old.phase ≡ phases.Ended) → (old.phase ≡ phases.Going) × X
long_going old X (inl seen) opened = seen
long_going old X (inr long) (inl going) = absurd (cc)
long_going old X (inr long) (inr ended) = absurd (cc)

-- the bytes that were taken, with no line more
pub takes_on : {s0 s1 s2 : SourceAt} {old new : Reading} {taken : List ℕ} {lines : List (List ℕ)} {result : Result (Option Line) ReadError}
    → StandsAfter s0 s1 old taken lines
    → old.phase ≡ phases.Going → (m : NextMeets old new s1 s2 result)
    → TakesInput s0 s2 (input_split (taken ++ m.taken) lines (old.kept ++ m.taken))
takes_on {s0 = s0} {s1 = s1} {s2 = s2} {old = old} {taken = taken} {lines = lines} h going m = record {
  consumes = Consumes-trans s0.left s1.left s2.left taken m.taken h.consumes m.consumes;
  divides = Whole (bytes_more taken m.taken old.kept _ lines (within going h.stands) refl);
  each = h.each;
  lazy = m.few;
}

-- what was taken, why the reading ended, and whether a read failed
pub record Stops (before after : SourceAt) (split : InputSplit) (end : InputEnd) : Type 0 where
  pub takes : TakesInput before after split
  pub ends : EndsReading split end
  pub reads : FaultsOfEnd before after end

module _ {s0 s1 s2 : SourceAt} {old new : Reading} {taken : List ℕ} {lines : List (List ℕ)} (h : StandsAfter s0 s1 old taken lines) where
  is_read_fault : (m : NextMeets old new s1 s2 (Err errors.ReadFault))
      → IsReadFault (input_split (taken ++ m.taken) lines (old.kept ++ m.taken)) new.taken
  is_read_fault m = record {
    at = m.counts ∙ ap (λ (n : ℕ). n + length m.taken) h.bytes ∙ sym (length-append taken m.taken);
    no_line = subst (λ (kept : List ℕ). HasNoLf kept) m.answers.kept m.answers.without_lf;
  }

  is_too_long : (m : NextMeets old new s1 s2 (Err errors.TooLong))
      → (old.phase ≡ phases.Going) × IsTooLong (input_split (taken ++ m.taken) lines (old.kept ++ m.taken))
  is_too_long m =
      let seen = long_going old _ m.answers.seen (open_phase h.stands) in (
        seen.0,
        record {
          at = length-append taken m.taken ∙ sym (ap (λ (n : ℕ). n + length m.taken) h.bytes) ∙ sym m.counts ∙ m.answers.at;
          front = seen.1.0;
          last = seen.1.1;
          parts = seen.1.2;
          no_line = seen.1.3;
        },
      )

  was_going : NextMeets old new s1 s2 (Err errors.Memory) → old.phase ≡ phases.Going
  was_going m = failed_going old new m.answers.0 (stays_same old new s1 s2 m.stays) (open_phase h.stands)

  pub going_at : (error : ReadError) → NextMeets old new s1 s2 (Err error) → old.phase ≡ phases.Going
  going_at errors.ReadFault m = m.answers.going
  going_at errors.TooLong m = (is_too_long m).0
  going_at errors.Memory m = was_going m

  by_error : (error : ReadError) (m : NextMeets old new s1 s2 (Err error))
      → Stops s0 s2 (input_split (taken ++ m.taken) lines (old.kept ++ m.taken)) (end_of_read error new.taken)
  by_error errors.ReadFault m = record {
    takes = takes_on h m.answers.going m;
    ends = is_read_fault m;
    reads = none_then_last h.reads (record { faults = m.faults; failed = m.failed });
  }
  by_error errors.TooLong m =
      let long = is_too_long m in
      record { takes = takes_on h long.0 m; ends = long.1; reads = none_then_none h.reads (record { faults = m.faults; failed = m.failed }) }
  by_error errors.Memory m =
      record { takes = takes_on h (was_going m) m; ends = tt; reads = none_then_none h.reads (record { faults = m.faults; failed = m.failed }) }

  -- no line could be handed out
  pub stops_at : (end : InputEnd) (s : StopsReading old new s1 s2 end)
      → Stops s0 s2 (input_split (taken ++ s.meets.taken) lines (old.kept ++ s.meets.taken)) end
  stops_at end s =
      subst (λ (e : InputEnd). Stops s0 s2 (input_split (taken ++ s.meets.taken) lines (old.kept ++ s.meets.taken)) e) (sym s.same) (by_error s.error s.meets)

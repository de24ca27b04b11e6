-- The lines that a reader hands out are the lines of the bytes that it took.
use Rattle.std.proofs.Common.{◌≡◌, ◌⊎◌, inl, inr, ℕ, ◌+◌, List, [], ◌∷◌, ◌++◌, length, Option, Some, None, Result, Ok, Err, refl, sym, ap, ◌∙◌, subst, arith, append_assoc, append-nil}
use Rattle.std.proofs.lemmas.List.{length-append, map-append, nil_from_length}
use Rattle.std.specs.Io.KnownBytes.{IsAtEnd}
use Rattle.gnb_base.specs.declared.lines.Line.{Line}
use Rattle.gnb_base.specs.declared.lines.ReadPhase.{ReadPhase}
use Rattle.gnb_base.specs.declared.lines.ReadPhase.TheVariants.{Going, Ended, TooLong, Failed}
use Rattle.gnb_base.specs.declared.lines.ReadError.{ReadError}
use Rattle.gnb_base.specs.declared.lines.ReadError.TheVariants as errors
use Rattle.gnb_base.specs.Outside.{SourceAt}
use Rattle.gnb_base.specs.Lines.{line_feed, lines_of, HasNoLf}
use Rattle.gnb_base.specs.Reading.{Reading, IsUntouched, fresh, EndsInLf, EndsInput, NextMeets}
use Rattle.gnb_base.specs.Handing.{Call, line_in, texts, lines_handed_out, Run, Progress}
use Rattle.gnb_base.proofs.LinesOf.{lines_of-line, lines_of-last}

pub handed_none : Progress fresh [] []
handed_none = record { going = λ _ more. refl; ended = λ (e : Going ≡ Ended). (cc); bytes = refl; count = λ _. refl }

-- two phases that differ
not_both : (r : Reading) (P : Type 0) → r.phase ≡ Ended → r.phase ≡ Going → P
not_both r P ended going = let e : Ended ≡ Going = sym ended ∙ going in absurd (cc)

-- bytes taken further on
taken_more : (old : Reading) (taken more rest : List ℕ) (lines : List (List ℕ)) → Progress old taken lines → old.phase ≡ Going
    → lines_of ((taken ++ more) ++ rest) ≡ lines ++ lines_of ((old.kept ++ more) ++ rest)
taken_more old taken more rest lines h going =
    ap lines_of (append_assoc taken more rest) ∙ h.going going (more ++ rest)
    ∙ ap (λ (xs : List ℕ). lines ++ lines_of xs) (sym (append_assoc old.kept more rest))

line_goes : (old new : Reading) (left : Option (List ℕ)) (taken more rest text : List ℕ) (lines : List (List ℕ)) → Progress old taken lines
    → old.phase ≡ Going → HasNoLf text
    → EndsInLf old new more text ⊎ EndsInput old new left more text → new.phase ≡ Going
    → lines_of ((taken ++ more) ++ rest) ≡ (lines ++ text ∷ []) ++ lines_of (new.kept ++ rest)
line_goes old new left taken more rest text lines h going without_lf (inl e) on =
    taken_more old taken more rest lines h going
    ∙ ap (λ (xs : List ℕ). lines ++ lines_of (xs ++ rest)) e.split
    ∙ ap (λ (xs : List ℕ). lines ++ lines_of xs) (append_assoc text (line_feed ∷ new.kept) rest)
    ∙ ap (λ (ls : List (List ℕ)). lines ++ ls) (lines_of-line text (new.kept ++ rest) without_lf)
    ∙ sym (append_assoc lines (text ∷ []) (lines_of (new.kept ++ rest)))
line_goes old new left taken more rest text lines h going without_lf (inr e) on = not_both new _ e.phase on

line_ends : (old new : Reading) (left : Option (List ℕ)) (taken more text : List ℕ) (lines : List (List ℕ)) → Progress old taken lines
    → old.phase ≡ Going → HasNoLf text
    → EndsInLf old new more text ⊎ EndsInput old new left more text → new.phase ≡ Ended → lines_of (taken ++ more) ≡ lines ++ text ∷ []
line_ends old new left taken more text lines h going without_lf (inl e) at_end = not_both new _ at_end e.phase
line_ends old new left taken more text lines h going without_lf (inr e) at_end =
    ap lines_of (sym (append-nil (taken ++ more))) ∙ taken_more old taken more [] lines h going
    ∙ ap (λ (xs : List ℕ). lines ++ lines_of xs) (append-nil (old.kept ++ more) ∙ e.whole)
    ∙ ap (λ (ls : List (List ℕ)). lines ++ ls) (lines_of-last text without_lf e.some)

done_ends : (old : Reading) (left : Option (List ℕ)) (taken more : List ℕ) (lines : List (List ℕ)) → Progress old taken lines
    → old.kept ++ more ≡ []
    → ((old.phase ≡ Going) × IsAtEnd left) ⊎ (old.phase ≡ Ended) → lines_of (taken ++ more) ≡ lines
done_ends old left taken more lines h nothing (inl (going, end)) =
    ap lines_of (sym (append-nil (taken ++ more))) ∙ taken_more old taken more [] lines h going
    ∙ ap (λ (xs : List ℕ). lines ++ lines_of xs) (append-nil (old.kept ++ more) ∙ nothing) ∙ append-nil lines
done_ends old left taken more lines h nothing (inr ended) =
    let none : more ≡ [] = nil_from_length more (omega (arith, ap length nothing, length-append old.kept more)) in
    ap (λ (xs : List ℕ). lines_of (taken ++ xs)) none ∙ ap lines_of (append-nil taken) ∙ h.ended ended

-- one call
module _ (old new : Reading) (before after : SourceAt) (taken : List ℕ) (lines : List (List ℕ)) (h : Progress old taken lines) where
  bytes_taken : (more : List ℕ) → new.taken ≡ old.taken + length more → length (taken ++ more) ≡ new.taken
  bytes_taken more counts = omega (arith, length-append taken more, h.bytes, counts)

  pub handed_line : (line : Line) (m : NextMeets old new before after (Ok (Some line)))
      → Progress new (taken ++ m.taken) (lines ++ line.text ∷ [])
  handed_line line m =
      record {
        going = λ on rest. line_goes old new after.left taken m.taken rest line.text lines h m.answers.going m.answers.without_lf m.answers.ends on;
        ended = λ at_end. line_ends old new after.left taken m.taken line.text lines h m.answers.going m.answers.without_lf m.answers.ends at_end;
        bytes = bytes_taken m.taken m.counts;
        count = λ _. omega (arith, length-append lines (line.text ∷ []), h.count m.answers.going, m.answers.number, m.answers.lines);
      }

  pub handed_done : (m : NextMeets old new before after (Ok None)) → Progress new (taken ++ m.taken) lines
  handed_done m =
      record {
        going = λ on rest. not_both new _ m.answers.phase on;
        ended = λ _. done_ends old after.left taken m.taken lines h m.answers.nothing m.answers.seen;
        bytes = bytes_taken m.taken m.counts;
        count = λ on. not_both new _ m.answers.phase on;
      }

  pub handed_fault : (m : NextMeets old new before after (Err errors.ReadFault)) → Progress new (taken ++ m.taken) lines
  handed_fault m =
      record {
        going = λ _ rest. taken_more old taken m.taken rest lines h m.answers.going
            ∙ ap (λ (xs : List ℕ). lines ++ lines_of (xs ++ rest)) (sym m.answers.kept);
        ended = λ at_end. not_both new _ at_end m.answers.phase;
        bytes = bytes_taken m.taken m.counts;
        count = λ _. h.count m.answers.going ∙ sym m.answers.lines;
      }

  -- a reader that neither goes on nor is at the end
  stopped : (more : List ℕ) (phase : ReadPhase) → new.phase ≡ phase → (phase ≡ Going → ⊥) → (phase ≡ Ended → ⊥)
      → new.taken ≡ old.taken + length more → Progress new (taken ++ more) lines
  stopped more phase is not_going not_ended counts =
      record {
        going = λ on rest. absurd (not_going (sym is ∙ on));
        ended = λ at_end. absurd (not_ended (sym is ∙ at_end));
        bytes = bytes_taken more counts;
        count = λ on. absurd (not_going (sym is ∙ on));
      }

  pub handed_call : (result : Result (Option Line) ReadError) (m : NextMeets old new before after result)
      → Progress new (taken ++ m.taken) (lines ++ texts (line_in result))
  handed_call (Ok (Some line)) m = handed_line line m
  handed_call (Ok None) m = subst (Progress new (taken ++ m.taken)) (sym (append-nil lines)) (handed_done m)
  handed_call (Err errors.ReadFault) m = subst (Progress new (taken ++ m.taken)) (sym (append-nil lines)) (handed_fault m)
  handed_call (Err errors.TooLong) m =
      subst (Progress new (taken ++ m.taken)) (sym (append-nil lines)) (stopped m.taken TooLong m.answers.phase (λ (e : TooLong ≡ Going). (cc)) (λ (e : TooLong ≡ Ended). (cc)) m.counts)
  handed_call (Err errors.Memory) m =
      subst (Progress new (taken ++ m.taken)) (sym (append-nil lines)) (stopped m.taken Failed m.answers.0 (λ (e : Failed ≡ Going). (cc)) (λ (e : Failed ≡ Ended). (cc)) m.counts)

-- nothing is left of the source at the end, where an earlier end was of the same source
pub done_at_end : (old new : Reading) (before after : SourceAt) (m : NextMeets old new before after (Ok None))
    → (old.phase ≡ Ended → IsAtEnd before.left) → IsAtEnd after.left
done_at_end old new before after m earlier = by m.answers.seen m.stays
  where
    by : ((old.phase ≡ Going) × IsAtEnd after.left) ⊎ (old.phase ≡ Ended) → (old.phase ≡ Going) ⊎ IsUntouched old new before after
        → IsAtEnd after.left
    by (inl (going, end)) s = end
    by (inr ended) (inl going) = not_both old _ ended going
    by (inr ended) (inr same) = subst (λ (s : SourceAt). IsAtEnd s.left) (sym same.source) (earlier ended)

-- all calls
pub handed_run : (old new : Reading) (calls : List Call) (taken first : List ℕ) (lines : List (List ℕ)) → Progress old first lines
    → Run old calls taken new
    → Progress new (first ++ taken) (lines ++ texts (lines_handed_out calls))
handed_run old new [] taken first lines h (none, same) =
    let bytes : first ≡ first ++ taken = sym (append-nil first) ∙ ap (λ (xs : List ℕ). first ++ xs) (sym none) in
    subst (λ (ls : List (List ℕ)). Progress new (first ++ taken) ls) (sym (append-nil lines))
    (subst (λ (xs : List ℕ). Progress new xs lines) bytes (subst (λ (r : Reading). Progress r first lines) (sym same) h))
handed_run old new (c ∷ calls) taken first lines h (mid, m, rest, split, more) =
    let further = handed_run mid new calls rest (first ++ m.taken) (lines ++ texts (line_in c.result))
    (handed_call old mid c.before c.after first lines h c.result m) more in
    let bytes : (first ++ m.taken) ++ rest ≡ first ++ taken = append_assoc first m.taken rest
    ∙ ap (λ (xs : List ℕ). first ++ xs) (sym split) in
    let all : (lines ++ texts (line_in c.result)) ++ texts (lines_handed_out calls) ≡ lines ++ texts (lines_handed_out (c ∷ calls)) =
    append_assoc lines (texts (line_in c.result)) (texts (lines_handed_out calls))
    ∙ ap (λ (ls : List (List ℕ)). lines ++ ls) (sym (map-append (λ (l : Line). l.text) (line_in c.result) (lines_handed_out calls))) in
    subst (λ (ls : List (List ℕ)). Progress new (first ++ taken) ls) all
    (subst (λ (xs : List ℕ). Progress new xs ((lines ++ texts (line_in c.result)) ++ texts (lines_handed_out calls))) bytes further)

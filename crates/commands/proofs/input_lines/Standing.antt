-- The lines that a reader hands out of the bytes that it takes.
use Rattle.std.proofs.Common.{◌≡◌, ◌≤◌, ◌<◌, ◌⊎◌, ℕ, ◌+◌, List, [], ◌∷◌, ◌++◌, length, Option, Some, None, Ok, refl, sym, ap, ◌∙◌, subst, inl, inr, append_assoc, append-nil, length-append, arith}
use Rattle.std.proofs.lemmas.Grind.{flat_map-append}
use Rattle.std.proofs.KnownBytes.{Consumes-nil, Consumes-trans}
use Rattle.std.specs.List.{AllByRecursion}
use Rattle.std.specs.Io.KnownBytes.{Consumes, IsAtEnd}
use Rattle.gnb_base.specs.declared.lines.Line.{Line}
use Rattle.gnb_base.specs.declared.lines.ReadPhase.TheVariants.{Going, Ended}
use Rattle.gnb_base.specs.Lines.{line_feed, HasNoLf, past_line}
use Rattle.gnb_base.specs.Outside.{SourceAt}
use Rattle.gnb_base.specs.Reading.{Reading, fresh, piece_size, NextMeets, EndsInLf, EndsInput}
use Rattle.command_defs.specs.input_defs.Split.{InputSplit, input_split, left_of, rest_of, joined, Divides, Whole, Bare, TakesInput}
use Rattle.command_defs.specs.input_defs.Ends.{ComesNext, WithLf, AsLast}
use Rattle.command_defs.specs.input_defs.Standing.{split_of, Stands, Within, AtEnd, StandsAfter}
use Rattle.commands.proofs.input_lines.Sources.{at_end_of, end_stays, none_failed, none_then_none}

-- ---- lines of bytes

pub both_nil : (a b : List ℕ) → a ++ b ≡ [] → (a ≡ []) × (b ≡ [])
both_nil [] b h = (refl, h)
both_nil (x ∷ a) b h = absurd (cc)

pub each_more : (P : List ℕ → Type 0) (lines : List (List ℕ)) (line : List ℕ) → AllByRecursion P lines → P line
    → AllByRecursion P (lines ++ line ∷ [])
each_more P [] line h k = (k, tt)
each_more P (first ∷ lines) line h k = (h.0, each_more P lines line h.1 k)

-- past the first line no more bytes are than in all
pub past_line-le : (bytes : List ℕ) → length (past_line bytes) ≤ length bytes
past_line-le [] = omega arith
past_line-le (byte ∷ bytes) = let more = past_line-le bytes in grind arith

-- the bytes after whole lines
pub bytes_more : (taken more kept new : List ℕ) (lines : List (List ℕ)) → taken ≡ joined lines ++ kept → kept ++ more ≡ new
    → taken ++ more ≡ joined lines ++ new
bytes_more taken more kept new lines e f = ap (λ ys. ys ++ more) e ∙ append_assoc (joined lines) kept more ∙ ap (λ ys. joined lines ++ ys) f

pub joined-more : (lines : List (List ℕ)) (line : List ℕ) → joined (lines ++ line ∷ []) ≡ joined lines ++ (line ++ line_feed ∷ [])
joined-more lines line =
    flat_map-append (λ (l : List ℕ). l ++ line_feed ∷ []) lines (line ∷ [])
    ∙ ap (λ ys. joined lines ++ ys) (append-nil (line ++ line_feed ∷ []))

pub line_more : (lines : List (List ℕ)) (line rest : List ℕ)
    → joined lines ++ (line ++ line_feed ∷ rest) ≡ joined (lines ++ line ∷ []) ++ rest
line_more lines line rest =
    sym (ap (λ ys. ys ++ rest) (joined-more lines line) ∙ append_assoc (joined lines) (line ++ line_feed ∷ []) rest
    ∙ ap (λ ys. joined lines ++ ys) (append_assoc line (line_feed ∷ []) rest))

-- ---- where a reader stands

pub stands_first : (s : SourceAt) → StandsAfter s s fresh [] []
stands_first s = record {
  consumes = Consumes-nil s.left;
  each = tt;
  stands = Within refl refl;
  bytes = refl;
  count = refl;
  few = omega arith;
  reads = none_failed s;
}

pub divides_of : {left : Option (List ℕ)} {reading : Reading} {taken : List ℕ} {lines : List (List ℕ)} → Stands left reading taken lines
    → Divides left (split_of reading taken lines)
divides_of (Within going e) = Whole e
divides_of (AtEnd ended none at_end divides) = divides

pub within : {left : Option (List ℕ)} {reading : Reading} {taken : List ℕ} {lines : List (List ℕ)} → reading.phase ≡ Going
    → Stands left reading taken lines → taken ≡ joined lines ++ reading.kept
within going (Within same e) = e
within going (AtEnd ended none at_end divides) = absurd (cc)

pub takes_of : {s0 s1 : SourceAt} {reading : Reading} {taken : List ℕ} {lines : List (List ℕ)} → StandsAfter s0 s1 reading taken lines
    → TakesInput s0 s1 (split_of reading taken lines)
takes_of {reading = reading} h =
    record { consumes = h.consumes; divides = divides_of h.stands; each = h.each; lazy = omega (arith, past_line-le reading.kept, h.few) }

-- ---- a line is handed out

next_stands : (s0 : SourceAt) (left left1 : Option (List ℕ)) (old new : Reading) (taken more text : List ℕ) (lines : List (List ℕ))
    → taken ≡ joined lines ++ old.kept
    → EndsInLf old new more text ⊎ EndsInput old new left1 more text
    → Stands (left_of s0.left left1) new (taken ++ more) (lines ++ text ∷ [])
next_stands s0 left left1 old new taken more text lines e (inl ends) =
    Within ends.phase (bytes_more taken more old.kept _ lines e ends.split ∙ line_more lines text new.kept)
next_stands s0 left left1 old new taken more text lines e (inr ends) =
    AtEnd ends.phase ends.kept (at_end_of s0.left left1 ends.at_end)
    (Bare lines text refl ends.some (bytes_more taken more old.kept _ lines e ends.whole) ends.kept (at_end_of s0.left left1 ends.at_end))

pub line_stands : {s0 s1 s2 : SourceAt} {old new : Reading} {taken : List ℕ} {lines : List (List ℕ)} (line : Line)
    → StandsAfter s0 s1 old taken lines
    → (m : NextMeets old new s1 s2 (Ok (Some line))) → StandsAfter s0 s2 new (taken ++ m.taken) (lines ++ line.text ∷ [])
line_stands {s0 = s0} {s1 = s1} {s2 = s2} {old = old} {new = new} {taken = taken} {lines = lines} line h m = record {
  consumes = Consumes-trans s0.left s1.left s2.left taken m.taken h.consumes m.consumes;
  each = each_more HasNoLf lines line.text h.each m.answers.without_lf;
  stands = next_stands s0 s1.left s2.left old new taken m.taken line.text lines (within m.answers.going h.stands) m.answers.ends;
  bytes = m.counts ∙ ap (λ (n : ℕ). n + length m.taken) h.bytes ∙ sym (length-append taken m.taken);
  count = m.answers.lines ∙ m.answers.number ∙ ap (λ (n : ℕ). n + 1) h.count ∙ sym (length-append lines (line.text ∷ []));
  few = m.answers.few;
  reads = none_then_none h.reads (record { faults = m.faults; failed = m.failed });
}

by_ends : (s0 : SourceAt) (left : Option (List ℕ)) (old new : Reading) (more text : List ℕ) → length new.kept < piece_size → HasNoLf text
    → EndsInLf old new more text ⊎ EndsInput old new left more text → ComesNext (left_of s0.left left) (old.kept ++ more) text
by_ends s0 left old new more text few one (inl ends) = record { without_lf = one; next = WithLf new.kept ends.split few }
by_ends s0 left old new more text few one (inr ends) =
    record { without_lf = one; next = AsLast ends.whole ends.some (at_end_of s0.left left ends.at_end) }

-- the line that comes next, before it is handed out
pub comes_next : (s0 : SourceAt) {s1 s2 : SourceAt} {old new : Reading} (line : Line) (m : NextMeets old new s1 s2 (Ok (Some line)))
    → ComesNext (rest_of s0 s2) (old.kept ++ m.taken) line.text
comes_next s0 {s2 = s2} {old = old} {new = new} line m =
    by_ends s0 s2.left old new m.taken line.text m.answers.few m.answers.without_lf m.answers.ends

-- ---- the end of the input

pub record StandsAtEnd (before after : SourceAt) (taken : List ℕ) (lines : List (List ℕ)) : Type 0 where
  pub takes : TakesInput before after (input_split taken lines [])
  pub at_end : IsAtEnd (rest_of before after)

divides_still : (left left1 : Option (List ℕ)) (split : InputSplit) (lines : List (List ℕ)) → (IsAtEnd left → IsAtEnd left1)
    → Divides left split → Divides left1 split
divides_still left left1 split lines f (Whole e) = Whole e
divides_still left left1 split lines f (Bare front last e some bytes none at_end) = Bare front last e some bytes none (f at_end)

no_lines : length (past_line []) < piece_size
no_lines = omega arith

end_by_stand : (s0 s1 s2 : SourceAt) (old : Reading) (taken more : List ℕ) (lines : List (List ℕ)) → StandsAfter s0 s1 old taken lines
    → Consumes s1.left s2.left more → old.kept ≡ [] → more ≡ [] → Stands (rest_of s0 s1) old taken lines
    → ((old.phase ≡ Going) × IsAtEnd s2.left) ⊎ (old.phase ≡ Ended) → StandsAtEnd s0 s2 (taken ++ more) lines
end_by_stand s0 s1 s2 old taken more lines h k none nothing (Within going e) (inl seen) = record {
  takes = record {
    consumes = Consumes-trans s0.left s1.left s2.left taken more h.consumes k;
    divides = Whole (bytes_more taken more old.kept [] lines e (ap (λ ys. ys ++ more) none ∙ nothing));
    each = h.each;
    lazy = no_lines;
  };
  at_end = at_end_of s0.left s2.left seen.1;
}
end_by_stand s0 s1 s2 old taken more lines h k none nothing (Within going e) (inr seen) = absurd (cc)
end_by_stand s0 s1 s2 old taken more lines h k none nothing (AtEnd ended same at_end divides) seen =
    let k0 = subst (λ (ys : List ℕ). Consumes s1.left s2.left ys) nothing k in
    record {
      takes = record {
        consumes = Consumes-trans s0.left s1.left s2.left taken more h.consumes k;
        divides = subst (λ (ys : List ℕ). Divides (rest_of s0 s2) (input_split ys lines [])) (sym (ap (λ ys. taken ++ ys) nothing ∙ append-nil taken))
            (divides_still _ _ (input_split taken lines []) lines (end_stays s0.left s1.left s2.left taken h.consumes k0)
            (subst (λ (kept : List ℕ). Divides (rest_of s0 s1) (input_split taken lines kept)) same divides));
        each = h.each;
        lazy = no_lines;
      };
      at_end = end_stays s0.left s1.left s2.left taken h.consumes k0 at_end;
    }

pub ends_at : {s0 s1 s2 : SourceAt} {old new : Reading} {taken : List ℕ} {lines : List (List ℕ)} → StandsAfter s0 s1 old taken lines
    → (m : NextMeets old new s1 s2 (Ok None)) → StandsAtEnd s0 s2 (taken ++ m.taken) lines
ends_at {s0 = s0} {s1 = s1} {s2 = s2} {old = old} {taken = taken} {lines = lines} h m =
    let none = both_nil old.kept m.taken m.answers.nothing in
    end_by_stand s0 s1 s2 old taken m.taken lines h m.consumes none.0 none.1 h.stands m.answers.seen

-- and the reader stands at the end
pub end_stands : {s0 s1 s2 : SourceAt} {old new : Reading} {taken : List ℕ} {lines : List (List ℕ)} → StandsAfter s0 s1 old taken lines
    → (m : NextMeets old new s1 s2 (Ok None)) → StandsAfter s0 s2 new (taken ++ m.taken) lines
end_stands {s0 = s0} {s2 = s2} {new = new} {taken = taken} {lines = lines} h m =
    let end = ends_at h m in
    record {
      consumes = end.takes.consumes;
      each = h.each;
      stands = AtEnd m.answers.phase m.answers.kept end.at_end
          (subst (λ (kept : List ℕ). Divides (rest_of s0 s2) (input_split (taken ++ m.taken) lines kept)) (sym m.answers.kept) end.takes.divides);
      bytes = m.counts ∙ ap (λ (n : ℕ). n + length m.taken) h.bytes ∙ sym (length-append taken m.taken);
      count = m.answers.lines ∙ h.count;
      few = subst (λ (kept : List ℕ). length kept < piece_size) (sym m.answers.kept) no_lines;
      reads = none_then_none h.reads (record { faults = m.faults; failed = m.failed });
    }

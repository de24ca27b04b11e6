-- What a line reader's steps do, at each of their exits.
use Rattle.std.proofs.Common.{◌≡◌, ◌≢◌, ℕ, ◌+◌, ◌-◌, ◌<◌, ◌≤◌, Bool, true, false, List, [], ◌∷◌, ◌++◌, length, get_or, take, drop, Option, Some, None, is_some, MatchOption, MatchBool, Result, Ok, Err, refl, sym, ap, ◌∙◌, subst, arith, append_assoc, append-nil, nat_lt, ltb-true, ltb-false}
use Rattle.std.proofs.lemmas.List.{length-append, length-take, length-drop, drop-drop, drop-take, drop_more, take-append-drop}
use Rattle.std.specs.Io.KnownBytes.{Consumes, IsAtEnd, Keeps}
use Rattle.gnb_base.specs.declared.lines.LineReader.TheInside.{Inside}
use Rattle.gnb_base.specs.declared.lines.Line.{Line}
use Rattle.gnb_base.specs.declared.lines.ReadPhase.{ReadPhase}
use Rattle.gnb_base.specs.declared.lines.ReadPhase.TheVariants.{Going, Ended, TooLong}
use Rattle.gnb_base.specs.declared.lines.ReadError.{ReadError}
use Rattle.gnb_base.specs.declared.lines.ReadError.TheVariants as errors
use Rattle.gnb_base.specs.Outside.{SourceAt, one_more, Rose}
use Rattle.gnb_base.specs.Lines.{line_feed, HasNoLf, IsFirstLf, past_line}
use Rattle.gnb_base.specs.Reading.{Reading, CountsReadFault, FailsLast, input_limit, piece_size}
use Rattle.gnb_base.specs.LineReader.{reading_of, PhaseFits, IsSound, TakesOff, TakesRest, Reads, ReadsMore}
use Rattle.gnb_base.proofs.LineLemmas.{HasNoLf-append, first_lf_is_one, few_after}

-- what wasn't looked at of the last piece
abbrev pub rest_of : Inside → List ℕ
rest_of r = take (r.stop - r.start) (drop r.start r.piece.items)

pub rest_length : (r : Inside) → IsSound r → length (rest_of r) ≡ r.stop - r.start
rest_length r sound = omega (arith, length-take (r.stop - r.start) (drop r.start r.piece.items), length-drop r.start r.piece.items)

pub kept_length : (r : Inside) → IsSound r → length (reading_of r).kept ≡ length r.begun.items + (r.stop - r.start)
kept_length r sound = omega (arith, length-append r.begun.items (rest_of r), rest_length r sound)

pub some_length : (xs : List ℕ) → xs ≢ [] → 0 < length xs
some_length [] h = absurd (h refl)
some_length (x ∷ xs) h = omega arith

-- of the kept bytes, those after the first line are less than a piece
pub kept_few : (r : Inside) (old : Reading) → reading_of r ≡ old → IsSound r → length (past_line old.kept) < piece_size
kept_few r old is sound =
    subst (λ (o : Reading). length (past_line o.kept) < piece_size) is
    (few_after r.begun.items (rest_of r) sound.begun (omega (arith, rest_length r sound, sound.room)))

-- what a sound reader that goes on has taken
pub going_within : (r : Inside) (old : Reading) → reading_of r ≡ old → IsSound r → old.phase ≡ Going → r.taken ≤ input_limit
going_within r old is sound going =
    let phase : r.phase ≡ Going = ap (λ (o : Reading). o.phase) is ∙ going in
    subst (λ (p : ReadPhase). PhaseFits p (reading_of r)) phase sound.phased

pub last_taken : (r : Inside) (old new : Reading) (line : Line) → reading_of r ≡ old → IsSound r → old.phase ≡ Going
    → line.text ≡ (reading_of r).kept → line.text ≢ [] → line.number ≡ r.lines + 1
    → new.lines ≡ line.number → new.kept ≡ [] → new.taken ≡ r.taken → new.phase ≡ Ended → TakesRest old new line
last_taken r old new line is sound going text some number lines kept taken phase =
    let within = going_within r old is sound going in
    let long : 0 < length (reading_of r).kept = omega (arith, some_length line.text some, ap length text) in
    record {
      text = text ∙ ap (λ (o : Reading). o.kept) is;
      some = some;
      number = number ∙ ap (λ (o : Reading). o.lines + 1) is;
      lines = lines;
      kept = kept;
      taken = taken ∙ ap (λ (o : Reading). o.taken) is;
      phase = phase;
      counted = omega (arith, kept_length r sound, sound.counted);
      within = omega arith;
    }

-- a list around one of its places
parted : (xs : List ℕ) (i : ℕ) → i < length xs → xs ≡ take i xs ++ get_or xs i 0 ∷ drop (i + 1) xs
parted xs i h = sym (take-append-drop i xs) ∙ ap (λ (ys : List ℕ). take i xs ++ ys) (drop_more xs i 0 h)

-- the rest after a place of it
rest_after : (r : Inside) (i : ℕ) → i < r.stop - r.start
    → drop (i + 1) (rest_of r) ≡ take (r.stop - (r.start + (i + 1))) (drop (r.start + (i + 1)) r.piece.items)
rest_after r i h =
    let m = r.stop - (r.start + (i + 1)) in
    let size : r.stop - r.start ≡ (i + 1) + m = omega arith in
    ap (λ (n : ℕ). drop (i + 1) (take n (drop r.start r.piece.items))) size
    ∙ drop-take (i + 1) m (drop r.start r.piece.items) ∙ ap (take m) (drop-drop (i + 1) r.start r.piece.items)

pub line_taken : (r : Inside) (old new : Reading) (line : Line) (i : ℕ) → reading_of r ≡ old → IsSound r → old.phase ≡ Going
    → IsFirstLf (rest_of r) i → line.text ≡ r.begun.items ++ take i (rest_of r) → line.number ≡ r.lines + 1
    → new.lines ≡ line.number → new.kept ≡ take (r.stop - (r.start + (i + 1))) (drop (r.start + (i + 1)) r.piece.items)
    → new.taken ≡ r.taken → new.phase ≡ Going → TakesOff old new line
line_taken r old new line i is sound going lf text number lines kept taken phase =
    let within = going_within r old is sound going in
    let inside : i < r.stop - r.start = omega (arith, lf.in_range, rest_length r sound) in
    let shorter : length new.kept < piece_size =
    omega (arith, ap length kept, length-take (r.stop - (r.start + (i + 1))) (drop (r.start + (i + 1)) r.piece.items), sound.room) in
    let whole : rest_of r ≡ take i (rest_of r) ++ line_feed ∷ new.kept =
    parted (rest_of r) i lf.in_range
    ∙ ap (λ (b : ℕ). take i (rest_of r) ++ b ∷ drop (i + 1) (rest_of r)) lf.here
    ∙ ap (λ (ys : List ℕ). take i (rest_of r) ++ line_feed ∷ ys) (rest_after r i inside ∙ sym kept) in
    record {
      split = sym (ap (λ (o : Reading). o.kept) is) ∙ ap (λ (ys : List ℕ). r.begun.items ++ ys) whole
          ∙ sym (append_assoc r.begun.items (take i (rest_of r)) (line_feed ∷ new.kept))
          ∙ ap (λ (ys : List ℕ). ys ++ line_feed ∷ new.kept) (sym text);
      without_lf = subst HasNoLf (sym text) (HasNoLf-append r.begun.items (take i (rest_of r)) sound.begun lf.before);
      number = number ∙ ap (λ (o : Reading). o.lines + 1) is;
      lines = lines;
      taken = taken ∙ ap (λ (o : Reading). o.taken) is;
      phase = phase;
      counted = omega (arith, sound.counted);
      within = omega arith;
      few = shorter;
    }

-- a reader whose last piece is used up keeps the begun line alone
pub nothing_left : (begun piece : List ℕ) (n : ℕ) → begun ++ take (n - n) (drop n piece) ≡ begun
nothing_left begun piece n =
    let none : n - n ≡ 0 = omega arith in
    ap (λ (k : ℕ). begun ++ take k (drop n piece)) none ∙ append-nil begun

-- the last piece may be read through another name
pub kept_without_lf : (r : Inside) (old : Reading) (piece : List ℕ) → reading_of r ≡ old → IsSound r → piece ≡ r.piece.items
    → HasNoLf (take (r.stop - r.start) (drop r.start piece)) → HasNoLf old.kept
kept_without_lf r old piece is sound same rest =
    subst (λ (o : Reading). HasNoLf o.kept) is
    (HasNoLf-append r.begun.items (rest_of r) sound.begun (subst (λ (p : List ℕ). HasNoLf (take (r.stop - r.start) (drop r.start p))) same rest))

pub same_first : (r : Inside) (piece : List ℕ) (i : ℕ) → piece ≡ r.piece.items → IsFirstLf (take (r.stop - r.start) (drop r.start piece)) i
    → IsFirstLf (rest_of r) i
same_first r piece i same lf = subst (λ (p : List ℕ). IsFirstLf (take (r.stop - r.start) (drop r.start p)) i) same lf

-- whether a line is kept, by what was found in the rest of the piece
pub line_kept : (r : Inside) (old : Reading) (piece : List ℕ) (found : Option ℕ) (b : Bool) → b ≡ is_some found → reading_of r ≡ old
    → IsSound r → piece ≡ r.piece.items
    → MatchOption found (HasNoLf (take (r.stop - r.start) (drop r.start piece))) (IsFirstLf (take (r.stop - r.start) (drop r.start piece)))
    → MatchBool b (HasNoLf old.kept → ⊥) (HasNoLf old.kept)
line_kept r old piece None b e is sound same none =
    subst (λ (x : Bool). MatchBool x (HasNoLf old.kept → ⊥) (HasNoLf old.kept)) (sym e) (kept_without_lf r old piece is sound same none)
line_kept r old piece (Some i) b e is sound same first =
    subst (λ (x : Bool). MatchBool x (HasNoLf old.kept → ⊥) (HasNoLf old.kept)) (sym e)
    (λ none. first_lf_is_one r.begun.items (rest_of r) i (same_first r piece i same first)
    (subst (λ (o : Reading). HasNoLf o.kept) (sym is) none))

pub phase_is : (r : Inside) (old : Reading) → reading_of r ≡ old → old.phase ≡ Going → r.phase ≡ Going
phase_is r old is going = ap (λ (o : Reading). o.phase) is ∙ going

pub after_nothing : (xs ys : List ℕ) → xs ≡ [] → xs ++ ys ≡ ys
after_nothing xs ys e = ap (λ (zs : List ℕ). zs ++ ys) e

Consumes-none : (a b : Option (List ℕ)) → Keeps a b → Consumes a b []
Consumes-none None b h = tt
Consumes-none (Some xs) None h = h
Consumes-none (Some xs) (Some ys) h = sym h

-- the kept bytes, moved together after the begun line
pub gathered : (r : Inside) (old : Reading) (items piece : List ℕ) → reading_of r ≡ old → piece ≡ r.piece.items
    → items ≡ r.begun.items ++ take (r.stop - r.start) (drop r.start piece) → items ≡ old.kept
gathered r old items piece is same e =
    e ∙ ap (λ (p : List ℕ). r.begun.items ++ take (r.stop - r.start) (drop r.start p)) same ∙ ap (λ (o : Reading). o.kept) is

-- and a front of a piece after them
pub more_kept : (items kept whole piece : List ℕ) (count : ℕ) → items ≡ kept → whole ≡ piece
    → items ++ take (count - 0) whole ≡ kept ++ take count piece
more_kept items kept whole piece count e same =
    let all : count - 0 ≡ count = omega arith in
    ap (λ (xs : List ℕ). xs ++ take (count - 0) whole) e
    ∙ ap (λ (n : ℕ). kept ++ take n whole) all ∙ ap (λ (p : List ℕ). kept ++ take count p) same

module _ (r : Inside) (old new : Reading) (before after : SourceAt) (is : reading_of r ≡ old) where
  pub read_failed : IsSound r → old.phase ≡ Going → new.kept ≡ old.kept → new.taken ≡ r.taken → new.lines ≡ r.lines → new.phase ≡ Going
      → Keeps before.left after.left → after.calls ≡ one_more before.calls → Rose before.faults after.faults → after.failed ≡ true
      → ReadsMore old new before after (Err errors.ReadFault)
  read_failed sound going kept taken lines phase keeps calls rose failed =
      let within = going_within r old is sound going in
      record {
        piece = [];
        consumes = Consumes-none before.left after.left keeps;
        calls = omega (arith, calls);
        faults = rose;
        failed = failed;
        kept = kept ∙ sym (append-nil old.kept);
        taken = omega (arith, taken, ap (λ (o : Reading). o.taken) is);
        lines = lines ∙ ap (λ (o : Reading). o.lines) is;
        fits = subst (λ (p : ReadPhase). PhaseFits p new) (sym phase) (omega (arith, taken, within));
        reads = (refl, phase);
      }

  -- a read that succeeded
  module _ (piece : List ℕ) (count : ℕ) (kept : new.kept ≡ old.kept ++ take count piece) (taken : new.taken ≡ r.taken + count) (lines : new.lines ≡ r.lines)
      (most : count ≤ length piece) (consumes : Consumes before.left after.left (take count piece)) (calls : after.calls ≡ one_more before.calls) where
    read_done : (result : Result Bool ReadError) → CountsReadFault before.faults after.faults result
        → FailsLast before.failed after.failed result
        → PhaseFits new.phase new → Reads new after.left (take count piece) result → ReadsMore old new before after result
    read_done result faults failed phased reads =
        record {
          piece = take count piece;
          consumes = consumes;
          calls = omega (arith, calls);
          faults = faults;
          failed = failed;
          kept = kept;
          taken = omega (arith, taken, ap (λ (o : Reading). o.taken) is, length-take count piece);
          lines = lines ∙ ap (λ (o : Reading). o.lines) is;
          fits = phased;
          reads = reads;
        }

    not_failed : after.failed ≡ false → after.failed ≡ true → before.failed ≡ true
    not_failed ok failed = let e : false ≡ true = sym ok ∙ failed in absurd (cc)

    -- whether bytes came
    came : (wanted : ℕ) (test : Bool) → new.phase ≡ Going → 0 < wanted → (count ≡ 0 → 0 < wanted → IsAtEnd after.left)
        → test ≡ nat_lt 0 count
        → Reads new after.left (take count piece) (Ok test)
    came wanted true phase asked end tested =
        let some : 0 < count = omega (arith, ltb-true 0 count (sym tested)) in
        (omega (arith, length-take count piece, most), phase)
    came wanted false phase asked end tested =
        let none : count ≡ 0 = omega (arith, ltb-false 0 count (sym tested)) in
        (ap (λ (n : ℕ). take n piece) none, phase, end none asked)

    pub read_ok : (wanted : ℕ) → new.phase ≡ Going → (count ≡ 0 → 0 < wanted → IsAtEnd after.left) → 0 < wanted → new.taken ≤ input_limit
        → after.faults ≡ before.faults → after.failed ≡ false → ReadsMore old new before after (Ok (nat_lt 0 count))
    read_ok wanted phase end asked within faults ok =
        read_done (Ok (nat_lt 0 count)) faults (not_failed ok) (subst (λ (p : ReadPhase). PhaseFits p new) (sym phase) within)
        (came wanted (nat_lt 0 count) phase asked end refl)

    pub read_too_long : new.phase ≡ TooLong → (r.taken ≡ input_limit) × (count ≡ 1) → after.faults ≡ before.faults → after.failed ≡ false
        → ReadsMore old new before after (Err errors.TooLong)
    read_too_long phase one faults ok =
        let full : r.taken ≡ input_limit = one.0 in
        let single : count ≡ 1 = one.1 in
        read_done (Err errors.TooLong) faults (not_failed ok) (subst (λ (p : ReadPhase). PhaseFits p new) (sym phase) (omega (arith, taken)))
        (omega (arith, length-take count piece, most), phase)

-- only the byte after the limit leads past it
pub one_too_many : (taken count wanted : ℕ) → taken ≤ input_limit → count ≤ wanted → (taken < input_limit → taken + wanted ≤ input_limit)
    → (taken ≡ input_limit → wanted ≡ 1) → input_limit < taken + count → (taken ≡ input_limit) × (count ≡ 1)
one_too_many taken count wanted within most inside alone past = (grind arith, grind arith)

pub read_sound : (r n : Inside) (old : Reading) (count : ℕ) → reading_of r ≡ old → IsSound r → HasNoLf old.kept → n.begun.items ≡ old.kept
    → n.start ≡ 0 → n.stop ≡ count → length n.piece.items ≡ piece_size → count ≤ piece_size → n.taken ≡ r.taken + count → n.lines ≡ r.lines
    → PhaseFits n.phase (reading_of n) → IsSound n
read_sound r n old count is sound without_lf begun start stop size most taken lines phased =
    record {
      order = omega (arith, start);
      room = omega (arith, stop, most);
      size = size;
      begun = subst HasNoLf (sym begun) without_lf;
      counted = omega (arith, start, stop, taken, lines, ap length begun, ap (λ (o : Reading). length o.kept) is, kept_length r sound, sound.counted);
      phased = phased;
    }

pub going_fits : (phase : ReadPhase) (new : Reading) → phase ≡ Going → new.taken ≤ input_limit → PhaseFits phase new
going_fits phase new going within = subst (λ (p : ReadPhase). PhaseFits p new) (sym going) within

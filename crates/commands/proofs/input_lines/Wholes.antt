-- The lines of an input that reported its bytes, where all of it or a front of it was taken.
use Rattle.std.proofs.Common.{◌≡◌, ℕ, List, [], ◌∷◌, ◌++◌, Option, Some, None, refl, sym, ap, ◌∙◌, subst, append_assoc, append-nil}
use Rattle.std.specs.List.{AllByRecursion}
use Rattle.std.specs.Io.KnownBytes.{Consumes, IsAtEnd}
use Rattle.gnb_base.specs.Lines.{line_feed, HasNoLf, lines_of}
use Rattle.gnb_base.specs.Outside.{SourceAt}
use Rattle.gnb_base.proofs.LinesOf.{lines_of-line, lines_of-last}
use Rattle.command_defs.specs.input_defs.Split.{InputSplit, left_of, joined, Divides, Whole, Bare, TakesInput}
use Rattle.command_defs.specs.input_defs.Ends.{IsNext, WithLf, AsLast, ComesNext}

-- what was taken of these bytes
pub record TakesOf (input : List ℕ) (left : Option (List ℕ)) (split : InputSplit) : Type 0 where
  pub consumes : Consumes (Some input) left split.taken
  pub divides : Divides left split
  pub each : AllByRecursion HasNoLf split.lines

pub takes_known : {before after : SourceAt} {split : InputSplit} (input : List ℕ) → before.left ≡ Some input → TakesInput before after split
    → TakesOf input after.left split
takes_known {after = after} {split = split} input e h = record {
  consumes = subst (λ (left : Option (List ℕ)). Consumes left after.left split.taken) e h.consumes;
  divides = subst (λ (left : Option (List ℕ)). Divides (left_of left after.left) split) e h.divides;
  each = h.each;
}

-- lines with their LF stand at the front
pub lines_of-joined : (lines : List (List ℕ)) (rest : List ℕ) → AllByRecursion HasNoLf lines
    → lines_of (joined lines ++ rest) ≡ lines ++ lines_of rest
lines_of-joined [] rest h = refl
lines_of-joined (line ∷ lines) rest h =
    ap lines_of (append_assoc (line ++ line_feed ∷ []) (joined lines) rest ∙ append_assoc line (line_feed ∷ []) (joined lines ++ rest))
    ∙ lines_of-line line (joined lines ++ rest) h.0 ∙ ap (λ (ls : List (List ℕ)). line ∷ ls) (lines_of-joined lines rest h.1)

-- all that was taken
pub taken_is : (input taken : List ℕ) (left : Option (List ℕ)) → Consumes (Some input) left taken → IsAtEnd left → input ≡ taken
taken_is input taken None h e = absurd h
taken_is input taken (Some ys) h e = h ∙ ap (λ (bytes : List ℕ). taken ++ bytes) e ∙ append-nil taken

each_front : (P : List ℕ → Type 0) (front : List (List ℕ)) (last : List ℕ) → AllByRecursion P (front ++ last ∷ [])
    → AllByRecursion P front × P last
each_front P [] last h = (tt, h.0)
each_front P (line ∷ front) last h = let rest = each_front P front last h.1 in ((h.0, rest.0), rest.1)

by_division : {left : Option (List ℕ)} {split : InputSplit} → Divides left split → split.kept ≡ [] → AllByRecursion HasNoLf split.lines
    → lines_of split.taken ≡ split.lines
by_division {split = split} (Whole e) none h =
    ap lines_of (e ∙ ap (λ ys. joined split.lines ++ ys) none) ∙ lines_of-joined split.lines [] h ∙ append-nil split.lines
by_division (Bare front last e some bytes nothing at_end) none h =
    let parts = each_front HasNoLf front last (subst (λ (ls : List (List ℕ)). AllByRecursion HasNoLf ls) e h) in
    ap lines_of bytes ∙ lines_of-joined front last parts.0 ∙ ap (λ (ls : List (List ℕ)). front ++ ls) (lines_of-last last parts.1 some)
    ∙ sym e

-- where nothing is kept at the end, the lines are those of the input
pub all_lines : {input : List ℕ} {left : Option (List ℕ)} {split : InputSplit} → TakesOf input left split → split.kept ≡ [] → IsAtEnd left
    → lines_of input ≡ split.lines
all_lines {input = input} {left = left} {split = split} h none at_end =
    ap lines_of (taken_is input split.taken left h.consumes at_end) ∙ by_division h.divides none h.each

-- what comes next is a line of the input
pub record HasNext (input : List ℕ) (lines : List (List ℕ)) (line : List ℕ) : Type 0 where
  pub more : List (List ℕ)
  pub split : lines_of input ≡ lines ++ line ∷ more

some_after : (kept line rest : List ℕ) → kept ≡ line ++ line_feed ∷ rest → kept ≡ [] → ⊥
some_after kept [] rest e none = let clash : line_feed ∷ rest ≡ [] = sym e ∙ none in cc
some_after kept (byte ∷ line) rest e none = let clash : byte ∷ line ++ line_feed ∷ rest ≡ [] = sym e ∙ none in cc

pub some_next : {left : Option (List ℕ)} {kept line : List ℕ} → IsNext left kept line → kept ≡ [] → ⊥
some_next {kept = kept} {line = line} (WithLf rest e few) none = some_after kept line rest e none
some_next (AsLast e some at_end) none = some (sym e ∙ none)

next_in : (input taken kept : List ℕ) (left : Option (List ℕ)) (lines : List (List ℕ)) (line : List ℕ) → Consumes (Some input) left taken
    → taken ≡ joined lines ++ kept
    → AllByRecursion HasNoLf lines → HasNoLf line → IsNext left kept line → HasNext input lines line
next_in input taken kept None lines line h e each one next = absurd h
next_in input taken kept (Some ys) lines line h e each one (WithLf rest next few) = record {
  more = lines_of (rest ++ ys);
  split = ap lines_of (h ∙ ap (λ (bytes : List ℕ). bytes ++ ys) (e ∙ ap (λ (bytes : List ℕ). joined lines ++ bytes) next)
      ∙ append_assoc (joined lines) (line ++ line_feed ∷ rest) ys
      ∙ ap (λ (bytes : List ℕ). joined lines ++ bytes) (append_assoc line (line_feed ∷ rest) ys))
      ∙ lines_of-joined lines (line ++ line_feed ∷ (rest ++ ys)) each
      ∙ ap (λ (ls : List (List ℕ)). lines ++ ls) (lines_of-line line (rest ++ ys) one);
}
next_in input taken kept (Some ys) lines line h e each one (AsLast next some at_end) = record {
  more = [];
  split =
      ap lines_of (taken_is input taken (Some ys) h at_end ∙ e ∙ ap (λ (bytes : List ℕ). joined lines ++ bytes) next)
      ∙ lines_of-joined lines line each
      ∙ ap (λ (ls : List (List ℕ)). lines ++ ls) (lines_of-last line one some);
}

by_whole : {input : List ℕ} {left : Option (List ℕ)} {split : InputSplit} {line : List ℕ} → Consumes (Some input) left split.taken
    → AllByRecursion HasNoLf split.lines → Divides left split
    → ComesNext left split.kept line → HasNext input split.lines line
by_whole {input = input} {left = left} {split = split} {line = line} h each (Whole e) next =
    next_in input split.taken split.kept left split.lines line h e each next.without_lf next.next
by_whole h each (Bare front last e some bytes nothing at_end) next = absurd (some_next next.next nothing)

pub next_of : {input : List ℕ} {left : Option (List ℕ)} {split : InputSplit} {line : List ℕ} → TakesOf input left split
    → ComesNext left split.kept line → HasNext input split.lines line
next_of h next = by_whole h.consumes h.each h.divides next

-- How far past a line the source was read where a word stops at it.
use Rattle.std.proofs.Common.{◌≡◌, ◌<◌, ◌≤◌, ◌+◌, ℕ, List, [], ◌∷◌, ◌++◌, length, take, Option, Some, None, sym, ap, ◌∙◌, subst, append_assoc, length-append, arith}
use Rattle.std.proofs.lemmas.List.{take_all, take_at}
use Rattle.std.specs.Io.KnownBytes.{Consumes, IsAtEnd}
use Rattle.gnb_base.specs.Lines.{line_feed, lines_of}
use Rattle.gnb_base.specs.Outside.{SourceAt}
use Rattle.gnb_base.specs.Reading.{piece_size}
use Rattle.command_defs.specs.input_defs.Split.{InputSplit, rest_of, joined, Divides, Whole, Bare, TakesInput}
use Rattle.command_defs.specs.input_defs.Ends.{IsNext, WithLf, AsLast, ComesNext, IsEmptyInput}
use Rattle.command_defs.specs.input_defs.Near.{StopsNear}
use Rattle.commands.proofs.input_lines.Sources.{rest_known}
use Rattle.commands.proofs.input_lines.Standing.{joined-more, line_more}
use Rattle.commands.proofs.input_lines.Wholes.{TakesOf, takes_known, taken_is, all_lines, lines_of-joined, next_of, some_next}

-- where so many bytes end the lines up to a place, and these and fewer than a read asks for were taken
near_at : (input taken : List ℕ) (left : Option (List ℕ)) (place : ℕ) (front : List (List ℕ)) (more : List (List ℕ))
    → Consumes (Some input) left taken
    → lines_of input ≡ front ++ more → length front ≡ place → length taken < length (joined front) + piece_size → StopsNear input left place
near_at input taken None place front more h e p few = absurd h
near_at input taken (Some ys) place front more h e p few =
    let same : take place (lines_of input) ≡ front = ap (λ (ls : List (List ℕ)). take place ls) e ∙ take_at front more place p in
    let end : length (joined (take place (lines_of input))) ≡ length (joined front) = ap (λ (ls : List (List ℕ)). length (joined ls)) same in
    let size : length input ≡ length taken + length ys = ap length h ∙ length-append taken ys in
    let some : 0 < piece_size = omega arith in
    record { taken = taken; consumes = h; near = omega (arith, end, size, few, some) }

-- where the input is at its end, nothing is past any line
near_end : (input taken : List ℕ) (left : Option (List ℕ)) (place : ℕ) → Consumes (Some input) left taken → IsAtEnd left
    → length input ≤ length (joined (take place (lines_of input)))
    → StopsNear input left place
near_end input taken left place h at_end le =
    let size : length input ≡ length taken = ap length (taken_is input taken left h at_end) in
    let some : 0 < piece_size = omega arith in
    record { taken = taken; consumes = h; near = omega (arith, size, le, some) }

-- the last line without its LF
bare_size : (front : List (List ℕ)) (last : List ℕ) → length (joined front ++ last) ≤ length (joined (front ++ last ∷ []))
bare_size front last =
    let e : length (joined (front ++ last ∷ [])) ≡ length (joined front) + length (last ++ line_feed ∷ []) = ap length (joined-more front last)
    ∙ length-append (joined front) (last ++ line_feed ∷ []) in
    omega (arith, e, length-append (joined front) last, length-append last (line_feed ∷ []))

take_whole : (lines : List (List ℕ)) (place : ℕ) → length lines ≡ place → take place lines ≡ lines
take_whole lines place p = take_all place lines (omega arith)

by_handed : (input : List ℕ) (left : Option (List ℕ)) (split : InputSplit) (place : ℕ) → TakesOf input left split → Divides left split
    → length split.kept < piece_size → length split.lines ≡ place
    → StopsNear input left place
by_handed input None split place h d few p = absurd h.consumes
by_handed input (Some ys) split place h (Whole e) few p =
    near_at input split.taken (Some ys) place split.lines (lines_of (split.kept ++ ys)) h.consumes
    (ap lines_of (h.consumes ∙ ap (λ (bytes : List ℕ). bytes ++ ys) e ∙ append_assoc (joined split.lines) split.kept ys) ∙ lines_of-joined split.lines (split.kept ++ ys) h.each)
    p (omega (arith, ap length e, length-append (joined split.lines) split.kept, few))
by_handed input (Some ys) split place h (Bare front last e some bytes nothing at_end) few p =
    let all : lines_of input ≡ split.lines = all_lines h nothing at_end in
    let taken : input ≡ split.taken = taken_is input split.taken (Some ys) h.consumes at_end in
    near_end input split.taken (Some ys) place h.consumes at_end
    (subst (λ (ls : List (List ℕ)). length input ≤ length (joined ls)) (sym (ap (λ (ls : List (List ℕ)). take place ls) all ∙ take_whole split.lines place p))
    (subst (λ (ls : List (List ℕ)). length input ≤ length (joined ls)) (sym e) (omega (arith, ap length (taken ∙ bytes), bare_size front last))))

-- the line was handed out, and few bytes are kept
pub near_handed : {before after : SourceAt} {split : InputSplit} (place : ℕ) → TakesInput before after split
    → length split.kept < piece_size → length split.lines ≡ place
    → (input : List ℕ) → before.left ≡ Some input → StopsNear input after.left place
near_handed {after = after} {split = split} place h few p input e =
    let t = takes_known input e h in
    by_handed input after.left split place t t.divides few p

by_next : (input : List ℕ) (left : Option (List ℕ)) (split : InputSplit) (line : List ℕ) (place : ℕ) → TakesOf input left split
    → split.taken ≡ joined split.lines ++ split.kept
    → ComesNext left split.kept line → IsNext left split.kept line → place ≡ length split.lines + 1 → StopsNear input left place
by_next input left split line place h e next (WithLf rest f few) p =
    let found = next_of h next in
    let size : length split.taken ≡ length (joined (split.lines ++ line ∷ [])) + length rest =
    ap length (e ∙ ap (λ (bytes : List ℕ). joined split.lines ++ bytes) f ∙ line_more split.lines line rest)
    ∙ length-append (joined (split.lines ++ line ∷ [])) rest in
    near_at input split.taken left place (split.lines ++ line ∷ []) found.more h.consumes
    (found.split ∙ sym (append_assoc split.lines (line ∷ []) found.more))
    (length-append split.lines (line ∷ []) ∙ sym p) (omega (arith, size, few))
by_next input left split line place h e next (AsLast f some at_end) p =
    let found = next_of h next in
    let same : take place (lines_of input) ≡ split.lines ++ line ∷ [] =
    ap (λ (ls : List (List ℕ)). take place ls) (found.split ∙ sym (append_assoc split.lines (line ∷ []) found.more))
    ∙ take_at (split.lines ++ line ∷ []) found.more place (length-append split.lines (line ∷ []) ∙ sym p) in
    let taken : input ≡ joined split.lines ++ line = taken_is input split.taken left h.consumes at_end ∙ e
    ∙ ap (λ (bytes : List ℕ). joined split.lines ++ bytes) f in
    near_end input split.taken left place h.consumes at_end
    (subst (λ (ls : List (List ℕ)). length input ≤ length (joined ls)) (sym same) (omega (arith, ap length taken, bare_size split.lines line)))

next_by : (input : List ℕ) (left : Option (List ℕ)) (split : InputSplit) (line : List ℕ) (place : ℕ) → TakesOf input left split
    → Divides left split → ComesNext left split.kept line
    → place ≡ length split.lines + 1 → StopsNear input left place
next_by input left split line place h (Whole e) next p = by_next input left split line place h e next next.next p
next_by input left split line place h (Bare front last e some bytes nothing at_end) next p = absurd (some_next next.next nothing)

-- the line comes next
pub near_next : {before after : SourceAt} {split : InputSplit} (line : List ℕ) (place : ℕ) → TakesInput before after split
    → ComesNext (rest_of before after) split.kept line
    → place ≡ length split.lines + 1 → (input : List ℕ) → before.left ≡ Some input → StopsNear input after.left place
near_next {before = before} {after = after} {split = split} line place h next p input e =
    let t = takes_known input e h in
    next_by input after.left split line place t t.divides (subst (λ (left : Option (List ℕ)). ComesNext left split.kept line) (rest_known before after input e) next) p

empty_by : (input : List ℕ) (left : Option (List ℕ)) (split : InputSplit) (place : ℕ) → TakesOf input left split → Divides left split
    → split.lines ≡ [] → split.kept ≡ [] → StopsNear input left place
empty_by input left split place h (Whole e) no_line none =
    let size : length split.taken ≡ 0 = ap length (e ∙ ap (λ (bytes : List ℕ). joined split.lines ++ bytes) none ∙ ap (λ (ls : List (List ℕ)). joined ls ++ []) no_line) in
    let some : 0 < piece_size = omega arith in
    record { taken = split.taken; consumes = h.consumes; near = omega (arith, size, some) }
empty_by input left split place h (Bare front last e some bytes nothing at_end) no_line none = absurd (never front (sym e ∙ no_line))
  where
    never : (front : List (List ℕ)) → front ++ last ∷ [] ≡ [] → ⊥
    never [] same = cc
    never (line ∷ front) same = cc

-- no line is there
pub near_empty : {before after : SourceAt} {split : InputSplit} (place : ℕ) → TakesInput before after split
    → IsEmptyInput (rest_of before after) split place
    → (input : List ℕ) → before.left ≡ Some input → StopsNear input after.left place
near_empty {after = after} {split = split} place h empty input e =
    let t = takes_known input e h in
    empty_by input after.left split place t t.divides empty.no_line empty.nothing

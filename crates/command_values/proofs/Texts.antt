-- The lines of a module's text among those of an input.
use Rattle.std.proofs.Common.{◌≡◌, ◌+◌, ◌-◌, ℕ, List, [], ◌∷◌, ◌++◌, length, take, true, false, Option, Some, None, sym, ap, ◌∙◌, subst, append-nil, append_assoc, length-append, arith}
use Rattle.std.proofs.lemmas.Grind.{flat_map-append}
use Rattle.std.proofs.lemmas.List.{take_all}
use Rattle.gnb_base.specs.Lines.{line_feed, lines_of}
use Rattle.command_defs.specs.input_defs.Split.{InputSplit, joined, Divides, Bare}
use Rattle.command_defs.specs.input_defs.Split as division
use Rattle.commands.proofs.input_lines.Wholes.{TakesOf, lines_of-joined, taken_is, all_lines}
use Rattle.commands.specs.input_module.Text.{IsClosed, IsUnclosed, is_end}

-- ---- the lines of a text end once

pub cancel : (front rest : List (List ℕ)) → front ++ rest ≡ front → rest ≡ []
cancel [] rest e = e
cancel (line ∷ front) rest e = cancel front rest (cc)

same_end : (front : List (List ℕ)) (last : List ℕ) (rest others : List (List ℕ)) (end : List ℕ) (more : List (List ℕ))
    → IsUnclosed front → is_end last ≡ true
    → IsUnclosed others → is_end end ≡ true → front ++ last ∷ rest ≡ others ++ end ∷ more
    → (front ++ last ∷ [] ≡ others ++ end ∷ []) × (rest ≡ more)
same_end [] last rest [] end more h e k f same = (cc, cc)
same_end [] last rest (line ∷ others) end more h e k f same =
    let first : last ≡ line = cc in
    let clash : true ≡ false = sym e ∙ ap is_end first ∙ k.0 in
    absurd (cc)
same_end (line ∷ front) last rest [] end more h e k f same =
    let first : line ≡ end = cc in
    let clash : false ≡ true = sym h.0 ∙ ap is_end first ∙ f in
    absurd (cc)
same_end (line ∷ front) last rest (other ∷ others) end more h e k f same =
    let first : line ≡ other = cc in
    let tail : front ++ last ∷ rest ≡ others ++ end ∷ more = cc in
    let one = same_end front last rest others end more h.1 e k.1 f tail in
    (ap (λ (l : List ℕ). l ∷ (front ++ last ∷ [])) first ∙ ap (λ (ls : List (List ℕ)). other ∷ ls) one.0, one.1)

with_rest : (body rest : List (List ℕ)) (closed : IsClosed body) → body ++ rest ≡ closed.front ++ closed.last ∷ rest
with_rest body rest closed = ap (λ (ls : List (List ℕ)). ls ++ rest) closed.parts ∙ append_assoc closed.front (closed.last ∷ []) rest

pub same_body : (body rest others more : List (List ℕ)) → IsClosed body → IsClosed others → body ++ rest ≡ others ++ more
    → (body ≡ others) × (rest ≡ more)
same_body body rest others more a b same =
    let one = same_end a.front a.last rest b.front b.last more a.others a.end b.others b.end (sym (with_rest body rest a) ∙ same ∙ with_rest others more b) in
    (a.parts ∙ one.0 ∙ sym b.parts, one.1)

open_fails : (front : List (List ℕ)) (last : List ℕ) (rest : List (List ℕ)) → is_end last ≡ true → IsUnclosed (front ++ last ∷ rest) → ⊥
open_fails [] last rest e h = let clash : true ≡ false = sym e ∙ h.0 in cc
open_fails (line ∷ front) last rest e h = open_fails front last rest e h.1

pub not_open : (body rest all : List (List ℕ)) → IsClosed body → IsUnclosed all → all ≡ body ++ rest → ⊥
not_open body rest all closed h same =
    open_fails closed.front closed.last rest closed.end (subst (λ (ls : List (List ℕ)). IsUnclosed ls) (same ∙ with_rest body rest closed) h)

-- ---- the lines that were handed out, among those of the input

pub lines_after : (input : List ℕ) (left : Option (List ℕ)) (split : InputSplit) → TakesOf input left split → Divides left split
    → (more : List (List ℕ)) × (lines_of input ≡ split.lines ++ more)
lines_after input None split t d = absurd t.consumes
lines_after input (Some ys) split t (division.Whole f) = (
  lines_of (split.kept ++ ys),
  ap lines_of (t.consumes ∙ ap (λ (bytes : List ℕ). bytes ++ ys) f ∙ append_assoc (joined split.lines) split.kept ys) ∙ lines_of-joined split.lines (split.kept ++ ys) t.each,
)
lines_after input (Some ys) split t (Bare front last p some bytes none at_end) = ([], all_lines t none at_end ∙ sym (append-nil split.lines))

-- the octets of a text's lines, of what was taken and of the input
pub cut_same : (input : List ℕ) (left : Option (List ℕ)) (split : InputSplit) (header : List ℕ) (body rest : List (List ℕ)) → TakesOf input left split
    → Divides left split → split.lines ≡ (header ∷ body) ++ rest
    → take (length split.taken - (length header + 1)) (joined body) ≡ take (length input - (length header + 1)) (joined body)
cut_same input None split header body rest t d parts = absurd t.consumes
cut_same input (Some ys) split header body rest t (division.Whole f) parts =
    let a : length split.taken ≡ length (joined split.lines) + length split.kept = ap length f ∙ length-append (joined split.lines) split.kept in
    let b : length (joined split.lines) ≡ length (header ++ line_feed ∷ []) + length (joined (body ++ rest)) =
    ap (λ (ls : List (List ℕ)). length (joined ls)) parts ∙ length-append (header ++ line_feed ∷ []) (joined (body ++ rest)) in
    let c : length (header ++ line_feed ∷ []) ≡ length header + 1 = length-append header (line_feed ∷ []) in
    let d : length (joined (body ++ rest)) ≡ length (joined body) + length (joined rest) =
    ap length (flat_map-append (λ (l : List ℕ). l ++ line_feed ∷ []) body rest) ∙ length-append (joined body) (joined rest) in
    let all : length input ≡ length split.taken + length ys = ap length t.consumes ∙ length-append split.taken ys in
    take_all (length split.taken - (length header + 1)) (joined body) (omega (arith, a, b, c, d))
    ∙ sym (take_all (length input - (length header + 1)) (joined body) (omega (arith, a, b, c, d, all)))
cut_same input (Some ys) split header body rest t (Bare front last p some bytes none at_end) parts =
    ap (λ (bytes : List ℕ). take (length bytes - (length header + 1)) (joined body)) (sym (taken_is input split.taken (Some ys) t.consumes at_end))

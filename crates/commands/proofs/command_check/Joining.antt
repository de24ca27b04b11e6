-- The octets of a text, as they stand in the bytes that were taken.
use Rattle.std.proofs.Common.{◌≡◌, ℕ, ◌+◌, ◌-◌, List, [], ◌∷◌, ◌++◌, length, take, drop, Option, refl, sym, ap, ◌∙◌, subst, append_assoc, append-nil, length-append, arith}
use Rattle.std.proofs.lemmas.List.{take_all, take_at, drop_at, drop_all}
use Rattle.gnb_base.specs.Lines.{line_feed}
use Rattle.command_defs.specs.input_defs.Split.{InputSplit, input_split, joined, Divides, Whole, Bare}
use Rattle.commands.proofs.input_lines.Standing.{joined-more}
use Rattle.profile.specs.declared.version.Version.{Version}
use Rattle.commands.specs.input_module.Module.{HasText}

-- what a text is of the octets of its lines, and that it stands after the header
pub record IsCut (taken header octets kept : List ℕ) : Type 0 where
  pub after : drop (length header + 1) taken ≡ take (length taken - (length header + 1)) octets ++ kept

header_size : (header : List ℕ) → length (header ++ line_feed ∷ []) ≡ length header + 1
header_size header = length-append header (line_feed ∷ [])

-- all lines have their LF
cut_whole : (taken header octets kept : List ℕ) → taken ≡ (header ++ line_feed ∷ []) ++ (octets ++ kept) → IsCut taken header octets kept
cut_whole taken header octets kept e =
    let size : length taken ≡ (length header + 1) + (length octets + length kept) =
    ap length e ∙ length-append (header ++ line_feed ∷ []) (octets ++ kept)
    ∙ ap (λ (n : ℕ). n + length (octets ++ kept)) (header_size header) ∙ ap (λ (n : ℕ). (length header + 1) + n) (length-append octets kept)
    in
    record {
      after = ap (λ (bytes : List ℕ). drop (length header + 1) bytes) e
          ∙ drop_at (header ++ line_feed ∷ []) (octets ++ kept) (length header + 1) (header_size header)
          ∙ ap (λ (bytes : List ℕ). bytes ++ kept) (sym (take_all (length taken - (length header + 1)) octets (omega (arith, size))));
    }

-- the last one lacks it
cut_bare : (taken header text octets : List ℕ) → taken ≡ (header ++ line_feed ∷ []) ++ text → octets ≡ text ++ line_feed ∷ []
    → IsCut taken header octets []
cut_bare taken header text octets e f =
    let size : length taken ≡ (length header + 1) + length text = ap length e ∙ length-append (header ++ line_feed ∷ []) text
    ∙ ap (λ (n : ℕ). n + length text) (header_size header) in
    record {
      after = ap (λ (bytes : List ℕ). drop (length header + 1) bytes) e
          ∙ drop_at (header ++ line_feed ∷ []) text (length header + 1) (header_size header)
          ∙ sym (append-nil (take (length taken - (length header + 1)) octets) ∙ ap (λ (bytes : List ℕ). take (length taken - (length header + 1)) bytes) f ∙ take_at text (line_feed ∷ []) _ (omega (arith, size)));
    }

cut_header : (header : List ℕ) → IsCut header header [] []
cut_header header =
    record { after = drop_all (length header + 1) header (omega arith) ∙ sym (append-nil _ ∙ take_all (length header - (length header + 1)) [] (omega arith)) }

same_lines : (front : List (List ℕ)) (header last : List ℕ) (body : List (List ℕ)) (taken octets : List ℕ)
    → header ∷ body ≡ front ++ last ∷ [] → taken ≡ joined front ++ last → octets ≡ joined body → IsCut taken header octets []
same_lines [] header last body taken octets e f g =
    let first : header ≡ last = cc in
    let rest : body ≡ [] = cc in
    let none : octets ≡ [] = g ∙ ap joined rest in
    let same : taken ≡ header = f ∙ sym first in
    subst (λ (t : List ℕ). IsCut t header octets []) (sym same) (subst (λ (o : List ℕ). IsCut header header o []) (sym none) (cut_header header))
same_lines (line ∷ front) header last body taken octets e f g =
    let first : header ≡ line = cc in
    let rest : body ≡ front ++ last ∷ [] = cc in
    cut_bare taken header (joined front ++ last) octets
    (f ∙ append_assoc (line ++ line_feed ∷ []) (joined front) last ∙ ap (λ (l : List ℕ). (l ++ line_feed ∷ []) ++ (joined front ++ last)) (sym first))
    (g ∙ ap joined rest ∙ joined-more front last ∙ sym (append_assoc (joined front) last (line_feed ∷ [])))

by_division : (left : Option (List ℕ)) (taken header : List ℕ) (body : List (List ℕ)) (octets kept : List ℕ) → octets ≡ joined body
    → Divides left (input_split taken (header ∷ body) kept)
    → IsCut taken header octets kept
by_division left taken header body octets kept g (Whole e) =
    subst (λ (o : List ℕ). IsCut taken header o kept) (sym g) (cut_whole taken header (joined body) kept (e ∙ append_assoc (header ++ line_feed ∷ []) (joined body) kept))
by_division left taken header body octets kept g (Bare front last e some bytes none at_end) =
    subst (λ (k : List ℕ). IsCut taken header octets k) (sym none) (same_lines front header last body taken octets e bytes g)

-- the text that was handed out is what was taken after the header, and before the bytes kept
pub text_stands : {newest : Version} {left : Option (List ℕ)} {split : InputSplit} {text : List ℕ} → (has : HasText newest left split split.lines text)
    → Divides left split → drop (length has.header + 1) split.taken ≡ text ++ split.kept
text_stands {left = left} {split = split} has d =
    (by_division left split.taken has.header has.body (joined has.body) split.kept refl
    (subst (λ (ls : List (List ℕ)). Divides left (input_split split.taken ls split.kept)) has.parts d)).after
    ∙ ap (λ (bytes : List ℕ). bytes ++ split.kept) (sym has.octets)

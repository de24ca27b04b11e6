-- The texts of a list of lines, with one line more.
use Rattle.std.proofs.Common.{◌≡◌, ℕ, List, [], ◌∷◌, ◌++◌, map, ap, ◌∙◌, sym, append_assoc}
use Rattle.std.specs.Prelude.{reverse}
use Rattle.std.proofs.lemmas.List.{map-append, reverse-append}
use Rattle.transcript_defs.specs.declared.line.TextLine.{TextLine}
use Rattle.transcript_defs.specs.Lines.{text_of}
use Rattle.transcript_defs.specs.Sound.{texts_of}

pub texts_more : (line : TextLine) (past : List TextLine) → texts_of (line ∷ past) ≡ texts_of past ++ text_of line ∷ []
texts_more line past = ap (map text_of) (reverse-append (line ∷ []) past) ∙ map-append text_of (reverse past) (line ∷ [])

pub texts_step : (line : TextLine) (past : List TextLine) (text : List ℕ) (rest : List (List ℕ)) → text ≡ text_of line
    → texts_of past ++ text ∷ rest ≡ texts_of (line ∷ past) ++ rest
texts_step line past text rest is =
    ap (λ t. texts_of past ++ t ∷ rest) is
    ∙ sym (append_assoc (texts_of past) (text_of line ∷ []) rest)
    ∙ ap (λ ts. ts ++ rest) (sym (texts_more line past))

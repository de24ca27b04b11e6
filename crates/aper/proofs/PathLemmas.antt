-- The text of a way from its steps.
use Rattle.std.proofs.Common.{◌≡◌, ℕ, ◌+◌, ◌<◌, ◌≤◌, List, [], ◌∷◌, ◌++◌, map, length, drop, get_or, refl, sym, ap, ◌∙◌}
use Rattle.std.specs.Prelude.{reverse, codes}
use Rattle.std.proofs.lemmas.List.{map-append, reverse-append, reverse-reverse, drop_more, drop_all}
use Rattle.aper_frames.specs.declared.path.Step.{Step}
use Rattle.aper_frames.specs.Paths.{step_view, path_view}
use Rattle.aper.specs.PathText.{step_text, steps_after, steps_text, path_text}

pub map-reverse : {A B : Type 0} (f : A → B) (xs : List A) → map f (reverse xs) ≡ reverse (map f xs)
map-reverse f [] = refl
map-reverse {A = A} {B = B} f (x ∷ xs) =
    ap (λ (ys : List A). map f ys) (reverse-append (x ∷ []) xs)
    ∙ map-append f (reverse xs) (x ∷ [])
    ∙ ap (λ (ys : List B). ys ++ f x ∷ []) (map-reverse f xs)
    ∙ sym (reverse-append (f x ∷ []) (map f xs))

-- from the whole value on
pub path_forward : (path : List Step) → path_text (path_view path) ≡ steps_text (map step_view path)
path_forward path =
    ap (λ ss. steps_text (reverse ss)) (map-reverse step_view path)
    ∙ ap steps_text (reverse-reverse (map step_view path))

-- one more step, after a dot
pub steps_turn : (text after : List ℕ) (others : List Step) (i : ℕ) (x : Step) → i < length others
    → after ≡ (text ++ codes ".") ++ step_text (step_view (get_or others i x))
    → steps_after after (map step_view (drop (i + 1) others)) ≡ steps_after text (map step_view (drop i others))
steps_turn text after others i x h e =
    let rest = drop (i + 1) others in
    ap (λ (a : List ℕ). steps_after a (map step_view rest)) e
    ∙ ap (λ (ss : List Step). steps_after text (map step_view ss)) (sym (drop_more others i x h))

-- all steps
pub steps_all : (text start : List ℕ) (path : List Step) (first : Step) (others : List Step) (i : ℕ) → length others ≤ i
    → path ≡ first ∷ others → start ≡ step_text (step_view first)
    → steps_after text (map step_view (drop i others)) ≡ steps_after start (map step_view others)
    → text ≡ path_text (path_view path)
steps_all text start path first others i h is e all =
    ap (λ (ss : List Step). steps_after text (map step_view ss)) (sym (drop_all i others h))
    ∙ all
    ∙ ap (λ (t : List ℕ). steps_after t (map step_view others)) e
    ∙ ap (λ (ss : List Step). steps_text (map step_view ss)) (sym is)
    ∙ sym (path_forward path)

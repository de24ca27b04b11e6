-- The way to the value that is read, frame by frame.
use Rattle.std.proofs.Common.{◌≡◌, ℕ, ◌+◌, ◌<◌, List, [], ◌∷◌, ◌++◌, length, take, map, reverse, get_or, Option, sym, ap, ◌∙◌, add-one}
use Rattle.std.proofs.lemmas.List.{reverse-append}
use Rattle.std.proofs.Math.Seq.{take-suc}
use Rattle.aper_defs.specs.Fields.{Path}
use Rattle.aper_frames.specs.declared.frame.Frame.{Frame}
use Rattle.aper_frames.specs.declared.path.Step.{Step}
use Rattle.aper_frames.specs.Frames.{inside_of, path_of}
use Rattle.aper_frames.specs.Paths.{step_view, path_view, step_put}

pub step_more : (path : List Step) (s : Step) → path_view (path ++ s ∷ []) ≡ step_view s ∷ path_view path
step_more path s = ap (λ (ss : List Step). map step_view ss) (reverse-append path (s ∷ []))

pub way_more : (path more : List Step) (fs : List Frame) (f : Frame) (i : ℕ) (x : Option Step)
    → i < length fs → f ≡ get_or fs i f
    → path_view more ≡ step_put x (path_view path) → ((p : Path) → inside_of f p ≡ step_put x p)
    → path_view path ≡ path_of (reverse (take i fs)) → path_view more ≡ path_of (reverse (take (i + 1) fs))
way_more path more fs f i x less is put way before =
    let taken : take (i + 1) fs ≡ take i fs ++ f ∷ [] =
    ap (λ (n : ℕ). take n fs) (add-one i) ∙ take-suc fs i f less ∙ ap (λ (y : Frame). take i fs ++ y ∷ []) (sym is) in
    put ∙ sym (way (path_view path)) ∙ ap (inside_of f) before
    ∙ ap path_of (sym (reverse-append (take i fs) (f ∷ []))) ∙ ap (λ (gs : List Frame). path_of (reverse gs)) (sym taken)

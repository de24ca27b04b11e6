-- One more value before those that come, and none that come.
use Rattle.std.proofs.Common.{◌≡◌, List, [], ◌∷◌, ◌++◌, Option, Some, None, refl}
use Rattle.aper_defs.specs.Values as seen
use Rattle.aper_defs.specs.Questions.{Prog}
use Rattle.aper_values.specs.declared.value.Value.{Value}
use Rattle.aper_values.specs.declared.value.Element.{Element}
use Rattle.aper_values.specs.Views.{view, values_view, options_view, ies_view}
use Rattle.aper_frames.specs.Frames.{options_before, values_before, ies_before}

pub options_absent : (made : List (Option Value)) (K : seen.Options → Prog)
    → options_before (made ++ None ∷ []) K ≡ (λ vs. options_before made K (seen.absent vs))
options_absent [] K = refl
options_absent (None ∷ made) K = options_absent made (λ vs. K (seen.absent vs))
options_absent (Some v ∷ made) K = options_absent made (λ vs. K (seen.present (view v) vs))

pub options_present : (made : List (Option Value)) (v : Value) (K : seen.Options → Prog)
    → options_before (made ++ Some v ∷ []) K ≡ (λ vs. options_before made K (seen.present (view v) vs))
options_present [] v K = refl
options_present (None ∷ made) v K = options_present made v (λ vs. K (seen.absent vs))
options_present (Some w ∷ made) v K = options_present made v (λ vs. K (seen.present (view w) vs))

pub options_end : (made : List (Option Value)) (K : seen.Options → Prog) → options_before made K seen.no_options ≡ K (options_view made)
options_end [] K = refl
options_end (None ∷ made) K = options_end made (λ vs. K (seen.absent vs))
options_end (Some v ∷ made) K = options_end made (λ vs. K (seen.present (view v) vs))

pub values_more : (made : List Value) (v : Value) (K : seen.Values → Prog)
    → values_before (made ++ v ∷ []) K ≡ (λ vs. values_before made K (seen.value (view v) vs))
values_more [] v K = refl
values_more (w ∷ made) v K = values_more made v (λ vs. K (seen.value (view w) vs))

pub values_end : (made : List Value) (K : seen.Values → Prog) → values_before made K seen.no_values ≡ K (values_view made)
values_end [] K = refl
values_end (v ∷ made) K = values_end made (λ vs. K (seen.value (view v) vs))

pub ies_more : (made : List (Element Value)) (e : Element Value) (K : seen.Ies → Prog)
    → ies_before (made ++ e ∷ []) K ≡ (λ ies. ies_before made K (seen.ie e.id e.criticality (view e.body) ies))
ies_more [] e K = refl
ies_more (f ∷ made) e K = ies_more made e (λ ies. K (seen.ie f.id f.criticality (view f.body) ies))

pub ies_end : (made : List (Element Value)) (K : seen.Ies → Prog) → ies_before made K seen.no_ies ≡ K (ies_view made)
ies_end [] K = refl
ies_end (e ∷ made) K = ies_end made (λ ies. K (seen.ie e.id e.criticality (view e.body) ies))

-- The elements of a written message are found where their places are, and none of them is to be rejected.
use Rattle.std.proofs.Common.{◌≡◌, ℕ, ◌==◌, Bool, true, false, cond, List, [], ◌∷◌, Option, Some, None, refl, ap, ◌∙◌}
use Rattle.std.specs.Prelude.{not, ◌&&◌, ◌||◌, if◌then◌else◌}
use Rattle.aper_defs.specs.Values.{Value, Ies}
use Rattle.proof_aper.proofs.answers.NumberFacts.{same}
use Rattle.message_defs.specs.profile_defs.Elements.{Element}
use Rattle.message_defs.specs.profile_defs.Tables.{Use}
use Rattle.message_defs.specs.Places.{Field, content_of, put_element, written_elements, element_of}
use Rattle.message_defs.specs.FromValue.{is_used, first_rejected}

or_left : (a b : Bool) → (a || b) ≡ false → a ≡ false
or_left false b h = refl
or_left true b h = cc

or_right : (a b : Bool) → (a || b) ≡ false → b ≡ false
or_right false b h = h
or_right true b h = cc

and_left : (a b : Bool) → (a && b) ≡ true → a ≡ true
and_left true b h = refl
and_left false b h = cc

and_right : (a b : Bool) → (a && b) ≡ true → b ≡ true
and_right true b h = h
and_right false b h = cc

not_true : (b : Bool) → not b ≡ true → b ≡ false
not_true false h = refl
not_true true h = cc

-- an element of another id
skipped : (e f : Element) (x : Option Value) (others : Ies) → (f.id == e.id) ≡ false → element_of e (put_element f x others)
    ≡ element_of e others
skipped e f None others h = refl
skipped e f (Some v) others h = ap (λ (b : Bool). cond b (Some v) (element_of e others)) h

-- the one of this id
met : (e f : Element) (x : Option Value) (others : Ies) → (f.id == e.id) ≡ true → element_of e others ≡ None
    → element_of e (put_element f x others) ≡ x
met e f None others h none = none
met e f (Some v) others h none = ap (λ (b : Bool). cond b (Some v) (element_of e others)) h

unused : (e : Element) (us : List Use) (fields : List Field) → is_used e.id us ≡ false → element_of e (written_elements us fields) ≡ None
unused e [] fields h = refl
unused e (u ∷ us) fields h =
    skipped e u.element (content_of u.element fields) (written_elements us fields) (or_left (u.element.id == e.id) (is_used e.id us) h)
    ∙ unused e us fields (or_right (u.element.id == e.id) (is_used e.id us) h)

same_content : (e f : Element) (fields : List Field) → f.id ≡ e.id → content_of f fields ≡ content_of e fields
same_content e f [] h = refl
same_content e f (field ∷ fields) h =
    ap (λ (n : ℕ). cond (field.element.id == n) field.content (content_of f fields)) h
    ∙ ap (λ (x : Option Value). cond (field.element.id == e.id) field.content x) (same_content e f fields h)

-- there is an element of this id, and no further one after it
abbrev pub is_once : ℕ → List Use → Bool
is_once id [] = false
is_once id (u ∷ us) = if u.element.id == id then not (is_used id us) else is_once id us

pub found : (e : Element) (us : List Use) (fields : List Field) → is_once e.id us ≡ true
    → element_of e (written_elements us fields) ≡ content_of e fields
found e [] fields h = cc
found e (u ∷ us) fields h = by (u.element.id == e.id) refl h (found e us fields)
  where
    by : (b : Bool) → (u.element.id == e.id) ≡ b → cond b (not (is_used e.id us)) (is_once e.id us) ≡ true
        → (is_once e.id us ≡ true → element_of e (written_elements us fields) ≡ content_of e fields)
        → element_of e (written_elements (u ∷ us) fields) ≡ content_of e fields
    by true is h later = met e u.element (content_of u.element fields) (written_elements us fields) is
        (unused e us fields (not_true (is_used e.id us) h)) ∙ same_content e u.element fields (same u.element.id e.id is)
    by false is h later = skipped e u.element (content_of u.element fields) (written_elements us fields) is ∙ later h

-- ---- none is to be rejected
abbrev pub are_used : List Use → List Use → Bool
are_used [] known = true
are_used (u ∷ us) known = is_used u.element.id known && are_used us known

put_accepted : (known : List Use) (e : Element) (x : Option Value) (others : Ies) → is_used e.id known ≡ true
    → first_rejected known (put_element e x others) ≡ first_rejected known others
put_accepted known e None others h = refl
put_accepted known e (Some v) others h = ap (λ (b : Bool). cond (not b) (Some e.id) (first_rejected known others)) h

pub accepted : (known us : List Use) (fields : List Field) → are_used us known ≡ true
    → first_rejected known (written_elements us fields) ≡ None
accepted known [] fields h = refl
accepted known (u ∷ us) fields h =
    put_accepted known u.element (content_of u.element fields) (written_elements us fields)
    (and_left (is_used u.element.id known) (are_used us known) h)
    ∙ accepted known us fields (and_right (is_used u.element.id known) (are_used us known) h)

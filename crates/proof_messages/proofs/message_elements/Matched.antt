-- What is read from a message's elements, and written again, is what its type knows of them.
use Rattle.std.proofs.Common.{◌≡◌, ℕ, ◌==◌, Bool, true, false, cond, List, [], ◌∷◌, Option, Some, None, option_map, Ok, refl, sym, ap, subst, ◌∙◌, arith}
use Rattle.std.specs.Prelude.{codes, ◌&&◌}
use Rattle.aper_defs.specs.Trees.{Tree, Parts, Rows, slots, sequence, container, part, no_parts}
use Rattle.aper_defs.specs.Values.{Value, Options, Ies, components, elements, no_options, absent, present, no_ies, ie}
use Rattle.aper_defs.specs.Fields.{Path}
use Rattle.aper_defs.specs.Fields as fields
use Rattle.aper_defs.specs.Membership.{Has, HasComponents, HasAdditions, HasRow, AreElements}
use Rattle.proof_aper.proofs.answers.NumberFacts.{same}
use Rattle.message_defs.specs.profile_defs.Forms.{rows}
use Rattle.message_defs.specs.profile_defs.Elements.{Element}
use Rattle.message_defs.specs.profile_defs.Tables.{Use, Message, element_rows, is_at}
use Rattle.message_defs.specs.Known.{known, known_components, known_additions, known_row, known_elements, if_some}
use Rattle.message_defs.specs.Places.{Field, content_of, put_element, written_elements, element_of, or_empty, the, any, elements_in, additions_in}
use Rattle.message_defs.specs.FromValue.{unless_rejected}
use Rattle.proof_messages.proofs.message_elements.Ordered.{ie_of, put, collected, are_distinct, ordered, is_mandatory, there, body_of}

same_element : (e : Element) (ies : Ies) → element_of e ies ≡ ie_of e.id ies
same_element e no_ies = refl
same_element e (ie id criticality v others) = ap (λ (x : Option Value). cond (id == e.id) (Some v) x) (same_element e others)

same_put : (e : Element) (x : Option Value) (others : Ies) → put_element e x others ≡ put e.id x others
same_put e None others = refl
same_put e (Some v) others = refl

-- ---- the elements of a message
module _ (uses : List Use) (p : Path) (ies : Ies) where
  abbrev pub its_rows : Rows
  its_rows = rows (element_rows uses)

  abbrev pub AreIts : Type 0
  AreIts = AreElements (slots its_rows) (λ id v. HasRow p its_rows id v) (slots its_rows) ies

  abbrev pub knows : ℕ → Value → Value
  knows id v = known_row its_rows id v

  pub data AreSame (fields : List Field) : List Use → Type 0 where
    none : AreSame fields []
    one : {u : Use} {us : List Use} → content_of u.element fields ≡ option_map (knows u.element.id) (element_of u.element ies)
        → AreSame fields us → AreSame fields (u ∷ us)

  same_all : (fields : List Field) (us : List Use) → AreSame fields us
      → written_elements us fields ≡ collected knows (slots (rows (element_rows us))) ies
  unfolding rows
  same_all fields [] none = refl
  same_all fields (u ∷ us) (one h others) =
      ap (λ (x : Option Value). put_element u.element x (written_elements us fields)) h
      ∙ ap (λ (x : Option Value). put_element u.element (option_map (knows u.element.id) x) (written_elements us fields)) (same_element u.element ies)
      ∙ same_put u.element (option_map (knows u.element.id) (ie_of u.element.id ies)) (written_elements us fields)
      ∙ ap (put u.element.id (option_map (knows u.element.id) (ie_of u.element.id ies))) (same_all fields us others)

  -- a mandatory one, and one that may be there
  pub must : {A : Type 0} → (e : Element) (from : A → Value) (to : Value → A) → is_mandatory e.id (slots its_rows) ≡ true → AreIts
      → ((v : Value) → HasRow p its_rows e.id v → from (to v) ≡ knows e.id v)
      → (let x : Option Value = Some (from (the e to ies)) in x) ≡ option_map (knows e.id) (element_of e ies)
  must e from to m are each =
      let found = there (slots its_rows) (λ id v. HasRow p its_rows id v) (slots its_rows) ies e.id m are in
      let it : element_of e ies ≡ Some found.0 = same_element e ies ∙ found.1 in
      ap (λ (x : Option Value). let y : Option Value = Some (from (to (or_empty x))) in y) it
      ∙ ap Some (each found.0 (body_of (slots its_rows) (λ id v. HasRow p its_rows id v) (slots its_rows) ies e.id found.0 are found.1))
      ∙ ap (option_map (knows e.id)) (sym it)

  pub may : {A : Type 0} → (e : Element) (from : A → Value) (to : Value → A) → AreIts
      → ((v : Value) → HasRow p its_rows e.id v → from (to v) ≡ knows e.id v)
      → option_map from (any e to ies) ≡ option_map (knows e.id) (element_of e ies)
  may e from to are each = by (element_of e ies) (sym (same_element e ies))
    where
      by : (x : Option Value) → ie_of e.id ies ≡ x → option_map from (option_map to x) ≡ option_map (knows e.id) x
      by None is = refl
      by (Some v) is = ap Some (each v (body_of (slots its_rows) (λ id v. HasRow p its_rows id v) (slots its_rows) ies e.id v are is))

  pub known_is : (fields : List Field) → AreIts → are_distinct (slots its_rows) ≡ true → AreSame fields uses
      → known_elements (slots its_rows) knows ies ≡ written_elements uses fields
  known_is fields are d h =
      ordered knows (slots its_rows) (λ id v. HasRow p its_rows id v) (slots its_rows) ies are d (λ n k. k) ∙ sym (same_all fields uses h)

-- ---- the body of a message
body_of_message : Ies → Options → Value
body_of_message ies more = components (present (elements ies) no_options) more

differs : (let b : Bool = false in b) ≡ true → ⊥
differs h = cc

module _ (p : Path) (uses : List Use) (additions : Parts) where
  abbrev pub its_tree : Tree
  its_tree = sequence true (part (codes "protocolIEs") false (container (rows (element_rows uses))) no_parts) additions

  abbrev pub inside : Path
  inside = fields.component (codes "protocolIEs") ∷ p

  pub are_its : (body : Value) → Has p its_tree body → AreIts uses inside (elements_in body)
  unfolding Has HasComponents
  are_its (components (present (elements ies) no_options) more) h = h.0.0.1
  are_its (components (present (elements ies) (absent vs)) more) h = absurd h.0.1
  are_its (components (present (elements ies) (present v vs)) more) h = absurd h.0.1
  are_its (components (present v vs) more) h = absurd h.0.0
  are_its (components no_options more) h = absurd h.0
  are_its (components (absent vs) more) h = absurd (differs h.0.0)
  are_its v h = absurd h

  pub body_is : (body : Value) → Has p its_tree body
      → known its_tree body ≡ components (present (elements (known_elements (slots (rows (element_rows uses)))
      (λ id v. known_row (rows (element_rows uses)) id v) (elements_in body))) no_options) (if_some (known_additions additions (additions_in body)))
  unfolding Has HasComponents known known_components
  body_is (components (present (elements ies) no_options) more) h = refl
  body_is (components (present (elements ies) (absent vs)) more) h = absurd h.0.1
  body_is (components (present (elements ies) (present v vs)) more) h = absurd h.0.1
  body_is (components (present v vs) more) h = absurd h.0.0
  body_is (components no_options more) h = absurd h.0
  body_is (components (absent vs) more) h = absurd (differs h.0.0)
  body_is v h = absurd h

  pub additions_are : (body : Value) → Has p its_tree body → HasAdditions p additions (additions_in body)
  unfolding Has HasComponents
  additions_are (components vs more) h = h.2
  additions_are v h = absurd h

  -- what is written for it, with these additions
  pub known_body_is : (body : Value) (fields : List Field) (more : Options) → Has p its_tree body
      → are_distinct (slots (rows (element_rows uses))) ≡ true → AreSame uses inside (elements_in body) fields uses
      → if_some (known_additions additions (additions_in body)) ≡ more
      → known its_tree body ≡ components (present (elements (written_elements uses fields)) no_options) more
  unfolding body_of_message
  known_body_is body fields more h d all rest =
      body_is body h
      ∙ ap (λ (ies : Ies). body_of_message ies (if_some (known_additions additions (additions_in body))))
      (known_is uses inside (elements_in body) fields (are_its body h) d all)
      ∙ ap (body_of_message (written_elements uses fields)) rest

-- ---- where a message stands, and what is answered
both_left : (a b : Bool) → (a && b) ≡ true → a ≡ true
both_left true b h = refl
both_left false b h = cc

both_right : (a b : Bool) → (a && b) ≡ true → b ≡ true
both_right true b h = h
both_right false b h = cc

pub code_is : (code index : ℕ) (m : Message) → is_at code index m ≡ true → m.code ≡ code
code_is code index m h = same m.code code (both_left (m.code == code) (m.outcome == index) h)

pub outcome_is : (code index : ℕ) (m : Message) → is_at code index m ≡ true → m.outcome ≡ index
outcome_is code index m h = same m.outcome index (both_right (m.code == code) (m.outcome == index) h)

pub answer_is : {M : Type 0} → (r : Option ℕ) (a b : M) → unless_rejected r a ≡ Ok b → a ≡ b
answer_is None a b h = cc
answer_is (Some id) a b h = cc

pub none_rejected : {M : Type 0} → (r : Option ℕ) (a b : M) → unless_rejected r a ≡ Ok b → r ≡ None
none_rejected None a b h = refl
none_rejected (Some id) a b h = cc

pub here : (code index : ℕ) (m : Message) → code ≡ m.code → index ≡ m.outcome → is_at code index m ≡ true
here code index m h k =
    subst (λ c. ((m.code == c) && (m.outcome == index)) ≡ true) (sym h)
    (subst (λ o. ((m.code == m.code) && (m.outcome == o)) ≡ true) (sym k) (both (self m.code) (self m.outcome)))
  where
    self : (n : ℕ) → (n == n) ≡ true
    self n = grind arith

    both : {a b : Bool} → a ≡ true → b ≡ true → (a && b) ≡ true
    both h k = cc

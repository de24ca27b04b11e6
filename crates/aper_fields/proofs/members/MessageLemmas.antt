-- Bodies of messages, by what the rows of their set give.
use Rattle.std.proofs.Common.{◌≡◌, ℕ, ◌<◌, ◌==◌, cond, Bool, true, false, List, [], ◌∷◌, ◌++◌, Option, Some, None, refl, sym, ap, subst, ◌∙◌}
use Rattle.bits_core.specs.Writing.{Written}
use Rattle.asn1_syntax.specs.declared.types.definition.TypeId.{TypeId}
use Rattle.asn1_syntax.specs.declared.assignments.assignment.ProcedureRow.{ProcedureRow}
use Rattle.asn1_defs.specs.Links.{OptionBelow, ProceduresBelow}
use Rattle.aper_defs.specs.Trees.{Tree}
use Rattle.aper_defs.specs.Values.{Value as SeenValue}
use Rattle.aper_defs.specs.Fields.{Path, Field}
use Rattle.aper_defs.specs.Fields as fields
use Rattle.aper_defs.specs.Bits.{put_all, open_fields}
use Rattle.aper_defs.specs.Layouts.{layout, raw_fields, body_fields, outcome_fields}
use Rattle.aper_defs.specs.Membership.{HasBody, HasOutcome, IsRaw, Either}
use Rattle.proof_aper.proofs.answers.NumberFacts.{by_cases}
use Rattle.aper_fields.specs.Following.{Follows}
use Rattle.aper_values.specs.types.Types.{outcome_of, procedures_of}
use Rattle.aper_fields.specs.members.Membership.{FitsInside, IsInside, IsMessage}
use Rattle.aper_fields.specs.members.Rows.{outcome_type, message_type}
use Rattle.aper_fields.specs.members.Followed.{OpenFollows, RawFollows, InsideFollows}

chosen_fields : (b : Bool) (g : Option TypeId → List Field) (x y : Option TypeId) → cond b (g x) (g y) ≡ g (cond b x y)
chosen_fields true g x y = refl
chosen_fields false g x y = refl

chosen_has : (b : Bool) (H : Option TypeId → Type 0) (x y : Option TypeId) → Either b (H x) (H y) → H (cond b x y)
chosen_has true H x y h = h
chosen_has false H x y h = h

module _ (of : ℕ → Tree) where
  outcome_known : (p : Path) (index : ℕ) (x : Option TypeId) (t : TypeId) (v : SeenValue) → x ≡ Some t
      → outcome_fields p index (outcome_of of x) v ≡ open_fields p (fields.outcome index ∷ p) (layout (fields.outcome index ∷ p) (of t.number) v)
  unfolding outcome_fields
  outcome_known p index None t v e = let k : ⊥ = cc in absurd k
  outcome_known p index (Some d) t v e =
      let same : d ≡ t = cc in
      ap (λ (k : TypeId). open_fields p (fields.outcome index ∷ p) (layout (fields.outcome index ∷ p) (of k.number) v)) same

  outcome_unknown : (p : Path) (index : ℕ) (x : Option TypeId) (v : SeenValue) → x ≡ None
      → outcome_fields p index (outcome_of of x) v ≡ raw_fields p (fields.outcome index ∷ p) v
  unfolding outcome_fields
  outcome_unknown p index None v e = refl
  outcome_unknown p index (Some d) v e = let k : ⊥ = cc in absurd k

  has_known : (p : Path) (index : ℕ) (x : Option TypeId) (t : TypeId) (v : SeenValue) → x ≡ Some t
      → HasOutcome p index (outcome_of of x) v → FitsInside (of t.number) v
  unfolding HasOutcome
  has_known p index None t v e h = let k : ⊥ = cc in absurd k
  has_known p index (Some d) t v e h =
      let same : d ≡ t = cc in
      subst (λ (k : TypeId). FitsInside (of k.number) v) same (record { path = fields.outcome index ∷ p; has = h.0; fits = h.1 })

  has_unknown : (p : Path) (index : ℕ) (x : Option TypeId) (v : SeenValue) → x ≡ None → HasOutcome p index (outcome_of of x) v → IsRaw v
  unfolding HasOutcome
  has_unknown p index None v e h = h
  has_unknown p index (Some d) v e h = let k : ⊥ = cc in absurd k

  -- the body is that of the outcome's type, where the set has the code, and raw where it hasn't
  body_as : (p : Path) (index code : ℕ) (rows : List ProcedureRow) (v : SeenValue) (goal : List Field)
      → ((x : Option TypeId) → x ≡ message_type index code rows → outcome_fields p index (outcome_of of x) v ≡ goal)
      → body_fields p (procedures_of of rows) index code v ≡ goal
  unfolding body_fields message_type outcome_fields
  body_as p index code [] v goal f = f None refl
  body_as p index code (row ∷ rows) v goal f =
      let g : Option TypeId → List Field = λ x. outcome_fields p index (outcome_of of x) v in
      let here : cond (index == 0) (g (Some row.initiating)) (cond (index == 1) (g row.successful) (g row.unsuccessful)) ≡ g (outcome_type index row) =
      ap (λ fs. cond (index == 0) (g (Some row.initiating)) fs) (chosen_fields (index == 1) g row.successful row.unsuccessful)
      ∙ chosen_fields (index == 0) g (Some row.initiating) (cond (index == 1) row.successful row.unsuccessful) in
      let yes = cond (index == 0) (g (Some row.initiating)) (cond (index == 1) (g row.successful) (g row.unsuccessful)) in
      let no = body_fields p (procedures_of of rows) index code v in
      by_cases (row.code == code) (λ b. ((x : Option TypeId) → x ≡ cond b (outcome_type index row) (message_type index code rows) → g x ≡ goal)
      → cond b yes no ≡ goal)
      (λ h k. here ∙ k (outcome_type index row) refl)
      (λ h k. body_as p index code rows v goal k) f

  has_as : (p : Path) (index code : ℕ) (rows : List ProcedureRow) (v : SeenValue) → HasBody p (procedures_of of rows) index code v
      → HasOutcome p index (outcome_of of (message_type index code rows)) v
  unfolding HasBody message_type HasOutcome
  has_as p index code [] v h = h
  has_as p index code (row ∷ rows) v h =
      let H : Option TypeId → Type 0 = λ x. HasOutcome p index (outcome_of of x) v in
      by_cases (row.code == code) (λ b. Either b (Either (index == 0) (H (Some row.initiating))
      (Either (index == 1) (H row.successful) (H row.unsuccessful))) (HasBody p (procedures_of of rows) index code v)
      → H (cond b (outcome_type index row) (message_type index code rows)))
      (λ g k. by_cases (index == 0) (λ b. Either b (H (Some row.initiating)) (Either (index == 1) (H row.successful) (H row.unsuccessful))
      → H (cond b (Some row.initiating) (cond (index == 1) row.successful row.unsuccessful)))
      (λ i n. n) (λ i n. chosen_has (index == 1) H row.successful row.unsuccessful n) k)
      (λ g k. has_as p index code rows v k) h

  pub message_known : (index code : ℕ) (rows : List ProcedureRow) (t : TypeId) (v : SeenValue) → message_type index code rows ≡ Some t
      → IsMessage (procedures_of of rows) index code v → FitsInside (of t.number) v
  message_known index code rows t v e h =
      has_known h.path index (message_type index code rows) t v e (has_as h.path index code rows v h.has)

  pub message_unknown : (index code : ℕ) (rows : List ProcedureRow) (v : SeenValue) → message_type index code rows ≡ None
      → IsMessage (procedures_of of rows) index code v → IsRaw v
  message_unknown index code rows v e h =
      has_unknown h.path index (message_type index code rows) v e (has_as h.path index code rows v h.has)

  pub known_body : (index code : ℕ) (rows : List ProcedureRow) (t : TypeId) (old new : Written) (v : SeenValue)
      → message_type index code rows ≡ Some t → OpenFollows old new (of t.number) v
      → Follows old new (λ p. body_fields p (procedures_of of rows) index code v)
  known_body index code rows t old new v e here p rest =
      ap (λ fs. put_all old.bits (fs ++ rest)) (body_as p index code rows v
      (open_fields p (fields.outcome index ∷ p) (layout (fields.outcome index ∷ p) (of t.number) v))
      (λ x is. outcome_known p index x t v (is ∙ e)))
      ∙ here p (fields.outcome index ∷ p) rest

  pub unknown_body : (index code : ℕ) (rows : List ProcedureRow) (old new : Written) (v : SeenValue)
      → message_type index code rows ≡ None → RawFollows old new v
      → Follows old new (λ p. body_fields p (procedures_of of rows) index code v)
  unknown_body index code rows old new v e here p rest =
      ap (λ fs. put_all old.bits (fs ++ rest)) (body_as p index code rows v (raw_fields p (fields.outcome index ∷ p) v)
      (λ x is. outcome_unknown p index x v (is ∙ e)))
      ∙ here p (fields.outcome index ∷ p) rest

outcome_below : (n index : ℕ) (row : ProcedureRow) (t : TypeId)
    → (row.initiating.number < n) × (OptionBelow n row.successful × OptionBelow n row.unsuccessful) → outcome_type index row ≡ Some t → t.number < n
outcome_below n index row t h e =
    by_cases (index == 0) (λ b. cond b (Some row.initiating) (cond (index == 1) row.successful row.unsuccessful) ≡ Some t → t.number < n)
    (λ i f. let same : row.initiating ≡ t = cc in subst (λ (d : TypeId). d.number < n) same h.0)
    (λ i f. by_cases (index == 1) (λ b. cond b row.successful row.unsuccessful ≡ Some t → t.number < n)
    (λ j g. some row.successful t h.1.0 g) (λ j g. some row.unsuccessful t h.1.1 g) f) e
  where
    some : (x : Option TypeId) (d : TypeId) → OptionBelow n x → x ≡ Some d → d.number < n
    some None d k f = let no : ⊥ = cc in absurd no
    some (Some y) d k f = let same : y ≡ d = cc in subst (λ (z : TypeId). z.number < n) same k

pub message_below : (n index code : ℕ) (rows : List ProcedureRow) (t : TypeId) → ProceduresBelow n rows
    → message_type index code rows ≡ Some t → t.number < n
unfolding message_type
message_below n index code [] t h e = let k : ⊥ = cc in absurd k
message_below n index code (row ∷ rows) t h e =
    by_cases (row.code == code) (λ b. cond b (outcome_type index row) (message_type index code rows) ≡ Some t → t.number < n)
    (λ g f. outcome_below n index row t h.0 f)
    (λ g f. message_below n index code rows t h.1 f) e

module _ (of : ℕ → Tree) where
  pub message_inside : (index code : ℕ) (rows : List ProcedureRow) (x : Option TypeId) (v : SeenValue) → x ≡ message_type index code rows
      → IsMessage (procedures_of of rows) index code v → IsInside of x v
  message_inside index code rows None v e h = message_unknown of index code rows v (sym e) h
  message_inside index code rows (Some t) v e h = message_known of index code rows t v (sym e) h

  pub message_follows : (index code : ℕ) (rows : List ProcedureRow) (x : Option TypeId) (old new : Written) (v : SeenValue)
      → x ≡ message_type index code rows → InsideFollows of x old new v
      → Follows old new (λ p. body_fields p (procedures_of of rows) index code v)
  message_follows index code rows None old new v e h = unknown_body of index code rows old new v (sym e) h
  message_follows index code rows (Some t) old new v e h = known_body of index code rows t old new v (sym e) h

pub messages_below : (n index code : ℕ) (rows : List ProcedureRow) (x : Option TypeId) → ProceduresBelow n rows
    → x ≡ message_type index code rows → OptionBelow n x
messages_below n index code rows None h e = tt
messages_below n index code rows (Some t) h e = message_below n index code rows t h (sym e)

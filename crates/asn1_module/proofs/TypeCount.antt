-- No module that is read has more than a thousand types.
use Rattle.std.proofs.Common.{◌≡◌, ℕ, zero, suc, ◌+◌, ◌<◌, ◌≤◌, List, [], ◌∷◌, ◌++◌, length, Bool, true, false, cond, ◌&&◌, refl, sym, ap, ◌∙◌, subst, arith}
use Rattle.std.proofs.lemmas.Bool.{leb-false}
use Rattle.std.proofs.lemmas.List.Sums.{sum_by-append}
use Rattle.std.specs.Prelude.{Result, Ok, Err, count_by}
use Rattle.gnb_types.proofs.Choices.{by_test, chosen, clash}
use Rattle.asn1_tokens.specs.declared.token.Word.TheVariants as words
use Rattle.asn1_tokens.specs.declared.token.Sign.TheVariants as signs
use Rattle.asn1_tokens.specs.Stream.{items_of, first_place, others}
use Rattle.asn1_syntax.specs.declared.types.fault.Fault.{Fault}
use Rattle.asn1_syntax.specs.declared.types.definition.Node.{Node}
use Rattle.asn1_syntax.specs.types.Reading.{Left, begins_with, begins_with_sign}
use Rattle.asn1_syntax.specs.types.inside.Reading.{◌>>=◌, unexpected, word_at, sign_at, upper_at, repeat_at}
use Rattle.asn1_syntax.specs.declared.assignments.assignment.Body.{Body}
use Rattle.asn1_syntax.specs.declared.assignments.assignment.Body.TheVariants as bodies
use Rattle.asn1_syntax.specs.declared.assignments.assignment.Assignment.{Assignment}
use Rattle.asn1_syntax.specs.declared.assignments.assignment.Syntax.{Syntax}
use Rattle.asn1_syntax.specs.assignments.inside.Sets.{ie_set_at, procedure_set_at}
use Rattle.asn1_syntax.specs.assignments.Module.{is_type, is_type_body}
use Rattle.asn1_syntax.specs.assignments.inside.Module.{Parts, has_all_types, is_assigned, new_assignment_at, ie_body_at, procedure_body_at, type_body_at, body_at, assignment_at, module_turn_at, header_at, no_assignments, assignments_at, syntax_at, syntax_of}
use Rattle.asn1_defs.specs.Targets.{type_of, put_type, type_ids}

-- both steps of a reading gave something
bind_ok : {A B : Type 0} (r : Result A Fault) (f : A → Result B Fault) (y : B) → (r >>= f) ≡ Ok y → (x : A) × (r ≡ Ok x) × (f x ≡ Ok y)
bind_ok (Ok x) f y h = (x, refl, h)
bind_ok (Err e) f y h = cc

abbrev Read : Type 0 → Type 0
Read A = Result A Fault

ok_same : {A : Type 0} (x y : A) → (let r : Read A = Ok x in r) ≡ Ok y → x ≡ y
ok_same x y e = cc

-- what a turn keeps, all turns keep
pub repeat_keeps : {S : Type 0} (turn : S → Left → Result (Bool × S × Left) Fault) (Q : S → Type 0) → ((s : S) (ts : Left) (t : Bool × S × Left) → turn s ts ≡ Ok t → Q s → Q t.1) → (turns : ℕ) (s : S) (ts : Left) (r : S × Left) → repeat_at turn turns s ts ≡ Ok r → Q s → Q r.0
unfolding repeat_at
repeat_keeps {S} turn Q keeps zero s ts r h q = cc
repeat_keeps {S} turn Q keeps (suc n) s ts r h q =
    let t = bind_ok (turn s ts) (λ t. cond t.0 (repeat_at turn n t.1 t.2) (Ok (t.1, t.2))) r h in
    chosen t.0.0 (repeat_at turn n t.0.1 t.0.2) (Ok (t.0.1, t.0.2)) (Ok r) t.2 (Q r.0)
    (λ _ more. repeat_keeps turn Q keeps n t.0.1 t.0.2 r more (keeps s ts t.0 t.1 q))
    (λ _ done. subst (λ (x : S × Left). Q x.0) (ok_same (t.0.1, t.0.2) r done) (keeps s ts t.0 t.1 q))

-- a body that adds no type, or finds room for one
record HasRoom (assignments : List Assignment) (body : Body) : Type 0 where
  room : is_type_body body ≡ true → count_by is_type assignments < 1000

ie_room : (assignments : List Assignment) (turns : ℕ) (nodes : List Node) (ts : Left) (r : Body × List Node × Left) → ie_body_at turns nodes ts ≡ Ok r → HasRoom assignments r.0
unfolding ie_body_at
ie_room assignments turns nodes ts r h =
    let a = bind_ok (word_at words.ProtocolIes ts) _ r h in
    let set = bind_ok (ie_set_at turns nodes a.0) _ r a.2 in
    record { room = λ is. absurd (clash (is_type_body r.0) is (ap (λ (x : Body × List Node × Left). is_type_body x.0) (sym (ok_same _ _ set.2)))) }

procedure_room : (assignments : List Assignment) (turns : ℕ) (nodes : List Node) (ts : Left) (r : Body × List Node × Left) → procedure_body_at turns nodes ts ≡ Ok r → HasRoom assignments r.0
unfolding procedure_body_at
procedure_room assignments turns nodes ts r h =
    let a = bind_ok (word_at words.ElementaryProcedure ts) _ r h in
    let set = bind_ok (procedure_set_at turns nodes a.0) _ r a.2 in
    record { room = λ is. absurd (clash (is_type_body r.0) is (ap (λ (x : Body × List Node × Left). is_type_body x.0) (sym (ok_same _ _ set.2)))) }

-- a type stands behind its sign
type_begins : (turns : ℕ) (nodes : List Node) (ts : Left) (r : Body × List Node × Left) → type_body_at turns nodes ts ≡ Ok r → begins_with_sign signs.Assignment ts ≡ true
unfolding type_body_at sign_at
type_begins turns nodes ts r h =
    let a = bind_ok (sign_at signs.Assignment ts) _ r h in
    chosen (begins_with_sign signs.Assignment ts) (Ok (others ts)) (Err (unexpected ts)) (Ok a.0) a.1 (begins_with_sign signs.Assignment ts ≡ true) (λ is _. is) (λ _ not. cc)

-- the name of a type is taken only where there is room for one
name_room : (assignments : List Assignment) (ts : Left) (name : List ℕ × Left) → new_assignment_at assignments ts ≡ Ok name → (begins_with_sign signs.Assignment name.1 && has_all_types assignments) ≡ false
unfolding new_assignment_at
name_room assignments ts name h =
    let upper = bind_ok (upper_at ts) _ name h in
    chosen (begins_with_sign signs.Assignment upper.0.1 && has_all_types assignments) _ _ (Ok name) upper.2 (Free name)
    (λ _ refused. cc)
    (λ free h. chosen (is_assigned upper.0.0 assignments) _ _ (Ok name) h (Free name)
    (λ _ refused. cc)
    (λ _ same. subst Free (ok_same (upper.0.0, upper.0.1) name same) free))
  where
    Free : List ℕ × Left → Type 0
    Free name = (begins_with_sign signs.Assignment name.1 && has_all_types assignments) ≡ false

body_room : (assignments : List Assignment) (turns : ℕ) (nodes : List Node) (ts : Left) (r : Body × List Node × Left) → (begins_with_sign signs.Assignment ts && has_all_types assignments) ≡ false → body_at turns nodes ts ≡ Ok r → HasRoom assignments r.0
unfolding body_at
body_room assignments turns nodes ts r free h =
    chosen (begins_with words.ProtocolIes ts) _ _ (Ok r) h (HasRoom assignments r.0)
    (λ _ ie. ie_room assignments turns nodes ts r ie)
    (λ _ h. chosen (begins_with words.ElementaryProcedure ts) _ _ (Ok r) h (HasRoom assignments r.0)
    (λ _ procedure. procedure_room assignments turns nodes ts r procedure)
    (λ _ body. record { room = λ _. left (begins_with_sign signs.Assignment ts) (type_begins turns nodes ts r body) free }))
  where
    left : (b : Bool) → b ≡ true → (b && has_all_types assignments) ≡ false → count_by is_type assignments < 1000
    left true p q = leb-false 1000 (count_by is_type assignments) q
    left false p q = cc

abbrev IsBounded : Parts → Type 0
IsBounded parts = count_by is_type parts.assignments ≤ 1000

one_more : (assignments : List Assignment) (a : Assignment) → count_by is_type assignments ≤ 1000 → HasRoom assignments a.body → count_by is_type (assignments ++ a ∷ []) ≤ 1000
one_more assignments a bound room =
    by_test (count_by is_type (assignments ++ a ∷ []) ≤ 1000) (is_type a)
    (λ is. omega (arith, sum_by-append (λ x. cond (is_type x) 1 0) assignments (a ∷ []), room.room is, ap (λ (b : Bool). cond {A = ℕ} b 1 0) is))
    (λ not. omega (arith, sum_by-append (λ x. cond (is_type x) 1 0) assignments (a ∷ []), ap (λ (b : Bool). cond {A = ℕ} b 1 0) not))

assignment_keeps : (turns : ℕ) (s : Parts) (ts : Left) (r : Parts × Left) → assignment_at turns s ts ≡ Ok r → IsBounded s → IsBounded r.0
unfolding assignment_at
assignment_keeps turns s ts r h bound =
    let name = bind_ok (new_assignment_at s.assignments ts) _ r h in
    let body = bind_ok (body_at turns s.nodes name.0.1) _ r name.2 in
    subst IsBounded (ap (λ (x : Parts × Left). x.0) (ok_same _ _ body.2))
    (one_more s.assignments (record { name = name.0.0; place = (first_place ts).start; body = body.0.0; end = length body.0.1 }) bound (body_room s.assignments turns s.nodes name.0.1 body.0 (name_room s.assignments ts name.0 name.1) body.1))

turn_keeps : (turns : ℕ) (s : Parts) (ts : Left) (t : Bool × Parts × Left) → module_turn_at turns s ts ≡ Ok t → IsBounded s → IsBounded t.1
unfolding module_turn_at
turn_keeps turns s ts t h bound =
    chosen (begins_with words.End ts) _ _ (Ok t) h (IsBounded t.1)
    (λ _ done. subst IsBounded (ap (λ (x : Bool × Parts × Left). x.1) (ok_same _ _ done)) bound)
    (λ _ more.
    let next = bind_ok (assignment_at turns s ts) _ t more in
    subst IsBounded (ap (λ (x : Bool × Parts × Left). x.1) (ok_same _ _ next.2)) (assignment_keeps turns s ts next.0 next.1 bound))

syntax_bounded : (turns : ℕ) (ts : Left) (s : Syntax) → syntax_at turns ts ≡ Ok s → count_by is_type s.assignments ≤ 1000
unfolding syntax_at assignments_at
syntax_bounded turns ts s h =
    let header = bind_ok (header_at ts) _ s h in
    let parts = bind_ok (repeat_at (module_turn_at turns) turns (no_assignments []) header.0.1) _ s header.2 in
    subst (λ (x : Syntax). count_by is_type x.assignments ≤ 1000) (ok_same _ _ parts.2)
    (repeat_keeps (module_turn_at turns) IsBounded (turn_keeps turns) turns (no_assignments []) header.0.1 parts.0 parts.1 (omega arith))

put-length : (body : Body) (ids : List _) → length (put_type (type_of body) ids) ≡ cond (is_type_body body) 1 0 + length ids
put-length (bodies.Type definition) ids = omega arith
put-length (bodies.IeSet rows) ids = omega arith
put-length (bodies.ProcedureSet rows) ids = omega arith

length-type_ids : (assignments : List Assignment) → length (type_ids assignments) ≡ count_by is_type assignments
unfolding type_ids
length-type_ids [] = refl
length-type_ids (a ∷ assignments) =
    put-length a.body (type_ids assignments)
    ∙ omega (arith, length-type_ids assignments, sum_by-append (λ x. cond (is_type x) 1 0) (a ∷ []) assignments)

-- the types of a module that was read
pub types_bounded : (text : List ℕ) (s : Syntax) → syntax_of text ≡ Ok s → length (type_ids s.assignments) ≤ 1000
types_bounded text s h = omega (arith, length-type_ids s.assignments, syntax_bounded (length text + 1) (items_of text) s h)

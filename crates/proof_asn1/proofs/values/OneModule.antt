-- Modules have one meaning.
use Rattle.std.proofs.Common.{◌≡◌, ℕ, List, ◌∷◌, length, refl, sym, ap}
use Rattle.asn1_tokens.specs.declared.token.Word.TheVariants as words
use Rattle.asn1_tokens.specs.declared.token.Token.TheVariants as tokens
use Rattle.asn1_tokens.specs.Stream.{Placed, first_place}
use Rattle.asn1_syntax.specs.declared.types.definition.TypeId.{TypeId}
use Rattle.asn1_syntax.specs.declared.types.definition.Node.{Node}
use Rattle.asn1_syntax.specs.types.Reading.{Left}
use Rattle.asn1_syntax.specs.declared.assignments.assignment.IeRow.{IeRow}
use Rattle.asn1_syntax.specs.declared.assignments.assignment.ProcedureRow.{ProcedureRow}
use Rattle.asn1_syntax.specs.declared.assignments.assignment.Body.{Body}
use Rattle.asn1_syntax.specs.declared.assignments.assignment.Body.TheVariants as bodies
use Rattle.asn1_syntax.specs.declared.assignments.assignment.Assignment.{Assignment}
use Rattle.asn1_syntax.specs.declared.assignments.assignment.Syntax.{Syntax}
use Rattle.asn1_defs.specs.ItemMeanings.{start_of}
use Rattle.asn1_defs.specs.ModuleMeanings.{MeansBody, a_type, ie_set, procedure_set, MeansAssignments, none, one as another, MeansModule, a_module}
use Rattle.proof_asn1.proofs.values.OneItem.{One, the_same, rest_one, upper_one}
use Rattle.proof_asn1.proofs.values.OneType.{OneValue, one_type, sign_word, upper_word}
use Rattle.proof_asn1.proofs.values.OneRow.{one_ie, one_procedure, rows_one}

sets_apart : {ts us : Left} → One (tokens.Word words.ProtocolIes) (tokens.Word words.ElementaryProcedure) ts us → ⊥
sets_apart one = let e = one.value in cc

body_one : {nodes others all every : List Node} {x y : Body} {ts us a b : Left} → nodes ≡ others → ts ≡ us → MeansBody nodes ts x all a → MeansBody others us y every b → OneValue x y all every a b
body_one n h (a_type a m) (a_type b k) = let one = one_type n (rest_one h a b) m k in record { value = ap (λ (x : TypeId). bodies.Type x) one.value; types = one.types; rest = one.rest }
body_one n h (ie_set a b c m) (ie_set d e f k) = let one = rows_one one_ie n (rest_one (rest_one (rest_one h a d) b e) c f) m k in record { value = ap (λ (x : List IeRow). bodies.IeSet x) one.value; types = one.types; rest = one.rest }
body_one n h (procedure_set a b c m) (procedure_set d e f k) = let one = rows_one one_procedure n (rest_one (rest_one (rest_one h a d) b e) c f) m k in record { value = ap (λ (x : List ProcedureRow). bodies.ProcedureSet x) one.value; types = one.types; rest = one.rest }
body_one n h (a_type a m) (ie_set b c d k) = absurd (sign_word (the_same h a b))
body_one n h (a_type a m) (procedure_set b c d k) = absurd (sign_word (the_same h a b))
body_one n h (ie_set b c d k) (a_type a m) = absurd (sign_word (the_same (sym h) a b))
body_one n h (procedure_set b c d k) (a_type a m) = absurd (sign_word (the_same (sym h) a b))
body_one n h (ie_set a b c m) (procedure_set d e f k) = absurd (sets_apart (the_same h a d))
body_one n h (procedure_set d e f k) (ie_set a b c m) = absurd (sets_apart (the_same (sym h) a d))

-- the same assignments, the same list of types and the same end
record OneList (x y : List Assignment) (all every : List Node) (m n : ℕ) : Type 0 where
  value : x ≡ y
  types : all ≡ every
  end : m ≡ n

assignments_one : {x y : List Assignment} {nodes others all every : List Node} {ts us : Left} {m n : ℕ} → nodes ≡ others → ts ≡ us → MeansAssignments nodes ts x all m → MeansAssignments others us y every n → OneList x y all every m n
assignments_one n h (none a) (none b) = record { value = refl; types = n; end = λ i. (first_place (h i)).end }
assignments_one n h (another a b m) (another c d k) =
    let name = upper_one h a c in
    let body = body_one n name.rest b d in
    let others = assignments_one body.types body.rest m k in
    record { value = λ i. record { name = name.value i; place = start_of (h i); body = body.value i; end = length (body.types i) } ∷ others.value i; types = others.types; end = others.end }
assignments_one n h (another a b m) (none c) = absurd (upper_word (the_same h a c))
assignments_one n h (none c) (another a b m) = absurd (upper_word (the_same (sym h) a c))

-- no items mean two modules
pub one_module : (ts : List Placed) (s t : Syntax) → MeansModule ts s → MeansModule ts t → s ≡ t
one_module ts s t (a_module n a b c d e m) (a_module n' a' b' c' d' e' k) =
    let name = upper_one refl n n' in
    let one = assignments_one refl (rest_one (rest_one (rest_one (rest_one (rest_one name.rest a a') b b') c c') d d') e e') m k in
    λ i. record { name = name.value i; assignments = one.value i; nodes = one.types i; end = one.end i }

-- The rows of sets have one meaning.
use Rattle.std.proofs.Common.{◌≡◌, List, [], ◌∷◌, refl, sym, ap, ◌∙◌, Option, Some}
use Rattle.asn1_tokens.specs.declared.token.Word.{Word}
use Rattle.asn1_tokens.specs.declared.token.Sign.TheVariants as signs
use Rattle.asn1_tokens.specs.declared.token.Token.TheVariants as tokens
use Rattle.asn1_syntax.specs.declared.types.definition.TypeId.{TypeId}
use Rattle.asn1_syntax.specs.declared.types.definition.Node.{Node}
use Rattle.asn1_syntax.specs.types.Reading.{Left}
use Rattle.asn1_syntax.specs.declared.assignments.assignment.Criticality.{Criticality}
use Rattle.asn1_syntax.specs.declared.assignments.assignment.Presence.{Presence}
use Rattle.asn1_syntax.specs.declared.assignments.assignment.IeRow.{IeRow}
use Rattle.asn1_syntax.specs.declared.assignments.assignment.ProcedureRow.{ProcedureRow}
use Rattle.asn1_syntax.specs.assignments.Rows.{criticality_of, presence_of}
use Rattle.asn1_defs.specs.RowMeanings.{ACriticality, criticality, APresence, presence, AnIe, ie, Outcome, outcome, no_outcome, AProcedure, procedure, Rows, last, more}
use Rattle.proof_asn1.proofs.values.OneItem.{One, the_same, rest_one, word_clash, number_one, lower_one}
use Rattle.proof_asn1.proofs.values.OneType.{OneValue, one_type}

-- what a row means, it alone means
pub record HasOne {R : Type 0} (Row : List Node → Left → R → List Node → Left → Type 0) : Type 0 where
  pub one : {nodes others all every : List Node} {x y : R} {ts us a b : Left} → nodes ≡ others → ts ≡ us → Row nodes ts x all a → Row others us y every b → OneValue x y all every a b

-- what is found of two equal names
found_one : {A B : Type 0} (find : A → Option B) {m n : A} {x y : B} → m ≡ n → find m ≡ Some x → find n ≡ Some y → x ≡ y
found_one find {x} {y} h f g = go (sym f ∙ ap find h ∙ g)
  where
    go : Some x ≡ Some y → x ≡ y
    go e = cc

criticality_one : {x y : Criticality} {ts us a b : Left} → ts ≡ us → ACriticality ts x a → ACriticality us y b → One x y a b
criticality_one h (criticality a f) (criticality b g) = let one = lower_one h a b in record { value = found_one criticality_of one.value f g; rest = one.rest }

presence_one : {x y : Presence} {ts us a b : Left} → ts ≡ us → APresence ts x a → APresence us y b → One x y a b
presence_one h (presence a f) (presence b g) = let one = lower_one h a b in record { value = found_one presence_of one.value f g; rest = one.rest }

ie_one : {nodes others all every : List Node} {x y : IeRow} {ts us a b : Left} → nodes ≡ others → ts ≡ us → AnIe nodes ts x all a → AnIe others us y every b → OneValue x y all every a b
ie_one n h (ie a b i c k t m p q e) (ie a' b' i' c' k' t' m' p' q' e') =
    let id = number_one (rest_one (rest_one h a a') b b') i i' in
    let level = criticality_one (rest_one id.rest c c') k k' in
    let type = one_type n (rest_one level.rest t t') m m' in
    let when = presence_one (rest_one type.rest p p') q q' in
    record { value = λ j. record { id = id.value j; criticality = level.value j; definition = type.value j; presence = when.value j }; types = type.types; rest = rest_one when.rest e e' }

outcome_one : {word : Word} {nodes others all every : List Node} {x y : Option TypeId} {ts us a b : Left} → nodes ≡ others → ts ≡ us → Outcome word nodes ts x all a → Outcome word others us y every b → OneValue x y all every a b
outcome_one n h (outcome a b m) (outcome c d k) = let one = one_type n (rest_one (rest_one h a c) b d) m k in record { value = ap (λ (x : TypeId). Some x) one.value; types = one.types; rest = one.rest }
outcome_one n h (outcome a b m) (no_outcome w) = word_clash h a w
outcome_one n h (no_outcome w) (outcome a b m) = word_clash (sym h) a w
outcome_one n h (no_outcome w) (no_outcome v) = record { value = refl; types = n; rest = h }

procedure_one : {nodes others all every : List Node} {x y : ProcedureRow} {ts us a b : Left} → nodes ≡ others → ts ≡ us → AProcedure nodes ts x all a → AProcedure others us y every b → OneValue x y all every a b
procedure_one n h (procedure a b c m s u p k i t q e) (procedure a' b' c' m' s' u' p' k' i' t' q' e') =
    let type = one_type n (rest_one (rest_one (rest_one h a a') b b') c c') m m' in
    let good = outcome_one type.types type.rest s s' in
    let bad = outcome_one good.types good.rest u u' in
    let code = number_one (rest_one (rest_one bad.rest p p') k k') i i' in
    let level = criticality_one (rest_one code.rest t t') q q' in
    record { value = λ j. record { initiating = type.value j; successful = good.value j; unsuccessful = bad.value j; code = code.value j; criticality = level.value j }; types = bad.types; rest = rest_one level.rest e e' }

bar_comma : {ts us : Left} → One (tokens.Sign signs.Bar) (tokens.Sign signs.Comma) ts us → ⊥
bar_comma one = let e = one.value in cc

pub rows_one : {R : Type 0} {Row : List Node → Left → R → List Node → Left → Type 0} → HasOne Row → {x y : List R} {nodes others all every : List Node} {ts us a b : Left} → nodes ≡ others → ts ≡ us → Rows Row nodes ts x all a → Rows Row others us y every b → OneValue x y all every a b
rows_one one n h (last r a b c) (last q d e f) =
    let row = one.one n h r q in
    record { value = λ i. row.value i ∷ []; types = row.types; rest = rest_one (rest_one (rest_one row.rest a d) b e) c f }
rows_one one n h (more r a m) (more q b k) =
    let row = one.one n h r q in
    let rows = rows_one one row.types (rest_one row.rest a b) m k in
    record { value = λ i. row.value i ∷ rows.value i; types = rows.types; rest = rows.rest }
rows_one one n h (more r a m) (last q b c d) = let row = one.one n h r q in absurd (bar_comma (the_same row.rest a b))
rows_one one n h (last q b c d) (more r a m) = let row = one.one n h q r in absurd (bar_comma (the_same (sym row.rest) a b))

pub one_ie : HasOne AnIe
one_ie = record { one = ie_one }

pub one_procedure : HasOne AProcedure
one_procedure = record { one = procedure_one }

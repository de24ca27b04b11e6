-- The rows of information object sets, and the sets.
use Rattle.std.proofs.lemmas.List.{map-append}
use Rattle.std.proofs.Common.{◌≡◌, ℕ, List, [], ◌∷◌, ◌++◌, map, Bool, true, false, cond, refl, sym, ap, ◌∙◌, subst, Option, Some, None}
use Rattle.std.specs.Prelude.{codes, nat_eq}
use Rattle.std.specs.Cmp.Lexicographic.{pointwise}
use Rattle.std.proofs.lemmas.Bool.{eqb-true}
use Rattle.gnb_types.proofs.Choices.{by_choice}
use Rattle.asn1_tokens.specs.declared.token.Word.{Word}
use Rattle.asn1_tokens.specs.declared.token.Word.TheVariants as words
use Rattle.asn1_tokens.specs.declared.token.Sign.TheVariants as signs
use Rattle.asn1_tokens.specs.Words.{is_text}
use Rattle.asn1_tokens.specs.Stream.{Placed}
use Rattle.asn1_syntax.specs.declared.types.definition.TypeId.{TypeId}
use Rattle.asn1_syntax.specs.declared.types.definition.Node.{Node}
use Rattle.asn1_syntax.specs.types.Reading.{Left, begins_with, begins_with_sign}
use Rattle.asn1_syntax.specs.declared.assignments.assignment.Criticality.{Criticality}
use Rattle.asn1_syntax.specs.declared.assignments.assignment.Criticality.TheVariants as criticalities
use Rattle.asn1_syntax.specs.declared.assignments.assignment.Presence.{Presence}
use Rattle.asn1_syntax.specs.declared.assignments.assignment.Presence.TheVariants as presences
use Rattle.asn1_syntax.specs.declared.assignments.assignment.IeRow.{IeRow}
use Rattle.asn1_syntax.specs.declared.assignments.assignment.ProcedureRow.{ProcedureRow}
use Rattle.asn1_syntax.specs.assignments.Rows.{criticality_of, presence_of}
use Rattle.asn1_syntax.specs.assignments.inside.Rows.{new_number_at, found_or, criticality_at, presence_at, has_id, ie_row_at, outcome_at, has_code, messages_at, procedure_row_at}
use Rattle.asn1_syntax.specs.assignments.inside.Sets.{set_goes_on_at, Rows, rows_with, ie_turn_at, procedure_turn_at, set_start_at, ie_set_at, procedure_set_at}
use Rattle.asn1_defs.specs.Links.{AreOrdered}
use Rattle.law_asn1.specs.text.Written.{Written, word, sign, natural, lower, separated, type_text, texts_of, criticality_name, presence_name, ie_row_text, outcome_text, procedure_row_text, rows_text}
use Rattle.proof_asn1.proofs.asn1_proof_syntax.Gives.{Gives, ok, no_value, and_gives, gives_so, and_parts, Next, repeat_gives}
use Rattle.law_asn1.proofs.text.Taken.{Taken, ◌then◌, nothing_taken, written_as, word_gives, sign_gives, lower_gives}
use Rattle.law_asn1.proofs.text.SizeTexts.{natural_gives}
use Rattle.law_asn1.proofs.text.MemberTexts.{each_with, with_sign, with_last}
use Rattle.law_asn1.proofs.text.TypeTexts.{Grows, grows_then, grows_not, type_gives}

pointwise_same : (a b : List ℕ) → pointwise nat_eq a b ≡ true → a ≡ b
pointwise_same [] [] h = refl
pointwise_same [] (y ∷ b) h = cc
pointwise_same (x ∷ a) [] h = cc
pointwise_same (x ∷ a) (y ∷ b) h =
    ap (λ (n : ℕ). n ∷ a) (eqb-true x y (and_parts _ _ h).0) ∙ ap (λ (l : List ℕ). y ∷ l) (pointwise_same a b (and_parts _ _ h).1)

text_same : (a b : List ℕ) → is_text a b ≡ true → a ≡ b
unfolding is_text
text_same a b h = pointwise_same a b h

new_number_gives : (taken : ℕ → Bool) (high : ℕ) (ts : List Placed) → Gives (λ (a : ℕ × Left). Taken (natural a.0) ts a.1) (new_number_at taken high ts)
unfolding new_number_at
new_number_gives taken high ts = and_gives (natural_gives 0 high ts) (λ number t.
    by_choice (Gives (λ (a : ℕ × Left). Taken (natural a.0) ts a.1)) (taken number.0) _ _ (λ _. no_value) (λ _. ok t.0))

criticality_gives : (ts : List Placed) → Gives (λ (a : Criticality × Left). Taken (lower (criticality_name a.0)) ts a.1) (criticality_at ts)
unfolding criticality_at criticality_of
criticality_gives ts = and_gives (lower_gives ts) (λ name t.
    found name.0 name.1 t (is_text name.0 (codes "reject")) (is_text name.0 (codes "ignore")) (is_text name.0 (codes "notify")) (text_same name.0 _) (text_same name.0 _) (text_same name.0 _))
  where
    named : (name : List ℕ) (us : Left) → Taken (lower name) ts us → (c : Criticality) → name ≡ criticality_name c → Gives (λ (a : Criticality × Left). Taken (lower (criticality_name a.0)) ts a.1) (found_or (Some c) ts us)
    named name us t c is = ok (subst (λ (n : List ℕ). Taken (lower n) ts us) is t)

    found : (name : List ℕ) (us : Left) → Taken (lower name) ts us → (a b c : Bool) → (a ≡ true → name ≡ codes "reject") → (b ≡ true → name ≡ codes "ignore") → (c ≡ true → name ≡ codes "notify") → Gives (λ (a : Criticality × Left). Taken (lower (criticality_name a.0)) ts a.1) (found_or (cond a (Some criticalities.Reject) (cond b (Some criticalities.Ignore) (cond c (Some criticalities.Notify) None))) ts us)
    found name us t true b c p q r = named name us t criticalities.Reject (p refl)
    found name us t false true c p q r = named name us t criticalities.Ignore (q refl)
    found name us t false false true p q r = named name us t criticalities.Notify (r refl)
    found name us t false false false p q r = no_value

presence_gives : (ts : List Placed) → Gives (λ (a : Presence × Left). Taken (lower (presence_name a.0)) ts a.1) (presence_at ts)
unfolding presence_at presence_of
presence_gives ts = and_gives (lower_gives ts) (λ name t.
    found name.0 name.1 t (is_text name.0 (codes "mandatory")) (is_text name.0 (codes "optional")) (text_same name.0 _) (text_same name.0 _))
  where
    named : (name : List ℕ) (us : Left) → Taken (lower name) ts us → (c : Presence) → name ≡ presence_name c → Gives (λ (a : Presence × Left). Taken (lower (presence_name a.0)) ts a.1) (found_or (Some c) ts us)
    named name us t c is = ok (subst (λ (n : List ℕ). Taken (lower n) ts us) is t)

    found : (name : List ℕ) (us : Left) → Taken (lower name) ts us → (a b : Bool) → (a ≡ true → name ≡ codes "mandatory") → (b ≡ true → name ≡ codes "optional") → Gives (λ (a : Presence × Left). Taken (lower (presence_name a.0)) ts a.1) (found_or (cond a (Some presences.Mandatory) (cond b (Some presences.Optional) None)) ts us)
    found name us t true b p q = named name us t presences.Mandatory (p refl)
    found name us t false true p q = named name us t presences.Optional (q refl)
    found name us t false false p q = no_value

-- ---- rows, where these are all types of the module

abbrev RowFacts : {R : Type 0} → (List Written → R → Written) → List Node → List Node → List Placed → R × List Node × Left → Type 0
RowFacts text all old ts a = Grows old a.1 × (Grows a.1 all → Taken (text (texts_of all) a.0) ts a.2)

ie_row_gives : (all : List Node) → AreOrdered 0 all → (turns : ℕ) (rows : List IeRow) (nodes : List Node) (ts : List Placed) → Gives (RowFacts ie_row_text all nodes ts) (ie_row_at turns rows nodes ts)
unfolding ie_row_at
ie_row_gives all ordered turns rows nodes ts = and_gives (sign_gives signs.LeftBrace ts) (λ a t1.
    and_gives (word_gives words.Id a) (λ b t2.
    and_gives (new_number_gives (λ id. has_id id rows) 65535 b) (λ id t3.
    and_gives (word_gives words.Criticality id.1) (λ c t4.
    and_gives (criticality_gives c) (λ criticality t5.
    and_gives (word_gives words.Type criticality.1) (λ d t6.
    and_gives (type_gives all ordered turns nodes d) (λ definition t7.
    and_gives (word_gives words.Presence definition.2) (λ e t8.
    and_gives (presence_gives e) (λ presence t9.
    and_gives (sign_gives signs.RightBrace presence.1) (λ f t10.
    ok (t7.0, λ grows. t1 then t2 then t3 then t4 then t5 then t6 then t7.1 grows then t8 then t9 then t10)))))))))))

-- an outcome that may be absent
outcome_gives : (all : List Node) → AreOrdered 0 all → (turns : ℕ) (w : Word) (nodes : List Node) (ts : List Placed) → Gives (RowFacts (λ texts. outcome_text texts w) all nodes ts) (outcome_at turns w nodes ts)
unfolding outcome_at
outcome_gives all ordered turns w nodes ts = by_choice (Gives (RowFacts (λ texts. outcome_text texts w) all nodes ts)) (begins_with w ts) _ _
    (λ _. and_gives (word_gives w ts) (λ a t1.
    and_gives (word_gives words.Outcome a) (λ b t2.
    and_gives (type_gives all ordered turns nodes b) (λ definition t3. ok (t3.0, λ grows. t1 then t2 then t3.1 grows)))))
    (λ _. ok (grows_not nodes, λ _. nothing_taken ts))

abbrev messages_text : List Written → TypeId × Option TypeId × Option TypeId × List Node × Left → Written
messages_text texts a tail = word words.Initiating (word words.Message (type_text texts a.0 (outcome_text texts words.Successful a.1 (outcome_text texts words.Unsuccessful a.2 tail))))

messages_gives : (all : List Node) → AreOrdered 0 all → (turns : ℕ) (nodes : List Node) (ts : List Placed) → Gives (λ (a : TypeId × Option TypeId × Option TypeId × List Node × Left). Grows nodes a.3 × (Grows a.3 all → Taken (messages_text (texts_of all) a) ts a.4)) (messages_at turns nodes ts)
unfolding messages_at
messages_gives all ordered turns nodes ts = and_gives (word_gives words.Initiating ts) (λ a t1.
    and_gives (word_gives words.Message a) (λ b t2.
    and_gives (type_gives all ordered turns nodes b) (λ initiating t3.
    and_gives (outcome_gives all ordered turns words.Successful initiating.1 initiating.2) (λ good t4.
    and_gives (outcome_gives all ordered turns words.Unsuccessful good.1 good.2) (λ bad t5.
    ok (
      grows_then nodes initiating.1 bad.1 t3.0 (grows_then initiating.1 good.1 bad.1 t4.0 t5.0),
      λ grows. t1 then t2 then t3.1 (grows_then initiating.1 good.1 all t4.0 (grows_then good.1 bad.1 all t5.0 grows)) then t4.1 (grows_then good.1 bad.1 all t5.0 grows) then t5.1 grows,
    ))))))

procedure_row_gives : (all : List Node) → AreOrdered 0 all → (turns : ℕ) (rows : List ProcedureRow) (nodes : List Node) (ts : List Placed) → Gives (RowFacts procedure_row_text all nodes ts) (procedure_row_at turns rows nodes ts)
unfolding procedure_row_at
procedure_row_gives all ordered turns rows nodes ts = and_gives (sign_gives signs.LeftBrace ts) (λ a t1.
    and_gives (messages_gives all ordered turns nodes a) (λ messages t2.
    and_gives (word_gives words.Procedure messages.4) (λ b t3.
    and_gives (word_gives words.Code b) (λ c t4.
    and_gives (new_number_gives (λ code. has_code code rows) 255 c) (λ code t5.
    and_gives (word_gives words.Criticality code.1) (λ d t6.
    and_gives (criticality_gives d) (λ criticality t7.
    and_gives (sign_gives signs.RightBrace criticality.1) (λ e t8.
    ok (t2.0, λ grows. t1 then t2.1 grows then t3 then t4 then t5 then t6 then t7 then t8)))))))))

-- ---- sets

-- another row follows, or `, ...}`
abbrev set_more_text : Bool → Written
set_more_text more tail = cond more (sign signs.Bar tail) (sign signs.Comma (sign signs.Ellipsis (sign signs.RightBrace tail)))

set_goes_on_gives : (ts : List Placed) → Gives (λ (a : Bool × Left). Taken (set_more_text a.0) ts a.1) (set_goes_on_at ts)
unfolding set_goes_on_at
set_goes_on_gives ts = by_choice (Gives (λ (a : Bool × Left). Taken (set_more_text a.0) ts a.1)) (begins_with_sign signs.Bar ts) _ _
    (λ _. and_gives (sign_gives signs.Bar ts) (λ a t. ok t))
    (λ _. and_gives (sign_gives signs.Comma ts) (λ a t1.
    and_gives (sign_gives signs.Ellipsis a) (λ b t2.
    and_gives (sign_gives signs.RightBrace b) (λ c t3. ok (t1 then t2 then t3)))))

abbrev RowsSoFar : {R : Type 0} → (List Written → R → Written) → List Node → List Node → List Placed → Rows R → Left → Type 0
RowsSoFar text all old start rows ts = Grows old rows.nodes × (Grows rows.nodes all → Taken (each_with signs.Bar (map (text (texts_of all)) rows.rows)) start ts)

abbrev RowsClosed : {R : Type 0} → (List Written → R → Written) → List Node → List Node → List Placed → Rows R → Left → Type 0
RowsClosed text all old start rows ts = Grows old rows.nodes × (Grows rows.nodes all → Taken (λ t. separated signs.Bar (map (text (texts_of all)) rows.rows) (sign signs.Comma (sign signs.Ellipsis (sign signs.RightBrace t)))) start ts)

row_put : {R : Type 0} (text : List Written → R → Written) (all old : List Node) (start : List Placed) (rows : List R) (nodes new : List Node) (row : R) (us : Left) → Grows old nodes → Grows nodes new → (more : Bool) → (Grows new all → Taken (λ t. each_with signs.Bar (map (text (texts_of all)) rows) (text (texts_of all) row (set_more_text more t))) start us) → (more ≡ true → RowsSoFar text all old start (rows_with (rows ++ row ∷ []) new) us) × (more ≡ false → RowsClosed text all old start (rows_with (rows ++ row ∷ []) new) us)
row_put text all old start rows nodes new row us grew grows true took =
    (λ _. (grows_then old nodes new grew grows, λ up. written_as (each_with signs.Bar (map (text (texts_of all)) (rows ++ row ∷ []))) (λ t. with_sign signs.Bar (map (text (texts_of all)) rows) (text (texts_of all) row) t ∙ ap (λ (l : List Written). each_with signs.Bar l t) (sym (map-append (text (texts_of all)) rows (row ∷ [])))) (took up)), λ h. cc)
row_put text all old start rows nodes new row us grew grows false took =
    (λ h. cc, λ _. (grows_then old nodes new grew grows, λ up. written_as (λ t. separated signs.Bar (map (text (texts_of all)) (rows ++ row ∷ [])) (sign signs.Comma (sign signs.Ellipsis (sign signs.RightBrace t)))) (λ t. with_last signs.Bar (map (text (texts_of all)) rows) (text (texts_of all) row) (sign signs.Comma (sign signs.Ellipsis (sign signs.RightBrace t))) ∙ ap (λ (l : List Written). separated signs.Bar l (sign signs.Comma (sign signs.Ellipsis (sign signs.RightBrace t)))) (sym (map-append (text (texts_of all)) rows (row ∷ [])))) (took up)))

ie_turn_gives : (all old : List Node) (start : List Placed) → AreOrdered 0 all → (turns : ℕ) (so_far : Rows IeRow) (ts : List Placed) → RowsSoFar ie_row_text all old start so_far ts → Gives (Next (RowsSoFar ie_row_text all old start) (RowsClosed ie_row_text all old start)) (ie_turn_at turns so_far ts)
unfolding ie_turn_at
ie_turn_gives all old start ordered turns so_far ts p = and_gives (ie_row_gives all ordered turns so_far.rows so_far.nodes ts) (λ row t1.
    and_gives (set_goes_on_gives row.2) (λ more t2.
    ok (row_put ie_row_text all old start so_far.rows so_far.nodes row.1 row.0 more.1 p.0 t1.0 more.0 (λ up. p.1 (grows_then so_far.nodes row.1 all t1.0 up) then t1.1 up then t2))))

procedure_turn_gives : (all old : List Node) (start : List Placed) → AreOrdered 0 all → (turns : ℕ) (so_far : Rows ProcedureRow) (ts : List Placed) → RowsSoFar procedure_row_text all old start so_far ts → Gives (Next (RowsSoFar procedure_row_text all old start) (RowsClosed procedure_row_text all old start)) (procedure_turn_at turns so_far ts)
unfolding procedure_turn_at
procedure_turn_gives all old start ordered turns so_far ts p = and_gives (procedure_row_gives all ordered turns so_far.rows so_far.nodes ts) (λ row t1.
    and_gives (set_goes_on_gives row.2) (λ more t2.
    ok (row_put procedure_row_text all old start so_far.rows so_far.nodes row.1 row.0 more.1 p.0 t1.0 more.0 (λ up. p.1 (grows_then so_far.nodes row.1 all t1.0 up) then t1.1 up then t2))))

set_start_gives : (ts : List Placed) → Gives (λ us. Taken (λ t. sign signs.Assignment (sign signs.LeftBrace t)) ts us) (set_start_at ts)
unfolding set_start_at
set_start_gives ts = and_gives (sign_gives signs.Assignment ts) (λ a t1. gives_so (sign_gives signs.LeftBrace a) (λ b t2. t1 then t2))

abbrev SetFacts : {R : Type 0} → (List Written → R → Written) → List Node → List Node → List Placed → Rows R × Left → Type 0
SetFacts text all old ts a = Grows old a.0.nodes × (Grows a.0.nodes all → Taken (rows_text (map (text (texts_of all)) a.0.rows)) ts a.1)

pub ie_set_gives : (all : List Node) → AreOrdered 0 all → (turns : ℕ) (nodes : List Node) (ts : List Placed) → Gives (SetFacts ie_row_text all nodes ts) (ie_set_at turns nodes ts)
unfolding ie_set_at each_with
ie_set_gives all ordered turns nodes ts = and_gives (set_start_gives ts) (λ a t1.
    gives_so (repeat_gives (ie_turn_at turns) (RowsSoFar ie_row_text all nodes a) (RowsClosed ie_row_text all nodes a) (λ so_far us p. ie_turn_gives all nodes a ordered turns so_far us p) turns (rows_with [] nodes) a (grows_not nodes, λ _. nothing_taken a)) (λ set t2. (t2.0, λ up. t1 then t2.1 up)))

pub procedure_set_gives : (all : List Node) → AreOrdered 0 all → (turns : ℕ) (nodes : List Node) (ts : List Placed) → Gives (SetFacts procedure_row_text all nodes ts) (procedure_set_at turns nodes ts)
unfolding procedure_set_at each_with
procedure_set_gives all ordered turns nodes ts = and_gives (set_start_gives ts) (λ a t1.
    gives_so (repeat_gives (procedure_turn_at turns) (RowsSoFar procedure_row_text all nodes a) (RowsClosed procedure_row_text all nodes a) (λ so_far us p. procedure_turn_gives all nodes a ordered turns so_far us p) turns (rows_with [] nodes) a (grows_not nodes, λ _. nothing_taken a)) (λ set t2. (t2.0, λ up. t1 then t2.1 up)))

-- What rows of sets mean that were read.
use Rattle.std.proofs.Common.{◌≡◌, ℕ, List, Bool, refl, Option, Some, None}
use Rattle.std.specs.Prelude.{Ok, pos}
use Rattle.gnb_types.proofs.Choices.{by_choice}
use Rattle.asn1_tokens.specs.declared.token.Word.{Word}
use Rattle.asn1_tokens.specs.declared.token.Word.TheVariants as words
use Rattle.asn1_tokens.specs.declared.token.Sign.TheVariants as signs
use Rattle.asn1_tokens.specs.declared.token.Token.TheVariants as tokens
use Rattle.asn1_syntax.specs.declared.types.definition.TypeId.{TypeId}
use Rattle.asn1_syntax.specs.declared.types.definition.Node.{Node}
use Rattle.asn1_syntax.specs.types.Reading.{Left, begins_with}
use Rattle.asn1_syntax.specs.types.inside.Reading.{◌>>=◌, word_at, sign_at}
use Rattle.asn1_syntax.specs.declared.assignments.assignment.Criticality.{Criticality}
use Rattle.asn1_syntax.specs.declared.assignments.assignment.Presence.{Presence}
use Rattle.asn1_syntax.specs.declared.assignments.assignment.IeRow.{IeRow}
use Rattle.asn1_syntax.specs.declared.assignments.assignment.ProcedureRow.{ProcedureRow}
use Rattle.asn1_syntax.specs.assignments.Rows.{criticality_of, presence_of}
use Rattle.asn1_syntax.specs.assignments.inside.Rows.{new_number_at, found_or, criticality_at, presence_at, has_id, ie_row_at, outcome_at, has_code, messages_at, procedure_row_at}
use Rattle.proof_asn1.proofs.asn1_proof_syntax.Gives.{Gives, ok, no_value, and_gives}
use Rattle.asn1_defs.specs.ItemMeanings.{The}
use Rattle.asn1_defs.specs.TypeMeanings.{AType, Means}
use Rattle.asn1_defs.specs.RowMeanings.{ACriticality, criticality, APresence, presence, AnIe, ie, Outcome, outcome, no_outcome, AProcedure, procedure}
use Rattle.proof_asn1.proofs.values.Taken.{the_word_gives, the_sign_gives, the_lower_gives, the_natural_gives}
use Rattle.proof_asn1.proofs.values.TypeTaken.{type_gives}

-- ---- parts of rows

new_number_gives : (taken : ℕ → Bool) (high : ℕ) (ts : Left) → Gives (λ (a : ℕ × Left). The (tokens.Number (pos a.0)) ts a.1) (new_number_at taken high ts)
unfolding new_number_at
new_number_gives taken high ts = and_gives (the_natural_gives 0 high ts) (λ number t.
    by_choice (Gives (λ (a : ℕ × Left). The (tokens.Number (pos a.0)) ts a.1)) (taken number.0) _ _ (λ _. no_value) (λ _. ok t))

found_gives : {X : Type 0} (P : X × Left → Type 0) (found : Option X) (ts after : Left) → ((x : X) → found ≡ Some x → P (x, after)) → Gives P (found_or found ts after)
found_gives P None ts after on = no_value
found_gives P (Some x) ts after on = ok (on x refl)

criticality_gives : (ts : Left) → Gives (λ (a : Criticality × Left). ACriticality ts a.0 a.1) (criticality_at ts)
unfolding criticality_at
criticality_gives ts = and_gives (the_lower_gives ts) (λ name t.
    found_gives (λ (a : Criticality × Left). ACriticality ts a.0 a.1) (criticality_of name.0) ts name.1 (λ x is. criticality t is))

presence_gives : (ts : Left) → Gives (λ (a : Presence × Left). APresence ts a.0 a.1) (presence_at ts)
unfolding presence_at
presence_gives ts = and_gives (the_lower_gives ts) (λ name t.
    found_gives (λ (a : Presence × Left). APresence ts a.0 a.1) (presence_of name.0) ts name.1 (λ x is. presence t is))

abbrev MeansOutcome : Word → List Node → Left → Option TypeId × List Node × Left → Type 0
MeansOutcome w nodes ts a = Outcome w nodes ts a.0 a.1 a.2

outcome_gives : (turns : ℕ) (w : Word) (nodes : List Node) (ts : Left) → Gives (MeansOutcome w nodes ts) (outcome_at turns w nodes ts)
unfolding outcome_at
outcome_gives turns w nodes ts = by_choice (Gives (MeansOutcome w nodes ts)) (begins_with w ts) _ _
    (λ _. and_gives (the_word_gives w ts) (λ a t1.
    and_gives (the_word_gives words.Outcome a) (λ b t2.
    and_gives (type_gives turns nodes b) (λ definition m. ok (outcome t1 t2 m)))))
    (λ h. ok (no_outcome h))

-- ---- rows

pub ie_row_gives : (turns : ℕ) (rows : List IeRow) (nodes : List Node) (ts : Left) → Gives (λ (a : IeRow × List Node × Left). AnIe nodes ts a.0 a.1 a.2) (ie_row_at turns rows nodes ts)
unfolding ie_row_at
ie_row_gives turns rows nodes ts = and_gives (the_sign_gives signs.LeftBrace ts) (λ a t1.
    and_gives (the_word_gives words.Id a) (λ b t2.
    and_gives (new_number_gives (λ id. has_id id rows) 65535 b) (λ id t3.
    and_gives (the_word_gives words.Criticality id.1) (λ c t4.
    and_gives (criticality_gives c) (λ found t5.
    and_gives (the_word_gives words.Type found.1) (λ d t6.
    and_gives (type_gives turns nodes d) (λ definition m.
    and_gives (the_word_gives words.Presence definition.2) (λ e t7.
    and_gives (presence_gives e) (λ given t8.
    and_gives (the_sign_gives signs.RightBrace given.1) (λ f t9.
    ok (ie t1 t2 t3 t4 t5 t6 m t7 t8 t9)))))))))))

-- the types of the messages of a procedure
data Messages (nodes : List Node) (ts : Left) (a : TypeId × Option TypeId × Option TypeId × List Node × Left) : Type 0 where
  messages : {inside further : List Node} {b c d e : Left} → The (tokens.Word words.Initiating) ts b → The (tokens.Word words.Message) b c → Means AType nodes c a.0 inside d
      → Outcome words.Successful inside d a.1 further e → Outcome words.Unsuccessful further e a.2 a.3 a.4 → Messages nodes ts a

messages_gives : (turns : ℕ) (nodes : List Node) (ts : Left) → Gives (Messages nodes ts) (messages_at turns nodes ts)
unfolding messages_at
messages_gives turns nodes ts = and_gives (the_word_gives words.Initiating ts) (λ a t1.
    and_gives (the_word_gives words.Message a) (λ b t2.
    and_gives (type_gives turns nodes b) (λ initiating m.
    and_gives (outcome_gives turns words.Successful initiating.1 initiating.2) (λ good t3.
    and_gives (outcome_gives turns words.Unsuccessful good.1 good.2) (λ bad t4.
    ok (messages t1 t2 m t3 t4))))))

abbrev pub MeansProcedure : List Node → Left → ProcedureRow × List Node × Left → Type 0
MeansProcedure nodes ts a = AProcedure nodes ts a.0 a.1 a.2

-- behind the messages
procedure_rest_gives : (nodes : List Node) (ts b : Left) (a : TypeId × Option TypeId × Option TypeId × List Node × Left) (rows : List ProcedureRow) → The (tokens.Sign signs.LeftBrace) ts b → Messages nodes b a → Gives (MeansProcedure nodes ts) (do
  c ← word_at words.Procedure a.4
  d ← word_at words.Code c
  code ← new_number_at (λ code. has_code code rows) 255 d
  e ← word_at words.Criticality code.1
  found ← criticality_at e
  f ← sign_at signs.RightBrace found.1
  Ok (record { initiating = a.0; successful = a.1; unsuccessful = a.2; code = code.0; criticality = found.0 }, a.3, f))
procedure_rest_gives nodes ts b a rows t1 (messages t2 t3 m good bad) = and_gives (the_word_gives words.Procedure a.4) (λ c t4.
    and_gives (the_word_gives words.Code c) (λ d t5.
    and_gives (new_number_gives (λ code. has_code code rows) 255 d) (λ code t6.
    and_gives (the_word_gives words.Criticality code.1) (λ e t7.
    and_gives (criticality_gives e) (λ found t8.
    and_gives (the_sign_gives signs.RightBrace found.1) (λ f t9.
    ok (procedure t1 t2 t3 m good bad t4 t5 t6 t7 t8 t9)))))))

pub procedure_row_gives : (turns : ℕ) (rows : List ProcedureRow) (nodes : List Node) (ts : Left) → Gives (MeansProcedure nodes ts) (procedure_row_at turns rows nodes ts)
unfolding procedure_row_at
procedure_row_gives turns rows nodes ts = and_gives (the_sign_gives signs.LeftBrace ts) (λ b t1.
    and_gives (messages_gives turns nodes b) (λ a t2. procedure_rest_gives nodes ts b a rows t1 t2))

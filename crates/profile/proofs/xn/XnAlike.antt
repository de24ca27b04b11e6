-- Values, layouts and questions of XnAP-PDU don't depend on OPTIONAL at the addition.
use Rattle.std.proofs.Common.{◌≡◌, ℕ, zero, suc, ◌+◌, ◌==◌, ◌≤◌, List, [], ◌∷◌, ◌++◌, Bool, true, false, refl, sym, ap, ◌∙◌, subst}
use Rattle.std.proofs.Math.Path.{fun_ext}
use Rattle.std.specs.Prelude.{if◌then◌else◌}
use Rattle.aper_defs.specs.Values.{Value, Options, components, message, no_options, absent, present}
use Rattle.aper_defs.specs.Fields.{Path, Field, outcome, flag, constrained, small, closing}
use Rattle.aper_defs.specs.Fields as fields
use Rattle.aper_defs.specs.Bits.{octet_count, closed, open_fields}
use Rattle.aper_defs.specs.Layouts.{message_head, layout, addition_fields, body_fields, outcome_fields}
use Rattle.aper_defs.specs.Membership.{Has, HasAdditions, HasBody, HasOutcome}
use Rattle.aper_defs.specs.Questions.{Prog, done, ask, ask_aligned, ask_extension, ask_flags, ask_open, ask_raw}
use Rattle.aper_defs.specs.Asking.{ask_marks, asks, ask_components, ask_additions, ask_outcome, ask_body, asks_whole}
use Rattle.message_defs.specs.profile_defs.Forms.{tree, parts, rows, procedures, outcome_tree, some_form}
use Rattle.message_defs.specs.profile_defs.Tables.{message_form, procedure_rows}
use Rattle.message_defs.specs.profile_defs.Messages.{handover_request_acknowledge, handover_preparation_failure}
use Rattle.profile.specs.xn.Alike.{IsAlike}
use Rattle.profile.proofs.xn.XnForms.{additions, root, later_messages, messages, xn_form, request_tree}

-- ---- layouts and values
same_request : (a b : Bool) (q : Path) (v : Value) → layout q (request_tree a) v ≡ layout q (request_tree b) v
unfolding tree parts rows layout addition_fields
same_request a b q (components vs no_options) = refl
same_request a b q (components vs (absent more)) = refl
same_request a b q (components vs (present v more)) = refl
same_request a b q v = refl

has_request : (a b : Bool) (q : Path) (v : Value) → Has q (request_tree a) v → Has q (request_tree b) v
unfolding tree parts rows Has HasAdditions
has_request a b q (components vs no_options) h = h
has_request a b q (components vs (absent more)) h = h
has_request a b q (components vs (present v more)) h = h
has_request a b q v h = absurd h

same_pdu : (a b : Bool) (v : Value) → layout [] (tree (xn_form a)) v ≡ layout [] (tree (xn_form b)) v
unfolding tree parts rows procedures outcome_tree layout body_fields outcome_fields
same_pdu a b (message zero zero criticality body) = refl
same_pdu a b (message zero (suc zero) criticality body) =
    ap (λ (fs : List Field). message_head [] 0 1 criticality ++ open_fields [] (outcome 0 ∷ []) fs) (same_request a b (outcome 0 ∷ []) body)
same_pdu a b (message zero (suc (suc code)) criticality body) = refl
same_pdu a b (message (suc index) zero criticality body) = refl
same_pdu a b (message (suc index) (suc zero) criticality body) = refl
same_pdu a b (message (suc index) (suc (suc code)) criticality body) = refl
same_pdu a b v = refl

has_pdu : (a b : Bool) (v : Value) → Has [] (tree (xn_form a)) v → Has [] (tree (xn_form b)) v
unfolding tree parts rows procedures outcome_tree Has HasBody HasOutcome layout
has_pdu a b (message zero zero criticality body) h = h
has_pdu a b (message zero (suc zero) criticality body) h = (
  h.0,
  h.1,
  (
    has_request a b (outcome 0 ∷ []) body h.2.0,
    subst (λ (fs : List Field). octet_count (closed (outcome 0 ∷ []) fs) ≤ 16383) (same_request a b (outcome 0 ∷ []) body) h.2.1,
  ),
)
has_pdu a b (message zero (suc (suc code)) criticality body) h = h
has_pdu a b (message (suc index) zero criticality body) h = h
has_pdu a b (message (suc index) (suc zero) criticality body) h = h
has_pdu a b (message (suc index) (suc (suc code)) criticality body) h = h
has_pdu a b v h = absurd h

-- ---- questions
same_additions : (a b : Bool) (q : Path) (there : List Bool) (K : Options → Prog)
    → ask_additions q (parts (additions a)) there K ≡ ask_additions q (parts (additions b)) there K
unfolding tree parts ask_additions
same_additions a b q [] K = refl
same_additions a b q (false ∷ there) K = refl
same_additions a b q (true ∷ there) K = refl

-- what is asked of a request, with these questions for its additions
abbrev asks_around : Path → (List Bool → (Options → Prog) → Prog) → (Value → Prog) → Prog
asks_around q F K = ask_extension q true (λ extended. ask_flags q (parts root) (λ there. ask_components q (parts root) there (λ vs.
    ask_marks q extended (λ added. F added (λ more. K (components vs more))))))

same_questions : (a b : Bool) (q : Path) (K : Value → Prog) → asks q (request_tree a) K ≡ asks q (request_tree b) K
unfolding tree parts asks
same_questions a b q K = ap (λ (F : List Bool → (Options → Prog) → Prog). asks_around q F K)
    (fun_ext (λ there. fun_ext (λ L. same_additions a b q there L)))

-- what is asked of a PDU, with these questions for a request
abbrev asks_body : (Path → (Value → Prog) → Prog) → ℕ → ℕ → (Value → Prog) → Prog
asks_body G index code K = if 1 == code
    then (if index == 0 then ask_open [] (fields.outcome index ∷ []) (λ L. G (fields.outcome index ∷ []) L) K
    else if index == 1 then ask_outcome [] index (outcome_tree (some_form (message_form handover_request_acknowledge))) K
    else ask_outcome [] index (outcome_tree (some_form (message_form handover_preparation_failure))) K)
    else ask_body [] (procedures (procedure_rows (messages false) later_messages)) index code K

abbrev asks_with : (Path → (Value → Prog) → Prog) → (Value → Prog) → Prog
asks_with G K = ask [] flag (λ b. if b == 1
    then ask [] (small fields.index) (λ n. ask_raw [] [] (λ v. K (message (3 + n) 0 0 v)))
    else ask [] (constrained fields.index 2 2) (λ index. ask_aligned [] (constrained fields.index 8 255) (λ code.
    ask [] (constrained fields.index 2 2) (λ criticality.
    asks_body G index code (λ v. K (message index code criticality v))))))

asks_pdu : (a : Bool) → asks_whole (tree (xn_form a)) ≡ asks_with (λ q L. asks q (request_tree a) L) (λ v. ask [] closing (λ m. done v))
unfolding tree parts rows procedures outcome_tree asks ask_body ask_outcome
asks_pdu a = refl

same_whole : (a b : Bool) → asks_whole (tree (xn_form a)) ≡ asks_whole (tree (xn_form b))
same_whole a b = asks_pdu a
    ∙ ap (λ (G : Path → (Value → Prog) → Prog). asks_with G (λ v. ask [] closing (λ m. done v)))
    (fun_ext (λ q. fun_ext (λ L. same_questions a b q L)))
    ∙ sym (asks_pdu b)

pub forms_alike : (a b : Bool) → IsAlike (tree (xn_form a)) (tree (xn_form b))
forms_alike a b = record { has = has_pdu a b; had = has_pdu b a; layouts = same_pdu a b; questions = same_whole a b }

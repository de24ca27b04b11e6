-- Tokens: what is heard in a value is the token that the value says.
use Rattle.std.proofs.Common.{◌≡◌, ℕ, ◌==◌, Bool, true, false, cond, [], ◌∷◌, Result, Ok, Err, refl, sym, ap, subst, ◌∙◌}
use Rattle.std.specs.Prelude.{codes}
use Rattle.message_types.specs.declared.rrc.Token.{Token}
use Rattle.message_types.specs.declared.rrc.Token.TheVariants as tokens
use Rattle.aper_defs.specs.Values.{Value, enumeral, components, chosen, no_options, absent, present}
use Rattle.aper_defs.specs.Fields.{Path}
use Rattle.aper_defs.specs.Fields as fields
use Rattle.aper_defs.specs.Membership.{Has, HasComponents, HasAlternative}
use Rattle.proof_aper.proofs.answers.NumberFacts.{same, is_same}
use Rattle.message_defs.specs.profile_defs.Forms.{tree, parts}
use Rattle.message_defs.specs.profile_defs.Tokens as forms
use Rattle.message_defs.specs.profile_defs.Profile.{token_type}
use Rattle.message_defs.specs.Known.{known, known_components, known_additions, known_part}
use Rattle.message_defs.specs.Fields.{from_number, to_number, from_ue, to_ue, to_index, gnb_index, gnb_at}
use Rattle.message_defs.specs.FromValue.{Cause, unknown_procedure}
use Rattle.message_defs.specs.Tokens.{written_mark, written_token, component_in, components_in, token_from_value}
use Rattle.proof_heard_messages.proofs.HeardTokens.{heard}
use Rattle.proof_messages.proofs.message_elements.Rounds.{ue_is, word_is, gnb_is, unit_is}

differs : (let b : Bool = false in b) ≡ true → ⊥
differs h = cc

two : Value → Value → Value
two a b = components (present a (present b no_options)) no_options

four : Value → Value → Value → Value → Value
four a b c d = components (present a (present b (present c (present d no_options)))) no_options

module _ (p : Path) where
  mark_is : (v : Value) → Has p (tree forms.mark) v → known (tree forms.mark) v
      ≡ written_mark (to_ue (component_in 0 (components_in v))) (to_number (component_in 1 (components_in v)))
  unfolding tree parts known known_components known_additions Has HasComponents two
  mark_is (components (present u (present e no_options)) more) h = sym (
      ap (λ (v : Value). two v (from_number (to_number e))) (ue_is (fields.component (codes "ue") ∷ p) u h.0.0)
      ∙ ap (λ (v : Value). two u v) (word_is (fields.component (codes "epoch") ∷ p) e h.0.1.0))
  mark_is (components no_options more) h = absurd h.0
  mark_is (components (absent vs) more) h = absurd (differs h.0.0)
  mark_is (components (present u no_options) more) h = absurd h.0.1
  mark_is (components (present u (absent vs)) more) h = absurd (differs h.0.1.0)
  mark_is (components (present u (present e (absent vs))) more) h = absurd h.0.1.1
  mark_is (components (present u (present e (present v vs))) more) h = absurd h.0.1.1
  mark_is v h = absurd h

  command_is : (v : Value) → Has p (tree forms.command) v → known (tree forms.command) v
      ≡ four (from_ue (to_ue (component_in 0 (components_in v)))) (from_number (to_number (component_in 1 (components_in v))))
      (enumeral (gnb_index (gnb_at (to_index (component_in 2 (components_in v)))))) (from_number (to_number (component_in 3 (components_in v))))
  unfolding tree parts known known_components known_additions Has HasComponents four
  command_is (components (present u (present e (present g (present d no_options)))) more) h = sym (
      ap (λ (v : Value). four v (from_number (to_number e)) (enumeral (gnb_index (gnb_at (to_index g)))) (from_number (to_number d)))
      (ue_is (fields.component (codes "ue") ∷ p) u h.0.0)
      ∙ ap (λ (v : Value). four u v (enumeral (gnb_index (gnb_at (to_index g)))) (from_number (to_number d)))
      (word_is (fields.component (codes "epoch") ∷ p) e h.0.1.0)
      ∙ ap (λ (v : Value). four u e v (from_number (to_number d))) (gnb_is (fields.component (codes "gnb") ∷ p) g h.0.1.1.0)
      ∙ ap (λ (v : Value). four u e g v) (unit_is (fields.component (codes "du") ∷ p) d h.0.1.1.1.0))
  command_is (components no_options more) h = absurd h.0
  command_is (components (absent vs) more) h = absurd (differs h.0.0)
  command_is (components (present u no_options) more) h = absurd h.0.1
  command_is (components (present u (absent vs)) more) h = absurd (differs h.0.1.0)
  command_is (components (present u (present e no_options)) more) h = absurd h.0.1.1
  command_is (components (present u (present e (absent vs))) more) h = absurd (differs h.0.1.1.0)
  command_is (components (present u (present e (present g no_options))) more) h = absurd h.0.1.1.1
  command_is (components (present u (present e (present g (absent vs)))) more) h = absurd (differs h.0.1.1.1.0)
  command_is (components (present u (present e (present g (present d (absent vs))))) more) h = absurd h.0.1.1.1.1
  command_is (components (present u (present e (present g (present d (present v vs))))) more) h = absurd h.0.1.1.1.1
  command_is v h = absurd h

-- ---- the alternatives
command_in : Value → Token
command_in body = tokens.Command (to_ue (component_in 0 (components_in body))) (to_number (component_in 1 (components_in body)))
    (gnb_at (to_index (component_in 2 (components_in body)))) (to_number (component_in 3 (components_in body)))

complete_in : Value → Token
complete_in body = tokens.Complete (to_ue (component_in 0 (components_in body))) (to_number (component_in 1 (components_in body)))

reestablish_in : Value → Token
reestablish_in body = tokens.Reestablish (to_ue (component_in 0 (components_in body))) (to_number (component_in 1 (components_in body)))

accepted_in : Value → Token
accepted_in body = tokens.Accepted (to_ue (component_in 0 (components_in body))) (to_number (component_in 1 (components_in body)))

whole : ℕ → Value → Value
whole i body = chosen i body

abbrev Is : (Value → Token) → Value → ℕ → Type 0
Is token body i = Has [] token_type (chosen i body) → known token_type (chosen i body) ≡ written_token (token body)

is_command : (body : Value) → Is command_in body 0
unfolding token_type tree parts known known_part Has HasAlternative written_token command_in four whole
is_command body h = ap (whole 0) (command_is (fields.component (codes "command") ∷ []) body h.1)

is_complete : (body : Value) → Is complete_in body 1
unfolding token_type tree parts known known_part Has HasAlternative written_token complete_in whole
is_complete body h = ap (whole 1) (mark_is (fields.component (codes "complete") ∷ []) body h.1)

is_reestablish : (body : Value) → Is reestablish_in body 2
unfolding token_type tree parts known known_part Has HasAlternative written_token reestablish_in whole
is_reestablish body h = ap (whole 2) (mark_is (fields.component (codes "reestablish") ∷ []) body h.1)

is_accepted : (body : Value) → Is accepted_in body 3
unfolding token_type tree parts known known_part Has HasAlternative written_token accepted_in whole
is_accepted body h = ap (whole 3) (mark_is (fields.component (codes "accepted") ∷ []) body h.1)

at : (token : Value → Token) (body : Value) (i n : ℕ) → (i == n) ≡ true → Is token body n → Is token body i
at token body i n t is = subst (Is token body) (sym (same i n t)) is

-- ---- what is heard and what is said
same_answer : (a b : Token) → (let x : Result Token Cause = Ok a in x) ≡ Ok b → a ≡ b
same_answer a b h = cc

only : (a b : Token) → written_token a ≡ written_token b → a ≡ b
only a b h = same_answer a b (sym (heard a) ∙ ap token_from_value h ∙ heard b)

place : Value → ℕ
place (chosen i body) = i
place v = 0

apart : (b : Bool) → b ≡ true → b ≡ false → ⊥
apart true h k = cc
apart false h k = cc

nowhere : (i : ℕ) (body : Value) (token : Token) → known token_type (chosen i body) ≡ written_token token
    → (i == 0) ≡ false → (i == 1) ≡ false → (i == 2) ≡ false → (i == 3) ≡ false → ⊥
unfolding token_type tree known written_token place
nowhere i body (tokens.Command ue epoch gnb du) e a b c d = apart (i == 0) (is_same i 0 (ap place e)) a
nowhere i body (tokens.Complete ue epoch) e a b c d = apart (i == 1) (is_same i 1 (ap place e)) b
nowhere i body (tokens.Reestablish ue epoch) e a b c d = apart (i == 2) (is_same i 2 (ap place e)) c
nowhere i body (tokens.Accepted ue epoch) e a b c d = apart (i == 3) (is_same i 3 (ap place e)) d

module _ (i : ℕ) (body : Value) (token : Token) (h : Has [] token_type (chosen i body)) where
  abbrev answer : Bool → Bool → Bool → Bool → Result Token Cause
  answer a b c d = cond a (Ok (command_in body)) (cond b (Ok (complete_in body)) (cond c (Ok (reestablish_in body))
      (cond d (Ok (accepted_in body)) (Err (unknown_procedure 0 0)))))

  from_value_by : (a b c d : Bool) → (i == 0) ≡ a → (i == 1) ≡ b → (i == 2) ≡ c → (i == 3) ≡ d → answer a b c d ≡ Ok token
      → known token_type (chosen i body) ≡ written_token token
  from_value_by true b c d ta tb tc td e = at command_in body i 0 ta (is_command body) h ∙ ap written_token (same_answer (command_in body) token e)
  from_value_by false true c d ta tb tc td e =
      at complete_in body i 1 tb (is_complete body) h ∙ ap written_token (same_answer (complete_in body) token e)
  from_value_by false false true d ta tb tc td e =
      at reestablish_in body i 2 tc (is_reestablish body) h ∙ ap written_token (same_answer (reestablish_in body) token e)
  from_value_by false false false true ta tb tc td e =
      at accepted_in body i 3 td (is_accepted body) h ∙ ap written_token (same_answer (accepted_in body) token e)
  from_value_by false false false false ta tb tc td e = cc

  said_by : (a b c d : Bool) → (i == 0) ≡ a → (i == 1) ≡ b → (i == 2) ≡ c → (i == 3) ≡ d
      → known token_type (chosen i body) ≡ written_token token → answer a b c d ≡ Ok token
  said_by true b c d ta tb tc td e = ap Ok (only (command_in body) token (sym (at command_in body i 0 ta (is_command body) h) ∙ e))
  said_by false true c d ta tb tc td e = ap Ok (only (complete_in body) token (sym (at complete_in body i 1 tb (is_complete body) h) ∙ e))
  said_by false false true d ta tb tc td e =
      ap Ok (only (reestablish_in body) token (sym (at reestablish_in body i 2 tc (is_reestablish body) h) ∙ e))
  said_by false false false true ta tb tc td e =
      ap Ok (only (accepted_in body) token (sym (at accepted_in body i 3 td (is_accepted body) h) ∙ e))
  said_by false false false false ta tb tc td e = absurd (nowhere i body token e ta tb tc td)

pub from_value_says : (token : Token) (v : Value) → Has [] token_type v → token_from_value v ≡ Ok token → known token_type v ≡ written_token token
unfolding token_from_value command_in complete_in reestablish_in accepted_in token_type tree Has
from_value_says token (chosen i body) h e = from_value_by i body token h (i == 0) (i == 1) (i == 2) (i == 3) refl refl refl refl e
from_value_says token v h e = absurd h

pub said_hears : (token : Token) (v : Value) → Has [] token_type v → known token_type v ≡ written_token token → token_from_value v ≡ Ok token
unfolding token_from_value command_in complete_in reestablish_in accepted_in token_type tree Has
said_hears token (chosen i body) h e = said_by i body token h (i == 0) (i == 1) (i == 2) (i == 3) refl refl refl refl e
said_hears token v h e = absurd h

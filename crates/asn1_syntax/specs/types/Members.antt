-- The lists in braces: names of an ENUMERATED (X.680, clause 20), components of a SEQUENCE (clause 25) and alternatives of a
-- CHOICE (clause 29), with the additions that follow `...`.
use Rattle.std.specs.Prelude.{ℕ, List, [], ◌∷◌, ◌++◌, length, Bool, Option, Some, None, nat_le}
use Rattle.std.specs.List.{list_any}
use Rattle.asn1_tokens.specs.Words.{is_text}
use Rattle.asn1_syntax.specs.declared.types.definition.TypeId.{TypeId}
use Rattle.asn1_syntax.specs.declared.types.definition.Extensible.{Extensible}
use Rattle.asn1_syntax.specs.declared.types.definition.Component.{Component}

-- no parts yet
abbrev pub no_parts : {T : Type 0} → Extensible T
no_parts = record { root = []; additions = None }

-- root and additions together
abbrev pub additions_of : {T : Type 0} → Option (List T) → List T
additions_of None = []
additions_of (Some added) = added

abbrev pub all_parts : {T : Type 0} → Extensible T → List T
all_parts parts = parts.root ++ additions_of parts.additions

-- one more part, of the root or of the additions
abbrev pub put_part : {T : Type 0} → List T → Option (List T) → T → Extensible T
put_part root None part = record { root = root ++ part ∷ []; additions = None }
put_part root (Some added) part = record { root = root; additions = Some (added ++ part ∷ []) }

abbrev pub with_part : {T : Type 0} → Extensible T → T → Extensible T
with_part parts part = put_part parts.root parts.additions part

-- the same with `...` behind the root
abbrev pub extended : {T : Type 0} → Extensible T → Extensible T
extended parts = record { root = parts.root; additions = Some [] }

-- as many parts as a type may have: 256 in its root, 64 additions
abbrev pub is_filled : {T : Type 0} → List T → Option (List T) → Bool
is_filled root None = nat_le 256 (length root)
is_filled root (Some added) = nat_le 64 (length added)

abbrev pub is_full : {T : Type 0} → Extensible T → Bool
is_full parts = is_filled parts.root parts.additions

abbrev pub has_name : List ℕ → List (List ℕ) → Bool
has_name name taken = list_any (λ other. is_text other name) taken

abbrev pub component : List ℕ → TypeId → Bool → Component
component name definition optional = record { name = name; definition = definition; optional = optional }

-- The names that JSON shows of a type of a module can be told apart.
use Rattle.std.proofs.Common.{◌≡◌, ℕ, zero, suc, ◌+◌, true, false, ◌||◌, List, [], ◌∷◌, ◌++◌, length, map, refl, sym, ap, subst, Option, Some, None}
use Rattle.std.specs.Prelude.{slice_get}
use Rattle.std.specs.List.{AllByRecursion, IsDistinct}
use Rattle.std.proofs.lemmas.List.{map-append}
use Rattle.asn1_tokens.specs.Scan.{is_upper, is_lower}
use Rattle.asn1_syntax.specs.declared.types.definition.TypeId.{TypeId}
use Rattle.asn1_syntax.specs.declared.types.definition.Component.{Component}
use Rattle.asn1_syntax.specs.declared.types.definition.Definition.{Definition}
use Rattle.asn1_syntax.specs.declared.types.definition.Definition.TheVariants as types
use Rattle.asn1_syntax.specs.declared.types.definition.Node.{Node}
use Rattle.asn1_syntax.specs.types.Members.{additions_of}
use Rattle.asn1_syntax.specs.declared.assignments.assignment.IeRow.{IeRow}
use Rattle.asn1_syntax.specs.declared.assignments.assignment.ProcedureRow.{ProcedureRow}
use Rattle.asn1_syntax.specs.declared.assignments.assignment.Assignment.{Assignment}
use Rattle.asn1_syntax.specs.declared.assignments.assignment.Syntax.{Syntax}
use Rattle.proof_asn1.proofs.reading.Readings.{read_of}
use Rattle.asn1_defs.specs.Targets.{find_type, ie_rows, procedure_rows, definition_of, definition_at, all_of}
use Rattle.asn1_defs.specs.Modules.{IsModule}
use Rattle.proof_asn1_modules.specs.asn1_proof_module.Proper.{IsNew, AreOnce, Each, component_name, own_name, IsWithin}
use Rattle.proof_asn1_modules.proofs.asn1_proof_module.ModuleBounds.{proper}
use Rattle.proof_json.proofs.values.Holding.{by_cases}
use Rattle.proof_json.proofs.values.Words.{texts_same}
use Rattle.json_defs.specs.Named.{Name, Named}
use Rattle.json_defs.specs.Members.{Text, same_text, dots}
use Rattle.json_defs.specs.Shown.{names_of}
use Rattle.json_defs.specs.shown_defs.Names.{AreKeys, IsApart, ArePartsApart, AreRowsApart, AreProceduresApart, IsOutcomeApart}
use Rattle.json_defs.specs.type_defs.Types.{parts_with, rows_with, outcome_with, procedures_with, referred_with, definition_with, named_by, named}
use Rattle.proof_json.proofs.again.Words.{IsWord, HasWords, AllWords, items_words, module_words}

-- ---- names that differ

differs : (a b : Text) → (b ≡ a → ⊥) → same_text a b ≡ false
differs a b not = by_cases (same_text a b) (λ c. c ≡ false) (λ e. absurd (not (sym (texts_same a b e)))) (λ e. refl)

new_is_other : (a : Text) (names : List Text) → IsNew a names → AllByRecursion (λ b. same_text a b ≡ false) names
new_is_other a [] new = tt
new_is_other a (b ∷ names) new = (differs a b new.0, new_is_other a names new.1)

distinct : (names : List Text) → AreOnce names → IsDistinct same_text names
unfolding IsDistinct
distinct [] once = tt
distinct (a ∷ names) once = (new_is_other a names once.0, distinct names once.1)

-- a name that begins with a letter isn't `...`
word_new : (name : Text) → IsWord name → name ≡ dots → ⊥
word_new [] h e = h
word_new (c ∷ cs) h e =
    let first : c ≡ 46 = cc in
    let clash : is_upper 46 || is_lower 46 ≡ true = subst (λ (d : ℕ). is_upper d || is_lower d ≡ true) first h in
    cc

words_new : (names : List Text) → Each IsWord names → IsNew dots names
words_new [] h = tt
words_new (name ∷ names) h = (word_new name h.0, words_new names h.1)

keys : (names : List Text) → Each IsWord names → AreOnce names → AreKeys names
keys names h once = distinct (dots ∷ names) (words_new names h, once)

once_front : (xs ys : List Text) → AreOnce (xs ++ ys) → AreOnce xs
once_front [] ys h = tt
once_front (x ∷ xs) ys h = (new_front xs h.0, once_front xs ys h.1)
  where
    new_front : (zs : List Text) → IsNew x (zs ++ ys) → IsNew x zs
    new_front [] n = tt
    new_front (z ∷ zs) n = (n.0, new_front zs n.1)

-- ---- the names of components

words_of : (cs : List Component) → Each (λ c. IsWord c.name) cs → Each IsWord (map component_name cs)
words_of [] h = tt
words_of (c ∷ cs) h = (h.0, words_of cs h.1)

each_append : (xs ys : List Text) → Each IsWord xs → Each IsWord ys → Each IsWord (xs ++ ys)
each_append [] ys h g = g
each_append (x ∷ xs) ys h g = (h.0, each_append xs ys h.1 g)

same_names : (xs : List Text) → map own_name xs ≡ xs
same_names [] = refl
same_names (x ∷ xs) = ap (λ (l : List Text). x ∷ l) (same_names xs)

module _ (of : ℕ → Named) where
  part_names : (cs : List Component) → names_of (parts_with of cs) ≡ map component_name cs
  part_names [] = refl
  part_names (c ∷ cs) = ap (λ (l : List Name). c.name ∷ l) (part_names cs)

  module _ (each : (n : ℕ) → IsApart (of n)) where
    parts_apart : (cs : List Component) → ArePartsApart (parts_with of cs)
    unfolding ArePartsApart
    parts_apart [] = tt
    parts_apart (c ∷ cs) = (each c.definition.number, parts_apart cs)

    rows_apart : (rows : List IeRow) → AreRowsApart (rows_with of rows)
    unfolding AreRowsApart
    rows_apart [] = tt
    rows_apart (r ∷ rows) = (each r.definition.number, rows_apart rows)

    outcome_apart : (o : Option TypeId) → IsOutcomeApart (outcome_with of o)
    unfolding IsOutcomeApart
    outcome_apart None = tt
    outcome_apart (Some id) = each id.number

    procedures_apart : (rows : List ProcedureRow) → AreProceduresApart (procedures_with of rows)
    unfolding AreProceduresApart IsOutcomeApart
    procedures_apart [] = tt
    procedures_apart (r ∷ rows) =
        (each r.initiating.number, outcome_apart r.successful, outcome_apart r.unsuccessful, procedures_apart rows)

    referred_apart : (o : Option TypeId) → IsApart (referred_with of o)
    unfolding IsApart
    referred_apart None = tt
    referred_apart (Some id) = each id.number

    sequence_keys : (root additions : List Component) → Each (λ c. IsWord c.name) root
        → AreOnce (map component_name (root ++ additions)) → AreKeys (names_of (parts_with of root))
    sequence_keys root additions h once =
        subst AreKeys (sym (part_names root))
        (keys (map component_name root) (words_of root h)
        (once_front (map component_name root) (map component_name additions) (subst AreOnce (map-append component_name root additions) once)))

    choice_keys : (root additions : List Component) → Each (λ c. IsWord c.name) root → Each (λ c. IsWord c.name) additions
        → AreOnce (map component_name (root ++ additions))
        → AreKeys (names_of (parts_with of root) ++ names_of (parts_with of additions))
    choice_keys root additions h g once =
        let a = part_names root in
        let b = part_names additions in
        let both : names_of (parts_with of root) ++ names_of (parts_with of additions) ≡ map component_name root ++ map component_name additions = cc in
        subst AreKeys (sym both)
        (keys (map component_name root ++ map component_name additions)
        (each_append (map component_name root) (map component_name additions) (words_of root h) (words_of additions g))
        (subst AreOnce (map-append component_name root additions) once))

    definition_apart : (names : List Assignment) (d : Definition) → IsWithin d → HasWords d → IsApart (definition_with names of d)
    unfolding IsApart
    definition_apart names types.Boolean h w = tt
    definition_apart names (types.Integer low high extensible) h w = tt
    definition_apart names (types.Enumerated parts) h w =
        distinct (parts.root ++ additions_of parts.additions) (subst AreOnce (same_names (parts.root ++ additions_of parts.additions)) h.names)
    definition_apart names (types.BitString size) h w = tt
    definition_apart names (types.OctetString size) h w = tt
    definition_apart names (types.PrintableString size) h w = tt
    definition_apart names (types.Sequence members) h w = (
      sequence_keys members.root (additions_of members.additions) w.0 h.names,
      parts_apart members.root,
      parts_apart (additions_of members.additions),
    )
    definition_apart names (types.Choice members) h w = (
      choice_keys members.root (additions_of members.additions) w.0 w.1 h.names,
      parts_apart members.root,
      parts_apart (additions_of members.additions),
    )
    definition_apart names (types.SequenceOf size element) h w = each element.number
    definition_apart names (types.Reference name) h w = referred_apart (find_type name names)
    definition_apart names (types.IeContainer set) h w = rows_apart (all_of (ie_rows set names))
    definition_apart names (types.Pdu set) h w = procedures_apart (all_of (procedure_rows set names))

-- ---- the types of a module

at_type : (P : Definition → Type 0) → P types.Boolean → (nodes : List Node) (i : ℕ) → Each (λ node. P node.definition) nodes
    → P (definition_of (slice_get nodes i))
at_type P none [] i h = none
at_type P none (node ∷ nodes) zero h = h.0
at_type P none (node ∷ nodes) (suc i) h = at_type P none nodes i h.1

apart_by : (m : Syntax) → Each (λ node. IsWithin node.definition) m.nodes → AllWords m.nodes → (steps id : ℕ) → IsApart (named_by steps m id)
unfolding named_by IsApart
apart_by m h w zero id = tt
apart_by m h w (suc steps) id =
    definition_apart (named_by steps m) (apart_by m h w steps) m.assignments (definition_at m id)
    (at_type IsWithin tt m.nodes id h) (at_type HasWords tt m.nodes id w)

pub apart : (m : Syntax) (id : ℕ) → IsModule m → IsApart (named m id)
unfolding named
apart m id is =
    apart_by m (proper is.text m (read_of is.text m is.is)).types (module_words is.is.means (items_words is.is.items))
    (length m.nodes + length m.assignments + 1) id

-- A module that agrees with the profile has XnAP-PDU as the profile has it, but for OPTIONAL at an addition.
use Rattle.std.proofs.Common.{◌≡◌, ℕ, zero, suc, ◌==◌, arith, ◌<◌, List, [], ◌∷◌, length, Bool, true, false, refl, sym, ap, ◌∙◌, subst}
use Rattle.std.specs.Option.{IsSome}
use Rattle.std.specs.Prelude.{Option, Some, None, option_map, slice_get, is_some, IfSome, codes}
use Rattle.std.proofs.lemmas.Slice.Eq.{bytes_eq-Decides}
use Rattle.gnb_types.proofs.Choices.{both}
use Rattle.asn1_tokens.specs.Words.{is_text}
use Rattle.asn1_syntax.specs.declared.types.definition.TypeId.{TypeId}
use Rattle.asn1_syntax.specs.declared.types.definition.Component.{Component}
use Rattle.asn1_syntax.specs.declared.types.definition.Definition.{Definition}
use Rattle.asn1_syntax.specs.declared.types.definition.Definition.TheVariants as types
use Rattle.asn1_syntax.specs.declared.types.definition.Node.{Node}
use Rattle.asn1_syntax.specs.types.Members.{additions_of}
use Rattle.asn1_syntax.specs.declared.assignments.assignment.ProcedureRow.{ProcedureRow}
use Rattle.asn1_syntax.specs.declared.assignments.assignment.Syntax.{Syntax}
use Rattle.asn1_defs.specs.Targets.{find_type, procedure_rows, definition_of, all_of}
use Rattle.asn1_defs.specs.Modules.{IsModule}
use Rattle.asn1_module.proofs.Facts.{type_below}
use Rattle.proof_asn1_modules.specs.ranks.Leading.{EachPart, OfOption, EachProcedure, EachOf, Lesser}
use Rattle.proof_asn1_modules.proofs.ranks.Ranks.{rank}
use Rattle.proof_asn1_modules.proofs.ranks.Inside.{each_more, ranks_fall}
use Rattle.aper_defs.specs.Trees as trees
use Rattle.aper_defs.specs.Trees.{Tree}
use Rattle.aper_values.specs.types.Types as modules
use Rattle.aper_values.specs.types.Types.{parts_of, procedures_of, named_tree, definition_tree}
use Rattle.aper_values.proofs.types.TreeLaws.{tree_is}
use Rattle.message_defs.specs.profile_defs.Forms.{Form, ProcedureRows, tree, parts, procedures, outcome_tree, sequence, pdu, some_form}
use Rattle.message_defs.specs.profile_defs.BaseTypes as base
use Rattle.message_defs.specs.profile_defs.Compounds as compounds
use Rattle.message_defs.specs.profile_defs.Tables as tables
use Rattle.message_defs.specs.profile_defs.Tables.{message_form, element_rows}
use Rattle.message_defs.specs.profile_defs.Messages as all_messages
use Rattle.message_defs.specs.profile_defs.Profile.{profile_types, xnap_pdu, xn_type}
use Rattle.message_defs.specs.profile_defs.Agreement.{definition_at, is_form, are_additions, are_procedures, is_found, Agrees}
use Rattle.profile.proofs.trees.Alike.{Known, KnownParts, KnownElements, KnownProcedures, KnownOutcome, has_tree, form_step, parts_step, procedures_step, outcomes_step}
use Rattle.profile.proofs.trees.Known.{HasEach, xn_known}
use Rattle.profile.proofs.trees.Found.{found}
use Rattle.profile.specs.trees.Trees.{HasTree}
use Rattle.profile.specs.declared.version.Version.{Version}
use Rattle.profile.specs.declared.version.Version.TheVariants.{One, Two}
use Rattle.profile.specs.Versions.{number_of}
use Rattle.profile.specs.xn.Alike.{IsAlike, IsTypeLike}
use Rattle.profile.proofs.xn.XnForms.{additions, root, later_messages, xn_form, request_tree}
use Rattle.profile.proofs.xn.XnAlike.{forms_alike}

ap2 : {A B C : Type 0} (f : A → B → C) {a a' : A} {b b' : B} → a ≡ a' → b ≡ b' → f a b ≡ f a' b'
ap2 f {a = a} {a' = a'} {b = b} {b' = b'} p q = ap (λ x. f x b) p ∙ ap (f a') q

ap5 : {A B C D E F : Type 0} (f : A → B → C → D → E → F) {a a' : A} {b b' : B} {c c' : C} {d d' : D} {e e' : E} → a ≡ a' → b ≡ b' → c ≡ c'
    → d ≡ d' → e ≡ e' → f a b c d e ≡ f a' b' c' d' e'
ap5 f {a = a} {a' = a'} {b = b} {b' = b'} {c = c} {c' = c'} {d = d} {d' = d'} {e = e} {e' = e'} p q r s t =
    ap (λ x. f x b c d e) p ∙ ap (λ x. f a' x c d e) q ∙ ap (λ x. f a' b' x d e) r ∙ ap (λ x. f a' b' c' x e) s ∙ ap (f a' b' c' d') t

text_same : (a b : List ℕ) → is_text a b ≡ true → a ≡ b
unfolding is_text
text_same a b h = (bytes_eq-Decides a b).0 h

nat_same : (a b : ℕ) → (a == b) ≡ true → a ≡ b
nat_same a b h = grind arith

differ : (let b : Bool = false in b) ≡ true → ⊥
differ h = cc

there : (nodes : List Node) (i : ℕ) → i < length nodes
    → option_map (λ (node : Node). node.definition) (slice_get nodes i) ≡ Some (definition_of (slice_get nodes i))
there [] i lt = absurd (omega arith)
there (node ∷ nodes) zero lt = refl
there (node ∷ nodes) (suc i) lt = there nodes i (omega arith)

one : (a b : TypeId) (o : Option TypeId) → o ≡ Some a → o ≡ Some b → a ≡ b
one a b o h k = cc

abbrev Below : Syntax → ℕ → Type 0
Below m n = n < length m.nodes

module _ (m : Syntax) (is : IsModule m) where
  -- what holds of the tree of each type that is written so holds of that of a number's type
  reached : (form : Form) (P : Tree → Type 0)
      → ((d : Definition) → EachOf (Below m) m.assignments d → is_form m form (Some d) ≡ true → P (definition_tree m.assignments (modules.tree m) d))
      → (id : TypeId) → id.number < length m.nodes → is_form m form (definition_at m id) ≡ true → P (modules.tree m id.number)
  reached form P step id lt h =
      subst P (sym (tree_is m id.number is lt))
      (step (definition_of (slice_get m.nodes id.number))
      (each_more (Lesser m (rank m) id.number) (Below m) (λ n less. less.0) m.assignments (definition_of (slice_get m.nodes id.number))
      (ranks_fall m is id.number lt))
      (subst (λ d. is_form m form d ≡ true) (there m.nodes id.number lt) h))

  reached_name : (form : Form) (P : Tree → Type 0)
      → ((d : Definition) → EachOf (Below m) m.assignments d → is_form m form (Some d) ≡ true → P (definition_tree m.assignments (modules.tree m) d))
      → (found : Option TypeId) → OfOption (Below m) found → is_found m form found ≡ true → P (named_tree (modules.tree m) found)
  reached_name form P step None e h = absurd (differ h)
  reached_name form P step (Some id) e h = reached form P step id e h

module _ (m : Syntax) (is : IsModule m) (has : HasEach m 2) where
  ue : Known m base.ue
  unfolding Known profile_types
  ue = (has 0 base.ue refl, tt)

  bearer : Known m base.bearer
  unfolding Known profile_types
  bearer = (has 1 base.bearer refl, tt)

  word : Known m base.word
  unfolding Known profile_types
  word = (has 2 base.word refl, tt)

  unit : Known m base.unit
  unfolding Known profile_types
  unit = (has 3 base.unit refl, tt)

  gnb : Known m base.gnb
  unfolding Known profile_types
  gnb = (has 5 base.gnb refl, tt)

  sn : Known m base.sn_bits
  unfolding Known profile_types
  sn = (has 6 base.sn_bits refl, tt)

  quota : Known m base.quota
  unfolding Known profile_types
  quota = (has 7 base.quota refl, tt)

  cause : Known m base.cause
  unfolding Known profile_types
  cause = (has 8 base.cause refl, tt)

  name : Known m base.name
  unfolding Known profile_types
  name = (has 10 base.name refl, tt)

  tunnel : Known m compounds.tunnel
  unfolding Known KnownParts profile_types
  tunnel = (has 12 compounds.tunnel refl, (bearer, (word, tt)))

  tunnels : Known m compounds.tunnels
  unfolding Known KnownParts profile_types
  tunnels = (has 13 compounds.tunnels refl, tunnel)

  peer : Known m compounds.peer
  unfolding Known KnownParts profile_types
  peer = (has 14 compounds.peer refl, (gnb, (unit, tt)))

  status : Known m compounds.status
  unfolding Known KnownParts profile_types
  status = (has 15 compounds.status refl, (bearer, (word, (word, (tt, tt)))))

  statuses : Known m compounds.statuses
  unfolding Known KnownParts profile_types
  statuses = (has 16 compounds.statuses refl, status)

  acknowledge : Known m (message_form all_messages.handover_request_acknowledge)
  unfolding Known KnownParts KnownElements profile_types
  acknowledge = (has 45 (message_form all_messages.handover_request_acknowledge) refl, ((ue, (word, (peer, (tunnels, (tunnels, tt))))), tt))

  failure : Known m (message_form all_messages.handover_preparation_failure)
  unfolding Known KnownParts KnownElements profile_types
  failure = (has 46 (message_form all_messages.handover_preparation_failure) refl, ((ue, (word, (cause, tt))), tt))

  sn_status : Known m (message_form all_messages.sn_status_transfer)
  unfolding Known KnownParts KnownElements profile_types
  sn_status = (has 47 (message_form all_messages.sn_status_transfer) refl, ((ue, (word, (statuses, tt))), tt))

  cancel : Known m (message_form all_messages.handover_cancel)
  unfolding Known KnownParts KnownElements profile_types
  cancel = (has 48 (message_form all_messages.handover_cancel) refl, ((ue, (word, tt)), tt))

  release : Known m (message_form all_messages.ue_context_release)
  unfolding Known KnownParts KnownElements profile_types
  release = (has 49 (message_form all_messages.ue_context_release) refl, ((ue, (word, tt)), tt))

  confirm : Known m (message_form all_messages.transport_confirm)
  unfolding Known KnownParts KnownElements profile_types
  confirm = (has 50 (message_form all_messages.transport_confirm) refl, ((ue, (word, tt)), tt))

  -- ---- HandoverRequest
  root_known : KnownParts m root
  unfolding Known KnownParts KnownElements
  root_known = ((ue, (word, (word, (bearer, (sn, (quota, (peer, (unit, tt)))))))), tt)

  abbrev request_form : Form
  request_form = sequence root (additions false)

  abbrev IsRequest : Tree → Type 0
  IsRequest t = (optional : Bool) × (t ≡ request_tree optional)

  abbrev AreAdded : Option (List Component) → Type 0
  AreAdded a = (optional : Bool) × (is_some a ≡ true)
      × (parts_of (modules.tree m) (additions_of a) ≡ trees.part (codes "origin") optional (tree base.name) trees.no_parts)

  added : (a : Option (List Component)) → EachPart (Below m) (additions_of a) → are_additions m (additions false) a ≡ true → AreAdded a
  unfolding are_additions
  added (Some (c ∷ [])) e h =
      let all = both _ _ h in
      let two = both _ _ all.0 in (
        c.optional,
        refl,
        ap2 (λ (n : List ℕ) (t : Tree). trees.part n c.optional t trees.no_parts) (text_same c.name (codes "origin") two.0)
            (reached m is base.name (λ t. t ≡ tree base.name) (form_step m is base.name name) c.definition e.0 two.1),
      )
  added (Some (c ∷ d ∷ cs)) e h = absurd (differ (both _ _ h).1)
  added a e h = absurd (differ h)

  request_step : (d : Definition) → EachOf (Below m) m.assignments d → is_form m request_form (Some d) ≡ true
      → IsRequest (definition_tree m.assignments (modules.tree m) d)
  unfolding is_form tree parts
  request_step (types.Sequence found) e h =
      let all = both _ _ h in
      let more = added found.additions e.1 all.1 in (
        more.0,
        ap2 (λ (b : Bool) (ps : trees.Parts). trees.sequence b ps (parts_of (modules.tree m) (additions_of found.additions))) more.1
            (parts_step m is root root_known found.root e.0 all.0) ∙ ap (λ (ps : trees.Parts). trees.sequence true (parts root) ps) more.2,
      )
  request_step d e h = absurd (differ h)

  named_request : (d : Definition) → EachOf (Below m) m.assignments d → is_form m (message_form (all_messages.handover_request 2)) (Some d) ≡ true
      → IsRequest (definition_tree m.assignments (modules.tree m) d)
  unfolding is_form profile_types
  named_request (types.Reference found) e h =
      let same : found ≡ codes "HandoverRequest" = text_same found (codes "HandoverRequest") h in
      subst (λ (n : List ℕ). IsRequest (named_tree (modules.tree m) (find_type n m.assignments))) (sym same)
      (reached_name m is request_form (λ t. IsRequest t) request_step (find_type (codes "HandoverRequest") m.assignments)
      (subst (λ (n : List ℕ). OfOption (Below m) (find_type n m.assignments)) same e)
      (has 44 (message_form (all_messages.handover_request 2)) refl))
  named_request d e h = absurd (differ h)

  -- ---- the PDU
  abbrev all_rows : ProcedureRows
  all_rows = tables.procedure_rows (all_messages.xn_messages 2) (all_messages.xn_messages 2)

  abbrev IsPdu : Tree → Type 0
  IsPdu t = (optional : Bool) × (t ≡ tree (xn_form optional))

  abbrev later : ProcedureRows
  later = tables.procedure_rows (all_messages.xn_messages 2) later_messages

  pdu_rows : (found : Option (List ProcedureRow)) → EachProcedure (Below m) (all_of found) → are_procedures m all_rows found ≡ true
      → IsPdu (trees.pdu (procedures_of (modules.tree m) (all_of found)))
  unfolding are_procedures tree procedures outcome_tree Known KnownProcedures KnownOutcome
  pdu_rows (Some (row ∷ others)) e h =
      let all = both _ _ h in
      let five = both _ _ all.0 in
      let four = both _ _ five.0 in
      let three = both _ _ four.0 in
      let two = both _ _ three.0 in
      let its = reached m is (message_form (all_messages.handover_request 2)) (λ t. IsRequest t) named_request row.initiating e.0.0 three.1 in
      let known : KnownProcedures m later = ((sn_status, (tt, tt)), ((cancel, (tt, tt)), ((release, (tt, tt)), ((confirm, (tt, tt)), tt)))) in (
        its.0,
        ap trees.pdu (ap5 trees.procedure (nat_same row.code 1 two.0) (ap trees.outcome its.1)
            (outcomes_step m is (some_form (message_form all_messages.handover_request_acknowledge)) acknowledge row.successful e.0.1 four.1)
            (outcomes_step m is (some_form (message_form all_messages.handover_preparation_failure)) failure row.unsuccessful e.0.2 five.1)
            (procedures_step m is later known (Some others) e.1 all.1)),
      )
  pdu_rows o e h = absurd (differ h)

  pdu_step : (d : Definition) → EachOf (Below m) m.assignments d → is_form m (pdu all_rows) (Some d) ≡ true
      → IsPdu (definition_tree m.assignments (modules.tree m) d)
  unfolding is_form
  pdu_step (types.Pdu set) e h = pdu_rows (procedure_rows set m.assignments) e h
  pdu_step d e h = absurd (differ h)

  newer : (id : TypeId) → find_type (codes "XnAP-PDU") m.assignments ≡ Some id → IsTypeLike m (xn_type 2) id
  unfolding profile_types xn_type
  newer id e =
      let lt : id.number < length m.nodes = subst (λ (o : Option TypeId). IfSome o (λ i. i.number < length m.nodes)) e
      (type_below (length m.nodes) (codes "XnAP-PDU") m.assignments is.linked.assignments) in
      let its = reached m is (pdu all_rows) (λ t. IsPdu t) pdu_step id lt
      (subst (λ (o : Option TypeId). is_found m (pdu all_rows) o ≡ true) e (has 22 (xnap_pdu 2) refl)) in
      record { inside = lt; alike = subst (λ (t : Tree). IsAlike t (xn_type 2)) (sym its.1) (forms_alike its.0 false) }

-- ---- in either version
same_tree : (a b : Tree) → a ≡ b → IsAlike a b
same_tree a b e = subst (λ (t : Tree). IsAlike a t) e (record { has = λ v h. h; had = λ v h. h; layouts = λ v. refl; questions = refl })

older : (m : Syntax) (h : HasTree m (xnap_pdu 1)) (id : TypeId) → find_type (codes "XnAP-PDU") m.assignments ≡ Some id → IsTypeLike m (xn_type 1) id
unfolding xn_type
older m h id e = subst (λ (i : TypeId). IsTypeLike m (xn_type 1) i) (one h.id id (find_type (codes "XnAP-PDU") m.assignments) h.named e)
    (record { inside = h.inside; alike = same_tree (modules.tree m h.id.number) (xn_type 1) h.is })

pub xn_found : (w : Version) (m : Syntax) → IsModule m → Agrees (profile_types (number_of w)) m
    → (id : TypeId) → find_type (codes "XnAP-PDU") m.assignments ≡ Some id → IsTypeLike m (xn_type (number_of w)) id
xn_found One m is h id e = older m (has_tree m is _ _ (xn_known m (found m (profile_types 1) h))) id e
xn_found Two m is h id e = newer m is (found m (profile_types 2) h) id e

some_found : (m : Syntax) (form : Form) (o : Option TypeId) → is_found m form o ≡ true → IsSome o
some_found m form None h = absurd (differ h)
some_found m form (Some id) h = refl

pub is_there : (w : Version) (m : Syntax) → Agrees (profile_types (number_of w)) m → IsSome (find_type (codes "XnAP-PDU") m.assignments)
unfolding profile_types
is_there w m h = some_found m (pdu (tables.procedure_rows (all_messages.xn_messages (number_of w)) (all_messages.xn_messages (number_of w))))
    (find_type (codes "XnAP-PDU") m.assignments) (found m (profile_types (number_of w)) h 22 (xnap_pdu (number_of w)) refl)

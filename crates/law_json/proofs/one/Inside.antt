-- Trees in order of types with types inside.
use Rattle.std.proofs.Common.{◌≡◌, ℕ, zero, suc, ◌+◌, ◌-◌, Bool, true, false, cond, ◌==◌, nat_lt, List, [], ◌∷◌, ◌++◌, Option, Some, None, refl, sym, ap, subst, ◌∙◌, inl, arith, length-append}
use Rattle.asn1_syntax.specs.declared.types.definition.Size.{Size}
use Rattle.serde_json.specs.Data.{Data, string, array, object, Items, no_items, item, Members, no_members, member}
use Rattle.serde_json.specs.Find.{get_member}
use Rattle.aper_defs.specs.Values.{Value, Values, Ies, chosen, list, elements, message, no_values, value, no_ies, ie}
use Rattle.aper_defs.specs.Membership.{Either}
use Rattle.json_defs.specs.Named.{Named, NamedParts, NamedRows, NamedProcedures, NamedOutcome, choice, sequence_of, container, pdu, no_parts, part, no_rows, row, no_procedures, procedure, no_outcome, outcome}
use Rattle.json_defs.specs.Members.{Text, place_in, are_keys_among, dots, id_key, criticality_key, code_key, value_key, raw_key, criticalities, criticality_in, natural_in, outcomes}
use Rattle.json_defs.specs.Shown.{count_of, names_of, IsMember, IsObject, HasNatural, HasCriticality, HasRaw, ShowsRaw, ShowsPast, IsPlaced, IsPast, EachShown, EachElement, element_keys, body_keys, Shows, ShowsPart, ShowsRow, ShowsBody, ShowsOutcome}
use Rattle.proof_json.proofs.values.Holding.{by_cases}
use Rattle.proof_json.proofs.values.Words.{is_less, is_not_less, at_most, place_bounds}
use Rattle.proof_json.proofs.choices.Places.{names_count}
use Rattle.proof_json.proofs.choices.Bodies.{HasKnown}
use Rattle.json_defs.specs.shown_defs.Order.{IsOrdered, AreOrdered, AreMembersOrdered}
use Rattle.json_defs.specs.shown_defs.Alike.{Alike, AreItemsAlike, AreMembersAlike}
use Rattle.json_defs.specs.shown_defs.Printed.{natural_shown, raw_shown, one_member, name_at, past_shown, items_shown, criticality_shown, body_shown, known_shown, unknown_shown, elements_shown, shown_as, part_shown, row_shown, contents_shown, outcome_shown}
use Rattle.proof_json.proofs.order.Ordered.{raw_ordered, printed_ordered}
use Rattle.law_json.proofs.one.Members.{AreBoth, alike_by_keys, member_ordered}
use Rattle.law_json.proofs.one.Trees.{IsOne, natural_alike, raw_alike, named_at, past_alike}

abbrev pub AreOne : NamedParts → Type 0
AreOne no_parts = Unit {0}
AreOne (part name optional t others) = IsOne t × AreOne others

-- ---- SEQUENCE OF
each_one : (t : Named) → IsOne t → (ds : Items) (vs : Values) → EachShown (λ d v. Shows t d v) ds vs → AreOrdered ds
    → AreItemsAlike ds (items_shown (λ v. shown_as t v) vs)
each_one t l no_items no_values h o = tt
each_one t l (item d ds) (value v vs) h o = (l d v h.0 o.0, each_one t l ds vs h.1 o.1)
each_one t l ds vs h o = absurd h

pub list_one : (size : Option Size) (t : Named) → IsOne t → IsOne (sequence_of size t)
unfolding Shows shown_as
list_one size t l (array ds) (list vs) h o = each_one t l ds vs h o
list_one size t l d v h o = absurd h

-- ---- CHOICE
part_one : (parts : NamedParts) → AreOne parts → (d : Data) (i : ℕ) (v : Value) → ShowsPart parts d i v → IsOrdered d
    → Alike d (part_shown parts i v)
unfolding ShowsPart part_shown
part_one no_parts l d i v h o = absurd h
part_one (part name optional t others) l d zero v h o = l.0 d v h o
part_one (part name optional t others) l d (suc i) v h o = part_one others l.1 d i v h o

module _ (root additions : NamedParts) (r : AreOne root) (a : AreOne additions) where
  abbrev names : List Text
  names = names_of root ++ names_of additions

  abbrev known : ℕ
  known = count_of root + count_of additions

  module _ (d : Data) (i : ℕ) (v : Value) (o : IsOrdered d) where
    abbrev part_of : Data
    part_of = cond (nat_lt i (count_of root)) (part_shown root i v) (part_shown additions (i - count_of root) v)

    abbrev ShowsOne : Type 0
    ShowsOne = Either (nat_lt i (count_of root)) (ShowsPart root d i v) (ShowsPart additions d (i - count_of root) v)

    one_part : ShowsOne → Alike d part_of
    one_part =
        by_cases (nat_lt i (count_of root))
        (λ b. Either b (ShowsPart root d i v) (ShowsPart additions d (i - count_of root) v)
        → Alike d (cond b (part_shown root i v) (part_shown additions (i - count_of root) v)))
        (λ e h. part_one root r d i v h o) (λ e h. part_one additions a d (i - count_of root) v h o)

    module _ (extensible : Bool) (key : Text) where
      abbrev Past : Type 0
      Past = IsPast extensible key known i × ShowsPast d (i - known) v

      abbrev AlikeAt : Bool → Type 0
      AlikeAt b = Alike (object (member key d no_members)) (cond b (one_member (name_at names i) part_of) (past_shown (i - known) v))

      by_place : (x : Option ℕ) → place_in names key 0 ≡ x → IsPlaced x i ShowsOne Past → AlikeAt (nat_lt i known)
      by_place None e h =
          subst (λ (b : Bool). AlikeAt b) (sym (is_not_less i known (at_most known i h.0.2)))
          (h.0.1, past_alike d (i - known) v h.1, tt)
      by_place (Some place) e h =
          let bounds = place_bounds names key 0 place e in
          let is : place_in names key 0 ≡ Some i = e ∙ ap Some (sym h.0) in
          subst (λ (b : Bool). AlikeAt b) (sym (is_less i known (omega (
            arith,
            bounds.1,
            h.0,
            length-append (names_of root) (names_of additions),
            names_count root,
            names_count additions,
          )))) (named_at names key i is, one_part h.1, tt)

  pub choice_one : (extensible : Bool) → IsOne (choice extensible root additions)
  unfolding Shows shown_as
  choice_one extensible (object (member key d no_members)) (chosen i v) h o =
      by_place d i v o.1 extensible key (place_in names key 0) refl h
  choice_one extensible d v h o = absurd h

-- ---- objects of known keys
pub at_one : (a b : Option Data) (x : Data) → IsMember a (λ d. Alike d x) → b ≡ Some x → AreBoth a b
at_one a b x h e = subst (λ (c : Option Data). AreBoth a c) (sym e) (alone a h)
  where
    alone : (c : Option Data) → IsMember c (λ d. Alike d x) → AreBoth c (Some x)
    alone None g = absurd g
    alone (Some d) g = g

criticality_alike : (d : Data) (n : ℕ) → criticality_in d ≡ Some n → Alike d (criticality_shown n)
criticality_alike (string s) n h = inl (named_at criticalities s n h)
criticality_alike d n h = cc

module _ (ms : Members) (o : AreMembersOrdered ms) (key : Text) (x : Data) (P : Data → Type 0)
    (one : (d : Data) → P d → IsOrdered d → Alike d x) where
  pub alike_there : IsMember (get_member key ms) P → IsMember (get_member key ms) (λ d. Alike d x)
  alike_there h = by_member (get_member key ms) refl h
    where
      by_member : (c : Option Data) → get_member key ms ≡ c → IsMember c P → IsMember c (λ d. Alike d x)
      by_member None e g = absurd g
      by_member (Some d) e g = one d g (member_ordered key ms d o e)

module _ (ms : Members) (o : AreMembersOrdered ms) (key last : Text) (criticality n : ℕ) (x : Data) where
  abbrev printed : Members
  printed = member criticality_key (criticality_shown criticality) (member key (natural_shown n) (member last x no_members))

  abbrev keys : List Text
  keys = last ∷ criticality_key ∷ key ∷ []

  object_one : HasNatural key ms n → HasCriticality ms criticality → IsMember (get_member last ms) (λ d. Alike d x)
      → are_keys_among keys ms ≡ true → AreMembersOrdered printed → are_keys_among keys printed ≡ true
      → get_member criticality_key printed ≡ Some (criticality_shown criticality) → get_member key printed ≡ Some (natural_shown n)
      → get_member last printed ≡ Some x → AreMembersAlike ms printed
  object_one natural critical contents among q among_printed e f g =
      alike_by_keys keys ms printed o q among among_printed (
        at_one (get_member last ms) (get_member last printed) x contents g,
        (
          at_one (get_member criticality_key ms) (get_member criticality_key printed) (criticality_shown criticality)
              (alike_there ms o criticality_key (criticality_shown criticality) (λ d. criticality_in d ≡ Some criticality)
              (λ d h p. criticality_alike d criticality h) critical) e,
          (
            at_one (get_member key ms) (get_member key printed) (natural_shown n)
                (alike_there ms o key (natural_shown n) (λ d. natural_in d ≡ Some n) (λ d h p. natural_alike d n h) natural) f,
            tt,
          ),
        ),
      )

-- ---- information elements
abbrev pub AreRowsOne : NamedRows → Type 0
AreRowsOne no_rows = Unit {0}
AreRowsOne (row id mandatory t others) = IsOne t × AreRowsOne others

abbrev element : ℕ → ℕ → Members → Members
element id criticality contents = member criticality_key (criticality_shown criticality) (member id_key (natural_shown id) contents)

module _ (id criticality : ℕ) (v : Value) (ms : Members) (o : AreMembersOrdered ms) (natural : HasNatural id_key ms id)
    (critical : HasCriticality ms criticality) where
  row_one : (rows : NamedRows) → AreRowsOne rows → ShowsRow rows id ms v → AreMembersAlike ms (element id criticality (row_shown rows id v))
  unfolding ShowsRow row_shown
  row_one no_rows l h =
      object_one ms o id_key raw_key criticality id (raw_shown v) natural critical
      (alike_there ms o raw_key (raw_shown v) (λ d. ShowsRaw d v) (λ d g p. raw_alike d v g) h.0) h.1
      (refl, tt, (refl, tt, (tt, raw_ordered v, tt))) refl refl refl refl
  row_one (row other mandatory t others) l shown =
      by_cases (other == id)
      (λ b. Either b (HasKnown element_keys ms t v) (ShowsRow others id ms v)
      → AreMembersAlike ms (element id criticality (cond b (known_shown (shown_as t v)) (row_shown others id v))))
      (λ e h. object_one ms o id_key value_key criticality id (shown_as t v) natural critical
      (alike_there ms o value_key (shown_as t v) (λ d. Shows t d v) (λ d g p. l.0 d v g p) h.0) h.1
      (refl, tt, (refl, tt, (tt, printed_ordered t v, tt))) refl refl refl refl)
      (λ e h. row_one others l.1 h) shown

elements_one : (rows : NamedRows) → AreRowsOne rows → (ds : Items) (ies : Ies)
    → EachElement (λ id ms v. ShowsRow rows id ms v) ds ies → AreOrdered ds
    → AreItemsAlike ds (elements_shown (λ id v. row_shown rows id v) ies)
elements_one rows l no_items no_ies h o = tt
elements_one rows l (item (object ms) ds) (ie id criticality v others) h o =
    (row_one id criticality v ms o.0 h.0 h.1 rows l h.2, elements_one rows l ds others h.3 o.1)
elements_one rows l ds ies h o = absurd h

pub container_one : (rows : NamedRows) → AreRowsOne rows → IsOne (container rows)
unfolding Shows shown_as
container_one rows l (array ds) (elements ies) h o = elements_one rows l ds ies h o
container_one rows l d v h o = absurd h

-- ---- messages
abbrev pub IsOutcomeOne : NamedOutcome → Type 0
IsOutcomeOne no_outcome = Unit {0}
IsOutcomeOne (outcome t) = IsOne t

abbrev pub AreProceduresOne : NamedProcedures → Type 0
AreProceduresOne no_procedures = Unit {0}
AreProceduresOne (procedure code initiating successful unsuccessful others) =
    IsOutcomeOne initiating × IsOutcomeOne successful × IsOutcomeOne unsuccessful × AreProceduresOne others

module _ (index code criticality : ℕ) (v : Value) (ms : Members) (o : AreMembersOrdered ms) (natural : HasNatural code_key ms code)
    (critical : HasCriticality ms criticality) where
  abbrev body : Members → Members
  body contents = member criticality_key (criticality_shown criticality) (member code_key (natural_shown code) contents)

  raw_body : HasRaw body_keys ms v → AreMembersAlike ms (body (unknown_shown v))
  raw_body h =
      object_one ms o code_key raw_key criticality code (raw_shown v) natural critical
      (alike_there ms o raw_key (raw_shown v) (λ d. ShowsRaw d v) (λ d g p. raw_alike d v g) h.0) h.1
      (refl, tt, (refl, tt, (tt, raw_ordered v, tt))) refl refl refl refl

  outcome_one : (out : NamedOutcome) → IsOutcomeOne out → ShowsOutcome out ms v → AreMembersAlike ms (body (outcome_shown out v))
  unfolding ShowsOutcome outcome_shown
  outcome_one no_outcome l h = raw_body h
  outcome_one (outcome t) l h =
      object_one ms o code_key value_key criticality code (shown_as t v) natural critical
      (alike_there ms o value_key (shown_as t v) (λ d. Shows t d v) (λ d g p. l d v g p) h.0) h.1
      (refl, tt, (refl, tt, (tt, printed_ordered t v, tt))) refl refl refl refl

  either_body : (b : Bool) (x y : Members) (X Y : Type 0) → (X → AreMembersAlike ms (body x)) → (Y → AreMembersAlike ms (body y))
      → Either b X Y → AreMembersAlike ms (body (cond b x y))
  either_body true x y X Y f g h = f h
  either_body false x y X Y f g h = g h

  body_one : (rows : NamedProcedures) → AreProceduresOne rows → ShowsBody rows ms index code v
      → AreMembersAlike ms (body (contents_shown rows index code v))
  unfolding ShowsBody contents_shown
  body_one no_procedures l h = raw_body h
  body_one (procedure other initiating successful unsuccessful others) l h =
      let S = λ (out : NamedOutcome). ShowsOutcome out ms v in
      let later : Members = cond (index == 1) (outcome_shown successful v) (outcome_shown unsuccessful v) in
      either_body (other == code) (cond (index == 0) (outcome_shown initiating v) later) (contents_shown others index code v)
      (Either (index == 0) (S initiating) (Either (index == 1) (S successful) (S unsuccessful))) (ShowsBody others ms index code v)
      (either_body (index == 0) (outcome_shown initiating v) later (S initiating) (Either (index == 1) (S successful) (S unsuccessful))
      (outcome_one initiating l.0)
      (either_body (index == 1) (outcome_shown successful v) (outcome_shown unsuccessful v) (S successful) (S unsuccessful)
      (outcome_one successful l.1) (outcome_one unsuccessful l.2)))
      (body_one others l.3) h

module _ (rows : NamedProcedures) (l : AreProceduresOne rows) (key : Text) (d : Data) (ordered : IsOrdered d)
    (index code criticality : ℕ) (v : Value) where
  abbrev Inside : Type 0
  Inside = IsObject d (λ ms. HasNatural code_key ms code × HasCriticality ms criticality × ShowsBody rows ms index code v)

  abbrev printed_body : Data
  printed_body = body_shown code_key code criticality (contents_shown rows index code v)

  inside_one : (e : Data) → IsOrdered e
      → IsObject e (λ ms. HasNatural code_key ms code × HasCriticality ms criticality × ShowsBody rows ms index code v)
      → Alike e printed_body
  inside_one (object ms) o h = body_one index code criticality v ms o h.0 h.1 rows l h.2
  inside_one e o h = absurd h

  message_one : Either (nat_lt index 3) ((place_in outcomes key 0 ≡ Some index) × Inside)
      ((key ≡ dots) × ShowsPast d (index - 3) v × (code ≡ 0) × (criticality ≡ 0))
      → Alike (object (member key d no_members))
      (cond (nat_lt index 3) (one_member (name_at outcomes index) printed_body) (past_shown (index - 3) v))
  message_one =
      by_cases (nat_lt index 3)
      (λ b. Either b ((place_in outcomes key 0 ≡ Some index) × Inside)
      ((key ≡ dots) × ShowsPast d (index - 3) v × (code ≡ 0) × (criticality ≡ 0))
      → Alike (object (member key d no_members)) (cond b (one_member (name_at outcomes index) printed_body) (past_shown (index - 3) v)))
      (λ e h. (named_at outcomes key index h.0, inside_one d ordered h.1, tt))
      (λ e h. (h.0, past_alike d (index - 3) v h.1, tt))

pub pdu_one : (rows : NamedProcedures) → AreProceduresOne rows → IsOne (pdu rows)
unfolding Shows shown_as
pdu_one rows l (object (member key d no_members)) (message index code criticality v) h o =
    message_one rows l key d o.1 index code criticality v h
pdu_one rows l d v h o = absurd h

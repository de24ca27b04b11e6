-- A message as an object with one member: an outcome, or what comes after them.
use Rattle.std.proofs.Common.{◌≡◌, ℕ, suc, ◌+◌, ◌-◌, ◌<◌, ◌≤◌, true, false, nat_lt, List, ◌∷◌, Option, Some, None, is_some, refl, sym, ap, subst, ◌∙◌, arith}
use Rattle.std.specs.Prelude.{ℤ}
use Rattle.serde_json.specs.Data.{Data, object, Members, no_members, member}
use Rattle.aper_defs.specs.Fields.{Path}
use Rattle.aper_defs.specs.Fields as ways
use Rattle.aper_defs.specs.Values.{Value, message}
use Rattle.aper_defs.specs.Membership.{Either, IsRaw, Has, HasBody}
use Rattle.json_defs.specs.Named.{NamedProcedures, pdu, tree_of, procedures_of}
use Rattle.json_defs.specs.Members.{Text, integer_in, place_in, member_count, member_of, dots, outcomes, code_key, criticality_key, criticality_in}
use Rattle.json_defs.specs.Shown.{IsObject, HasNatural, HasCriticality, ShowsPast, Shows, ShowsBody}
use Rattle.json_defs.specs.Readings.{or_else, past_in, past_raw_in, code_of, outcome_in, message_in, value_of, body_in}
use Rattle.json_defs.specs.Demands.{Demand, is_within, past_demands, only_member, message_demands, demands, body_demands}
use Rattle.proof_json.proofs.values.Holding.{Holds, Lawful, AreProceduresLawful, apart, by_cases, either_is, front_holds, rest_holds, both_hold}
use Rattle.proof_json.proofs.values.Words.{is_less, is_not_less, not_below, same, within, is_within_of, past_one, past_forth, past_back, place_bounds}
use Rattle.proof_json.proofs.choices.Places.{one}
use Rattle.proof_json.proofs.choices.Choices.{dots_member, dots_is, has_dots}
use Rattle.proof_json.proofs.choices.Bodies.{natural_told, natural_read, criticality_read, criticality_told, criticality_there}
use Rattle.proof_json.proofs.lawful.Messages.{body_one, body_forth, body_back, outcome_found, outcome_missed, dots_no_outcome}

within_there : (most : ℕ) (o : Option ℤ) → is_within most o ≡ true → is_some o ≡ true
within_there most None h = absurd (apart h)
within_there most (Some z) h = refl

module _ (rows : NamedProcedures) (l : AreProceduresLawful rows) where
  abbrev asked : Path → Members → Option (ℕ × Data) → List Demand
  asked p ms o = message_demands p (λ inside index code body. body_demands inside rows index code body) ms o

  abbrev read : Members → Option (ℕ × Data) → Value
  read ms o = message_in (λ index code body. body_in rows index code body) ms o

  -- what is shown of a message whose outcome is known, and of another one
  abbrev Inside : Data → ℕ → ℕ → ℕ → Value → Type 0
  Inside e index code criticality v =
      IsObject e (λ ms. HasNatural code_key ms code × HasCriticality ms criticality × ShowsBody rows ms index code v)

  module _ (key : Text) (e : Data) where
    module _ (index code criticality : ℕ) (v : Value) where
      abbrev Known : Type 0
      Known = (place_in outcomes key 0 ≡ Some index) × Inside e index code criticality v

      abbrev Past : Type 0
      Past = (key ≡ dots) × ShowsPast e (index - 3) v × (code ≡ 0) × (criticality ≡ 0)

      abbrev IsShown : Type 0
      IsShown = Either (nat_lt index 3) Known Past

      abbrev HasKnown : Path → Type 0
      HasKnown p = (code < 256) × (criticality ≤ 2) × HasBody p (procedures_of rows) index code v

      abbrev HasPast : Type 0
      HasPast = (index < 67) × (code ≡ 0) × (criticality ≡ 0) × IsRaw v

      abbrev HasMessage : Path → Type 0
      HasMessage p = Either (nat_lt index 3) (HasKnown p) HasPast

    record Found (p : Path) : Type 0 where
      index : ℕ
      code : ℕ
      criticality : ℕ
      v : Value
      is : message index code criticality v ≡ read (one key e) (outcome_in outcomes 0 (one key e))
      shown : IsShown index code criticality v
      has : HasMessage index code criticality v p

  -- ---- one value
  known_read : (key : Text) (e : Data) (index code criticality : ℕ) (v : Value) → Inside e index code criticality v
      → message index code criticality v ≡ read (one key e) (Some (index, e))
  known_read key (object ms) index code criticality v h =
      let same_code : code ≡ code_of ms = ap (or_else 0) (sym (natural_read code_key ms code h.0)) in
      let same_criticality : criticality ≡ or_else 0 (criticality_in (member_of criticality_key ms)) =
      ap (or_else 0) (sym (criticality_read ms criticality h.1)) in
      let body : v ≡ body_in rows index code ms = body_one rows l ms index code v h.2 in
      cc
  known_read key e index code criticality v h = absurd h

  past_is : (key : Text) (e : Data) → key ≡ dots → read (one key e) (outcome_in outcomes 0 (one key e))
      ≡ message (3 + past_in e) 0 0 (past_raw_in e)
  past_is key e is =
      ap (read (one key e)) (outcome_missed outcomes key e 0 (dots_no_outcome key is))
      ∙ ap (λ (d : Data). message (3 + past_in d) 0 0 (past_raw_in d)) (dots_member key e is)

  past_read : (key : Text) (e : Data) (index code criticality : ℕ) (v : Value) → 3 ≤ index → Past key e index code criticality v
      → message index code criticality v ≡ read (one key e) (outcome_in outcomes 0 (one key e))
  past_read key e index code criticality v high (is, shown, no_code, no_criticality) =
      let told = past_one e (index - 3) v shown in
      let at : index ≡ 3 + past_in e = omega (arith, told.0, high) in
      let body : v ≡ past_raw_in e = told.1 in
      let first : message index code criticality v ≡ message (3 + past_in e) 0 0 (past_raw_in e) = cc in
      first ∙ sym (past_is key e is)

  pdu_one : (d : Data) (v : Value) → Shows (pdu rows) d v → v ≡ value_of (pdu rows) d
  unfolding Shows value_of
  pdu_one (object (member key e no_members)) (message index code criticality v) h =
      by_cases (nat_lt index 3) (λ b. Either b (Known key e index code criticality v) (Past key e index code criticality v)
      → message index code criticality v ≡ read (one key e) (outcome_in outcomes 0 (one key e)))
      (λ _ g. known_read key e index code criticality v g.1 ∙ ap (read (one key e)) (sym (outcome_found outcomes key e 0 index g.0)))
      (λ past g. past_read key e index code criticality v (not_below index 3 past) g) h
  pdu_one d v h = absurd h

  -- ---- forth
  known_forth : (p : Path) (key : Text) (e : Data) (index : ℕ) → place_in outcomes key 0 ≡ Some index → index < 3
      → Holds (asked p (one key e) (Some (index, e))) → Found key e p
  known_forth p key (object ms) index place small h =
      let code = code_of ms in
      let in_range = within 255 (integer_in (member_of code_key ms)) h.1.1.0 in
      let criticality = criticality_told ms h.1.1.1.0 in
      let body = body_forth p rows l ms index code h.1.1.1.1 in
      let less = is_less index 3 small in record {
        index = index;
        code = code;
        criticality = or_else 0 (criticality_in (member_of criticality_key ms));
        v = body_in rows index code ms;
        is = ap (read (one key (object ms))) (sym (outcome_found outcomes key (object ms) 0 index place));
        shown = either_is (nat_lt index 3) (λ _. (place, (natural_told code_key ms code in_range.0, criticality.0, body.0)))
            (λ past. absurd (apart (sym past ∙ less)));
        has = either_is (nat_lt index 3) (λ _. (omega (arith, in_range.1), criticality.1, body.1))
            (λ past. absurd (apart (sym past ∙ less)));
      }
  known_forth p key e index place small h = absurd (apart h.0)

  past_forth_one : (p : Path) (key : Text) (e : Data) → Holds (asked p (one key e) None) → Found key e p
  past_forth_one p key e h =
      let is = dots_is key e h.0 in
      let told = past_forth p 64 e (subst (λ (d : Data). Holds (past_demands p 64 d)) (dots_member key e is) h.1) in
      let n = past_in e in
      let past : nat_lt (3 + n) 3 ≡ false = is_not_less (3 + n) 3 (omega arith) in
      let at : n ≡ 3 + n - 3 = omega arith in record {
        index = 3 + n;
        code = 0;
        criticality = 0;
        v = past_raw_in e;
        is = sym (past_is key e is);
        shown = either_is (nat_lt (3 + n) 3) (λ less. absurd (apart (sym past ∙ less)))
            (λ _. (is, subst (λ (k : ℕ). ShowsPast e k (past_raw_in e)) at told.0, refl, refl));
        has = either_is (nat_lt (3 + n) 3) (λ less. absurd (apart (sym past ∙ less)))
            (λ _. (omega (arith, told.1), refl, refl, told.2));
      }

  by_place : (p : Path) (key : Text) (e : Data) (o : Option ℕ) → place_in outcomes key 0 ≡ o
      → Holds (asked p (one key e) (outcome_in outcomes 0 (one key e))) → Found key e p
  by_place p key e None place h =
      past_forth_one p key e (subst (λ (o : Option (ℕ × Data)). Holds (asked p (one key e) o)) (outcome_missed outcomes key e 0 place) h)
  by_place p key e (Some index) place h =
      known_forth p key e index place (omega (arith, place_bounds outcomes key 0 index place))
      (subst (λ (o : Option (ℕ × Data)). Holds (asked p (one key e) o)) (outcome_found outcomes key e 0 index place) h)

  pdu_forth : (p : Path) (d : Data) → Holds (demands p (pdu rows) d)
      → Shows (pdu rows) d (value_of (pdu rows) d) × Has p (tree_of (pdu rows)) (value_of (pdu rows) d)
  unfolding Shows value_of demands Has tree_of
  pdu_forth p (object (member key e no_members)) h =
      let x = by_place p key e (place_in outcomes key 0) refl
      (front_holds (asked p (one key e) (outcome_in outcomes 0 (one key e))) (only_member p (one key e)) h.1) in
      subst (λ (w : Value). Shows (pdu rows) (object (one key e)) w × Has p (tree_of (pdu rows)) w) x.is (x.shown, x.has)
  pdu_forth p (object no_members) h =
      absurd (apart (rest_holds (asked p no_members (outcome_in outcomes 0 no_members)) (only_member p no_members) h.1).0)
  pdu_forth p (object (member k d (member k2 d2 ms))) h =
      let all = member k d (member k2 d2 ms) in
      absurd (omega (
        arith,
        same (suc (suc (member_count ms))) 1
            (rest_holds (asked p all (outcome_in outcomes 0 all)) (only_member p all) h.1).0,
      ))
  pdu_forth p d h = absurd (apart h.0)

  -- ---- back
  known_back : (p : Path) (key : Text) (e : Data) (index code criticality : ℕ) (v : Value) → Inside e index code criticality v
      → HasKnown key e index code criticality v p → Holds (asked p (one key e) (Some (index, e)))
  known_back p key (object ms) index code criticality v h g =
      let told = natural_read code_key ms code h.0 in
      let same_code : code ≡ code_of ms = ap (or_else 0) (sym told) in
      let in_range = is_within_of 255 code (integer_in (member_of code_key ms)) told (omega (arith, g.0)) in
      let body = body_back p rows l ms index code v h.2 g.2 in (
        refl,
        (
          within_there 255 (integer_in (member_of code_key ms)) in_range,
          (
            in_range,
            (
              criticality_there ms criticality h.1,
              subst (λ (n : ℕ). Holds (body_demands (ways.outcome index ∷ p) rows index n ms)) same_code body,
            ),
          ),
        ),
      )
  known_back p key e index code criticality v h g = absurd h

  past_back_one : (p : Path) (key : Text) (e : Data) (index code criticality : ℕ) (v : Value) → 3 ≤ index
      → Past key e index code criticality v → HasPast key e index code criticality v → Holds (asked p (one key e) None)
  past_back_one p key e index code criticality v high h g = (
    has_dots key e h.0,
    subst (λ (d : Data). Holds (past_demands p 64 d)) (sym (dots_member key e h.0))
        (past_back p 64 e (index - 3) v h.1 (omega (arith, g.0, high)) g.3),
  )

  pdu_back : (p : Path) (d : Data) (v : Value) → Shows (pdu rows) d v → Has p (tree_of (pdu rows)) v → Holds (demands p (pdu rows) d)
  unfolding Shows demands Has tree_of
  pdu_back p (object (member key e no_members)) (message index code criticality v) h g =
      let told : Holds (asked p (one key e) (outcome_in outcomes 0 (one key e))) =
      by_cases (nat_lt index 3) (λ b. Either b (Known key e index code criticality v) (Past key e index code criticality v)
      → Either b (HasKnown key e index code criticality v p) (HasPast key e index code criticality v)
      → Holds (asked p (one key e) (outcome_in outcomes 0 (one key e))))
      (λ _ s k. subst (λ (o : Option (ℕ × Data)). Holds (asked p (one key e) o)) (sym (outcome_found outcomes key e 0 index s.0))
      (known_back p key e index code criticality v s.1 k))
      (λ past s k. subst (λ (o : Option (ℕ × Data)). Holds (asked p (one key e) o))
      (sym (outcome_missed outcomes key e 0 (dots_no_outcome key s.0)))
      (past_back_one p key e index code criticality v (not_below index 3 past) s k)) h g in
      (refl, both_hold (asked p (one key e) (outcome_in outcomes 0 (one key e))) (only_member p (one key e)) told (refl, tt))
  pdu_back p d v h g = absurd h

  pub pdu_lawful : Lawful (pdu rows)
  pdu_lawful = record { one = pdu_one; forth = pdu_forth; back = pdu_back }

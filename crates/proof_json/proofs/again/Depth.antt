-- Printed trees are at most two levels deep for each level of the type, and one more.
use Rattle.std.proofs.Common.{◌≡◌, ℕ, zero, suc, ◌+◌, ◌-◌, ◌*◌, ◌≤◌, Bool, true, false, cond, ◌==◌, nat_lt, List, ◌++◌, length, Ordering, Less, Equal, Greater, max, refl, arith}
use Rattle.std.specs.Ordering.{nat_cmp, match_ordering}
use Rattle.std.specs.Cmp.Lexicographic.{slice_cmp}
use Rattle.serde_json.specs.Data.{Data, string, array, Items, Members, no_members, member, put, depth, items_depth, members_depth}
use Rattle.serde_json.specs.Read.{max_depth}
use Rattle.aper_defs.specs.Values.{Value, Values, Options, Ies, truth, number, enumeral, bits, octets, text, components, chosen, list, elements, message, raw, no_values, value, no_options, absent, present, no_ies, ie}
use Rattle.json_defs.specs.Named.{Name, Named, NamedParts, NamedRows, NamedProcedures, NamedOutcome, boolean, integer, enumerated, bit_string, octet_string, printable_string, sequence, choice, sequence_of, container, pdu, no_parts, part, no_rows, row, no_procedures, procedure, no_outcome, outcome}
use Rattle.json_defs.specs.Members.{Text, dots, unknown_key, code_key, outcomes}
use Rattle.json_defs.specs.Shown.{count_of, names_of}
use Rattle.json_defs.specs.shown_defs.Levels.{levels, part_levels, row_levels, procedure_levels, outcome_levels}
use Rattle.json_defs.specs.shown_defs.Printed.{natural_shown, raw_shown, one_member, name_at, body_shown, known_shown, past_shown, items_shown, raws_shown, with_additions, elements_shown, shown_as, components_shown, added_shown, part_shown, row_shown, contents_shown, outcome_shown}

-- at most so deep, two levels of JSON for one of a type
abbrev room : ℕ → ℕ
room n = 2 * n + 1

either_depth : (b : Bool) (d e : Data) (n : ℕ) → depth d ≤ n → depth e ≤ n → depth (cond b d e) ≤ n
either_depth true d e n h g = h
either_depth false d e n h g = g

either_members : (b : Bool) (d e : Members) (n : ℕ) → members_depth d ≤ n → members_depth e ≤ n → members_depth (cond b d e) ≤ n
either_members true d e n h g = h
either_members false d e n h g = g

put_by : (o : Ordering) (a b c : Members) (n : ℕ) → members_depth a ≤ n → members_depth b ≤ n → members_depth c ≤ n
    → members_depth (match_ordering o a b c) ≤ n
put_by Less a b c n h g k = h
put_by Equal a b c n h g k = g
put_by Greater a b c n h g k = k

put_depth : (k : Text) (d : Data) (ms : Members) (n : ℕ) → depth d ≤ n → members_depth ms ≤ n → members_depth (put k d ms) ≤ n
put_depth k d no_members n h g = omega (arith, h)
put_depth k d (member l e ms) n h g =
    put_by (slice_cmp nat_cmp k l) (member k d (member l e ms)) (member l d ms) (member l e (put k d ms)) n
    (omega (arith, h, g)) (omega (arith, h, g)) (omega (arith, g, put_depth k d ms n h (omega (arith, g))))

raw_flat : (v : Value) → depth (raw_shown v) ≡ 0
raw_flat (truth b) = refl
raw_flat (number z) = refl
raw_flat (enumeral i) = refl
raw_flat (bits bs) = refl
raw_flat (octets os) = refl
raw_flat (text cs) = refl
raw_flat (components vs more) = refl
raw_flat (chosen i v) = refl
raw_flat (list vs) = refl
raw_flat (elements ies) = refl
raw_flat (message index code criticality v) = refl
raw_flat (raw os) = refl

past_depth : (past : ℕ) (v : Value) → depth (past_shown past v) ≤ 2
past_depth past v = omega (arith, raw_flat v)

raws_depth : (more : Options) → items_depth (raws_shown more) ≡ 0
raws_depth no_options = refl
raws_depth (absent more) = omega (arith, raws_depth more)
raws_depth (present v more) = omega (arith, raw_flat v, raws_depth more)

-- ---- what stands inside, where each of it is at most so deep
module _ (show : Value → Data) (n : ℕ) (each : (v : Value) → depth (show v) ≤ n) where
  list_depth : (vs : Values) → items_depth (items_shown show vs) ≤ n
  list_depth no_values = omega arith
  list_depth (value v vs) = omega (arith, each v, list_depth vs)

module _ (show : ℕ → Value → Members) (n : ℕ) (each : (id : ℕ) (v : Value) → members_depth (show id v) ≤ n) where
  elements_depth : (ies : Ies) → items_depth (elements_shown show ies) ≤ suc n
  elements_depth no_ies = omega arith
  elements_depth (ie id criticality v others) = omega (arith, each id v, elements_depth others)

additions_depth : (more : Options) (ds : Items) (ms : Members) (n : ℕ) → suc (items_depth ds) ≤ n → members_depth ms ≤ n
    → members_depth (with_additions more ds ms) ≤ n
additions_depth no_options ds ms n h g = g
additions_depth (absent more) ds ms n h g = put_depth dots (array ds) ms n h g
additions_depth (present v more) ds ms n h g = put_depth dots (array ds) ms n h g

mutual
  unfolding shown_as components_shown added_shown part_shown row_shown contents_shown outcome_shown levels part_levels row_levels procedure_levels outcome_levels

  pub printed_depth : (t : Named) (v : Value) → depth (shown_as t v) ≤ 2 * levels t + 1
  printed_depth boolean (truth b) = omega arith
  printed_depth (integer low high extensible) (number z) = omega arith
  printed_depth (enumerated root additions extensible) (enumeral i) =
      let names : List Name = root ++ additions in
      either_depth (nat_lt i (length names)) (string (name_at names i)) (one_member unknown_key (natural_shown (i - length names))) 1
      (omega arith) (omega arith)
  printed_depth (bit_string size) (bits bs) = omega arith
  printed_depth (octet_string size) (octets os) = omega arith
  printed_depth (printable_string size) (text cs) = omega arith
  printed_depth (sequence extensible root additions) (components vs more) =
      let n : ℕ = room (max (part_levels root) (part_levels additions)) + 1 in
      let whole : members_depth (with_additions more (added_shown additions more) (components_shown root vs)) ≤ n =
      additions_depth more (added_shown additions more) (components_shown root vs) n
      (omega (arith, added_depth additions more)) (omega (arith, components_depth root vs)) in
      omega (arith, whole)
  printed_depth (choice extensible root additions) (chosen i v) =
      let n : ℕ = room (max (part_levels root) (part_levels additions)) in
      let known : ℕ = count_of root + count_of additions in
      let one : Data = cond (nat_lt i (count_of root)) (part_shown root i v) (part_shown additions (i - count_of root) v) in
      let deep : depth one ≤ n =
      either_depth (nat_lt i (count_of root)) (part_shown root i v) (part_shown additions (i - count_of root) v) n
      (omega (arith, alternative_depth root i v)) (omega (arith, alternative_depth additions (i - count_of root) v)) in
      either_depth (nat_lt i known) (one_member (name_at (names_of root ++ names_of additions) i) one) (past_shown (i - known) v)
      (room (suc (max (part_levels root) (part_levels additions)))) (omega (arith, deep)) (omega (arith, past_depth (i - known) v))
  printed_depth (sequence_of size t) (list vs) =
      omega (arith, list_depth (λ v. shown_as t v) (room (levels t)) (λ v. printed_depth t v) vs)
  printed_depth (container rows) (elements ies) =
      omega (arith, elements_depth (λ id v. row_shown rows id v) (room (row_levels rows)) (λ id v. row_depth rows id v) ies)
  printed_depth (pdu procedures) (message index code criticality v) =
      let body : Data = body_shown code_key code criticality (contents_shown procedures index code v) in
      either_depth (nat_lt index 3) (one_member (name_at outcomes index) body) (past_shown (index - 3) v)
      (room (suc (procedure_levels procedures)))
      (omega (arith, contents_depth procedures index code v)) (omega (arith, past_depth (index - 3) v))
  printed_depth t v = omega arith

  components_depth : (parts : NamedParts) (vs : Options) → members_depth (components_shown parts vs) ≤ 2 * part_levels parts + 1
  components_depth no_parts vs = omega arith
  components_depth (part name optional t others) no_options = omega arith
  components_depth (part name optional t others) (absent vs) = omega (arith, components_depth others vs)
  components_depth (part name optional t others) (present v vs) =
      put_depth name (shown_as t v) (components_shown others vs) (room (max (levels t) (part_levels others)))
      (omega (arith, printed_depth t v)) (omega (arith, components_depth others vs))

  added_depth : (parts : NamedParts) (more : Options) → items_depth (added_shown parts more) ≤ 2 * part_levels parts + 1
  added_depth no_parts more = omega (arith, raws_depth more)
  added_depth (part name optional t others) no_options = omega arith
  added_depth (part name optional t others) (absent more) = omega (arith, added_depth others more)
  added_depth (part name optional t others) (present v more) = omega (arith, printed_depth t v, added_depth others more)

  alternative_depth : (parts : NamedParts) (i : ℕ) (v : Value) → depth (part_shown parts i v) ≤ 2 * part_levels parts + 1
  alternative_depth no_parts i v = omega arith
  alternative_depth (part name optional t others) zero v = omega (arith, printed_depth t v)
  alternative_depth (part name optional t others) (suc i) v = omega (arith, alternative_depth others i v)

  row_depth : (rows : NamedRows) (id : ℕ) (v : Value) → members_depth (row_shown rows id v) ≤ 2 * row_levels rows + 1
  row_depth no_rows id v = omega (arith, raw_flat v)
  row_depth (row other mandatory t others) id v =
      either_members (other == id) (known_shown (shown_as t v)) (row_shown others id v) (room (max (levels t) (row_levels others)))
      (omega (arith, printed_depth t v)) (omega (arith, row_depth others id v))

  contents_depth : (rows : NamedProcedures) (index code : ℕ) (v : Value)
      → members_depth (contents_shown rows index code v) ≤ 2 * procedure_levels rows + 1
  contents_depth no_procedures index code v = omega (arith, raw_flat v)
  contents_depth (procedure other initiating successful unsuccessful others) index code v =
      let here : ℕ = max (outcome_levels initiating) (max (outcome_levels successful) (outcome_levels unsuccessful)) in
      let n : ℕ = room (max here (procedure_levels others)) in
      let later : Members = cond (index == 1) (outcome_shown successful v) (outcome_shown unsuccessful v) in
      let last : members_depth later ≤ n =
      either_members (index == 1) (outcome_shown successful v) (outcome_shown unsuccessful v) n
      (omega (arith, outcome_depth successful v)) (omega (arith, outcome_depth unsuccessful v)) in
      let own : members_depth (cond (index == 0) (outcome_shown initiating v) later) ≤ n =
      either_members (index == 0) (outcome_shown initiating v) later n (omega (arith, outcome_depth initiating v)) last in
      either_members (other == code) (cond (index == 0) (outcome_shown initiating v) later) (contents_shown others index code v) n own
      (omega (arith, contents_depth others index code v))

  outcome_depth : (o : NamedOutcome) (v : Value) → members_depth (outcome_shown o v) ≤ 2 * outcome_levels o + 1
  outcome_depth no_outcome v = omega (arith, raw_flat v)
  outcome_depth (outcome t) v = omega (arith, printed_depth t v)

pub never_too_deep : (t : Named) (v : Value) → levels t ≤ 63 → depth (shown_as t v) ≤ max_depth
never_too_deep t v h = omega (arith, h, printed_depth t v)

-- Printed trees have no number that is kept as a float.
use Rattle.std.proofs.Common.{◌≡◌, ℕ, zero, suc, ◌+◌, ◌-◌, Bool, true, false, cond, ◌||◌, ◌==◌, nat_lt, List, ◌++◌, length, Ordering, Less, Equal, Greater, refl, ap, ◌∙◌}
use Rattle.std.specs.Prelude.{ℤ, pos, negsuc}
use Rattle.std.specs.Ordering.{nat_cmp, match_ordering}
use Rattle.std.specs.Cmp.Lexicographic.{slice_cmp}
use Rattle.serde_json.specs.Data.{Data, string, array, Items, Members, no_members, member, put}
use Rattle.serde_json.specs.Written.{has_float, items_have_float, members_have_float}
use Rattle.aper_defs.specs.Values.{Value, Values, Options, Ies, truth, number, enumeral, bits, octets, text, components, chosen, list, elements, message, raw, no_values, value, no_options, absent, present, no_ies, ie}
use Rattle.json_defs.specs.Named.{Name, Named, NamedParts, NamedRows, NamedProcedures, NamedOutcome, boolean, integer, enumerated, bit_string, octet_string, printable_string, sequence, choice, sequence_of, container, pdu, no_parts, part, no_rows, row, no_procedures, procedure, no_outcome, outcome}
use Rattle.json_defs.specs.Members.{Text, dots, unknown_key, code_key, outcomes}
use Rattle.json_defs.specs.Shown.{count_of, names_of}
use Rattle.json_defs.specs.shown_defs.Printed.{integer_shown, natural_shown, raw_shown, one_member, name_at, body_shown, known_shown, past_shown, items_shown, raws_shown, with_additions, elements_shown, shown_as, components_shown, added_shown, part_shown, row_shown, contents_shown, outcome_shown}

-- nothing in it is a float
abbrev AreWhole : Data → Type 0
AreWhole d = has_float d ≡ false

abbrev AreItemsWhole : Items → Type 0
AreItemsWhole ds = items_have_float ds ≡ false

abbrev AreMembersWhole : Members → Type 0
AreMembersWhole ms = members_have_float ms ≡ false

neither : (a b : Bool) → a ≡ false → b ≡ false → (a || b) ≡ false
neither a b h g = ap (λ c. c || b) h ∙ g

first_false : (a b : Bool) → (a || b) ≡ false → a ≡ false
first_false true b h = cc
first_false false b h = refl

second_false : (a b : Bool) → (a || b) ≡ false → b ≡ false
second_false true b h = cc
second_false false b h = h

put_by : (o : Ordering) (a b c : Members) → AreMembersWhole a → AreMembersWhole b → AreMembersWhole c
    → AreMembersWhole (match_ordering o a b c)
put_by Less a b c h g k = h
put_by Equal a b c h g k = g
put_by Greater a b c h g k = k

put_whole : (k : Text) (d : Data) (ms : Members) → AreWhole d → AreMembersWhole ms → AreMembersWhole (put k d ms)
put_whole k d no_members h old = neither (has_float d) false h refl
put_whole k d (member l e ms) h old =
    let own : AreWhole e = first_false (has_float e) (members_have_float ms) old in
    let rest : AreMembersWhole ms = second_false (has_float e) (members_have_float ms) old in
    put_by (slice_cmp nat_cmp k l) (member k d (member l e ms)) (member l d ms) (member l e (put k d ms))
    (neither (has_float d) (members_have_float (member l e ms)) h old) (neither (has_float d) (members_have_float ms) h rest)
    (neither (has_float e) (members_have_float (put k d ms)) own (put_whole k d ms h rest))

-- ---- parts of printed trees
either_whole : (b : Bool) (d e : Data) → AreWhole d → AreWhole e → AreWhole (cond b d e)
either_whole true d e h g = h
either_whole false d e h g = g

either_members : (b : Bool) (ms ns : Members) → AreMembersWhole ms → AreMembersWhole ns → AreMembersWhole (cond b ms ns)
either_members true ms ns h g = h
either_members false ms ns h g = g

one_whole : (key : Text) (d : Data) → AreWhole d → AreWhole (one_member key d)
one_whole key d h = neither (has_float d) false h refl

integer_whole : (z : ℤ) → AreWhole (integer_shown z)
integer_whole (pos n) = refl
integer_whole (negsuc n) = refl

raw_whole : (v : Value) → AreWhole (raw_shown v)
raw_whole (truth b) = refl
raw_whole (number z) = refl
raw_whole (enumeral i) = refl
raw_whole (bits bs) = refl
raw_whole (octets os) = refl
raw_whole (text cs) = refl
raw_whole (components vs more) = refl
raw_whole (chosen i v) = refl
raw_whole (list vs) = refl
raw_whole (elements ies) = refl
raw_whole (message index code criticality v) = refl
raw_whole (raw os) = refl

unknown_whole : (v : Value) → (has_float (raw_shown v) || false) ≡ false
unknown_whole v = neither (has_float (raw_shown v)) false (raw_whole v) refl

past_whole : (past : ℕ) (v : Value) → AreWhole (past_shown past v)
past_whole past v = neither (has_float (raw_shown v) || false) false (unknown_whole v) refl

raws_whole : (more : Options) → AreItemsWhole (raws_shown more)
raws_whole no_options = refl
raws_whole (absent more) = raws_whole more
raws_whole (present v more) = neither (has_float (raw_shown v)) (items_have_float (raws_shown more)) (raw_whole v) (raws_whole more)

module _ (show : Value → Data) (each : (v : Value) → AreWhole (show v)) where
  list_whole : (vs : Values) → AreItemsWhole (items_shown show vs)
  list_whole no_values = refl
  list_whole (value v vs) = neither (has_float (show v)) (items_have_float (items_shown show vs)) (each v) (list_whole vs)

additions_whole : (more : Options) (ds : Items) (ms : Members) → AreItemsWhole ds → AreMembersWhole ms
    → AreMembersWhole (with_additions more ds ms)
additions_whole no_options ds ms h g = g
additions_whole (absent more) ds ms h g = put_whole dots (array ds) ms h g
additions_whole (present v more) ds ms h g = put_whole dots (array ds) ms h g

module _ (show : ℕ → Value → Members) (each : (id : ℕ) (v : Value) → AreMembersWhole (show id v)) where
  elements_whole : (ies : Ies) → AreItemsWhole (elements_shown show ies)
  elements_whole no_ies = refl
  elements_whole (ie id criticality v others) =
      neither (members_have_float (show id v)) (items_have_float (elements_shown show others)) (each id v) (elements_whole others)

mutual
  unfolding shown_as components_shown added_shown part_shown row_shown contents_shown outcome_shown

  pub printed_whole : (t : Named) (v : Value) → has_float (shown_as t v) ≡ false
  printed_whole boolean (truth b) = refl
  printed_whole (integer low high extensible) (number z) = integer_whole z
  printed_whole (enumerated root additions extensible) (enumeral i) =
      let names : List Name = root ++ additions in
      either_whole (nat_lt i (length names)) (string (name_at names i)) (one_member unknown_key (natural_shown (i - length names)))
      refl refl
  printed_whole (bit_string size) (bits bs) = refl
  printed_whole (octet_string size) (octets os) = refl
  printed_whole (printable_string size) (text cs) = refl
  printed_whole (sequence extensible root additions) (components vs more) =
      additions_whole more (added_shown additions more) (components_shown root vs) (added_whole additions more)
      (components_whole root vs)
  printed_whole (choice extensible root additions) (chosen i v) =
      let known : ℕ = count_of root + count_of additions in
      let one : Data = cond (nat_lt i (count_of root)) (part_shown root i v) (part_shown additions (i - count_of root) v) in
      let inside : AreWhole one =
      either_whole (nat_lt i (count_of root)) (part_shown root i v) (part_shown additions (i - count_of root) v)
      (alternative_whole root i v) (alternative_whole additions (i - count_of root) v) in
      let key : Text = name_at (names_of root ++ names_of additions) i in
      either_whole (nat_lt i known) (one_member key one) (past_shown (i - known) v) (one_whole key one inside)
      (past_whole (i - known) v)
  printed_whole (sequence_of size t) (list vs) = list_whole (λ v. shown_as t v) (λ v. printed_whole t v) vs
  printed_whole (container rows) (elements ies) = elements_whole (λ id v. row_shown rows id v) (λ id v. row_whole rows id v) ies
  printed_whole (pdu procedures) (message index code criticality v) =
      let body : Data = body_shown code_key code criticality (contents_shown procedures index code v) in
      let key : Text = name_at outcomes index in
      either_whole (nat_lt index 3) (one_member key body) (past_shown (index - 3) v)
      (one_whole key body (contents_whole procedures index code v)) (past_whole (index - 3) v)
  printed_whole t v = refl

  components_whole : (parts : NamedParts) (vs : Options) → members_have_float (components_shown parts vs) ≡ false
  components_whole no_parts vs = refl
  components_whole (part name optional t others) no_options = refl
  components_whole (part name optional t others) (absent vs) = components_whole others vs
  components_whole (part name optional t others) (present v vs) =
      put_whole name (shown_as t v) (components_shown others vs) (printed_whole t v) (components_whole others vs)

  added_whole : (parts : NamedParts) (more : Options) → items_have_float (added_shown parts more) ≡ false
  added_whole no_parts more = raws_whole more
  added_whole (part name optional t others) no_options = refl
  added_whole (part name optional t others) (absent more) = added_whole others more
  added_whole (part name optional t others) (present v more) =
      neither (has_float (shown_as t v)) (items_have_float (added_shown others more)) (printed_whole t v) (added_whole others more)

  alternative_whole : (parts : NamedParts) (i : ℕ) (v : Value) → has_float (part_shown parts i v) ≡ false
  alternative_whole no_parts i v = refl
  alternative_whole (part name optional t others) zero v = printed_whole t v
  alternative_whole (part name optional t others) (suc i) v = alternative_whole others i v

  row_whole : (rows : NamedRows) (id : ℕ) (v : Value) → members_have_float (row_shown rows id v) ≡ false
  row_whole no_rows id v = unknown_whole v
  row_whole (row other mandatory t others) id v =
      either_members (other == id) (known_shown (shown_as t v)) (row_shown others id v)
      (neither (has_float (shown_as t v)) false (printed_whole t v) refl) (row_whole others id v)

  contents_whole : (rows : NamedProcedures) (index code : ℕ) (v : Value) → members_have_float (contents_shown rows index code v) ≡ false
  contents_whole no_procedures index code v = unknown_whole v
  contents_whole (procedure other initiating successful unsuccessful others) index code v =
      let later : Members = cond (index == 1) (outcome_shown successful v) (outcome_shown unsuccessful v) in
      let last = either_members (index == 1) (outcome_shown successful v) (outcome_shown unsuccessful v)
      (outcome_whole successful v) (outcome_whole unsuccessful v) in
      either_members (other == code) (cond (index == 0) (outcome_shown initiating v) later) (contents_shown others index code v)
      (either_members (index == 0) (outcome_shown initiating v) later (outcome_whole initiating v) last)
      (contents_whole others index code v)

  outcome_whole : (o : NamedOutcome) (v : Value) → members_have_float (outcome_shown o v) ≡ false
  outcome_whole no_outcome v = unknown_whole v
  outcome_whole (outcome t) v = neither (has_float (shown_as t v)) false (printed_whole t v) refl

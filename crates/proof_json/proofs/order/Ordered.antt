-- Printed trees have the members of each object in order.
use Rattle.std.proofs.Common.{◌≡◌, ℕ, zero, suc, ◌+◌, ◌-◌, Bool, true, false, cond, ◌==◌, nat_lt, List, ◌++◌, length, Ordering, Less, Equal, Greater, refl, ap, ◌∙◌}
use Rattle.std.specs.Ordering.{nat_cmp, match_ordering, ordering_reverse}
use Rattle.std.specs.Cmp.Lexicographic.{slice_cmp}
use Rattle.std.proofs.lemmas.Cmp.{nat_list_cmp_total}
use Rattle.serde_json.specs.Data.{Data, string, array, Items, Members, no_members, member, put}
use Rattle.aper_defs.specs.Values.{Value, Values, Options, Ies, truth, number, enumeral, bits, octets, text, components, chosen, list, elements, message, raw, no_values, value, no_options, absent, present, no_ies, ie}
use Rattle.json_defs.specs.Named.{Name, Named, NamedParts, NamedRows, NamedProcedures, NamedOutcome, boolean, integer, enumerated, bit_string, octet_string, printable_string, sequence, choice, sequence_of, container, pdu, no_parts, part, no_rows, row, no_procedures, procedure, no_outcome, outcome}
use Rattle.json_defs.specs.Members.{Text, dots, unknown_key, code_key, id_key, outcomes}
use Rattle.json_defs.specs.Shown.{count_of, names_of}
use Rattle.json_defs.specs.shown_defs.Order.{IsBefore, IsOrdered, AreOrdered, AreMembersOrdered}
use Rattle.json_defs.specs.shown_defs.Printed.{natural_shown, raw_shown, one_member, name_at, body_shown, known_shown, past_shown, items_shown, raws_shown, with_additions, elements_shown, shown_as, components_shown, added_shown, part_shown, row_shown, contents_shown, outcome_shown}

-- ---- a member that is put into members in order
before_put : (key k : Text) (d : Data) (ms : Members) → slice_cmp nat_cmp key k ≡ Less → IsBefore key ms → IsBefore key (put k d ms)
before_put key k d no_members new old = new
before_put key k d (member l e ms) new old = first_of (slice_cmp nat_cmp k l)
  where
    first_of : (o : Ordering) → IsBefore key (match_ordering o (member k d (member l e ms)) (member l d ms) (member l e (put k d ms)))
    first_of Less = new
    first_of Equal = old
    first_of Greater = old

put_at : (o : Ordering) (k l : Text) (d e : Data) (ms : Members) → slice_cmp nat_cmp k l ≡ o → IsOrdered d
    → AreMembersOrdered (member l e ms) → AreMembersOrdered (put k d ms)
    → AreMembersOrdered (match_ordering o (member k d (member l e ms)) (member l d ms) (member l e (put k d ms)))
put_at Less k l d e ms is h old rest = (is, h, old)
put_at Equal k l d e ms is h old rest = (old.0, h, old.2)
put_at Greater k l d e ms is h old rest =
    let turned : slice_cmp nat_cmp l k ≡ Less = nat_list_cmp_total.antisymm l k ∙ ap ordering_reverse is in
    (before_put l k d ms turned old.0, old.1, rest)

put_ordered : (k : Text) (d : Data) (ms : Members) → IsOrdered d → AreMembersOrdered ms → AreMembersOrdered (put k d ms)
put_ordered k d no_members h old = (tt, h, tt)
put_ordered k d (member l e ms) h old = put_at (slice_cmp nat_cmp k l) k l d e ms refl h old (put_ordered k d ms h old.2)

-- ---- parts of printed trees
either_ordered : (b : Bool) (d e : Data) → IsOrdered d → IsOrdered e → IsOrdered (cond b d e)
either_ordered true d e h g = h
either_ordered false d e h g = g

pub raw_ordered : (v : Value) → IsOrdered (raw_shown v)
raw_ordered (truth b) = tt
raw_ordered (number z) = tt
raw_ordered (enumeral i) = tt
raw_ordered (bits bs) = tt
raw_ordered (octets os) = tt
raw_ordered (text cs) = tt
raw_ordered (components vs more) = tt
raw_ordered (chosen i v) = tt
raw_ordered (list vs) = tt
raw_ordered (elements ies) = tt
raw_ordered (message index code criticality v) = tt
raw_ordered (raw os) = tt

past_ordered : (past : ℕ) (v : Value) → IsOrdered (past_shown past v)
past_ordered past v = (tt, (tt, (raw_ordered v, tt)), tt)

raws_ordered : (more : Options) → AreOrdered (raws_shown more)
raws_ordered no_options = tt
raws_ordered (absent more) = (tt, raws_ordered more)
raws_ordered (present v more) = (raw_ordered v, raws_ordered more)

module _ (show : Value → Data) (each : (v : Value) → IsOrdered (show v)) where
  list_ordered : (vs : Values) → AreOrdered (items_shown show vs)
  list_ordered no_values = tt
  list_ordered (value v vs) = (each v, list_ordered vs)

pub additions_ordered : (more : Options) (ds : Items) (ms : Members) → AreOrdered ds → AreMembersOrdered ms
    → AreMembersOrdered (with_additions more ds ms)
additions_ordered no_options ds ms h g = g
additions_ordered (absent more) ds ms h g = put_ordered dots (array ds) ms h g
additions_ordered (present v more) ds ms h g = put_ordered dots (array ds) ms h g

-- contents of an information element and of a message: in order, and after the other members
abbrev AreContents : Members → Type 0
AreContents ms = IsBefore id_key ms × IsBefore code_key ms × AreMembersOrdered ms

either_contents : (b : Bool) (ms ns : Members) → AreContents ms → AreContents ns → AreContents (cond b ms ns)
either_contents true ms ns h g = h
either_contents false ms ns h g = g

module _ (show : ℕ → Value → Members) (each : (id : ℕ) (v : Value) → AreContents (show id v)) where
  elements_ordered : (ies : Ies) → AreOrdered (elements_shown show ies)
  elements_ordered no_ies = tt
  elements_ordered (ie id criticality v others) =
      let inside = each id v in ((refl, tt, (inside.0, tt, inside.2)), elements_ordered others)

mutual
  unfolding shown_as components_shown added_shown part_shown row_shown contents_shown outcome_shown

  pub printed_ordered : (t : Named) (v : Value) → IsOrdered (shown_as t v)
  printed_ordered boolean (truth b) = tt
  printed_ordered (integer low high extensible) (number z) = tt
  printed_ordered (enumerated root additions extensible) (enumeral i) =
      let names : List Name = root ++ additions in
      either_ordered (nat_lt i (length names)) (string (name_at names i)) (one_member unknown_key (natural_shown (i - length names)))
      tt (tt, tt, tt)
  printed_ordered (bit_string size) (bits bs) = tt
  printed_ordered (octet_string size) (octets os) = tt
  printed_ordered (printable_string size) (text cs) = tt
  printed_ordered (sequence extensible root additions) (components vs more) =
      additions_ordered more (added_shown additions more) (components_shown root vs) (added_ordered additions more)
      (components_ordered root vs)
  printed_ordered (choice extensible root additions) (chosen i v) =
      let known : ℕ = count_of root + count_of additions in
      let one : Data = cond (nat_lt i (count_of root)) (part_shown root i v) (part_shown additions (i - count_of root) v) in
      let inside : IsOrdered one =
      either_ordered (nat_lt i (count_of root)) (part_shown root i v) (part_shown additions (i - count_of root) v)
      (alternative_ordered root i v) (alternative_ordered additions (i - count_of root) v) in
      either_ordered (nat_lt i known) (one_member (name_at (names_of root ++ names_of additions) i) one) (past_shown (i - known) v)
      (tt, inside, tt) (past_ordered (i - known) v)
  printed_ordered (sequence_of size t) (list vs) = list_ordered (λ v. shown_as t v) (λ v. printed_ordered t v) vs
  printed_ordered (container rows) (elements ies) =
      elements_ordered (λ id v. row_shown rows id v) (λ id v. row_ordered rows id v) ies
  printed_ordered (pdu procedures) (message index code criticality v) =
      let contents = contents_ordered procedures index code v in
      let body : Data = body_shown code_key code criticality (contents_shown procedures index code v) in
      either_ordered (nat_lt index 3) (one_member (name_at outcomes index) body) (past_shown (index - 3) v)
      (tt, (refl, tt, (contents.1, tt, contents.2)), tt) (past_ordered (index - 3) v)
  printed_ordered t v = tt

  pub components_ordered : (parts : NamedParts) (vs : Options) → AreMembersOrdered (components_shown parts vs)
  components_ordered no_parts vs = tt
  components_ordered (part name optional t others) no_options = tt
  components_ordered (part name optional t others) (absent vs) = components_ordered others vs
  components_ordered (part name optional t others) (present v vs) =
      put_ordered name (shown_as t v) (components_shown others vs) (printed_ordered t v) (components_ordered others vs)

  pub added_ordered : (parts : NamedParts) (more : Options) → AreOrdered (added_shown parts more)
  added_ordered no_parts more = raws_ordered more
  added_ordered (part name optional t others) no_options = tt
  added_ordered (part name optional t others) (absent more) = (tt, added_ordered others more)
  added_ordered (part name optional t others) (present v more) = (printed_ordered t v, added_ordered others more)

  alternative_ordered : (parts : NamedParts) (i : ℕ) (v : Value) → IsOrdered (part_shown parts i v)
  alternative_ordered no_parts i v = tt
  alternative_ordered (part name optional t others) zero v = printed_ordered t v
  alternative_ordered (part name optional t others) (suc i) v = alternative_ordered others i v

  row_ordered : (rows : NamedRows) (id : ℕ) (v : Value) → AreContents (row_shown rows id v)
  row_ordered no_rows id v = (refl, refl, (tt, raw_ordered v, tt))
  row_ordered (row other mandatory t others) id v =
      either_contents (other == id) (known_shown (shown_as t v)) (row_shown others id v)
      (refl, refl, (tt, printed_ordered t v, tt)) (row_ordered others id v)

  contents_ordered : (rows : NamedProcedures) (index code : ℕ) (v : Value) → AreContents (contents_shown rows index code v)
  contents_ordered no_procedures index code v = (refl, refl, (tt, raw_ordered v, tt))
  contents_ordered (procedure other initiating successful unsuccessful others) index code v =
      let later : Members = cond (index == 1) (outcome_shown successful v) (outcome_shown unsuccessful v) in
      let last = either_contents (index == 1) (outcome_shown successful v) (outcome_shown unsuccessful v)
      (outcome_ordered successful v) (outcome_ordered unsuccessful v) in
      either_contents (other == code) (cond (index == 0) (outcome_shown initiating v) later) (contents_shown others index code v)
      (either_contents (index == 0) (outcome_shown initiating v) later (outcome_ordered initiating v) last)
      (contents_ordered others index code v)

  outcome_ordered : (o : NamedOutcome) (v : Value) → AreContents (outcome_shown o v)
  outcome_ordered no_outcome v = (refl, refl, (tt, raw_ordered v, tt))
  outcome_ordered (outcome t) v = (refl, refl, (tt, printed_ordered t v, tt))

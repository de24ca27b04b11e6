-- Every right answer can be gone on with up to a value: each form of type.
use Rattle.std.proofs.Common.{◌≡◌, ℕ, zero, suc, ◌+◌, ◌-◌, ◌<◌, ◌≤◌, ◌==◌, nat_lt, cond, Bool, true, false, List, [], ◌∷◌, ◌++◌, length, map, refl, sym, ap, subst, ◌∙◌, arith}
use Rattle.aper_defs.specs.Trees.{Tree, Parts, Rows, Procedures, Outcome, Slot, slots, slots_left, slots_before, slots_after, has_slot, mandatory_count, part_count, boolean, integer, enumerated, bit_string, octet_string, printable_string, sequence, choice, sequence_of, container, pdu, no_parts, part, no_rows, row, no_procedures, procedure, no_outcome, outcome}
use Rattle.aper_defs.specs.Values.{Value, Values, Options, Ies, truth, number, enumeral, bits, octets, text, components, chosen, list, elements, message, no_values, value, no_options, absent, present, no_ies, ie}
use Rattle.aper_defs.specs.Fields.{Path, Ask, flag, constrained, small, ie_id, pad, closing}
use Rattle.aper_defs.specs.Fields as fields
use Rattle.aper_defs.specs.Parts.{of_bits, of_octets, of_characters}
use Rattle.aper_defs.specs.Questions.{Prog, done, ask, ask_aligned, ask_raw, ask_flags, ask_members, ask_raw_additions, ask_ies}
use Rattle.aper_defs.specs.Asking.{ask_marks, asks, asks_whole, ask_components, ask_additions, ask_alternative, ask_added, ask_row, ask_body, ask_outcome}
use Rattle.aper_defs.specs.loose_defs.Sets.{AreOwnIds, IsSet, HasSets, EachSet, EachSetOfParts, EachSetOfRows, EachSetOfProcedures, EachSetOfOutcome}
use Rattle.proof_aper.proofs.answers.NumberFacts.{by_cases, below, not_below, same, is_same}
use Rattle.proof_aper.proofs.values.FoundElements.{IsNext, either_yes, either_no}
use Rattle.proof_aper.proofs.alive.Alive.{Live, Always, always_ask, always_aligned, always_by, always_extension, always_integer, always_index, always_string, always_count, always_open, always_raw, always_marks}

always_done : (v : Value) → Always (done v)
unfolding Live
always_done v = λ place within. tt

-- ---- lists
always_flags : (p : Path) (parts : Parts) (K : List Bool → Prog) → ((bs : List Bool) → Always (K bs)) → Always (ask_flags p parts K)
always_flags p no_parts K h = h []
always_flags p (part name true t others) K h =
    always_ask p flag (λ b. ask_flags p others (λ there. K ((b == 1) ∷ there))) 0 (omega arith)
    (λ b a. always_flags p others (λ there. K ((b == 1) ∷ there)) (λ there. h ((b == 1) ∷ there)))
always_flags p (part name false t others) K h = always_flags p others (λ there. K (true ∷ there)) (λ there. h (true ∷ there))

always_members : (one : ℕ → (Value → Prog) → Prog)
    → ((i : ℕ) (L : Value → Prog) → ((v : Value) → Always (L v)) → Always (one i L))
    → (i count : ℕ) (K : Values → Prog) → ((vs : Values) → Always (K vs)) → Always (ask_members one i count K)
always_members one inner i zero K h = h no_values
always_members one inner i (suc count) K h =
    inner i (λ v. ask_members one (suc i) count (λ vs. K (value v vs)))
    (λ v. always_members one inner (suc i) count (λ vs. K (value v vs)) (λ vs. h (value v vs)))

always_raw_additions : (p : Path) (there : List Bool) (K : Options → Prog) → ((os : Options) → Always (K os))
    → Always (ask_raw_additions p there K)
always_raw_additions p [] K h = h no_options
always_raw_additions p (false ∷ there) K h = always_raw_additions p there (λ more. K (absent more)) (λ more. h (absent more))
always_raw_additions p (true ∷ there) K h =
    always_raw p p (λ v. ask_raw_additions p there (λ more. K (present v more)))
    (λ v. always_raw_additions p there (λ more. K (present v more)) (λ more. h (present v more)))

-- ---- information elements
has_after : (id : ℕ) (before left : List Slot) → has_slot id left ≡ true → has_slot id (before ++ left) ≡ true
has_after id [] left h = h
has_after id (slot ∷ before) left h = go (slot.id == id) (has_after id before left h)
  where
    go : (b : Bool) → has_slot id (before ++ left) ≡ true → cond b true (has_slot id (before ++ left)) ≡ true
    go true g = refl
    go false g = g

own_after : (before left : List Slot) → AreOwnIds (before ++ left) → AreOwnIds left
own_after [] left h = h
own_after (slot ∷ before) left h = own_after before left h.2

-- those after an element of a set are the last ones of it
record IsLast (known left : List Slot) : Type 0 where
  pub before : List Slot
  pub is : known ≡ before ++ left

last_one : (slot : Slot) (known left : List Slot) → IsLast known left → IsLast (slot ∷ known) left
last_one slot known left h = record { before = slot ∷ h.before; is = ap (λ (xs : List Slot). slot ∷ xs) h.is }

after_last : (id : ℕ) (left : List Slot) → IsLast left (slots_after id left)
after_last id [] = record { before = []; is = refl }
after_last id (slot ∷ others) = go (slot.id == id) (after_last id others)
  where
    go : (b : Bool) → IsLast others (slots_after id others) → IsLast (slot ∷ others) (cond b others (slots_after id others))
    go true h = record { before = slot ∷ []; is = refl }
    go false h = last_one slot others (slots_after id others) h

after_all_of : (before left more : List Slot) → IsLast left more → IsLast (before ++ left) more
after_all_of [] left more k = k
after_all_of (slot ∷ before) left more k = last_one slot (before ++ left) more (after_all_of before left more k)

last_of_last : (known left more : List Slot) → IsLast known left → IsLast left more → IsLast known more
last_of_last known left more h k = subst (λ (xs : List Slot). IsLast xs more) (sym h.is) (after_all_of h.before left more k)

left_last : (known left : List Slot) (id : ℕ) → IsLast known left → IsLast known (slots_left known id left)
left_last known left id h = go (has_slot id known)
  where
    go : (b : Bool) → IsLast known (cond b (slots_after id left) left)
    go true = last_of_last known left (slots_after id left) h (after_last id left)
    go false = h

-- the first mandatory one of some
record FirstMandatory (left : List Slot) : Type 0 where
  pub id : ℕ
  pub fits : id < 65536
  pub has : has_slot id left ≡ true
  pub none_before : mandatory_count (slots_before id left) ≡ 0
  pub one_less : mandatory_count left ≡ suc (mandatory_count (slots_after id left))

first_mandatory : (left : List Slot) → AreOwnIds left → 1 ≤ mandatory_count left → FirstMandatory left
first_mandatory [] own some = absurd (omega (arith, some))
first_mandatory (slot ∷ others) own some = go slot.mandatory refl some (λ n. first_mandatory others own.2 n)
  where
    is_it : (slot.id == slot.id) ≡ true
    is_it = is_same slot.id slot.id refl

    later : (f : FirstMandatory others) (b : Bool) → (slot.id == f.id) ≡ b → slot.mandatory ≡ false → FirstMandatory (slot ∷ others)
    later f true e g =
        let clash : has_slot slot.id others ≡ true = subst (λ (n : ℕ). has_slot n others ≡ true) (sym (same slot.id f.id e)) f.has in
        absurd (cc (clash, own.1))
    later f false e g = record {
      id = f.id;
      fits = f.fits;
      has = ap (λ b. cond b true (has_slot f.id others)) e ∙ f.has;
      none_before = ap (λ b. mandatory_count (cond b [] (slot ∷ slots_before f.id others))) e
          ∙ ap (λ b. cond b (suc (mandatory_count (slots_before f.id others))) (mandatory_count (slots_before f.id others))) g
          ∙ f.none_before;
      one_less = ap (λ b. cond b (suc (mandatory_count others)) (mandatory_count others)) g ∙ f.one_less
          ∙ ap (λ b. suc (mandatory_count (cond b others (slots_after f.id others)))) (sym e);
    }

    go : (b : Bool) → slot.mandatory ≡ b → 1 ≤ cond b (suc (mandatory_count others)) (mandatory_count others)
        → (1 ≤ mandatory_count others → FirstMandatory others) → FirstMandatory (slot ∷ others)
    go true e n inner = record {
      id = slot.id;
      fits = own.0;
      has = ap (λ b. cond b true (has_slot slot.id others)) is_it;
      none_before = ap (λ b. mandatory_count (cond b [] (slot ∷ slots_before slot.id others))) is_it;
      one_less = ap (λ b. cond b (suc (mandatory_count others)) (mandatory_count others)) e
          ∙ ap (λ b. suc (mandatory_count (cond b others (slots_after slot.id others)))) (sym is_it);
    }
    go false e n inner = let f = inner n in later f (slot.id == f.id) refl e

few_mandatory : (left : List Slot) → mandatory_count left ≤ length left
few_mandatory [] = omega arith
few_mandatory (slot ∷ others) = go slot.mandatory (few_mandatory others)
  where
    go : (b : Bool) → mandatory_count others ≤ length others
        → cond b (suc (mandatory_count others)) (mandatory_count others) ≤ suc (length others)
    go true h = omega (arith, h)
    go false h = omega (arith, h)

-- an element that may come next
record SomeNext (known left : List Slot) (after : ℕ) : Type 0 where
  pub id : ℕ
  pub next : IsNext known left after id

some_next : (known left : List Slot) (after : ℕ) → IsSet known → IsLast known left → mandatory_count left ≤ suc after
    → SomeNext known left after
some_next known left after set last enough =
    by_cases (nat_lt (mandatory_count left) (suc after)) (λ b. SomeNext known left after) unknown mandatory
  where
    unknown : nat_lt (mandatory_count left) (suc after) ≡ true → SomeNext known left after
    unknown e =
        let few : mandatory_count left < suc after = below (mandatory_count left) (suc after) e in
        let stay : mandatory_count (slots_left known set.free left) ≡ mandatory_count left =
        ap (λ b. mandatory_count (cond b (slots_after set.free left) left)) set.free_is in record {
          id = set.free;
          next = record {
            order = either_no (has_slot set.free known) ((has_slot set.free left ≡ true) × (mandatory_count (slots_before set.free left) ≡ 0))
                (Unit {0}) set.free_is tt;
            enough = omega (arith, few, stay);
            fits = set.free_fits;
          };
        }

    mandatory : nat_lt (mandatory_count left) (suc after) ≡ false → SomeNext known left after
    mandatory e =
        let many : suc after ≤ mandatory_count left = not_below (mandatory_count left) (suc after) e in
        let own : AreOwnIds left = own_after last.before left (subst AreOwnIds last.is set.own) in
        let f = first_mandatory left own (omega (arith, many)) in
        let is_known : has_slot f.id known ≡ true =
        subst (λ (xs : List Slot). has_slot f.id xs ≡ true) (sym last.is) (has_after f.id last.before left f.has) in
        let less : mandatory_count (slots_left known f.id left) ≡ mandatory_count (slots_after f.id left) =
        ap (λ b. mandatory_count (cond b (slots_after f.id left) left)) is_known in record {
          id = f.id;
          next = record {
            order = either_yes (has_slot f.id known) ((has_slot f.id left ≡ true) × (mandatory_count (slots_before f.id left) ≡ 0))
                (Unit {0}) is_known (f.has, f.none_before);
            enough = omega (arith, less, f.one_less, enough);
            fits = f.fits;
          };
        }

always_ies : (p : Path) (known : List Slot) (body : ℕ → (Value → Prog) → Prog) → IsSet known
    → ((id : ℕ) (L : Value → Prog) → ((v : Value) → Always (L v)) → Always (body id L))
    → (count : ℕ) (left : List Slot) (K : Ies → Prog) → IsLast known left → mandatory_count left ≤ count
    → ((ies : Ies) → Always (K ies)) → Always (ask_ies p known body count left K)
always_ies p known body set inner zero left K last enough h = h no_ies
always_ies p known body set inner (suc count) left K last enough h =
    let on = λ (id criticality : ℕ) (v : Value). ask_ies p known body count (slots_left known id left)
    (λ others. K (ie id criticality v others)) in
    let third : Ask = constrained fields.index 2 2 in
    let s = some_next known left count set last enough in
    always_aligned p (ie_id known left count) (λ id. ask p third (λ criticality. body id (on id criticality))) s.id s.next
    (λ id (next : IsNext known left count id). always_ask p third (λ criticality. body id (on id criticality)) 0 (omega arith)
    (λ criticality a. inner id (on id criticality)
    (λ v. always_ies p known body set inner count (slots_left known id left) (λ others. K (ie id criticality v others))
    (left_last known left id last) next.enough (λ others. h (ie id criticality v others)))))

-- ---- each form of type
mutual
  unfolding asks EachSet

  pub always : (p : Path) (t : Tree) (K : Value → Prog) → HasSets t → ((v : Value) → Always (K v)) → Always (asks p t K)
  always p boolean K s h = always_ask p flag (λ b. K (truth (b == 1))) 0 (omega arith) (λ b a. h (truth (b == 1)))
  always p (integer low high extensible) K s h = always_integer p low high extensible (λ z. K (number z)) (λ z. h (number z))
  always p (enumerated names extensible) K s h = always_index p names extensible (λ i. K (enumeral i)) (λ i. h (enumeral i))
  always p (bit_string size) K s h =
      always_string p of_bits size (λ bs. K (bits (map (λ b. b == 1) bs)))
      (λ bs. h (bits (map (λ b. b == 1) bs)))
  always p (octet_string size) K s h = always_string p of_octets size (λ os. K (octets os)) (λ os. h (octets os))
  always p (printable_string size) K s h = always_string p of_characters size (λ cs. K (text cs)) (λ cs. h (text cs))
  always p (sequence extensible root additions) K s h =
      let K3 = λ (x : Bool) (vs : Options). ask_marks p x (λ added. ask_additions p additions added (λ more. K (components vs more))) in
      let K2 = λ (x : Bool) (there : List Bool). ask_components p root there (K3 x) in
      always_extension p extensible (λ x. ask_flags p root (K2 x))
      (λ x. always_flags p root (K2 x)
      (λ there. always_components p root there (K3 x) s.0
      (λ vs. always_marks p x (λ added. ask_additions p additions added (λ more. K (components vs more)))
      (λ added. always_additions p additions added (λ more. K (components vs more)) s.1 (λ more. h (components vs more))))))
  always p (choice extensible root additions) K s h =
      let count = part_count root in
      always_index p count extensible (λ i. cond (nat_lt i count) (ask_alternative p root i (λ v. K (chosen i v)))
      (ask_added p additions (i - count) (λ v. K (chosen i v))))
      (λ i. always_by (nat_lt i count) _ _
      (λ e. always_alternative p root i (λ v. K (chosen i v)) (below i count e) s.0 (λ v. h (chosen i v)))
      (λ e. always_added p additions (i - count) (λ v. K (chosen i v)) s.1 (λ v. h (chosen i v))))
  always p (sequence_of size t) K s h =
      let one = λ (i : ℕ). asks (fields.member i ∷ p) t in
      always_count p size (λ n. ask_members one 0 n (λ vs. K (list vs)))
      (λ n. always_members one (λ i L g. always (fields.member i ∷ p) t L s g) 0 n (λ vs. K (list vs)) (λ vs. h (list vs)))
  always p (container rows) K s h =
      let known = slots rows in
      let set : IsSet known = s.0 in
      always_aligned p (fields.ie_count (mandatory_count known))
      (λ n. ask_ies p known (λ id. ask_row p rows id) n known (λ ies. K (elements ies))) (mandatory_count known)
      (omega arith, omega (arith, few_mandatory known, set.few))
      (λ n a. always_ies p known (λ id. ask_row p rows id) set (λ id L g. always_row p rows id L s.1 g) n known
      (λ ies. K (elements ies)) (record { before = []; is = refl }) a.0 (λ ies. h (elements ies)))
  always p (pdu procedures) K s h =
      let third : Ask = constrained fields.index 2 2 in
      let K3 = λ (i j k : ℕ). ask_body p procedures i j (λ v. K (message i j k v)) in
      let K2 = λ (i j : ℕ). ask p third (K3 i j) in
      let K1 = λ (i : ℕ). ask_aligned p (constrained fields.index 8 255) (K2 i) in
      let past = λ (n : ℕ). ask_raw p p (λ v. K (message (3 + n) 0 0 v)) in
      always_ask p flag (λ b. cond (b == 1) (ask p (small fields.index) past) (ask p third K1)) 0 (omega arith)
      (λ b a. always_by (b == 1) (ask p (small fields.index) past) (ask p third K1)
      (λ e. always_ask p (small fields.index) past 0 (omega arith)
      (λ n c. always_raw p p (λ v. K (message (3 + n) 0 0 v)) (λ v. h (message (3 + n) 0 0 v))))
      (λ e. always_ask p third K1 0 (omega arith)
      (λ i c. always_aligned p (constrained fields.index 8 255) (K2 i) 0 (omega arith)
      (λ j d. always_ask p third (K3 i j) 0 (omega arith)
      (λ k f. always_body p procedures i j (λ v. K (message i j k v)) s (λ v. h (message i j k v)))))))

  always_components : (p : Path) (parts : Parts) (there : List Bool) (K : Options → Prog) → EachSetOfParts IsSet parts
      → ((vs : Options) → Always (K vs)) → Always (ask_components p parts there K)
  always_components p (part name optional t others) (true ∷ there) K s h =
      always (fields.component name ∷ p) t (λ v. ask_components p others there (λ vs. K (present v vs))) s.0
      (λ v. always_components p others there (λ vs. K (present v vs)) s.1 (λ vs. h (present v vs)))
  always_components p (part name optional t others) (false ∷ there) K s h =
      always_components p others there (λ vs. K (absent vs)) s.1 (λ vs. h (absent vs))
  always_components p (part name optional t others) [] K s h = h no_options
  always_components p no_parts there K s h = h no_options

  always_additions : (p : Path) (parts : Parts) (there : List Bool) (K : Options → Prog) → EachSetOfParts IsSet parts
      → ((os : Options) → Always (K os)) → Always (ask_additions p parts there K)
  always_additions p no_parts there K s h = always_raw_additions p there K h
  always_additions p (part name optional t others) [] K s h = h no_options
  always_additions p (part name optional t others) (false ∷ there) K s h =
      always_additions p others there (λ more. K (absent more)) s.1 (λ more. h (absent more))
  always_additions p (part name optional t others) (true ∷ there) K s h =
      let q = fields.component name ∷ p in
      always_open p q (asks q t) (λ v. ask_additions p others there (λ more. K (present v more)))
      (λ L g. always q t L s.0 g)
      (λ v. always_additions p others there (λ more. K (present v more)) s.1 (λ more. h (present v more)))

  always_alternative : (p : Path) (parts : Parts) (i : ℕ) (K : Value → Prog) → i < part_count parts → EachSetOfParts IsSet parts
      → ((v : Value) → Always (K v)) → Always (ask_alternative p parts i K)
  always_alternative p no_parts i K inside s h = absurd (omega (arith, inside))
  always_alternative p (part name optional t others) zero K inside s h = always (fields.component name ∷ p) t K s.0 h
  always_alternative p (part name optional t others) (suc i) K inside s h =
      always_alternative p others i K (omega (arith, inside)) s.1 h

  always_added : (p : Path) (parts : Parts) (i : ℕ) (K : Value → Prog) → EachSetOfParts IsSet parts → ((v : Value) → Always (K v))
      → Always (ask_added p parts i K)
  always_added p no_parts i K s h = always_raw p p K h
  always_added p (part name optional t others) zero K s h =
      let q = fields.component name ∷ p in always_open p q (asks q t) K (λ L g. always q t L s.0 g) h
  always_added p (part name optional t others) (suc i) K s h = always_added p others i K s.1 h

  always_row : (p : Path) (rows : Rows) (id : ℕ) (K : Value → Prog) → EachSetOfRows IsSet rows → ((v : Value) → Always (K v))
      → Always (ask_row p rows id K)
  always_row p no_rows id K s h = always_raw p (fields.element id ∷ p) K h
  always_row p (row other mandatory t others) id K s h =
      let q = fields.element id ∷ p in
      always_by (other == id) _ _ (λ e. always_open p q (asks q t) K (λ L g. always q t L s.0 g) h)
      (λ e. always_row p others id K s.1 h)

  always_body : (p : Path) (procedures : Procedures) (index code : ℕ) (K : Value → Prog) → EachSetOfProcedures IsSet procedures
      → ((v : Value) → Always (K v)) → Always (ask_body p procedures index code K)
  always_body p no_procedures index code K s h = always_raw p (fields.outcome index ∷ p) K h
  always_body p (procedure other initiating successful unsuccessful others) index code K s h =
      always_by (other == code) _ _
      (λ e. always_by (index == 0) _ _ (λ e2. always_outcome p index initiating K s.0 h)
      (λ e2. always_by (index == 1) _ _ (λ e3. always_outcome p index successful K s.1 h)
      (λ e3. always_outcome p index unsuccessful K s.2 h)))
      (λ e. always_body p others index code K s.3 h)

  always_outcome : (p : Path) (index : ℕ) (o : Outcome) (K : Value → Prog) → EachSetOfOutcome IsSet o → ((v : Value) → Always (K v))
      → Always (ask_outcome p index o K)
  always_outcome p index no_outcome K s h = always_raw p (fields.outcome index ∷ p) K h
  always_outcome p index (outcome t) K s h =
      let q = fields.outcome index ∷ p in always_open p q (asks q t) K (λ L g. always q t L s g) h

pub always_whole : (t : Tree) → HasSets t → Always (asks_whole t)
always_whole t s = always [] t (λ v. ask [] closing (λ m. done v)) s
    (λ v. always_ask [] closing (λ m. done v) 0 (omega arith) (λ m a. always_done v))

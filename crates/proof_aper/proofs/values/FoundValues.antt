-- What answers the questions of a type is the layout of a value of it.
use Rattle.std.proofs.Common.{◌≡◌, ℕ, zero, suc, ◌-◌, ◌<◌, ◌==◌, nat_lt, cond, Bool, true, false, List, [], ◌∷◌, ◌++◌, length, map, None, Some, Ok, refl, sym, ap, subst, ◌∙◌, arith, append_assoc}
use Rattle.bits_core.specs.Bits.{bit_value}
use Rattle.aper_defs.specs.Trees.{Tree, Parts, Rows, Procedures, Outcome, slots, mandatory_count, part_count, boolean, integer, enumerated, bit_string, octet_string, printable_string, sequence, choice, sequence_of, container, pdu, no_parts, part, no_rows, row, no_procedures, procedure, no_outcome, outcome}
use Rattle.aper_defs.specs.Values.{Value, Values, Options, Ies, value_count, ie_count, presence, has_options, each_from, truth, number, enumeral, bits, octets, text, components, chosen, list, elements, message, no_options, absent, present}
use Rattle.aper_defs.specs.Fields.{Path, Ask, Field, flag, pad, asked}
use Rattle.aper_defs.specs.Fields as fields
use Rattle.aper_defs.specs.Bits.{open_fields}
use Rattle.aper_defs.specs.Parts.{of_bits, of_octets, of_characters, extension_fields, index_fields, string_fields, count_fields}
use Rattle.aper_defs.specs.Layouts.{flag_fields, mark_fields, ie_fields, layout, component_fields, addition_fields, alternative_fields, added_fields, row_fields, body_fields, outcome_fields}
use Rattle.aper_defs.specs.Membership.{Either, is_count_of, EachFrom, AreElements, Has, HasComponents, HasAdditions, HasAlternative, HasAdded, HasRow, HasBody, HasOutcome}
use Rattle.aper_defs.specs.Bounds.{IsBounded, ArePartsBounded, AreRowsBounded, AreProceduresBounded, IsOutcomeBounded}
use Rattle.aper_defs.specs.Questions.{Prog, never, ask_flags, ask_members, ask_ies}
use Rattle.aper_defs.specs.Asking.{ask_marks, asks, ask_components, ask_additions, ask_alternative, ask_added, ask_row, ask_body, ask_outcome}
use Rattle.aper_defs.specs.Reading.{Cursor, read, run, answered_at}
use Rattle.proof_aper.proofs.answers.Standing.{after_all, after_all-append}
use Rattle.proof_aper.proofs.places.Placed.{AreBelow, stand_both}
use Rattle.proof_aper.proofs.places.PlacedAll.{placed}
use Rattle.proof_aper.proofs.values.Found.{Ends, Found, found_after, found_ask}
use Rattle.proof_aper.proofs.values.FoundNumbers.{flag_read, found_aligned, found_extension}
use Rattle.proof_aper.proofs.values.FoundIndices.{found_integer, found_index}
use Rattle.proof_aper.proofs.values.FoundStrings.{IsString, found_string, found_count}
use Rattle.proof_aper.proofs.values.FoundOpen.{octets_so, found_open, found_raw}
use Rattle.proof_aper.proofs.values.FoundElements.{found_either, flags_of, AreThere, flags_are, found_flags, marks_of, AreMarks, marks_are, found_marks, additions_so, found_raw_additions, found_members, count_read, found_ies, IsMessage, message_fields, found_message}

never_ends : (c : Cursor) (y : Value × Cursor) → Ends never c y → ⊥
unfolding run
never_ends c y e = cc

pub bit_so : (n : ℕ) → n < 2 → n ≡ bit_value (n == 1)
bit_so zero h = refl
bit_so (suc zero) h = refl
bit_so (suc (suc n)) h = absurd (omega arith)

pub bits_so : (us : List ℕ) → AreBelow 2 us → us ≡ map bit_value (map (λ b. b == 1) us)
bits_so [] h = refl
bits_so (u ∷ us) h = ap (λ (n : ℕ). n ∷ us) (bit_so u h.0) ∙ ap (λ (xs : List ℕ). bit_value (u == 1) ∷ xs) (bits_so us h.1)

pub mapped : (us : List ℕ) → length (map (λ b. b == 1) us) ≡ length us
mapped [] = refl
mapped (u ∷ us) = ap suc (mapped us)

-- the fields of a SEQUENCE, of what was read one after another
pub sequence_fields : (p : Path) (extensible b : Bool) (root : Parts) (marks added : List Bool) (vs more : Options) (f g : List Field)
    → has_options more ≡ b → presence vs ≡ marks → presence more ≡ added
    → (extension_fields p extensible b ++ (flags_of p root marks ++ (f ++ marks_of p added))) ++ g
    ≡ extension_fields p extensible (has_options more) ++ (flag_fields p root vs ++ (f ++ (mark_fields p more ++ g)))
sequence_fields p extensible b root marks added vs more f g eb em ea =
    let e = extension_fields p extensible b in
    let h = flags_of p root marks in
    let m = marks_of p added in
    let flags : h ≡ flag_fields p root vs = ap (flags_of p root) (sym em) ∙ sym (flags_are p root vs) in
    let said : m ≡ mark_fields p more = ap (marks_of p) (sym ea) ∙ sym (marks_are p more) in
    append_assoc e (h ++ (f ++ m)) g
    ∙ ap (λ xs. e ++ xs) (append_assoc h (f ++ m) g ∙ ap (λ xs. h ++ xs) (append_assoc f m g))
    ∙ ap (λ xs. e ++ (xs ++ (f ++ (m ++ g)))) flags
    ∙ ap (λ xs. e ++ (flag_fields p root vs ++ (f ++ (xs ++ g)))) said
    ∙ ap (λ x. extension_fields p extensible x ++ (flag_fields p root vs ++ (f ++ (mark_fields p more ++ g)))) (sym eb)

mutual
  unfolding Has layout asks IsBounded

  pub found : (p : Path) (t : Tree) (K : Value → Prog) (c : Cursor) (y : Value × Cursor) → IsBounded t → Ends (asks p t K) c y
      → Found (λ v. Has p t v) (λ v. layout p t v) K c y
  found p boolean K c y b e =
      found_after [] (λ n. read flag c ≡ Ok n) (λ v. Has p boolean v) (λ n. asked p flag n ∷ []) (λ v. layout p boolean v) (λ n. K (truth
      (n == 1))) K c y (λ n. truth (n == 1)) tt
      (found_ask p flag (λ n. K (truth (n == 1))) c y e) (λ n h s. tt) (λ n h s. ap (λ m. asked p flag m ∷ []) (bit_so n
      (flag_read c n h))) (λ n h. refl)
  found p (integer low high extensible) K c y b e =
      found_after [] _ (λ v. Has p (integer low high extensible) v) _ (λ v. layout p (integer low high extensible) v) (λ z. K
      (number z)) K c y (λ z. number z) tt
      (found_integer p low high extensible (λ z. K (number z)) c y b.0 b.1 e) (λ z h s. h) (λ z h s. refl) (λ z h. refl)
  found p (enumerated names extensible) K c y b e =
      found_after [] _ (λ v. Has p (enumerated names extensible) v) _ (λ v. layout p (enumerated names extensible) v) (λ i. K
      (enumeral i)) K c y (λ i. enumeral i) tt
      (found_index p names extensible (λ i. K (enumeral i)) c y b.0 b.1 e) (λ i h s. h) (λ i h s. refl) (λ i h. refl)
  found p (bit_string size) K c y b e =
      found_after [] (IsString of_bits size) (λ v. Has p (bit_string size) v) _ (λ v. layout p (bit_string size) v) (λ xs. K (bits (map
      (λ x. x == 1) xs))) K c y
      (λ xs. bits (map (λ x. x == 1) xs)) tt
      (found_string p of_bits size (λ xs. K (bits (map (λ x. x == 1) xs))) c y b e)
      (λ us h s. ap (is_count_of None size) (mapped us) ∙ h.0) (λ us h s. ap (string_fields p of_bits size) (bits_so us h.1)) (λ us h. refl)
  found p (octet_string size) K c y b e =
      found_after [] (IsString of_octets size) (λ v. Has p (octet_string size) v) _ (λ v. layout p (octet_string size) v) (λ xs. K
      (octets xs)) K c y (λ xs. octets xs) tt
      (found_string p of_octets size (λ xs. K (octets xs)) c y b e) (λ us h s. (h.0, octets_so us h.1)) (λ us h s. refl) (λ us h. refl)
  found p (printable_string size) K c y b e =
      found_after [] (IsString of_characters size) (λ v. Has p (printable_string size) v) _ (λ v. layout p (printable_string size) v)
      (λ xs. K (text xs)) K c y (λ xs. text xs) tt
      (found_string p of_characters size (λ xs. K (text xs)) c y b e) (λ us h s. h) (λ us h s. refl) (λ us h. refl)
  found p (sequence extensible root additions) K c y b e =
      let K3 = λ (x : Bool) (ws : Options). ask_marks p x (λ added. ask_additions p additions added (λ os. K (components ws os))) in
      let K2 = λ (x : Bool) (th : List Bool). ask_components p root th (K3 x) in
      let a1 = found_extension p extensible (λ x. ask_flags p root (K2 x)) c y e in
      let x = a1.made in
      let f1 = extension_fields p extensible x in
      let c1 = after_all f1 c in
      let a2 = found_flags p root (K2 x) c1 y a1.rest in
      let th = a2.made in
      let f2 = flags_of p root th in
      let c2 = after_all f2 c1 in
      let a3 = found_components p root th (K3 x) c2 y b.0 a2.is a2.rest in
      let vs = a3.made in
      let f3 = component_fields p root vs in
      let c3 = after_all f3 c2 in
      let a4 = found_marks p x (λ added. ask_additions p additions added (λ os. K (components vs os))) c3 y a3.rest in
      let added = a4.made in
      let f4 = marks_of p added in
      let s34 = stand_both f3 f4 c2 a3.stand a4.stand in
      let s24 = stand_both f2 (f3 ++ f4) c1 a2.stand s34 in
      let s14 = stand_both f1 (f2 ++ (f3 ++ f4)) c a1.stand s24 in
      let at_end : after_all (f1 ++ (f2 ++ (f3 ++ f4))) c ≡ after_all f4 c3 =
      after_all-append f1 (f2 ++ (f3 ++ f4)) c ∙ after_all-append f2 (f3 ++ f4) c1 ∙ after_all-append f3 f4 c2 in
      let L = λ (os : Options). K (components vs os) in
      let rest4 : Ends (ask_additions p additions added L) (after_all (f1 ++ (f2 ++ (f3 ++ f4))) c) y =
      subst (λ d. Ends (ask_additions p additions added L) d y) (sym at_end) a4.rest in
      let so = λ (more : Options). λ (h : presence more ≡ added). additions_so extensible x more a1.is (subst (AreMarks x) (sym h) a4.is) in
      found_after (f1 ++ (f2 ++ (f3 ++ f4))) (λ more. (presence more ≡ added) × HasAdditions p additions more) (λ v. Has p
      (sequence extensible root additions) v)
      (λ more. addition_fields p additions more) (λ v. layout p (sequence extensible root additions) v) L K c y
      (λ more. components vs more) s14
      (found_additions p additions added L (after_all (f1 ++ (f2 ++ (f3 ++ f4))) c) y b.1 rest4)
      (λ more h s. (a3.is.1, (so more h.0).0, h.1))
      (λ more h s. sequence_fields p extensible x root th added vs more f3 (addition_fields p additions more) (so more h.0).1 a3.is.0 h.0)
      (λ more h. refl)
  found p (choice extensible root additions) K c y b e =
      let count = part_count root in
      let K1 = λ (j : ℕ). cond (nat_lt j count) (ask_alternative p root j (λ w. K (chosen j w))) (ask_added p additions (j - count)
      (λ w. K (chosen j w))) in
      let a = found_index p count extensible K1 c y b.0 b.1 e in
      let i = a.made in
      let d = after_all (index_fields p count extensible i) c in
      let L = λ (w : Value). K (chosen i w) in
      found_after (index_fields p count extensible i) (λ v. Either (nat_lt i count) (HasAlternative p root i v) (HasAdded p additions
      (i - count) v))
      (λ v. Has p (choice extensible root additions) v)
      (λ v. cond (nat_lt i count) (alternative_fields p root i v) (added_fields p additions (i - count) v)) (λ v. layout p
      (choice extensible root additions) v) L K c y (λ v. chosen i v)
      a.stand
      (found_either (nat_lt i count) (λ v. HasAlternative p root i v) (λ v. HasAdded p additions (i - count) v)
      (λ v. alternative_fields p root i v)
      (λ v. added_fields p additions (i - count) v) _ _ L d y
      (λ e2. found_alternative p root i L d y b.2 e2) (λ e2. found_added p additions (i - count) L d y b.3 e2) a.rest)
      (λ v h s. (a.is, h)) (λ v h s. refl) (λ v h. refl)
  found p (sequence_of size t) K c y b e =
      let each_one = λ (i : ℕ). asks (fields.member i ∷ p) t in
      let f = λ (i : ℕ) (w : Value). layout (fields.member i ∷ p) t w in
      let P = λ (i : ℕ) (w : Value). Has (fields.member i ∷ p) t w in
      let L = λ (ws : Values). K (list ws) in
      let a = found_count p size (λ n. ask_members each_one 0 n L) c y b.0 e in
      let n = a.made in
      found_after (count_fields p size n) (λ vs. (value_count vs ≡ n) × EachFrom P 0 vs) (λ v. Has p (sequence_of size t) v)
      (λ vs. each_from f 0 vs) (λ v. layout p (sequence_of size t) v) L K c y (λ vs. list vs) a.stand
      (found_members f each_one P y (λ i L2 d e2. found (fields.member i ∷ p) t L2 d y b.1 e2) 0 n L (after_all
      (count_fields p size n) c) a.rest)
      (λ vs h s. (subst (λ (m : ℕ). is_count_of (Some 16383) size m ≡ true) (sym h.0) a.is, h.1))
      (λ vs h s. ap (λ (m : ℕ). count_fields p size m ++ each_from f 0 vs) (sym h.0)) (λ vs h. refl)
  found p (container rows) K c y b e =
      let known = slots rows in
      let question : Ask = fields.ie_count (mandatory_count known) in
      let f = λ (id : ℕ) (w : Value). row_fields p rows id w in
      let P = λ (id : ℕ) (w : Value). HasRow p rows id w in
      let body = λ (id : ℕ). ask_row p rows id in
      let L = λ (xs : Ies). K (elements xs) in
      let a = found_aligned p question (λ n. ask_ies p known body n known L) c y e in
      let n = a.made in
      let d : Cursor = answered_at question n (answered_at pad 0 c) in
      let r = count_read (mandatory_count known) (answered_at pad 0 c) n a.stand.1.0 in
      found_after (asked p pad 0 ∷ asked p question n ∷ []) (λ ies. (ie_count ies ≡ n) × AreElements known P known ies) (λ v. Has p
      (container rows) v)
      (λ ies. ie_fields p known f known ies) (λ v. layout p (container rows) v) L K c y (λ ies. elements ies) a.stand
      (found_ies p known f body P y (λ id L2 d2 e2. found_row p rows id L2 d2 y b e2) n known L d r.0 a.rest)
      (λ ies h s. (subst (λ (m : ℕ). m < 65536) (sym h.0) r.1, h.1))
      (λ ies h s. ap (λ (m : ℕ). asked p pad 0 ∷ asked p question m ∷ ie_fields p known f known ies) (sym h.0)) (λ ies h. refl)
  found p (pdu procedures) K c y b e =
      found_after [] (IsMessage (λ i j v. HasBody p procedures i j v)) (λ v. Has p (pdu procedures) v) (message_fields p
      (λ i j v. body_fields p procedures i j v))
      (λ v. layout p (pdu procedures) v) (λ x. K (message x.index x.code x.criticality x.body)) K c y
      (λ x. message x.index x.code x.criticality x.body) tt
      (found_message p (λ i j v. body_fields p procedures i j v) (λ i j v. HasBody p procedures i j v)
      (λ i j. ask_body p procedures i j) K c y
      (λ i j L d e2. found_body p procedures i j L d y b e2) e)
      (λ x h s. h) (λ x h s. refl) (λ x h. refl)

  found_components : (p : Path) (parts : Parts) (marks : List Bool) (K : Options → Prog) (c : Cursor) (y : Value × Cursor)
      → ArePartsBounded parts → AreThere parts marks
      → Ends (ask_components p parts marks K) c y
      → Found (λ vs. (presence vs ≡ marks) × HasComponents p parts vs) (λ vs. component_fields p parts vs) K c y
  found_components p no_parts [] K c y b th e = record { made = no_options; is = (refl, tt); stand = tt; rest = e }
  found_components p no_parts (m ∷ marks) K c y b th e = absurd th
  found_components p (part name optional t others) [] K c y b th e = absurd th
  found_components p (part name optional t others) (true ∷ marks) K c y b th e =
      let q = fields.component name ∷ p in
      let a = found q t (λ v. ask_components p others marks (λ vs. K (present v vs))) c y b.0 e in
      let v = a.made in
      found_after (layout q t v) (λ vs. (presence vs ≡ marks) × HasComponents p others vs) _ (λ vs. component_fields p others vs) _
      (λ vs. K (present v vs)) K c y (λ vs. present v vs)
      a.stand (found_components p others marks (λ vs. K (present v vs)) (after_all (layout q t v) c) y b.1 th.1 a.rest)
      (λ vs h s. (ap (λ (bs : List Bool). true ∷ bs) h.0, (a.is, h.1))) (λ vs h s. refl) (λ vs h. refl)
  found_components p (part name optional t others) (false ∷ marks) K c y b th e =
      found_after [] (λ vs. (presence vs ≡ marks) × HasComponents p others vs) _ (λ vs. component_fields p others vs) _ (λ vs. K
      (absent vs)) K c y (λ vs. absent vs)
      tt (found_components p others marks (λ vs. K (absent vs)) c y b.1 th.1 e)
      (λ vs h s. (ap (λ (bs : List Bool). false ∷ bs) h.0, (th.0 refl, h.1))) (λ vs h s. refl) (λ vs h. refl)

  found_additions : (p : Path) (parts : Parts) (marks : List Bool) (K : Options → Prog) (c : Cursor) (y : Value × Cursor)
      → ArePartsBounded parts
      → Ends (ask_additions p parts marks K) c y
      → Found (λ more. (presence more ≡ marks) × HasAdditions p parts more) (λ more. addition_fields p parts more) K c y
  found_additions p no_parts marks K c y b e = found_raw_additions p marks K c y e
  found_additions p (part name optional t others) [] K c y b e = record { made = no_options; is = (refl, tt); stand = tt; rest = e }
  found_additions p (part name optional t others) (false ∷ marks) K c y b e =
      found_after [] (λ more. (presence more ≡ marks) × HasAdditions p others more) _ (λ more. addition_fields p others more) _
      (λ more. K (absent more)) K c y (λ more. absent more)
      tt (found_additions p others marks (λ more. K (absent more)) c y b.1 e)
      (λ more h s. (ap (λ (bs : List Bool). false ∷ bs) h.0, h.1)) (λ more h s. refl) (λ more h. refl)
  found_additions p (part name optional t others) (true ∷ marks) K c y b e =
      let q = fields.component name ∷ p in
      let a = found_open p q (asks q t) (λ v. Has q t v) (λ v. layout q t v) (λ v. ask_additions p others marks (λ more. K
      (present v more))) c y
      (λ v h. placed q t v b.0 h) (λ L d e2. found q t L d y b.0 e2) e in
      let v = a.made in
      found_after (open_fields p q (layout q t v)) (λ more. (presence more ≡ marks) × HasAdditions p others more) _
      (λ more. addition_fields p others more) _
      (λ more. K (present v more)) K c y (λ more. present v more)
      a.stand (found_additions p others marks (λ more. K (present v more)) (after_all (open_fields p q (layout q t v)) c) y b.1 a.rest)
      (λ more h s. (ap (λ (bs : List Bool). true ∷ bs) h.0, (a.is.0, a.is.1, h.1))) (λ more h s. refl) (λ more h. refl)

  found_alternative : (p : Path) (parts : Parts) (i : ℕ) (K : Value → Prog) (c : Cursor) (y : Value × Cursor) → ArePartsBounded parts
      → Ends (ask_alternative p parts i K) c y
      → Found (λ v. HasAlternative p parts i v) (λ v. alternative_fields p parts i v) K c y
  found_alternative p no_parts i K c y b e = absurd (never_ends c y e)
  found_alternative p (part name optional t others) zero K c y b e = found (fields.component name ∷ p) t K c y b.0 e
  found_alternative p (part name optional t others) (suc i) K c y b e = found_alternative p others i K c y b.1 e

  found_added : (p : Path) (parts : Parts) (i : ℕ) (K : Value → Prog) (c : Cursor) (y : Value × Cursor) → ArePartsBounded parts
      → Ends (ask_added p parts i K) c y
      → Found (λ v. HasAdded p parts i v) (λ v. added_fields p parts i v) K c y
  found_added p no_parts i K c y b e = found_raw p p K c y e
  found_added p (part name optional t others) zero K c y b e =
      let q = fields.component name ∷ p in
      found_open p q (asks q t) (λ v. Has q t v) (λ v. layout q t v) K c y (λ v h. placed q t v b.0 h) (λ L d e2. found q t L d y b.0 e2) e
  found_added p (part name optional t others) (suc i) K c y b e = found_added p others i K c y b.1 e

  found_row : (p : Path) (rows : Rows) (id : ℕ) (K : Value → Prog) (c : Cursor) (y : Value × Cursor) → AreRowsBounded rows
      → Ends (ask_row p rows id K) c y
      → Found (λ v. HasRow p rows id v) (λ v. row_fields p rows id v) K c y
  found_row p no_rows id K c y b e = found_raw p (fields.element id ∷ p) K c y e
  found_row p (row other mandatory t others) id K c y b e =
      let q = fields.element id ∷ p in
      found_either (other == id) _ _ _ _ _ _ K c y
      (λ e2. found_open p q (asks q t) (λ v. Has q t v) (λ v. layout q t v) K c y (λ v h. placed q t v b.0 h)
      (λ L d e3. found q t L d y b.0 e3) e2)
      (λ e2. found_row p others id K c y b.1 e2) e

  found_body : (p : Path) (procedures : Procedures) (index code : ℕ) (K : Value → Prog) (c : Cursor) (y : Value × Cursor)
      → AreProceduresBounded procedures
      → Ends (ask_body p procedures index code K) c y
      → Found (λ v. HasBody p procedures index code v) (λ v. body_fields p procedures index code v) K c y
  found_body p no_procedures index code K c y b e = found_raw p (fields.outcome index ∷ p) K c y e
  found_body p (procedure other initiating successful unsuccessful others) index code K c y b e =
      found_either (other == code) _ _ _ _ _ _ K c y
      (λ e2. found_either (index == 0) _ _ _ _ _ _ K c y (λ e3. found_outcome p index initiating K c y b.0 e3)
      (λ e3. found_either (index == 1) _ _ _ _ _ _ K c y (λ e4. found_outcome p index successful K c y b.1 e4)
      (λ e4. found_outcome p index unsuccessful K c y b.2 e4) e3) e2)
      (λ e2. found_body p others index code K c y b.3 e2) e

  found_outcome : (p : Path) (index : ℕ) (o : Outcome) (K : Value → Prog) (c : Cursor) (y : Value × Cursor) → IsOutcomeBounded o
      → Ends (ask_outcome p index o K) c y
      → Found (λ v. HasOutcome p index o v) (λ v. outcome_fields p index o v) K c y
  found_outcome p index no_outcome K c y b e = found_raw p (fields.outcome index ∷ p) K c y e
  found_outcome p index (outcome t) K c y b e =
      let q = fields.outcome index ∷ p in
      found_open p q (asks q t) (λ v. Has q t v) (λ v. layout q t v) K c y (λ v h. placed q t v b h) (λ L d e2. found q t L d y b e2) e

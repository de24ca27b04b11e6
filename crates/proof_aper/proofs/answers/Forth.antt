-- The layout of a value answers what is asked for its type, and gives the value.
use Rattle.std.proofs.Common.{◌≡◌, ℕ, zero, suc, ◌+◌, ◌-◌, ◌≤◌, Bool, true, false, cond, ◌==◌, nat_lt, List, [], ◌∷◌, ◌++◌, length, map, None, refl, sym, ap, ◌∙◌, arith}
use Rattle.bits_core.specs.Bits.{bit_value, bits_of, number_of}
use Rattle.bits_core.proofs.BitLemmas.{bits_of-number_of}
use Rattle.aper_defs.specs.Trees.{Tree, Parts, Rows, Procedures, Outcome, Slot, slots, slots_left, mandatory_count, part_count, boolean, integer, enumerated, bit_string, octet_string, printable_string, sequence, choice, sequence_of, container, pdu, no_parts, part, no_rows, row, no_procedures, procedure, no_outcome, outcome}
use Rattle.aper_defs.specs.Values.{Value, Values, Options, Ies, value_count, ie_count, presence, has_options, each_from, truth, number, enumeral, bits, octets, text, components, chosen, list, elements, message, raw, no_values, value, no_options, absent, present, no_ies, ie}
use Rattle.aper_defs.specs.Fields.{Path, Ask, Field, flag, constrained, small, extent, addition_bits, ie_id, pad, opening, closing, end, whole, octet, asked, run as run_field}
use Rattle.aper_defs.specs.Fields as fields
use Rattle.aper_defs.specs.Bits.{closed, octet_count, open_fields, put_all}
use Rattle.aper_defs.specs.Parts.{of_bits, of_octets, of_characters, extension_fields, index_fields, string_fields, count_fields}
use Rattle.aper_defs.specs.Layouts.{raw_fields, flag_fields, mark_fields, raw_additions, ie_fields, message_head, layout, component_fields, addition_fields, alternative_fields, added_fields, row_fields, body_fields, outcome_fields}
use Rattle.aper_defs.specs.Membership.{Either, is_count_of, IsRaw, EachFrom, AreRaw, AreAdditions, AreElements, Has, HasComponents, HasAdditions, HasAlternative, HasAdded, HasRow, HasBody, HasOutcome}
use Rattle.aper_defs.specs.Questions.{Prog, ask, ask_aligned, ask_extension, ask_index, ask_open, ask_raw, ask_flags, ask_members, ask_raw_additions, ask_ies}
use Rattle.aper_defs.specs.Questions as questions
use Rattle.aper_defs.specs.Asking.{ask_marks, asks, ask_components, ask_additions, ask_alternative, ask_added, ask_row, ask_body, ask_outcome}
use Rattle.aper_defs.specs.Reading.{Cursor, run, answered_at}
use Rattle.proof_aper.proofs.answers.Standing.{Leads, StandAll-append, after_all, after_all-append, answered, taken, both, nothing, asks_on, one}
use Rattle.proof_aper.proofs.answers.NumberFacts.{not_below}
use Rattle.proof_aper.proofs.answers.ForthNumbers.{aligned, forth_extension, forth_integer, forth_index}
use Rattle.proof_aper.proofs.answers.ForthStrings.{forth_string, forth_count}

-- ---- bits of BOOLEAN and BIT STRING
pub bit_again : (b : Bool) → (bit_value b == 1) ≡ b
bit_again true = refl
bit_again false = refl

pub bits_again : (bs : List Bool) → map (λ b. b == 1) (map bit_value bs) ≡ bs
bits_again [] = refl
bits_again (b ∷ bs) = ap (λ (x : Bool). x ∷ map (λ n. n == 1) (map bit_value bs)) (bit_again b)
    ∙ ap (λ (xs : List Bool). b ∷ xs) (bits_again bs)

pub length_of_bits : (bs : List Bool) → length (map bit_value bs) ≡ length bs
length_of_bits [] = refl
length_of_bits (b ∷ bs) = ap suc (length_of_bits bs)

-- ---- open types and raw octets
pub forth_open : (p inside : Path) (fs : List Field) (contents : (Value → Prog) → Prog) (v : Value) (K : Value → Prog) (c : Cursor)
    → ((L : Value → Prog) (d : Cursor) → Leads fs (contents L) (L v) d)
    → Leads (open_fields p inside fs) (ask_open p inside contents K) (K v) c
forth_open p inside fs contents v K c leads s =
    let n = octet_count (closed inside fs) in
    let after = λ (w : Value). ask inside closing (λ m. ask inside end (λ z. K w)) in
    let mark = cond (length (put_all [] fs) == 0) 1 0 in
    let d : Cursor = answered_at opening n (answered_at pad 0 c) in
    let parts = StandAll-append (closed inside fs) (asked inside end 0 ∷ []) d s.1.1 in
    let pieces = StandAll-append fs (asked inside closing mark ∷ []) d parts.0 in
    let e : Cursor = after_all fs d in
    let split : after_all (closed inside fs) d ≡ answered_at closing mark e = after_all-append fs (asked inside closing mark ∷ []) d in
    answered p pad (λ z. ask p opening (λ m. contents after)) c 0 s.0
    ∙ answered p opening (λ m. contents after) (answered_at pad 0 c) n s.1.0
    ∙ leads after d pieces.0
    ∙ answered inside closing (λ m. ask inside end (λ z. K v)) e mark pieces.1.0
    ∙ ap (run (ask inside end (λ z. K v))) (sym split)
    ∙ answered inside end (λ z. K v) (after_all (closed inside fs) d) 0 parts.1.0
    ∙ ap (run (K v)) (sym (after_all-append (closed inside fs) (asked inside end 0 ∷ []) d))

pub forth_raw : (p inside : Path) (v : Value) (K : Value → Prog) (c : Cursor) → IsRaw v
    → Leads (raw_fields p inside v) (ask_raw p inside K) (K v) c
forth_raw p inside (raw os) K c h s =
    aligned p (extent (whole 1 16383 None)) (length os) (λ n. questions.take inside octet n (λ xs. K (raw xs))) c (s.0, (s.1.0, tt))
    ∙ taken inside octet (λ xs. K (raw xs)) (answered_at (extent (whole 1 16383 None)) (length os) (answered_at pad 0 c)) os s.1.1.0
forth_raw p inside v K c h s = absurd h

-- ---- SEQUENCE
-- which components are there, the mandatory ones always
abbrev pub there : Parts → Options → List Bool
there (part name optional t others) (absent vs) = false ∷ there others vs
there (part name optional t others) (present v vs) = true ∷ there others vs
there parts vs = []

pub forth_flags : (p : Path) (parts : Parts) (vs : Options) (K : List Bool → Prog) (c : Cursor) → HasComponents p parts vs
    → Leads (flag_fields p parts vs) (ask_flags p parts K) (K (there parts vs)) c
unfolding HasComponents
forth_flags p no_parts no_options K c h s = refl
forth_flags p no_parts (absent vs) K c h s = absurd h
forth_flags p no_parts (present v vs) K c h s = absurd h
forth_flags p (part name optional t others) no_options K c h s = absurd h
forth_flags p (part name true t others) (absent vs) K c h s =
    answered p flag (λ b. ask_flags p others (λ marks. K ((b == 1) ∷ marks))) c 0 s.0
    ∙ forth_flags p others vs (λ marks. K (false ∷ marks)) (answered_at flag 0 c) h.1 s.1
forth_flags p (part name false t others) (absent vs) K c h s = absurd (cc h.0)
forth_flags p (part name true t others) (present v vs) K c h s =
    answered p flag (λ b. ask_flags p others (λ marks. K ((b == 1) ∷ marks))) c 1 s.0
    ∙ forth_flags p others vs (λ marks. K (true ∷ marks)) (answered_at flag 1 c) h.1 s.1
forth_flags p (part name false t others) (present v vs) K c h s = forth_flags p others vs (λ marks. K (true ∷ marks)) c h.1 s

marks_lead : (p : Path) (m : Bool) (ms : List Bool) (K : List Bool → Prog) (c : Cursor)
    → Leads (asked p (small fields.length) (length (m ∷ ms) - 1) ∷ asked p (addition_bits (length (m ∷ ms))) (number_of (m ∷ ms)) ∷ [])
    (ask_marks p true K) (K (m ∷ ms)) c
marks_lead p m ms K c s =
    let n = length (m ∷ ms) - 1 in
    let size : n + 1 ≡ length (m ∷ ms) = omega arith in
    let d : Cursor = answered_at (small fields.length) n c in
    let x = number_of (m ∷ ms) in
    answered p (small fields.length) (λ k. ask p (addition_bits (k + 1)) (λ y. K (bits_of (k + 1) y))) c n s.0
    ∙ ap (λ (k : ℕ). run (ask p (addition_bits k) (λ y. K (bits_of k y))) d) size
    ∙ answered p (addition_bits (length (m ∷ ms))) (λ y. K (bits_of (length (m ∷ ms)) y)) d x s.1.0
    ∙ ap (λ (ys : List Bool). run (K ys) (answered_at (addition_bits (length (m ∷ ms))) x d)) (bits_of-number_of (m ∷ ms))

pub forth_marks : (p : Path) (more : Options) (K : List Bool → Prog) (c : Cursor)
    → Leads (mark_fields p more) (ask_marks p (has_options more) K) (K (presence more)) c
forth_marks p no_options K c = nothing (K []) (K []) c refl
forth_marks p (absent more) K c = marks_lead p false (presence more) K c
forth_marks p (present v more) K c = marks_lead p true (presence more) K c

-- ---- lists
pub forth_members : (f : ℕ → Value → List Field) (each_one : ℕ → (Value → Prog) → Prog) (P : ℕ → Value → Type 0)
    → ((i : ℕ) (v : Value) (K : Value → Prog) (c : Cursor) → P i v → Leads (f i v) (each_one i K) (K v) c)
    → (i : ℕ) (vs : Values) (K : Values → Prog) (c : Cursor) → EachFrom P i vs
    → Leads (each_from f i vs) (ask_members each_one i (value_count vs) K) (K vs) c
forth_members f each_one P leads i no_values K c h s = refl
forth_members f each_one P leads i (value v others) K c h s =
    both (f i v) (each_from f (suc i) others) _ (ask_members each_one (suc i) (value_count others) (λ vs. K (value v vs)))
    (K (value v others)) c
    (leads i v (λ w. ask_members each_one (suc i) (value_count others) (λ vs. K (value w vs))) c h.0)
    (forth_members f each_one P leads (suc i) others (λ vs. K (value v vs)) _ h.1) s

pub forth_raw_additions : (p : Path) (more : Options) (K : Options → Prog) (c : Cursor) → AreRaw more
    → Leads (raw_additions p more) (ask_raw_additions p (presence more) K) (K more) c
forth_raw_additions p no_options K c h s = refl
forth_raw_additions p (absent more) K c h s = forth_raw_additions p more (λ os. K (absent os)) c h s
forth_raw_additions p (present v more) K c h s =
    both (raw_fields p p v) (raw_additions p more) _ (ask_raw_additions p (presence more) (λ os. K (present v os))) (K (present v more)) c
    (forth_raw p p v (λ w. ask_raw_additions p (presence more) (λ os. K (present w os))) c h.0)
    (forth_raw_additions p more (λ os. K (present v os)) _ h.1) s

pub forth_ies : (p : Path) (known : List Slot) (f : ℕ → Value → List Field) (body : ℕ → (Value → Prog) → Prog) (P : ℕ → Value → Type 0)
    → ((id : ℕ) (v : Value) (K : Value → Prog) (c : Cursor) → P id v → Leads (f id v) (body id K) (K v) c)
    → (left : List Slot) (ies : Ies) (K : Ies → Prog) (c : Cursor) → AreElements known P left ies
    → Leads (ie_fields p known f left ies) (ask_ies p known body (ie_count ies) left K) (K ies) c
forth_ies p known f body P leads left no_ies K c h s = refl
forth_ies p known f body P leads left (ie id criticality v others) K c h s =
    let count = ie_count others in
    let after = slots_left known id left in
    let on = λ (x y : ℕ) (w : Value). ask_ies p known body count (slots_left known x left) (λ os. K (ie x y w os)) in
    let d : Cursor = answered_at (ie_id known left count) id (answered_at pad 0 c) in
    let e : Cursor = answered_at (constrained fields.index 2 2) criticality d in
    aligned p (ie_id known left count) id (λ x. ask p (constrained fields.index 2 2) (λ y. body x (on x y))) c (s.0, (s.1.0, tt))
    ∙ answered p (constrained fields.index 2 2) (λ y. body id (on id y)) d criticality s.1.1.0
    ∙ both (f id v) (ie_fields p known f after others) (body id (on id criticality)) (on id criticality v)
    (K (ie id criticality v others)) e
    (leads id v (on id criticality) e h.2)
    (forth_ies p known f body P leads after others (λ os. K (ie id criticality v os)) _ h.4) s.1.1.1

-- ---- each form of type
either_true : (b : Bool) (A B : Type 0) → b ≡ true → Either b A B → A
either_true true A B e h = h
either_true false A B e h = cc

either_false : (b : Bool) (A B : Type 0) → b ≡ false → Either b A B → B
either_false true A B e h = cc
either_false false A B e h = h

-- the fields of the branch that a test takes, where what is known depends on it
by_either : (b : Bool) (A B : Type 0) (x y : List Field) (P Q R : Prog) (c : Cursor) → (b ≡ true → A → Leads x P R c)
    → (b ≡ false → B → Leads y Q R c)
    → Either b A B → Leads (cond b x y) (cond b P Q) R c
by_either true A B x y P Q R c first second h = first refl h
by_either false A B x y P Q R c first second h = second refl h

pub not_extended : (extensible : Bool) (more : Options) → AreAdditions extensible more → extensible ≡ false → has_options more ≡ false
not_extended extensible no_options h e = refl
not_extended extensible (absent more) h e = cc (h.0, e)
not_extended extensible (present v more) h e = cc (h.0, e)

-- ---- PDUs
-- what is asked for a PDU, given what is asked for a body
abbrev pub ask_message : Path → (ℕ → ℕ → (Value → Prog) → Prog) → (Value → Prog) → Prog
ask_message p body K = ask p flag (λ b. cond (b == 1)
    (ask p (small fields.index) (λ n. ask_raw p p (λ v. K (message (3 + n) 0 0 v))))
    (ask p (constrained fields.index 2 2) (λ index. ask_aligned p (constrained fields.index 8 255) (λ code.
    ask p (constrained fields.index 2 2) (λ criticality. body index code (λ v. K (message index code criticality v)))))))

message_leads : (p : Path) (body : ℕ → ℕ → (Value → Prog) → Prog) (fs : List Field) (index code criticality : ℕ) (v : Value) (K : Value
    → Prog) (c : Cursor)
    → ((L : Value → Prog) (d : Cursor) → Leads fs (body index code L) (L v) d)
    → Leads (message_head p index code criticality ++ fs) (ask_message p body K) (K (message index code criticality v)) c
message_leads p body fs index code criticality v K c leads s =
    let c1 : Cursor = answered_at flag 0 c in
    let c2 : Cursor = answered_at (constrained fields.index 2 2) index c1 in
    let c3 : Cursor = answered_at (constrained fields.index 8 255) code (answered_at pad 0 c2) in
    let c4 : Cursor = answered_at (constrained fields.index 2 2) criticality c3 in
    let K3 = λ (i j k : ℕ). body i j (λ w. K (message i j k w)) in
    let K2 = λ (i j : ℕ). ask p (constrained fields.index 2 2) (K3 i j) in
    let K1 = λ (i : ℕ). ask_aligned p (constrained fields.index 8 255) (K2 i) in
    answered p flag (λ b. cond (b == 1) (ask p (small fields.index) (λ n. ask_raw p p (λ w. K (message (3 + n) 0 0 w))))
    (ask p (constrained fields.index 2 2) K1)) c 0 s.0
    ∙ answered p (constrained fields.index 2 2) K1 c1 index s.1.0
    ∙ aligned p (constrained fields.index 8 255) code (K2 index) c2 (s.1.1.0, (s.1.1.1.0, tt))
    ∙ answered p (constrained fields.index 2 2) (K3 index code) c3 criticality s.1.1.1.1.0
    ∙ leads (λ w. K (message index code criticality w)) c4 s.1.1.1.1.1

past_leads : (p : Path) (body : ℕ → ℕ → (Value → Prog) → Prog) (index code criticality : ℕ) (v : Value) (K : Value → Prog) (c : Cursor)
    → 3 ≤ index → code ≡ 0 → criticality ≡ 0 → IsRaw v
    → Leads (asked p flag 1 ∷ asked p (small fields.index) (index - 3) ∷ raw_fields p p v) (ask_message p body K)
    (K (message index code criticality v)) c
past_leads p body index code criticality v K c past no_code no_criticality is_raw s =
    let c1 : Cursor = answered_at flag 1 c in
    let c2 : Cursor = answered_at (small fields.index) (index - 3) c1 in
    let again : 3 + (index - 3) ≡ index = omega (arith, past) in
    let K1 = λ (n : ℕ). ask_raw p p (λ w. K (message (3 + n) 0 0 w)) in
    answered p flag (λ b. cond (b == 1) (ask p (small fields.index) K1)
    (ask p (constrained fields.index 2 2) (λ i. ask_aligned p (constrained fields.index 8 255)
    (λ j. ask p (constrained fields.index 2 2) (λ k. body i j (λ w. K (message i j k w))))))) c 1 s.0
    ∙ answered p (small fields.index) K1 c1 (index - 3) s.1.0
    ∙ forth_raw p p v (λ w. K (message (3 + (index - 3)) 0 0 w)) c2 is_raw s.1.1
    ∙ ap (λ (n : ℕ). run (K (message n 0 0 v)) (after_all (raw_fields p p v) c2)) again
    ∙ ap (λ (n : ℕ). run (K (message index n 0 v)) (after_all (raw_fields p p v) c2)) (sym no_code)
    ∙ ap (λ (n : ℕ). run (K (message index code n v)) (after_all (raw_fields p p v) c2)) (sym no_criticality)

by_fields : (b : Bool) (A B : Type 0) (x y : List Field) (P R : Prog) (c : Cursor) → (b ≡ true → A → Leads x P R c)
    → (b ≡ false → B → Leads y P R c)
    → Either b A B → Leads (cond b x y) P R c
by_fields true A B x y P R c first second h = first refl h
by_fields false A B x y P R c first second h = second refl h

mutual
  unfolding Has layout asks

  pub forth : (p : Path) (t : Tree) (v : Value) (K : Value → Prog) (c : Cursor) → Has p t v → Leads (layout p t v) (asks p t K) (K v) c
  forth p boolean (truth b) K c h =
      asks_on (asked p flag (bit_value b) ∷ []) _ _ _ c (one p flag (bit_value b) (λ n. K (truth (n == 1))) c)
      (ap (λ x. K (truth x)) (bit_again b))
  forth p (integer low high extensible) (number z) K c h = forth_integer p low high extensible z (λ y. K (number y)) c h
  forth p (enumerated names extensible) (enumeral i) K c h = forth_index p names extensible i (λ j. K (enumeral j)) c h
  forth p (bit_string size) (bits bs) K c h =
      asks_on (string_fields p of_bits size (map bit_value bs)) _ _ _ c
      (forth_string p of_bits size (map bit_value bs) (λ xs. K (bits (map (λ b. b == 1) xs))) c
      (ap (is_count_of None size) (length_of_bits bs) ∙ h))
      (ap (λ xs. K (bits xs)) (bits_again bs))
  forth p (octet_string size) (octets os) K c h = forth_string p of_octets size os (λ xs. K (octets xs)) c h.0
  forth p (printable_string size) (text cs) K c h = forth_string p of_characters size cs (λ xs. K (text xs)) c h.0
  forth p (sequence extensible root additions) (components vs more) K c h =
      let K3 = λ (x : Bool) (ws : Options). ask_marks p x (λ added. ask_additions p additions added (λ os. K (components ws os))) in
      let K2 = λ (x : Bool) (th : List Bool). ask_components p root th (K3 x) in
      let K1 = λ (x : Bool). ask_flags p root (K2 x) in
      let x = has_options more in
      both (extension_fields p extensible x) (flag_fields p root vs ++
      (component_fields p root vs ++ (mark_fields p more ++ addition_fields p additions more)))
      (ask_extension p extensible K1) (K1 x) (K (components vs more)) c
      (forth_extension p extensible x K1 c (not_extended extensible more h.1))
      (both (flag_fields p root vs) (component_fields p root vs ++ (mark_fields p more ++ addition_fields p additions more))
      (K1 x) (K2 x (there root vs)) (K (components vs more)) _
      (forth_flags p root vs (K2 x) _ h.0)
      (both (component_fields p root vs) (mark_fields p more ++ addition_fields p additions more)
      (K2 x (there root vs)) (K3 x vs) (K (components vs more)) _
      (forth_components p root vs (K3 x) _ h.0)
      (both (mark_fields p more) (addition_fields p additions more) (K3 x vs)
      (ask_additions p additions (presence more) (λ os. K (components vs os))) (K (components vs more)) _
      (forth_marks p more (λ added. ask_additions p additions added (λ os. K (components vs os))) _)
      (forth_additions p additions more (λ os. K (components vs os)) _ h.2))))
  forth p (choice extensible root additions) (chosen i v) K c h =
      let count = part_count root in
      let K1 = λ (j : ℕ). cond (nat_lt j count) (ask_alternative p root j (λ w. K (chosen j w)))
      (ask_added p additions (j - count) (λ w. K (chosen j w))) in
      both (index_fields p count extensible i)
      (cond (nat_lt i count) (alternative_fields p root i v) (added_fields p additions (i - count) v))
      (ask_index p count extensible K1) (K1 i) (K (chosen i v)) c
      (forth_index p count extensible i K1 c h.0)
      (by_either (nat_lt i count) _ _ _ _ _ _ (K (chosen i v)) _
      (λ e g. forth_alternative p root i v (λ w. K (chosen i w)) _ g)
      (λ e g. forth_added p additions (i - count) v (λ w. K (chosen i w)) _ g) h.1)
  forth p (sequence_of size t) (list vs) K c h =
      let each_one = λ (i : ℕ). asks (fields.member i ∷ p) t in
      both (count_fields p size (value_count vs)) (each_from (λ i w. layout (fields.member i ∷ p) t w) 0 vs)
      _ (ask_members each_one 0 (value_count vs) (λ ws. K (list ws))) (K (list vs)) c
      (forth_count p size (value_count vs) (λ n. ask_members each_one 0 n (λ ws. K (list ws))) c h.0)
      (forth_members (λ i w. layout (fields.member i ∷ p) t w) each_one (λ i w. Has (fields.member i ∷ p) t w)
      (λ i w L d g. forth (fields.member i ∷ p) t w L d g) 0 vs (λ ws. K (list ws)) _ h.1)
  forth p (container rows) (elements ies) K c h =
      let known = slots rows in
      let question = fields.ie_count (mandatory_count known) in
      let on = λ (n : ℕ). ask_ies p known (λ id. ask_row p rows id) n known (λ xs. K (elements xs)) in
      both (asked p pad 0 ∷ asked p question (ie_count ies) ∷ []) (ie_fields p known (λ id w. row_fields p rows id w) known ies)
      (ask_aligned p question on) (on (ie_count ies)) (K (elements ies)) c
      (aligned p question (ie_count ies) on c)
      (forth_ies p known (λ id w. row_fields p rows id w) (λ id. ask_row p rows id) (λ id w. HasRow p rows id w)
      (λ id w L d g. forth_row p rows id w L d g) known ies (λ xs. K (elements xs)) _ h.1)
  forth p (pdu procedures) (message index code criticality body) K c h =
      by_fields (nat_lt index 3) _ _ (message_head p index code criticality ++ body_fields p procedures index code body)
      (asked p flag 1 ∷ asked p (small fields.index) (index - 3) ∷ raw_fields p p body) _ (K (message index code criticality body)) c
      (λ e g. message_leads p (λ i j. ask_body p procedures i j) (body_fields p procedures index code body) index code criticality body K c
      (λ L d. forth_body p procedures index code body L d g.2))
      (λ e g. past_leads p (λ i j. ask_body p procedures i j) index code criticality body K c (not_below index 3 e) g.1 g.2 g.3) h
  forth p t v K c h = absurd h

  forth_components : (p : Path) (parts : Parts) (vs : Options) (K : Options → Prog) (c : Cursor) → HasComponents p parts vs
      → Leads (component_fields p parts vs) (ask_components p parts (there parts vs) K) (K vs) c
  forth_components p no_parts no_options K c h = nothing (K no_options) (K no_options) c refl
  forth_components p (part name optional t others) (absent vs) K c h = forth_components p others vs (λ ws. K (absent ws)) c h.1
  forth_components p (part name optional t others) (present v vs) K c h =
      both (layout (fields.component name ∷ p) t v) (component_fields p others vs) _
      (ask_components p others (there others vs) (λ ws. K (present v ws))) (K (present v vs)) c
      (forth (fields.component name ∷ p) t v (λ w. ask_components p others (there others vs) (λ ws. K (present w ws))) c h.0)
      (forth_components p others vs (λ ws. K (present v ws)) _ h.1)
  forth_components p parts vs K c h = absurd h

  forth_additions : (p : Path) (parts : Parts) (more : Options) (K : Options → Prog) (c : Cursor) → HasAdditions p parts more
      → Leads (addition_fields p parts more) (ask_additions p parts (presence more) K) (K more) c
  forth_additions p no_parts more K c h = forth_raw_additions p more K c h
  forth_additions p (part name optional t others) no_options K c h = nothing (K no_options) (K no_options) c refl
  forth_additions p (part name optional t others) (absent more) K c h = forth_additions p others more (λ os. K (absent os)) c h
  forth_additions p (part name optional t others) (present v more) K c h =
      both (open_fields p (fields.component name ∷ p) (layout (fields.component name ∷ p) t v)) (addition_fields p others more) _
      (ask_additions p others (presence more) (λ os. K (present v os))) (K (present v more)) c
      (forth_open p (fields.component name ∷ p) (layout (fields.component name ∷ p) t v) (asks (fields.component name ∷ p) t) v
      (λ w. ask_additions p others (presence more) (λ os. K (present w os))) c (λ L d. forth (fields.component name ∷ p) t v L d h.0))
      (forth_additions p others more (λ os. K (present v os)) _ h.2)

  forth_alternative : (p : Path) (parts : Parts) (i : ℕ) (v : Value) (K : Value → Prog) (c : Cursor) → HasAlternative p parts i v
      → Leads (alternative_fields p parts i v) (ask_alternative p parts i K) (K v) c
  forth_alternative p no_parts i v K c h = absurd h
  forth_alternative p (part name optional t others) zero v K c h = forth (fields.component name ∷ p) t v K c h
  forth_alternative p (part name optional t others) (suc i) v K c h = forth_alternative p others i v K c h

  forth_added : (p : Path) (parts : Parts) (i : ℕ) (v : Value) (K : Value → Prog) (c : Cursor) → HasAdded p parts i v
      → Leads (added_fields p parts i v) (ask_added p parts i K) (K v) c
  forth_added p no_parts i v K c h = forth_raw p p v K c h
  forth_added p (part name optional t others) zero v K c h =
      forth_open p (fields.component name ∷ p) (layout (fields.component name ∷ p) t v) (asks (fields.component name ∷ p) t) v K c
      (λ L d. forth (fields.component name ∷ p) t v L d h.0)
  forth_added p (part name optional t others) (suc i) v K c h = forth_added p others i v K c h

  forth_row : (p : Path) (rows : Rows) (id : ℕ) (v : Value) (K : Value → Prog) (c : Cursor) → HasRow p rows id v
      → Leads (row_fields p rows id v) (ask_row p rows id K) (K v) c
  forth_row p no_rows id v K c h = forth_raw p (fields.element id ∷ p) v K c h
  forth_row p (row other mandatory t others) id v K c h =
      by_either (other == id) _ _ _ _ _ _ (K v) c
      (λ e g. forth_open p (fields.element id ∷ p) (layout (fields.element id ∷ p) t v) (asks (fields.element id ∷ p) t) v K c
      (λ L d. forth (fields.element id ∷ p) t v L d g.0))
      (λ e g. forth_row p others id v K c g) h

  forth_body : (p : Path) (procedures : Procedures) (index code : ℕ) (v : Value) (K : Value → Prog) (c : Cursor)
      → HasBody p procedures index code v
      → Leads (body_fields p procedures index code v) (ask_body p procedures index code K) (K v) c
  forth_body p no_procedures index code v K c h = forth_raw p (fields.outcome index ∷ p) v K c h
  forth_body p (procedure other initiating successful unsuccessful others) index code v K c h =
      by_either (other == code) _ _ _ _ _ _ (K v) c
      (λ e g. by_either (index == 0) _ _ _ _ _ _ (K v) c
      (λ e2 g2. forth_outcome p index initiating v K c g2)
      (λ e2 g2. by_either (index == 1) _ _ _ _ _ _ (K v) c
      (λ e3 g3. forth_outcome p index successful v K c g3)
      (λ e3 g3. forth_outcome p index unsuccessful v K c g3) g2) g)
      (λ e g. forth_body p others index code v K c g) h

  forth_outcome : (p : Path) (index : ℕ) (o : Outcome) (v : Value) (K : Value → Prog) (c : Cursor) → HasOutcome p index o v
      → Leads (outcome_fields p index o v) (ask_outcome p index o K) (K v) c
  forth_outcome p index no_outcome v K c h = forth_raw p (fields.outcome index ∷ p) v K c h
  forth_outcome p index (outcome t) v K c h =
      forth_open p (fields.outcome index ∷ p) (layout (fields.outcome index ∷ p) t v) (asks (fields.outcome index ∷ p) t) v K c
      (λ L d. forth (fields.outcome index ∷ p) t v L d h.0)

-- A loose layout of a value answers what is asked for its type, and leads to what is asked after it.
use Rattle.std.proofs.Common.{◌≡◌, ℕ, zero, suc, ◌+◌, ◌-◌, ◌≤◌, Bool, true, false, cond, ◌==◌, nat_lt, List, [], ◌∷◌, ◌++◌, length, map, None, refl, sym, ap, ◌∙◌, arith}
use Rattle.bits_core.specs.Bits.{bit_value, bits_of, number_of}
use Rattle.bits_core.proofs.BitLemmas.{bits_of-number_of}
use Rattle.aper_defs.specs.Trees.{Tree, Parts, Rows, Procedures, Outcome, Slot, slots, slots_left, mandatory_count, part_count, boolean, integer, enumerated, bit_string, octet_string, printable_string, sequence, choice, sequence_of, container, pdu, no_parts, part, no_rows, row, no_procedures, procedure, no_outcome, outcome}
use Rattle.aper_defs.specs.Values.{Value, Values, Options, Ies, value_count, ie_count, presence, has_options, truth, number, enumeral, bits, octets, text, components, chosen, list, elements, message, raw, no_values, value, no_options, absent, present, no_ies, ie}
use Rattle.aper_defs.specs.Fields.{Path, Ask, Field, flag, constrained, small, extent, addition_bits, ie_id, pad, opening, closing, end, whole, octet, asked, run as run_field}
use Rattle.aper_defs.specs.Fields as fields
use Rattle.aper_defs.specs.Parts.{of_bits, of_octets, of_characters, extension_fields, index_fields}
use Rattle.aper_defs.specs.Layouts.{raw_fields, flag_fields, mark_fields, message_head}
use Rattle.aper_defs.specs.Membership.{Either}
use Rattle.aper_defs.specs.Questions.{Prog, ask, ask_aligned, ask_extension, ask_index, ask_open, ask_raw, ask_flags, ask_members, ask_raw_additions, ask_ies}
use Rattle.aper_defs.specs.Questions as questions
use Rattle.aper_defs.specs.Asking.{ask_marks, asks, ask_components, ask_additions, ask_alternative, ask_added, ask_row, ask_body, ask_outcome}
use Rattle.aper_defs.specs.Reading.{Cursor}
use Rattle.proof_aper.proofs.answers.NumberFacts.{not_below}
use Rattle.proof_aper.proofs.answers.Forth.{bit_again, bits_again, there, ask_message, not_extended}
use Rattle.aper_defs.specs.loose_defs.Forms.{count_form}
use Rattle.aper_defs.specs.loose_defs.Loose.{After, Joined, closed_by, LooseOpen, LooseRaw, LooseRawAdditions, LooseEach, LooseElements, Loose, LooseComponents, LooseAdditions, LooseAlternative, LooseAdded, LooseRow, LooseBody, LooseOutcome}
use Rattle.aper_defs.specs.loose_defs.Wrong.{place_after}
use Rattle.proof_aper.proofs.loose.Following.{Follow, both, nothing, asked_so, asks_on, fields_so, one, then_on, taken}
use Rattle.proof_aper.proofs.loose.FollowNumbers.{aligned, aligned_on, follow_extension, follow_integer, follow_index}
use Rattle.proof_aper.proofs.loose.FollowStrings.{follow_string, follow_count}

-- ---- pieces
follow_after : (front : List Field) (Others : List Field → Type 0) (fs : List Field) (P Q R : Prog) (c : Cursor) → (h : After front Others fs)
    → Follow front P Q c → Follow h.others Q R (place_after front c) → Follow fs P R c
follow_after front Others fs P Q R c h first second = fields_so fs (front ++ h.others) P R c h.is (both front h.others P Q R c first second)

follow_joined : (First Second : List Field → Type 0) (fs : List Field) (P Q R : Prog) (c : Cursor) → (h : Joined First Second fs)
    → Follow h.front P Q c → Follow h.others Q R (place_after h.front c) → Follow fs P R c
follow_joined First Second fs P Q R c h first second =
    fields_so fs (h.front ++ h.others) P R c h.is (both h.front h.others P Q R c first second)

by_either : (b : Bool) (A B : Type 0) (fs : List Field) (P Q R : Prog) (c : Cursor) → (b ≡ true → A → Follow fs P R c)
    → (b ≡ false → B → Follow fs Q R c)
    → Either b A B → Follow fs (cond b P Q) R c
by_either true A B fs P Q R c first second h = first refl h
by_either false A B fs P Q R c first second h = second refl h

by_fact : (b : Bool) (A B : Type 0) (fs : List Field) (P R : Prog) (c : Cursor) → (b ≡ true → A → Follow fs P R c)
    → (b ≡ false → B → Follow fs P R c)
    → Either b A B → Follow fs P R c
by_fact true A B fs P R c first second h = first refl h
by_fact false A B fs P R c first second h = second refl h

-- ---- open types and raw octets
follow_open : (p inside : Path) (Contents : List Field → Type 0) (contents : (Value → Prog) → Prog) (v : Value) (fs : List Field)
    (K : Value → Prog) (c : Cursor)
    → ((gs : List Field) (L : Value → Prog) (d : Cursor) → Contents gs → Follow gs (contents L) (L v) d)
    → LooseOpen p inside Contents fs → Follow fs (ask_open p inside contents K) (K v) c
follow_open p inside Contents contents v fs K c leads h =
    let after = λ (w : Value). ask inside closing (λ m. ask inside end (λ z. K w)) in
    let ends : List Field = asked inside closing h.mark ∷ asked inside end 0 ∷ [] in
    fields_so fs (asked p pad 0 ∷ asked p opening h.told ∷ closed_by inside h.mark h.contents) _ _ c h.is
    (aligned_on p opening h.told (closed_by inside h.mark h.contents) (λ n. contents after) (K v) c
    (both h.contents ends (contents after) (after v) (K v) _ (leads h.contents after _ h.loose)
    (then_on inside closing h.mark (asked inside end 0 ∷ []) (λ m. ask inside end (λ z. K v)) (K v) _ (one inside end 0 (λ z. K v) _))))

follow_raw : (p inside : Path) (v : Value) (fs : List Field) (K : Value → Prog) (c : Cursor) → LooseRaw p inside v fs
    → Follow fs (ask_raw p inside K) (K v) c
follow_raw p inside (raw os) fs K c h =
    fields_so fs (raw_fields p inside (raw os)) _ _ c h.1
    (aligned_on p (extent (whole 1 16383 None)) (length os) (run_field inside octet os ∷ [])
    (λ n. questions.take inside octet n (λ xs. K (raw xs))) (K (raw os)) c (taken inside octet os (λ xs. K (raw xs)) _))
follow_raw p inside v fs K c h = absurd h.0

-- ---- SEQUENCE
follow_flags : (p : Path) (parts : Parts) (vs : Options) (fs : List Field) (K : List Bool → Prog) (c : Cursor) → LooseComponents p parts vs fs
    → Follow (flag_fields p parts vs) (ask_flags p parts K) (K (there parts vs)) c
unfolding LooseComponents
follow_flags p no_parts no_options fs K c h = nothing (K []) (K []) c refl
follow_flags p no_parts (absent vs) fs K c h = absurd h
follow_flags p no_parts (present v vs) fs K c h = absurd h
follow_flags p (part name optional t others) no_options fs K c h = absurd h
follow_flags p (part name true t others) (absent vs) fs K c h =
    then_on p flag 0 (flag_fields p others vs) (λ b. ask_flags p others (λ marks. K ((b == 1) ∷ marks))) _ c
    (follow_flags p others vs fs (λ marks. K (false ∷ marks)) _ h.1)
follow_flags p (part name false t others) (absent vs) fs K c h = absurd (cc h.0)
follow_flags p (part name true t others) (present v vs) fs K c h =
    then_on p flag 1 (flag_fields p others vs) (λ b. ask_flags p others (λ marks. K ((b == 1) ∷ marks))) _ c
    (follow_flags p others vs h.others (λ marks. K (true ∷ marks)) _ h.second)
follow_flags p (part name false t others) (present v vs) fs K c h =
    follow_flags p others vs h.others (λ marks. K (true ∷ marks)) c h.second

marks_lead : (p : Path) (m : Bool) (ms : List Bool) (K : List Bool → Prog) (c : Cursor)
    → Follow (asked p (small fields.length) (length (m ∷ ms) - 1) ∷ asked p (addition_bits (length (m ∷ ms))) (number_of (m ∷ ms)) ∷ [])
    (ask_marks p true K) (K (m ∷ ms)) c
marks_lead p m ms K c =
    let n = length (m ∷ ms) - 1 in
    let size : n + 1 ≡ length (m ∷ ms) = omega arith in
    let x = number_of (m ∷ ms) in
    let last : List Field = asked p (addition_bits (length (m ∷ ms))) x ∷ [] in
    then_on p (small fields.length) n last (λ k. ask p (addition_bits (k + 1)) (λ y. K (bits_of (k + 1) y))) (K (m ∷ ms)) c
    (asked_so last _ _ _ _ (ap (λ (k : ℕ). ask p (addition_bits k) (λ y. K (bits_of k y))) size)
    (asks_on last _ _ _ _ (one p (addition_bits (length (m ∷ ms))) x (λ y. K (bits_of (length (m ∷ ms)) y)) _)
    (ap K (bits_of-number_of (m ∷ ms)))))

follow_marks : (p : Path) (more : Options) (K : List Bool → Prog) (c : Cursor)
    → Follow (mark_fields p more) (ask_marks p (has_options more) K) (K (presence more)) c
follow_marks p no_options K c = nothing (K []) (K []) c refl
follow_marks p (absent more) K c = marks_lead p false (presence more) K c
follow_marks p (present v more) K c = marks_lead p true (presence more) K c

follow_raw_additions : (p : Path) (more : Options) (fs : List Field) (K : Options → Prog) (c : Cursor) → LooseRawAdditions p more fs
    → Follow fs (ask_raw_additions p (presence more) K) (K more) c
follow_raw_additions p no_options fs K c h = fields_so fs [] _ _ c h (nothing (K no_options) (K no_options) c refl)
follow_raw_additions p (absent more) fs K c h = follow_raw_additions p more fs (λ os. K (absent os)) c h
follow_raw_additions p (present v more) fs K c h =
    let on = λ (w : Value). ask_raw_additions p (presence more) (λ os. K (present w os)) in
    follow_joined _ _ fs (ask_raw p p on) (on v) (K (present v more)) c h (follow_raw p p v h.front on c h.first)
    (follow_raw_additions p more h.others (λ os. K (present v os)) _ h.second)

-- ---- lists
follow_each : (One : ℕ → Value → List Field → Type 0) (each_one : ℕ → (Value → Prog) → Prog)
    → ((i : ℕ) (v : Value) (fs : List Field) (K : Value → Prog) (c : Cursor) → One i v fs → Follow fs (each_one i K) (K v) c)
    → (i : ℕ) (vs : Values) (fs : List Field) (K : Values → Prog) (c : Cursor) → LooseEach One i vs fs
    → Follow fs (ask_members each_one i (value_count vs) K) (K vs) c
follow_each One each_one leads i no_values fs K c h = fields_so fs [] _ _ c h (nothing (K no_values) (K no_values) c refl)
follow_each One each_one leads i (value v others) fs K c h =
    let on = λ (w : Value). ask_members each_one (suc i) (value_count others) (λ vs. K (value w vs)) in
    follow_joined _ _ fs (each_one i on) (on v) (K (value v others)) c h (leads i v h.front on c h.first)
    (follow_each One each_one leads (suc i) others h.others (λ vs. K (value v vs)) _ h.second)

follow_elements : (p : Path) (known : List Slot) (Body : ℕ → Value → List Field → Type 0) (body : ℕ → (Value → Prog) → Prog)
    → ((id : ℕ) (v : Value) (fs : List Field) (K : Value → Prog) (c : Cursor) → Body id v fs → Follow fs (body id K) (K v) c)
    → (left : List Slot) (ies : Ies) (fs : List Field) (K : Ies → Prog) (c : Cursor) → LooseElements p known Body left ies fs
    → Follow fs (ask_ies p known body (ie_count ies) left K) (K ies) c
follow_elements p known Body body leads left no_ies fs K c h = fields_so fs [] _ _ c h.1 (nothing (K no_ies) (K no_ies) c refl)
follow_elements p known Body body leads left (ie id criticality v others) fs K c h =
    let count = ie_count others in
    let after = slots_left known id left in
    let on = λ (x y : ℕ) (w : Value). ask_ies p known body count (slots_left known x left) (λ os. K (ie x y w os)) in
    let third : List Field = asked p (constrained fields.index 2 2) criticality ∷ [] in
    let head = h.3 in
    let rest = head.loose in
    follow_after (asked p pad 0 ∷ asked p (ie_id known left count) id ∷ third) _ fs _ (body id (on id criticality))
    (K (ie id criticality v others)) c head
    (aligned_on p (ie_id known left count) id third (λ x. ask p (constrained fields.index 2 2) (λ y. body x (on x y)))
    (body id (on id criticality)) c (one p (constrained fields.index 2 2) criticality (λ y. body id (on id y)) _))
    (follow_joined _ _ head.others (body id (on id criticality)) (on id criticality v) (K (ie id criticality v others)) _ rest
    (leads id v rest.front (on id criticality) _ rest.first)
    (follow_elements p known Body body leads after others rest.others (λ os. K (ie id criticality v os)) _ rest.second))

-- ---- PDUs
message_leads : (p : Path) (body : ℕ → ℕ → (Value → Prog) → Prog) (fs : List Field) (index code criticality : ℕ) (v : Value)
    (K : Value → Prog) (c : Cursor)
    → ((L : Value → Prog) (d : Cursor) → Follow fs (body index code L) (L v) d)
    → Follow (message_head p index code criticality ++ fs) (ask_message p body K) (K (message index code criticality v)) c
message_leads p body fs index code criticality v K c leads =
    let K3 = λ (i j k : ℕ). body i j (λ w. K (message i j k w)) in
    let K2 = λ (i j : ℕ). ask p (constrained fields.index 2 2) (K3 i j) in
    let K1 = λ (i : ℕ). ask_aligned p (constrained fields.index 8 255) (K2 i) in
    let f3 : List Field = asked p (constrained fields.index 2 2) criticality ∷ fs in
    let f2 : List Field = asked p pad 0 ∷ asked p (constrained fields.index 8 255) code ∷ f3 in
    let f1 : List Field = asked p (constrained fields.index 2 2) index ∷ f2 in
    then_on p flag 0 f1 (λ b. cond (b == 1) (ask p (small fields.index) (λ n. ask_raw p p (λ w. K (message (3 + n) 0 0 w))))
    (ask p (constrained fields.index 2 2) K1)) _ c
    (then_on p (constrained fields.index 2 2) index f2 K1 _ _
    (aligned_on p (constrained fields.index 8 255) code f3 (K2 index) _ _
    (then_on p (constrained fields.index 2 2) criticality fs (K3 index code) _ _ (leads (λ w. K (message index code criticality w)) _))))

past_leads : (p : Path) (body : ℕ → ℕ → (Value → Prog) → Prog) (fs : List Field) (index code criticality : ℕ) (v : Value)
    (K : Value → Prog) (c : Cursor)
    → 3 ≤ index → code ≡ 0 → criticality ≡ 0 → LooseRaw p p v fs
    → Follow (asked p flag 1 ∷ asked p (small fields.index) (index - 3) ∷ fs) (ask_message p body K)
    (K (message index code criticality v)) c
past_leads p body fs index code criticality v K c past no_code no_criticality loose =
    let again : 3 + (index - 3) ≡ index = omega (arith, past) in
    let K1 = λ (n : ℕ). ask_raw p p (λ w. K (message (3 + n) 0 0 w)) in
    let K2 = λ (i : ℕ). ask_aligned p (constrained fields.index 8 255) (λ j. ask p (constrained fields.index 2 2)
    (λ k. body i j (λ w. K (message i j k w)))) in
    then_on p flag 1 (asked p (small fields.index) (index - 3) ∷ fs) (λ b. cond (b == 1) (ask p (small fields.index) K1)
    (ask p (constrained fields.index 2 2) K2)) _ c
    (then_on p (small fields.index) (index - 3) fs K1 _ _
    (asks_on fs _ _ _ _ (follow_raw p p v fs (λ w. K (message (3 + (index - 3)) 0 0 w)) _ loose)
    (ap (λ (n : ℕ). K (message n 0 0 v)) again ∙ ap (λ (n : ℕ). K (message index n 0 v)) (sym no_code)
    ∙ ap (λ (n : ℕ). K (message index code n v)) (sym no_criticality))))

follow_so : (p : Path) (fs gs : List Field) (P Q R : Prog) (c : Cursor) → fs ≡ gs → Q ≡ R → Follow gs P Q c → Follow fs P R c
follow_so p fs gs P Q R c e on leads = fields_so fs gs P R c e (asks_on gs P Q R c leads on)

-- ---- each form of type
mutual
  unfolding Loose asks

  pub follow : (p : Path) (t : Tree) (v : Value) (fs : List Field) (K : Value → Prog) (c : Cursor) → Loose p t v fs
      → Follow fs (asks p t K) (K v) c
  follow p boolean (truth b) fs K c h =
      follow_so p fs (asked p flag (bit_value b) ∷ []) _ _ _ c h (ap (λ x. K (truth x)) (bit_again b))
      (one p flag (bit_value b) (λ n. K (truth (n == 1))) c)
  follow p (integer low high extensible) (number z) fs K c h =
      fields_so fs _ _ _ c h.2 (follow_integer p low high extensible h.0 z (λ y. K (number y)) c h.1)
  follow p (enumerated names extensible) (enumeral i) fs K c h =
      fields_so fs _ _ _ c h.1 (follow_index p names extensible i (λ j. K (enumeral j)) c h.0)
  follow p (bit_string size) (bits bs) fs K c h =
      follow_so p fs _ _ _ _ c h.2 (ap (λ xs. K (bits xs)) (bits_again bs))
      (follow_string p of_bits size h.0 (map bit_value bs) (λ xs. K (bits (map (λ b. b == 1) xs))) c h.1)
  follow p (octet_string size) (octets os) fs K c h =
      fields_so fs _ _ _ c h.1.2 (follow_string p of_octets size h.1.0 os (λ xs. K (octets xs)) c h.1.1)
  follow p (printable_string size) (text cs) fs K c h =
      fields_so fs _ _ _ c h.1.2 (follow_string p of_characters size h.1.0 cs (λ xs. K (text xs)) c h.1.1)
  follow p (sequence extensible root additions) (components vs more) fs K c h =
      let K3 = λ (x : Bool) (ws : Options). ask_marks p x (λ added. ask_additions p additions added (λ os. K (components ws os))) in
      let K2 = λ (x : Bool) (th : List Bool). ask_components p root th (K3 x) in
      let K1 = λ (x : Bool). ask_flags p root (K2 x) in
      let x = has_options more in
      let all = h.1 in
      let parts = all.loose in
      let added = parts.second in
      follow_after (extension_fields p extensible x ++ flag_fields p root vs) _ fs (ask_extension p extensible K1) (K2 x (there root vs))
      (K (components vs more)) c all
      (both (extension_fields p extensible x) (flag_fields p root vs) (ask_extension p extensible K1) (K1 x) (K2 x (there root vs)) c
      (follow_extension p extensible x K1 c (not_extended extensible more h.0))
      (follow_flags p root vs parts.front (K2 x) _ parts.first))
      (follow_joined _ _ all.others (K2 x (there root vs)) (K3 x vs) (K (components vs more)) _ parts
      (follow_components p root vs parts.front (K3 x) _ parts.first)
      (follow_after (mark_fields p more) _ parts.others (K3 x vs) (ask_additions p additions (presence more) (λ os. K (components vs os)))
      (K (components vs more)) _ added
      (follow_marks p more (λ marks. ask_additions p additions marks (λ os. K (components vs os))) _)
      (follow_additions p additions more added.others (λ os. K (components vs os)) _ added.loose)))
  follow p (choice extensible root additions) (chosen i v) fs K c h =
      let count = part_count root in
      let K1 = λ (j : ℕ). cond (nat_lt j count) (ask_alternative p root j (λ w. K (chosen j w)))
      (ask_added p additions (j - count) (λ w. K (chosen j w))) in
      let all = h.1 in
      follow_after (index_fields p count extensible i) _ fs (ask_index p count extensible K1) (K1 i) (K (chosen i v)) c all
      (follow_index p count extensible i K1 c h.0)
      (by_either (nat_lt i count) _ _ all.others _ _ (K (chosen i v)) _
      (λ e g. follow_alternative p root i v all.others (λ w. K (chosen i w)) _ g)
      (λ e g. follow_added p additions (i - count) v all.others (λ w. K (chosen i w)) _ g) all.loose)
  follow p (sequence_of size t) (list vs) fs K c h =
      let each_one = λ (i : ℕ). asks (fields.member i ∷ p) t in
      let One = λ (i : ℕ) (w : Value). Loose (fields.member i ∷ p) t w in
      let on = λ (n : ℕ). ask_members each_one 0 n (λ ws. K (list ws)) in
      let all = h.2 in
      follow_after (count_form p size h.0 (value_count vs)) _ fs _ (on (value_count vs)) (K (list vs)) c all
      (follow_count p size h.0 (value_count vs) on c h.1)
      (follow_each One each_one (λ i w gs L d g. follow (fields.member i ∷ p) t w gs L d g) 0 vs all.others (λ ws. K (list ws)) _ all.loose)
  follow p (container rows) (elements ies) fs K c h =
      let known = slots rows in
      let question = fields.ie_count (mandatory_count known) in
      let Body = λ (id : ℕ) (w : Value). LooseRow p rows id w in
      let on = λ (n : ℕ). ask_ies p known (λ id. ask_row p rows id) n known (λ xs. K (elements xs)) in
      let all = h.1 in
      follow_after (asked p pad 0 ∷ asked p question (ie_count ies) ∷ []) _ fs (ask_aligned p question on) (on (ie_count ies))
      (K (elements ies)) c all
      (aligned p question (ie_count ies) on c)
      (follow_elements p known Body (λ id. ask_row p rows id) (λ id w gs L d g. follow_row p rows id w gs L d g) known ies all.others
      (λ xs. K (elements xs)) _ all.loose)
  follow p (pdu procedures) (message index code criticality body) fs K c h =
      let to = K (message index code criticality body) in
      by_fact (nat_lt index 3) _ _ fs _ to c
      (λ e g. let all = g.2 in fields_so fs (message_head p index code criticality ++ all.others) _ to c all.is
      (message_leads p (λ i j. ask_body p procedures i j) all.others index code criticality body K c
      (λ L d. follow_body p procedures index code body all.others L d all.loose)))
      (λ e g. let all = g.3 in fields_so fs (asked p flag 1 ∷ asked p (small fields.index) (index - 3) ∷ all.others) _ to c all.is
      (past_leads p (λ i j. ask_body p procedures i j) all.others index code criticality body K c (not_below index 3 e) g.1 g.2 all.loose)) h
  follow p t v fs K c h = absurd h

  follow_components : (p : Path) (parts : Parts) (vs : Options) (fs : List Field) (K : Options → Prog) (c : Cursor)
      → LooseComponents p parts vs fs → Follow fs (ask_components p parts (there parts vs) K) (K vs) c
  follow_components p no_parts no_options fs K c h = fields_so fs [] _ _ c h (nothing (K no_options) (K no_options) c refl)
  follow_components p (part name optional t others) (absent vs) fs K c h = follow_components p others vs fs (λ ws. K (absent ws)) c h.1
  follow_components p (part name optional t others) (present v vs) fs K c h =
      let on = λ (w : Value). ask_components p others (there others vs) (λ ws. K (present w ws)) in
      follow_joined _ _ fs (asks (fields.component name ∷ p) t on) (on v) (K (present v vs)) c h
      (follow (fields.component name ∷ p) t v h.front on c h.first)
      (follow_components p others vs h.others (λ ws. K (present v ws)) _ h.second)
  follow_components p parts vs fs K c h = absurd h

  follow_additions : (p : Path) (parts : Parts) (more : Options) (fs : List Field) (K : Options → Prog) (c : Cursor)
      → LooseAdditions p parts more fs → Follow fs (ask_additions p parts (presence more) K) (K more) c
  follow_additions p no_parts more fs K c h = follow_raw_additions p more fs K c h
  follow_additions p (part name optional t others) no_options fs K c h =
      fields_so fs [] _ _ c h (nothing (K no_options) (K no_options) c refl)
  follow_additions p (part name optional t others) (absent more) fs K c h = follow_additions p others more fs (λ os. K (absent os)) c h
  follow_additions p (part name optional t others) (present v more) fs K c h =
      let q = fields.component name ∷ p in
      let on = λ (w : Value). ask_additions p others (presence more) (λ os. K (present w os)) in
      follow_joined _ _ fs (ask_open p q (asks q t) on) (on v) (K (present v more)) c h
      (follow_open p q (Loose q t v) (asks q t) v h.front on c (λ gs L d g. follow q t v gs L d g) h.first)
      (follow_additions p others more h.others (λ os. K (present v os)) _ h.second)

  follow_alternative : (p : Path) (parts : Parts) (i : ℕ) (v : Value) (fs : List Field) (K : Value → Prog) (c : Cursor)
      → LooseAlternative p parts i v fs → Follow fs (ask_alternative p parts i K) (K v) c
  follow_alternative p no_parts i v fs K c h = absurd h
  follow_alternative p (part name optional t others) zero v fs K c h = follow (fields.component name ∷ p) t v fs K c h
  follow_alternative p (part name optional t others) (suc i) v fs K c h = follow_alternative p others i v fs K c h

  follow_added : (p : Path) (parts : Parts) (i : ℕ) (v : Value) (fs : List Field) (K : Value → Prog) (c : Cursor)
      → LooseAdded p parts i v fs → Follow fs (ask_added p parts i K) (K v) c
  follow_added p no_parts i v fs K c h = follow_raw p p v fs K c h
  follow_added p (part name optional t others) zero v fs K c h =
      let q = fields.component name ∷ p in
      follow_open p q (Loose q t v) (asks q t) v fs K c (λ gs L d g. follow q t v gs L d g) h
  follow_added p (part name optional t others) (suc i) v fs K c h = follow_added p others i v fs K c h

  follow_row : (p : Path) (rows : Rows) (id : ℕ) (v : Value) (fs : List Field) (K : Value → Prog) (c : Cursor)
      → LooseRow p rows id v fs → Follow fs (ask_row p rows id K) (K v) c
  follow_row p no_rows id v fs K c h = follow_raw p (fields.element id ∷ p) v fs K c h
  follow_row p (row other mandatory t others) id v fs K c h =
      let q = fields.element id ∷ p in
      by_either (other == id) _ _ fs _ _ (K v) c
      (λ e g. follow_open p q (Loose q t v) (asks q t) v fs K c (λ gs L d g2. follow q t v gs L d g2) g)
      (λ e g. follow_row p others id v fs K c g) h

  follow_body : (p : Path) (procedures : Procedures) (index code : ℕ) (v : Value) (fs : List Field) (K : Value → Prog) (c : Cursor)
      → LooseBody p procedures index code v fs → Follow fs (ask_body p procedures index code K) (K v) c
  follow_body p no_procedures index code v fs K c h = follow_raw p (fields.outcome index ∷ p) v fs K c h
  follow_body p (procedure other initiating successful unsuccessful others) index code v fs K c h =
      by_either (other == code) _ _ fs _ _ (K v) c
      (λ e g. by_either (index == 0) _ _ fs _ _ (K v) c
      (λ e2 g2. follow_outcome p index initiating v fs K c g2)
      (λ e2 g2. by_either (index == 1) _ _ fs _ _ (K v) c
      (λ e3 g3. follow_outcome p index successful v fs K c g3)
      (λ e3 g3. follow_outcome p index unsuccessful v fs K c g3) g2) g)
      (λ e g. follow_body p others index code v fs K c g) h

  follow_outcome : (p : Path) (index : ℕ) (o : Outcome) (v : Value) (fs : List Field) (K : Value → Prog) (c : Cursor)
      → LooseOutcome p index o v fs → Follow fs (ask_outcome p index o K) (K v) c
  follow_outcome p index no_outcome v fs K c h = follow_raw p (fields.outcome index ∷ p) v fs K c h
  follow_outcome p index (outcome t) v fs K c h =
      let q = fields.outcome index ∷ p in
      follow_open p q (Loose q t v) (asks q t) v fs K c (λ gs L d g. follow q t v gs L d g) h

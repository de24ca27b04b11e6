-- What answers the questions of a type is a loose layout of a value of it.
use Rattle.std.proofs.Common.{◌≡◌, ℕ, zero, suc, ◌+◌, ◌-◌, ◌<◌, ◌≤◌, ◌==◌, nat_lt, cond, Bool, true, false, List, [], ◌∷◌, ◌++◌, length, map, None, refl, sym, ap, subst, ◌∙◌, arith, append_assoc}
use Rattle.bits_core.specs.Bits.{bits_of, number_of}
use Rattle.bits_core.proofs.BitLemmas.{length-bits_of, number_is}
use Rattle.aper_defs.specs.Trees.{Tree, Parts, Rows, Procedures, Outcome, Slot, slots, slots_left, mandatory_count, part_count, boolean, integer, enumerated, bit_string, octet_string, printable_string, sequence, choice, sequence_of, container, pdu, no_parts, part, no_rows, row, no_procedures, procedure, no_outcome, outcome}
use Rattle.aper_defs.specs.Values.{Value, Values, Options, Ies, value_count, ie_count, presence, has_options, truth, number, enumeral, bits, octets, text, components, chosen, list, elements, message, raw, no_values, value, no_options, absent, present, no_ies, ie}
use Rattle.aper_defs.specs.Fields.{Path, Ask, Field, flag, constrained, small, extent, addition_bits, ie_id, pad, opening, closing, end, whole, octet, asked, run as run_field}
use Rattle.aper_defs.specs.Fields as fields
use Rattle.aper_defs.specs.Parts.{of_bits, of_octets, of_characters, extension_fields, index_fields}
use Rattle.aper_defs.specs.Layouts.{flag_fields, mark_fields, message_head}
use Rattle.aper_defs.specs.Membership.{Either, is_index_of}
use Rattle.aper_defs.specs.Bounds.{IsBounded, ArePartsBounded, AreRowsBounded, AreProceduresBounded, IsOutcomeBounded}
use Rattle.aper_defs.specs.Questions.{Prog, done, ask, take, ask_aligned, ask_open, ask_raw, ask_flags, ask_members, ask_raw_additions, ask_ies}
use Rattle.aper_defs.specs.Asking.{ask_marks, asks, ask_components, ask_additions, ask_alternative, ask_added, ask_row, ask_body, ask_outcome}
use Rattle.proof_aper.proofs.answers.NumberFacts.{is_below, is_not_below}
use Rattle.proof_aper.proofs.places.Placed.{AreBelow}
use Rattle.proof_aper.proofs.values.FoundOpen.{octets_so}
use Rattle.proof_aper.proofs.values.FoundValues.{bit_so, bits_so}
use Rattle.proof_aper.proofs.values.FoundElements.{either_yes, either_no, flags_of, AreThere, flags_are, bit_again, marks_of, marks_are, AreMarks, marks_some, SomeBits, additions_so, IsNext}
use Rattle.aper_defs.specs.loose_defs.Forms.{HasCountForm, count_form}
use Rattle.aper_defs.specs.loose_defs.Loose.{After, LooseOpen, LooseString, LooseRaw, LooseRawAdditions, LooseEach, LooseElements, Loose, LooseComponents, LooseAdditions, LooseAlternative, LooseAdded, LooseRow, LooseBody, LooseOutcome}
use Rattle.proof_aper.proofs.alive.Steps.{Steps, Parted, parted_none, parted_as, parted_then, joined_is, parted_ask, parted_take, parted_aligned}
use Rattle.proof_aper.proofs.back.Back.{back_extension, back_integer, IsLooseInteger, back_index}
use Rattle.proof_aper.proofs.back.BackStrings.{no_never, back_string, IsLooseString, back_count, IsLooseCount}

-- ---- open types and raw octets
back_open : (p inside : Path) (Contents : Value → List Field → Type 0) (contents : (Value → Prog) → Prog) (K : Value → Prog)
    (fs : List Field) (w : Value)
    → ((L : Value → Prog) (gs : List Field) → Steps gs (contents L) (done w) → Parted Contents L gs w)
    → Steps fs (ask_open p inside contents K) (done w) → Parted (λ v gs. LooseOpen p inside (Contents v) gs) K fs w
back_open p inside Contents contents K fs w inner s =
    let after = λ (v : Value). ask inside closing (λ m. ask inside end (λ z. K v)) in
    let Q = λ (v : Value) (gs : List Field). LooseOpen p inside (Contents v) gs in
    parted_then (λ n gs. ((1 ≤ n) × (n ≤ 16383)) × (gs ≡ asked p pad 0 ∷ asked p opening n ∷ [])) Q (λ n. contents after) K fs w
    (parted_aligned p opening (λ n. contents after) fs w s)
    (λ n f1 g1 h1 s1. parted_then Contents (λ v hs. Q v (f1 ++ hs)) after K g1 w (inner after g1 s1)
    (λ v f2 g2 h2 s2. parted_then (λ m xs. (m ≤ 1) × (xs ≡ asked inside closing m ∷ [])) (λ u hs. Q u (f1 ++ (f2 ++ hs)))
    (λ m. ask inside end (λ z. K v)) K g2 w (parted_ask inside closing (λ m. ask inside end (λ z. K v)) g2 w s2)
    (λ m f3 g3 h3 s3. parted_as (λ z xs. (z ≡ 0) × (xs ≡ asked inside end z ∷ [])) (λ u hs. Q u (f1 ++ (f2 ++ (f3 ++ hs)))) (λ z. K v) K g3 w
    (λ z. v)
    (λ z hs h4. record {
      told = n;
      mark = m;
      contents = f2;
      low = h1.0.0;
      high = h1.0.1;
      mark_most = h3.0;
      loose = h2;
      is = joined_is f1 (f2 ++ (f3 ++ hs)) (asked p pad 0 ∷ asked p opening n ∷ [])
          (f2 ++ (asked inside closing m ∷ asked inside end 0 ∷ [])) h1.1
          (ap (λ (xs : List Field). f2 ++ xs) (joined_is f3 hs (asked inside closing m ∷ []) (asked inside end 0 ∷ []) h3.1
          (h4.1 ∙ ap (λ (x : ℕ). asked inside end x ∷ []) h4.0)));
    })
    (λ z hs h4. refl) (parted_ask inside end (λ z. K v) g3 w s3))))

back_raw : (p inside : Path) (K : Value → Prog) (fs : List Field) (w : Value) → Steps fs (ask_raw p inside K) (done w)
    → Parted (LooseRaw p inside) K fs w
back_raw p inside K fs w s =
    let question : Ask = extent (whole 1 16383 None) in
    let next = λ (n : ℕ). take inside octet n (λ os. K (raw os)) in
    parted_then (λ n gs. ((1 ≤ n) × (n ≤ 16383)) × (gs ≡ asked p pad 0 ∷ asked p question n ∷ [])) (LooseRaw p inside) next K fs w
    (parted_aligned p question next fs w s)
    (λ n f1 g1 h1 s1. parted_as (λ us gs. (length us ≡ n) × AreBelow 256 us × (gs ≡ run_field inside octet us ∷ []))
    (λ v hs. LooseRaw p inside v (f1 ++ hs)) (λ os. K (raw os)) K g1 w (λ os. raw os)
    (λ os hs g. (
      (subst (λ (m : ℕ). 1 ≤ m) (sym g.0) h1.0.0, subst (λ (m : ℕ). m ≤ 16383) (sym g.0) h1.0.1, octets_so os g.1),
      joined_is f1 hs (asked p pad 0 ∷ asked p question n ∷ []) (run_field inside octet os ∷ []) h1.1 g.2
          ∙ ap (λ (m : ℕ). asked p pad 0 ∷ asked p question m ∷ run_field inside octet os ∷ []) (sym g.0),
    ))
    (λ os hs g. refl) (parted_take inside octet n (λ os. K (raw os)) g1 w s1))

-- ---- SEQUENCE
back_flags : (p : Path) (parts : Parts) (K : List Bool → Prog) (fs : List Field) (w : Value) → Steps fs (ask_flags p parts K) (done w)
    → Parted (λ marks gs. AreThere parts marks × (gs ≡ flags_of p parts marks)) K fs w
back_flags p no_parts K fs w s =
    parted_none (λ marks gs. AreThere no_parts marks × (gs ≡ flags_of p no_parts marks)) K fs w [] (tt, refl) s
back_flags p (part name true t others) K fs w s =
    let Q = λ (marks : List Bool) (gs : List Field). AreThere (part name true t others) marks
    × (gs ≡ flags_of p (part name true t others) marks) in
    let next = λ (n : ℕ). ask_flags p others (λ marks. K ((n == 1) ∷ marks)) in
    parted_then (λ n gs. (n < 2) × (gs ≡ asked p flag n ∷ [])) Q next K fs w (parted_ask p flag next fs w s)
    (λ n f1 g1 h1 s1. parted_as (λ marks hs. AreThere others marks × (hs ≡ flags_of p others marks)) (λ marks hs. Q marks (f1 ++ hs))
    (λ marks. K ((n == 1) ∷ marks)) K g1 w (λ marks. (n == 1) ∷ marks)
    (λ marks hs g. (
      ((λ e. refl), g.0),
      joined_is f1 hs (asked p flag n ∷ []) (flags_of p others marks) h1.1 g.1
          ∙ ap (λ (m : ℕ). asked p flag m ∷ flags_of p others marks) (bit_again n h1.0),
    ))
    (λ marks hs g. refl) (back_flags p others (λ marks. K ((n == 1) ∷ marks)) g1 w s1))
back_flags p (part name false t others) K fs w s =
    parted_as (λ marks gs. AreThere others marks × (gs ≡ flags_of p others marks))
    (λ marks gs. AreThere (part name false t others) marks × (gs ≡ flags_of p (part name false t others) marks))
    (λ marks. K (true ∷ marks)) K fs w (λ marks. true ∷ marks)
    (λ marks gs g. (((λ e. cc), g.0), g.1)) (λ marks gs g. refl) (back_flags p others (λ marks. K (true ∷ marks)) fs w s)

back_marks : (p : Path) (b : Bool) (K : List Bool → Prog) (fs : List Field) (w : Value) → Steps fs (ask_marks p b K) (done w)
    → Parted (λ marks gs. AreMarks b marks × (gs ≡ marks_of p marks)) K fs w
back_marks p false K fs w s = parted_none (λ marks gs. AreMarks false marks × (gs ≡ marks_of p marks)) K fs w [] (refl, refl) s
back_marks p true K fs w s =
    let Q = λ (marks : List Bool) (gs : List Field). AreMarks true marks × (gs ≡ marks_of p marks) in
    let next = λ (n : ℕ). ask p (addition_bits (n + 1)) (λ m. K (bits_of (n + 1) m)) in
    parted_then (λ n gs. (n < 64) × (gs ≡ asked p (small fields.length) n ∷ [])) Q next K fs w
    (parted_ask p (small fields.length) next fs w s)
    (λ n f1 g1 h1 s1. parted_as (λ m hs. SomeBits (n + 1) m × (hs ≡ asked p (addition_bits (n + 1)) m ∷ [])) (λ marks hs. Q marks (f1 ++ hs))
    (λ m. K (bits_of (n + 1) m)) K g1 w (λ m. bits_of (n + 1) m)
    (λ m hs g. marks_of_number n m f1 hs h1.0 g.0 h1.1 g.1)
    (λ m hs g. refl) (parted_ask p (addition_bits (n + 1)) (λ m. K (bits_of (n + 1) m)) g1 w s1))
  where
    marks_of_number : (n m : ℕ) (f1 hs : List Field) → n < 64 → SomeBits (n + 1) m → f1 ≡ asked p (small fields.length) n ∷ []
        → hs ≡ asked p (addition_bits (n + 1)) m ∷ []
        → AreMarks true (bits_of (n + 1) m) × (f1 ++ hs ≡ marks_of p (bits_of (n + 1) m))
    marks_of_number n m f1 hs low b e f =
        let bs = bits_of (n + 1) m in
        let size : length bs ≡ n + 1 = length-bits_of (n + 1) m in
        let again : number_of bs ≡ m = number_is (n + 1) m b.fits in
        let fields_of = λ (k j x : ℕ). asked p (small fields.length) k ∷ asked p (addition_bits j) x ∷ [] in
        let less : n ≡ length bs - 1 = omega (arith, size) in (
          (omega (arith, size), omega (arith, size, low), omega (arith, again, b.some)),
          joined_is f1 hs (asked p (small fields.length) n ∷ []) (asked p (addition_bits (n + 1)) m ∷ []) e f
              ∙ ap (λ (k : ℕ). fields_of k (n + 1) m) less ∙ ap (λ (j : ℕ). fields_of (length bs - 1) j m) (sym size)
              ∙ ap (λ (x : ℕ). fields_of (length bs - 1) (length bs) x) (sym again)
              ∙ marks_some p bs (omega (arith, size)),
        )

back_raw_additions : (p : Path) (marks : List Bool) (K : Options → Prog) (fs : List Field) (w : Value)
    → Steps fs (ask_raw_additions p marks K) (done w)
    → Parted (λ more gs. (presence more ≡ marks) × LooseRawAdditions p more gs) K fs w
back_raw_additions p [] K fs w s =
    parted_none (λ more gs. (presence more ≡ []) × LooseRawAdditions p more gs) K fs w no_options (refl, refl) s
back_raw_additions p (false ∷ marks) K fs w s =
    parted_as (λ more gs. (presence more ≡ marks) × LooseRawAdditions p more gs)
    (λ more gs. (presence more ≡ false ∷ marks) × LooseRawAdditions p more gs) (λ more. K (absent more)) K fs w (λ more. absent more)
    (λ more gs g. (ap (λ (bs : List Bool). false ∷ bs) g.0, g.1)) (λ more gs g. refl)
    (back_raw_additions p marks (λ more. K (absent more)) fs w s)
back_raw_additions p (true ∷ marks) K fs w s =
    let Q = λ (more : Options) (gs : List Field). (presence more ≡ true ∷ marks) × LooseRawAdditions p more gs in
    let next = λ (v : Value). ask_raw_additions p marks (λ more. K (present v more)) in
    parted_then (LooseRaw p p) Q next K fs w (back_raw p p next fs w s)
    (λ v f1 g1 h1 s1. parted_as (λ more gs. (presence more ≡ marks) × LooseRawAdditions p more gs) (λ more hs. Q more (f1 ++ hs))
    (λ more. K (present v more)) K g1 w (λ more. present v more)
    (λ more hs g. (
      ap (λ (bs : List Bool). true ∷ bs) g.0,
      record { front = f1; others = hs; first = h1; second = g.1; is = refl },
    ))
    (λ more hs g. refl) (back_raw_additions p marks (λ more. K (present v more)) g1 w s1))

sequence_is : (p : Path) (extensible x : Bool) (root additions : Parts) (th ad : List Bool) (vs more : Options) (f1 f2 f3 f4 hs : List Field)
    → (extensible ≡ false → x ≡ false) → f1 ≡ extension_fields p extensible x → f2 ≡ flags_of p root th → presence vs ≡ th
    → LooseComponents p root vs f3 → AreMarks x ad → f4 ≡ marks_of p ad → presence more ≡ ad → LooseAdditions p additions more hs
    → Loose p (sequence extensible root additions) (components vs more) (f1 ++ (f2 ++ (f3 ++ (f4 ++ hs))))
unfolding Loose
sequence_is p extensible x root additions th ad vs more f1 f2 f3 f4 hs ext e1 e2 there loose marks e4 added further =
    let so = additions_so extensible x more ext (subst (AreMarks x) (sym added) marks) in
    let R = f3 ++ (f4 ++ hs) in
    let E = extension_fields p extensible (has_options more) in
    let F = flag_fields p root vs in
    let same1 : f1 ≡ E = e1 ∙ ap (extension_fields p extensible) (sym so.1) in
    let same2 : f2 ≡ F = e2 ∙ ap (flags_of p root) (sym there) ∙ sym (flags_are p root vs) in
    let same4 : f4 ≡ mark_fields p more = e4 ∙ ap (marks_of p) (sym added) ∙ sym (marks_are p more) in (
      so.0,
      record {
        others = R;
        loose = record {
          front = f3;
          others = f4 ++ hs;
          first = loose;
          second = record { others = hs; loose = further; is = ap (λ (xs : List Field). xs ++ hs) same4 };
          is = refl;
        };
        is = joined_is f1 (f2 ++ R) E (F ++ R) same1 (ap (λ (xs : List Field). xs ++ R) same2) ∙ sym (append_assoc E F R);
      },
    )

-- ---- lists
back_each : (One : ℕ → Value → List Field → Type 0) (one : ℕ → (Value → Prog) → Prog) (w : Value)
    → ((i : ℕ) (L : Value → Prog) (gs : List Field) → Steps gs (one i L) (done w) → Parted (One i) L gs w)
    → (i count : ℕ) (K : Values → Prog) (fs : List Field) → Steps fs (ask_members one i count K) (done w)
    → Parted (λ vs gs. (value_count vs ≡ count) × LooseEach One i vs gs) K fs w
back_each One one w inner i zero K fs s =
    parted_none (λ vs gs. (value_count vs ≡ 0) × LooseEach One i vs gs) K fs w no_values (refl, refl) s
back_each One one w inner i (suc count) K fs s =
    let Q = λ (vs : Values) (gs : List Field). (value_count vs ≡ suc count) × LooseEach One i vs gs in
    let next = λ (v : Value). ask_members one (suc i) count (λ vs. K (value v vs)) in
    parted_then (One i) Q next K fs w (inner i next fs s)
    (λ v f1 g1 h1 s1. parted_as (λ vs gs. (value_count vs ≡ count) × LooseEach One (suc i) vs gs) (λ vs hs. Q vs (f1 ++ hs))
    (λ vs. K (value v vs)) K g1 w (λ vs. value v vs)
    (λ vs hs g. (ap suc g.0, record { front = f1; others = hs; first = h1; second = g.1; is = refl }))
    (λ vs hs g. refl) (back_each One one w inner (suc i) count (λ vs. K (value v vs)) g1 s1))

back_elements : (p : Path) (known : List Slot) (Body : ℕ → Value → List Field → Type 0) (body : ℕ → (Value → Prog) → Prog) (w : Value)
    → ((id : ℕ) (L : Value → Prog) (gs : List Field) → Steps gs (body id L) (done w) → Parted (Body id) L gs w)
    → (count : ℕ) (left : List Slot) (K : Ies → Prog) (fs : List Field) → mandatory_count left ≤ count
    → Steps fs (ask_ies p known body count left K) (done w)
    → Parted (λ ies gs. (ie_count ies ≡ count) × LooseElements p known Body left ies gs) K fs w
back_elements p known Body body w inner zero left K fs enough s =
    parted_none (λ ies gs. (ie_count ies ≡ 0) × LooseElements p known Body left ies gs) K fs w no_ies
    (refl, (let none : mandatory_count left ≡ 0 = omega (arith, enough) in none, refl)) s
back_elements p known Body body w inner (suc count) left K fs enough s =
    let Q = λ (ies : Ies) (gs : List Field). (ie_count ies ≡ suc count) × LooseElements p known Body left ies gs in
    let on = λ (id criticality : ℕ) (v : Value). ask_ies p known body count (slots_left known id left)
    (λ others. K (ie id criticality v others)) in
    let third : Ask = constrained fields.index 2 2 in
    let question : Ask = ie_id known left count in
    let next = λ (id : ℕ). ask p third (λ criticality. body id (on id criticality)) in
    parted_then (λ id gs. IsNext known left count id × (gs ≡ asked p pad 0 ∷ asked p question id ∷ [])) Q next K fs w
    (parted_aligned p question next fs w s)
    (λ id f1 g1 h1 s1. parted_then (λ criticality gs. (criticality ≤ 2) × (gs ≡ asked p third criticality ∷ []))
    (λ ies hs. Q ies (f1 ++ hs)) (λ criticality. body id (on id criticality)) K g1 w
    (parted_ask p third (λ criticality. body id (on id criticality)) g1 w s1)
    (λ criticality f2 g2 h2 s2. parted_then (Body id) (λ ies hs. Q ies (f1 ++ (f2 ++ hs))) (on id criticality) K g2 w
    (inner id (on id criticality) g2 s2)
    (λ v f3 g3 h3 s3. parted_as (λ os hs. (ie_count os ≡ count) × LooseElements p known Body (slots_left known id left) os hs)
    (λ ies hs. Q ies (f1 ++ (f2 ++ (f3 ++ hs)))) (λ os. K (ie id criticality v os)) K g3 w (λ os. ie id criticality v os)
    (λ os hs g. (
      ap suc g.0,
      (
        h1.0.fits,
        h2.0,
        h1.0.order,
        record {
          others = f3 ++ hs;
          loose = record { front = f3; others = hs; first = h3; second = g.1; is = refl };
          is = joined_is f1 (f2 ++ (f3 ++ hs)) (asked p pad 0 ∷ asked p question id ∷ []) (asked p third criticality ∷ (f3 ++ hs)) h1.1
              (ap (λ (xs : List Field). xs ++ (f3 ++ hs)) h2.1)
              ∙ ap (λ (n : ℕ). asked p pad 0 ∷ asked p (ie_id known left n) id ∷ asked p third criticality ∷ (f3 ++ hs)) (sym g.0);
        },
      ),
    ))
    (λ os hs g. refl)
    (back_elements p known Body body w inner count (slots_left known id left) (λ os. K (ie id criticality v os)) g3 h1.0.enough s3))))

-- the branch that a test takes, where what is known depends on it
back_either : (b : Bool) (A B : Value → List Field → Type 0) (P R : Prog) (K : Value → Prog) (fs : List Field) (w : Value)
    → (b ≡ true → Steps fs P (done w) → Parted A K fs w) → (b ≡ false → Steps fs R (done w) → Parted B K fs w)
    → Steps fs (cond b P R) (done w) → Parted (λ v gs. Either b (A v gs) (B v gs)) K fs w
back_either true A B P R K fs w first second s = first refl s
back_either false A B P R K fs w first second s = second refl s

-- ---- PDUs
abbrev IsMessage : Path → (ℕ → ℕ → Value → List Field → Type 0) → ℕ → ℕ → ℕ → Value → List Field → Type 0
IsMessage p Body index code criticality v fs = Either (nat_lt index 3)
    ((code < 256) × (criticality ≤ 2) × After (message_head p index code criticality) (Body index code v) fs)
    ((index < 67) × (code ≡ 0) × (criticality ≡ 0)
    × After (asked p flag 1 ∷ asked p (small fields.index) (index - 3) ∷ []) (LooseRaw p p v) fs)

record Message4 : Type 0 where
  pub index : ℕ
  pub code : ℕ
  pub criticality : ℕ
  pub body : Value

abbrev message_of : Message4 → Value
message_of x = message x.index x.code x.criticality x.body

abbrev IsMessage4 : Path → (ℕ → ℕ → Value → List Field → Type 0) → Message4 → List Field → Type 0
IsMessage4 p Body x fs = IsMessage p Body x.index x.code x.criticality x.body fs

back_past : (p : Path) (Body : ℕ → ℕ → Value → List Field → Type 0) (K : Value → Prog) (fs f0 : List Field) (w : Value)
    → f0 ≡ asked p flag 1 ∷ []
    → Steps fs (ask p (small fields.index) (λ n. ask_raw p p (λ v. K (message (3 + n) 0 0 v)))) (done w)
    → Parted (λ x hs. IsMessage4 p Body x (f0 ++ hs)) (λ x. K (message_of x)) fs w
back_past p Body K fs f0 w e0 s =
    let L = λ (x : Message4). K (message_of x) in
    let Q = λ (x : Message4) (hs : List Field). IsMessage4 p Body x (f0 ++ hs) in
    let next = λ (n : ℕ). ask_raw p p (λ v. K (message (3 + n) 0 0 v)) in
    parted_then (λ n gs. (n < 64) × (gs ≡ asked p (small fields.index) n ∷ [])) Q next L fs w
    (parted_ask p (small fields.index) next fs w s)
    (λ n f1 g1 h1 s1. parted_as (LooseRaw p p) (λ x hs. Q x (f1 ++ hs)) (λ v. K (message (3 + n) 0 0 v)) L g1 w
    (λ v. record { index = 3 + n; code = 0; criticality = 0; body = v })
    (λ v hs g. let low : n < 64 = h1.0 in either_no (nat_lt (3 + n) 3) _ _ (is_not_below (3 + n) 3 (omega arith)) (
      omega (arith, low),
      refl,
      refl,
      record {
        others = hs;
        loose = g;
        is = joined_is f0 (f1 ++ hs) (asked p flag 1 ∷ []) (asked p (small fields.index) n ∷ hs) e0
            (ap (λ (xs : List Field). xs ++ hs) h1.1)
            ∙ ap (λ (k : ℕ). asked p flag 1 ∷ asked p (small fields.index) k ∷ hs) (let again : n ≡ 3 + n - 3 = omega arith in again);
      },
    ))
    (λ v hs g. refl) (back_raw p p (λ v. K (message (3 + n) 0 0 v)) g1 w s1))

back_root : (p : Path) (Body : ℕ → ℕ → Value → List Field → Type 0) (body : ℕ → ℕ → (Value → Prog) → Prog) (K : Value → Prog)
    (fs f0 : List Field) (w : Value)
    → ((i j : ℕ) (L : Value → Prog) (gs : List Field) → Steps gs (body i j L) (done w) → Parted (Body i j) L gs w)
    → f0 ≡ asked p flag 0 ∷ []
    → Steps fs (ask p (constrained fields.index 2 2) (λ i. ask_aligned p (constrained fields.index 8 255) (λ j.
    ask p (constrained fields.index 2 2) (λ k. body i j (λ v. K (message i j k v)))))) (done w)
    → Parted (λ x hs. IsMessage4 p Body x (f0 ++ hs)) (λ x. K (message_of x)) fs w
back_root p Body body K fs f0 w inner e0 s =
    let L = λ (x : Message4). K (message_of x) in
    let Q = λ (x : Message4) (hs : List Field). IsMessage4 p Body x (f0 ++ hs) in
    let third : Ask = constrained fields.index 2 2 in
    let eight : Ask = constrained fields.index 8 255 in
    let K3 = λ (i j k : ℕ). body i j (λ v. K (message i j k v)) in
    let K2 = λ (i j : ℕ). ask p third (K3 i j) in
    let K1 = λ (i : ℕ). ask_aligned p eight (K2 i) in
    parted_then (λ i gs. (i ≤ 2) × (gs ≡ asked p third i ∷ [])) Q K1 L fs w (parted_ask p third K1 fs w s)
    (λ i f1 g1 h1 s1. parted_then (λ j gs. (j ≤ 255) × (gs ≡ asked p pad 0 ∷ asked p eight j ∷ [])) (λ x hs. Q x (f1 ++ hs)) (K2 i) L g1 w
    (parted_aligned p eight (K2 i) g1 w s1)
    (λ j f2 g2 h2 s2. parted_then (λ k gs. (k ≤ 2) × (gs ≡ asked p third k ∷ [])) (λ x hs. Q x (f1 ++ (f2 ++ hs))) (K3 i j) L g2 w
    (parted_ask p third (K3 i j) g2 w s2)
    (λ k f3 g3 h3 s3. parted_as (Body i j) (λ x hs. Q x (f1 ++ (f2 ++ (f3 ++ hs)))) (λ v. K (message i j k v)) L g3 w
    (λ v. record { index = i; code = j; criticality = k; body = v })
    (λ v hs g. let low : i ≤ 2 = h1.0 in let code : j ≤ 255 = h2.0 in
    either_yes (nat_lt i 3) _ _ (is_below i 3 (omega (arith, low))) (
      omega (arith, code),
      h3.0,
      record {
        others = hs;
        loose = g;
        is = joined_is f0 (f1 ++ (f2 ++ (f3 ++ hs))) (asked p flag 0 ∷ [])
            (asked p third i ∷ asked p pad 0 ∷ asked p eight j ∷ asked p third k ∷ hs) e0
            (joined_is f1 (f2 ++ (f3 ++ hs)) (asked p third i ∷ []) (asked p pad 0 ∷ asked p eight j ∷ asked p third k ∷ hs) h1.1
            (joined_is f2 (f3 ++ hs) (asked p pad 0 ∷ asked p eight j ∷ []) (asked p third k ∷ hs) h2.1
            (ap (λ (xs : List Field). xs ++ hs) h3.1)));
      },
    ))
    (λ v hs g. refl) (inner i j (λ v. K (message i j k v)) g3 s3))))

-- either of them
by_flag : (p : Path) (Body : ℕ → ℕ → Value → List Field → Type 0) (body : ℕ → ℕ → (Value → Prog) → Prog) (K : Value → Prog)
    (fs f0 : List Field) (w : Value) (n : ℕ)
    → ((i j : ℕ) (L : Value → Prog) (gs : List Field) → Steps gs (body i j L) (done w) → Parted (Body i j) L gs w)
    → n < 2 → f0 ≡ asked p flag n ∷ []
    → Steps fs (cond (n == 1) (ask p (small fields.index) (λ n. ask_raw p p (λ v. K (message (3 + n) 0 0 v))))
    (ask p (constrained fields.index 2 2) (λ i. ask_aligned p (constrained fields.index 8 255) (λ j.
    ask p (constrained fields.index 2 2) (λ k. body i j (λ v. K (message i j k v))))))) (done w)
    → Parted (λ x hs. IsMessage4 p Body x (f0 ++ hs)) (λ x. K (message_of x)) fs w
by_flag p Body body K fs f0 w zero inner low e s = back_root p Body body K fs f0 w inner e s
by_flag p Body body K fs f0 w (suc zero) inner low e s = back_past p Body K fs f0 w e s
by_flag p Body body K fs f0 w (suc (suc n)) inner low e s = absurd (omega (arith, low))

-- ---- each form of type
mutual
  unfolding Loose asks IsBounded

  pub back : (p : Path) (t : Tree) (K : Value → Prog) (fs : List Field) (w : Value) → IsBounded t → Steps fs (asks p t K) (done w)
      → Parted (λ v gs. Loose p t v gs) K fs w
  back p boolean K fs w b s =
      parted_as (λ n gs. (n < 2) × (gs ≡ asked p flag n ∷ [])) (λ v gs. Loose p boolean v gs) (λ n. K (truth (n == 1))) K fs w
      (λ n. truth (n == 1))
      (λ n gs g. g.1 ∙ ap (λ (m : ℕ). asked p flag m ∷ []) (bit_so n g.0)) (λ n gs g. refl)
      (parted_ask p flag (λ n. K (truth (n == 1))) fs w s)
  back p (integer low high extensible) K fs w b s =
      parted_as (IsLooseInteger p low high extensible) (λ v gs. Loose p (integer low high extensible) v gs) (λ z. K (number z)) K fs w
      (λ z. number z) (λ z gs g. g) (λ z gs g. refl) (back_integer p low high extensible (λ z. K (number z)) fs w b.0 s)
  back p (enumerated names extensible) K fs w b s =
      parted_as _ (λ v gs. Loose p (enumerated names extensible) v gs) (λ i. K (enumeral i)) K fs w
      (λ i. enumeral i) (λ i gs g. g) (λ i gs g. refl) (back_index p names extensible (λ i. K (enumeral i)) fs w b.0 s)
  back p (bit_string size) K fs w b s =
      parted_as (IsLooseString p of_bits size) (λ v gs. Loose p (bit_string size) v gs) (λ bs. K (bits (map (λ x. x == 1) bs))) K fs w
      (λ bs. bits (map (λ x. x == 1) bs))
      (λ us gs g. subst (λ (xs : List ℕ). LooseString p of_bits size xs gs) (bits_so us g.0) g.1) (λ us gs g. refl)
      (back_string p of_bits size (λ bs. K (bits (map (λ x. x == 1) bs))) fs w b s)
  back p (octet_string size) K fs w b s =
      parted_as (IsLooseString p of_octets size) (λ v gs. Loose p (octet_string size) v gs) (λ os. K (octets os)) K fs w (λ os. octets os)
      (λ us gs g. (octets_so us g.0, g.1)) (λ us gs g. refl) (back_string p of_octets size (λ os. K (octets os)) fs w b s)
  back p (printable_string size) K fs w b s =
      parted_as (IsLooseString p of_characters size) (λ v gs. Loose p (printable_string size) v gs) (λ cs. K (text cs)) K fs w (λ cs. text cs)
      (λ us gs g. g) (λ us gs g. refl) (back_string p of_characters size (λ cs. K (text cs)) fs w b s)
  back p (sequence extensible root additions) K fs w b s =
      let Q = λ (v : Value) (gs : List Field). Loose p (sequence extensible root additions) v gs in
      let K4 = λ (vs : Options) (added : List Bool). ask_additions p additions added (λ more. K (components vs more)) in
      let K3 = λ (x : Bool) (vs : Options). ask_marks p x (K4 vs) in
      let K2 = λ (x : Bool) (th : List Bool). ask_components p root th (K3 x) in
      let K1 = λ (x : Bool). ask_flags p root (K2 x) in
      parted_then (λ x gs. (extensible ≡ false → x ≡ false) × (gs ≡ extension_fields p extensible x)) Q K1 K fs w
      (back_extension p extensible K1 fs w s)
      (λ x f1 g1 h1 s1. parted_then (λ th gs. AreThere root th × (gs ≡ flags_of p root th)) (λ v hs. Q v (f1 ++ hs)) (K2 x) K g1 w
      (back_flags p root (K2 x) g1 w s1)
      (λ th f2 g2 h2 s2. parted_then (λ vs gs. (presence vs ≡ th) × LooseComponents p root vs gs) (λ v hs. Q v (f1 ++ (f2 ++ hs))) (K3 x) K g2 w
      (back_components p root th (K3 x) g2 w b.0 h2.0 s2)
      (λ vs f3 g3 h3 s3. parted_then (λ ad gs. AreMarks x ad × (gs ≡ marks_of p ad)) (λ v hs. Q v (f1 ++ (f2 ++ (f3 ++ hs)))) (K4 vs) K g3 w
      (back_marks p x (K4 vs) g3 w s3)
      (λ ad f4 g4 h4 s4. parted_as (λ more gs. (presence more ≡ ad) × LooseAdditions p additions more gs)
      (λ v hs. Q v (f1 ++ (f2 ++ (f3 ++ (f4 ++ hs))))) (λ more. K (components vs more)) K g4 w (λ more. components vs more)
      (λ more hs g. sequence_is p extensible x root additions th ad vs more f1 f2 f3 f4 hs h1.0 h1.1 h2.1 h3.0 h3.1 h4.0 h4.1 g.0 g.1)
      (λ more hs g. refl) (back_additions p additions ad (λ more. K (components vs more)) g4 w b.1 s4)))))
  back p (choice extensible root additions) K fs w b s =
      let Q = λ (v : Value) (gs : List Field). Loose p (choice extensible root additions) v gs in
      let count = part_count root in
      let K1 = λ (i : ℕ). cond (nat_lt i count) (ask_alternative p root i (λ v. K (chosen i v)))
      (ask_added p additions (i - count) (λ v. K (chosen i v))) in
      parted_then (λ i gs. (is_index_of count extensible i ≡ true) × (gs ≡ index_fields p count extensible i)) Q K1 K fs w
      (back_index p count extensible K1 fs w b.0 s)
      (λ i f1 g1 h1 s1. parted_as
      (λ v gs. Either (nat_lt i count) (LooseAlternative p root i v gs) (LooseAdded p additions (i - count) v gs))
      (λ v hs. Q v (f1 ++ hs)) (λ v. K (chosen i v)) K g1 w (λ v. chosen i v)
      (λ v hs g. (h1.0, record { others = hs; loose = g; is = ap (λ (xs : List Field). xs ++ hs) h1.1 }))
      (λ v hs g. refl)
      (back_either (nat_lt i count) (λ v gs. LooseAlternative p root i v gs) (λ v gs. LooseAdded p additions (i - count) v gs) _ _
      (λ v. K (chosen i v)) g1 w
      (λ e s2. back_alternative p root i (λ v. K (chosen i v)) g1 w b.2 s2)
      (λ e s2. back_added p additions (i - count) (λ v. K (chosen i v)) g1 w b.3 s2) s1))
  back p (sequence_of size t) K fs w b s =
      let Q = λ (v : Value) (gs : List Field). Loose p (sequence_of size t) v gs in
      let One = λ (i : ℕ) (v : Value) (gs : List Field). Loose (fields.member i ∷ p) t v gs in
      let one = λ (i : ℕ). asks (fields.member i ∷ p) t in
      let K1 = λ (n : ℕ). ask_members one 0 n (λ vs. K (list vs)) in
      parted_then (IsLooseCount p size) Q K1 K fs w (back_count p size K1 fs w b.0 s)
      (λ n f1 g1 h1 s1. parted_as (λ vs gs. (value_count vs ≡ n) × LooseEach One 0 vs gs) (λ v hs. Q v (f1 ++ hs)) (λ vs. K (list vs)) K g1 w
      (λ vs. list vs)
      (λ vs hs g. (
        h1.0,
        subst (HasCountForm size h1.0) (sym g.0) h1.1,
        record {
          others = hs;
          loose = g.1;
          is = ap (λ (xs : List Field). xs ++ hs) (h1.2 ∙ ap (λ (m : ℕ). count_form p size h1.0 m) (sym g.0));
        },
      ))
      (λ vs hs g. refl)
      (back_each One one w (λ i L gs s2. back (fields.member i ∷ p) t L gs w b.1 s2) 0 n (λ vs. K (list vs)) g1 s1))
  back p (container rows) K fs w b s =
      let Q = λ (v : Value) (gs : List Field). Loose p (container rows) v gs in
      let known = slots rows in
      let question : Ask = fields.ie_count (mandatory_count known) in
      let Body = λ (id : ℕ) (v : Value) (gs : List Field). LooseRow p rows id v gs in
      let body = λ (id : ℕ). ask_row p rows id in
      let K1 = λ (n : ℕ). ask_ies p known body n known (λ ies. K (elements ies)) in
      parted_then (λ n gs. ((mandatory_count known ≤ n) × (n < 65536)) × (gs ≡ asked p pad 0 ∷ asked p question n ∷ [])) Q K1 K fs w
      (parted_aligned p question K1 fs w s)
      (λ n f1 g1 h1 s1. parted_as (λ ies gs. (ie_count ies ≡ n) × LooseElements p known Body known ies gs) (λ v hs. Q v (f1 ++ hs))
      (λ ies. K (elements ies)) K g1 w (λ ies. elements ies)
      (λ ies hs g. (
        subst (λ (m : ℕ). m < 65536) (sym g.0) h1.0.1,
        record {
          others = hs;
          loose = g.1;
          is = ap (λ (xs : List Field). xs ++ hs) (h1.1 ∙ ap (λ (m : ℕ). asked p pad 0 ∷ asked p question m ∷ []) (sym g.0));
        },
      ))
      (λ ies hs g. refl)
      (back_elements p known Body body w (λ id L gs s2. back_row p rows id L gs w b s2) n known (λ ies. K (elements ies)) g1 h1.0.0 s1))
  back p (pdu procedures) K fs w b s =
      let Body = λ (i j : ℕ) (v : Value) (gs : List Field). LooseBody p procedures i j v gs in
      let body = λ (i j : ℕ). ask_body p procedures i j in
      let past = ask p (small fields.index) (λ n. ask_raw p p (λ v. K (message (3 + n) 0 0 v))) in
      let root = ask p (constrained fields.index 2 2) (λ i. ask_aligned p (constrained fields.index 8 255) (λ j.
      ask p (constrained fields.index 2 2) (λ k. body i j (λ v. K (message i j k v))))) in
      let K1 = λ (x : ℕ). cond (x == 1) past root in
      parted_as (IsMessage4 p Body) (λ v gs. Loose p (pdu procedures) v gs) (λ x. K (message_of x)) K fs w message_of
      (λ x gs g. g) (λ x gs g. refl)
      (parted_then (λ n gs. (n < 2) × (gs ≡ asked p flag n ∷ [])) (IsMessage4 p Body) K1 (λ x. K (message_of x)) fs w
      (parted_ask p flag K1 fs w s)
      (λ n f1 g1 h1 s1. by_flag p Body body K g1 f1 w n (λ i j L gs s2. back_body p procedures i j L gs w b s2) h1.0 h1.1 s1))

  back_components : (p : Path) (parts : Parts) (marks : List Bool) (K : Options → Prog) (fs : List Field) (w : Value)
      → ArePartsBounded parts → AreThere parts marks → Steps fs (ask_components p parts marks K) (done w)
      → Parted (λ vs gs. (presence vs ≡ marks) × LooseComponents p parts vs gs) K fs w
  back_components p no_parts [] K fs w b th s =
      parted_none (λ vs gs. (presence vs ≡ []) × LooseComponents p no_parts vs gs) K fs w no_options (refl, refl) s
  back_components p no_parts (m ∷ marks) K fs w b th s = absurd th
  back_components p (part name optional t others) [] K fs w b th s = absurd th
  back_components p (part name optional t others) (true ∷ marks) K fs w b th s =
      let q = fields.component name ∷ p in
      let Q = λ (vs : Options) (gs : List Field). (presence vs ≡ true ∷ marks) × LooseComponents p (part name optional t others) vs gs in
      let next = λ (v : Value). ask_components p others marks (λ vs. K (present v vs)) in
      parted_then (λ v gs. Loose q t v gs) Q next K fs w (back q t next fs w b.0 s)
      (λ v f1 g1 h1 s1. parted_as (λ vs gs. (presence vs ≡ marks) × LooseComponents p others vs gs) (λ vs hs. Q vs (f1 ++ hs))
      (λ vs. K (present v vs)) K g1 w (λ vs. present v vs)
      (λ vs hs g. (
        ap (λ (bs : List Bool). true ∷ bs) g.0,
        record { front = f1; others = hs; first = h1; second = g.1; is = refl },
      ))
      (λ vs hs g. refl) (back_components p others marks (λ vs. K (present v vs)) g1 w b.1 th.1 s1))
  back_components p (part name optional t others) (false ∷ marks) K fs w b th s =
      parted_as (λ vs gs. (presence vs ≡ marks) × LooseComponents p others vs gs)
      (λ vs gs. (presence vs ≡ false ∷ marks) × LooseComponents p (part name optional t others) vs gs) (λ vs. K (absent vs)) K fs w
      (λ vs. absent vs) (λ vs gs g. (ap (λ (bs : List Bool). false ∷ bs) g.0, (th.0 refl, g.1))) (λ vs gs g. refl)
      (back_components p others marks (λ vs. K (absent vs)) fs w b.1 th.1 s)

  back_additions : (p : Path) (parts : Parts) (marks : List Bool) (K : Options → Prog) (fs : List Field) (w : Value)
      → ArePartsBounded parts → Steps fs (ask_additions p parts marks K) (done w)
      → Parted (λ more gs. (presence more ≡ marks) × LooseAdditions p parts more gs) K fs w
  back_additions p no_parts marks K fs w b s = back_raw_additions p marks K fs w s
  back_additions p (part name optional t others) [] K fs w b s =
      parted_none (λ more gs. (presence more ≡ []) × LooseAdditions p (part name optional t others) more gs) K fs w no_options (refl, refl) s
  back_additions p (part name optional t others) (false ∷ marks) K fs w b s =
      parted_as (λ more gs. (presence more ≡ marks) × LooseAdditions p others more gs)
      (λ more gs. (presence more ≡ false ∷ marks) × LooseAdditions p (part name optional t others) more gs) (λ more. K (absent more)) K fs w
      (λ more. absent more) (λ more gs g. (ap (λ (bs : List Bool). false ∷ bs) g.0, g.1)) (λ more gs g. refl)
      (back_additions p others marks (λ more. K (absent more)) fs w b.1 s)
  back_additions p (part name optional t others) (true ∷ marks) K fs w b s =
      let q = fields.component name ∷ p in
      let Q = λ (more : Options) (gs : List Field). (presence more ≡ true ∷ marks)
      × LooseAdditions p (part name optional t others) more gs in
      let next = λ (v : Value). ask_additions p others marks (λ more. K (present v more)) in
      parted_then (λ v gs. LooseOpen p q (Loose q t v) gs) Q next K fs w
      (back_open p q (λ v gs. Loose q t v gs) (asks q t) next fs w (λ L gs s2. back q t L gs w b.0 s2) s)
      (λ v f1 g1 h1 s1. parted_as (λ more gs. (presence more ≡ marks) × LooseAdditions p others more gs) (λ more hs. Q more (f1 ++ hs))
      (λ more. K (present v more)) K g1 w (λ more. present v more)
      (λ more hs g. (
        ap (λ (bs : List Bool). true ∷ bs) g.0,
        record { front = f1; others = hs; first = h1; second = g.1; is = refl },
      ))
      (λ more hs g. refl) (back_additions p others marks (λ more. K (present v more)) g1 w b.1 s1))

  back_alternative : (p : Path) (parts : Parts) (i : ℕ) (K : Value → Prog) (fs : List Field) (w : Value) → ArePartsBounded parts
      → Steps fs (ask_alternative p parts i K) (done w) → Parted (λ v gs. LooseAlternative p parts i v gs) K fs w
  back_alternative p no_parts i K fs w b s = absurd (no_never fs w s)
  back_alternative p (part name optional t others) zero K fs w b s = back (fields.component name ∷ p) t K fs w b.0 s
  back_alternative p (part name optional t others) (suc i) K fs w b s = back_alternative p others i K fs w b.1 s

  back_added : (p : Path) (parts : Parts) (i : ℕ) (K : Value → Prog) (fs : List Field) (w : Value) → ArePartsBounded parts
      → Steps fs (ask_added p parts i K) (done w) → Parted (λ v gs. LooseAdded p parts i v gs) K fs w
  back_added p no_parts i K fs w b s = back_raw p p K fs w s
  back_added p (part name optional t others) zero K fs w b s =
      let q = fields.component name ∷ p in
      back_open p q (λ v gs. Loose q t v gs) (asks q t) K fs w (λ L gs s2. back q t L gs w b.0 s2) s
  back_added p (part name optional t others) (suc i) K fs w b s = back_added p others i K fs w b.1 s

  back_row : (p : Path) (rows : Rows) (id : ℕ) (K : Value → Prog) (fs : List Field) (w : Value) → AreRowsBounded rows
      → Steps fs (ask_row p rows id K) (done w) → Parted (λ v gs. LooseRow p rows id v gs) K fs w
  back_row p no_rows id K fs w b s = back_raw p (fields.element id ∷ p) K fs w s
  back_row p (row other mandatory t others) id K fs w b s =
      let q = fields.element id ∷ p in
      back_either (other == id) (λ v gs. LooseOpen p q (Loose q t v) gs) (λ v gs. LooseRow p others id v gs) _ _ K fs w
      (λ e s2. back_open p q (λ v gs. Loose q t v gs) (asks q t) K fs w (λ L gs s3. back q t L gs w b.0 s3) s2)
      (λ e s2. back_row p others id K fs w b.1 s2) s

  back_body : (p : Path) (procedures : Procedures) (index code : ℕ) (K : Value → Prog) (fs : List Field) (w : Value)
      → AreProceduresBounded procedures
      → Steps fs (ask_body p procedures index code K) (done w) → Parted (λ v gs. LooseBody p procedures index code v gs) K fs w
  back_body p no_procedures index code K fs w b s = back_raw p (fields.outcome index ∷ p) K fs w s
  back_body p (procedure other initiating successful unsuccessful others) index code K fs w b s =
      back_either (other == code)
      (λ v gs. Either (index == 0) (LooseOutcome p index initiating v gs)
      (Either (index == 1) (LooseOutcome p index successful v gs) (LooseOutcome p index unsuccessful v gs)))
      (λ v gs. LooseBody p others index code v gs) _ _ K fs w
      (λ e s2. back_either (index == 0) (λ v gs. LooseOutcome p index initiating v gs)
      (λ v gs. Either (index == 1) (LooseOutcome p index successful v gs) (LooseOutcome p index unsuccessful v gs)) _ _ K fs w
      (λ e2 s3. back_outcome p index initiating K fs w b.0 s3)
      (λ e2 s3. back_either (index == 1) (λ v gs. LooseOutcome p index successful v gs) (λ v gs. LooseOutcome p index unsuccessful v gs)
      _ _ K fs w
      (λ e3 s4. back_outcome p index successful K fs w b.1 s4) (λ e3 s4. back_outcome p index unsuccessful K fs w b.2 s4) s3) s2)
      (λ e s2. back_body p others index code K fs w b.3 s2) s

  back_outcome : (p : Path) (index : ℕ) (o : Outcome) (K : Value → Prog) (fs : List Field) (w : Value) → IsOutcomeBounded o
      → Steps fs (ask_outcome p index o K) (done w) → Parted (λ v gs. LooseOutcome p index o v gs) K fs w
  back_outcome p index no_outcome K fs w b s = back_raw p (fields.outcome index ∷ p) K fs w s
  back_outcome p index (outcome t) K fs w b s =
      let q = fields.outcome index ∷ p in
      back_open p q (λ v gs. Loose q t v gs) (asks q t) K fs w (λ L gs s2. back q t L gs w b s2) s

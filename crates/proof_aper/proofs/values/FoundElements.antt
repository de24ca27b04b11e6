-- What is read as marks of components, as lists, information elements and messages is such.
use Rattle.std.proofs.Common.{◌≡◌, ℕ, zero, suc, ◌+◌, ◌-◌, ◌^◌, ◌<◌, ◌≤◌, ◌==◌, nat_lt, cond, ◌&&◌, Bool, true, false, List, [], ◌∷◌, ◌++◌, length, None, Some, Ok, refl, sym, ap, subst, ◌∙◌, arith}
use Rattle.std.specs.Prelude.{nat_le}
use Rattle.bits_core.specs.Bits.{bits_of, number_of}
use Rattle.bits_core.proofs.BitLemmas.{length-bits_of, number_is}
use Rattle.aper_defs.specs.declared.reason.Reason.TheVariants as reasons
use Rattle.aper_defs.specs.Trees.{Parts, Slot, slots_left, slots_before, has_slot, mandatory_count, no_parts, part}
use Rattle.aper_defs.specs.Values.{Value, Values, Options, Ies, value_count, ie_count, presence, has_options, each_from, message, no_values, value, no_options, absent, present, no_ies, ie}
use Rattle.aper_defs.specs.Fields.{Path, Ask, Field, flag, constrained, small, addition_bits, ie_id, pad, asked}
use Rattle.aper_defs.specs.Fields as fields
use Rattle.aper_defs.specs.Layouts.{raw_fields, flag_fields, mark_fields, raw_additions, ie_fields, message_head}
use Rattle.aper_defs.specs.Membership.{Either, IsRaw, EachFrom, AreRaw, some_present, AreAdditions, IsInOrder, AreElements}
use Rattle.aper_defs.specs.Questions.{Prog, ask, ask_aligned, ask_raw, ask_flags, ask_members, ask_raw_additions, ask_ies}
use Rattle.aper_defs.specs.Asking.{ask_marks}
use Rattle.aper_defs.specs.Reading.{Cursor, read, unless, answered_at}
use Rattle.proof_aper.proofs.answers.Standing.{StandAll, after_all}
use Rattle.proof_aper.proofs.answers.Forth.{ask_message}
use Rattle.proof_aper.proofs.answers.NumberFacts.{below, is_below, is_not_below, same, at_most}
use Rattle.proof_aper.proofs.values.Found.{Ends, Found, found_after, found_ask, Answered, answer_read, not_wrong}
use Rattle.proof_aper.proofs.values.FoundNumbers.{flag_read, constrained_read, small_read, found_aligned}
use Rattle.proof_aper.proofs.values.FoundIndices.{extensible_is}
use Rattle.proof_aper.proofs.values.FoundOpen.{found_raw}

-- what a test takes, where what is known depends on it
pub found_either : {X : Type 0} (b : Bool) (A B : X → Type 0) (f g : X → List Field) (P Q : Prog) (K : X
    → Prog) (c : Cursor) (y : Value × Cursor)
    → (Ends P c y → Found A f K c y) → (Ends Q c y → Found B g K c y) → Ends (cond b P Q) c y
    → Found (λ x. Either b (A x) (B x)) (λ x. cond b (f x) (g x)) K c y
found_either true A B f g P Q K c y one other e = one e
found_either false A B f g P Q K c y one other e = other e

pub either_yes : (b : Bool) (A B : Type 0) → b ≡ true → A → Either b A B
either_yes true A B e h = h
either_yes false A B e h = cc

pub either_no : (b : Bool) (A B : Type 0) → b ≡ false → B → Either b A B
either_no true A B e h = cc
either_no false A B e h = h

-- ---- which components are there
abbrev pub flags_of : Path → Parts → List Bool → List Field
flags_of p no_parts marks = []
flags_of p (part name optional t others) [] = []
flags_of p (part name optional t others) (b ∷ marks) = cond optional (asked p flag (cond b 1 0) ∷ flags_of p others marks)
    (flags_of p others marks)

abbrev pub AreThere : Parts → List Bool → Type 0
AreThere no_parts [] = Unit {0}
AreThere (part name optional t others) (b ∷ marks) = (b ≡ false → optional ≡ true) × AreThere others marks
AreThere parts marks = ⊥

pub flags_are : (p : Path) (parts : Parts) (vs : Options) → flag_fields p parts vs ≡ flags_of p parts (presence vs)
flags_are p no_parts vs = refl
flags_are p (part name optional t others) no_options = refl
flags_are p (part name optional t others) (absent vs) = ap (λ fs. cond optional (asked p flag 0 ∷ fs) fs) (flags_are p others vs)
flags_are p (part name optional t others) (present v vs) = ap (λ fs. cond optional (asked p flag 1 ∷ fs) fs) (flags_are p others vs)

pub bit_again : (n : ℕ) → n < 2 → n ≡ cond (n == 1) 1 0
bit_again zero h = refl
bit_again (suc zero) h = refl
bit_again (suc (suc n)) h = absurd (omega arith)

pub found_flags : (p : Path) (parts : Parts) (K : List Bool → Prog) (c : Cursor) (y : Value × Cursor) → Ends (ask_flags p parts K) c y
    → Found (AreThere parts) (flags_of p parts) K c y
found_flags p no_parts K c y e = record { made = []; is = tt; stand = tt; rest = e }
found_flags p (part name true t others) K c y e =
    let a = found_ask p flag (λ b. ask_flags p others (λ marks. K ((b == 1) ∷ marks))) c y e in
    let n = a.made in
    let L = λ (marks : List Bool). K ((n == 1) ∷ marks) in
    found_after (asked p flag n ∷ []) (AreThere others) (AreThere (part name true t others)) (flags_of p others) (flags_of p
    (part name true t others)) L K c y
    (λ marks. (n == 1) ∷ marks) a.stand (found_flags p others L (answered_at flag n c) y a.rest)
    (λ marks h s. ((λ g. refl), h)) (λ marks h s. ap (λ m. asked p flag m ∷ flags_of p others marks) (bit_again n (flag_read c n a.is)))
    (λ marks h. refl)
found_flags p (part name false t others) K c y e =
    let L = λ (marks : List Bool). K (true ∷ marks) in
    found_after [] (AreThere others) (AreThere (part name false t others)) (flags_of p others) (flags_of p
    (part name false t others)) L K c y
    (λ marks. true ∷ marks) tt (found_flags p others L c y e)
    (λ marks h s. ((λ g. cc), h)) (λ marks h s. refl) (λ marks h. refl)

-- ---- which additions are there
abbrev pub marks_of : Path → List Bool → List Field
marks_of p [] = []
marks_of p (b ∷ bs) = asked p (small fields.length) (length (b ∷ bs) - 1) ∷ asked p (addition_bits (length (b ∷ bs))) (number_of
    (b ∷ bs)) ∷ []

pub marks_are : (p : Path) (more : Options) → mark_fields p more ≡ marks_of p (presence more)
marks_are p no_options = refl
marks_are p (absent more) = refl
marks_are p (present v more) = refl

abbrev pub AreMarks : Bool → List Bool → Type 0
AreMarks false bs = bs ≡ []
AreMarks true bs = (1 ≤ length bs) × (length bs ≤ 64) × (1 ≤ number_of bs)

pub marks_some : (p : Path) (bs : List Bool) → 1 ≤ length bs
    → asked p (small fields.length) (length bs - 1) ∷ asked p (addition_bits (length bs)) (number_of bs) ∷ [] ≡ marks_of p bs
marks_some p [] h = absurd (omega arith)
marks_some p (b ∷ bs) h = refl

pub record SomeBits (count n : ℕ) : Type 0 where
  pub some : 1 ≤ n
  pub fits : n < 2 ^ count

pub bits_read : (count : ℕ) (c : Cursor) (n : ℕ) → read (addition_bits count) c ≡ Ok n → SomeBits count n
bits_read count c n e =
    let a : Answered (addition_bits count) c n = answer_read (addition_bits count) c n e in
    subst (SomeBits count) a.same (record {
      some = omega (
        arith,
        below 0 a.m (not_wrong
            (nat_lt 0 a.m) reasons.EmptyAdditions a.right),
      );
      fits = a.small;
    })

pub found_marks : (p : Path) (b : Bool) (K : List Bool → Prog) (c : Cursor) (y : Value × Cursor) → Ends (ask_marks p b K) c y
    → Found (AreMarks b) (marks_of p) K c y
found_marks p false K c y e = record { made = []; is = refl; stand = tt; rest = e }
found_marks p true K c y e =
    let a = found_ask p (small fields.length) (λ n. ask p (addition_bits (n + 1)) (λ m. K (bits_of (n + 1) m))) c y e in
    let n = a.made in
    let d : Cursor = answered_at (small fields.length) n c in
    let g = found_ask p (addition_bits (n + 1)) (λ m. K (bits_of (n + 1) m)) d y a.rest in
    let m = g.made in
    let bs = bits_of (n + 1) m in
    let s : SomeBits (n + 1) m = bits_read (n + 1) d m g.is in
    let size : length bs ≡ n + 1 = length-bits_of (n + 1) m in
    let again : number_of bs ≡ m = number_is (n + 1) m s.fits in
    let few : n < 64 = small_read fields.length c n a.is in
    let fs = λ (k j x : ℕ). asked p (small fields.length) k ∷ asked p (addition_bits j) x ∷ [] in
    let low : n ≡ length bs - 1 = omega (arith, size) in
    let so : fs n (n + 1) m ≡ marks_of p bs =
    ap (λ (k : ℕ). fs k (n + 1) m) low ∙ ap (λ (j : ℕ). fs (length bs - 1) j m) (sym size) ∙ ap (λ (x : ℕ). fs (length bs - 1)
    (length bs) x) (sym again)
    ∙ marks_some p bs (omega (arith, size)) in record {
      made = bs;
      is = (omega (arith, size), omega (arith, size, few), omega (arith, again, s.some));
      stand = subst (λ gs. StandAll gs c) so (a.is, (g.is, tt));
      rest = subst (λ gs. Ends (K bs) (after_all gs c) y) so g.rest;
    }

some_there : (more : Options) → 1 ≤ number_of (presence more) → some_present more ≡ true
some_there no_options h = absurd (omega arith)
some_there (absent more) h = some_there more (omega (arith, h))
some_there (present v more) h = refl

pub additions_so : (extensible b : Bool) (more : Options) → (extensible ≡ false → b ≡ false) → AreMarks b (presence more)
    → AreAdditions extensible more × (has_options more ≡ b)
additions_so extensible false no_options h m = (tt, refl)
additions_so extensible false (absent more) h m = absurd (omega (arith, ap length m))
additions_so extensible false (present v more) h m = absurd (omega (arith, ap length m))
additions_so extensible true no_options h m = absurd (omega (arith, m.0))
additions_so extensible true (absent more) h m = ((extensible_is extensible h, m.1, some_there (absent more) m.2), refl)
additions_so extensible true (present v more) h m = ((extensible_is extensible h, m.1, refl), refl)

pub found_raw_additions : (p : Path) (marks : List Bool) (K : Options → Prog) (c : Cursor) (y : Value × Cursor)
    → Ends (ask_raw_additions p marks K) c y
    → Found (λ more. (presence more ≡ marks) × AreRaw more) (raw_additions p) K c y
found_raw_additions p [] K c y e = record { made = no_options; is = (refl, tt); stand = tt; rest = e }
found_raw_additions p (false ∷ marks) K c y e =
    found_after [] (λ more. (presence more ≡ marks) × AreRaw more) _ (raw_additions p) _ (λ more. K (absent more)) K c y
    (λ more. absent more) tt
    (found_raw_additions p marks (λ more. K (absent more)) c y e)
    (λ more h s. (ap (λ (bs : List Bool). false ∷ bs) h.0, h.1)) (λ more h s. refl) (λ more h. refl)
found_raw_additions p (true ∷ marks) K c y e =
    let a = found_raw p p (λ v. ask_raw_additions p marks (λ more. K (present v more))) c y e in
    let v = a.made in
    found_after (raw_fields p p v) (λ more. (presence more ≡ marks) × AreRaw more) _ (raw_additions p) _ (λ more. K
    (present v more)) K c y (λ more. present v more) a.stand
    (found_raw_additions p marks (λ more. K (present v more)) (after_all (raw_fields p p v) c) y a.rest)
    (λ more h s. (ap (λ (bs : List Bool). true ∷ bs) h.0, (a.is, h.1))) (λ more h s. refl) (λ more h. refl)

-- ---- members
pub found_members : (f : ℕ → Value → List Field) (each_one : ℕ → (Value → Prog) → Prog) (P : ℕ → Value → Type 0) (y : Value × Cursor)
    → ((i : ℕ) (K : Value → Prog) (c : Cursor) → Ends (each_one i K) c y → Found (P i) (f i) K c y)
    → (i count : ℕ) (K : Values → Prog) (c : Cursor) → Ends (ask_members each_one i count K) c y
    → Found (λ vs. (value_count vs ≡ count) × EachFrom P i vs) (λ vs. each_from f i vs) K c y
found_members f each_one P y one i zero K c e = record { made = no_values; is = (refl, tt); stand = tt; rest = e }
found_members f each_one P y one i (suc count) K c e =
    let a = one i (λ v. ask_members each_one (suc i) count (λ vs. K (value v vs))) c e in
    let v = a.made in
    found_after (f i v) (λ vs. (value_count vs ≡ count) × EachFrom P (suc i) vs) _ (λ vs. each_from f (suc i) vs) _ (λ vs. K
    (value v vs)) K c y (λ vs. value v vs) a.stand
    (found_members f each_one P y one (suc i) count (λ vs. K (value v vs)) (after_all (f i v) c) a.rest)
    (λ vs h s. (ap suc h.0, (a.is, h.1))) (λ vs h s. refl) (λ vs h. refl)

-- ---- information elements
pub record IsNext (known left : List Slot) (after id : ℕ) : Type 0 where
  pub order : IsInOrder known left id
  pub enough : mandatory_count (slots_left known id left) ≤ after
  pub fits : id < 65536

id_judged : (known left : List Slot) (id : ℕ) (b d e fits : Bool)
    → cond (b && cond d false true) (Some reasons.Order) (unless (cond b e true && fits) reasons.Required) ≡ None
    → Either b ((d ≡ true) × (e ≡ true)) (Unit {0}) × (fits ≡ true)
id_judged known left id true true true true h = ((refl, refl), refl)
id_judged known left id true true true false h = cc
id_judged known left id true true false fits h = cc
id_judged known left id true false e fits h = cc
id_judged known left id false d e true h = (tt, refl)
id_judged known left id false d e false h = cc

in_order : (b : Bool) (d : Bool) (n : ℕ) → Either b ((d ≡ true) × ((n == 0) ≡ true)) (Unit {0}) → Either b ((d ≡ true) × (n ≡ 0)) (Unit {0})
in_order true d n h = (h.0, same n 0 h.1)
in_order false d n h = tt

pub id_read : (known left : List Slot) (after : ℕ) (c : Cursor) (id : ℕ) → read (ie_id known left after) c ≡ Ok id → IsNext known left after id
id_read known left after c id e =
    let a : Answered (ie_id known left after) c id = answer_read (ie_id known left after) c id e in
    let m = a.m in
    let least = mandatory_count (slots_before m left) in
    let rest = mandatory_count (slots_left known m left) in
    let r = id_judged known left m (has_slot m known) (has_slot m left) (least == 0) (nat_le rest after) a.right in
    subst (IsNext known left after) a.same (record {
      order = in_order (has_slot m known)
          (has_slot m left) least r.0;
      enough = at_most rest after r.1;
      fits = a.small;
    })

pub count_read : (least : ℕ) (c : Cursor) (n : ℕ) → read (fields.ie_count least) c ≡ Ok n → (least ≤ n) × (n < 65536)
count_read least c n e =
    let a : Answered (fields.ie_count least) c n = answer_read (fields.ie_count least) c n e in
    (omega (arith, at_most least a.m (not_wrong (nat_le least a.m) reasons.Required a.right), a.same), omega (arith, a.small, a.same))

pub found_ies : (p : Path) (known : List Slot) (f : ℕ → Value → List Field) (body : ℕ → (Value → Prog) → Prog) (P : ℕ → Value
    → Type 0) (y : Value × Cursor)
    → ((id : ℕ) (K : Value → Prog) (c : Cursor) → Ends (body id K) c y → Found (P id) (f id) K c y)
    → (count : ℕ) (left : List Slot) (K : Ies → Prog) (c : Cursor) → mandatory_count left ≤ count
    → Ends (ask_ies p known body count left K) c y
    → Found (λ ies. (ie_count ies ≡ count) × AreElements known P left ies) (λ ies. ie_fields p known f left ies) K c y
found_ies p known f body P y one zero left K c enough e = record { made = no_ies; is = (refl, omega (arith, enough)); stand = tt; rest = e }
found_ies p known f body P y one (suc count) left K c enough e =
    let question : Ask = ie_id known left count in
    let crit : Ask = constrained fields.index 2 2 in
    let on = λ (x z : ℕ) (w : Value). ask_ies p known body count (slots_left known x left) (λ os. K (ie x z w os)) in
    let a = found_aligned p question (λ x. ask p crit (λ z. body x (on x z))) c y e in
    let id = a.made in
    let d : Cursor = answered_at question id (answered_at pad 0 c) in
    let next : IsNext known left count id = id_read known left count (answered_at pad 0 c) id a.stand.1.0 in
    let g = found_ask p crit (λ z. body id (on id z)) d y a.rest in
    let criticality = g.made in
    let b = one id (on id criticality) (answered_at crit criticality d) g.rest in
    let v = b.made in
    let after = slots_left known id left in
    let L = λ (os : Ies). K (ie id criticality v os) in
    found_after (asked p pad 0 ∷ asked p question id ∷ asked p crit criticality ∷ f id v) (λ os.
    (ie_count os ≡ count) × AreElements known P after os) _
    (λ os. ie_fields p known f after os) _ L K c y (λ os. ie id criticality v os) (a.stand.0, (a.stand.1.0, (g.is, b.stand)))
    (found_ies p known f body P y one count after L (after_all (f id v) (answered_at crit criticality d)) next.enough b.rest)
    (λ os h s. (ap suc h.0, (next.fits, constrained_read fields.index 2 2 d criticality g.is, b.is, next.order, h.1)))
    (λ os h s. ap (λ (n : ℕ). asked p pad 0 ∷ asked p (ie_id known left n) id ∷ asked p crit criticality ∷ (f id v
    ++ ie_fields p known f after os)) (sym h.0))
    (λ os h. refl)

-- ---- messages
pub record Parts4 : Type 0 where
  pub index : ℕ
  pub code : ℕ
  pub criticality : ℕ
  pub body : Value

abbrev pub IsMessage : (ℕ → ℕ → Value → Type 0) → Parts4 → Type 0
IsMessage P x = Either (nat_lt x.index 3) ((x.code < 256) × (x.criticality ≤ 2) × P x.index x.code x.body)
    ((x.index < 67) × (x.code ≡ 0) × (x.criticality ≡ 0) × IsRaw x.body)

abbrev pub message_fields : Path → (ℕ → ℕ → Value → List Field) → Parts4 → List Field
message_fields p f x = cond (nat_lt x.index 3) (message_head p x.index x.code x.criticality ++ f x.index x.code x.body)
    (asked p flag 1 ∷ asked p (small fields.index) (x.index - 3) ∷ raw_fields p p x.body)

found_past : (p : Path) (f : ℕ → ℕ → Value → List Field) (P : ℕ → ℕ → Value → Type 0) (K : Parts4 → Prog) (c : Cursor) (y : Value × Cursor)
    → read flag c ≡ Ok 1
    → Ends (ask p (small fields.index) (λ n. ask_raw p p (λ v. K (record { index = 3 + n; code = 0; criticality = 0; body = v }))))
    (answered_at flag 1 c) y
    → Found (IsMessage P) (message_fields p f) K c y
found_past p f P K c y bit e =
    let on = λ (n : ℕ) (v : Value). K (record { index = 3 + n; code = 0; criticality = 0; body = v }) in
    let d : Cursor = answered_at flag 1 c in
    let a = found_ask p (small fields.index) (λ n. ask_raw p p (on n)) d y e in
    let n = a.made in
    let few : n < 64 = small_read fields.index d n a.is in
    let past : nat_lt (3 + n) 3 ≡ false = is_not_below (3 + n) 3 (omega arith) in
    let again : n ≡ 3 + n - 3 = omega arith in
    found_after (asked p flag 1 ∷ asked p (small fields.index) n ∷ []) IsRaw (IsMessage P) (λ v. raw_fields p p v) (message_fields p f)
    (on n) K c y
    (λ v. record { index = 3 + n; code = 0; criticality = 0; body = v }) (bit, (a.is, tt))
    (found_raw p p (on n) (answered_at (small fields.index) n d) y a.rest)
    (λ v h s. either_no (nat_lt (3 + n) 3) _ _ past (omega (arith, few), refl, refl, h))
    (λ v h s. ap (λ (k : ℕ). asked p flag 1 ∷ asked p (small fields.index) k ∷ raw_fields p p v) again
    ∙ sym (ap (λ b. cond b (message_head p (3 + n) 0 0 ++ f (3 + n) 0 v) (asked p flag 1 ∷ asked p (small fields.index)
    (3 + n - 3) ∷ raw_fields p p v)) past))
    (λ v h. refl)

found_root : (p : Path) (f : ℕ → ℕ → Value → List Field) (P : ℕ → ℕ → Value → Type 0) (ask_body : ℕ → ℕ → (Value → Prog)
    → Prog) (K : Parts4 → Prog) (c : Cursor) (y : Value × Cursor)
    → ((i j : ℕ) (L : Value → Prog) (d : Cursor) → Ends (ask_body i j L) d y → Found (P i j) (f i j) L d y)
    → read flag c ≡ Ok 0
    → Ends (ask p (constrained fields.index 2 2) (λ i. ask_aligned p (constrained fields.index 8 255) (λ j. ask p
    (constrained fields.index 2 2)
    (λ k. ask_body i j (λ v. K (record { index = i; code = j; criticality = k; body = v })))))) (answered_at flag 0 c) y
    → Found (IsMessage P) (message_fields p f) K c y
found_root p f P ask_body K c y one bit e =
    let two : Ask = constrained fields.index 2 2 in
    let eight : Ask = constrained fields.index 8 255 in
    let on = λ (i j k : ℕ) (v : Value). K (record { index = i; code = j; criticality = k; body = v }) in
    let d : Cursor = answered_at flag 0 c in
    let a = found_ask p two (λ i. ask_aligned p eight (λ j. ask p two (λ k. ask_body i j (on i j k)))) d y e in
    let i = a.made in
    let low : i ≤ 2 = constrained_read fields.index 2 2 d i a.is in
    let d2 : Cursor = answered_at two i d in
    let g = found_aligned p eight (λ j. ask p two (λ k. ask_body i j (on i j k))) d2 y a.rest in
    let j = g.made in
    let code : j ≤ 255 = constrained_read fields.index 8 255 (answered_at pad 0 d2) j g.stand.1.0 in
    let d3 : Cursor = answered_at eight j (answered_at pad 0 d2) in
    let h = found_ask p two (λ k. ask_body i j (on i j k)) d3 y g.rest in
    let k = h.made in
    let crit : k ≤ 2 = constrained_read fields.index 2 2 d3 k h.is in
    let root : nat_lt i 3 ≡ true = is_below i 3 (omega (arith, low)) in
    found_after (message_head p i j k) (P i j) (IsMessage P) (f i j) (message_fields p f) (on i j k) K c y
    (λ v. record { index = i; code = j; criticality = k; body = v }) (bit, (a.is, (g.stand.0, (g.stand.1.0, (h.is, tt)))))
    (one i j (on i j k) (answered_at two k d3) h.rest)
    (λ v q s. either_yes (nat_lt i 3) _ _ root (omega (arith, code), crit, q))
    (λ v q s. sym (ap (λ b. cond b (message_head p i j k ++ f i j v) (asked p flag 1 ∷ asked p (small fields.index)
    (i - 3) ∷ raw_fields p p v)) root))
    (λ v q. refl)

pub found_message : (p : Path) (f : ℕ → ℕ → Value → List Field) (P : ℕ → ℕ → Value → Type 0) (ask_body : ℕ → ℕ → (Value → Prog)
    → Prog) (K : Value → Prog) (c : Cursor) (y : Value × Cursor)
    → ((i j : ℕ) (L : Value → Prog) (d : Cursor) → Ends (ask_body i j L) d y → Found (P i j) (f i j) L d y)
    → Ends (ask_message p ask_body K) c y
    → Found (IsMessage P) (message_fields p f) (λ x. K (message x.index x.code x.criticality x.body)) c y
found_message p f P ask_body K c y one e =
    let L = λ (x : Parts4). K (message x.index x.code x.criticality x.body) in
    let past = ask p (small fields.index) (λ n. ask_raw p p (λ v. K (message (3 + n) 0 0 v))) in
    let root = ask p (constrained fields.index 2 2) (λ i. ask_aligned p (constrained fields.index 8 255) (λ j. ask p
    (constrained fields.index 2 2)
    (λ k. ask_body i j (λ v. K (message i j k v))))) in
    let a = found_ask p flag (λ b. cond (b == 1) past root) c y e in
    go L past root a.made a.is (flag_read c a.made a.is) a.rest (found_past p f P L c y) (found_root p f P ask_body L c y one)
  where
    go : (L : Parts4 → Prog) (past root : Prog) (n : ℕ) → read flag c ≡ Ok n → n < 2
        → Ends (cond (n == 1) past root) (answered_at flag n c) y
        → (read flag c ≡ Ok 1 → Ends past (answered_at flag 1 c) y → Found (IsMessage P) (message_fields p f) L c y)
        → (read flag c ≡ Ok 0 → Ends root (answered_at flag 0 c) y → Found (IsMessage P) (message_fields p f) L c y)
        → Found (IsMessage P) (message_fields p f) L c y
    go L past root zero r h e2 one_way other = other r e2
    go L past root (suc zero) r h e2 one_way other = one_way r e2
    go L past root (suc (suc n)) r h e2 one_way other = absurd (omega arith)

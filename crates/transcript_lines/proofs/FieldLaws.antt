-- What a field reads lies in its range, and the text of a value in its range is read as the value.
use Rattle.std.proofs.Common.{◌≡◌, ℕ, zero, suc, ◌+◌, ◌≤◌, ◌<◌, ◌^◌, Bool, true, false, not, cond, Option, Some, None, List, Result, Ok, Err, [], ◌∷◌, ◌++◌, length, take, drop, refl, ap, ◌∙◌, subst, inl, inr, arith, nat_eq, codes, append_assoc}
use Rattle.std.specs.Fmt.{decimal}
use Rattle.std.specs.Option.{ok_or, option_map}
use Rattle.std.specs.List.{list_all, position_or_len}
use Rattle.std.proofs.lemmas.Bool.{le-leb}
use Rattle.std.proofs.lemmas.Bool.Decides.{nat_tests}
use Rattle.std.proofs.lemmas.Fmt.{decimal_digit}
use Rattle.std.proofs.Math.Seq.{take-append_seam, drop-append-add}
use Rattle.gnb_types.specs.Names.{ue_text, bearer_text, dir_text}
use Rattle.gnb_types.specs.Reasons.{drop_text, held_text, cause_text, refuse_text}
use Rattle.gnb_types.specs.declared.names.Gnb.TheVariants.{A, B}
use Rattle.gnb_types.specs.declared.names.Dir.{Dir}
use Rattle.gnb_types.specs.declared.names.Dir.TheVariants.{Dl, Ul}
use Rattle.gnb_types.specs.declared.names.UeId.{UeId}
use Rattle.gnb_types.specs.declared.names.BearerId.{BearerId}
use Rattle.gnb_types.specs.declared.names.NodeId.{NodeId}
use Rattle.gnb_types.specs.declared.names.NodeId.TheVariants.{CuCp, CuUp, Du, Core, Ue}
use Rattle.gnb_types.specs.declared.reasons.DropReason.{DropReason}
use Rattle.gnb_types.specs.declared.reasons.DropReason.TheVariants as drops
use Rattle.gnb_types.specs.declared.reasons.HeldReason.{HeldReason}
use Rattle.gnb_types.specs.declared.reasons.HeldReason.TheVariants as helds
use Rattle.gnb_types.specs.declared.reasons.CauseName.{CauseName}
use Rattle.gnb_types.specs.declared.reasons.CauseName.TheVariants as causes
use Rattle.gnb_types.specs.declared.reasons.RefuseReason.{RefuseReason}
use Rattle.gnb_types.specs.declared.reasons.RefuseReason.TheVariants as refuses
use Rattle.scenario_text.specs.declared.script_words.reason.TextReason.{TextReason}
use Rattle.scenario_text.specs.declared.script_words.reason.TextReason.TheVariants.{Word, Number, Name}
use Rattle.scenario_text.specs.script_words.Forms.{◌is◌, ◌begins◌, Form, greatest_number, number_of, number, ue, bearer, dir, tunnel}
use Rattle.scenario_text.specs.script_words.Ranges.{IsWithin, IsUe, IsBearer}
use Rattle.scenario_text.specs.script_words.Places.{AtUe, AtBearer, AtDir, AtTunnel, result_then, place}
use Rattle.scenario_text.proofs.script_words.FormLaws.{chosen, ok_or_ok, option_map_some, is_text, number_sound, positive_again, and_true}
use Rattle.scenario_text.proofs.script_words.PlaceLaws.{IsEventPlace, word_sound, word_again, word_lacks_blank, word_text-IsWordOf, Lacks, Lacks-decimal, Lacks-append, AllLack}
use Rattle.scenario_text.specs.declared.line.Link.{Link}
use Rattle.scenario_text.specs.declared.line.Link.TheVariants.{Tunnel, Radio}
use Rattle.scenario_text.specs.Print.{link_text, count_text}
use Rattle.transcript_defs.specs.Lines.{IsLink, IsCount}
use Rattle.transcript_lines.specs.inside.Fields.{owner_of, count_of, front_of, after_of, radio, link, drop_of, held_of, cause_of, refusal_of, Field, OfEvent, OfNumber, OfOwner, OfCount, OfLink, OfDrop, OfHeld, OfCause, OfRefusal, ValueOf, read_field, field_text, InField, ValuesOf, InFields, field_words, read_into}

-- ---- one after the other

pub then_ok : {X Y : Type 0} (r : Result X TextReason) (x : X) → r ≡ Ok x → (more : X → Result Y TextReason) → result_then r more ≡ more x
then_ok r x e more = ap (λ q. result_then q more) e

pub record Went {X Y : Type 0} (r : Result X TextReason) (more : X → Result Y TextReason) (y : Y) : Type 0 where
  pub value : X
  pub value_is : r ≡ Ok value
  pub goes : more value ≡ Ok y

pub went : {X Y : Type 0} (r : Result X TextReason) (more : X → Result Y TextReason) (y : Y) → result_then r more ≡ Ok y → Went r more y
went (Ok x) more y h = record { value = x; value_is = refl; goes = h }
went (Err reason) more y h = absurd (cc)

-- ---- numbers

zero_back : (high : ℕ) → number_of 0 high (decimal 0) ≡ Some 0
zero_back high = ap (number_of 0 high) (decimal_digit 0 (omega arith)) ∙ (rw (le-leb 0 high (omega arith)) refl)

pub number_back : (low high n : ℕ) → high < 2 ^ 64 → IsWithin low high n → number_of low high (decimal n) ≡ Some n
number_back zero high zero fits within = zero_back high
number_back (suc low) high zero fits within = absurd (omega (arith, within.from))
number_back low high (suc n) fits within = positive_again low high (suc n) (omega arith) fits within

number_range : (low high : ℕ) (word : List ℕ) (n : ℕ) → high < 2 ^ 64 → number low high word ≡ Ok n → IsWithin low high n
number_range low high word n fits h = (number_sound low high n word fits (ok_or_ok (number_of low high word) Number n h)).1

owner_range : (word : List ℕ) (n : ℕ) → owner_of word ≡ Some n → n ≤ 16
owner_range word n h = elim (chosen (word begins codes "u") (number_of 0 16 (drop 1 word)) None (Some n) h) [
  | inl w ↦ (number_sound 0 16 n (drop 1 word) (omega arith) w.1).1.to
  | inr w ↦ absurd (let no : None ≡ Some n = w.1 in cc)
]

owner_back : (n : ℕ) → n ≤ 16 → owner_of (codes "u" ++ decimal n) ≡ Some n
owner_back n h = number_back 0 16 n (omega arith) (record { from = omega arith; to = h })

-- ---- counts

count_range : (word : List ℕ) (count : Option ℕ) → count_of word ≡ Some count → IsCount count
count_range word None h = tt
count_range word (Some n) h =
    elim (chosen (word is codes "-") (Some None) (option_map (λ m. Some m) (number_of 0 greatest_number word)) (Some (Some n)) h) [
      | inl w ↦ absurd (let no : Some None ≡ Some (Some n) = w.1 in cc)
      | inr w ↦
          let found = option_map_some (λ (m : ℕ). Some m) (number_of 0 greatest_number word) (Some n) w.1 in
          let within = (number_sound 0 greatest_number found.0 word (omega arith) found.1).1 in
          let same : found.0 ≡ n = let k = found.2 in cc in
          omega (arith, within.to, same)
    ]

no_dash : (word : List ℕ) → Lacks 45 word → (word is codes "-") ≡ false
no_dash word lacks = by_test (word is codes "-") refl
  where
    by_test : (b : Bool) → (word is codes "-") ≡ b → (word is codes "-") ≡ false
    by_test false e = e
    by_test true e = let no : false ≡ true = subst (Lacks 45) (is_text word (codes "-") e) lacks in absurd (cc)

count_back : (count : Option ℕ) → IsCount count → count_of (count_text count) ≡ Some count
count_back None h = refl
count_back (Some n) h =
    let choice : Bool → Option (Option ℕ) = λ b. cond b (Some None) (option_map (λ m. Some m) (number_of 0 greatest_number (decimal n))) in
    ap choice (no_dash (decimal n) (Lacks-decimal 45 n (omega arith) (omega (arith, h))))
    ∙ ap (option_map (λ m. Some m)) (number_back 0 greatest_number n (omega arith) (record { from = omega arith; to = omega (arith, h) }))

count_lacks : (count : Option ℕ) → IsCount count → Lacks 32 (count_text count)
count_lacks None h = refl
count_lacks (Some n) h = Lacks-decimal 32 n (omega arith) (omega (arith, h))

-- ---- links

slash_after : (word rest : List ℕ) → Lacks 47 word → position_or_len (λ x. nat_eq x 47) (word ++ 47 ∷ rest) ≡ length word
slash_after [] rest h = refl
slash_after (x ∷ xs) rest h =
    let both = and_true (not (nat_eq x 47)) (list_all (λ y. not (nat_eq y 47)) xs) h in
    let more = slash_after xs rest both.1 in
    rw both.0 (omega (arith, more))

front_at : (word rest : List ℕ) → Lacks 47 word → front_of (word ++ 47 ∷ rest) ≡ word
front_at word rest h = ap (λ n. take n (word ++ 47 ∷ rest)) (slash_after word rest h) ∙ take-append_seam word (47 ∷ rest)

after_at : (word rest : List ℕ) → Lacks 47 word → after_of (word ++ 47 ∷ rest) ≡ rest
after_at word rest h = ap (λ n. drop (n + 1) (word ++ 47 ∷ rest)) (slash_after word rest h) ∙ drop-append-add word (47 ∷ rest) 1

-- the radio of its four parts
parts : List ℕ → List ℕ → List ℕ → List ℕ → Result Link TextReason
parts u b d e =
    result_then (ue u) (λ x. result_then (bearer b) (λ y. result_then (dir d) (λ z. result_then (number 0 greatest_number e) (λ k. Ok (Radio x y z k)))))

same_parts : (a b c d : List ℕ) (p q r s : List ℕ) → a ≡ p → b ≡ q → c ≡ r → d ≡ s → parts a b c d ≡ parts p q r s
same_parts a b c d p q r s e f g h = cc

radio_parts : (text : List ℕ) → radio text ≡ parts (front_of text) (front_of (after_of text)) (front_of (after_of (after_of text))) (after_of (after_of (after_of text)))
unfolding parts
radio_parts text = refl

cut_parts : (u b d e : List ℕ) → Lacks 47 u → Lacks 47 b → Lacks 47 d → radio (u ++ 47 ∷ (b ++ 47 ∷ (d ++ 47 ∷ e))) ≡ parts u b d e
cut_parts u b d e hu hb hd =
    let text : List ℕ = u ++ 47 ∷ (b ++ 47 ∷ (d ++ 47 ∷ e)) in
    let one : after_of text ≡ b ++ 47 ∷ (d ++ 47 ∷ e) = after_at u (b ++ 47 ∷ (d ++ 47 ∷ e)) hu in
    let two : after_of (after_of text) ≡ d ++ 47 ∷ e = ap after_of one ∙ after_at b (d ++ 47 ∷ e) hb in
    let three : after_of (after_of (after_of text)) ≡ e = ap after_of two ∙ after_at d e hd in
    radio_parts text
    ∙ same_parts (front_of text) (front_of (after_of text)) (front_of (after_of (after_of text))) (after_of (after_of (after_of text))) u b d e
    (front_at u (b ++ 47 ∷ (d ++ 47 ∷ e)) hu) (ap front_of one ∙ front_at b (d ++ 47 ∷ e) hb) (ap front_of two ∙ front_at d e hd) three

parts_back : (u : UeId) (b : BearerId) (d : Dir) (epoch : ℕ) → IsUe u → IsBearer b → epoch < 2 ^ 32
    → parts (ue_text u) (bearer_text b) (dir_text d) (decimal epoch) ≡ Ok (Radio u b d epoch)
unfolding parts
parts_back u b d epoch hu hb he =
    then_ok (ue (ue_text u)) u (word_again AtUe tt (ue_text u) u refl hu) (λ x. result_then (bearer (bearer_text b)) (λ y. result_then (dir (dir_text d)) (λ z. result_then (number 0 greatest_number (decimal epoch)) (λ k. Ok (Radio x y z k)))))
    ∙ then_ok (bearer (bearer_text b)) b (word_again AtBearer tt (bearer_text b) b refl hb) (λ y. result_then (dir (dir_text d)) (λ z. result_then (number 0 greatest_number (decimal epoch)) (λ k. Ok (Radio u y z k))))
    ∙ then_ok (dir (dir_text d)) d (word_again AtDir tt (dir_text d) d refl tt) (λ z. result_then (number 0 greatest_number (decimal epoch)) (λ k. Ok (Radio u b z k)))
    ∙ then_ok (number 0 greatest_number (decimal epoch)) epoch (ap (λ o. ok_or o Number) (number_back 0 greatest_number epoch (omega arith) (record { from = omega arith; to = omega (arith, he) }))) (λ k. Ok (Radio u b d k))

dir_lacks : (c : ℕ) → c < 48 → (d : Dir) → Lacks c (dir_text d)
dir_lacks c h Dl = rw (other 100 c (omega arith), other 108 c (omega arith)) refl
  where
    other : (x y : ℕ) → y < x → nat_eq x y ≡ false
    other x y k = grind (arith, nat_tests)
dir_lacks c h Ul = rw (other 117 c (omega arith), other 108 c (omega arith)) refl
  where
    other : (x y : ℕ) → y < x → nat_eq x y ≡ false
    other x y k = grind (arith, nat_tests)

-- no tunnel's name begins as a radio's
no_radio : (end : NodeId) (teid : ℕ) → (link_text (Tunnel end teid) begins codes "r/") ≡ false
no_radio (CuCp A) teid = refl
no_radio (CuCp B) teid = refl
no_radio (CuUp A n) teid = refl
no_radio (CuUp B n) teid = refl
no_radio (Du A n) teid = refl
no_radio (Du B n) teid = refl
no_radio Core teid = refl
no_radio (Ue n) teid = refl

flat : (x y z e : List ℕ) → codes "r/" ++ x ++ codes "/" ++ y ++ codes "/" ++ z ++ codes "/" ++ e ≡ codes "r" ++ 47 ∷ (x ++ 47 ∷ (y ++ 47 ∷ (z ++ 47 ∷ e)))
flat x y z e = simp append_assoc

link_back : (l : Link) → IsLink l → link (link_text l) ≡ Ok l
link_back (Tunnel end teid) h =
    let word : List ℕ = link_text (Tunnel end teid) in
    ap (λ b. cond b (radio (drop 2 word)) (result_then (tunnel word) (λ t. Ok (Tunnel t.0 t.1)))) (no_radio end teid)
    ∙ then_ok (tunnel word) (end, teid) (word_again AtTunnel tt word (end, teid) refl h) (λ t. Ok (Tunnel t.0 t.1))
link_back (Radio u b d epoch) h =
    ap (λ w. radio (drop 2 w)) (flat (ue_text u) (bearer_text b) (dir_text d) (decimal epoch))
    ∙ cut_parts (ue_text u) (bearer_text b) (dir_text d) (decimal epoch) (Lacks-decimal 47 u.0 (omega arith) (omega (arith, h.0.to))) (Lacks-decimal 47 b.0 (omega arith) (omega (arith, h.1.to))) (dir_lacks 47 (omega arith) d)
    ∙ parts_back u b d epoch h.0 h.1 h.2

link_lacks : (l : Link) → IsLink l → Lacks 32 (link_text l)
link_lacks (Tunnel end teid) h = word_lacks_blank AtTunnel tt (link_text (Tunnel end teid)) (end, teid) refl h
link_lacks (Radio u b d epoch) h =
    Lacks-append 32 (codes "r/" ++ ue_text u ++ codes "/" ++ bearer_text b ++ codes "/" ++ dir_text d ++ codes "/") (decimal epoch)
    (Lacks-append 32 (codes "r/" ++ ue_text u ++ codes "/" ++ bearer_text b ++ codes "/" ++ dir_text d) (codes "/")
    (Lacks-append 32 (codes "r/" ++ ue_text u ++ codes "/" ++ bearer_text b ++ codes "/") (dir_text d)
    (Lacks-append 32 (codes "r/" ++ ue_text u ++ codes "/" ++ bearer_text b) (codes "/")
    (Lacks-append 32 (codes "r/" ++ ue_text u ++ codes "/") (bearer_text b)
    (Lacks-append 32 (codes "r/" ++ ue_text u) (codes "/") (Lacks-decimal 32 u.0 (omega arith) (omega (arith, h.0.to))) refl)
    (Lacks-decimal 32 b.0 (omega arith) (omega (arith, h.1.to)))) refl) (dir_lacks 32 (omega arith) d)) refl) (Lacks-decimal 32 epoch (omega arith) (omega (arith, h.2)))

radio_range : (text : List ℕ) (l : Link) → radio text ≡ Ok l → IsLink l
radio_range text l h =
    let u = went (ue (front_of text)) _ l h in
    let b = went (bearer (front_of (after_of text))) _ l u.goes in
    let d = went (dir (front_of (after_of (after_of text)))) _ l b.goes in
    let e = went (number 0 greatest_number (after_of (after_of (after_of text)))) _ l d.goes in
    let within = number_range 0 greatest_number (after_of (after_of (after_of text))) e.value (omega arith) e.value_is in
    let same : Radio u.value b.value d.value e.value ≡ l = let k = e.goes in cc in
    subst IsLink same ((word_sound AtUe tt (front_of text) u.value u.value_is).1, (word_sound AtBearer tt (front_of (after_of text)) b.value b.value_is).1, omega (arith, within.to))

link_range : (word : List ℕ) (l : Link) → link word ≡ Ok l → IsLink l
link_range word l h = elim (chosen (word begins codes "r/") (radio (drop 2 word)) (result_then (tunnel word) (λ t. Ok (Tunnel t.0 t.1))) (Ok l) h) [
  | inl w ↦ radio_range (drop 2 word) l w.1
  | inr w ↦
      let t = went (tunnel word) (λ t. Ok (Tunnel t.0 t.1)) l w.1 in
      let same : Tunnel t.value.0 t.value.1 ≡ l = let k = t.goes in cc in
      subst IsLink same (word_sound AtTunnel tt word t.value t.value_is).1
]

-- ---- reasons

-- a word without blanks, which is read as the value
abbrev IsReadBack : {X : Type 0} → (List ℕ → Option X) → List ℕ → X → Type 0
IsReadBack read word x = (read word ≡ Some x) × Lacks 32 word

drop_back : (r : DropReason) → IsReadBack drop_of (drop_text r) r
unfolding drop_of
drop_back drops.Undecodable = (refl, refl)
drop_back drops.Criticality = (refl, refl)
drop_back drops.NoContext = (refl, refl)
drop_back drops.NoTunnel = (refl, refl)
drop_back drops.Stale = (refl, refl)
drop_back drops.Busy = (refl, refl)
drop_back drops.Duplicate = (refl, refl)
drop_back drops.Gap = (refl, refl)
drop_back drops.Unexpected = (refl, refl)

held_back : (r : HeldReason) → IsReadBack held_of (held_text r) r
unfolding held_of
held_back helds.Quota = (refl, refl)
held_back helds.Ahead = (refl, refl)
held_back helds.NoStatus = (refl, refl)
held_back helds.NotArrived = (refl, refl)
held_back helds.Early = (refl, refl)

cause_back : (r : CauseName) → IsReadBack cause_of (cause_text r) r
unfolding cause_of
cause_back causes.Quota = (refl, refl)
cause_back causes.Busy = (refl, refl)
cause_back causes.Unit = (refl, refl)
cause_back causes.Timeout = (refl, refl)

refusal_back : (r : RefuseReason) → IsReadBack refusal_of (refuse_text r) r
unfolding refusal_of
refusal_back refuses.Attached = (refl, refl)
refusal_back refuses.NotStarted = (refl, refl)
refusal_back refuses.NoBearer = (refl, refl)
refusal_back refuses.NoPath = (refl, refl)
refusal_back refuses.Size = (refl, refl)
refusal_back refuses.Quota = (refl, refl)
refusal_back refuses.NoSuch = (refl, refl)
refusal_back refuses.Empty = (refl, refl)
refusal_back refuses.NoRadio = (refl, refl)
refusal_back refuses.NotAllowed = (refl, refl)
refusal_back refuses.NoUe = (refl, refl)
refusal_back refuses.NotAccessing = (refl, refl)
refusal_back refuses.NoHome = (refl, refl)
refusal_back refuses.Busy = (refl, refl)
refusal_back refuses.Same = (refl, refl)
refusal_back refuses.TooLate = (refl, refl)
refusal_back refuses.NoLink = (refl, refl)
refusal_back refuses.Decodable = (refl, refl)

-- ---- one field

-- a place is one of events, and numbers have 64 bits
abbrev pub IsField : Field → Type 0
IsField (OfEvent p) = IsEventPlace p
IsField (OfNumber low high) = high < 2 ^ 64
IsField f = Unit {0}

field_range : (f : Field) → IsField f → (word : List ℕ) (x : ValueOf f) → read_field f word ≡ Ok x → InField f x
field_range (OfEvent p) k word x h = (word_sound p k word x h).1
field_range (OfNumber low high) k word n h = number_range low high word n k h
field_range OfOwner k word n h = owner_range word n (ok_or_ok (owner_of word) Name n h)
field_range OfCount k word count h = count_range word count (ok_or_ok (count_of word) Number count h)
field_range OfLink k word l h = link_range word l h
field_range OfDrop k word r h = tt
field_range OfHeld k word r h = tt
field_range OfCause k word r h = tt
field_range OfRefusal k word r h = tt

field_back : (f : Field) → IsField f → (x : ValueOf f) → InField f x → read_field f (field_text f x) ≡ Ok x
field_back (OfEvent p) k x range = word_again p k _ x (word_text-IsWordOf p x range) range
field_back (OfNumber low high) k n range = ap (λ o. ok_or o Number) (number_back low high n k range)
field_back OfOwner k n range = ap (λ o. ok_or o Name) (owner_back n range)
field_back OfCount k count range = ap (λ o. ok_or o Number) (count_back count range)
field_back OfLink k l range = link_back l range
field_back OfDrop k r range = ap (λ o. ok_or o Word) (drop_back r).0
field_back OfHeld k r range = ap (λ o. ok_or o Word) (held_back r).0
field_back OfCause k r range = ap (λ o. ok_or o Word) (cause_back r).0
field_back OfRefusal k r range = ap (λ o. ok_or o Word) (refusal_back r).0

field_lacks : (f : Field) → IsField f → (x : ValueOf f) → InField f x → Lacks 32 (field_text f x)
field_lacks (OfEvent p) k x range = word_lacks_blank p k _ x (word_text-IsWordOf p x range) range
field_lacks (OfNumber low high) k n range = Lacks-decimal 32 n (omega arith) (omega (arith, range.to, k))
field_lacks OfOwner k n range = Lacks-decimal 32 n (omega arith) (omega (arith, range))
field_lacks OfCount k count range = count_lacks count range
field_lacks OfLink k l range = link_lacks l range
field_lacks OfDrop k r range = (drop_back r).1
field_lacks OfHeld k r range = (held_back r).1
field_lacks OfCause k r range = (cause_back r).1
field_lacks OfRefusal k r range = (refusal_back r).1

-- ---- fields in a row

abbrev pub AreFields : List Field → Type 0
AreFields [] = Unit {0}
AreFields (f ∷ fields) = IsField f × AreFields fields

-- the values that were read lie in their ranges
pub record Found {Y : Type 0} (fields : List Field) (make : ValuesOf fields → Result Y TextReason) (y : Y) : Type 0 where
  pub values : ValuesOf fields
  pub range : InFields fields values
  pub makes : make values ≡ Ok y

field_step : {X Y : Type 0} (form : Form X) (more : X × List (List ℕ) → Result Y TextReason) (left : List (List ℕ)) (y : Y)
    → result_then (place form left) more ≡ Ok y → (word : List ℕ) × (x : X) × (rest : List (List ℕ)) × (form word ≡ Ok x) × (more (x, rest) ≡ Ok y)
field_step form more [] y h = absurd (cc)
field_step {X} {Y} form more (word ∷ rest) y h = by_form (form word) refl h
  where
    by_form : (r : Result X TextReason) → form word ≡ r
        → result_then {X = X × List (List ℕ)} {Y = Y} (result_then r (λ x. Ok (x, rest))) more ≡ Ok y
        → (w : List ℕ) × (x : X) × (left : List (List ℕ)) × (form w ≡ Ok x) × (more (x, left) ≡ Ok y)
    by_form (Ok x) e k = (word, x, rest, e, k)
    by_form (Err reason) e k = absurd (cc)

pub fields_sound : {Y : Type 0} (fields : List Field) → AreFields fields → (make : ValuesOf fields → Result Y TextReason) (left : List (List ℕ)) (y : Y)
    → read_into fields make left ≡ Ok y → Found fields make y
fields_sound [] k make [] y h = record { values = tt; range = tt; makes = h }
fields_sound [] k make (word ∷ rest) y h = absurd (cc)
fields_sound (f ∷ fields) k make left y h =
    let s = field_step (read_field f) (λ read. read_into fields (λ values. make (read.0, values)) read.1) left y h in
    let more = fields_sound fields k.1 (λ values. make (s.1, values)) s.2 y s.4 in
    record { values = (s.1, more.values); range = (field_range f k.0 s.0 s.1 s.3, more.range); makes = more.makes }

pub fields_back : {Y : Type 0} (fields : List Field) → AreFields fields → (make : ValuesOf fields → Result Y TextReason) (values : ValuesOf fields)
    → InFields fields values → read_into fields make (field_words fields values) ≡ make values
fields_back [] k make values range = refl
fields_back {Y} (f ∷ fields) k make values range =
    ap (λ (r : Result (ValueOf f) TextReason). result_then {X = ValueOf f × List (List ℕ)} {Y = Y} (result_then r (λ x. Ok (x, field_words fields values.1))) (λ read. read_into fields (λ vs. make (read.0, vs)) read.1)) (field_back f k.0 values.0 range.0)
    ∙ fields_back fields k.1 (λ vs. make (values.0, vs)) values.1 range.1

pub fields_lack : (fields : List Field) → AreFields fields → (values : ValuesOf fields) → InFields fields values → AllLack 32 (field_words fields values)
fields_lack [] k values range = tt
fields_lack (f ∷ fields) k values range = (field_lacks f k.0 values.0 range.0, fields_lack fields k.1 values.1 range.1)

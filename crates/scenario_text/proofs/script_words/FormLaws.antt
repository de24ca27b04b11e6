-- What each form reads is the text of its value, and the text of a value in its range is read.
use Rattle.std.proofs.Common.{◌≡◌, ℕ, ◌≤◌, ◌<◌, ◌^◌, ◌&&◌, ◌⊎◌, Bool, true, false, cond, List, Option, Some, None, Ok, [], ◌++◌, length, take, drop, refl, ap, ◌∙◌, sym, subst, inl, inr, arith, nat_le, codes}
use Rattle.std.specs.Char.{is_ascii_digit}
use Rattle.std.specs.Fmt.{decimal}
use Rattle.std.specs.List.{list_all}
use Rattle.std.specs.Option.{ok_or, option_map}
use Rattle.std.specs.Str.Parse.{digits_value}
use Rattle.std.proofs.lemmas.Bool.{leb-true, le-leb}
use Rattle.std.proofs.lemmas.Bool.Decides.{nat_tests}
use Rattle.std.proofs.lemmas.List.{take-append-drop}
use Rattle.std.proofs.lemmas.Slice.Eq.{bytes_eq-Decides}
use Rattle.std.proofs.lemmas.Fmt.{decimal_is_IsNumeral, decimal-digits_value, decimal_nonempty, first_decimal}
use Rattle.gnb_types.specs.Names.{gnb_text, node_text, ue_text, bearer_text}
use Rattle.gnb_types.specs.declared.names.Gnb.{Gnb}
use Rattle.gnb_types.specs.declared.names.Gnb.TheVariants.{A, B}
use Rattle.gnb_types.specs.declared.names.NodeId.{NodeId}
use Rattle.gnb_types.specs.declared.names.NodeId.TheVariants.{CuCp, CuUp, Du, Core, Ue}
use Rattle.gnb_types.specs.declared.names.UeId.{UeId}
use Rattle.gnb_types.specs.declared.names.BearerId.{BearerId}
use Rattle.scenario_text.specs.script_words.Forms.{◌is◌, ◌begins◌, is_plain, number_of, ue_of, bearer_of, unit_of, node_of}
use Rattle.scenario_text.specs.script_words.Ranges.{IsWithin, IsUe, IsBearer, IsNode}
use Rattle.scenario_text.proofs.script_words.NumberLemmas.{own, Plain-from}

-- ---- tests

-- which way a choice went
pub chosen : {X : Type 0} (b : Bool) (x y z : X) → cond b x y ≡ z → ((b ≡ true) × (x ≡ z)) ⊎ ((b ≡ false) × (y ≡ z))
chosen true x y z h = inl (refl, h)
chosen false x y z h = inr (refl, h)

pub and_true : (a b : Bool) → (a && b) ≡ true → (a ≡ true) × (b ≡ true)
and_true true b h = (refl, h)
and_true false b h = absurd (cc)

pub option_map_some : {X Y : Type 0} (f : X → Y) (o : Option X) (y : Y) → option_map f o ≡ Some y → (x : X) × (o ≡ Some x) × (f x ≡ y)
option_map_some f None y h = absurd (cc)
option_map_some f (Some x) y h = (x, refl, cc)

pub ok_or_ok : {X E : Type 0} (o : Option X) (e : E) (x : X) → ok_or o e ≡ Ok x → o ≡ Some x
ok_or_ok None e x h = absurd (cc)
ok_or_ok (Some y) e x h = cc

-- ---- words and their fronts

pub is_text : (word text : List ℕ) → (word is text) ≡ true → word ≡ text
is_text word text h = (bytes_eq-Decides word text).0 h

pub begins_text : (word text : List ℕ) → (word begins text) ≡ true → word ≡ text ++ drop (length text) word
begins_text word text h =
    sym (take-append-drop (length text) word) ∙ ap (λ front. front ++ drop (length text) word) ((bytes_eq-Decides (take (length text) word) text).0 h)

-- ---- numbers

pub number_sound : (low high n : ℕ) (word : List ℕ) → high < 2 ^ 64 → number_of low high word ≡ Some n
    → (word ≡ decimal n) × IsWithin low high n
number_sound low high n word fits h =
    elim (chosen (is_plain word && nat_le low (digits_value 10 word) && nat_le (digits_value 10 word) high) (Some (digits_value 10 word)) None (Some n) h) [
      | inl w ↦
          let both = and_true (is_plain word && nat_le low (digits_value 10 word)) (nat_le (digits_value 10 word) high) w.0 in
          let front = and_true (is_plain word) (nat_le low (digits_value 10 word)) both.0 in
          let plain = Plain-from word front.0 in
          let same : digits_value 10 word ≡ n = cc in
          let above : low ≤ digits_value 10 word = leb-true low (digits_value 10 word) front.1 in
          let below : digits_value 10 word ≤ high = leb-true (digits_value 10 word) high both.1 in
          (sym (decimal-digits_value own word plain.digits plain.some plain.lead (omega arith)) ∙ ap decimal same, record { from = omega arith; to = omega arith })
      | inr w ↦ absurd (let no : None ≡ Some n = w.1 in cc)
    ]

pub positive_again : (low high n : ℕ) → 0 < n → high < 2 ^ 64 → IsWithin low high n → number_of low high (decimal n) ≡ Some n
positive_again low high n first fits within =
    let numeral = decimal_is_IsNumeral n (omega arith) in
    let digits : list_all is_ascii_digit (decimal n) ≡ true = own.from (decimal n) numeral.0.1 in
    let value : digits_value 10 (decimal n) ≡ n = numeral.1 in
    let plain : is_plain (decimal n) ≡ true = is_plain-decimal n (omega arith) (omega arith) digits in
    rw (plain, value, le-leb low n within.from, le-leb n high within.to) refl
  where
    is_plain-decimal : (m : ℕ) → 0 < m → m < 2 ^ 64 → list_all is_ascii_digit (decimal m) ≡ true → is_plain (decimal m) ≡ true
    is_plain-decimal m positive small digits =
        let some = decimal_nonempty m small in
        let lead = first_decimal m positive small in
        grind (arith, nat_tests)

pub number_again : (low high n : ℕ) → 0 < low → high < 2 ^ 64 → IsWithin low high n → number_of low high (decimal n) ≡ Some n
number_again low high n first fits within = positive_again low high n (omega arith) fits within

-- ---- names

pub ue_sound : (word : List ℕ) (u : UeId) → ue_of word ≡ Some u → (word ≡ ue_text u) × IsUe u
ue_sound word u h =
    elim (chosen (word begins codes "u") (option_map (λ n. record { 0 = n }) (number_of 1 16 (drop 1 word))) None (Some u) h) [
      | inl w ↦
          let found = option_map_some (λ (n : ℕ). let x : UeId = record { 0 = n } in x) (number_of 1 16 (drop 1 word)) u w.1 in
          let number = number_sound 1 16 found.0 (drop 1 word) (omega arith) found.1 in
          let P : UeId → Type 0 = λ x. (word ≡ ue_text x) × IsUe x in
          subst P found.2 (begins_text word (codes "u") w.0 ∙ ap (λ t. codes "u" ++ t) number.0, number.1)
      | inr w ↦ absurd (let no : None ≡ Some u = w.1 in cc)
    ]

pub ue_again : (u : UeId) → IsUe u → ue_of (ue_text u) ≡ Some u
ue_again u h = rw (number_again 1 16 u.0 (omega arith) (omega arith) h) refl

pub bearer_sound : (word : List ℕ) (b : BearerId) → bearer_of word ≡ Some b → (word ≡ bearer_text b) × IsBearer b
bearer_sound word b h =
    elim (chosen (word begins codes "b") (option_map (λ n. record { 0 = n }) (number_of 1 8 (drop 1 word))) None (Some b) h) [
      | inl w ↦
          let found = option_map_some (λ (n : ℕ). let x : BearerId = record { 0 = n } in x) (number_of 1 8 (drop 1 word)) b w.1 in
          let number = number_sound 1 8 found.0 (drop 1 word) (omega arith) found.1 in
          let P : BearerId → Type 0 = λ x. (word ≡ bearer_text x) × IsBearer x in
          subst P found.2 (begins_text word (codes "b") w.0 ∙ ap (λ t. codes "b" ++ t) number.0, number.1)
      | inr w ↦ absurd (let no : None ≡ Some b = w.1 in cc)
    ]

pub bearer_again : (b : BearerId) → IsBearer b → bearer_of (bearer_text b) ≡ Some b
bearer_again b h = rw (number_again 1 8 b.0 (omega arith) (omega arith) h) refl

-- the word after this lead is the name of a node
abbrev Names : List ℕ → List ℕ → NodeId → Type 0
Names lead word node = (lead ++ word ≡ node_text node) × IsNode node

-- a numbered name after a lead
numbered_sound : (lead word front : List ℕ) (high : ℕ) (make : ℕ → NodeId) (node : NodeId) → high < 2 ^ 64
    → (word begins front) ≡ true
    → ((n : ℕ) → IsWithin 1 high n → (lead ++ (front ++ decimal n) ≡ node_text (make n)) × IsNode (make n))
    → option_map make (number_of 1 high (drop (length front) word)) ≡ Some node
    → Names lead word node
numbered_sound lead word front high make node fits stands named h =
    let found = option_map_some make (number_of 1 high (drop (length front) word)) node h in
    let number = number_sound 1 high found.0 (drop (length front) word) fits found.1 in
    let name = named found.0 number.1 in
    let P : NodeId → Type 0 = λ x. Names lead word x in
    subst P found.2 (ap (λ t. lead ++ t) (begins_text word front stands ∙ ap (λ t. front ++ t) number.0) ∙ name.0, name.1)

-- a name without a number after a lead
fixed_sound : (lead word text : List ℕ) (made node : NodeId) → (word is text) ≡ true → lead ++ text ≡ node_text made → IsNode made
    → Some made ≡ Some node
    → Names lead word node
fixed_sound lead word text made node stands named range h =
    let same : made ≡ node = cc in
    let P : NodeId → Type 0 = λ x. Names lead word x in
    subst P same (ap (λ t. lead ++ t) (is_text word text stands) ∙ named, range)

no_node : {X : Type 0} (node : NodeId) → None ≡ Some node → X
no_node node h = absurd (cc)

-- the cases of a unit's name, and of a node's
abbrev ups : Gnb → List ℕ → Option NodeId
ups gnb word = option_map (λ n. CuUp gnb n) (number_of 1 2 (drop 2 word))

abbrev dus : Gnb → List ℕ → Option NodeId
dus gnb word = option_map (λ n. Du gnb n) (number_of 1 2 (drop 2 word))

abbrev numbered : Gnb → List ℕ → Option NodeId
numbered gnb word = cond (word begins codes "up") (ups gnb word) (cond (word begins codes "du") (dus gnb word) None)

abbrev ues : List ℕ → Option NodeId
ues word = option_map (λ n. Ue n) (number_of 1 16 (drop 1 word))

abbrev units : List ℕ → Option NodeId
units word = cond (word begins codes "A.") (unit_of A (drop 2 word)) (cond (word begins codes "B.") (unit_of B (drop 2 word)) None)

pub unit_sound : (gnb : Gnb) (word : List ℕ) (node : NodeId) → unit_of gnb word ≡ Some node → Names (gnb_text gnb ++ codes ".") word node
unit_sound A word node h = elim (chosen (word is codes "cp") (Some (CuCp A)) (numbered A word) (Some node) h) [
  | inl w ↦ fixed_sound (codes "A.") word (codes "cp") (CuCp A) node w.0 refl tt w.1
  | inr w ↦ elim (chosen (word begins codes "up") (ups A word) (cond (word begins codes "du") (dus A word) None) (Some node) w.1) [
    | inl u ↦ numbered_sound (codes "A.") word (codes "up") 2 (λ n. CuUp A n) node (omega arith) u.0 (λ n r. (refl, r)) u.1
    | inr u ↦ elim (chosen (word begins codes "du") (dus A word) None (Some node) u.1) [
      | inl v ↦ numbered_sound (codes "A.") word (codes "du") 2 (λ n. Du A n) node (omega arith) v.0 (λ n r. (refl, r)) v.1
      | inr v ↦ no_node node v.1
    ]
  ]
]
unit_sound B word node h = elim (chosen (word is codes "cp") (Some (CuCp B)) (numbered B word) (Some node) h) [
  | inl w ↦ fixed_sound (codes "B.") word (codes "cp") (CuCp B) node w.0 refl tt w.1
  | inr w ↦ elim (chosen (word begins codes "up") (ups B word) (cond (word begins codes "du") (dus B word) None) (Some node) w.1) [
    | inl u ↦ numbered_sound (codes "B.") word (codes "up") 2 (λ n. CuUp B n) node (omega arith) u.0 (λ n r. (refl, r)) u.1
    | inr u ↦ elim (chosen (word begins codes "du") (dus B word) None (Some node) u.1) [
      | inl v ↦ numbered_sound (codes "B.") word (codes "du") 2 (λ n. Du B n) node (omega arith) v.0 (λ n r. (refl, r)) v.1
      | inr v ↦ no_node node v.1
    ]
  ]
]

-- a unit after the front of its gNB
unit_after : (gnb : Gnb) (word : List ℕ) (node : NodeId) → (word begins (gnb_text gnb ++ codes ".")) ≡ true
    → Names (gnb_text gnb ++ codes ".") (drop (length (gnb_text gnb ++ codes ".")) word) node → (word ≡ node_text node) × IsNode node
unit_after gnb word node stands h = (begins_text word (gnb_text gnb ++ codes ".") stands ∙ h.0, h.1)

pub node_sound : (word : List ℕ) (node : NodeId) → node_of word ≡ Some node → (word ≡ node_text node) × IsNode node
node_sound word node h = elim (chosen (word is codes "core") (Some Core) (cond (word begins codes "u") (ues word) (units word)) (Some node) h) [
  | inl w ↦ fixed_sound [] word (codes "core") Core node w.0 refl tt w.1
  | inr w ↦ elim (chosen (word begins codes "u") (ues word) (units word) (Some node) w.1) [
    | inl u ↦ numbered_sound [] word (codes "u") 16 (λ n. Ue n) node (omega arith) u.0 (λ n r. (refl, r)) u.1
    | inr u ↦ elim (chosen (word begins codes "A.") (unit_of A (drop 2 word)) (cond (word begins codes "B.") (unit_of B (drop 2 word)) None) (Some node) u.1) [
      | inl v ↦ unit_after A word node v.0 (unit_sound A (drop 2 word) node v.1)
      | inr v ↦ elim (chosen (word begins codes "B.") (unit_of B (drop 2 word)) None (Some node) v.1) [
        | inl x ↦ unit_after B word node x.0 (unit_sound B (drop 2 word) node x.1)
        | inr x ↦ no_node node x.1
      ]
    ]
  ]
]

pub node_again : (node : NodeId) → IsNode node → node_of (node_text node) ≡ Some node
node_again (CuCp A) h = refl
node_again (CuCp B) h = refl
node_again (CuUp A n) h = rw (number_again 1 2 n (omega arith) (omega arith) h) refl
node_again (CuUp B n) h = rw (number_again 1 2 n (omega arith) (omega arith) h) refl
node_again (Du A n) h = rw (number_again 1 2 n (omega arith) (omega arith) h) refl
node_again (Du B n) h = rw (number_again 1 2 n (omega arith) (omega arith) h) refl
node_again Core h = refl
node_again (Ue n) h = rw (number_again 1 16 n (omega arith) (omega arith) h) refl

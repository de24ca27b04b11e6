-- What is read at places is a text of the values there, and a text of values in their ranges is read.
use Rattle.std.proofs.Common.{◌≡◌, ℕ, ◌+◌, ◌*◌, ◌-◌, ◌≤◌, ◌<◌, ◌^◌, ◌⊎◌, Bool, true, false, not, cond, Option, Some, None, List, Result, Ok, Err, [], ◌∷◌, ◌++◌, length, take, drop, refl, ap, ◌∙◌, sym, subst, inl, inr, arith, nat_eq, nat_lt, codes, All, get_or, append_assoc, length-drop}
use Rattle.std.specs.Char.{is_ascii_digit}
use Rattle.std.specs.Fmt.{decimal}
use Rattle.std.specs.Option.{ok_or}
use Rattle.std.specs.List.{list_all, onto_first, join_with_byte, before_first, after_first, position_or_len}
use Rattle.std.proofs.lemmas.Bool.{ltb-true, lt-ltb, eqb-true}
use Rattle.std.proofs.lemmas.Bool.Decides.{nat_tests}
use Rattle.std.proofs.Math.Seq.{take-append_seam, drop-append-add}
use Rattle.std.proofs.lemmas.List.Folds.{list_all-append}
use Rattle.std.proofs.lemmas.List.Sums.{split_at_first, passes_at_first}
use Rattle.std.proofs.lemmas.List.Elements.{All-nil, All-cons}
use Rattle.std.proofs.lemmas.List.Splits.{slice_split-cons_no}
use Rattle.std.proofs.lemmas.Fmt.{decimal_is_IsNumeral, decimal_nonempty}
use Rattle.gnb_types.specs.Hex.{hex_of, read_hex, IsDigitOf, IsHexOf}
use Rattle.gnb_types.proofs.HexLemmas.{read_is_hex, hex_is_read, hex_of_is_hex}
use Rattle.gnb_types.specs.Names.{node_text, gnb_text, dir_text}
use Rattle.gnb_types.specs.declared.names.Gnb.{Gnb}
use Rattle.gnb_types.specs.declared.names.Gnb.TheVariants.{A, B}
use Rattle.gnb_types.specs.declared.names.Dir.{Dir}
use Rattle.gnb_types.specs.declared.names.Dir.TheVariants.{Dl, Ul}
use Rattle.gnb_types.specs.declared.names.SnBits.{SnBits}
use Rattle.gnb_types.specs.declared.names.SnBits.TheVariants.{Len12, Len18}
use Rattle.gnb_types.specs.declared.names.NodeId.{NodeId}
use Rattle.gnb_types.specs.declared.names.NodeId.TheVariants.{CuCp, CuUp, Du, Core, Ue}
use Rattle.scenario_text.specs.declared.script_words.reason.TextReason.{TextReason}
use Rattle.scenario_text.specs.declared.script_words.reason.TextReason.TheVariants.{Word, Number, Hex, Name}
use Rattle.scenario_text.specs.script_words.Forms.{words, ◌is◌, ◌begins◌, Form, number, ue, bearer, gnb, dir, sn_bits, message, node, hex, both, tunnel, ue_of, bearer_of, node_of, gnb_of, dir_of, sn_bits_of, message_of, number_of, greatest_number}
use Rattle.scenario_text.specs.script_words.Ranges.{IsWithin, IsNode, IsPacket, IsTunnel}
use Rattle.scenario_text.specs.script_words.Places.{Place, AtUe, AtBearer, AtGnb, AtNode, AtDir, AtNumber, AtSnBits, AtMessage, AtTunnel, AtHex, Meaning, read_word, word_text, sn_bits_text, InPlace, IsWordOf, Values, value_words, InPlaces, AreWordsOf, next_word, result_then, place, line_end, read_into, read_places}
use Rattle.scenario_text.proofs.script_words.NumberLemmas.{own}
use Rattle.scenario_text.proofs.script_words.FormLaws.{chosen, and_true, ok_or_ok, is_text, begins_text, number_sound, number_again, ue_sound, ue_again, bearer_sound, bearer_again, node_sound, node_again}

-- ---- hexadecimal digits

IsByte-digits : (text packet : List ℕ) → IsHexOf text packet → All (λ b. b < 256) packet
IsByte-digits [] [] h = All-nil (λ b. b < 256)
IsByte-digits [] (byte ∷ packet) h = absurd h
IsByte-digits (a ∷ []) packet h = absurd h
IsByte-digits (a ∷ b ∷ text) [] h = absurd h
IsByte-digits (a ∷ b ∷ text) (byte ∷ packet) (high, low, ha, hb, e, rest) =
    All-cons (λ x. x < 256) byte packet (small a b high low ha hb e) (IsByte-digits text packet rest)
  where
    small : (a b high low : ℕ) → IsDigitOf a high → IsDigitOf b low → byte ≡ 16 * high + low → byte < 256
    small a b high low ha hb e = grind arith

digits_some : (text packet : List ℕ) → 0 < length text → IsHexOf text packet → 0 < length packet
digits_some [] packet h is_hex = absurd (omega arith)
digits_some (a ∷ []) packet h is_hex = absurd is_hex
digits_some (a ∷ b ∷ text) [] h is_hex = absurd is_hex
digits_some (a ∷ b ∷ text) (byte ∷ packet) h is_hex = omega arith

hex_sound : (word packet : List ℕ) → hex word ≡ Ok packet → IsHexOf word packet × IsPacket packet
hex_sound word packet h = elim (chosen (nat_lt 0 (length word)) (ok_or (read_hex word) Hex) (Err Hex) (Ok packet) h) [
  | inl w ↦
      let is_hex = read_is_hex word packet (ok_or_ok _ Hex packet w.1) in
      (is_hex, record { some = digits_some word packet (ltb-true 0 (length word) w.0) is_hex; bytes = IsByte-digits word packet is_hex })
  | inr w ↦ absurd (let no : Err Hex ≡ Ok packet = w.1 in cc)
]

hex_again : (digits packet : List ℕ) → 0 < length packet → IsHexOf digits packet → hex digits ≡ Ok packet
hex_again [] [] some is_hex = absurd (omega arith)
hex_again [] (byte ∷ packet) some is_hex = absurd is_hex
hex_again (a ∷ digits) packet some is_hex =
    let long : nat_lt 0 (length (a ∷ digits)) ≡ true = lt-ltb 0 (length (a ∷ digits)) (omega arith) in
    ap (λ b. cond b (ok_or (read_hex (a ∷ digits)) Hex) (Err Hex)) long ∙ ap (λ o. ok_or o Hex) (hex_is_read (a ∷ digits) packet is_hex)

-- ---- directions, gNBs, bits, messages

-- one of two words, or none
one_of_two : {X : Type 0} (word a b : List ℕ) (x y z : X) (text : X → List ℕ) → a ≡ text x → b ≡ text y
    → cond (word is a) (Some x) (cond (word is b) (Some y) None) ≡ Some z → word ≡ text z
one_of_two word a b x y z text p q h = elim (chosen (word is a) (Some x) (cond (word is b) (Some y) None) (Some z) h) [
  | inl w ↦ let same : x ≡ z = cc in is_text word a w.0 ∙ p ∙ ap text same
  | inr w ↦ elim (chosen (word is b) (Some y) None (Some z) w.1) [
    | inl v ↦ let same : y ≡ z = cc in is_text word b v.0 ∙ q ∙ ap text same
    | inr v ↦ absurd (let no : None ≡ Some z = v.1 in cc)
  ]
]

gnb_sound : (word : List ℕ) (g : Gnb) → gnb_of word ≡ Some g → word ≡ gnb_text g
gnb_sound word g h = one_of_two word (codes "A") (codes "B") A B g gnb_text refl refl h

dir_sound : (word : List ℕ) (d : Dir) → dir_of word ≡ Some d → word ≡ dir_text d
dir_sound word d h = one_of_two word (codes "dl") (codes "ul") Dl Ul d dir_text refl refl h

sn_bits_sound : (word : List ℕ) (b : SnBits) → sn_bits_of word ≡ Some b → word ≡ sn_bits_text b
sn_bits_sound word b h = one_of_two word (codes "12") (codes "18") Len12 Len18 b sn_bits_text refl refl h

gnb_again : (g : Gnb) → gnb_of (gnb_text g) ≡ Some g
gnb_again A = refl
gnb_again B = refl

dir_again : (d : Dir) → dir_of (dir_text d) ≡ Some d
dir_again Dl = refl
dir_again Ul = refl

sn_bits_again : (b : SnBits) → sn_bits_of (sn_bits_text b) ≡ Some b
sn_bits_again Len12 = refl
sn_bits_again Len18 = refl

message_sound : (word : List ℕ) (n : ℕ) → message_of word ≡ Some n → (word ≡ codes "#" ++ decimal n) × IsWithin 1 greatest_number n
message_sound word n h = elim (chosen (word begins codes "#") (number_of 1 greatest_number (drop 1 word)) None (Some n) h) [
  | inl w ↦
      let number = number_sound 1 greatest_number n (drop 1 word) (omega arith) w.1 in
      (begins_text word (codes "#") w.0 ∙ ap (λ t. codes "#" ++ t) number.0, number.1)
  | inr w ↦ absurd (let no : None ≡ Some n = w.1 in cc)
]

message_again : (n : ℕ) → IsWithin 1 greatest_number n → message_of (codes "#" ++ decimal n) ≡ Some n
message_again n h = number_again 1 greatest_number n (omega arith) (omega arith) h

-- ---- tunnels

same_value : {Z E : Type 0} (r : Result Z E) (u v : Z) → r ≡ Ok u → r ≡ Ok v → u ≡ v
same_value r u v h k = cc

-- both halves of a tunnel's name
both_ok : {X Y : Type 0} (r : Result X TextReason) (s : Result Y TextReason) (x : X) (y : Y) → both r s ≡ Ok (x, y)
    → (r ≡ Ok x) × (s ≡ Ok y)
both_ok {X} {Y} (Ok a) (Ok b) x y h =
    let same = same_value {Z = X × Y} (both {X = X} {Y = Y} (Ok a) (Ok b)) (a, b) (x, y) refl h in (ap Ok (ap (λ (p : X × Y). p.0) same), ap Ok (ap (λ (p : X × Y). p.1) same))
both_ok (Ok a) (Err reason) x y h = absurd (cc)
both_ok (Err reason) s x y h = absurd (cc)

-- a text with a slash that something follows
around_slash : (word : List ℕ) → 0 < length (after_first (λ c. nat_eq c 47) word)
    → word ≡ before_first (λ c. nat_eq c 47) word ++ 47 ∷ after_first (λ c. nat_eq c 47) word
around_slash word h =
    let place = position_or_len (λ c. nat_eq c 47) word in
    let inside : place < length word = omega (arith, length-drop (place + 1) word, h) in
    let slash : get_or word place 0 ≡ 47 = eqb-true (get_or word place 0) 47 (passes_at_first (λ c. nat_eq c 47) word 0 inside) in
    split_at_first (λ c. nat_eq c 47) word 0 inside ∙ ap (λ c. before_first (λ x. nat_eq x 47) word ++ c ∷ after_first (λ x. nat_eq x 47) word) slash

tunnel_sound : (word : List ℕ) (t : NodeId × ℕ) → tunnel word ≡ Ok t → (word ≡ node_text t.0 ++ codes "/" ++ decimal t.1) × IsTunnel t
tunnel_sound word t h =
    let halves = both_ok (node (before_first (λ c. nat_eq c 47) word)) (number 1 greatest_number (after_first (λ c. nat_eq c 47) word)) t.0 t.1 h in
    let end = node_sound (before_first (λ c. nat_eq c 47) word) t.0 (ok_or_ok _ Name t.0 halves.0) in
    let teid = number_sound 1 greatest_number t.1 (after_first (λ c. nat_eq c 47) word) (omega arith) (ok_or_ok _ Number t.1 halves.1) in
    let some : 0 < length (decimal t.1) = decimal_nonempty t.1 (omega (arith, teid.1.to)) in
    let there : 0 < length (after_first (λ c. nat_eq c 47) word) = subst (λ (ds : List ℕ). 0 < length ds) (sym teid.0) some in
    (around_slash word there ∙ ap (λ f. f ++ 47 ∷ after_first (λ c. nat_eq c 47) word) end.0 ∙ ap (λ ds. node_text t.0 ++ 47 ∷ ds) teid.0 ∙ sym (append_assoc (node_text t.0) (47 ∷ []) (decimal t.1)), (end.1, teid.1))

-- a word without this byte
abbrev pub Lacks : ℕ → List ℕ → Type 0
Lacks c word = list_all (λ x. not (nat_eq x c)) word ≡ true

not_true : (b : Bool) → not b ≡ true → b ≡ false
not_true true h = absurd (cc)
not_true false h = refl

-- digits are neither blanks nor slashes
Lacks-digits : (c : ℕ) (word : List ℕ) → c < 48 → list_all is_ascii_digit word ≡ true → Lacks c word
Lacks-digits c [] small h = refl
Lacks-digits c (x ∷ xs) small h =
    let both = and_true (is_ascii_digit x) (list_all is_ascii_digit xs) h in
    rw (digit_is_not x both.0, Lacks-digits c xs small both.1) refl
  where
    digit_is_not : (y : ℕ) → is_ascii_digit y ≡ true → nat_eq y c ≡ false
    digit_is_not y e = grind (arith, nat_tests)

pub Lacks-decimal : (c n : ℕ) → c < 48 → n < 2 ^ 64 → Lacks c (decimal n)
Lacks-decimal c n small fits = Lacks-digits c (decimal n) small (own.from (decimal n) (decimal_is_IsNumeral n fits).0.1)

pub Lacks-hex : (c : ℕ) (text packet : List ℕ) → c < 48 → IsHexOf text packet → Lacks c text
Lacks-hex c [] packet small h = refl
Lacks-hex c (a ∷ []) packet small h = absurd h
Lacks-hex c (a ∷ b ∷ text) [] small h = absurd h
Lacks-hex c (a ∷ b ∷ text) (byte ∷ packet) small (high, low, ha, hb, e, rest) =
    rw (no_blank a high ha, no_blank b low hb, Lacks-hex c text packet small rest) refl
  where
    no_blank : (d n : ℕ) → IsDigitOf d n → nat_eq d c ≡ false
    no_blank d n e = grind (arith, nat_tests)

pub Lacks-node : (c : ℕ) (n : NodeId) → (c ≡ 32) ⊎ (c ≡ 47) → IsNode n → Lacks c (node_text n)
Lacks-node c n (inl e) h = subst (λ (b : ℕ). Lacks b (node_text n)) (sym e) (by_blank n h)
  where
    by_blank : (m : NodeId) → IsNode m → Lacks 32 (node_text m)
    by_blank (CuCp A) h = refl
    by_blank (CuCp B) h = refl
    by_blank (CuUp A k) h = Lacks-decimal 32 k (omega arith) (omega (arith, h.to))
    by_blank (CuUp B k) h = Lacks-decimal 32 k (omega arith) (omega (arith, h.to))
    by_blank (Du A k) h = Lacks-decimal 32 k (omega arith) (omega (arith, h.to))
    by_blank (Du B k) h = Lacks-decimal 32 k (omega arith) (omega (arith, h.to))
    by_blank Core h = refl
    by_blank (Ue k) h = Lacks-decimal 32 k (omega arith) (omega (arith, h.to))
Lacks-node c n (inr e) h = subst (λ (b : ℕ). Lacks b (node_text n)) (sym e) (by_slash n h)
  where
    by_slash : (m : NodeId) → IsNode m → Lacks 47 (node_text m)
    by_slash (CuCp A) h = refl
    by_slash (CuCp B) h = refl
    by_slash (CuUp A k) h = Lacks-decimal 47 k (omega arith) (omega (arith, h.to))
    by_slash (CuUp B k) h = Lacks-decimal 47 k (omega arith) (omega (arith, h.to))
    by_slash (Du A k) h = Lacks-decimal 47 k (omega arith) (omega (arith, h.to))
    by_slash (Du B k) h = Lacks-decimal 47 k (omega arith) (omega (arith, h.to))
    by_slash Core h = refl
    by_slash (Ue k) h = Lacks-decimal 47 k (omega arith) (omega (arith, h.to))

pub Lacks-append : (c : ℕ) (a b : List ℕ) → Lacks c a → Lacks c b → Lacks c (a ++ b)
Lacks-append c a b h k = list_all-append (λ x. not (nat_eq x c)) a b ∙ (rw (h, k) refl)

-- the place of the slash after a word that has none
slash_after : (word rest : List ℕ) → Lacks 47 word → position_or_len (λ x. nat_eq x 47) (word ++ 47 ∷ rest) ≡ length word
slash_after [] rest h = refl
slash_after (x ∷ xs) rest h =
    let both = and_true (not (nat_eq x 47)) (list_all (λ y. not (nat_eq y 47)) xs) h in
    let more = slash_after xs rest both.1 in
    rw both.0 (omega (arith, more))

tunnel_again : (end : NodeId) (teid : ℕ) → IsNode end → IsWithin 1 greatest_number teid
    → tunnel (node_text end ++ 47 ∷ decimal teid) ≡ Ok (end, teid)
tunnel_again end teid range within =
    let place = slash_after (node_text end) (decimal teid) (Lacks-node 47 end (inr refl) range) in
    let front : before_first (λ x. nat_eq x 47) (node_text end ++ 47 ∷ decimal teid) ≡ node_text end =
    ap (λ n. take n (node_text end ++ 47 ∷ decimal teid)) place ∙ take-append_seam (node_text end) (47 ∷ decimal teid) in
    let there : after_first (λ x. nat_eq x 47) (node_text end ++ 47 ∷ decimal teid) ≡ decimal teid =
    ap (λ n. drop (n + 1) (node_text end ++ 47 ∷ decimal teid)) place ∙ drop-append-add (node_text end) (47 ∷ decimal teid) 1 in
    ap (λ w. both (node w) (number 1 greatest_number (after_first (λ x. nat_eq x 47) (node_text end ++ 47 ∷ decimal teid)))) front
    ∙ ap (λ w. both (node (node_text end)) (number 1 greatest_number w)) there
    ∙ ap (λ o. both (ok_or o Name) (number 1 greatest_number (decimal teid))) (node_again end range)
    ∙ ap (λ o. both (Ok end) (ok_or o Number)) (number_again 1 greatest_number teid (omega arith) (omega arith) within)

tunnel_word_again : (t : NodeId × ℕ) → IsTunnel t → tunnel (node_text t.0 ++ codes "/" ++ decimal t.1) ≡ Ok t
tunnel_word_again t h = ap tunnel (append_assoc (node_text t.0) (47 ∷ []) (decimal t.1)) ∙ tunnel_again t.0 t.1 h.0 h.1

-- ---- one place

-- a number's range begins above 0 and is one of 64 bits, in an event
abbrev pub IsEventPlace : Place → Type 0
IsEventPlace (AtNumber low high) = (0 < low) × (high < 2 ^ 64)
IsEventPlace p = Unit {0}

pub word_sound : (p : Place) → IsEventPlace p → (word : List ℕ) (x : Meaning p) → read_word p word ≡ Ok x → IsWordOf p word x × InPlace p x
word_sound AtUe k word x h = ue_sound word x (ok_or_ok (ue_of word) Name x h)
word_sound AtBearer k word x h = bearer_sound word x (ok_or_ok (bearer_of word) Name x h)
word_sound AtGnb k word x h = (gnb_sound word x (ok_or_ok (gnb_of word) Name x h), tt)
word_sound AtNode k word x h = node_sound word x (ok_or_ok (node_of word) Name x h)
word_sound AtDir k word x h = (dir_sound word x (ok_or_ok (dir_of word) Word x h), tt)
word_sound (AtNumber low high) k word x h = number_sound low high x word k.1 (ok_or_ok (number_of low high word) Number x h)
word_sound AtSnBits k word x h = (sn_bits_sound word x (ok_or_ok (sn_bits_of word) Number x h), tt)
word_sound AtMessage k word x h = message_sound word x (ok_or_ok (message_of word) Number x h)
word_sound AtTunnel k word x h = tunnel_sound word x h
word_sound AtHex k word x h = hex_sound word x h

pub word_again : (p : Place) → IsEventPlace p → (word : List ℕ) (x : Meaning p) → IsWordOf p word x → InPlace p x → read_word p word ≡ Ok x
word_again AtUe k word x e range = ap ue e ∙ ap (λ o. ok_or o Name) (ue_again x range)
word_again AtBearer k word x e range = ap bearer e ∙ ap (λ o. ok_or o Name) (bearer_again x range)
word_again AtGnb k word x e range = ap gnb e ∙ ap (λ o. ok_or o Name) (gnb_again x)
word_again AtNode k word x e range = ap node e ∙ ap (λ o. ok_or o Name) (node_again x range)
word_again AtDir k word x e range = ap dir e ∙ ap (λ o. ok_or o Word) (dir_again x)
word_again (AtNumber low high) k word x e range = ap (number low high) e ∙ ap (λ o. ok_or o Number) (number_again low high x k.0 k.1 range)
word_again AtSnBits k word x e range = ap sn_bits e ∙ ap (λ o. ok_or o Number) (sn_bits_again x)
word_again AtMessage k word x e range = ap message e ∙ ap (λ o. ok_or o Number) (message_again x range)
word_again AtTunnel k word x e range = ap tunnel e ∙ tunnel_word_again x range
word_again AtHex k word x e range = hex_again word x range.some e

-- a word of a value has no blank
pub word_lacks_blank : (p : Place) → IsEventPlace p → (word : List ℕ) (x : Meaning p) → IsWordOf p word x → InPlace p x → Lacks 32 word
word_lacks_blank AtUe k word x e range = subst (Lacks 32) (sym e) (Lacks-decimal 32 x.0 (omega arith) (omega (arith, range.to)))
word_lacks_blank AtBearer k word x e range = subst (Lacks 32) (sym e) (Lacks-decimal 32 x.0 (omega arith) (omega (arith, range.to)))
word_lacks_blank AtGnb k word A e range = subst (Lacks 32) (sym e) refl
word_lacks_blank AtGnb k word B e range = subst (Lacks 32) (sym e) refl
word_lacks_blank AtNode k word x e range = subst (Lacks 32) (sym e) (Lacks-node 32 x (inl refl) range)
word_lacks_blank AtDir k word Dl e range = subst (Lacks 32) (sym e) refl
word_lacks_blank AtDir k word Ul e range = subst (Lacks 32) (sym e) refl
word_lacks_blank (AtNumber low high) k word x e range = subst (Lacks 32) (sym e) (Lacks-decimal 32 x (omega arith) (omega (arith, range.to, k.1)))
word_lacks_blank AtSnBits k word Len12 e range = subst (Lacks 32) (sym e) refl
word_lacks_blank AtSnBits k word Len18 e range = subst (Lacks 32) (sym e) refl
word_lacks_blank AtMessage k word x e range = subst (Lacks 32) (sym e) (Lacks-decimal 32 x (omega arith) (omega (arith, range.to)))
word_lacks_blank AtTunnel k word x e range =
    subst (Lacks 32) (sym e) (Lacks-append 32 (node_text x.0 ++ codes "/") (decimal x.1) (Lacks-append 32 (node_text x.0) (codes "/") (Lacks-node 32 x.0 (inl refl) range.0) refl) (Lacks-decimal 32 x.1 (omega arith) (omega (arith, range.1.to))))
word_lacks_blank AtHex k word x e range = Lacks-hex 32 word x (omega arith) e

-- how a value is written is one of its texts
pub word_text-IsWordOf : (p : Place) (x : Meaning p) → InPlace p x → IsWordOf p (word_text p x) x
word_text-IsWordOf AtUe x range = refl
word_text-IsWordOf AtBearer x range = refl
word_text-IsWordOf AtGnb x range = refl
word_text-IsWordOf AtNode x range = refl
word_text-IsWordOf AtDir x range = refl
word_text-IsWordOf (AtNumber low high) x range = refl
word_text-IsWordOf AtSnBits x range = refl
word_text-IsWordOf AtMessage x range = refl
word_text-IsWordOf AtTunnel x range = refl
word_text-IsWordOf AtHex x range = hex_of_is_hex x range.bytes

-- ---- places in a row

abbrev pub AreEventPlaces : List Place → Type 0
AreEventPlaces [] = Unit {0}
AreEventPlaces (p ∷ places) = IsEventPlace p × AreEventPlaces places

-- a place that was read, and what is made of it and the rest
record Step {X Y : Type 0} (form : Form X) (more : X × List (List ℕ) → Result Y TextReason) (left : List (List ℕ)) (y : Y) : Type 0 where
  word : List ℕ
  value : X
  rest : List (List ℕ)
  stands : left ≡ word ∷ rest
  means : form word ≡ Ok value
  goes : more (value, rest) ≡ Ok y

step : {X Y : Type 0} (form : Form X) (more : X × List (List ℕ) → Result Y TextReason) (left : List (List ℕ)) (y : Y)
    → result_then (place form left) more ≡ Ok y → Step form more left y
step form more [] y h = absurd (cc)
step {X} {Y} form more (word ∷ rest) y h = by_form (form word) refl h
  where
    by_form : (r : Result X TextReason) → form word ≡ r
        → result_then {X = X × List (List ℕ)} (result_then r (λ x. Ok (x, rest))) more ≡ Ok y → Step form more (word ∷ rest) y
    by_form (Ok x) e k = record { word = word; value = x; rest = rest; stands = refl; means = e; goes = k }
    by_form (Err reason) e k = absurd (cc)

-- values that were read, and what was made of them
pub record Found {Y : Type 0} (places : List Place) (make : Values places → Y) (left : List (List ℕ)) (y : Y) : Type 0 where
  pub values : Values places
  pub stand : AreWordsOf places left values
  pub range : InPlaces places values
  pub makes : make values ≡ y

pub places_sound : {Y : Type 0} (places : List Place) → AreEventPlaces places → (make : Values places → Y) (left : List (List ℕ)) (y : Y)
    → read_into places make left ≡ Ok y → Found places make left y
places_sound [] k make [] y h = record { values = tt; stand = tt; range = tt; makes = cc }
places_sound [] k make (word ∷ rest) y h = absurd (cc)
places_sound (p ∷ places) k make left y h =
    let s = step (read_word p) (λ read. read_into places (λ values. make (read.0, values)) read.1) left y h in
    let word = word_sound p k.0 s.word s.value s.means in
    let more = places_sound places k.1 (λ values. make (s.value, values)) s.rest y s.goes in
    record {
      values = (s.value, more.values);
      stand = subst (λ (ws : List (List ℕ)). AreWordsOf (p ∷ places) ws (s.value, more.values)) (sym s.stands) (word.0, more.stand);
      range = (word.1, more.range);
      makes = more.makes;
    }

pub places_again : {Y : Type 0} (places : List Place) → AreEventPlaces places
    → (make : Values places → Y) (left : List (List ℕ)) (values : Values places)
    → AreWordsOf places left values → InPlaces places values → read_into places make left ≡ Ok (make values)
places_again [] k make [] values stand range = refl
places_again [] k make (word ∷ rest) values stand range = absurd stand
places_again (p ∷ places) k make [] values stand range = absurd stand
places_again {Y} (p ∷ places) k make (word ∷ rest) values stand range =
    ap (λ (r : Result (Meaning p) TextReason). result_then {X = Meaning p × List (List ℕ)} {Y = Y} (result_then r (λ x. Ok (x, rest))) (λ read. read_into places (λ vs. make (read.0, vs)) read.1)) (word_again p k.0 word values.0 stand.0 range.0)
    ∙ places_again places k.1 (λ vs. make (values.0, vs)) rest values.1 stand.1 range.1

pub value_words-AreWordsOf : (places : List Place) (values : Values places) → InPlaces places values
    → AreWordsOf places (value_words places values) values
value_words-AreWordsOf [] values range = tt
value_words-AreWordsOf (p ∷ places) values range = (word_text-IsWordOf p values.0 range.0, value_words-AreWordsOf places values.1 range.1)

-- ---- words joined

pub words_then : (word rest : List ℕ) → Lacks 32 word → words (word ++ 32 ∷ rest) ≡ word ∷ words rest
words_then [] rest h = refl
words_then (x ∷ xs) rest h =
    let both = and_true (not (nat_eq x 32)) (list_all (λ y. not (nat_eq y 32)) xs) h in
    slice_split-cons_no (λ y. nat_eq y 32) x (xs ++ 32 ∷ rest) (not_true (nat_eq x 32) both.0) ∙ ap (onto_first x) (words_then xs rest both.1)

pub words_one : (word : List ℕ) → Lacks 32 word → words word ≡ word ∷ []
words_one [] h = refl
words_one (x ∷ xs) h =
    let both = and_true (not (nat_eq x 32)) (list_all (λ y. not (nat_eq y 32)) xs) h in
    slice_split-cons_no (λ y. nat_eq y 32) x xs (not_true (nat_eq x 32) both.0) ∙ ap (onto_first x) (words_one xs both.1)

abbrev pub AllLack : ℕ → List (List ℕ) → Type 0
AllLack c [] = Unit {0}
AllLack c (word ∷ rest) = Lacks c word × AllLack c rest

-- the words of joined words
pub words-joined : (word : List ℕ) (rest : List (List ℕ)) → Lacks 32 word → AllLack 32 rest
    → words (join_with_byte 32 (word ∷ rest)) ≡ word ∷ rest
words-joined word [] h k = words_one word h
words-joined word (next ∷ rest) h k = words_then word (join_with_byte 32 (next ∷ rest)) h ∙ ap (λ ws. word ∷ ws) (words-joined next rest k.0 k.1)

-- words of values have no blanks
pub words_lack_blanks : (places : List Place) → AreEventPlaces places → (left : List (List ℕ)) (values : Values places)
    → AreWordsOf places left values → InPlaces places values → AllLack 32 left
words_lack_blanks [] k [] values stand range = tt
words_lack_blanks [] k (word ∷ rest) values stand range = absurd stand
words_lack_blanks (p ∷ places) k [] values stand range = absurd stand
words_lack_blanks (p ∷ places) k (word ∷ rest) values stand range =
    (word_lacks_blank p k.0 word values.0 stand.0 range.0, words_lack_blanks places k.1 rest values.1 stand.1 range.1)

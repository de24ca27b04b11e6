-- A line has one answer, one that has an answer isn't refused, and what is decoded is encoded again.
use Rattle.std.proofs.Common.{◌≡◌, ℕ, ◌*◌, ◌≤◌, List, [], length, Some, None, sym, ap, ◌∙◌, subst, refl, arith, append-nil}
use Rattle.gnb_types.specs.Hex.{hex_of, read_hex}
use Rattle.serde_json.specs.Data.{Data}
use Rattle.serde_json.specs.Written.{compact_text}
use Rattle.bits_core.specs.Bits.{octet_bits}
use Rattle.bits_core.proofs.BitLemmas.{length-octet_bits}
use Rattle.asn1_syntax.specs.declared.assignments.assignment.Syntax.{Syntax}
use Rattle.asn1_defs.specs.Modules.{IsModule}
use Rattle.aper_defs.specs.Trees.{Tree}
use Rattle.aper_defs.specs.Values.{Value}
use Rattle.aper_defs.specs.Bits.{put_all, octet_count}
use Rattle.aper_defs.specs.Layouts.{layout}
use Rattle.aper_defs.specs.Spelling.{Spells, spelling_limit, whole_layout}
use Rattle.proof_aper.proofs.places.Opened.{closing_is, octets_are}
use Rattle.proof_aper.proofs.spelled.Spelled.{whole_size}
use Rattle.aper_values.specs.types.Types.{tree}
use Rattle.aper_values.proofs.types.Bounded.{tree_bounded}
use Rattle.law_aper.proofs.Spelled.{one_value}
use Rattle.proof_aper.proofs.octets.Spelled.{one_spelling}
use Rattle.json_defs.specs.Readings.{value_of}
use Rattle.json_defs.specs.Demands.{demands, first_fault}
use Rattle.json_defs.specs.shown_defs.Printed.{shown_as}
use Rattle.json_defs.specs.type_defs.Types.{named}
use Rattle.proof_json.proofs.lawful.Law.{exact, not_both}
use Rattle.proof_json.proofs.modules.Bounded.{bounded}
use Rattle.values_json.specs.Texts.{IsJson, IsTextOf}
use Rattle.command_values.specs.declared.way.Way.{Way}
use Rattle.command_values.specs.declared.way.Way.TheVariants.{Encode, Decode}
use Rattle.command_values.specs.declared.answer.Wrong.{Wrong}
use Rattle.command_values.specs.Answers.{IsEncoded, IsUnencoded, NoJson, Faulty, Long, IsDecoded, IsUndecoded, NoHex, Misspelled, IsAnswered, IsWrong}

-- the octets that spell a value are as many as its layout has
spelled_count : (t : Tree) (v : Value) (octets : List ℕ) → Spells t v octets → octet_count (whole_layout t v) ≤ spelling_limit
spelled_count t v octets s =
    let fs = layout [] t v in
    let whole : length (put_all [] (whole_layout t v)) ≡ 8 * octet_count (whole_layout t v) =
    whole_size fs ∙ omega (arith, octets_are [] fs, closing_is fs 0 refl) in
    let own : length (octet_bits octets) ≡ 8 * octet_count (whole_layout t v) = ap length s.bits ∙ whole in
    omega (arith, own, length-octet_bits octets, s.short)

one_tree : (octets : List ℕ) (d e : Data) → IsJson octets d → IsJson octets e → d ≡ e
one_tree octets d e h g = let both : Some d ≡ Some e = sym h.1 ∙ g.1 in cc

one_hex : (line a b : List ℕ) → read_hex line ≡ Some a → read_hex line ≡ Some b → a ≡ b
one_hex line a b h g = let both : Some a ≡ Some b = sym h ∙ g in cc

module _ (m : Syntax) (is : IsModule m) (id : ℕ) (line : List ℕ) where
  one_shown : (v w : Value) → IsTextOf (named m id) line v → IsTextOf (named m id) line w → v ≡ w
  one_shown v w h g =
      let b = bounded m id is in
      ((exact (named m id) h.0 v b).0 h.2).1 ∙ ap (value_of (named m id)) (one_tree line h.0 g.0 h.1 g.1)
      ∙ sym ((exact (named m id) g.0 w b).0 g.2).1

  one_encoded : (a b : List ℕ) → IsEncoded m id line a → IsEncoded m id line b → a ≡ b
  one_encoded a b h g =
      let same : h.v ≡ g.v = one_shown h.v g.v h.shows g.shows in
      let spells : Spells (tree m id) h.v g.spelled.octets = subst (λ (v : Value). Spells (tree m id) v g.spelled.octets) (sym same) g.spelled.spells in
      h.spelled.digits
      ∙ ap hex_of (one_spelling (tree m id) h.v h.spelled.octets g.spelled.octets h.spelled.small g.spelled.small h.spelled.spells spells)
      ∙ sym g.spelled.digits

  encoded_not_refused : (text : List ℕ) (wrong : Wrong) → IsEncoded m id line text → IsUnencoded m id line wrong → ⊥
  encoded_not_refused text wrong h (NoJson none e) = none h.shows.0 h.shows.1
  encoded_not_refused text wrong h (Faulty fault path f e) =
      let same : f.0 ≡ h.shows.0 = one_tree line f.0 h.shows.0 f.2 h.shows.1 in
      not_both (named m id) h.shows.0 h.v (fault, f.1) (bounded m id is) h.shows.2
      (subst (λ (d : Data). first_fault (demands [] (named m id) d) ≡ Some (fault, f.1)) same f.3)
  encoded_not_refused text wrong h (Long v g long e) =
      let same : v ≡ h.v = one_shown v h.v g h.shows in
      let few : octet_count (whole_layout (tree m id) h.v) ≤ spelling_limit = spelled_count (tree m id) h.v h.spelled.octets h.spelled.spells in
      let less : octet_count (whole_layout (tree m id) v) ≤ spelling_limit =
      subst (λ (w : Value). octet_count (whole_layout (tree m id) w) ≤ spelling_limit) (sym same) few in
      absurd (omega (arith, less, long.long))

  one_decoded : (a b : List ℕ) → IsDecoded m id line a → IsDecoded m id line b → a ≡ b
  one_decoded a b h g =
      let same : g.octets ≡ h.octets = one_hex line g.octets h.octets g.digits h.digits in
      let spells : Spells (tree m id) g.v h.octets = subst (λ (os : List ℕ). Spells (tree m id) g.v os) same g.spells in
      h.shown ∙ ap (λ (v : Value). compact_text (shown_as (named m id) v)) (one_read h.v g.v h.octets h.spells spells) ∙ sym g.shown
    where
      one_read : (v w : Value) (octets : List ℕ) → Spells (tree m id) v octets → Spells (tree m id) w octets → v ≡ w
      one_read v w octets s r =
          (one_value (tree m id) v w octets [] (tree_bounded m id is) s
          (subst (λ (os : List ℕ). Spells (tree m id) w os) (sym (append-nil octets)) r)).0

  decoded_not_refused : (text : List ℕ) (wrong : Wrong) → IsDecoded m id line text → IsUndecoded m id line wrong → ⊥
  decoded_not_refused text wrong h (NoHex none e) = let clash : Some h.octets ≡ None = sym h.digits ∙ none in cc
  decoded_not_refused text wrong h (Misspelled octets g w) =
      w.none.no_value h.v (subst (λ (os : List ℕ). Spells (tree m id) h.v os) (one_hex line h.octets octets h.digits g) h.spells)

pub one_answer : (way : Way) (m : Syntax) (id : ℕ) (line a b : List ℕ) → IsModule m → IsAnswered way m id line a
    → IsAnswered way m id line b → a ≡ b
one_answer Encode m id line a b is h g = one_encoded m is id line a b h g
one_answer Decode m id line a b is h g = one_decoded m is id line a b h g

pub not_refused : (way : Way) (m : Syntax) (id : ℕ) (line text : List ℕ) (wrong : Wrong) → IsModule m → IsAnswered way m id line text
    → IsWrong way m id line wrong → ⊥
not_refused Encode m id line text wrong is h g = encoded_not_refused m is id line text wrong h g
not_refused Decode m id line text wrong is h g = decoded_not_refused m is id line text wrong h g

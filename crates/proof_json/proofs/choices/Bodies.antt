-- What an information element and a message have beside their contents, and the contents: known ones, and octets.
use Rattle.std.proofs.Common.{◌≡◌, ℕ, ◌≤◌, true, List, [], ◌∷◌, ◌++◌, Option, Some, None, is_some, refl, sym, ap, ◌∙◌, arith}
use Rattle.serde_json.specs.Data.{Data, null, string, Members}
use Rattle.serde_json.specs.Find.{get_member}
use Rattle.aper_defs.specs.Fields.{Path}
use Rattle.aper_defs.specs.Layouts.{layout}
use Rattle.aper_defs.specs.Values.{Value}
use Rattle.aper_defs.specs.Membership.{IsRaw, FitsOpen, Has}
use Rattle.json_defs.specs.Named.{Named, tree_of}
use Rattle.json_defs.specs.Members.{Text, natural_in, are_keys_among, or_null, member_of, value_key, raw_key, criticality_key, criticalities, criticality_in}
use Rattle.json_defs.specs.Shown.{IsMember, HasCriticality, HasNatural, HasRaw, ShowsRaw, Shows}
use Rattle.json_defs.specs.Readings.{or_else, raw_in, raw_of, value_of}
use Rattle.json_defs.specs.Demands.{Demand, shape, range, raw_demands, raw_member, known_member, fits_open, demands}
use Rattle.proof_json.proofs.values.Holding.{Holds, Lawful, apart, is_there, front_holds, rest_holds, both_hold}
use Rattle.proof_json.proofs.values.Words.{raw_one, raw_forth, raw_back, place_bounds}
use Rattle.proof_json.proofs.values.Sequences.{fits, is_fitting}

-- ---- a member that is read
module _ {X : Type 0} (f : Data → Option X) (none : f null ≡ None) where
  read_member : (o : Option Data) (x : X) → f (or_null o) ≡ Some x → IsMember o (λ d. f d ≡ Some x)
  read_member None x h = let e : None ≡ Some x = sym none ∙ h in cc
  read_member (Some d) x h = h

  member_read : (o : Option Data) (x : X) → IsMember o (λ d. f d ≡ Some x) → f (or_null o) ≡ Some x
  member_read None x h = absurd h
  member_read (Some d) x h = h

pub natural_told : (key : Text) (ms : Members) (n : ℕ) → natural_in (member_of key ms) ≡ Some n → HasNatural key ms n
natural_told key ms n h = read_member natural_in refl (get_member key ms) n h

pub natural_read : (key : Text) (ms : Members) (n : ℕ) → HasNatural key ms n → natural_in (member_of key ms) ≡ Some n
natural_read key ms n h = member_read natural_in refl (get_member key ms) n h

pub criticality_read : (ms : Members) (n : ℕ) → HasCriticality ms n → criticality_in (member_of criticality_key ms) ≡ Some n
criticality_read ms n h = member_read criticality_in refl (get_member criticality_key ms) n h

criticality_most : (d : Data) (n : ℕ) → criticality_in d ≡ Some n → n ≤ 2
criticality_most (string s) n h = omega (arith, place_bounds criticalities s 0 n h)
criticality_most d n h = cc

pub criticality_told : (ms : Members) → is_some (criticality_in (member_of criticality_key ms)) ≡ true
    → HasCriticality ms (or_else 0 (criticality_in (member_of criticality_key ms)))
    × (or_else 0 (criticality_in (member_of criticality_key ms)) ≤ 2)
criticality_told ms h =
    let d = member_of criticality_key ms in
    let n = or_else 0 (criticality_in d) in
    let e = is_there 0 (criticality_in d) h in
    (read_member criticality_in refl (get_member criticality_key ms) n e, criticality_most d n e)

pub criticality_there : (ms : Members) (n : ℕ) → HasCriticality ms n → is_some (criticality_in (member_of criticality_key ms)) ≡ true
criticality_there ms n h = ap is_some (criticality_read ms n h)

-- ---- octets of what isn't known
pub raw_member_one : (keys : List Text) (ms : Members) (v : Value) → HasRaw keys ms v → v ≡ raw_of ms
raw_member_one keys ms v h = told (get_member raw_key ms) h.0
  where
    told : (o : Option Data) → IsMember o (λ d. ShowsRaw d v) → v ≡ raw_in (or_null o)
    told None g = absurd g
    told (Some d) g = raw_one d v g

module _ (q : Path) (keys : List Text) (ms : Members) where
  pub raw_member_forth : Holds (raw_member q keys ms) → HasRaw keys ms (raw_of ms) × IsRaw (raw_of ms)
  raw_member_forth h =
      let last : List Demand = shape q (are_keys_among (raw_key ∷ keys) ms) ∷ [] in
      let tail = rest_holds (raw_demands q (member_of raw_key ms)) last h.1 in
      let good = raw_forth q (member_of raw_key ms) (front_holds (raw_demands q (member_of raw_key ms)) last h.1) in
      ((told (get_member raw_key ms) h.0 good.0, tail.0), good.1)
    where
      told : (o : Option Data) → is_some o ≡ true → ShowsRaw (or_null o) (raw_in (or_null o))
          → IsMember o (λ d. ShowsRaw d (raw_in (or_null o)))
      told None e g = absurd (apart e)
      told (Some d) e g = g

  pub raw_member_back : (v : Value) → HasRaw keys ms v → IsRaw v → Holds (raw_member q keys ms)
  raw_member_back v h g = told (get_member raw_key ms) h.0
    where
      told : (o : Option Data) → IsMember o (λ d. ShowsRaw d v)
          → Holds (shape q (is_some o) ∷ (raw_demands q (or_null o) ++ shape q (are_keys_among (raw_key ∷ keys) ms) ∷ []))
      told None s = absurd s
      told (Some d) s =
          (refl, both_hold (raw_demands q d) (shape q (are_keys_among (raw_key ∷ keys) ms) ∷ []) (raw_back q d v s g) (h.1, tt))

-- ---- contents of a known type
abbrev pub HasKnown : List Text → Members → Named → Value → Type 0
HasKnown keys ms t v = IsMember (get_member value_key ms) (λ d. Shows t d v) × (are_keys_among (value_key ∷ keys) ms ≡ true)

abbrev pub HasFitting : Path → Named → Value → Type 0
HasFitting q t v = Has q (tree_of t) v × FitsOpen q (layout q (tree_of t) v)

pub known_one : (keys : List Text) (ms : Members) (t : Named) → Lawful t → (v : Value) → HasKnown keys ms t v
    → v ≡ value_of t (member_of value_key ms)
known_one keys ms t l v h = told (get_member value_key ms) h.0
  where
    told : (o : Option Data) → IsMember o (λ d. Shows t d v) → v ≡ value_of t (or_null o)
    told None g = absurd g
    told (Some d) g = l.one d v g

module _ (q : Path) (keys : List Text) (ms : Members) (t : Named) (l : Lawful t) where
  abbrev given : Data
  given = member_of value_key ms

  abbrev last_asked : List Demand
  last_asked = shape q (are_keys_among (value_key ∷ keys) ms) ∷ range q (fits_open q t given) ∷ []

  pub known_forth : Holds (known_member q keys ms t (demands q t given)) → HasKnown keys ms t (value_of t given)
      × HasFitting q t (value_of t given)
  known_forth h =
      let good = l.forth q given (front_holds (demands q t given) last_asked h.1) in
      let tail = rest_holds (demands q t given) last_asked h.1 in
      ((told (get_member value_key ms) h.0 good.0, tail.0), (good.1, fits q t given tail.1.0))
    where
      told : (o : Option Data) → is_some o ≡ true → Shows t (or_null o) (value_of t (or_null o))
          → IsMember o (λ d. Shows t d (value_of t (or_null o)))
      told None e g = absurd (apart e)
      told (Some d) e g = g

  pub known_back : (v : Value) → HasKnown keys ms t v → HasFitting q t v → Holds (known_member q keys ms t (demands q t given))
  known_back v h g = told (get_member value_key ms) h.0
    where
      told : (o : Option Data) → IsMember o (λ d. Shows t d v)
          → Holds (shape q (is_some o) ∷ (demands q t (or_null o)
          ++ shape q (are_keys_among (value_key ∷ keys) ms) ∷ range q (fits_open q t (or_null o)) ∷ []))
      told None s = absurd s
      told (Some d) s = (
        refl,
        both_hold (demands q t d) (shape q (are_keys_among (value_key ∷ keys) ms) ∷ range q (fits_open q t d) ∷ [])
            (l.back q d v s g.0) (h.1, (is_fitting q t d v (l.one d v s) g.1, tt)),
      )

-- A spelling has one value, and isn't the beginning of another spelling.
use Rattle.std.proofs.Common.{◌≡◌, ℕ, ◌*◌, List, [], ◌∷◌, ◌++◌, length, Result, Ok, refl, sym, ap, subst, ◌∙◌, arith, append-nil}
use Rattle.std.proofs.lemmas.List.{length-append}
use Rattle.aper_defs.specs.Trees.{Tree}
use Rattle.aper_defs.specs.Values.{Value}
use Rattle.aper_defs.specs.Bounds.{IsBounded}
use Rattle.aper_defs.specs.Spelling.{Spells}
use Rattle.aper_defs.specs.Asking.{asks_whole}
use Rattle.aper_defs.specs.Reading.{Cursor, Fault, at_first, run}
use Rattle.proof_aper.proofs.spelled.Spelled.{spelled_read}

pub one_value : (t : Tree) (v w : Value) (octets more : List ℕ) → IsBounded t → Spells t v octets → Spells t w (octets ++ more) → (v ≡ w)
    × (more ≡ [])
one_value t v w octets more b s r =
    let e : (octets ++ more) ++ [] ≡ octets ++ more = append-nil (octets ++ more) in
    let second : run (asks_whole t) (at_first (octets ++ more)) ≡ Ok
    (w, record { octets = octets ++ more; place = 8 * length (octets ++ more); opens = [] }) =
    subst (λ os. run (asks_whole t) (at_first os) ≡ Ok (w, record { octets = os; place = 8 * length (octets ++ more); opens = [] })) e
    (spelled_read t w (octets ++ more) [] b r) in
    let both = sym (spelled_read t v octets more b s) ∙ second in
    (same_value v w _ _ both, none_left more (omega (arith, same_place v w _ _ both, length-append octets more)))
  where
    same_value : (x y : Value) (c d : Cursor) → (let r : Result (Value × Cursor) Fault = Ok (x, c) in r) ≡ Ok (y, d) → x ≡ y
    same_value x y c d h = let g : (let a : Value × Cursor = (x, c) in a) ≡ (y, d) = cc in ap (λ (z : Value × Cursor). z.0) g

    same_place : (x y : Value) (c d : Cursor) → (let r : Result (Value × Cursor) Fault = Ok (x, c) in r) ≡ Ok (y, d) → c.place ≡ d.place
    same_place x y c d h = let g : (let a : Value × Cursor = (x, c) in a) ≡ (y, d) = cc in ap (λ (z : Value × Cursor). z.1.place) g

    none_left : (xs : List ℕ) → length xs ≡ 0 → xs ≡ []
    none_left [] h = refl
    none_left (x ∷ xs) h = absurd (omega (arith, h))

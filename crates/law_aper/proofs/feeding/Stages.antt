-- What stages say of what is found in octets.
use Rattle.std.proofs.Common.{◌≡◌, ℕ, ◌*◌, ◌/◌, ◌==◌, cond, Bool, true, false, List, [], Result, Ok, Err, refl, sym, ap, ◌∙◌, length}
use Rattle.aper_defs.specs.declared.reason.Reason.{Reason}
use Rattle.aper_defs.specs.declared.reason.Reason.TheVariants as reasons
use Rattle.aper_defs.specs.Trees.{Tree}
use Rattle.aper_defs.specs.Values.{Value}
use Rattle.aper_defs.specs.Asking.{asks_whole}
use Rattle.aper_defs.specs.Reading.{Cursor, Fault, at_first, run, only, decoded}
use Rattle.aper_defs.specs.feeding_defs.Feeding.{whole, cut, wrong, stage, stage_of, refused_for}

is_cut : (r : Reason) (f g : Fault) → refused_for r f ≡ cut g → (f ≡ g) × (r ≡ reasons.Truncated)
is_cut reasons.Truncated f g e = (cc, refl)
is_cut reasons.Padding f g e = absurd cc
is_cut reasons.Range f g e = absurd cc
is_cut reasons.NotMinimal f g e = absurd cc
is_cut reasons.Index f g e = absurd cc
is_cut reasons.Length f g e = absurd cc
is_cut reasons.Character f g e = absurd cc
is_cut reasons.Overrun f g e = absurd cc
is_cut reasons.Tail f g e = absurd cc
is_cut reasons.Required f g e = absurd cc
is_cut reasons.Order f g e = absurd cc
is_cut reasons.TooLong f g e = absurd cc
is_cut reasons.EmptyAdditions f g e = absurd cc

is_wrong : (r : Reason) (f g : Fault) → refused_for r f ≡ wrong g → (f ≡ g) × (r ≡ reasons.Truncated → ⊥)
is_wrong reasons.Truncated f g e = absurd cc
is_wrong reasons.Padding f g e = (cc, λ n. cc)
is_wrong reasons.Range f g e = (cc, λ n. cc)
is_wrong reasons.NotMinimal f g e = (cc, λ n. cc)
is_wrong reasons.Index f g e = (cc, λ n. cc)
is_wrong reasons.Length f g e = (cc, λ n. cc)
is_wrong reasons.Character f g e = (cc, λ n. cc)
is_wrong reasons.Overrun f g e = (cc, λ n. cc)
is_wrong reasons.Tail f g e = (cc, λ n. cc)
is_wrong reasons.Required f g e = (cc, λ n. cc)
is_wrong reasons.Order f g e = (cc, λ n. cc)
is_wrong reasons.TooLong f g e = (cc, λ n. cc)
is_wrong reasons.EmptyAdditions f g e = (cc, λ n. cc)

pub found_cut : (r : Result (Value × Cursor) Fault) (g : Fault) → stage_of r ≡ cut g → (r ≡ Err g) × (g.reason ≡ reasons.Truncated)
found_cut (Ok (v, c)) g e = absurd cc
found_cut (Err f) g e = let s = is_cut f.reason f g e in (ap (λ (x : Fault). Err x) s.0, ap (λ (x : Fault). x.reason) (sym s.0) ∙ s.1)

pub found_wrong : (r : Result (Value × Cursor) Fault) (g : Fault) → stage_of r ≡ wrong g
    → (r ≡ Err g) × (g.reason ≡ reasons.Truncated → ⊥)
found_wrong (Ok (v, c)) g e = absurd cc
found_wrong (Err f) g e =
    let s = is_wrong f.reason f g e in (ap (λ (x : Fault). Err x) s.0, λ n. s.1 (ap (λ (x : Fault). x.reason) s.0 ∙ n))

-- a value with the place after it
pub record Found (r : Result (Value × Cursor) Fault) (v : Value) (size : ℕ) : Type 0 where
  pub after : Cursor
  pub is : r ≡ Ok (v, after)
  pub size_is : after.place / 8 ≡ size

pub found_whole : (r : Result (Value × Cursor) Fault) (v : Value) (size : ℕ) → stage_of r ≡ whole v size → Found r v size
found_whole (Ok (w, c)) v size e =
    let same : w ≡ v = cc in
    record { after = c; is = ap (λ (x : Value). (let r : Result (Value × Cursor) Fault = Ok (x, c) in r)) same; size_is = cc }
found_whole (Err f) v size e = absurd (not_whole f.reason e)
  where
    not_whole : (r : Reason) → refused_for r f ≡ whole v size → ⊥
    not_whole reasons.Truncated e = cc
    not_whole reasons.Padding e = cc
    not_whole reasons.Range e = cc
    not_whole reasons.NotMinimal e = cc
    not_whole reasons.Index e = cc
    not_whole reasons.Length e = cc
    not_whole reasons.Character e = cc
    not_whole reasons.Overrun e = cc
    not_whole reasons.Tail e = cc
    not_whole reasons.Required e = cc
    not_whole reasons.Order e = cc
    not_whole reasons.TooLong e = cc
    not_whole reasons.EmptyAdditions e = cc

-- ---- and of what is decoded
module _ (t : Tree) (kept : List ℕ) (fault : Fault) where
  pub cut_decoded : stage t kept ≡ cut fault → (decoded t kept ≡ Err fault) × (fault.reason ≡ reasons.Truncated)
  cut_decoded e = let f = found_cut (run (asks_whole t) (at_first kept)) fault e in (ap only f.0, f.1)

  pub wrong_decoded : stage t kept ≡ wrong fault → (decoded t kept ≡ Err fault) × (fault.reason ≡ reasons.Truncated → ⊥)
  wrong_decoded e = let f = found_wrong (run (asks_whole t) (at_first kept)) fault e in (ap only f.0, f.1)

  pub decoded_cut : decoded t kept ≡ Err fault → fault.reason ≡ reasons.Truncated → stage t kept ≡ cut fault
  decoded_cut e short = go (run (asks_whole t) (at_first kept)) e
    where
      tail : (v : Value) (c : Cursor) (b : Bool)
          → cond b (Ok v) (Err (record { bit = c.place; reason = reasons.Tail; path = [] }))
          ≡ (let r : Result Value Fault = Err fault in r) → ⊥
      tail v c true f = cc
      tail v c false f =
          let same : reasons.Tail ≡ fault.reason = cc in let clash : reasons.Tail ≡ reasons.Truncated = same ∙ short in cc

      go : (r : Result (Value × Cursor) Fault) → only r ≡ Err fault → stage_of r ≡ cut fault
      go (Ok (v, c)) f = absurd (tail v c (c.place == 8 * length c.octets) f)
      go (Err g) f =
          let same : g ≡ fault = cc in
          ap (λ (x : Fault). refused_for x.reason x) same ∙ ap (λ (x : Reason). refused_for x fault) short

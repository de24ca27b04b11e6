-- What is looked at of octets says what all of them do.
use Rattle.std.proofs.Common.{◌≡◌, ℕ, ◌+◌, ◌-◌, ◌*◌, ◌==◌, ◌<◌, ◌≤◌, nat_le, cond, Bool, true, false, List, [], ◌++◌, length, take, drop, Result, Ok, Err, refl, sym, ap, ◌∙◌, arith, append-nil, length-append}
use Rattle.std.proofs.Math.Seq.{take-append-add}
use Rattle.std.proofs.lemmas.Bool.Decides.{nat_tests}
use Rattle.std.proofs.lemmas.List.{take-append-le, take_all, take-append-drop, length-take}
use Rattle.aper_defs.specs.declared.reason.Reason.TheVariants as reasons
use Rattle.aper_defs.specs.Trees.{Tree}
use Rattle.aper_defs.specs.Values as seen
use Rattle.aper_defs.specs.Asking.{asks_whole}
use Rattle.aper_defs.specs.Reading.{Cursor, Fault, at_first, run, only, decoded}
use Rattle.proof_aper.proofs.answers.NumberFacts.{by_cases, at_most}
use Rattle.proof_aper.specs.pieces.Onto.{StillRefused}
use Rattle.proof_aper.proofs.pieces.Onward.{run_ok, run_wrong}
use Rattle.aper_defs.specs.feeding_defs.Feeding.{stage, stage_of, refused_for}
use Rattle.aper_decode.proofs.Front.{front_decoded}

-- octets of which as many are decoded alike are at the same stage
module _ (t : Tree) (A B : List ℕ) (same : decoded t (A ++ B) ≡ decoded t A) where
  -- what is refused is no value with octets after it
  not_whole : (f : Fault) (w : seen.Value) (c : Cursor) → run (asks_whole t) (at_first A) ≡ Err f
      → run (asks_whole t) (at_first (A ++ B)) ≡ Ok (w, c) → decoded t (A ++ B) ≡ Err f → ⊥
  not_whole f w c wrong is d = by_end (c.place == 8 * length c.octets) (sym (ap only is) ∙ d)
    where
      by_end : (b : Bool)
          → cond b (Ok w) (Err (record { bit = c.place; reason = reasons.Tail; path = [] })) ≡ (let r : Result seen.Value Fault = Err f in r)
          → ⊥
      by_end true e = cc
      by_end false e =
          let tail : reasons.Tail ≡ f.reason = cc in
          let still : StillRefused (run (asks_whole t) (at_first (A ++ B))) f =
          run_wrong (asks_whole t) (at_first A) B f wrong (λ cut. (let clash : reasons.Tail ≡ reasons.Truncated = tail ∙ cut in cc)) in
          let clash : (let r : Result (seen.Value × Cursor) Fault = Ok (w, c) in r) ≡ Err (record { bit = f.bit; reason = still.why; path = f.path }) =
          sym is ∙ still.is in cc

  same_refused : (f : Fault) (r : Result (seen.Value × Cursor) Fault) → run (asks_whole t) (at_first A) ≡ Err f
      → run (asks_whole t) (at_first (A ++ B)) ≡ r → stage t (A ++ B) ≡ refused_for f.reason f
  same_refused f (Ok (w, c)) wrong is = absurd (not_whole f w c wrong is (same ∙ ap only wrong))
  same_refused f (Err g) wrong is =
      let both : (let r : Result seen.Value Fault = Err g in r) ≡ Err f = sym (ap only is) ∙ same ∙ ap only wrong in
      let as_before : g ≡ f = cc in
      ap stage_of is ∙ ap (λ (x : Fault). refused_for x.reason x) as_before

  by_run : (r : Result (seen.Value × Cursor) Fault) → run (asks_whole t) (at_first A) ≡ r → stage t (A ++ B) ≡ stage_of r
  by_run (Ok (v, c)) is = ap stage_of (run_ok (asks_whole t) (at_first A) B v c is)
  by_run (Err f) is = same_refused f (run (asks_whole t) (at_first (A ++ B))) is refl

  pub same_stage : stage t (A ++ B) ≡ stage t A
  same_stage = by_run (run (asks_whole t) (at_first A)) refl

pub either_way : (n size : ℕ) (P : Type 0) → (n ≤ size → P) → (size < n → P) → P
either_way n size P short long = by_cases (nat_le n size) (λ b. P) (λ h. short (at_most n size h)) (λ h. long (grind (arith, nat_tests)))

module _ (t : Tree) (octets : List ℕ) where
  pub front_same : decoded t (take 131073 octets) ≡ decoded t octets
  front_same =
      either_way 131073 (length octets) (decoded t (take 131073 octets) ≡ decoded t octets)
      (λ h. front_decoded t octets 131073 (omega arith) h)
      (λ h. ap (decoded t) (take_all 131073 octets (omega (arith, h))))

  whole : take 131073 octets ++ drop 131073 octets ≡ octets
  whole = take-append-drop 131073 octets

  pub front_stage : stage t (take 131073 octets) ≡ stage t octets
  front_stage =
      sym (same_stage t (take 131073 octets) (drop 131073 octets) (ap (decoded t) whole ∙ sym front_same))
      ∙ ap (stage t) whole

-- with more octets
pub more_front : (n : ℕ) (a b : List ℕ) → take n (a ++ b) ≡ take n a ++ take (n - length a) b
more_front n a b =
    either_way n (length a) (take n (a ++ b) ≡ take n a ++ take (n - length a) b)
    (λ h. let none : n - length a ≡ 0 = omega (arith, h) in
    take-append-le n a b h ∙ sym (append-nil (take n a)) ∙ ap (λ (k : ℕ). take n a ++ take k b) (sym none))
    (λ h. let sum : n ≡ length a + (n - length a) = omega (arith, h) in
    ap (λ (k : ℕ). take k (a ++ b)) sum ∙ take-append-add a b (n - length a)
    ∙ ap (λ (xs : List ℕ). xs ++ take (n - length a) b) (sym (take_all n a (omega (arith, h)))))

pub front_grows : (n : ℕ) (a b : List ℕ) → length (take n a) ≤ length (take n (a ++ b))
front_grows n a b = omega (arith, length-take n a, length-take n (a ++ b), length-append a b)

pub front_short : (octets : List ℕ) → length (take 131073 octets) ≤ length octets
front_short octets = omega (arith, length-take 131073 octets)

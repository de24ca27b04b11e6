-- Wherever octets are cut, the same is said of them.
use Rattle.std.proofs.Common.{◌≡◌, ℕ, ◌+◌, ◌*◌, ◌/◌, ◌<◌, ◌≤◌, nat_lt, List, [], ◌∷◌, ◌++◌, length, take, drop, refl, sym, ap, subst, ◌∙◌, arith, append_assoc, append-nil}
use Rattle.std.proofs.lemmas.List.{length-append, take-append-drop, take-append-le, take_at}
use Rattle.aper_defs.specs.Trees.{Tree}
use Rattle.aper_defs.specs.Values.{Value}
use Rattle.aper_defs.specs.Bounds.{IsBounded}
use Rattle.aper_defs.specs.Spelling.{Spells}
use Rattle.aper_defs.specs.Asking.{asks_whole}
use Rattle.aper_defs.specs.Reading.{Fault, at_first, run}
use Rattle.proof_aper.proofs.answers.NumberFacts.{by_cases, below, not_below}
use Rattle.proof_aper.proofs.pieces.Onward.{run_ok, run_wrong}
use Rattle.law_aper.proofs.pieces.Fronts.{begun, begun_again}
use Rattle.aper_defs.specs.feeding_defs.Feeding.{Stage, whole, cut, wrong, stage, stage_of, Fed, fed, unless_ended, joined}
use Rattle.law_aper.specs.feeding.Whole.{SaysOf}
use Rattle.law_aper.proofs.feeding.Stages.{Found, found_wrong, found_whole}

module _ (t : Tree) where
  itself : (kept : List ℕ) (s : Stage) → stage t kept ≡ s → SaysOf t kept s
  itself kept (whole v size) e = e
  itself kept (cut fault) e = e
  itself kept (wrong fault) e =
      record { why = fault.reason; is = (found_wrong (run (asks_whole t) (at_first kept)) fault e).0; same = λ n. refl }

  -- what has ended stays so
  on : (kept more : List ℕ) (s : Stage) (next : Fed) → stage t kept ≡ s → SaysOf t (kept ++ more) next.now
      → SaysOf t (kept ++ more) (unless_ended kept s next).now
  on kept more (whole v size) next e h =
      let f : Found (run (asks_whole t) (at_first kept)) v size = found_whole (run (asks_whole t) (at_first kept)) v size e in
      ap stage_of (run_ok (asks_whole t) (at_first kept) more v f.after f.is) ∙ ap (whole v) f.size_is
  on kept more (cut fault) next e h = h
  on kept more (wrong fault) next e h =
      let f = found_wrong (run (asks_whole t) (at_first kept)) fault e in run_wrong (asks_whole t) (at_first kept) more fault f.0 f.1

  said : (kept : List ℕ) (pieces : List (List ℕ)) → SaysOf t (kept ++ joined pieces) (fed t kept pieces).now
  unfolding fed
  said kept [] = subst (λ (os : List ℕ). SaysOf t os (stage t kept)) (sym (append-nil kept)) (itself kept (stage t kept) refl)
  said kept (piece ∷ pieces) =
      let all = kept ++ piece in
      subst (λ (os : List ℕ). SaysOf t os (unless_ended all (stage t all) (fed t all pieces)).now)
      (append_assoc kept piece (joined pieces))
      (on all (joined pieces) (stage t all) (fed t all pieces) refl (said all pieces))

  pub cutting : (pieces : List (List ℕ)) → SaysOf t (joined pieces) (fed t [] pieces).now
  cutting pieces = said [] pieces

  all_kept : (kept : List ℕ) (pieces : List (List ℕ)) (fault : Fault) → (fed t kept pieces).now ≡ cut fault
      → (fed t kept pieces).kept ≡ kept ++ joined pieces
  unfolding fed
  all_kept kept [] fault e = sym (append-nil kept)
  all_kept kept (piece ∷ pieces) fault e = go (stage t (kept ++ piece)) e (all_kept (kept ++ piece) pieces fault)
    where
      next : Fed
      next = fed t (kept ++ piece) pieces

      go : (s : Stage) → (unless_ended (kept ++ piece) s next).now ≡ cut fault
          → (next.now ≡ cut fault → next.kept ≡ (kept ++ piece) ++ joined pieces)
          → (unless_ended (kept ++ piece) s next).kept ≡ kept ++ (piece ++ joined pieces)
      go (whole v size) h inner = absurd cc
      go (cut f) h inner = inner h ∙ append_assoc kept piece (joined pieces)
      go (wrong f) h inner = absurd cc

  pub keeps : (pieces : List (List ℕ)) (fault : Fault) → (fed t [] pieces).now ≡ cut fault → (fed t [] pieces).kept ≡ joined pieces
  keeps pieces fault e = all_kept [] pieces fault e

  -- ---- where a value is there
  pub spelled : (kept : List ℕ) (v : Value) (size : ℕ) → IsBounded t → stage t kept ≡ whole v size
      → (front more : List ℕ) × (kept ≡ front ++ more) × Spells t v front × (size ≡ length front)
  spelled kept v size b e =
      let f : Found (run (asks_whole t) (at_first kept)) v size = found_whole (run (asks_whole t) (at_first kept)) v size e in
      let g = begun t kept v f.after b f.is in
      (g.0, g.1, g.2, g.3, sym f.size_is ∙ ap (λ (n : ℕ). n / 8) g.4 ∙ eighth (length g.0))
    where
      eighth : (n : ℕ) → (8 * n) / 8 ≡ n
      eighth n = omega arith

  pub found : (v : Value) (front more : List ℕ) → IsBounded t → Spells t v front → stage t (front ++ more) ≡ whole v (length front)
  found v front more b s =
      ap stage_of (begun_again t v front more b s) ∙ ap (whole v) (eighth (length front))
    where
      eighth : (n : ℕ) → (8 * n) / 8 ≡ n
      eighth n = omega arith

  -- what is cut off isn't there
  pub completes : (kept piece : List ℕ) (fault : Fault) (v : Value) (size : ℕ) → IsBounded t → stage t kept ≡ cut fault
      → stage t (kept ++ piece) ≡ whole v size → (length kept < size) × (size ≤ length kept + length piece)
  completes kept piece fault v size b before after =
      let g = spelled (kept ++ piece) v size b after in
      let front = g.0 in
      let whole_length : length kept + length piece ≡ length front + length g.1 =
      sym (length-append kept piece) ∙ ap length g.2 ∙ length-append front g.1 in
      (later front g.1 g.2 g.3 g.4, omega (arith, whole_length, g.4))
    where
      later : (front more : List ℕ) → kept ++ piece ≡ front ++ more → Spells t v front → size ≡ length front → length kept < size
      later front more e s is = by_cases (nat_lt (length kept) size) (λ b. length kept < size)
          (λ h. below (length kept) size h)
          (λ h. absurd (clash (not_below (length kept) size h)))
        where
          clash : size ≤ length kept → ⊥
          clash less =
              let within : length front ≤ length kept = omega (arith, less, is) in
              let same : take (length front) kept ≡ front =
              sym (take-append-le (length front) kept piece within) ∙ ap (take (length front)) e ∙ take_at front more (length front) refl in
              let is_kept : kept ≡ front ++ drop (length front) kept =
              sym (take-append-drop (length front) kept) ∙ ap (λ (os : List ℕ). os ++ drop (length front) kept) same in
              let there : stage t kept ≡ whole v (length front) = ap (stage t) is_kept ∙ found v front (drop (length front) kept) b s in
              let two : cut fault ≡ whole v (length front) = sym before ∙ there in
              cc

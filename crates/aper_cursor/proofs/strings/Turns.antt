-- One turn of each loop, whatever is asked after it.
use Rattle.std.proofs.Common.{◌≡◌, ℕ, suc, ◌+◌, ◌-◌, ◌<◌, ◌≤◌, cond, nat_lt, List, [], ◌∷◌, ◌++◌, length, Bool, Option, Result, Ok, Err, sym, ap, ◌∙◌, arith, append_assoc}
use Rattle.std.proofs.Math.Path.{fun_ext}
use Rattle.asn1_syntax.specs.declared.types.definition.Size.{Size}
use Rattle.aper_defs.specs.declared.reason.Reason.{Reason}
use Rattle.aper_defs.specs.Fields.{Path, character, extent, part}
use Rattle.aper_defs.specs.Fields as fields
use Rattle.aper_defs.specs.Values.{Value}
use Rattle.aper_defs.specs.Bits.{part_units}
use Rattle.aper_defs.specs.Parts.{Content}
use Rattle.aper_defs.specs.Questions.{Prog, ask, never, ask_aligned, ask_characters, ask_units, ask_parts}
use Rattle.aper_defs.specs.Reading.{Cursor, Fault, read, run, goes_on, answered_at}
use Rattle.proof_aper.proofs.answers.NumberFacts.{is_below, is_not_below}
use Rattle.aper_cursor.specs.asking.Going.{fault_at}

-- ---- characters
pub characters_turn : (count : ℕ) (out : List ℕ) (x : ℕ) (c d : Cursor)
    → ((p : Path) (J : ℕ → Prog) → run (ask p character J) c ≡ run (J x) d)
    → (p : Path) (K : List ℕ → Prog)
    → run (ask_characters p (suc count) (λ us. K (out ++ us))) c
    ≡ run (ask_characters p count (λ us. K ((out ++ x ∷ []) ++ us))) d
characters_turn count out x c d asked p K =
    asked p (λ y. ask_characters p count (λ us. K (out ++ (y ∷ us))))
    ∙ ap (λ (J : List ℕ → Prog). run (ask_characters p count J) d) (fun_ext (λ us. ap K (sym (append_assoc out (x ∷ []) us))))

bit_of : Result (Value × Cursor) Fault → ℕ
bit_of (Ok y) = 0
bit_of (Err fault) = fault.bit

path_of : Result (Value × Cursor) Fault → Path
path_of (Ok y) = []
path_of (Err fault) = fault.path

-- The place is after the character: what can't go on shows it.
pub character_on : (x : ℕ) (c d : Cursor) → ((p : Path) (J : ℕ → Prog) → run (ask p character J) c ≡ run (J x) d) → c.place + 8 ≡ d.place
unfolding run bit_of path_of
character_on x c d asked = go (read character c) (asked (fields.member 0 ∷ []) (λ z. never))
  where
    go : (r : Result ℕ Reason) → goes_on (fields.member 0 ∷ []) c r (λ n. run never (answered_at character n c)) ≡ run never d
        → c.place + 8 ≡ d.place
    go (Ok n) h = ap bit_of h
    go (Err reason) h = let e : fields.member 0 ∷ [] ≡ [] = ap path_of h in cc

-- ---- parts
-- what is asked after a part of so many units, with all units up to it
abbrev pub after_part : Path → Content → Option Size → (turns before : ℕ) → (List ℕ → Prog) → ℕ → List ℕ → Prog
after_part p content outside turns before K n us =
    cond (nat_lt n part_units) (K us) (ask_parts p content outside turns (before + n) n (λ more. K (us ++ more)))

-- the same, with the units of the part alone
abbrev pub in_part : Path → Content → Option Size → (turns before : ℕ) → (List ℕ → Prog) → List ℕ → ℕ → List ℕ → Prog
in_part p content outside turns before K out n us =
    cond (nat_lt n part_units) (K (out ++ us)) (ask_parts p content outside turns (before + n) n (λ more. K (out ++ (us ++ more))))

pub parts_as : (p : Path) (content : Content) (outside : Option Size) (turns before previous : ℕ) (K : List ℕ → Prog) (out : List ℕ)
    → ask_parts p content outside (suc turns) before previous (λ us. K (out ++ us))
    ≡ ask_aligned p (extent (part before previous outside)) (λ n. ask_units p content n (λ us.
    after_part p content outside turns before K n (out ++ us)))
unfolding ask_parts
parts_as p content outside turns before previous K out =
    ap (λ (f : ℕ → List ℕ → Prog). ask_aligned p (extent (part before previous outside)) (λ n. ask_units p content n (f n)))
    (fun_ext (λ n. fun_ext (λ us. ap (λ (L : List ℕ → Prog). cond (nat_lt n part_units) (K (out ++ us))
    (ask_parts p content outside turns (before + n) n L)) (fun_ext (λ more. ap K (sym (append_assoc out us more)))))))

module _ (content : Content) (outside : Option Size) (turn before previous : ℕ) (out : List ℕ) (c d : Cursor)
    (early : turn < 65) (before_is : before ≡ length out) where
  -- what is asked, with one part more
  parts_here : (p : Path) (K : List ℕ → Prog)
      → run (ask_parts p content outside (65 - turn) (length out) previous (λ us. K (out ++ us))) c
      ≡ run (ask_aligned p (extent (part before previous outside)) (λ n. ask_units p content n (λ us.
      after_part p content outside (64 - turn) (length out) K n (out ++ us)))) c
  parts_here p K =
      let left : 65 - turn ≡ suc (64 - turn) = omega arith in
      ap (λ (k : ℕ). run (ask_parts p content outside k (length out) previous (λ us. K (out ++ us))) c) left
      ∙ ap (λ P. run P c) (parts_as p content outside (64 - turn) (length out) previous K out)
      ∙ ap (λ (b : ℕ). run (ask_aligned p (extent (part b previous outside)) (λ n. ask_units p content n (λ us.
      after_part p content outside (64 - turn) (length out) K n (out ++ us)))) c) (sym before_is)

  pub length_wrong : (reason : Reason)
      → ((p : Path) (J : ℕ → Prog) → run (ask_aligned p (extent (part before previous outside)) J) c ≡ Err (fault_at d reason p))
      → (p : Path) (K : List ℕ → Prog)
      → run (ask_parts p content outside (65 - turn) (length out) previous (λ us. K (out ++ us))) c ≡ Err (fault_at d reason p)
  length_wrong reason wrong p K = parts_here p K ∙ wrong p (λ n. ask_units p content n (λ us.
      after_part p content outside (64 - turn) (length out) K n (out ++ us)))

  module _ (n : ℕ)
      (asked : (p : Path) (J : ℕ → Prog) → run (ask_aligned p (extent (part before previous outside)) J) c ≡ run (J n) d) where
    -- the units of the part
    pub units_there : (p : Path) (K : List ℕ → Prog)
        → run (ask_parts p content outside (65 - turn) (length out) previous (λ us. K (out ++ us))) c
        ≡ run (ask_units p content n (λ us. after_part p content outside (64 - turn) (length out) K n (out ++ us))) d
    units_there p K = parts_here p K ∙ asked p (λ m. ask_units p content m (λ us.
        after_part p content outside (64 - turn) (length out) K m (out ++ us)))

    module _ (after : List ℕ) (e : Cursor)
        (units : (p : Path) (J : List ℕ → Prog) → run (ask_units p content n (λ us. J (out ++ us))) d ≡ run (J after) e) where
      part_there : (p : Path) (K : List ℕ → Prog)
          → run (ask_parts p content outside (65 - turn) (length out) previous (λ us. K (out ++ us))) c
          ≡ run (after_part p content outside (64 - turn) (length out) K n after) e
      part_there p K = units_there p K ∙ units p (after_part p content outside (64 - turn) (length out) K n)

      pub last_part : n < part_units → (p : Path) (K : List ℕ → Prog)
          → run (ask_parts p content outside (65 - turn) (length out) previous (λ us. K (out ++ us))) c ≡ run (K after) e
      last_part few p K = part_there p K
          ∙ ap (λ (b : Bool). run (cond b (K after) (ask_parts p content outside (64 - turn) (length out + n) n (λ more. K (after ++ more)))) e)
          (is_below n part_units few)

      pub further_part : part_units ≤ n → length after ≡ length out + n → (p : Path) (K : List ℕ → Prog)
          → run (ask_parts p content outside (65 - turn) (length out) previous (λ us. K (out ++ us))) c
          ≡ run (ask_parts p content outside (65 - (turn + 1)) (length after) n (λ us. K (after ++ us))) e
      further_part many size p K =
          let left : 64 - turn ≡ 65 - (turn + 1) = omega arith in
          part_there p K
          ∙ ap (λ (b : Bool). run (cond b (K after) (ask_parts p content outside (64 - turn) (length out + n) n (λ more. K (after ++ more)))) e)
          (is_not_below n part_units many)
          ∙ ap (λ (k : ℕ). run (ask_parts p content outside k (length out + n) n (λ more. K (after ++ more))) e) left
          ∙ ap (λ (k : ℕ). run (ask_parts p content outside (65 - (turn + 1)) k n (λ more. K (after ++ more))) e) (sym size)

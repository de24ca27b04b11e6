-- One more component or addition, whatever is asked after it.
use Rattle.std.proofs.Common.{◌≡◌, ℕ, suc, ◌/◌, ◌%◌, ◌^◌, ◌==◌, cond, Bool, true, false, List, [], ◌∷◌, ◌++◌, Err, refl, sym, ap, ◌∙◌, append_assoc}
use Rattle.std.proofs.Math.Path.{fun_ext}
use Rattle.bits_core.specs.Bits.{bits_of}
use Rattle.asn1_syntax.specs.declared.types.definition.Component.{Component}
use Rattle.aper_defs.specs.declared.reason.Reason.{Reason}
use Rattle.aper_defs.specs.Fields.{Path}
use Rattle.aper_defs.specs.Trees.{Tree, Parts, part}
use Rattle.aper_defs.specs.Questions.{Prog, ask_extension, ask_flags}
use Rattle.aper_defs.specs.Reading.{Cursor, run}
use Rattle.aper_cursor.specs.asking.Going.{fault_at}
use Rattle.aper_values.specs.types.Types.{parts_of}

-- as an extension bit
flags_as : (p : Path) (name : List ℕ) (optional : Bool) (t : Tree) (others : Parts) (K : List Bool → Prog)
    → ask_flags p (part name optional t others) K
    ≡ ask_extension p optional (λ marked. ask_flags p others (λ bs. K (cond optional marked true ∷ bs)))
flags_as p name true t others K = refl
flags_as p name false t others K = refl

module _ (of : ℕ → Tree) (q : Component) (parts : List Component) (out : List Bool) (c d : Cursor) where
  pub flags_turn : (marked there : Bool)
      → ((p : Path) (J : Bool → Prog) → run (ask_extension p q.optional J) c ≡ run (J marked) d)
      → there ≡ cond q.optional marked true
      → (p : Path) (K : List Bool → Prog)
      → run (ask_flags p (parts_of of (q ∷ parts)) (λ bs. K (out ++ bs))) c
      ≡ run (ask_flags p (parts_of of parts) (λ bs. K ((out ++ there ∷ []) ++ bs))) d
  flags_turn marked there asked e p K =
      ap (λ P. run P c) (flags_as p q.name q.optional (of q.definition.number) (parts_of of parts) (λ bs. K (out ++ bs)))
      ∙ asked p (λ m. ask_flags p (parts_of of parts) (λ bs. K (out ++ (cond q.optional m true ∷ bs))))
      ∙ ap (λ (b : Bool). run (ask_flags p (parts_of of parts) (λ bs. K (out ++ (b ∷ bs)))) d) (sym e)
      ∙ ap (λ (J : List Bool → Prog). run (ask_flags p (parts_of of parts) J) d)
      (fun_ext (λ bs. ap K (sym (append_assoc out (there ∷ []) bs))))

  pub flags_wrong : (reason : Reason)
      → ((p : Path) (J : Bool → Prog) → run (ask_extension p q.optional J) c ≡ Err (fault_at d reason p))
      → (p : Path) (K : List Bool → Prog)
      → run (ask_flags p (parts_of of (q ∷ parts)) (λ bs. K (out ++ bs))) c ≡ Err (fault_at d reason p)
  flags_wrong reason asked p K =
      ap (λ P. run P c) (flags_as p q.name q.optional (of q.definition.number) (parts_of of parts) (λ bs. K (out ++ bs)))
      ∙ asked p (λ m. ask_flags p (parts_of of parts) (λ bs. K (out ++ (cond q.optional m true ∷ bs))))

-- the highest of so many bits
pub bits_turn : (width n : ℕ) (out : List Bool) (b : Bool) → b ≡ (n / 2 ^ width % 2 == 1)
    → (out ++ b ∷ []) ++ bits_of width n ≡ out ++ bits_of (suc width) n
unfolding bits_of
bits_turn width n out b e = append_assoc out (b ∷ []) (bits_of width n) ∙ ap (λ (x : Bool). out ++ (x ∷ bits_of width n)) e

pub bits_none : (n : ℕ) → bits_of 0 n ≡ []
unfolding bits_of
bits_none n = refl

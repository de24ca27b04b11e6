-- Loops over bearers: whether each is quiet, what is printed of each, and how many packets of each aren't delivered.
use Rattle.std.proofs.Common.{◌≡◌, ℕ, ◌+◌, Bool, true, false, ◌&&◌, List, [], ◌∷◌, ◌++◌, sym, ◌∙◌, ap, append_assoc, arith}
use Rattle.gnb_types.specs.declared.names.UeId.{UeId}
use Rattle.gnb_types.specs.declared.names.BearerId.{BearerId}
use Rattle.gnb_types.specs.declared.names.Dir.TheVariants.{Dl, Ul}
use Rattle.scenario_text.specs.declared.line.OutLine.{OutLine}
use Rattle.run_defs.specs.Printing.{out_line}
use Rattle.run_defs.specs.States.{entity}
use Rattle.run_defs.specs.Conditions.{rests, ask_line}
use Rattle.run_defs.specs.Settling.{undelivered}
use Rattle.run_links.specs.Networks.{OctetState, OctetWorld}
use Rattle.run_links.specs.Told.{printed}
use Rattle.world.specs.settling.Bearers.{are_quiet, lines_of, undelivered_of}

module _ (s : OctetState) (e : UeId × BearerId) (es all : List (UeId × BearerId)) where
  first_decides : (b : Bool) → all ≡ e ∷ es → b ≡ rests s e.0 e.1 → are_quiet s all ≡ (b && are_quiet s es)
  first_decides b h r = ap (are_quiet s) h ∙ ap (λ (q : Bool). q && are_quiet s es) (sym r)

  pub quiet_here : (b : Bool) → all ≡ e ∷ es → b ≡ rests s e.0 e.1 → b ≡ true → are_quiet s es ≡ are_quiet s all
  quiet_here b h r t = sym (first_decides b h r ∙ ap (λ (q : Bool). q && are_quiet s es) t)

  pub busy_here : (b : Bool) → all ≡ e ∷ es → b ≡ rests s e.0 e.1 → b ≡ false → false ≡ are_quiet s all
  busy_here b h r t = sym (first_decides b h r ∙ ap (λ (q : Bool). q && are_quiet s es) t)

  pub line_more : (before middle : List OutLine) (line : OutLine) → all ≡ e ∷ es → middle ≡ before ++ line ∷ []
      → line ≡ out_line (λ octets. octets) (ask_line s e.0 e.1) → middle ++ printed (lines_of s es) ≡ before ++ printed (lines_of s all)
  line_more before middle line h m l =
      ap (λ (ls : List OutLine). ls ++ printed (lines_of s es)) m ∙ append_assoc before (line ∷ []) (printed (lines_of s es))
      ∙ ap (λ (x : OutLine). before ++ x ∷ printed (lines_of s es)) l
      ∙ ap (λ (xs : List (UeId × BearerId)). before ++ printed (lines_of s xs)) (sym h)

  pub packets_more : (world : OctetWorld) (packets after : ℕ) → all ≡ e ∷ es
      → after ≡ packets + undelivered world s (entity e.0 e.1 Dl) + undelivered world s (entity e.0 e.1 Ul)
      → after + undelivered_of world s es ≡ packets + undelivered_of world s all
  packets_more world packets after h p =
      sum_of (undelivered world s (entity e.0 e.1 Dl)) (undelivered world s (entity e.0 e.1 Ul)) (undelivered_of world s es) p
      ∙ ap (λ (xs : List (UeId × BearerId)). packets + undelivered_of world s xs) (sym h)
    where
      sum_of : (a b n : ℕ) → after ≡ packets + a + b → after + n ≡ packets + (a + b + n)
      sum_of a b n p = omega arith

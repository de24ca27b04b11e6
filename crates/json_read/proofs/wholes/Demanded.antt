-- Demands one after the other, and what is told of them.
use Rattle.std.proofs.Common.{◌≡◌, List, [], ◌∷◌, ◌++◌, append_assoc, cond, Bool, true, false, Some, None, Result, Ok, Err, refl, sym, ap, ◌∙◌}
use Rattle.aper_defs.specs.Fields.{Path}
use Rattle.aper_defs.specs.Values.{Value as SeenValue}
use Rattle.aper_values.specs.declared.value.Value.{Value}
use Rattle.json_defs.specs.declared.fault.JsonFault.{JsonFault}
use Rattle.json_defs.specs.Readings.{first_of}
use Rattle.json_defs.specs.Demands.{Demand, first_fault}
use Rattle.proof_json.proofs.values.Holding.{by_cases}
use Rattle.json_fields.specs.declared.simple.refusal.Refusal.{Refusal}
use Rattle.json_fields.specs.declared.simple.refusal.Refusal.TheVariants.{Fault, Memory}
use Rattle.json_fields.specs.simple.Answers.{Tells, Reads}
use Rattle.json_read.specs.wholes.Reads.{ReadsAs}

pub after_none : (a b : List Demand) → first_fault a ≡ None → first_fault (a ++ b) ≡ first_fault b
after_none [] b h = refl
after_none (d ∷ a) b h =
    by_cases d.holds (λ c. cond c (first_fault a) (Some (d.fault, d.path)) ≡ None
    → cond c (first_fault (a ++ b)) (Some (d.fault, d.path)) ≡ first_fault b) (λ _ g. after_none a b g) (λ _ g. cc) h

pub after_some : (a b : List Demand) (fault : JsonFault × Path) → first_fault a ≡ Some fault → first_fault (a ++ b) ≡ Some fault
after_some [] b fault h = cc
after_some (d ∷ a) b fault h =
    by_cases d.holds (λ c. cond c (first_fault a) (Some (d.fault, d.path)) ≡ Some fault
    → cond c (first_fault (a ++ b)) (Some (d.fault, d.path)) ≡ Some fault) (λ _ g. after_some a b fault g) (λ _ g. g) h

pub both_faults : (a b : List Demand) → first_fault (a ++ b) ≡ first_of (first_fault a) (first_fault b)
both_faults [] b = refl
both_faults (d ∷ a) b =
    by_cases d.holds (λ c. cond c (first_fault (a ++ b)) (Some (d.fault, d.path))
    ≡ first_of (cond c (first_fault a) (Some (d.fault, d.path))) (first_fault b)) (λ _. both_faults a b) (λ _. refl)

-- no demand fails, wherever it stands
abbrev pub NoneFails : (Path → List Demand) → Type 0
NoneFails of = (p : Path) → first_fault (of p) ≡ None

pub both_none : (a b : Path → List Demand) → NoneFails a → NoneFails b → NoneFails (λ p. a p ++ b p)
both_none a b h g = λ p. after_none (a p) (b p) (h p) ∙ g p

pub told_first : (a b : Path → List Demand) (refusal : Refusal) → Tells a refusal → Tells (λ p. a p ++ b p) refusal
told_first a b (Fault fault path) h = λ p. after_some (a p) (b p) _ (h p)
told_first a b Memory h = tt

pub told_later : (a b : Path → List Demand) (refusal : Refusal) → NoneFails a → Tells b refusal → Tells (λ p. a p ++ b p) refusal
told_later a b (Fault fault path) n h = λ p. after_none (a p) (b p) (n p) ∙ h p
told_later a b Memory n h = tt

pub told_turn : (a b c : Path → List Demand) (refusal : Refusal) → Tells a refusal → Tells (λ p. (a p ++ b p) ++ c p) refusal
told_turn a b c (Fault fault path) h = λ p. after_some (a p ++ b p) (c p) _ (after_some (a p) (b p) _ (h p))
told_turn a b c Memory h = tt

module _ {X : Type 0} (P : X → Type 0) where
  pub reads_later : (a b : Path → List Demand) (answer : Result X Refusal) → NoneFails a → Reads b P answer
      → Reads (λ p. a p ++ b p) P answer
  reads_later a b (Ok x) n h = (both_none a b n h.0, h.1)
  reads_later a b (Err refusal) n h = told_later a b refusal n h

  pub reads_turn : (a b c : Path → List Demand) (answer : Result X Refusal) → NoneFails a → Reads (λ p. b p ++ c p) P answer
      → Reads (λ p. (a p ++ b p) ++ c p) P answer
  reads_turn a b c (Ok x) n h =
      (λ p. ap first_fault (append_assoc (a p) (b p) (c p)) ∙ after_none (a p) (b p ++ c p) (n p) ∙ h.0 p, h.1)
  reads_turn a b c (Err (Fault fault path)) n h =
      λ p. ap first_fault (append_assoc (a p) (b p) (c p)) ∙ after_none (a p) (b p ++ c p) (n p) ∙ h p
  reads_turn a b c (Err Memory) n h = tt

-- ---- a demand alone
pub one_none : (p : Path) (fault : JsonFault) (b : Bool) → b ≡ true
    → first_fault (record { path = p; fault = fault; holds = b } ∷ []) ≡ None
one_none p fault b h = ap (λ c. cond c None (Some (fault, p))) h

pub one_some : (p : Path) (fault : JsonFault) (b : Bool) → b ≡ false
    → first_fault (record { path = p; fault = fault; holds = b } ∷ []) ≡ Some (fault, p)
one_some p fault b h = ap (λ c. cond c None (Some (fault, p))) h

-- ---- the same demands and the same value
pub told_same : (a b : Path → List Demand) (refusal : Refusal) → ((p : Path) → a p ≡ b p) → Tells b refusal → Tells a refusal
told_same a b (Fault fault path) e h = λ p. ap first_fault (e p) ∙ h p
told_same a b Memory e h = tt

pub reads_same : (v : SeenValue) (a b : Path → List Demand) (w : SeenValue) (answer : Result Value Refusal) → ((p : Path) → a p ≡ b p)
    → v ≡ w → ReadsAs b w answer → ReadsAs a v answer
reads_same v a b w (Ok x) e same h = (λ p. ap first_fault (e p) ∙ h.0 p, h.1 ∙ sym same)
reads_same v a b w (Err refusal) e same h = told_same a b refusal e h

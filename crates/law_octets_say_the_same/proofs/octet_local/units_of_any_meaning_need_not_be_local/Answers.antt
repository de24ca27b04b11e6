use Rattle.std.proofs.Common.{ℕ, zero, suc, Bool, List, [], ◌∷◌, Some, ◌⊎◌, inl, inr, sym, subst, arith}
use Rattle.std.specs.Prelude.{Any}
use Rattle.gnb_types.specs.declared.names.NodeId.{NodeId}
use Rattle.scenario_text.specs.declared.event.Event.TheVariants as events
use Rattle.run_defs.specs.Lines.{RunLine, delivers}
use Rattle.run_defs.specs.Local.{Act, WasOffered, IsGotWith, WasGot, WasAt}
use Rattle.run_defs.specs.States.{Lengths, step_of}
use Rattle.run_defs.specs.Steps.{check_spans, put_out_all, does, step}
use Rattle.run_defs.specs.Events.{start}
use Rattle.run_defs.specs.Runs.{happens, run_from, run}
use Rattle.run_defs.specs.UnitRuns.{UnitRun}
use Rattle.law_octets_say_the_same.specs.octet_local.Example.{downlink}
use Rattle.law_octets_say_the_same.proofs.octet_local.units_of_any_meaning_need_not_be_local.Goals as goal

abbrev Line : Type 0
Line = RunLine (List ℕ)

abbrev Told : Type 0
Told = Act (List ℕ)

-- a unit is started, and delivers a packet
abbrev broken : Bool → NodeId → Told
broken was node = record { event = events.Start; refused = was; step = step_of (Some node) (delivers downlink 0 (9 ∷ []) ∷ []) }

module _ (lengths : Lengths) (was : Bool) (node : NodeId) where
  not_got : Any (IsGotWith lengths downlink (9 ∷ [])) (broken was node).step.lines → ⊥
  not_got (zero, line, low, same, got) = subst (λ (x : Line). IsGotWith lengths downlink (9 ∷ []) x) (sym same) got
  not_got (suc k, line, low, same, got) = absurd (omega (arith, low))

  not_so : WasOffered node downlink (9 ∷ []) (broken was node) ⊎ WasGot lengths node downlink (9 ∷ []) (broken was node) → ⊥
  not_so (inl offered) = let e = offered.2 in absurd cc
  not_so (inr got) = not_got got.1

  not_there : WasAt lengths (broken was node ∷ []) node downlink (9 ∷ []) → ⊥
  not_there (zero, act, low, same, at) =
      not_so (subst (λ (x : Told). WasOffered node downlink (9 ∷ []) x ⊎ WasGot lengths node downlink (9 ∷ []) x) (sym same) at)
  not_there (suc k, act, low, same, at) = absurd (omega (arith, low))

pub returns : goal.returns
unfolding check_spans put_out_all does step start happens run_from run UnitRun
returns c = λ codec h. not_there _ _ _ (h.0 0 (delivers downlink 0 (9 ∷ [])) (omega arith))

use Rattle.std.proofs.Common.{◌≡◌, zero, suc, [], ◌∷◌, None, ◌⊎◌, inl, inr, sym, subst, arith}
use Rattle.std.specs.Prelude.{Any}
use Rattle.gnb_types.specs.declared.names.Gnb.TheVariants.{A}
use Rattle.gnb_types.specs.declared.names.NodeId.TheVariants.{CuUp}
use Rattle.message_types.specs.declared.rrc.Token.{Token}
use Rattle.link_defs.specs.Layouts.{forwarded_fresh, end_marker}
use Rattle.gtpu.specs.Packets.{gtpu_octets}
use Rattle.unit_defs.specs.Ways.{Message}
use Rattle.run_defs.specs.Lines.{RunLine, delivers}
use Rattle.run_defs.specs.Local.{Act, WasOffered, IsGotWith, WasGot, WasAt}
use Rattle.run_defs.specs.Carried.{N3}
use Rattle.run_defs.specs.States.{Lengths}
use Rattle.law_units_act_locally.specs.local_packets.Example.{uplink, from_nowhere}
use Rattle.law_units_act_locally.proofs.local.the_law_says_something.Goals as goal

module _ (lengths : Lengths) where
  not_got : Any (IsGotWith lengths uplink (69 ∷ [])) from_nowhere.step.lines → ⊥
  not_got (zero, line, low, same, got) = subst (λ (x : RunLine (Message Token)). IsGotWith lengths uplink (69 ∷ []) x) (sym same) got
  not_got (suc k, line, low, same, got) = absurd (omega (arith, low))

  not_at : (act : Act (Message Token)) → from_nowhere ≡ act → WasOffered (CuUp A 1) uplink (69 ∷ []) act ⊎ WasGot lengths (CuUp A 1) uplink (69 ∷ []) act → ⊥
  not_at act same was = by (subst (λ (x : Act (Message Token)). WasOffered (CuUp A 1) uplink (69 ∷ []) x ⊎ WasGot lengths (CuUp A 1) uplink (69 ∷ []) x) (sym same) was)
    where
      by : WasOffered (CuUp A 1) uplink (69 ∷ []) from_nowhere ⊎ WasGot lengths (CuUp A 1) uplink (69 ∷ []) from_nowhere → ⊥
      by (inl offered) = absurd cc
      by (inr got) = not_got got.1

  not_there : WasAt lengths (from_nowhere ∷ []) (CuUp A 1) uplink (69 ∷ []) → ⊥
  not_there (zero, act, low, same, was) = not_at act same was
  not_there (suc k, act, low, same, was) = absurd (omega (arith, low))

  not_laid : N3 (lengths (record { 0 = 1 })) 1 None [] → ⊥
  unfolding forwarded_fresh end_marker gtpu_octets
  not_laid (inl fresh) = let e = fresh.1 in absurd cc
  not_laid (inr ends) = absurd cc

pub returns-clause-forbids : goal.returns-clause-forbids
returns-clause-forbids c = λ lengths h. not_there lengths (h.0 0 (delivers uplink 0 (69 ∷ [])) (omega arith))

pub returns-clause-octets : goal.returns-clause-octets
returns-clause-octets c = λ lengths h. not_laid lengths (h.0 0 (delivers uplink 0 []) (omega arith)).0

-- Every script: what was delivered is a prefix of what was accepted.
use Rattle.std.proofs.Common.{◌≡◌, ℕ, List, [], ◌∷◌, ◌++◌, Option, Some, None, refl, sym, ap, ◌∙◌, subst, arith, append-nil}
use Rattle.std.specs.Prelude.{fold}
use Rattle.std.specs.List.{flat_map}
use Rattle.gnb_types.specs.declared.names.SnBits.{SnBits}
use Rattle.dup_defs.specs.declared.types.event.DupEvent.{DupEvent}
use Rattle.dup_defs.specs.declared.types.line.DupLine.{DupLine}
use Rattle.dup_defs.specs.declared.types.stop.DupEnd.{DupEnd}
use Rattle.dup_defs.specs.dup_run_defs.Steps.{DupStep, passes, stops, steps, DupHappening, DupScript, new_script, with_step, with_event_at, with_event, script_of}
use Rattle.law_dup.specs.events.Counted.{AreOf, AreCounted, delivered_in}
use Rattle.law_dup.specs.Scripts.{IsPrefix, accepted_in, accepted, delivered}
use Rattle.law_dup.specs.events.Kept.{IsKept, AreNear}
use Rattle.law_dup.proofs.events.Lists.{of_more, of_added, counted_added}
use Rattle.law_dup.proofs.Steps.{StepGood, now_accepted, event_good}

-- ---- one happening more

flat_more : {X Y : Type 0} (f : X → List Y) (xs : List X) (x : X) → flat_map f (xs ++ x ∷ []) ≡ flat_map f xs ++ f x
flat_more f [] x = append-nil (f x)
flat_more f (y ∷ xs) x = ap (λ zs. f y ++ zs) (flat_more f xs x) ∙ sym (append_three (f y) (flat_map f xs) (f x))
  where
    append_three : {Z : Type 0} (ks ls ms : List Z) → (ks ++ ls) ++ ms ≡ ks ++ (ls ++ ms)
    append_three [] ls ms = refl
    append_three (k ∷ ks) ls ms = ap (λ zs. k ∷ zs) (append_three ks ls ms)

abbrev happening : DupEvent → List DupLine → DupHappening
happening event printed = record { event = event; printed = printed }

module _ (sn : SnBits) (quota : ℕ) where
  -- the run as it is while the script goes on
  abbrev pub Goes : DupScript → ℕ → Option DupEnd → Type 0
  Goes script end None = IsKept sn quota (accepted script) script.now × AreNear sn script.now × (script.now.receiver.deliv ≡ end)
  Goes script end (Some why) = Unit {0}

  pub record IsGood (script : DupScript) : Type 0 where
    pub end : ℕ
    pub counted : AreCounted 0 end (delivered script)
    pub of : AreOf (accepted script) (delivered script)
    pub goes : Goes script end script.ended

  begins : IsGood new_script
  begins = record {
    end = 0;
    counted = refl;
    of = tt;
    goes = (
      record {
        base = record {
          low = 0;
          numbered = omega arith;
          waiting = refl;
          counts = omega arith;
          unconfirmed = refl;
          held = tt;
          near = omega arith;
          first = record { high = 0; above = omega arith; carried = omega arith; came = tt; coming = refl };
          first_of = tt;
          second = record { high = 0; above = omega arith; carried = omega arith; came = tt; coming = refl };
          second_of = tt;
          confirmed = omega arith;
          given = omega arith;
          above = tt;
          below = tt;
          stored = tt;
        };
        full = tt;
      },
      record { first = tt; second = tt },
      refl,
    );
  }

  -- ---- an event of a script that goes on

  module _ (script : DupScript) (end : ℕ) (counted : AreCounted 0 end (delivered script)) (of : AreOf (accepted script) (delivered script))
      (event : DupEvent) where
    abbrev more : List DupLine → List DupHappening
    more printed = script.happened ++ happening event printed ∷ []

    accepted_more : (printed : List DupLine) → flat_map accepted_in (more printed) ≡ accepted script ++ accepted_in (happening event printed)
    accepted_more printed = flat_more accepted_in script.happened (happening event printed)

    delivered_more : (printed : List DupLine) → flat_map (λ h. delivered_in h.printed) (more printed) ≡ delivered script ++ delivered_in printed
    delivered_more printed = flat_more (λ (h : DupHappening). delivered_in h.printed) script.happened (happening event printed)

    counted_then : (printed : List DupLine) (awaited : ℕ) → AreCounted end awaited (delivered_in printed)
        → AreCounted 0 awaited (flat_map (λ h. delivered_in h.printed) (more printed))
    counted_then printed awaited now =
        subst (λ (es : List (ℕ × List ℕ)). AreCounted 0 awaited es) (sym (delivered_more printed))
        (counted_added 0 end awaited (delivered script) (delivered_in printed) counted now)

    of_then : (printed : List DupLine) → AreOf (accepted script ++ accepted_in (happening event printed)) (delivered_in printed)
        → AreOf (flat_map accepted_in (more printed)) (flat_map (λ h. delivered_in h.printed) (more printed))
    of_then printed now =
        subst (λ (hs : List (List ℕ)). AreOf hs (flat_map (λ h. delivered_in h.printed) (more printed))) (sym (accepted_more printed))
        (subst (λ (es : List (ℕ × List ℕ)). AreOf (accepted script ++ accepted_in (happening event printed)) es) (sym (delivered_more printed))
        (of_added (accepted script ++ accepted_in (happening event printed)) (delivered script) (delivered_in printed)
        (of_more (accepted script) (accepted_in (happening event printed)) (delivered script) of) now))

    step_kept : (step : DupStep) → script.ended ≡ None → StepGood sn quota (now_accepted sn quota (accepted script) event step) end step
        → IsGood (with_step script event step)
    step_kept (passes printed after) going good = record {
      end = after.receiver.deliv;
      counted = counted_then printed after.receiver.deliv good.2;
      of = of_then printed good.3;
      goes = subst
          (λ (o : Option DupEnd). Goes (record script { happened = more printed; now = after }) after.receiver.deliv o) (sym going)
          (subst (λ (hs : List (List ℕ)). IsKept sn quota hs after) (sym (accepted_more printed)) good.0, good.1, refl);
    }
    step_kept (stops printed why) going good = record {
      end = good.0;
      counted = counted_then printed good.0 good.1;
      of = of_then printed good.2;
      goes = tt;
    }

  event_kept : (script : DupScript) (event : DupEvent) → IsGood script → IsGood (with_event sn quota script event)
  event_kept script event good = by script.ended refl good.goes
    where
      by : (o : Option DupEnd) → script.ended ≡ o → Goes script good.end o → IsGood (with_event_at sn quota script event o)
      by (Some why) is goes = good
      by None is goes =
          step_kept script good.end good.counted good.of event (steps sn quota event script.now) is
          (subst (λ (n : ℕ). StepGood sn quota (now_accepted sn quota (accepted script) event (steps sn quota event script.now)) n (steps sn quota event script.now)) goes.2
          (event_good sn quota (accepted script) script.now goes.0 goes.1 event))

  all_kept : (events : List DupEvent) (script : DupScript) → IsGood script → IsGood (fold (with_event sn quota) script events)
  all_kept [] script good = good
  all_kept (event ∷ events) script good = all_kept events (with_event sn quota script event) (event_kept script event good)

  pub script_good : (events : List DupEvent) → IsGood (script_of sn quota events)
  unfolding script_of
  script_good events = all_kept events new_script begins

  pub prefix : (events : List DupEvent) → IsPrefix (delivered (script_of sn quota events)) (accepted (script_of sn quota events))
  prefix events = let good = script_good events in (good.end, good.counted, good.of)

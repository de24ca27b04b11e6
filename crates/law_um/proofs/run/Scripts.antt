-- What is so after each event is so of whole scripts.
use Rattle.std.proofs.Common.{◌≡◌, ℕ, ◌+◌, ◌≤◌, Bool, true, false, cond, nat_lt, List, [], ◌∷◌, ◌++◌, reverse, Option, Some, None, refl, sym, ap, ◌∙◌, subst, inr, append-nil, arith}
use Rattle.std.proofs.lemmas.Bool.Decides.{nat_tests}
use Rattle.std.proofs.lemmas.Grind.{flat_map-append}
use Rattle.std.proofs.lemmas.List.{reverse-append, reverse-reverse}
use Rattle.std.proofs.lemmas.List.Sums.{fold-append}
use Rattle.std.specs.List.{flat_map}
use Rattle.gnb_types.specs.declared.names.SnBits.{SnBits}
use Rattle.pdcp.specs.Numbers.{half}
use Rattle.um_defs.specs.declared.types.event.UmEvent.{UmEvent}
use Rattle.um_defs.specs.declared.types.line.UmLine.{UmLine}
use Rattle.um_defs.specs.declared.types.line.UmLine.TheVariants as lines
use Rattle.um_defs.specs.declared.types.stop.UmEnd.{UmEnd}
use Rattle.um_defs.specs.declared.types.stop.UmEnd.TheVariants as ends
use Rattle.um_defs.specs.um_run_defs.Run.{UmRun, UmOutcome, goes_on, spends, does_event, span}
use Rattle.um_defs.specs.um_run_defs.Script.{UmStep, passes, stops, step_of, steps, UmHappening, UmScript, new_script, with_step, with_event, with_event_at, script_of}
use Rattle.law_um.specs.run.Reached.{GoesOn, IsReached, WasOffered, EachDelivered, Rises}
use Rattle.law_um.specs.run.Scripts.{lines_of}
use Rattle.law_um.proofs.run.Kept.{lines_offered}
use Rattle.law_um.proofs.run.Rising.{rises}

-- ---- lines after lines

lower : (low least high : ℕ) (ls : List UmLine) → least ≤ low → Rises low high ls → Rises least high ls
lower low least high [] h r = omega arith
lower low least high (lines.Deliver count packet ∷ ls) h r = (omega (arith, r.0), r.1)
lower low least high (lines.Put number count pdu ∷ ls) h r = lower low least high ls h r
lower low least high (lines.Got number count pdu ∷ ls) h r = lower low least high ls h r
lower low least high (lines.Lost number ∷ ls) h r = lower low least high ls h r
lower low least high (lines.DropLate ∷ ls) h r = lower low least high ls h r
lower low least high (lines.DropDuplicate ∷ ls) h r = lower low least high ls h r
lower low least high (lines.Held number ∷ ls) h r = lower low least high ls h r
lower low least high (lines.Waiting deliv next stored ∷ ls) h r = lower low least high ls h r
lower low least high (lines.Refused reason ∷ ls) h r = lower low least high ls h r
lower low least high (lines.Outstanding far window ∷ ls) h r = lower low least high ls h r

rises-append : (low mid high : ℕ) (xs ys : List UmLine) → Rises low mid xs → Rises mid high ys → Rises low high (xs ++ ys)
rises-append low mid high [] ys h r = lower mid low high ys h r
rises-append low mid high (lines.Deliver count packet ∷ xs) ys h r = (h.0, rises-append (count + 1) mid high xs ys h.1 r)
rises-append low mid high (lines.Put number count pdu ∷ xs) ys h r = rises-append low mid high xs ys h r
rises-append low mid high (lines.Got number count pdu ∷ xs) ys h r = rises-append low mid high xs ys h r
rises-append low mid high (lines.Lost number ∷ xs) ys h r = rises-append low mid high xs ys h r
rises-append low mid high (lines.DropLate ∷ xs) ys h r = rises-append low mid high xs ys h r
rises-append low mid high (lines.DropDuplicate ∷ xs) ys h r = rises-append low mid high xs ys h r
rises-append low mid high (lines.Held number ∷ xs) ys h r = rises-append low mid high xs ys h r
rises-append low mid high (lines.Waiting deliv next stored ∷ xs) ys h r = rises-append low mid high xs ys h r
rises-append low mid high (lines.Refused reason ∷ xs) ys h r = rises-append low mid high xs ys h r
rises-append low mid high (lines.Outstanding far window ∷ xs) ys h r = rises-append low mid high xs ys h r

each-append : (P Q : ℕ → List ℕ → Type 0) → ((count : ℕ) (packet : List ℕ) → P count packet → Q count packet) → (xs ys : List UmLine)
    → EachDelivered P xs → EachDelivered Q ys → EachDelivered Q (xs ++ ys)
each-append P Q f [] ys h r = r
each-append P Q f (lines.Deliver count packet ∷ xs) ys h r = (f count packet h.0, each-append P Q f xs ys h.1 r)
each-append P Q f (lines.Put number count pdu ∷ xs) ys h r = each-append P Q f xs ys h r
each-append P Q f (lines.Got number count pdu ∷ xs) ys h r = each-append P Q f xs ys h r
each-append P Q f (lines.Lost number ∷ xs) ys h r = each-append P Q f xs ys h r
each-append P Q f (lines.DropLate ∷ xs) ys h r = each-append P Q f xs ys h r
each-append P Q f (lines.DropDuplicate ∷ xs) ys h r = each-append P Q f xs ys h r
each-append P Q f (lines.Held number ∷ xs) ys h r = each-append P Q f xs ys h r
each-append P Q f (lines.Waiting deliv next stored ∷ xs) ys h r = each-append P Q f xs ys h r
each-append P Q f (lines.Refused reason ∷ xs) ys h r = each-append P Q f xs ys h r
each-append P Q f (lines.Outstanding far window ∷ xs) ys h r = each-append P Q f xs ys h r

-- ---- a step that goes on

within : (a b : ℕ) → nat_lt a b ≡ false → b ≤ a
within a b h = grind (arith, nat_tests)

by_test : (sn : SnBits) (b : Bool) (shown printed : List UmLine) (now after : UmRun) (end : UmEnd) (told : List UmLine)
    → cond b (stops told end) (passes shown now) ≡ passes printed after → (b ≡ false) × (shown ≡ printed) × (now ≡ after)
by_test sn true shown printed now after end told e = absurd (cc)
by_test sn false shown printed now after end told e = (refl, cc, cc)

went_on : (sn : SnBits) (outcome : UmOutcome) (printed : List UmLine) (after : UmRun) → step_of sn outcome ≡ passes printed after
    → (outcome ≡ goes_on printed after) × (span after ≤ half sn)
went_on sn (spends counter) printed after e = absurd (cc)
went_on sn (goes_on shown now) printed after e =
    let is = by_test sn (nat_lt (half sn) (span now)) shown printed now after (ends.Outstanding (span now) (half sn)) (shown ++ lines.Outstanding (span now) (half sn) ∷ []) e in (
      ap (λ (ls : List UmLine). goes_on ls now) is.1 ∙ ap (λ (s : UmRun). goes_on printed s) is.2,
      subst (λ (s : UmRun). span s ≤ half sn) is.2 (within (half sn) (span now) is.0),
    )

-- ---- of a script

module _ (sn : SnBits) (ticks : ℕ) where
  -- the newest event first
  record Holds (earlier : List UmEvent) (script : UmScript) : Type 0 where
    reached : IsReached sn ticks earlier script.now
    rising : Rises 0 script.now.entity.receiver.deliv (lines_of script)
    offered : EachDelivered (WasOffered sn ticks earlier) (lines_of script)

  lines-more : (happened : List UmHappening) (more : UmHappening)
      → flat_map (λ (h : UmHappening). h.printed) (happened ++ more ∷ []) ≡ flat_map (λ (h : UmHappening). h.printed) happened ++ more.printed
  lines-more happened more =
      flat_map-append (λ (h : UmHappening). h.printed) happened (more ∷ [])
      ∙ ap (λ (ls : List UmLine). flat_map (λ (h : UmHappening). h.printed) happened ++ ls) (append-nil more.printed)

  goes_of : (event : UmEvent) (s : UmRun) (printed : List UmLine) (after : UmRun) → steps sn ticks event s ≡ passes printed after
      → GoesOn sn ticks event s printed after
  unfolding steps
  goes_of event s printed after e =
      let is = went_on sn (does_event sn ticks event s) printed after e in record { outcome = is.0; within = is.1 }

  one_more : (earlier : List UmEvent) (script : UmScript) (event : UmEvent) (printed : List UmLine) (after : UmRun) → Holds earlier script
      → GoesOn sn ticks event script.now printed after → Holds (event ∷ earlier) (with_step script event (passes printed after))
  one_more earlier script event printed after h goes =
      let more : lines_of (with_step script event (passes printed after)) ≡ lines_of script ++ printed = lines-more script.happened (record { event = event; printed = printed }) in
      record {
        reached = (script.now, printed, h.reached, goes);
        rising = subst (λ (ls : List UmLine). Rises 0 after.entity.receiver.deliv ls) (sym more)
            (rises-append 0 script.now.entity.receiver.deliv after.entity.receiver.deliv (lines_of script) printed h.rising (rises sn ticks earlier event script.now printed after h.reached goes));
        offered = subst (λ (ls : List UmLine). EachDelivered (WasOffered sn ticks (event ∷ earlier)) ls) (sym more)
            (each-append (WasOffered sn ticks earlier) (WasOffered sn ticks (event ∷ earlier)) (λ count packet was. inr was) (lines_of script) printed h.offered
            (subst (λ (ls : List UmLine). EachDelivered (WasOffered sn ticks (event ∷ earlier)) ls) (append-nil printed)
            (each-append (WasOffered sn ticks earlier) (WasOffered sn ticks (event ∷ earlier)) (λ count packet was. inr was) printed [] (lines_offered sn ticks earlier event script.now printed after h.reached goes) tt)));
      }

  by_step : (earlier : List UmEvent) (script : UmScript) (event : UmEvent) (step : UmStep) → steps sn ticks event script.now ≡ step
      → Holds earlier script → (with_step script event step).ended ≡ None → Holds (event ∷ earlier) (with_step script event step)
  by_step earlier script event (passes printed after) e h goes = one_more earlier script event printed after h (goes_of event script.now printed after e)
  by_step earlier script event (stops printed end) e h goes = absurd (cc)

  by_end : (earlier : List UmEvent) (script : UmScript) (event : UmEvent) (o : Option UmEnd) → script.ended ≡ o
      → (script.ended ≡ None → Holds earlier script) → (with_event_at sn ticks script event o).ended ≡ None
      → Holds (event ∷ earlier) (with_event_at sn ticks script event o)
  by_end earlier script event None e h goes = by_step earlier script event (steps sn ticks event script.now) refl (h e) goes
  by_end earlier script event (Some end) e h goes = absurd (let clash : Some end ≡ None = sym e ∙ goes in cc)

  more_of : (events : List UmEvent) (event : UmEvent) → script_of sn ticks (events ++ event ∷ []) ≡ with_event sn ticks (script_of sn ticks events) event
  unfolding script_of
  more_of events event = fold-append (with_event sn ticks) new_script events (event ∷ [])

  first : script_of sn ticks [] ≡ new_script
  unfolding script_of
  first = refl

  begins : Holds [] new_script
  begins = record { reached = refl; rising = omega arith; offered = tt }

  holds_back : (earlier : List UmEvent) → (script_of sn ticks (reverse earlier)).ended ≡ None → Holds earlier (script_of sn ticks (reverse earlier))
  holds_back [] goes = subst (λ (s : UmScript). Holds [] s) (sym first) begins
  holds_back (event ∷ earlier) goes =
      let script = script_of sn ticks (reverse earlier) in
      let is : script_of sn ticks (reverse (event ∷ earlier)) ≡ with_event sn ticks script event = ap (script_of sn ticks) (reverse-append (event ∷ []) earlier)
      ∙ more_of (reverse earlier) event in
      subst (λ (s : UmScript). Holds (event ∷ earlier) s) (sym is)
      (by_end earlier script event script.ended refl (holds_back earlier) (ap (λ (s : UmScript). s.ended) (sym is) ∙ goes))

  holds : (events : List UmEvent) → (script_of sn ticks events).ended ≡ None → Holds (reverse events) (script_of sn ticks events)
  holds events goes =
      let twice = reverse-reverse events in
      subst (λ (es : List UmEvent). Holds (reverse events) (script_of sn ticks es)) twice
      (holds_back (reverse events) (ap (λ (es : List UmEvent). (script_of sn ticks es).ended) twice ∙ goes))

  pub reaches : (events : List UmEvent) → (script_of sn ticks events).ended ≡ None
      → IsReached sn ticks (reverse events) (script_of sn ticks events).now
  reaches events goes = (holds events goes).reached

  pub all_rise : (events : List UmEvent) → (script_of sn ticks events).ended ≡ None
      → Rises 0 (script_of sn ticks events).now.entity.receiver.deliv (lines_of (script_of sn ticks events))
  all_rise events goes = (holds events goes).rising

  pub all_offered : (events : List UmEvent) → (script_of sn ticks events).ended ≡ None
      → EachDelivered (WasOffered sn ticks (reverse events)) (lines_of (script_of sn ticks events))
  all_offered events goes = (holds events goes).offered

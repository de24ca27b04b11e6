-- What is due of each request, and the command of each terminal, one after another; over plain values.
use Rattle.std.proofs.Common.{◌≡◌, ℕ, suc, ◌+◌, ◌<◌, List, [], ◌∷◌, map, length, drop, get_or, refl, sym, ap, ◌∙◌, subst, arith}
use Rattle.std.specs.Prelude.{Result, Err}
use Rattle.std.proofs.Math.Seq.{drop-cons}
use Rattle.gnb_types.specs.declared.names.UeId.{UeId}
use Rattle.gnb_types.specs.declared.outputs.Output.{Output}
use Rattle.transaction_defs.specs.Callers as callers
use Rattle.transactions.specs.declared.caller.Due.{Due}
use Rattle.transactions.specs.Answers.{due_as}
use Rattle.unit_defs.specs.Ways.{◌then◌}
use Rattle.unit_defs.specs.CuCpRecords.{CuCpRecord, terminal_of, with_transactions}
use Rattle.unit_defs.specs.CuCp.{at_of, by_row, command_on, command_each, due_each, ues_of, tick}
use Rattle.unit_defs.specs.octet_defs.Codec.{Codec, octet_way}
use Rattle.unit_defs.specs.octet_defs.Units.{OctetAnswer}
use Rattle.unit_messages.specs.declared.steps.StepError.{StepError}
use Rattle.unit_messages.specs.steps.Steps.{Step, stepped, step_after, IsStep}
use Rattle.unit_messages.proofs.steps.StepLaws.{step_then}
use Rattle.unit_requests.proofs.Thens.{goes_on, stops}
use Rattle.cu_control.specs.inside.Dues.{due_in}

abbrev pub Kept : Type 0
Kept = CuCpRecord (List ℕ) (List ℕ)

pub dues_same : (ds : List (callers.Due (List ℕ))) → map due_in (map due_as ds) ≡ ds
dues_same [] = refl
dues_same (callers.repeats c request ∷ ds) = ap (λ (es : List (callers.Due (List ℕ))). callers.repeats c request ∷ es) (dues_same ds)
dues_same (callers.expires c ∷ ds) = ap (λ (es : List (callers.Due (List ℕ))). callers.expires c ∷ es) (dues_same ds)

rest_at : {X : Type 0} (i : ℕ) (xs : List X) (d : X) → i < length xs → drop i xs ≡ get_or xs i d ∷ drop (i + 1) xs
rest_at i xs d within =
    let next : suc i ≡ i + 1 = omega arith in
    drop-cons xs i d within ∙ ap (λ (j : ℕ). get_or xs i d ∷ drop j xs) next

-- ---- the commands
module _ (codec : Codec) (before mid : List Output) (i : ℕ) (r s : Kept) (all : Step Kept) where
  abbrev commanded : UeId → OctetAnswer Kept
  commanded ue = by_row (octet_way codec) ue (command_on (octet_way codec) (at_of r ue) (terminal_of r ue) (terminal_of r ue).context) r

  pub command_goes : (ues : List UeId) (u : UeId) → i < length ues
      → step_after before (command_each (octet_way codec) (drop i ues) r) ≡ all → step_after before (commanded (get_or ues i u)) ≡ stepped mid s
      → step_after mid (command_each (octet_way codec) (drop (i + 1) ues) s) ≡ all
  command_goes ues u within so_far e =
      sym (step_then before mid (commanded (get_or ues i u)) (command_each (octet_way codec) (drop (i + 1) ues)) s e)
      ∙ (ap (λ (es : List UeId). step_after before (command_each (octet_way codec) es r)) (sym (rest_at i ues u within)) ∙ so_far)

-- ---- a tick: what is due, and then the commands
module _ (codec : Codec) (before mid outputs : List Output) (r ticked s t : Kept) (dues : List Due)
    (ticked_is : ticked ≡ with_transactions r (record r.transactions { caller = callers.after_tick r.transactions.caller }))
    (dues_are : dues ≡ map due_as (callers.due r.transactions.caller)) where
  abbrev due_now : OctetAnswer Kept
  due_now = due_each (octet_way codec) (map due_in dues) ticked

  abbrev commands : Kept → OctetAnswer Kept
  commands k = command_each (octet_way codec) (ues_of (octet_way codec) k) k

  ticks_as : tick (octet_way codec) r ≡ (due_now then commands)
  unfolding tick
  ticks_as =
      ap (λ (ds : List (callers.Due (List ℕ))). due_each (octet_way codec) ds (with_transactions r (record r.transactions { caller = callers.after_tick r.transactions.caller })) then commands)
      (sym (ap (λ (ds : List Due). map due_in ds) dues_are ∙ dues_same (callers.due r.transactions.caller)))
      ∙ ap (λ (k : Kept). due_each (octet_way codec) (map due_in dues) k then commands) (sym ticked_is)

  pub tick_goes : {Y : Type 0} (ues : List UeId) (result : Result Y StepError) → step_after before due_now ≡ stepped mid s
      → ues ≡ map (λ e. e.0) s.terminals → IsStep (step_after mid (command_each (octet_way codec) ues s)) outputs t result
      → IsStep (step_after before (tick (octet_way codec) r)) outputs t result
  tick_goes {Y = Y} ues result h ues_are commanded_all =
      subst (λ (a : OctetAnswer Kept). IsStep (step_after before a) outputs t result) (sym ticks_as)
      (goes_on before mid due_now commands outputs s t result h
      (subst (λ (us : List UeId). IsStep (step_after mid (command_each (octet_way codec) us s)) outputs t result) ues_are commanded_all))

  pub tick_stops : (X Y : Type 0) (e : StepError) → IsStep {X = X} (step_after before due_now) mid s (Err e)
      → IsStep {X = Y} (step_after before (tick (octet_way codec) r)) outputs t (Err e)
  tick_stops X Y e h =
      subst (λ (a : OctetAnswer Kept). IsStep {X = Y} (step_after before a) outputs t (Err e)) (sym ticks_as)
      (stops before mid due_now commands X Y outputs s t e h)

-- Steps of a tick, over plain values.
use Rattle.std.proofs.Common.{◌≡◌, ℕ, List, [], ◌∷◌, ◌++◌, map, refl, sym, ap, ◌∙◌}
use Rattle.std.specs.List.{flat_map}
use Rattle.gnb_types.specs.declared.inputs.Input.TheVariants as ins
use Rattle.gnb_types.specs.declared.outputs.Output.{Output}
use Rattle.transaction_defs.specs.Callers.{repeats, expires, due, after_tick}
use Rattle.transaction_defs.specs.Callers as callers
use Rattle.transactions.specs.declared.caller.Due.{Due}
use Rattle.transactions.specs.Answers.{due_as}
use Rattle.unit_requests.specs.setup_requests.Dues.{put_again}
use Rattle.unit_defs.specs.CuUp.{due_output, with_transactions, tick, cu_up_acts}
use Rattle.unit_defs.specs.octet_defs.Codec.{Codec, octet_way}
use Rattle.unit_defs.specs.octet_defs.Reading.{read_at_cu_up}
use Rattle.unit_defs.specs.octet_defs.Units.{cu_up_steps}
use Rattle.unit_defs.specs.octet_defs.Writing.{outputs_of}
use Rattle.unit_messages.specs.steps.Steps.{stepped, step_after}
use Rattle.unit_messages.proofs.steps.StepLaws.{outputs_append}
use Rattle.unit_requests.specs.Requests.{Kept}
use Rattle.cu_up_contexts.specs.contexts.Tables.{OctetUp}

module _ (codec : Codec) (before mid : List Output) where
  puts_again : (dues : List (callers.Due (List ℕ))) → flat_map put_again (map due_as dues) ≡ outputs_of (flat_map (due_output (octet_way codec)) dues)
  puts_again [] = refl
  puts_again (repeats c request ∷ dues) =
      ap (λ (os : List Output). put_again (due_as (repeats c request)) ++ os) (puts_again dues)
      ∙ sym (outputs_append (due_output (octet_way codec) (repeats c request)) (flat_map (due_output (octet_way codec)) dues))
  puts_again (expires c ∷ dues) = puts_again dues

  pub tick_step : (r : OctetUp) (dues : List Due) (kept : Kept) → dues ≡ map due_as (due r.transactions.caller)
      → mid ≡ before ++ flat_map put_again dues
      → kept ≡ record r.transactions { caller = after_tick r.transactions.caller }
      → step_after before (tick (octet_way codec) r) ≡ stepped mid (with_transactions r kept)
  unfolding tick
  tick_step r dues kept dues_are mid_is kept_is =
      let outputs_are : before ++ outputs_of (flat_map (due_output (octet_way codec)) (due r.transactions.caller)) ≡ mid =
      ap (λ (os : List Output). before ++ os) (sym (puts_again (due r.transactions.caller)))
      ∙ ap (λ (ds : List Due). before ++ flat_map put_again ds) (sym dues_are)
      ∙ sym mid_is in
      λ i. stepped (outputs_are i) (with_transactions r (sym kept_is i))

pub tick_acts : (codec : Codec) (r : OctetUp) → cu_up_steps codec r ins.Tick ≡ tick (octet_way codec) r
unfolding cu_up_steps read_at_cu_up cu_up_acts
tick_acts codec r = refl

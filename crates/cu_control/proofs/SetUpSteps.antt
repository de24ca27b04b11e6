-- The steps of set-ups and of answers, over plain values.
use Rattle.std.proofs.Common.{◌≡◌, ℕ, List, ◌∙◌}
use Rattle.gnb_types.specs.declared.names.NodeId.{NodeId}
use Rattle.gnb_types.specs.declared.outputs.Output.{Output}
use Rattle.unit_defs.specs.Ways.{Message, nothing}
use Rattle.unit_defs.specs.Messages.{channel}
use Rattle.unit_defs.specs.Transactions.{Transactions, replied}
use Rattle.unit_defs.specs.CuCpRecords.{CuCpRecord, with_transactions}
use Rattle.unit_defs.specs.CuCp.{with_unit, set_up}
use Rattle.unit_defs.specs.octet_defs.Codec.{Codec, octet_way}
use Rattle.unit_messages.specs.steps.Steps.{stepped, step_after}
use Rattle.unit_messages.proofs.steps.StepLaws.{step_then}
use Rattle.unit_requests.proofs.Thens.{step_nothing}

module _ (codec : Codec) (before mid : List Output) (from : NodeId) (m : Message (List ℕ)) (r : CuCpRecord (List ℕ) (List ℕ)) where
  pub set_up_step : (t : Transactions (List ℕ) (List ℕ)) → step_after before (replied (octet_way codec) r.transactions (channel 0 from) m) ≡ stepped mid t
      → step_after before (set_up (octet_way codec) from m r) ≡ stepped mid (with_transactions (with_unit (octet_way codec) from r) t)
  set_up_step t e =
      step_then before mid (replied (octet_way codec) r.transactions (channel 0 from) m)
      (λ s. nothing (with_transactions (with_unit (octet_way codec) from r) s)) t e
      ∙ step_nothing mid (with_transactions (with_unit (octet_way codec) from r) t)

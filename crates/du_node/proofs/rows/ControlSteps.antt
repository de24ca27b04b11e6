-- A control message that was read, over plain values.
use Rattle.std.proofs.Common.{◌≡◌, ℕ, Bool, true, cond, List, refl, sym, ap, ◌∙◌}
use Rattle.std.specs.Prelude.{Result, Ok, Err}
use Rattle.gnb_types.specs.declared.names.NodeId.{NodeId}
use Rattle.gnb_types.specs.declared.inputs.Input.TheVariants as ins
use Rattle.gnb_types.specs.declared.reasons.DropReason.{DropReason}
use Rattle.gnb_types.specs.declared.reasons.DropReason.TheVariants.{Unexpected}
use Rattle.unit_defs.specs.Ways.{Message, control_input}
use Rattle.unit_defs.specs.Messages.{shares_interface}
use Rattle.unit_defs.specs.Du.{du_node, du_acts, control_received}
use Rattle.unit_defs.specs.octet_defs.Codec.{Codec, octet_way}
use Rattle.unit_defs.specs.octet_defs.Reading.{ReadInput, read_at_du, message_read}
use Rattle.unit_defs.specs.octet_defs.Units.{OctetAnswer, acts_on, du_steps}
use Rattle.du_contexts.specs.Tables.{OctetDu}

module _ (codec : Codec) (r : OctetDu) (from own : NodeId) (octets : List ℕ) (m : Message (List ℕ)) where
  abbrev acting : ReadInput → OctetAnswer OctetDu
  acting input = acts_on (du_acts (octet_way codec) r) r input

  goes : du_acts (octet_way codec) r (control_input from m) ≡ control_received (octet_way codec) from m r
  unfolding du_acts
  goes = refl

  pub control_is_read : own ≡ du_node r → true ≡ shares_interface (du_node r) from → Ok m ≡ codec.read from own octets
      → du_steps codec r (ins.Control from octets) ≡ control_received (octet_way codec) from m r
  unfolding du_steps read_at_du
  control_is_read own_is receives is =
      ap (λ (b : Bool). acting (cond b (message_read codec from (codec.read from (du_node r) octets)) (Err Unexpected))) (sym receives)
      ∙ ap (λ (x : Result (Message (List ℕ)) DropReason). acting (message_read codec from x)) (ap (λ (n : NodeId). codec.read from n octets) (sym own_is) ∙ sym is)
      ∙ goes

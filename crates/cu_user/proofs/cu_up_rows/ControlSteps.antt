-- A control message that was read, over plain values.
use Rattle.std.proofs.Common.{◌≡◌, ℕ, Bool, true, cond, List, refl, sym, ap, ◌∙◌}
use Rattle.std.specs.Prelude.{Result, Ok, Err}
use Rattle.gnb_types.specs.declared.names.Gnb.{Gnb}
use Rattle.gnb_types.specs.declared.names.Gnb.TheVariants.{A, B}
use Rattle.gnb_types.specs.declared.names.NodeId.{NodeId}
use Rattle.gnb_types.specs.declared.names.NodeId.TheVariants.{CuCp, CuUp as cu_up_node, Du, Core, Ue}
use Rattle.gnb_types.specs.declared.inputs.Input.TheVariants as ins
use Rattle.gnb_types.specs.declared.reasons.DropReason.{DropReason}
use Rattle.gnb_types.specs.declared.reasons.DropReason.TheVariants.{Unexpected}
use Rattle.unit_defs.specs.Ways.{Message, control_input, drops}
use Rattle.unit_defs.specs.Messages.{channel, shares_interface}
use Rattle.unit_defs.specs.Transactions.{kind_of}
use Rattle.unit_defs.specs.CuUp.{up_node, is_own_cu_cp, ue_in, control_by, control_received, cu_up_acts}
use Rattle.unit_defs.specs.octet_defs.Codec.{Codec, octet_way}
use Rattle.unit_defs.specs.octet_defs.Reading.{ReadInput, read_at_cu_up, message_read}
use Rattle.unit_defs.specs.octet_defs.Units.{OctetAnswer, acts_on, cu_up_steps}
use Rattle.cu_up_contexts.specs.contexts.Tables.{OctetUp}

-- a CU-UP shares an interface with its CU-CP alone
own_cp : (codec : Codec) (gnb : Gnb) (number : ℕ) (from : NodeId) → true ≡ shares_interface (cu_up_node gnb number) from
    → true ≡ is_own_cu_cp (octet_way codec) gnb from
own_cp codec A number (CuCp A) e = refl
own_cp codec B number (CuCp B) e = refl
own_cp codec A number (CuCp B) e = cc
own_cp codec B number (CuCp A) e = cc
own_cp codec gnb number (cu_up_node h n) e = cc
own_cp codec gnb number (Du h n) e = cc
own_cp codec gnb number Core e = cc
own_cp codec gnb number (Ue ue) e = cc

module _ (codec : Codec) (r : OctetUp) (from own : NodeId) (octets : List ℕ) (m : Message (List ℕ)) where
  abbrev acting : ReadInput → OctetAnswer OctetUp
  acting input = acts_on (cu_up_acts (octet_way codec) r) r input

  abbrev by_kind : OctetAnswer OctetUp
  by_kind = control_by (octet_way codec) (channel (ue_in (octet_way codec) (kind_of m)) from) m r (kind_of m)

  goes : true ≡ is_own_cu_cp (octet_way codec) r.gnb from → cu_up_acts (octet_way codec) r (control_input from m) ≡ by_kind
  unfolding cu_up_acts control_received
  goes own_is = ap (λ (b : Bool). cond b by_kind (drops Unexpected r)) (sym own_is)

  pub control_is_read : own ≡ up_node r → true ≡ shares_interface (up_node r) from → Ok m ≡ codec.read from own octets
      → cu_up_steps codec r (ins.Control from octets) ≡ by_kind
  unfolding cu_up_steps read_at_cu_up
  control_is_read own_is receives is =
      ap (λ (b : Bool). acting (cond b (message_read codec from (codec.read from (up_node r) octets)) (Err Unexpected))) (sym receives)
      ∙ ap (λ (x : Result (Message (List ℕ)) DropReason). acting (message_read codec from x)) (ap (λ (n : NodeId). codec.read from n octets) (sym own_is) ∙ sym is)
      ∙ goes (own_cp codec r.gnb r.number from receives)

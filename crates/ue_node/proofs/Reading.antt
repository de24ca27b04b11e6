-- What octets say to a terminal, by a lawful codec.
use Rattle.std.proofs.Common.{◌≡◌, ℕ, List, [], ◌∷◌, ◌++◌, Option, Some, None, Ok, Err, refl, sym, ap, ◌∙◌, subst}
use Rattle.std.specs.Prelude.{Result, OnOk, IfErr}
use Rattle.gnb_types.specs.declared.names.BearerId.{BearerId}
use Rattle.gnb_types.specs.declared.names.Dir.TheVariants.{Dl, Ul}
use Rattle.gnb_types.specs.declared.names.Gnb.{Gnb}
use Rattle.gnb_types.specs.declared.names.NodeId.{NodeId}
use Rattle.gnb_types.specs.declared.names.NodeId.TheVariants.{Du, Ue}
use Rattle.gnb_types.specs.declared.names.UeId.{UeId}
use Rattle.gnb_types.specs.declared.inputs.Input.TheVariants as ins
use Rattle.gnb_types.specs.declared.outputs.Output.{Output}
use Rattle.gnb_types.specs.declared.outputs.Output.TheVariants as outs
use Rattle.gnb_types.specs.declared.reasons.DropReason.{DropReason}
use Rattle.gnb_types.specs.declared.reasons.DropReason.TheVariants.{Undecodable, Unexpected}
use Rattle.message_types.specs.declared.rrc.Token.{Token}
use Rattle.pdcp.specs.Pdus.{Content}
use Rattle.link_defs.specs.Decoding.{CarriesPdu}
use Rattle.unit_defs.specs.Ways.{radio_input, confirm_input, drops}
use Rattle.unit_defs.specs.Ways as ways
use Rattle.unit_defs.specs.Ue.{UeNode, ue_acts, take, confirm, told, told_by}
use Rattle.unit_defs.specs.octet_defs.Codec.{Codec, octet_way}
use Rattle.unit_defs.specs.octet_defs.Reading.{read_at_ue, pdu_read, message_read, content_by, count_received_in, count_confirmed_in, bearer_at}
use Rattle.unit_defs.specs.octet_defs.Units.{OctetAnswer, acts_on, ue_steps}
use Rattle.unit_defs.specs.codec_defs.Reading.{ReadsPdus}
use Rattle.unit_messages.specs.Messages.{message_as, answer_as}
use Rattle.unit_messages.specs.declared.message.Message.{Message}
use Rattle.unit_messages.specs.declared.message.Message.TheVariants as messages
use Rattle.unit_messages.specs.declared.steps.StepError.{StepError}
use Rattle.unit_messages.specs.declared.steps.StepError.TheVariants as errors
use Rattle.unit_messages.specs.steps.Steps.{stepped, step_after, IsStep}
use Rattle.ue_node.specs.Nodes.{token_in}

-- a step that is an answer of the rows
pub goes_to : (before after : List Output) (v : UeNode) (result : Result (Unit {0}) StepError) (a b : OctetAnswer UeNode) → a ≡ b
    → IsStep (step_after before b) after v result → IsStep (step_after before a) after v result
goes_to before after v result a b same step =
    subst (λ (x : OctetAnswer UeNode). IsStep (step_after before x) after v result) (sym same) step

-- and one that drops its input
pub drops_to : (before after : List Output) (reason : DropReason) (u : UeNode) (result : Result (Unit {0}) StepError) (a : OctetAnswer UeNode)
    → a ≡ drops reason u → OnOk result (after ≡ before ++ outs.Drop reason ∷ []) → IfErr result (λ e. e ≡ errors.Memory)
    → IsStep (step_after before a) after u result
drops_to before after reason u result a same puts fails = goes_to before after u result a (drops reason u) same (by result puts fails)
  where
    by : (r : Result (Unit {0}) StepError) → OnOk r (after ≡ before ++ outs.Drop reason ∷ []) → IfErr r (λ e. e ≡ errors.Memory)
        → IsStep (step_after before (drops reason u)) after u r
    by (Ok x) puts fails = ap (λ (os : List Output). stepped os u) (sym puts)
    by (Err (errors.Spent counter)) puts fails = cc
    by (Err errors.Memory) puts fails = tt

module _ (codec : Codec) (u : UeNode) (octets : List ℕ) where
  -- ---- PDUs of the radio

  module _ (ue : UeId) (bearer : BearerId) (lawful : ReadsPdus codec) where
    pub radio_read : (content : Content) → CarriesPdu u.plan.sn content octets
        → ue_steps codec u (ins.Radio ue bearer Dl octets)
        ≡ take (octet_way codec) bearer (content_by (count_received_in u.plan.sn (bearer_at codec u bearer)) content) u
    unfolding ue_steps read_at_ue ue_acts
    radio_read content carries =
        ap
        (λ (o : Option Content). acts_on (ue_acts (octet_way codec) u) u
        (pdu_read codec (λ said. radio_input ue bearer Dl octets (content_by (count_received_in u.plan.sn (bearer_at codec u bearer)) said)) o))
        (lawful.found u.plan.sn content octets carries)

    pub radio_not_read : ((content : Content) → CarriesPdu u.plan.sn content octets → ⊥)
        → ue_steps codec u (ins.Radio ue bearer Dl octets) ≡ drops Undecodable u
    unfolding ue_steps read_at_ue
    radio_not_read none =
        ap
        (λ (o : Option Content). acts_on (ue_acts (octet_way codec) u) u
        (pdu_read codec (λ said. radio_input ue bearer Dl octets (content_by (count_received_in u.plan.sn (bearer_at codec u bearer)) said)) o))
        (lawful.none u.plan.sn octets none)

    pub confirm_read : (content : Content) → CarriesPdu u.plan.sn content octets
        → ue_steps codec u (ins.Confirm ue bearer Ul octets)
        ≡ confirm (octet_way codec) bearer (content_by (count_confirmed_in u.plan.sn (bearer_at codec u bearer)) content) u
    unfolding ue_steps read_at_ue ue_acts
    confirm_read content carries =
        ap
        (λ (o : Option Content). acts_on (ue_acts (octet_way codec) u) u
        (pdu_read codec (λ said. confirm_input ue bearer Ul octets (content_by (count_confirmed_in u.plan.sn (bearer_at codec u bearer)) said)) o))
        (lawful.found u.plan.sn content octets carries)

    pub confirm_not_read : ((content : Content) → CarriesPdu u.plan.sn content octets → ⊥)
        → ue_steps codec u (ins.Confirm ue bearer Ul octets) ≡ drops Undecodable u
    unfolding ue_steps read_at_ue
    confirm_not_read none =
        ap
        (λ (o : Option Content). acts_on (ue_acts (octet_way codec) u) u
        (pdu_read codec (λ said. confirm_input ue bearer Ul octets (content_by (count_confirmed_in u.plan.sn (bearer_at codec u bearer)) said)) o))
        (lawful.none u.plan.sn octets none)

  -- ---- control messages of a DU

  module _ (gnb : Gnb) (number : ℕ) where
    read_as : (answer : Result (ways.Message (List ℕ)) DropReason) → codec.read (Du gnb number) (Ue u.plan.ue.0) octets ≡ answer
        → ue_steps codec u (ins.Control (Du gnb number) octets) ≡ acts_on (ue_acts (octet_way codec) u) u (message_read codec (Du gnb number) answer)
    unfolding ue_steps read_at_ue
    read_as answer is =
        ap (λ (a : Result (ways.Message (List ℕ)) DropReason). acts_on (ue_acts (octet_way codec) u) u (message_read codec (Du gnb number) a)) is

    token_told : (m : Message) (token : Token) → token_in m ≡ Some token → told_by (octet_way codec) (Du gnb number) (message_as m) u ≡ told (octet_way codec) token u
    token_told (messages.Rrc said) token is =
        let same : said ≡ token = cc in
        ap (λ (t : Token). told (octet_way codec) t u) same
    token_told (messages.F1 m) token is = absurd cc
    token_told (messages.E1 m) token is = absurd cc
    token_told (messages.Xn m) token is = absurd cc
    token_told (messages.Core m) token is = absurd cc

    other_told : (m : Message) → token_in m ≡ None → told_by (octet_way codec) (Du gnb number) (message_as m) u ≡ drops Unexpected u
    other_told (messages.Rrc said) is = absurd cc
    other_told (messages.F1 m) is = refl
    other_told (messages.E1 m) is = refl
    other_told (messages.Xn m) is = refl
    other_told (messages.Core m) is = refl

    module _ (from : NodeId) (from_is : from ≡ Du gnb number) where
      at_du : (answer : OctetAnswer UeNode) → ue_steps codec u (ins.Control (Du gnb number) octets) ≡ answer → ue_steps codec u (ins.Control from octets) ≡ answer
      at_du answer is = ap (λ (n : NodeId). ue_steps codec u (ins.Control n octets)) from_is ∙ is

      read_from : (answer : Result Message DropReason) → answer_as answer ≡ codec.read from (Ue u.plan.ue.0) octets
          → codec.read (Du gnb number) (Ue u.plan.ue.0) octets ≡ answer_as answer
      read_from answer is = ap (λ (n : NodeId). codec.read n (Ue u.plan.ue.0) octets) (sym from_is) ∙ sym is

      pub token_heard : (m : Message) (token : Token) → answer_as (Ok m) ≡ codec.read from (Ue u.plan.ue.0) octets → token_in m ≡ Some token
          → ue_steps codec u (ins.Control from octets) ≡ told (octet_way codec) token u
      unfolding ue_acts
      token_heard m token is token_is =
          at_du (told (octet_way codec) token u) (read_as (answer_as (Ok m)) (read_from (Ok m) is) ∙ token_told m token token_is)

      pub other_heard : (m : Message) → answer_as (Ok m) ≡ codec.read from (Ue u.plan.ue.0) octets → token_in m ≡ None
          → ue_steps codec u (ins.Control from octets) ≡ drops Unexpected u
      unfolding ue_acts
      other_heard m is token_is =
          at_du (drops Unexpected u) (read_as (answer_as (Ok m)) (read_from (Ok m) is) ∙ other_told m token_is)

      pub nothing_heard : (reason : DropReason) → answer_as (Err reason) ≡ codec.read from (Ue u.plan.ue.0) octets
          → ue_steps codec u (ins.Control from octets) ≡ drops reason u
      nothing_heard reason is = at_du (drops reason u) (read_as (Err reason) (read_from (Err reason) is))

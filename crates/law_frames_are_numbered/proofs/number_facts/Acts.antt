-- Whatever a unit is given, it is counted afterwards what was put on the tunnel, and what a CU-UP took it keeps.
use Rattle.std.proofs.Common.{◌≡◌, ℕ, Bool, false, ◌⊎◌, inl, inr, List, [], ◌∷◌, map, Option, Some, None, refl, sym, ap, ◌∙◌, subst}
use Rattle.std.specs.Prelude.{if◌then◌else◌}
use Rattle.gnb_types.specs.declared.names.Gnb.{Gnb}
use Rattle.gnb_types.specs.declared.names.Gnb.TheVariants.{A, B}
use Rattle.gnb_types.specs.declared.names.NodeId.{NodeId}
use Rattle.gnb_types.specs.declared.names.NodeId.TheVariants.{CuCp, CuUp as up_id, Du as du_id, Core, Ue}
use Rattle.gnb_types.specs.declared.keys.TunnelEnd.{TunnelEnd}
use Rattle.gnb_types.specs.declared.reasons.DropReason.TheVariants.{Unexpected}
use Rattle.message_types.specs.declared.rrc.Token.{Token}
use Rattle.unit_defs.specs.Ways.{Message, Pdu, Input, control_input, Output, dropped, gives, spent, drops}
use Rattle.unit_defs.specs.Messages.{channel}
use Rattle.unit_defs.specs.Transactions.{kind_of}
use Rattle.unit_defs.specs.Ue.{UeNode, ue_acts}
use Rattle.unit_defs.specs.CuUpRecords.{CuUp}
use Rattle.unit_defs.specs.CuUp.{ue_in, is_own_cu_cp, control_by, control_received, cu_up_acts}
use Rattle.unit_defs.specs.Du.{Du, du_acts}
use Rattle.unit_defs.specs.CuCpRecords.{CuCpRecord}
use Rattle.unit_defs.specs.CuCp.{cu_cp_acts}
use Rattle.run_defs.specs.Units.{cu_cp_of, with_cu_cp, cu_up_of, with_cu_up, du_of, with_du, ue_of, with_ue}
use Rattle.run_defs.specs.Written.{written_put, PlainStepped, WrittenStepped, written_step}
use Rattle.run_defs.specs.States.{Lengths, stepped, step_spent}
use Rattle.run_defs.specs.Runs.{Reading, PlainGiven, Plain, plain_way, input_of, stepped_with, ue_stepped, acts_on, plain_by, fault_of}
use Rattle.proof_unit_steps.specs.answers.After.{HoldsAfter}
use Rattle.law_tunnels_are_owned.specs.owner_facts.Owned.{CuUpOwns, DuOwns, AreOwned}
use Rattle.law_tunnels_are_owned.proofs.tunnel_owners.CuUps.{cu_up_owns}
use Rattle.law_tunnels_are_owned.proofs.tunnel_owners.Dus.{du_owns}
use Rattle.law_tunnels_are_owned.proofs.tunnel_owners.Placed.{with_up_owned, with_du_owned, with_cp_owned}
use Rattle.proof_unit_steps.specs.frames.Numbered.{frames_by}
use Rattle.proof_unit_steps.specs.tunnel_frames.OneTunnel.{numbers_on, CountTo, NumbersTunnel}
use Rattle.proof_unit_steps.proofs.tunnel_frames.CuUps.{cu_up_numbers}
use Rattle.law_requests_act_once.specs.taken_requests.Taken.{WasTaken, StillTaken, IsTaken}
use Rattle.law_requests_act_once.proofs.taken_requests.CuUps.{cu_up_still, cu_up_taken}
use Rattle.law_frames_are_numbered.proofs.number_facts.Units.{Records, Phase, seen_at, Ups, with_up_counts}
use Rattle.law_frames_are_numbered.proofs.number_facts.Links.{Keeps, up_here, keeps_up, own_or_not, Switch, TakenAt}

pub keeps_cp : (u : Records) (gnb : Gnb) (r : CuCpRecord (Message Token) Token) → Keeps u (with_cu_cp u gnb r)
keeps_cp u A r g n c i was = was
keeps_cp u B r g n c i was = was

module _ (end : TunnelEnd) where
  -- how far a node's frames go on: only those of CU-UPs are counted
  abbrev pub CountBy : NodeId → ℕ → List (Output (Message Token) Pdu) → ℕ → Type 0
  CountBy (up_id gnb number) k os j = CountTo k (numbers_on end (frames_by os)) j
  CountBy node k os j = j ≡ k

  abbrev pub SwitchBy : Phase → ℕ → Records → NodeId → Message Token → NodeId → Type 0
  SwitchBy q k u from m (up_id gnb number) = Switch end q k u gnb number from m
  SwitchBy q k u from m node = Unit {0}

  abbrev pub InputIs : Phase → ℕ → Records → Option (Input Token Pdu) → NodeId → Type 0
  InputIs q k u (Some (control_input from m)) node = SwitchBy q k u from m node
  InputIs q k u o node = Unit {0}

  abbrev pub TakenBy : NodeId → Option (Input Token Pdu) → Records → Type 0
  TakenBy (up_id gnb number) (Some (control_input from m)) v = TakenAt end v gnb number from m
  TakenBy node o v = Unit {0}

  module _ (reading : Reading) (q : Phase) (k : ℕ) (u : Records) (owned : AreOwned u) (ups : Ups end q k u) where
    abbrev Answered : NodeId → Option (Input Token Pdu) → PlainStepped → Type 0
    Answered node o (stepped os v) = AreOwned v × ((j : ℕ) × CountBy node k os j × Ups end q j v) × (Keeps u v × TakenBy node o v)
    Answered node o (step_spent counter) = Unit {0}

    abbrev pub AnsweredWell : Lengths → NodeId → Option (Input Token Pdu) → WrittenStepped → Type 0
    AnsweredWell sn node o (stepped outputs v) =
        (os : List (Output (Message Token) Pdu)) × (outputs ≡ map (written_put sn) os) × AreOwned v × ((j : ℕ) × CountBy node k os j × Ups end q j v)
        × (Keeps u v × TakenBy node o v)
    AnsweredWell sn node o (step_spent counter) = Unit {0}

    with_cp_ups : (gnb : Gnb) (r : CuCpRecord (Message Token) Token) → Ups end q k (with_cu_cp u gnb r)
    with_cp_ups A r = ups
    with_cp_ups B r = ups

    same : Keeps u u
    same g n c i was = was

    by_cp : (gnb : Gnb) (o : Option (Input Token Pdu)) (a : Plain (CuCpRecord (Message Token) Token)) → Answered (CuCp gnb) o (stepped_with reading (with_cu_cp u gnb) a)
    by_cp gnb o (gives os r) = (with_cp_owned u gnb r owned, (k, refl, with_cp_ups gnb r), (keeps_cp u gnb r, tt))
    by_cp gnb o (spent counter) = tt

    taken_there : (gnb : Gnb) (number : ℕ) (input : Input Token Pdu) (os : List (Output (Message Token) Pdu)) (r : CuUp (Message Token) Token)
        → IsTaken (cu_up_of u gnb number) input (gives os r) → TakenBy (up_id gnb number) (Some input) (with_cu_up u gnb number r)
    taken_there gnb number (control_input from m) os r h =
        λ own ue i kind.
        subst (λ (x : CuUp (Message Token) Token). WasTaken x.transactions (channel ue from) i) (sym (up_here u gnb number r))
        (h (own ∙ ap (λ (g : Gnb). CuCp g) (sym (ups.1 gnb number).0)) ue i kind)
    taken_there gnb number input os r h = tt

    by_up : (gnb : Gnb) (number : ℕ) (input : Input Token Pdu) (a : Plain (CuUp (Message Token) Token)) → HoldsAfter CuUpOwns a
        → NumbersTunnel (seen_at end q gnb number) k a → StillTaken (cu_up_of u gnb number) a → IsTaken (cu_up_of u gnb number) input a
        → Answered (up_id gnb number) (Some input) (stepped_with reading (with_cu_up u gnb number) a)
    by_up gnb number input (gives os r) h n still taken = (
      with_up_owned u gnb number r owned h,
      (n.0, n.1, with_up_counts end q k n.0 u gnb number r ups n.2 n.3),
      (keeps_up u gnb number r still, taken_there gnb number input os r taken),
    )
    by_up gnb number input (spent counter) h n still taken = tt

    by_du : (gnb : Gnb) (number : ℕ) (o : Option (Input Token Pdu)) (a : Plain (Du (Message Token) Token)) → HoldsAfter DuOwns a
        → Answered (du_id gnb number) o (stepped_with reading (with_du u gnb number) a)
    by_du gnb number o (gives os r) h = (with_du_owned u gnb number r owned h, (k, refl, ups), (same, tt))
    by_du gnb number o (spent counter) h = tt

    by_ue : (ue : ℕ) (o : Option (Input Token Pdu)) (a : Plain UeNode) → Answered (Ue ue) o (stepped_with reading (with_ue u (record { 0 = ue })) a)
    by_ue ue o (gives os r) = (owned, (k, refl, ups), (same, tt))
    by_ue ue o (spent counter) = tt

    -- a message of another node than the own CU-CP changes nothing
    numbers_of : (gnb : Gnb) (number : ℕ) (input : Input Token Pdu) → InputIs q k u (Some input) (up_id gnb number)
        → NumbersTunnel (seen_at end q gnb number) k (cu_up_acts plain_way (cu_up_of u gnb number) input)
    unfolding cu_up_acts control_received
    numbers_of gnb number (control_input from m) is = by (own_or_not gnb from)
      where
        r : CuUp (Message Token) Token
        r = cu_up_of u gnb number

        by : (from ≡ CuCp gnb) ⊎ (is_own_cu_cp plain_way gnb from ≡ false)
            → NumbersTunnel (seen_at end q gnb number) k (cu_up_acts plain_way (cu_up_of u gnb number) (control_input from m))
        by (inl own) = cu_up_numbers (seen_at end q gnb number) plain_way k r (control_input from m) (owned.0 gnb number).1 (ups.1 gnb number) (is own)
        by (inr off) =
            subst (λ (b : Bool). NumbersTunnel {P = Pdu} (seen_at end q gnb number) k
            (if b then control_by plain_way (channel (ue_in plain_way (kind_of m)) from) m r (kind_of m) else drops Unexpected r))
            (sym (ap (λ (g : Gnb). is_own_cu_cp plain_way g from) (ups.1 gnb number).0 ∙ off)) (k, refl, ups.1 gnb number, λ none. refl)
    numbers_of gnb number input is =
        cu_up_numbers (seen_at end q gnb number) plain_way k (cu_up_of u gnb number) input (owned.0 gnb number).1 (ups.1 gnb number) tt

    acted : (node : NodeId) (input : Input Token Pdu) → InputIs q k u (Some input) node → Answered node (Some input) (acts_on reading u node input)
    acted (CuCp gnb) input is = by_cp gnb (Some input) (cu_cp_acts plain_way (cu_cp_of u gnb) input)
    acted (up_id gnb number) input is =
        by_up gnb number input (cu_up_acts plain_way (cu_up_of u gnb number) input) (cu_up_owns plain_way (cu_up_of u gnb number) input (owned.0 gnb number))
        (numbers_of gnb number input is) (cu_up_still plain_way (cu_up_of u gnb number) input) (cu_up_taken plain_way (cu_up_of u gnb number) input)
    acted (du_id gnb number) input is =
        by_du gnb number (Some input) (du_acts plain_way (du_of u gnb number) input) (du_owns plain_way (du_of u gnb number) input (owned.1 gnb number))
    acted (Ue ue) input is = there (ue_of u (record { 0 = ue }))
      where
        there : (o : Option UeNode) → Answered (Ue ue) (Some input) (ue_stepped reading u ue input o)
        there None = (owned, (k, refl, ups), (same, tt))
        there (Some x) = by_ue ue (Some input) (ue_acts plain_way x input)
    acted Core input is = (owned, (k, refl, ups), (same, tt))

    nothing_by : (node : NodeId) (given : PlainGiven) → Answered node None (stepped (dropped (fault_of reading node given) ∷ []) u)
    nothing_by (CuCp gnb) given = (owned, (k, refl, ups), (same, tt))
    nothing_by (up_id gnb number) given = (owned, (k, refl, ups), (same, tt))
    nothing_by (du_id gnb number) given = (owned, (k, refl, ups), (same, tt))
    nothing_by (Ue ue) given = (owned, (k, refl, ups), (same, tt))
    nothing_by Core given = (owned, (k, refl, ups), (same, tt))

    answered : (node : NodeId) (given : PlainGiven) (o : Option (Input Token Pdu)) → InputIs q k u o node → Answered node o (plain_by reading u node given o)
    answered node given None is = nothing_by node given
    answered node given (Some input) is = acted node input is

    written : (sn : Lengths) (node : NodeId) (o : Option (Input Token Pdu)) (x : PlainStepped) → Answered node o x → AnsweredWell sn node o (written_step sn x)
    written sn node o (stepped os v) p = (os, refl, p.0, p.1, p.2)
    written sn node o (step_spent counter) p = tt

    pub answered_well : (sn : Lengths) (node : NodeId) (given : PlainGiven) → InputIs q k u (input_of reading given) node
        → AnsweredWell sn node (input_of reading given) (written_step sn (plain_by reading u node given (input_of reading given)))
    answered_well sn node given is =
        written sn node (input_of reading given) (plain_by reading u node given (input_of reading given)) (answered node given (input_of reading given) is)

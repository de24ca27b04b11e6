-- A step of a unit: what it leaves of CU-CPs and of what units ask.
use Rattle.std.proofs.Common.{◌≡◌, ℕ, Bool, true, false, List, Option, Some, None, refl, sym, ap, subst}
use Rattle.gnb_types.specs.declared.names.Gnb.{Gnb}
use Rattle.gnb_types.specs.declared.names.Gnb.TheVariants.{A, B}
use Rattle.gnb_types.specs.declared.names.NodeId.{NodeId}
use Rattle.gnb_types.specs.declared.names.NodeId.TheVariants.{CuCp, CuUp as up_id, Du as du_id, Core, Ue}
use Rattle.gnb_types.specs.declared.names.UeId.{UeId}
use Rattle.gnb_types.specs.Orders.{channel_cmp}
use Rattle.tables.specs.Tables.{IsSorted}
use Rattle.message_types.specs.declared.rrc.Token.{Token}
use Rattle.unit_defs.specs.Ways.{Message, Pdu, Load, Input, Put as UnitPut, gives, spent}
use Rattle.unit_defs.specs.Transactions.{Transactions}
use Rattle.unit_defs.specs.CuUpRecords.{CuUp}
use Rattle.unit_defs.specs.CuUp.{cu_up_acts}
use Rattle.unit_defs.specs.Du.{Du, du_acts}
use Rattle.unit_defs.specs.Ue.{UeNode, ue_acts}
use Rattle.unit_defs.specs.CuCp.{cu_cp_acts}
use Rattle.run_defs.specs.Units.{cu_cp_of, with_cu_cp, cu_up_of, with_cu_up, du_of, with_du, ue_of, with_ue}
use Rattle.run_defs.specs.States.{Lengths, control_message_for, item_for, carried_for, confirmed_for, offer_for, tick_for, order_for, octets_from, octets_on, stepped, step_spent}
use Rattle.run_defs.specs.Written.{Written, PlainStepped, WrittenStepped, written_step}
use Rattle.run_defs.specs.Runs.{Reading, PlainGiven, Plain, plain_way, input_of, stepped_with, ue_stepped, acts_on, plain_by, plain_answer}
use Rattle.law_requests_act_once.specs.channel.Ends.{same_node, asking_at}
use Rattle.law_requests_act_once.specs.channel.Exactly.{IfGives}
use Rattle.law_requests_act_once.proofs.channel.Keys.{node_told, node_apart}
use Rattle.law_requests_act_once.proofs.channel.Kept.{good_of}
use Rattle.law_requests_act_once.proofs.channel_rows.Undated.{sorted_of}
use Rattle.proof_run_steps.specs.control.Control.{WasPut}
use Rattle.law_requests_act_once.specs.run_channels.Reached.{PlainControl, PlainCp, run_talk, kept_by}
use Rattle.law_requests_act_once.proofs.run_channels.Nodes.{Records, up_here, up_apart, du_here, du_apart, cp_apart, ue_same}
use Rattle.law_requests_act_once.proofs.run_channels.Reaches.{IsUpOrDu}
use Rattle.law_requests_act_once.specs.cu_cp_deadlines.Deadlines.{DeadlinesFit}
use Rattle.law_requests_act_once.proofs.cu_cp_deadlines.Acts as deadlines
use Rattle.law_requests_act_once.specs.cu_cp_offers.Offers.{OffersStand, InputFits}
use Rattle.law_requests_act_once.proofs.cu_cp_offers.Acts as offers
use Rattle.law_requests_act_once.specs.unit_setups.Setups.{GoesOn}
use Rattle.law_requests_act_once.proofs.unit_setups.Growing.{goes_same}
use Rattle.law_requests_act_once.proofs.unit_setups.Dus.{du_asks}
use Rattle.law_requests_act_once.proofs.unit_setups.CuUps.{cu_up_asks}
use Rattle.law_requests_act_once.proofs.run_once.Asked.{WasAsked, comes_fit}
use Rattle.law_requests_act_once.proofs.run_once.Joint.{CuCpFits, Joint}

-- one CU-CP's record
pub cps_with : (Q : Gnb → PlainCp → Type 0) (u : Records) (gnb : Gnb) (r : PlainCp) → Q gnb r → ((h : Gnb) → Q h (cu_cp_of u h)) → (h : Gnb) → Q h (cu_cp_of (with_cu_cp u gnb r) h)
cps_with Q u A r here all A = here
cps_with Q u A r here all B = all B
cps_with Q u B r here all A = all A
cps_with Q u B r here all B = here

pub cps_same : (Q : Gnb → PlainCp → Type 0) (u v : Records) → ((h : Gnb) → cu_cp_of v h ≡ cu_cp_of u h) → ((h : Gnb) → Q h (cu_cp_of u h)) → (h : Gnb) → Q h (cu_cp_of v h)
cps_same Q u v same all h = subst (Q h) (sym (same h)) (all h)

up_cps : (u : Records) (gnb : Gnb) (number : ℕ) (r : CuUp (Message Token) Token) (h : Gnb) → cu_cp_of (with_cu_up u gnb number r) h ≡ cu_cp_of u h
up_cps u gnb number r A = refl
up_cps u gnb number r B = refl

du_cps : (u : Records) (gnb : Gnb) (number : ℕ) (r : Du (Message Token) Token) (h : Gnb) → cu_cp_of (with_du u gnb number r) h ≡ cu_cp_of u h
du_cps u gnb number r A = refl
du_cps u gnb number r B = refl

pub ue_cps : (u : Records) (ue : UeId) (x : UeNode) (h : Gnb) → cu_cp_of (with_ue u ue x) h ≡ cu_cp_of u h
ue_cps u ue x A = refl
ue_cps u ue x B = refl

-- a unit is no CU-CP
unit_not_cp : (m : NodeId) (gnb : Gnb) → IsUpOrDu m → same_node m (CuCp gnb) ≡ false
unit_not_cp m gnb is = node_apart m (CuCp gnb) (λ e. subst IsUpOrDu e is)

module _ (reading : Reading) (k : PlainControl) (j : Joint k) where
  abbrev pub Fits : Gnb → PlainCp → Type 0
  Fits gnb r = CuCpFits k.control_messages gnb r

  -- what units are then: CU-CPs, where no message more was put, and what is asked
  pub record Next (v : Records) : Type 0 where
    pub cps : (gnb : Gnb) → Fits gnb (cu_cp_of v gnb)
    pub goes : (m : NodeId) → IsUpOrDu m → GoesOn plain_way (kept_by k m) (kept_by (record k { units = v }) m)

  same_goes : (v : Records) (m : NodeId) → kept_by (record k { units = v }) m ≡ kept_by k m → GoesOn plain_way (kept_by k m) (kept_by (record k { units = v }) m)
  same_goes v m same = goes_same plain_way (kept_by k m) (kept_by (record k { units = v }) m) (λ c. ap (λ (t : Transactions (Message Token) Token). asking_at t c) same)

  nothing_next : Next k.units
  nothing_next = record { cps = j.cps; goes = λ m is. goes_same plain_way (kept_by k m) (kept_by k m) (λ c. refl) }

  abbrev Stepped : PlainStepped → Type 0
  Stepped (stepped os v) = Next v
  Stepped (step_spent counter) = Unit {0}

  sorted : (n : NodeId) → IsSorted channel_cmp (kept_by k n).caller.opened
  sorted n = sorted_of run_talk (good_of run_talk j.reached.orders j.reached.comes.may) n (kept_by k n) (j.reached.comes.nodes n)

  by_cp : (gnb : Gnb) (a : Plain PlainCp) → IfGives (λ q. DeadlinesFit q × (q.gnb ≡ gnb)) a
      → IfGives (λ q. OffersStand (WasAsked k.control_messages gnb) q × (q.gnb ≡ (cu_cp_of k.units gnb).gnb)) a → Stepped (stepped_with reading (with_cu_cp k.units gnb) a)
  by_cp gnb (gives os q) dates offers = record {
    cps = cps_with Fits k.units gnb q (record { own = dates.1; deadlines = dates.0; offers = offers.0 }) j.cps;
    goes = λ m is. same_goes (with_cu_cp k.units gnb q) m (cp_apart k gnb q m (unit_not_cp m gnb is));
  }
  by_cp gnb (spent counter) dates offers = tt

  by_up : (gnb : Gnb) (number : ℕ) (a : Plain (CuUp (Message Token) Token))
      → IfGives (λ q. GoesOn plain_way (kept_by k (up_id gnb number)) q.transactions) a → Stepped (stepped_with reading (with_cu_up k.units gnb number) a)
  by_up gnb number (gives os q) goes = record {
    cps = cps_same Fits k.units (with_cu_up k.units gnb number q) (up_cps k.units gnb number q) j.cps;
    goes = λ m is. by m (same_node m (up_id gnb number)) refl;
  }
    where
      v : Records
      v = with_cu_up k.units gnb number q

      by : (m : NodeId) (b : Bool) → same_node m (up_id gnb number) ≡ b → GoesOn plain_way (kept_by k m) (kept_by (record k { units = v }) m)
      by m true e =
          subst (λ (n : NodeId). GoesOn plain_way (kept_by k n) (kept_by (record k { units = v }) n)) (sym (node_told m (up_id gnb number) e))
          (subst (λ (t : Transactions (Message Token) Token). GoesOn plain_way (kept_by k (up_id gnb number)) t) (sym (up_here k gnb number q)) goes)
      by m false e = same_goes v m (up_apart k gnb number q m e)
  by_up gnb number (spent counter) goes = tt

  by_du : (gnb : Gnb) (number : ℕ) (a : Plain (Du (Message Token) Token))
      → IfGives (λ q. GoesOn plain_way (kept_by k (du_id gnb number)) q.transactions) a → Stepped (stepped_with reading (with_du k.units gnb number) a)
  by_du gnb number (gives os q) goes = record {
    cps = cps_same Fits k.units (with_du k.units gnb number q) (du_cps k.units gnb number q) j.cps;
    goes = λ m is. by m (same_node m (du_id gnb number)) refl;
  }
    where
      v : Records
      v = with_du k.units gnb number q

      by : (m : NodeId) (b : Bool) → same_node m (du_id gnb number) ≡ b → GoesOn plain_way (kept_by k m) (kept_by (record k { units = v }) m)
      by m true e =
          subst (λ (n : NodeId). GoesOn plain_way (kept_by k n) (kept_by (record k { units = v }) n)) (sym (node_told m (du_id gnb number) e))
          (subst (λ (t : Transactions (Message Token) Token). GoesOn plain_way (kept_by k (du_id gnb number)) t) (sym (du_here k gnb number q)) goes)
      by m false e = same_goes v m (du_apart k gnb number q m e)
  by_du gnb number (spent counter) goes = tt

  by_ue : (ue : ℕ) (a : Plain UeNode) → Stepped (stepped_with reading (with_ue k.units (record { 0 = ue })) a)
  by_ue ue (gives os x) = record {
    cps = cps_same Fits k.units (with_ue k.units (record { 0 = ue }) x) (ue_cps k.units (record { 0 = ue }) x) j.cps;
    goes = λ m is. same_goes (with_ue k.units (record { 0 = ue }) x) m (ue_same k (record { 0 = ue }) x m);
  }
  by_ue ue (spent counter) = tt

  -- what a CU-CP is given
  abbrev GivenIf : NodeId → Option (Input Token Pdu) → Type 0
  GivenIf (CuCp gnb) (Some input) = InputFits (WasAsked k.control_messages gnb) (cu_cp_of k.units gnb) input
  GivenIf n o = Unit {0}

  given_fits : (gnb : Gnb) (given : PlainGiven) → WasPut k.control_messages (CuCp gnb) given → GivenIf (CuCp gnb) (input_of reading given)
  given_fits gnb (control_message_for from m) was = λ ue i kind fresh shares.
      comes_fit k j.reached j.none j.core gnb (cu_cp_of k.units gnb) refl (j.cps gnb).own (j.cps gnb).offers from m was.0 was.1 ue i kind fresh shares
  given_fits gnb (item_for teid item) was = tt
  given_fits gnb (carried_for item) was = tt
  given_fits gnb (confirmed_for item) was = tt
  given_fits gnb (offer_for ue bearer p) was = tt
  given_fits gnb tick_for was = tt
  given_fits gnb (order_for order) was = tt
  given_fits gnb (octets_from from octets) was = tt
  given_fits gnb (octets_on teid octets) was = tt

  given_to : (n : NodeId) (given : PlainGiven) → WasPut k.control_messages n given → GivenIf n (input_of reading given)
  given_to (CuCp gnb) given was = given_fits gnb given was
  given_to (up_id gnb number) given was = tt
  given_to (du_id gnb number) given was = tt
  given_to Core given was = tt
  given_to (Ue ue) given was = tt

  acted : (n : NodeId) (input : Input Token Pdu) → GivenIf n (Some input) → Stepped (acts_on reading k.units n input)
  acted (CuCp gnb) input fits =
      let r : PlainCp = cu_cp_of k.units gnb in
      by_cp gnb (cu_cp_acts plain_way r input) (deadlines.cu_cp_keeps plain_way gnb r input ((j.cps gnb).deadlines, (j.cps gnb).own))
      (offers.cu_cp_keeps plain_way gnb (WasAsked k.control_messages gnb) r input ((j.cps gnb).offers, (j.cps gnb).own) fits)
  acted (up_id gnb number) input fits =
      by_up gnb number (cu_up_acts plain_way (cu_up_of k.units gnb number) input)
      (cu_up_asks run_talk Core (cu_up_of k.units gnb number) (sorted (up_id gnb number)) input)
  acted (du_id gnb number) input fits =
      by_du gnb number (du_acts plain_way (du_of k.units gnb number) input) (du_asks run_talk Core (du_of k.units gnb number) (sorted (du_id gnb number)) input)
  acted (Ue ue) input fits = there (ue_of k.units (record { 0 = ue }))
    where
      there : (o : Option UeNode) → Stepped (ue_stepped reading k.units ue input o)
      there None = nothing_next
      there (Some x) = by_ue ue (ue_acts plain_way x input)
  acted Core input fits = nothing_next

  answered : (n : NodeId) (given : PlainGiven) (o : Option (Input Token Pdu)) → GivenIf n o → Stepped (plain_by reading k.units n given o)
  answered n given None fits = nothing_next
  answered n given (Some input) fits = acted n input fits

  abbrev WrittenNext : WrittenStepped → Type 0
  WrittenNext (stepped outputs v) = Next v
  WrittenNext (step_spent counter) = Unit {0}

  written : (sn : Lengths) (x : PlainStepped) → Stepped x → WrittenNext (written_step sn x)
  written sn (stepped outputs v) p = p
  written sn (step_spent counter) p = tt

  pub next_units : (sn : Lengths) (v : Records) (n : NodeId) (given : PlainGiven) (outputs : List (UnitPut (Message Token) (Written (Load Pdu)) (Written Pdu)))
      → WasPut k.control_messages n given → plain_answer reading sn k.units n given ≡ stepped outputs v → Next v
  next_units sn v n given outputs was is =
      subst WrittenNext is (written sn (plain_by reading k.units n given (input_of reading given)) (answered n given (input_of reading given) (given_to n given was)))

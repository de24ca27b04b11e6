-- Where each offered packet has an octet, each packet of a run has from 1 to 2,048 of them: those that units keep and those that stand on links.
use Rattle.std.proofs.Common.{◌≡◌, ◌<◌, ◌≤◌, ℕ, Bool, true, false, List, [], ◌∷◌, length, Option, Some, None, refl, subst, arith}
use Rattle.std.specs.Prelude.{nat_lt, if◌then◌else◌}
use Rattle.std.specs.List.{AllByRecursion}
use Rattle.gnb_types.specs.declared.names.NodeId.{NodeId}
use Rattle.gnb_types.specs.declared.names.NodeId.TheVariants.{CuCp, CuUp as up_id, Du as du_id, Core, Ue}
use Rattle.gnb_types.specs.declared.names.UeId.{UeId}
use Rattle.gnb_types.specs.declared.names.BearerId.{BearerId}
use Rattle.gnb_types.specs.declared.names.Dir.{Dir}
use Rattle.gnb_types.specs.declared.names.Dir.TheVariants.{Dl, Ul}
use Rattle.gnb_types.specs.declared.names.SnBits.{SnBits}
use Rattle.gnb_types.specs.declared.keys.EntityKey.{EntityKey}
use Rattle.gnb_types.specs.declared.inputs.Order.TheVariants as orders
use Rattle.gnb_types.specs.declared.reasons.RefuseReason.TheVariants.{Size}
use Rattle.gnb_types.specs.Orders.{bearer_cmp}
use Rattle.message_types.specs.declared.rrc.Token.{Token}
use Rattle.tables.specs.Tables.{find, at}
use Rattle.link_defs.specs.Decoding.{IsSized}
use Rattle.unit_defs.specs.Ways.{Message, Pdu, Load, Put, control, packet, radio, deliver, dropped, held, opened, closed, failed, no, offer_input, packet_input, radio_input, puts}
use Rattle.unit_defs.specs.Ue.{UeBearer, UeNode, largest_packet, offered, offer, ue_acts}
use Rattle.run_defs.specs.Units.{ue_of}
use Rattle.run_defs.specs.Written.{Written, WrittenStepped}
use Rattle.run_defs.specs.States.{new_state, order_for, control_message_for, item_for, carried_for, confirmed_for, offer_for, tick_for, octets_from, octets_on, stepped, step_spent}
use Rattle.run_defs.specs.Runs.{Reading, PlainGiven, Plain, plain_way, plain_by, input_of, acts_on, ue_stepped, content_of, taken_of}
use Rattle.proof_run_steps.specs.facts.Facts.{Facts, Hold, PutFits, PutsFit, GivenFits}
use Rattle.proof_run_steps.specs.plan_facts.Along.{lengths_by, Allowed, Brings as BringsIn, AreKeptAlong}
use Rattle.law_tunnels_are_owned.proofs.run_lengths.Answers.{allows}
use Rattle.proof_unit_steps.specs.packets.Packets.{of, dir_of, AnswerHas, UeHas}
use Rattle.law_units_act_locally.specs.local_packets.Says.{packet_of_pdu, packet_of_load}
use Rattle.law_units_act_locally.specs.local_packets.Local.{IfAny}
use Rattle.law_units_act_locally.proofs.local_packets.Known.{Knowledge, Records, of_packets, Known, PutHas, load_taken, pdu_content, Answered, AnsweredWell, InputHas, by_ue, control_brings, confirm_brings, tick_brings, order_brings, answered, written, comes_known, placed_known, the_core_answers, first_known}
use Rattle.law_units_act_locally.proofs.local_lengths.Attach.{W}

abbrev pub RunFacts : Type 1
RunFacts = Facts (Message Token) Token (Written (Load Pdu)) (Written Pdu)

-- whoever keeps it, and for whom
abbrev pub SizedAt : Knowledge
SizedAt node key p = IsSized p

-- what may be offered: down, a packet of that size; up, one that has an octet, since a terminal refuses what is larger
abbrev pub MayOffer : Dir → List ℕ → Type 0
MayOffer Dl p = IsSized p
MayOffer Ul p = 0 < length p

abbrev pub sized : RunFacts
sized = record {
  units = λ u. Known SizedAt u;
  core = λ r. Unit {0};
  control_message = λ l. Unit {0};
  puts_on = λ node end item. IfAny IsSized (packet_of_load item.content.says);
  puts_on_air = λ node key item. IfAny IsSized (packet_of_pdu item.content.says);
  on_tunnel = λ end item. IfAny IsSized (packet_of_load item.content.says);
  on_radio = λ key item. IfAny IsSized (packet_of_pdu item.content.says);
  stands = λ node end item p. p;
  stands_on_air = λ node key item p. p;
  counted = ⊥;
}

-- ---- what is put

put_sized : (node : NodeId) (taken : Option ℕ) (output : Put (Message Token) (Written (Load Pdu)) (Written Pdu)) → PutHas (SizedAt node) output
    → PutFits sized node taken output
put_sized node taken (control to ue message) h = tt
put_sized node taken (packet to teid ue bearer dir tag item) h = h
put_sized node taken (radio ue bearer dir epoch tag pdu) h = h
put_sized node taken (deliver ue bearer dir count x) h = tt
put_sized node taken (dropped reason) h = tt
put_sized node taken (held reason) h = tt
put_sized node taken (opened teid) h = tt
put_sized node taken (closed teid) h = tt
put_sized node taken (failed ue cause) h = tt
put_sized node taken (no reason) h = tt

puts_sized : (node : NodeId) (taken : Option ℕ) (outputs : List (Put (Message Token) (Written (Load Pdu)) (Written Pdu))) → AllByRecursion (PutHas (SizedAt node)) outputs
    → PutsFit sized node taken outputs
puts_sized node taken [] h = tt
puts_sized node taken (output ∷ outputs) h = (put_sized node taken output h.0, puts_sized node taken outputs h.1)

module _ (reading : Reading) where
  -- ---- what is given

  item_brings : (u : Records) (node : NodeId) (teid : ℕ) (key : EntityKey) (load : Load Pdu) → IfAny IsSized (packet_of_load load)
      → InputHas SizedAt reading u node (packet_input teid (taken_of load))
  item_brings u (up_id gnb number) teid key load h = λ owner there. load_taken (SizedAt (up_id gnb number)) (of owner.ue owner.bearer (dir_of owner.kind)) load h
  item_brings u (du_id gnb number) teid key load h = λ owner there. load_taken (SizedAt (du_id gnb number)) (of owner.ue owner.bearer Dl) load h
  item_brings u (CuCp gnb) teid key load h = tt
  item_brings u (Ue ue) teid key load h = tt
  item_brings u Core teid key load h = tt

  radio_brings : (u : Records) (node : NodeId) (ue : UeId) (bearer : BearerId) (dir : Dir) (pdu : Pdu) → IfAny IsSized (packet_of_pdu pdu)
      → InputHas SizedAt reading u node (radio_input ue bearer dir pdu (content_of pdu))
  radio_brings u (du_id gnb number) ue bearer dir pdu h = h
  radio_brings u (Ue who) ue bearer Dl pdu h = pdu_content (SizedAt (Ue who)) (of (record { 0 = who }) bearer Dl) pdu h
  radio_brings u (Ue who) ue bearer Ul pdu h = tt
  radio_brings u (CuCp gnb) ue bearer dir pdu h = tt
  radio_brings u (up_id gnb number) ue bearer dir pdu h = tt
  radio_brings u Core ue bearer dir pdu h = tt

  -- a terminal refuses what is too large
  long_offer : (who : UeId) (x : UeNode) (ue : UeId) (bearer : BearerId) (p : List ℕ) → nat_lt largest_packet (length p) ≡ true → UeHas (of_packets (SizedAt (Ue who.0))) who x
      → AnswerHas (of_packets (SizedAt (Ue who.0))) (UeHas (of_packets (SizedAt (Ue who.0))) who) (ue_acts plain_way x (offer_input ue bearer p))
  unfolding ue_acts offer
  long_offer who x ue bearer p long h = by (find bearer_cmp x.bearers bearer)
    where
      pick : (t : Bool) (a b : Plain UeNode) → t ≡ true → AnswerHas (of_packets (SizedAt (Ue who.0))) (UeHas (of_packets (SizedAt (Ue who.0))) who) a
          → AnswerHas (of_packets (SizedAt (Ue who.0))) (UeHas (of_packets (SizedAt (Ue who.0))) who) (if t then a else b)
      pick true a b e p = p
      pick false a b e p = absurd cc

      by : (o : Option UeBearer) → AnswerHas (of_packets (SizedAt (Ue who.0))) (UeHas (of_packets (SizedAt (Ue who.0))) who) (offered plain_way x bearer p o)
      by None = (h, (tt, tt))
      by (Some b) = pick (nat_lt largest_packet (length p)) (puts (no Size) x) _ long (h, (tt, tt))

  offer_answered : (u : Records) (node : NodeId) (ue : UeId) (bearer : BearerId) (p : List ℕ) → 0 < length p → Known SizedAt u
      → Answered SizedAt reading node (acts_on reading u node (offer_input ue bearer p))
  offer_answered u (Ue who) ue bearer p some k = by (nat_lt largest_packet (length p)) refl
    where
      there : nat_lt largest_packet (length p) ≡ true → (o : Option UeNode) → ue_of u (record { 0 = who }) ≡ o
          → Answered SizedAt reading (Ue who) (ue_stepped reading u who (offer_input ue bearer p) o)
      there long None is = (k, tt)
      there long (Some x) is =
          by_ue SizedAt reading u who (ue_acts plain_way x (offer_input ue bearer p)) k
          (long_offer (record { 0 = who }) x ue bearer p long (k.3 (record { 0 = who }) x is))

      by : (t : Bool) → nat_lt largest_packet (length p) ≡ t → Answered SizedAt reading (Ue who) (acts_on reading u (Ue who) (offer_input ue bearer p))
      by true long = there long (ue_of u (record { 0 = who })) refl
      by false fits = answered SizedAt reading u (Ue who) (offer_for ue bearer p) (Some (offer_input ue bearer p)) k (some, short (length p) fits)
        where
          short : (n : ℕ) → nat_lt largest_packet n ≡ false → n ≤ 2048
          short n e = grind arith
  offer_answered u (CuCp gnb) ue bearer p some k = answered SizedAt reading u (CuCp gnb) (offer_for ue bearer p) (Some (offer_input ue bearer p)) k tt
  offer_answered u (up_id gnb number) ue bearer p some k =
      answered SizedAt reading u (up_id gnb number) (offer_for ue bearer p) (Some (offer_input ue bearer p)) k tt
  offer_answered u (du_id gnb number) ue bearer p some k =
      answered SizedAt reading u (du_id gnb number) (offer_for ue bearer p) (Some (offer_input ue bearer p)) k tt
  offer_answered u Core ue bearer p some k = answered SizedAt reading u Core (offer_for ue bearer p) (Some (offer_input ue bearer p)) k tt

  module _ (Extra : UeId → SnBits → Type 0) where
    abbrev pub Its : Allowed
    Its = allows Extra MayOffer

    given_answered : (u : Records) (node : NodeId) (taken : Option ℕ) (given : PlainGiven) → BringsIn Its given → GivenFits sized node taken given → Known SizedAt u
        → Answered SizedAt reading node (plain_by reading u node given (input_of reading given))
    given_answered u node taken (control_message_for from message) may fits k =
        answered SizedAt reading u node (control_message_for from message) (input_of reading (control_message_for from message)) k (control_brings SizedAt reading u node from message)
    given_answered u node taken (item_for teid item) may fits k =
        answered SizedAt reading u node (item_for teid item) (input_of reading (item_for teid item)) k (item_brings u node teid item.key item.content.says fits.1)
    given_answered u node taken (carried_for item) may fits k =
        answered SizedAt reading u node (carried_for item) (input_of reading (carried_for item)) k
        (radio_brings u node item.key.ue item.key.bearer item.key.dir item.content.says fits.1.1)
    given_answered u node taken (confirmed_for item) may fits k =
        answered SizedAt reading u node (confirmed_for item) (input_of reading (confirmed_for item)) k (confirm_brings SizedAt reading u node item)
    given_answered u node taken (offer_for ue bearer p) may fits k = offer_answered u node ue bearer p may k
    given_answered u node taken tick_for may fits k = answered SizedAt reading u node tick_for (input_of reading tick_for) k (tick_brings SizedAt reading u node)
    given_answered u node taken (order_for order) may fits k =
        answered SizedAt reading u node (order_for order) (input_of reading (order_for order)) k (order_brings SizedAt reading u node order)
    given_answered u node taken (octets_from from octets) may fits k = answered SizedAt reading u node (octets_from from octets) None k tt
    given_answered u node taken (octets_on teid octets) may fits k = answered SizedAt reading u node (octets_on teid octets) None k tt

    Fit : NodeId → Option ℕ → WrittenStepped → Type 0
    Fit node taken (stepped outputs v) = Known SizedAt v × PutsFit sized node taken outputs
    Fit node taken (step_spent counter) = Unit {0}

    fit : (node : NodeId) (taken : Option ℕ) (x : WrittenStepped) → AnsweredWell SizedAt reading node x → Fit node taken x
    unfolding Fit
    fit node taken (stepped outputs v) h = (h.0, puts_sized node taken outputs h.1)
    fit node taken (step_spent counter) h = tt

    pub sized_kept : AreKeptAlong (W reading) (λ plans. sized) Its
    unfolding Fit
    sized_kept = record {
      grows = λ before after stay. record {
        units = λ u p. p;
        core = λ r p. p;
        control_message = λ l p. p;
        on_tunnel = λ end item p. p;
        on_radio = λ key item p. p;
        counted = λ c. c;
      };
      answers = λ plans u v node taken given outputs may h fits is.
          subst (Fit node taken) is
          (fit node taken _ (written SizedAt reading (lengths_by plans) node (plain_by reading u node given (input_of reading given)) (given_answered u node taken given may fits h)));
      attaches = λ plans plan u v outputs may new h is.
          subst (Fit (CuCp plan.gnb) None) is
          (fit (CuCp plan.gnb) None _ (written SizedAt reading (lengths_by plans) (CuCp plan.gnb) _
          (answered SizedAt reading u (CuCp plan.gnb) (order_for (orders.Attach plan)) (input_of reading (order_for (orders.Attach plan))) h tt)));
      comes = λ plans plan u may h. comes_known SizedAt reading u plan h;
      placed = λ plans plan u may room h. placed_known SizedAt reading u plan h;
      core_placed = λ plans plan u r may room h. tt;
      core_answers = λ plans r q given outputs h fits is. (tt, puts_sized Core None outputs (the_core_answers (SizedAt Core) reading (lengths_by plans) r q given outputs is));
      lays = λ plans r ue bearer p path may h found. may;
      silent = λ plans counted. absurd counted;
    }

  pub sized_first : Hold sized new_state
  unfolding at find
  sized_first = record {
    units = first_known SizedAt reading;
    core = tt;
    control_messages = tt;
    tunnels = λ end items found. absurd cc;
    radios = λ key. tt;
    few = λ counted. absurd counted;
  }

-- In every run what stands on a tunnel is of its owner, and of the tunnel's kind.
use Rattle.std.proofs.Common.{◌≡◌, ℕ, List, [], ◌∷◌, map, Option, Some, None, refl, subst}
use Rattle.std.specs.List.{AllByRecursion}
use Rattle.gnb_types.specs.declared.names.Gnb.{Gnb}
use Rattle.gnb_types.specs.declared.names.NodeId.{NodeId}
use Rattle.gnb_types.specs.declared.names.NodeId.TheVariants.{CuCp, CuUp as up_id, Du as du_id, Core, Ue}
use Rattle.gnb_types.specs.declared.names.UeId.{UeId}
use Rattle.gnb_types.specs.declared.names.BearerId.{BearerId}
use Rattle.gnb_types.specs.declared.names.Dir.TheVariants.{Dl}
use Rattle.gnb_types.specs.declared.plans.Tunnel.{Tunnel}
use Rattle.gnb_types.specs.declared.keys.TunnelEnd.{TunnelEnd}
use Rattle.gnb_types.specs.declared.inputs.Order.TheVariants as orders
use Rattle.gnb_types.specs.Orders.{tunnel_cmp}
use Rattle.message_types.specs.declared.rrc.Token.{Token}
use Rattle.scenario_text.specs.declared.event.Event.{Event}
use Rattle.tables.specs.Tables.{find, at}
use Rattle.unit_defs.specs.Ways.{Message, Pdu, Load, Put, control, packet, radio, deliver, dropped, held, opened, closed, failed, no, Input, gives, spent}
use Rattle.unit_defs.specs.Messages.{teid_of}
use Rattle.unit_defs.specs.CuUpRecords.{CuUp, n3}
use Rattle.unit_defs.specs.CuUp.{new_cu_up, cu_up_acts}
use Rattle.unit_defs.specs.Du.{Du, new_du, du_acts}
use Rattle.unit_defs.specs.Ue.{UeNode, new_ue, ue_acts}
use Rattle.unit_defs.specs.CuCpRecords.{CuCpRecord, new_cu_cp}
use Rattle.unit_defs.specs.CuCp.{cu_cp_acts}
use Rattle.unit_defs.specs.Core.{CoreRecord, core_acts}
use Rattle.transport_defs.specs.declared.Item.{Item}
use Rattle.run_defs.specs.Units.{cu_cp_of, with_cu_cp, cu_up_of, with_cu_up, du_of, with_du, ue_of, with_ue}
use Rattle.run_defs.specs.Written.{Written, written_put, PlainStepped, WrittenStepped, WrittenCoreStepped, written_step}
use Rattle.run_defs.specs.States.{State, new_state, Lengths, control_message_for, item_for, carried_for, confirmed_for, offer_for, tick_for, order_for, octets_from, octets_on, stepped, step_spent, core_stepped}
use Rattle.run_defs.specs.Conditions.{units_placed, all_set_up}
use Rattle.run_defs.specs.Runs.{Reading, PlainGiven, Plain, plain_way, input_of, stepped_with, ue_stepped, acts_on, plain_by, core_done, plain_core, plain_world}
use Rattle.proof_run_steps.specs.steps.Reached.{reached}
use Rattle.proof_run_steps.proofs.teids.Runs.{give_same, give_then, placed_gives, answer_gives}
use Rattle.law_tunnels_are_owned.specs.owner_facts.Owned.{CuUpOwns, DuOwns}
use Rattle.proof_unit_steps.specs.answers.After.{HoldsAfter}
use Rattle.law_tunnels_are_owned.proofs.tunnel_owners.CuUps.{cu_up_owns}
use Rattle.law_tunnels_are_owned.proofs.tunnel_owners.Dus.{du_owns}
use Rattle.law_tunnels_are_owned.proofs.tunnel_owners.Placed.{nothing_up, nothing_du}
use Rattle.proof_run_steps.specs.facts.Facts.{Facts, Hold, PutFits, PutsFit, GivenFits}
use Rattle.proof_run_steps.specs.facts.UnitFacts.{OfUnits, written_facts}
use Rattle.proof_run_steps.specs.facts.Later.{AreKeptTo}
use Rattle.proof_run_steps.proofs.facts.Units.{with_up_holds, with_du_holds, with_cp_holds, with_ue_holds, first_hold}
use Rattle.proof_run_steps.proofs.facts.Plain.{plain_kept, first_holds}
use Rattle.proof_run_steps.proofs.facts.Later.{facts_hold_to}
use Rattle.proof_run_steps.proofs.facts.Both.{both, both_kept}
use Rattle.law_tunnels_are_owned.proofs.link_items.Octets.{map_all}
use Rattle.law_tunnels_are_owned.proofs.link_items.Names.{link_items}
use Rattle.law_tunnels_are_owned.proofs.link_items.Links.{items_keep}
use Rattle.proof_unit_steps.specs.tunnel_names.Names.{by_book, Names, Property, OwnUpList, PutOn, InputNames, OutputNames, OutputsName, AnswerNames}
use Rattle.proof_unit_steps.specs.tunnel_names.CuCps.{CuCpNames, CoreNames}
use Rattle.proof_unit_steps.proofs.tunnel_names.CuCps.{cu_cp_names}
use Rattle.proof_unit_steps.proofs.tunnel_names.Cores.{core_names}
use Rattle.proof_unit_steps.specs.tunnels.Units.{CuUpHolds, DuHolds, NoneIsFree, CuUpNames, DuNames, IsLong, AnswerIf}
use Rattle.proof_unit_steps.proofs.tunnels.CuUps.{cu_up_names, named_teid}
use Rattle.proof_unit_steps.proofs.tunnels.Dus.{du_names}
use Rattle.proof_unit_steps.proofs.tunnels.Terminals.{terminal_keeps}
use Rattle.law_tunnels_are_owned.specs.tunnel_book.Book.{book_of}
use Rattle.law_tunnels_are_owned.proofs.tunnel_book.Books.{own_in_run}
use Rattle.law_tunnels_are_owned.specs.run_tunnels.Own.{IsOwnAt, TunnelsHoldTheirOwn, IsLaidAt, OctetsAreOfTheirKind}
use Rattle.law_tunnels_are_owned.proofs.run_tunnels.Owners.{put_own}
use Rattle.law_tunnels_are_owned.proofs.run_tunnels.Laid.{laid_at}
use Rattle.law_tunnels_are_owned.proofs.run_tunnels.Held.{Records, Is, Later, Parts, up_held, du_held}
use Rattle.law_tunnels_are_owned.proofs.run_tunnels.Placed.{placed_named, path_named}

abbrev pub RunState : Type 0
RunState = State (Message Token) Token (Written (Load Pdu)) (Written Pdu)

abbrev pub RunFacts : Type 1
RunFacts = Facts (Message Token) Token (Written (Load Pdu)) (Written Pdu)

module _ (w : Records) (none : NoneIsFree (by_book (book_of w))) where
  abbrev Its : Property {M = Message Token} {C = Token} {P = Pdu} plain_way
  Its = Is w

  abbrev OfParts : Records → Type 0
  OfParts u = OfUnits (Parts w) u

  -- who may name and put on what; and what a radio has is its own
  abbrev named : RunFacts
  named = record {
    units = OfParts;
    core = CoreNames Its;
    control_message = λ l. Names Its.owners l.from l.message;
    puts_on = λ node end item. PutOn Its node end.node end.teid item.key.ue item.key.bearer item.key.dir;
    puts_on_air = λ node key item. item.key ≡ key;
    on_tunnel = λ end item. Unit {0};
    on_radio = λ key item. item.key ≡ key;
    stands = λ node end item p. tt;
    stands_on_air = λ node key item p. p;
    counted = ⊥;
  }

  -- and what is put there: so it is its owner's
  abbrev Owned : TunnelEnd → Item (Written (Load Pdu)) → Type 0
  Owned end item = IsOwnAt w end.node end.teid item.key item.content.says

  pub stand : (node : NodeId) (end : TunnelEnd) (item : Item (Written (Load Pdu))) → (written_facts link_items).puts_on node end item → named.puts_on node end item
      → Owned end item
  stand node end item p q = put_own w node end.node end.teid item.key.ue item.key.bearer item.key.dir item.content.says q p.0.1

  abbrev pub Named : RunFacts
  Named = both (written_facts link_items) named Owned stand

  -- ---- what units answer

  module _ (reading : Reading) where
    fit_one : (lengths : Lengths) (node : NodeId) (taken : Option ℕ) (output : Put (Message Token) (Load Pdu) Pdu) → OutputNames Its node output
        → PutFits named node taken (written_put lengths output)
    fit_one lengths node taken (control to ue message) p = p
    fit_one lengths node taken (packet to teid ue bearer dir tag load) p = p.0
    fit_one lengths node taken (radio ue bearer dir epoch tag pdu) p = refl
    fit_one lengths node taken (deliver ue bearer dir count x) p = tt
    fit_one lengths node taken (dropped reason) p = tt
    fit_one lengths node taken (held reason) p = tt
    fit_one lengths node taken (opened teid) p = tt
    fit_one lengths node taken (closed teid) p = tt
    fit_one lengths node taken (failed ue cause) p = tt
    fit_one lengths node taken (no reason) p = tt

    fit_all : (lengths : Lengths) (node : NodeId) (taken : Option ℕ) (outputs : List (Put (Message Token) (Load Pdu) Pdu)) → OutputsName Its node outputs
        → PutsFit named node taken (map (written_put lengths) outputs)
    fit_all lengths node taken [] p = tt
    fit_all lengths node taken (output ∷ outputs) p = (fit_one lengths node taken output p.0, fit_all lengths node taken outputs p.1)

    abbrev Answered : Records → NodeId → PlainStepped → Type 0
    Answered u node (stepped outputs v) = OfParts u → Later w v → OfParts v × OutputsName Its node outputs
    Answered u node (step_spent counter) = Unit {0}

    abbrev AnsweredWell : Records → NodeId → Option ℕ → WrittenStepped → Type 0
    AnsweredWell u node taken (stepped outputs v) = OfParts u → Later w v → OfParts v × PutsFit named node taken outputs
    AnsweredWell u node taken (step_spent counter) = Unit {0}

    written : (lengths : Lengths) (u : Records) (node : NodeId) (taken : Option ℕ) (x : PlainStepped) → Answered u node x
        → AnsweredWell u node taken (written_step lengths x)
    written lengths u node taken (stepped outputs v) p = λ h l. let r = p h l in (r.0, fit_all lengths node taken outputs r.1)
    written lengths u node taken (step_spent counter) p = tt

    by_cp : (u : Records) (g : Gnb) (a : Plain (CuCpRecord (Message Token) Token)) → (CuCpNames Its g (cu_cp_of u g) → AnswerNames Its (CuCpNames Its g) (CuCp g) a)
        → Answered u (CuCp g) (stepped_with reading (with_cu_cp u g) a)
    by_cp u g (gives outputs r) f = λ h l. let p = f (h.2 g) in (with_cp_holds (Parts w) u g r h p.0, p.1)
    by_cp u g (spent counter) f = tt

    acted : (u : Records) (node : NodeId) (input : Input Token Pdu) → InputNames Its input → Answered u node (acts_on reading u node input)
    acted u (CuCp g) input names = by_cp u g (cu_cp_acts plain_way (cu_cp_of u g) input) (cu_cp_names Its g (cu_cp_of u g) input names)
    acted u (up_id g n) input names = up_acted (cu_up_acts plain_way (cu_up_of u g n) input) (cu_up_owns plain_way (cu_up_of u g n) input)
        (cu_up_names Its none g n (cu_up_of u g n) input names)
      where
        up_acted : (a : Plain (CuUp (Message Token) Token)) → (CuUpOwns (cu_up_of u g n) → HoldsAfter CuUpOwns a)
            → (CuUpNames Its g n (cu_up_of u g n) → AnswerIf Its (CuUpHolds Its.owners g n) (CuUpNames Its g n) (up_id g n) a)
            → Answered u (up_id g n) (stepped_with reading (with_cu_up u g n) a)
        up_acted (gives outputs r) owns f =
            λ h l. let o = owns (h.0 g n).1 in let p = f (h.0 g n).0 (up_held w u g n r o l) in (with_up_holds (Parts w) u g n r h (p.0, o), p.1)
        up_acted (spent counter) owns f = tt
    acted u (du_id g n) input names = du_acted (du_acts plain_way (du_of u g n) input) (du_owns plain_way (du_of u g n) input)
        (du_names Its g n (du_of u g n) input names)
      where
        du_acted : (a : Plain (Du (Message Token) Token)) → (DuOwns (du_of u g n) → HoldsAfter DuOwns a)
            → (DuNames Its g n (du_of u g n) → AnswerIf Its (DuHolds Its.owners g n) (DuNames Its g n) (du_id g n) a)
            → Answered u (du_id g n) (stepped_with reading (with_du u g n) a)
        du_acted (gives outputs r) owns f =
            λ h l. let o = owns (h.1 g n).1 in let p = f (h.1 g n).0 (du_held w u g n r o l) in (with_du_holds (Parts w) u g n r h (p.0, o), p.1)
        du_acted (spent counter) owns f = tt
    acted u (Ue ue) input names = there (ue_of u (record { 0 = ue }))
      where
        by_ue : (a : Plain UeNode) → AnswerNames Its (IsLong Its) (Ue ue) a → Answered u (Ue ue) (stepped_with reading (with_ue u (record { 0 = ue })) a)
        by_ue (gives outputs x) p = λ h l. (with_ue_holds (Parts w) u (record { 0 = ue }) x h tt, p.1)
        by_ue (spent counter) p = tt

        there : (o : Option UeNode) → Answered u (Ue ue) (ue_stepped reading u ue input o)
        there None = λ h l. (h, tt)
        there (Some x) = by_ue (ue_acts plain_way x input) (terminal_keeps Its (Ue ue) x input refl)
    acted u Core input names = λ h l. (h, tt)

    abbrev NamesIf : Option (Input Token Pdu) → Type 0
    NamesIf None = Unit {0}
    NamesIf (Some input) = InputNames Its input

    answered : (u : Records) (node : NodeId) (given : PlainGiven) (o : Option (Input Token Pdu)) → NamesIf o → Answered u node (plain_by reading u node given o)
    answered u node given None names = λ h l. (h, (tt, tt))
    answered u node given (Some input) names = acted u node input names

    given_names : (node : NodeId) (taken : Option ℕ) (given : PlainGiven) → GivenFits named node taken given → NamesIf (input_of reading given)
    given_names node taken (control_message_for from message) p = p.1
    given_names node taken (item_for teid item) p = tt
    given_names node taken (carried_for item) p = tt
    given_names node taken (confirmed_for item) p = tt
    given_names node taken (offer_for ue bearer x) p = tt
    given_names node taken tick_for p = tt
    given_names node taken (order_for (orders.Attach plan)) p = refl
    given_names node taken (order_for order) p = tt
    given_names node taken (octets_from from octets) p = tt
    given_names node taken (octets_on teid octets) p = tt

    -- ---- the core

    abbrev CoreAnswered : WrittenCoreStepped → Type 0
    CoreAnswered (core_stepped outputs r) = CoreNames Its r × PutsFit named Core None outputs

    core_by : (lengths : Lengths) (r : CoreRecord (Message Token) Token) (a : Plain (CoreRecord (Message Token) Token)) → CoreNames Its r
        → AnswerNames Its (CoreNames Its) Core a → CoreAnswered (core_done reading lengths r a)
    core_by lengths r (gives outputs q) p h = (h.0, fit_all lengths Core None outputs h.1)
    core_by lengths r (spent counter) p h = (p, tt)

    core_answered : (lengths : Lengths) (r : CoreRecord (Message Token) Token) (given : PlainGiven) → CoreNames Its r → GivenFits named Core None given
        → CoreAnswered (plain_core reading lengths r given)
    core_answered lengths r (control_message_for from message) p fits = core_by lengths r (core_acts plain_way r from message) p (core_names Its r from message fits.1 p)
    core_answered lengths r (item_for teid item) p fits = (p, (tt, tt))
    core_answered lengths r (carried_for item) p fits = (p, (tt, tt))
    core_answered lengths r (confirmed_for item) p fits = (p, (tt, tt))
    core_answered lengths r (offer_for ue bearer x) p fits = (p, (tt, tt))
    core_answered lengths r tick_for p fits = (p, (tt, tt))
    core_answered lengths r (order_for order) p fits = (p, (tt, tt))
    core_answered lengths r (octets_from from octets) p fits = (p, (tt, tt))
    core_answered lengths r (octets_on teid octets) p fits = (p, (tt, tt))

    -- an offered packet is put on its terminal's and bearer's path
    on_path : (ue : UeId) (bearer : BearerId) (up : NodeId) (ts : List Tunnel) → OwnUpList Its.owners up n3 ue ts → PutOn Its Core up (teid_of ts bearer) ue bearer Dl
    on_path ue bearer (up_id g n) ts p = named_teid (Its.owners.up g n n3 ue) ts bearer p (none.up g n n3 ue bearer)
    on_path ue bearer (CuCp g) ts p = absurd p
    on_path ue bearer (du_id g n) ts p = absurd p
    on_path ue bearer Core ts p = absurd p
    on_path ue bearer (Ue u) ts p = absurd p

    -- ---- all that is asked

    keeps : AreKeptTo (plain_world reading) named (Later w)
    keeps = record {
      before_answer = λ lengths u v node given outputs e l. give_then u v w (answer_gives reading lengths u v node given outputs e) l;
      before_coming = λ u plan l. l;
      before_placing = λ u plan may l. give_then u (all_set_up (units_placed plan u)) w (placed_gives u plan may.2) l;
      answers = λ lengths u v node taken given outputs h fits e l.
          (subst (AnsweredWell u node taken) e
          (written lengths u node taken (plain_by reading u node given (input_of reading given))
          (answered u node given (input_of reading given) (given_names node taken given fits)))) h l;
      comes = λ u plan h. with_ue_holds (Parts w) u plan.ue (new_ue plan) h tt;
      placed = λ u plan may l h. placed_named u plan w may.0 may.2 l h;
      core_placed = λ u r plan may l h p. path_named u plan w may.0 may.2 l h r p;
      core_answers = λ lengths r q given outputs p fits e. subst CoreAnswered e (core_answered lengths r given p fits);
      lays = λ r ue bearer p path h found. on_path ue bearer path.up path.n3 (h.paths ue path found);
      silent = λ counted. absurd counted;
    }

    pub kept : AreKeptTo (plain_world reading) Named (Later w)
    kept = both_kept (written_facts link_items) named Owned stand (plain_world reading) (Later w) (plain_kept link_items items_keep reading) keeps

  -- ---- the first state

  new_up : (g : Gnb) (k : ℕ) → CuUpNames Its g k (new_cu_up g k)
  new_up g k = record { own = refl; contexts = tt; lengths = tt; kept = record { opened = tt; waiting = tt; replies = tt } }

  new_node : (g : Gnb) (k : ℕ) → DuNames Its g k (new_du g k)
  new_node g k = record { own = refl; uplinks = tt; lengths = tt; kept = record { opened = tt; waiting = tt; replies = tt } }

  new_cp : (g : Gnb) → CuCpNames Its g (new_cu_cp g)
  unfolding find
  new_cp g = record { own = refl; terminals = λ ue t e. absurd cc; kept = record { opened = tt; waiting = tt; replies = tt } }

  pub first : Hold Named new_state
  unfolding at find
  first =
      let laid = first_holds link_items items_keep in record {
        units = (
          laid.units,
          first_hold (Parts w) (λ g n. (new_up g n, nothing_up (new_cu_up {M = Message Token} {C = Token} g n) refl refl))
              (λ g n. (new_node g n, nothing_du (new_du {M = Message Token} {C = Token} g n) refl refl)) new_cp,
        );
        core = (laid.core, record { paths = λ ue path e. absurd cc; kept = record { opened = tt; waiting = tt; replies = tt } });
        control_messages = tt;
        tunnels = λ end items found. absurd cc;
        radios = λ key. tt;
        few = λ counted. absurd counted;
      }

-- each item of a tunnel
each_item : (t : RunState) (none : NoneIsFree (by_book (book_of t.units))) (Q : TunnelEnd → Item (Written (Load Pdu)) → Type 0) → Hold (Named t.units none) t
    → ((end : TunnelEnd) (item : Item (Written (Load Pdu))) → (Named t.units none).on_tunnel end item → Q end item)
    → (end : TunnelEnd) (items : List (Item (Written (Load Pdu)))) → find tunnel_cmp t.tunnels end ≡ Some items → AllByRecursion (Q end) items
each_item t none Q h each end items found = map_all ((Named t.units none).on_tunnel end) (Q end) items (each end) (h.tunnels end items found)

-- of the units that it is about
pub own_there : (t : RunState) (none : NoneIsFree (by_book (book_of t.units))) → Hold (Named t.units none) t → TunnelsHoldTheirOwn t
own_there t none h = each_item t none (λ end item. IsOwnAt t.units end.node end.teid item.key item.content.says) h (λ end item p. p.1.1)

module _ (reading : Reading) (events : List Event) (t : RunState) (there : reached (plain_world reading) events new_state ≡ Some t) where
  free : NoneIsFree (by_book (book_of t.units))
  free = (own_in_run reading events t there).none

  holds : Hold (Named t.units free) t
  holds =
      facts_hold_to (plain_world reading) (Named t.units free) (Later t.units) (kept t.units free reading) events new_state t (first t.units free) there
      (give_same t.units)

  pub own_in_runs : TunnelsHoldTheirOwn t
  own_in_runs = own_there t free holds

  pub laid_in_runs : OctetsAreOfTheirKind t
  laid_in_runs =
      each_item t free (λ end item. IsLaidAt t.units end.node end.teid item) holds (λ end item p. laid_at t.units end.node end.teid item p.0.0.0 p.0.1 p.1.1)

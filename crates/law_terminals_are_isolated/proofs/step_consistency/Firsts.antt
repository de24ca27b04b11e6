-- What a step takes is taken alike in two states in which what is kept of its terminal is the same.
use Rattle.std.proofs.Common.{◌≡◌, ◌+◌, ◌-◌, Bool, true, false, cond, List, ◌∷◌, Some, refl, sym, ap, ◌∙◌, subst}
use Rattle.std.specs.Ordering.{eq_by_cmp}
use Rattle.gnb_types.specs.declared.names.UeId.{UeId}
use Rattle.gnb_types.specs.declared.names.Dir.TheVariants.{Ul}
use Rattle.gnb_types.specs.declared.keys.TunnelEnd.{TunnelEnd}
use Rattle.gnb_types.specs.declared.keys.EntityKey.{EntityKey}
use Rattle.gnb_types.specs.declared.plans.Plan.{Plan}
use Rattle.gnb_types.specs.Orders.{ue_cmp, entity_cmp, tunnel_cmp}
use Rattle.gnb_types.proofs.OrderLemmas.{ue_total}
use Rattle.tables.specs.Tables.{find, put}
use Rattle.tables.proofs.TableLaws.{find-put-same}
use Rattle.message_types.specs.declared.rrc.Token.{Token}
use Rattle.scenario_text.specs.declared.event.Event.{Event}
use Rattle.unit_defs.specs.Ways.{Message, Load, Pdu}
use Rattle.unit_defs.specs.Ue.{UeNode, new_ue}
use Rattle.transport_defs.specs.declared.Item.{Item}
use Rattle.transport_defs.specs.Links.{Radio, items_of, landed}
use Rattle.run_defs.specs.Units.{Units}
use Rattle.run_defs.specs.Written.{Written}
use Rattle.run_defs.specs.States.{Book, Within, entity, radio_of}
use Rattle.run_defs.specs.Events.{leaves}
use Rattle.run_defs.specs.Runs.{Reading, plain_world}
use Rattle.proof_run_steps.specs.steps.Causes.{by_order, by_tick, by_octets, by_octets_on, by_attach, by_release, by_offer, by_item, by_air, by_ack, by_control_message, first_of, Stands}
use Rattle.law_terminals_are_isolated.specs.frame_of_steps.Others.{IsCauseFor}
use Rattle.law_terminals_are_isolated.specs.own_events.Events.{RunState}
use Rattle.law_terminals_are_isolated.specs.step_consistency.Places.{RunCause, Place, in_place}
use Rattle.law_terminals_are_isolated.specs.step_consistency.EqualStates.{stand, EqualStates, EqualFrom}
use Rattle.law_terminals_are_isolated.proofs.step_consistency.Beside.{stands_so, is_put, books_equal, radios_equal, tunnels_equal}
use Rattle.law_terminals_are_isolated.proofs.step_consistency.Steps.{leaves_equal}

rest_same : {X : Type 0} (b : Bool) (x : X) (xs ys : List X) → cond b (x ∷ xs) xs ≡ cond b (x ∷ ys) ys → xs ≡ ys
rest_same true x xs ys e = cc
rest_same false x xs ys e = e

some_same : {X : Type 0} (xs ys : List X) → Some xs ≡ Some ys → xs ≡ ys
some_same xs ys e = cc

tail_same : {X : Type 0} (x : X) (xs ys : List X) → x ∷ xs ≡ x ∷ ys → xs ≡ ys
tail_same x xs ys e = cc

module _ (reading : Reading) (ue : UeId) (shows : TunnelEnd → Bool) where
  abbrev Like : RunState → RunState → Type 0
  Like s t = EqualStates ue shows s t

  abbrev pub From : Within (Message Token) Token (Written (Load Pdu)) (Written Pdu) → Within (Message Token) Token (Written (Load Pdu)) (Written Pdu) → Type 0
  From e d = EqualFrom ue shows e d

  pub firsts_equal : (first second : Event) (place other : Place) (cause : RunCause) (s t : RunState) (u v : Units (Message Token) Token)
      → Like (record s { units = u }) (record t { units = v }) → Stands first s (in_place place cause) → Stands second t (in_place other cause)
      → IsCauseFor ue s (in_place place cause)
      → From (first_of (plain_world reading) (in_place place cause) (record s { units = u }))
      (first_of (plain_world reading) (in_place other cause) (record t { units = v }))
  unfolding landed
  firsts_equal first second place other (by_order node order) s t u v h at also is = h
  firsts_equal first second place other (by_tick node) s t u v h at also is = h
  firsts_equal first second place other (by_octets from to octets) s t u v h at also is = h
  firsts_equal first second place other (by_octets_on end octets) s t u v h at also is = h
  firsts_equal first second place other (by_attach plan) s t u v h at also is = record {
    control_messages = h.control_messages;
    tunnels = h.tunnels;
    radios = h.radios;
    books = h.books;
    connected = h.connected;
    plan = planned s.plans ∙ sym (planned t.plans);
    node = comes u.ues ∙ sym (comes v.ues);
  }
    where
      planned : (ps : List (UeId × Plan)) → find ue_cmp (put ue_cmp ps plan.ue plan) ue ≡ Some plan
      planned ps = ap (λ (w : UeId). find ue_cmp (put ue_cmp ps w plan) ue) is ∙ find-put-same ue_total ps ue plan

      comes : (es : List (UeId × UeNode)) → find ue_cmp (put ue_cmp es plan.ue (new_ue plan)) ue ≡ Some (new_ue plan)
      comes es = ap (λ (w : UeId). find ue_cmp (put ue_cmp es w (new_ue plan)) ue) is ∙ find-put-same ue_total es ue (new_ue plan)
  firsts_equal first second place other (by_release gnb who) s t u v h at also is =
      subst (λ (w : UeId). From (leaves (plain_world reading) w (record s { units = u })) (leaves (plain_world reading) w (record t { units = v }))) (sym is)
      (leaves_equal (plain_world reading) ue shows (record s { units = u }) (record t { units = v }) h)
  firsts_equal first second place other (by_offer who bearer p) s t u v h at also is =
      books_equal (plain_world reading) ue shows (entity who bearer Ul) (λ (b : Book). record b { offered = b.offered + 1 }) is
      (record s { units = u }) (record t { units = v }) h
  firsts_equal first second place other (by_item end item rest) s t u v h at also is =
      tunnels_equal (plain_world reading) ue shows (record s { units = u }) (record t { units = v })
      (put tunnel_cmp s.tunnels end place.items) (put tunnel_cmp t.tunnels end other.items) h
      (λ q owned key its. is_put end q key s.tunnels place.items ∙ by q owned key its (eq_by_cmp tunnel_cmp q end) refl ∙ sym (is_put end q key t.tunnels other.items))
    where
      by : (q : TunnelEnd) → shows q ≡ true → (key : EntityKey) → key.ue ≡ ue → (b : Bool) → eq_by_cmp tunnel_cmp q end ≡ b
          → cond b (Some (items_of key place.items)) (stand s.tunnels q key) ≡ cond b (Some (items_of key other.items)) (stand t.tunnels q key)
      by q owned key its false tie = h.tunnels q owned key its
      by q owned key its true tie =
          ap (λ (xs : List (Item (Written (Load Pdu)))). Some xs)
          (rest_same (eq_by_cmp entity_cmp item.key key) item (items_of key place.items) (items_of key other.items)
          (some_same (items_of key (item ∷ place.items)) (items_of key (item ∷ other.items))
          (sym (stands_so end q key s.tunnels (Some (item ∷ place.items)) at tie) ∙ h.tunnels q owned key its
          ∙ stands_so end q key t.tunnels (Some (item ∷ other.items)) also tie)))
  firsts_equal first second place other (by_air key home item) s t u v h at also is =
      radios_equal (plain_world reading) ue shows key _ _ (ap (λ (r : Radio (Written Pdu)). record r { carried = r.carried + 1 }) (h.radios key is))
      (record s { units = u }) (record t { units = v }) h
  firsts_equal first second place other (by_ack key home item rest) s t u v h at also is =
      radios_equal (plain_world reading) ue shows key (record { items = place.pdus; carried = (radio_of s key).carried - 1 })
      (record { items = other.pdus; carried = (radio_of t key).carried - 1 })
      (λ i. record { items = left i; carried = (h.radios key is i).carried - 1 }) (record s { units = u }) (record t { units = v }) h
    where
      left : place.pdus ≡ other.pdus
      left = tail_same item place.pdus other.pdus (sym at.1 ∙ ap (λ (r : Radio (Written Pdu)). r.items) (h.radios key is) ∙ also.1)
  firsts_equal first second place other (by_control_message number l to) s t u v h at also is = record {
    control_messages = h.control_messages;
    tunnels = h.tunnels;
    radios = h.radios;
    books = h.books;
    connected = h.connected;
    plan = h.plan;
    node = h.node;
  }

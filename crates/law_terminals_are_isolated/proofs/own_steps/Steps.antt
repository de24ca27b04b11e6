-- In a state in which links hold their own, a step of a unit with what is for a terminal is that terminal's, and so are its outputs.
use Rattle.std.proofs.Common.{◌≡◌, ℕ, ◌==◌, Bool, true, false, ◌&&◌, ◌||◌, cond, List, [], ◌∷◌, map, Option, Some, None, refl, sym, ap, ◌∙◌, subst}
use Rattle.std.proofs.lemmas.Bool.{eq-eqb}
use Rattle.std.specs.Prelude.{◌≢◌, if◌then◌else◌, unwrap_or, is_some}
use Rattle.std.specs.List.{AllByRecursion}
use Rattle.std.specs.Ordering.{eq_by_cmp, nat_cmp}
use Rattle.gnb_types.specs.declared.names.NodeId.{NodeId}
use Rattle.gnb_types.specs.declared.names.NodeId.TheVariants.{CuCp, CuUp as up_id, Du as du_id, Core, Ue}
use Rattle.gnb_types.specs.declared.names.UeId.{UeId}
use Rattle.gnb_types.specs.declared.names.Gnb.{Gnb}
use Rattle.gnb_types.specs.declared.names.Dir.{Dir}
use Rattle.gnb_types.specs.declared.names.Dir.TheVariants.{Dl, Ul}
use Rattle.gnb_types.specs.declared.keys.EntityKey.{EntityKey}
use Rattle.gnb_types.specs.Orders.{entity_cmp, tunnel_cmp}
use Rattle.gnb_types.proofs.OrderLemmas.{entity_total, entity_exact}
use Rattle.tables.specs.Tables.{find, at}
use Rattle.tables.proofs.TableLaws.{other_key}
use Rattle.message_types.specs.declared.rrc.Token.{Token}
use Rattle.scenario_text.specs.declared.event.Event.{Event}
use Rattle.unit_defs.specs.Ways.{Message, Pdu, Load, Put, control, packet, radio, deliver, dropped, held, opened, closed, failed, no, Taken, Input, packet_input, radio_input, confirm_input, gives, spent}
use Rattle.unit_defs.specs.CuUpRecords.{CuUpTunnel, CuUp}
use Rattle.unit_defs.specs.CuUp.{cu_up_acts}
use Rattle.unit_defs.specs.Du.{DuTunnel, Du, du_acts}
use Rattle.unit_defs.specs.Ue.{UeNode, is_connected}
use Rattle.transport_defs.specs.declared.Item.{Item}
use Rattle.transport_defs.specs.Links.{items_of}
use Rattle.run_defs.specs.Units.{Units, cu_up_of, with_cu_up, du_of, with_du, ue_of, epoch_at}
use Rattle.run_defs.specs.Written.{Written, written_put, PlainStepped, WrittenStepped, written_step}
use Rattle.run_defs.specs.States.{State, stepped, step_spent, Lengths, radio_of}
use Rattle.run_defs.specs.Conditions.{same_epoch, ready_home, ready_at, ready_of, receiver_by, sender_by}
use Rattle.run_defs.specs.Runs.{Reading, PlainGiven, Plain, plain_way, input_of, content_of, stepped_with, acts_on, plain_by, plain_world}
use Rattle.proof_run_steps.specs.steps.Causes.{Cause, by_order, by_tick, by_octets, by_octets_on, by_attach, by_release, by_offer, by_item, by_air, by_ack, by_control_message, node_of, given_of, Stands}
use Rattle.proof_run_steps.proofs.facts.Steps.{nth_has}
use Rattle.law_tunnels_are_owned.specs.open_tunnels.Open.{stands, StandWhereOpen}
use Rattle.law_tunnels_are_owned.specs.owner_facts.Owned.{AreOwned}
use Rattle.law_terminals_are_isolated.specs.projections.Steps.{IsFor, StaysFor}
use Rattle.law_terminals_are_isolated.specs.cu_up_projection.CuUps.{tunnel_ue as up_tunnel_ue}
use Rattle.law_terminals_are_isolated.specs.du_projection.Dus.{tunnel_ue as du_tunnel_ue}
use Rattle.law_terminals_are_isolated.proofs.projection_owners.Owners.{apart_of}
use Rattle.law_terminals_are_isolated.specs.run_projections.Units.{units_projection, unit_ue, given_in, given_ue, IsUnitsStepOf, AreThemselves}
use Rattle.law_terminals_are_isolated.proofs.run_projections.Units.{given_step}
use Rattle.proof_run_steps.specs.law_run_links.Own.{HoldTheirOwn}
use Rattle.law_tunnels_are_owned.specs.run_tunnels.Own.{IsOwnAt, TunnelsHoldTheirOwn}
use Rattle.law_terminals_are_isolated.specs.frame_of_steps.Others.{items_on, IsNodeFor, IsCauseFor, IsStepFor, IsOutputFor}
use Rattle.law_terminals_are_isolated.proofs.own_steps.Closed.{closes, ClosesOwn, up_closes, du_closes}

abbrev pub RunState : Type 0
RunState = State (Message Token) Token (Written (Load Pdu)) (Written Pdu)

-- what holds in every state of a run
pub record Sound (t : RunState) : Type 0 where
  pub itself : AreThemselves t.units
  pub owned : AreOwned t.units
  pub standing : StandWhereOpen t
  pub tunnels : TunnelsHoldTheirOwn t
  pub radios : HoldTheirOwn t

apart_keys : (a b : EntityKey) → a.ue ≢ b.ue → eq_by_cmp entity_cmp a b ≡ false
apart_keys a b apart =
    other_key (record { total = entity_total; exact = entity_exact }) a b (λ e. apart (ap (λ (k : EntityKey). k.ue) e))

some_ue : (a b : UeId) → Some a ≡ Some b → a ≡ b
some_ue a b e = cc

abbrev packet_for : ℕ → Taken Pdu → Input Token Pdu
packet_for teid x = packet_input teid x

abbrev radio_for : Item (Written Pdu) → Input Token Pdu
radio_for item = radio_input item.key.ue item.key.bearer item.key.dir item.content.says (content_of item.content.says)

abbrev confirm_for : Item (Written Pdu) → Input Token Pdu
confirm_for item = confirm_input item.key.ue item.key.bearer item.key.dir item.content.says (content_of item.content.says)

-- ---- a home of a ready radio is no terminal

no_terminal : (t : RunState) (who : UeId) (n : ℕ) → ready_home t who ≡ Some (Ue n) → ⊥
no_terminal t who n is = by (ue_of t.units who) is
  where
    never : (a : Bool) → a && false ≡ true → ⊥
    never true e = absurd cc
    never false e = absurd cc

    named : (home : NodeId) → Some home ≡ Some (Ue n) → home ≡ Ue n
    named home e = cc

    chosen : (u : UeNode) (home : NodeId) (b : Bool) → (is_connected u.state && same_epoch (epoch_at t.units home who) u.epoch) ≡ b
        → (if b then Some home else None) ≡ Some (Ue n) → ⊥
    chosen u home true e is = never (is_connected u.state)
        (subst (λ (h : NodeId). is_connected u.state && same_epoch (epoch_at t.units h who) u.epoch ≡ true) (named home is) e)
    chosen u home false e is = absurd cc

    at_home : (u : UeNode) (home : Option NodeId) → ready_at t who u home ≡ Some (Ue n) → ⊥
    at_home u None e = absurd cc
    at_home u (Some home) e = chosen u home (is_connected u.state && same_epoch (epoch_at t.units home who) u.epoch) refl e

    by : (o : Option UeNode) → ready_of t who o ≡ Some (Ue n) → ⊥
    by None e = absurd cc
    by (Some u) e = at_home u u.home e

module _ (reading : Reading) (t : RunState) (sound : Sound t) (ue : UeId) where
  -- ---- the step

  node_for : (node : NodeId) (o : Option (Input Token Pdu)) → given_in t.units node o ≡ Some ue → IsNodeFor ue node
  node_for (Ue n) None is = absurd cc
  node_for (Ue n) (Some input) is = some_ue (record { 0 = n }) ue is
  node_for (CuCp gnb) o is = tt
  node_for (up_id gnb number) o is = tt
  node_for (du_id gnb number) o is = tt
  node_for Core o is = tt

  item_its : (node : NodeId) (teid : ℕ) (key : EntityKey) (load : Load Pdu) (x : Taken Pdu) → IsOwnAt t.units node teid key load
      → unit_ue t.units node (packet_for teid x) ≡ Some ue → key.ue ≡ ue
  item_its (up_id gnb number) teid key load x own is = by (find nat_cmp (cu_up_of t.units gnb number).tunnels teid) refl is
    where
      by : (o : Option CuUpTunnel) → find nat_cmp (cu_up_of t.units gnb number).tunnels teid ≡ o → up_tunnel_ue o ≡ Some ue → key.ue ≡ ue
      by None e named = absurd cc
      by (Some owner) e named = (own owner e).0 ∙ some_ue owner.ue ue named
  item_its (du_id gnb number) teid key load x own is = by (find nat_cmp (du_of t.units gnb number).tunnels teid) refl is
    where
      by : (o : Option DuTunnel) → find nat_cmp (du_of t.units gnb number).tunnels teid ≡ o → du_tunnel_ue o ≡ Some ue → key.ue ≡ ue
      by None e named = absurd cc
      by (Some owner) e named = (own owner e).0 ∙ some_ue owner.ue ue named
  item_its (CuCp gnb) teid key load x own is = absurd own
  item_its Core teid key load x own is = absurd own
  item_its (Ue n) teid key load x own is = absurd own

  carried_its : (home : NodeId) (key : EntityKey) (item : Item (Written Pdu)) → ready_home t key.ue ≡ Some home → item.key ≡ key → (d : Dir)
      → unit_ue t.units (receiver_by d key.ue home)
      (radio_for item) ≡ Some ue → key.ue ≡ ue
  carried_its home key item ready own Dl is = some_ue key.ue ue is
  carried_its (du_id gnb number) key item ready own Ul is = sym (ap (λ (k : EntityKey). k.ue) own) ∙ some_ue item.key.ue ue is
  carried_its (Ue n) key item ready own Ul is = absurd (no_terminal t key.ue n ready)
  carried_its (CuCp gnb) key item ready own Ul is = absurd cc
  carried_its (up_id gnb number) key item ready own Ul is = absurd cc
  carried_its Core key item ready own Ul is = absurd cc

  confirmed_its : (home : NodeId) (key : EntityKey) (item : Item (Written Pdu)) → ready_home t key.ue ≡ Some home → item.key ≡ key → (d : Dir)
      → unit_ue t.units (sender_by d key.ue home)
      (confirm_for item) ≡ Some ue → key.ue ≡ ue
  confirmed_its home key item ready own Ul is = some_ue key.ue ue is
  confirmed_its (du_id gnb number) key item ready own Dl is = sym (ap (λ (k : EntityKey). k.ue) own) ∙ some_ue item.key.ue ue is
  confirmed_its (Ue n) key item ready own Dl is = absurd (no_terminal t key.ue n ready)
  confirmed_its (CuCp gnb) key item ready own Dl is = absurd cc
  confirmed_its (up_id gnb number) key item ready own Dl is = absurd cc
  confirmed_its Core key item ready own Dl is = absurd cc

  abbrev RunCause : Type 0
  RunCause = Cause (Message Token) (Written (Load Pdu)) (Written Pdu)

  cause_for : (event : Event) (cause : RunCause) → Stands event t cause → given_ue reading t.units (node_of cause) (given_of cause) ≡ Some ue
      → IsCauseFor ue t cause
  cause_for event (by_order node order) at is = tt
  cause_for event (by_tick node) at is = tt
  cause_for event (by_octets from to octets) at is = tt
  cause_for event (by_octets_on end octets) at is = tt
  cause_for event (by_attach plan) at is = some_ue plan.ue ue is
  cause_for event (by_release gnb who) at is = some_ue who ue is
  cause_for event (by_offer who bearer p) at is = some_ue who ue is
  cause_for event (by_item end item rest) at is = (
    item_its end.node end.teid item.key item.content.says _ (sound.tunnels end (item ∷ rest) at).0 is,
    at,
  )
  cause_for event (by_air key home item) at is =
      carried_its home key item at.0
      (nth_has (λ (i : Item (Written Pdu)). i.key ≡ key) (radio_of t key).items (radio_of t key).carried item (sound.radios key) at.1) key.dir is
  cause_for event (by_ack key home item rest) at is =
      confirmed_its home key item at.0
      (subst (λ (xs : List (Item (Written Pdu))). AllByRecursion (λ (i : Item (Written Pdu)). i.key ≡ key) xs) at.1 (sound.radios key)).0 key.dir is
  cause_for event (by_control_message number l to) at is = tt

  pub step_for : (event : Event) (cause : RunCause) → Stands event t cause → given_ue reading t.units (node_of cause) (given_of cause) ≡ Some ue
      → IsStepFor ue t cause
  step_for event cause at is = (node_for (node_of cause) (input_of reading (given_of cause)) is, cause_for event cause at is)

  -- ---- tunnels on which nothing of another terminal stands

  abbrev pub IsEmpty : NodeId → ℕ → Type 0
  IsEmpty node teid = (key : EntityKey) → key.ue ≢ ue → items_on t (record { node = node; teid = teid }) key ≡ []

  none_of : (key : EntityKey) → key.ue ≢ ue → (items : List (Item (Written (Load Pdu))))
      → AllByRecursion (λ (item : Item (Written (Load Pdu))). item.key.ue ≡ ue) items → items_of key items ≡ []
  none_of key apart [] all = refl
  none_of key apart (item ∷ items) all =
      ap (λ (b : Bool). cond b (item ∷ items_of key items) (items_of key items)) (apart_keys item.key key (λ e. apart (sym e ∙ all.0)))
      ∙ none_of key apart items all.1

  its_items : (node : NodeId) (teid : ℕ) → ((key : EntityKey) (load : Load Pdu) → IsOwnAt t.units node teid key load → key.ue ≡ ue) → IsEmpty node teid
  unfolding at
  its_items node teid own key apart = by (find tunnel_cmp t.tunnels (record { node = node; teid = teid })) refl
    where
      each : (items : List (Item (Written (Load Pdu))))
          → AllByRecursion (λ (item : Item (Written (Load Pdu))). IsOwnAt t.units node teid item.key item.content.says) items
          → AllByRecursion (λ (item : Item (Written (Load Pdu))). item.key.ue ≡ ue) items
      each [] all = tt
      each (item ∷ items) all = (own item.key item.content.says all.0, each items all.1)

      by : (o : Option (List (Item (Written (Load Pdu))))) → find tunnel_cmp t.tunnels (record { node = node; teid = teid }) ≡ o
          → items_of key (unwrap_or o []) ≡ []
      by None found = refl
      by (Some items) found = none_of key apart items (each items (sound.tunnels (record { node = node; teid = teid }) items found))

  not_there : (node : NodeId) (teid : ℕ) → stands t node teid ≡ false → IsEmpty node teid
  unfolding at
  not_there node teid is key apart = by (find tunnel_cmp t.tunnels (record { node = node; teid = teid })) is
    where
      by : (o : Option (List (Item (Written (Load Pdu))))) → is_some o ≡ false → items_of key (unwrap_or o []) ≡ []
      by None e = refl
      by (Some items) e = absurd cc

  -- an open TEID there is the terminal's
  abbrev pub IsIts : NodeId → ℕ → Type 0
  IsIts (up_id gnb number) teid = (owner : CuUpTunnel) → find nat_cmp (cu_up_of t.units gnb number).tunnels teid ≡ Some owner → owner.ue ≡ ue
  IsIts (du_id gnb number) teid = (owner : DuTunnel) → find nat_cmp (du_of t.units gnb number).tunnels teid ≡ Some owner → owner.ue ≡ ue
  IsIts node teid = Unit {0}

  empty : (node : NodeId) (teid : ℕ) → IsIts node teid → IsEmpty node teid
  empty (up_id gnb number) teid its = by (find nat_cmp (cu_up_of t.units gnb number).tunnels teid) refl
    where
      by : (o : Option CuUpTunnel) → find nat_cmp (cu_up_of t.units gnb number).tunnels teid ≡ o → IsEmpty (up_id gnb number) teid
      by None e = not_there (up_id gnb number) teid (sound.standing.0 gnb number teid ∙ ap is_some e)
      by (Some owner) e = its_items (up_id gnb number) teid (λ key load own. (own owner e).0 ∙ its owner e)
  empty (du_id gnb number) teid its = by (find nat_cmp (du_of t.units gnb number).tunnels teid) refl
    where
      by : (o : Option DuTunnel) → find nat_cmp (du_of t.units gnb number).tunnels teid ≡ o → IsEmpty (du_id gnb number) teid
      by None e = not_there (du_id gnb number) teid (sound.standing.1 gnb number teid ∙ ap is_some e)
      by (Some owner) e = its_items (du_id gnb number) teid (λ key load own. (own owner e).0 ∙ its owner e)
  empty (CuCp gnb) teid its = its_items (CuCp gnb) teid (λ key load own. absurd own)
  empty Core teid its = its_items Core teid (λ key load own. absurd own)
  empty (Ue n) teid its = its_items (Ue n) teid (λ key load own. absurd own)

  -- ---- what is closed is the terminal's

  abbrev pub ClosesIts : {M L P : Type 0} → NodeId → List (Put M L P) → Type 0
  ClosesIts node outputs = (teid : ℕ) → closes teid outputs ≡ true → IsIts node teid

  abbrev ClosesBy : NodeId → PlainStepped → Type 0
  ClosesBy node (stepped outputs v) = ClosesIts node outputs
  ClosesBy node (step_spent counter) = Unit {0}

  abbrev ClosesWritten : NodeId → WrittenStepped → Type 0
  ClosesWritten node (stepped outputs v) = ClosesIts node outputs
  ClosesWritten node (step_spent counter) = Unit {0}

  any_closed : (node : NodeId) → ((teid : ℕ) → IsIts node teid) → (x : PlainStepped) → ClosesBy node x
  any_closed node its (stepped outputs v) = λ teid is. its teid
  any_closed node its (step_spent counter) = tt

  up_closed : (gnb : Gnb) (number : ℕ) (a : Plain (CuUp (Message Token) Token))
      → ClosesOwn (λ (x : CuUpTunnel). x.ue) ue (cu_up_of t.units gnb number).tunnels a
      → ClosesBy (up_id gnb number) (stepped_with reading (with_cu_up t.units gnb number) a)
  up_closed gnb number (gives outputs r) own = own
  up_closed gnb number (spent counter) own = tt

  du_closed : (gnb : Gnb) (number : ℕ) (a : Plain (Du (Message Token) Token))
      → ClosesOwn (λ (x : DuTunnel). x.ue) ue (du_of t.units gnb number).tunnels a
      → ClosesBy (du_id gnb number) (stepped_with reading (with_du t.units gnb number) a)
  du_closed gnb number (gives outputs r) own = own
  du_closed gnb number (spent counter) own = tt

  acted : (node : NodeId) (o : Option (Input Token Pdu)) (given : PlainGiven) → given_in t.units node o ≡ Some ue
      → ClosesBy node (plain_by reading t.units node given o)
  acted node None given is = absurd cc
  acted (up_id gnb number) (Some input) given is =
      up_closed gnb number (cu_up_acts plain_way (cu_up_of t.units gnb number) input)
      (up_closes plain_way ue input (cu_up_of t.units gnb number) (sound.owned.0 gnb number) is)
  acted (du_id gnb number) (Some input) given is =
      du_closed gnb number (du_acts plain_way (du_of t.units gnb number) input)
      (du_closes plain_way ue input (du_of t.units gnb number) (sound.owned.1 gnb number) is)
  acted (CuCp gnb) (Some input) given is = any_closed (CuCp gnb) (λ teid. tt) (acts_on reading t.units (CuCp gnb) input)
  acted Core (Some input) given is = any_closed Core (λ teid. tt) (acts_on reading t.units Core input)
  acted (Ue n) (Some input) given is = any_closed (Ue n) (λ teid. tt) (acts_on reading t.units (Ue n) input)

  closes_written : (lengths : Lengths) (teid : ℕ) (outputs : List (Put (Message Token) (Load Pdu) Pdu))
      → closes teid (map (written_put lengths) outputs) ≡ closes teid outputs
  closes_written lengths teid [] = refl
  closes_written lengths teid (control to who message ∷ outputs) = closes_written lengths teid outputs
  closes_written lengths teid (packet to q who bearer dir tag load ∷ outputs) = closes_written lengths teid outputs
  closes_written lengths teid (radio who bearer dir epoch tag pdu ∷ outputs) = closes_written lengths teid outputs
  closes_written lengths teid (deliver who bearer dir count p ∷ outputs) = closes_written lengths teid outputs
  closes_written lengths teid (dropped reason ∷ outputs) = closes_written lengths teid outputs
  closes_written lengths teid (held reason ∷ outputs) = closes_written lengths teid outputs
  closes_written lengths teid (opened q ∷ outputs) = closes_written lengths teid outputs
  closes_written lengths teid (closed q ∷ outputs) = ap (λ (b : Bool). q == teid || b) (closes_written lengths teid outputs)
  closes_written lengths teid (failed who cause ∷ outputs) = closes_written lengths teid outputs
  closes_written lengths teid (no reason ∷ outputs) = closes_written lengths teid outputs

  written : (lengths : Lengths) (node : NodeId) (x : PlainStepped) → ClosesBy node x → ClosesWritten node (written_step lengths x)
  written lengths node (stepped outputs v) own = λ teid is. own teid (sym (closes_written lengths teid outputs) ∙ is)
  written lengths node (step_spent counter) own = tt

  -- ---- all that is put out

  pub all_for : (node : NodeId) (outputs : List (Put (Message Token) (Written (Load Pdu)) (Written Pdu))) → AllByRecursion (IsFor ue.0) outputs → ClosesIts node outputs
      → AllByRecursion (IsOutputFor ue t node) outputs
  all_for node [] all own = tt
  all_for node (closed q ∷ outputs) all own = (
    empty node q (own q (ap (λ (b : Bool). b || closes q outputs) (eq-eqb q q refl))),
    all_for node outputs all.1 (λ teid is. own teid (or_more (q == teid) (closes teid outputs) is)),
  )
    where
      or_more : (a b : Bool) → b ≡ true → a || b ≡ true
      or_more true b e = refl
      or_more false b e = e
  all_for node (control to who message ∷ outputs) all own = (all.0, all_for node outputs all.1 own)
  all_for node (packet to q who bearer dir tag load ∷ outputs) all own = (all.0, all_for node outputs all.1 own)
  all_for node (radio who bearer dir epoch tag pdu ∷ outputs) all own = (all.0, all_for node outputs all.1 own)
  all_for node (deliver who bearer dir count p ∷ outputs) all own = (all.0, all_for node outputs all.1 own)
  all_for node (dropped reason ∷ outputs) all own = (tt, all_for node outputs all.1 own)
  all_for node (held reason ∷ outputs) all own = (tt, all_for node outputs all.1 own)
  all_for node (opened q ∷ outputs) all own = (tt, all_for node outputs all.1 own)
  all_for node (failed who cause ∷ outputs) all own = (all.0, all_for node outputs all.1 own)
  all_for node (no reason ∷ outputs) all own = (tt, all_for node outputs all.1 own)

  -- a unit's answer
  pub answered_for : (lengths : Lengths) (node : NodeId) (given : PlainGiven) (outputs : List (Put (Message Token) (Written (Load Pdu)) (Written Pdu)))
      (units : Units (Message Token) Token) → given_ue reading t.units node given ≡ Some ue
      → (plain_world reading).answer lengths t.units node given ≡ stepped outputs units
      → AllByRecursion (IsOutputFor ue t node) outputs × StaysFor units_projection ue t.units units
  answered_for lengths node given outputs units is answers =
      let its : IsUnitsStepOf ue t.units (stepped outputs units) = subst (IsUnitsStepOf ue t.units) answers
      (given_step reading t.units ue lengths node given (λ gnb number. apart_of (du_of t.units gnb number) (sound.owned.1 gnb number)) (sound.itself ue) is) in
      let closing : ClosesWritten node (stepped outputs units) = subst (ClosesWritten node) answers
      (written lengths node (plain_by reading t.units node given (input_of reading given)) (acted node (input_of reading given) given is)) in
      (all_for node outputs its.0 closing, its.1)

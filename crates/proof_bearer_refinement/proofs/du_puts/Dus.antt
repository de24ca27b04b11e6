-- What a DU puts for a bearer is orders of its uplink.
use Rattle.std.proofs.Common.{◌≡◌, ◌==◌, ℕ, Bool, true, false, ◌&&◌, ◌||◌, List, [], ◌∷◌, ◌++◌, map, Option, Some, None, refl, sym, ap, subst, ◌∙◌, append_assoc, eqb-true}
use Rattle.std.proofs.lemmas.List.{append-nil}
use Rattle.std.specs.Prelude.{is_some, if◌then◌else◌}
use Rattle.std.specs.List.{AllByRecursion}
use Rattle.gnb_types.specs.declared.names.Gnb.{Gnb}
use Rattle.gnb_types.specs.declared.names.NodeId.{NodeId}
use Rattle.gnb_types.specs.declared.names.NodeId.TheVariants.{CuCp, CuUp as up_id, Du as du_id, Core, Ue}
use Rattle.gnb_types.specs.declared.names.SnBits.{SnBits}
use Rattle.gnb_types.specs.declared.names.UeId.{UeId}
use Rattle.gnb_types.specs.declared.names.BearerId.{BearerId}
use Rattle.gnb_types.specs.declared.names.Dir.TheVariants.{Dl, Ul}
use Rattle.gnb_types.specs.declared.keys.TunnelEnd.{TunnelEnd}
use Rattle.message_types.specs.declared.rrc.Token.{Token}
use Rattle.unit_defs.specs.Ways.{Message, Pdu, packet_pdu, report_pdu, Load, fresh, numbered, frame, uplink, status, end_marker, Input, control_input, packet_input, radio_input, confirm_input, offer_input, tick_input, order_input, Answer}
use Rattle.unit_defs.specs.CuUpRecords.{CuUpTunnel, TunnelKind, n3, f1u_uplink, forwarding_down, forwarding_up}
use Rattle.unit_defs.specs.Du.{missing, is_missing}
use Rattle.run_defs.specs.Lines.{RunLine}
use Rattle.run_defs.specs.Units.{du_of, with_du}
use Rattle.run_defs.specs.Written.{written_put}
use Rattle.run_defs.specs.States.{sn_of}
use Rattle.run_defs.specs.Runs.{Reading, plain_world, plain_way}
use Rattle.proof_run_steps.specs.steps.Causes.{node_of, count_of}
use Rattle.proof_run_steps.proofs.steps.Frames.{HasUnits, units_by, act_units}
use Rattle.proof_run_steps.proofs.tunnel_steps.Tracks.{acts_so}
use Rattle.proof_run_steps.specs.tunnel_steps.Standing.{standing, is_end, after_puts}
use Rattle.bearer_defs.specs.chain_defs.Models as down_models
use Rattle.bearer_defs.specs.chain_defs.Models.{set}
use Rattle.bearer_defs.specs.uplink_defs.Models as up_models
use Rattle.bearer_defs.specs.uplink_defs.Orders as up
use Rattle.proof_cu_up_orders.specs.chain_rows.Shown.{item_of}
use Rattle.proof_cu_up_orders.specs.context_orders.Orders.{CuUpModel}
use Rattle.proof_cu_up_orders.specs.bearer_orders.Happenings.{Contexts}
use Rattle.proof_cu_up_orders.specs.bearer_orders.Down as downs
use Rattle.proof_cu_up_orders.specs.bearer_orders.Up as ups
use Rattle.proof_cu_up_orders.specs.orders.Up.{up_of as said_up}
use Rattle.law_tunnels_are_owned.proofs.open_tunnels.Links.{end_of}
use Rattle.law_tunnels_are_owned.specs.owner_facts.Owned.{AreOwned}
use Rattle.law_tunnels_are_owned.specs.run_tunnels.Own.{IsOwnAt}
use Rattle.proof_bearer_refinement.specs.run_unit_inputs.Happenings.{DuRecord}
use Rattle.proof_bearer_refinement.specs.run_bearers.Things.{PlainUnits}
use Rattle.proof_bearer_refinement.specs.run_bearers.Bearers.{Numbering, contexts_of}
use Rattle.proof_bearer_refinement.specs.refinement_facts.Refinements.{RunState, RunItem, Owned, owned_on, owned_at, downs_of, up_item, ups_of, IsMirror}
use Rattle.proof_bearer_refinement.specs.refinement_facts.Asked.{RunCause, Refines, AreSound}
use Rattle.proof_bearer_refinement.proofs.refinement_facts.Puts.{Outs, put_there, ups_both, downs_written, ups_written, IsOwn, own_from, stays_so}
use Rattle.proof_node_orders.specs.du_inputs.Changes.{DuModel, Change, takes, renews, sets_up, ends, stays, model_of, change_by}
use Rattle.proof_node_orders.specs.du_inputs.Puts.{OnTunnel, is_of, tunnels_put, on_uplink, of_number, of_model, of_change, carried_of, Puts}
use Rattle.proof_node_orders.specs.du_puts.Inputs.{ups_by}
use Rattle.proof_node_orders.proofs.du_puts.ControlMessages.{input_puts}
use Rattle.proof_node_orders.specs.du_steps.Steps.{order_of}
use Rattle.proof_bearer_refinement.specs.du_puts.Puts.{IsDuStep, IsAtStation, LeadsUp, order_up, owned_to, AllLead, orders_up, puts_of}
use Rattle.proof_bearer_refinement.proofs.du_puts.Apart.{on_same, contexts_same, found_on, owned_same, on_uplinks, of_kinds}
use Rattle.proof_bearer_refinement.proofs.du_puts.Stands.{all_right, some_standing, takes_none, items_are, ups_stay}
use Rattle.proof_bearer_refinement.proofs.du_puts.Listed.{items_on, none_on, downs_listed, ups_listed}

-- ---- what a DU puts goes up

abbrev IsUpLoad : Load Pdu → Type 0
IsUpLoad (uplink pdu) = Unit {0}
IsUpLoad (status lost delivered) = Unit {0}
IsUpLoad end_marker = Unit {0}
IsUpLoad load = ⊥

abbrev AreUp : List OnTunnel → Type 0
AreUp ps = AllByRecursion (λ (p : OnTunnel). IsUpLoad p.load) ps

of_model_up : (f : DuModel → List OnTunnel) (o : Option DuModel) → ((d : DuModel) → AreUp (f d)) → AreUp (of_model f o)
of_model_up f None each = tt
of_model_up f (Some d) each = each d

change_up : (change : Change) (d : DuModel) → AreUp (of_change {M = Message Token} {C = Token} plain_way change d)
change_up (takes f) d = by (is_missing plain_way d.bearer f.number || f.poll)
  where
    by : (t : Bool) → AreUp (if t then on_uplink d (status (missing plain_way d.bearer f.number) None) else [])
    by true = (tt, tt)
    by false = tt
change_up ends d = (tt, tt)
change_up stays d = tt
change_up (renews epoch teid) d = tt
change_up (sets_up part) d = tt

if_up : (t : Bool) (ps : List OnTunnel) → AreUp ps → AreUp (if t then ps else [])
if_up true ps all = all
if_up false ps all = tt

number_up : (o : Option ℕ) (d : DuModel) → AreUp (of_number o d)
number_up None d = tt
number_up (Some number) d = (tt, tt)

puts_up : (ue : UeId) (bearer : BearerId) (r : DuRecord) (input : Input Token Pdu) → AreUp (ups_by plain_way ue bearer r input)
unfolding ups_by
puts_up ue bearer r (radio_input other q Ul pdu content) =
    of_model_up _ (model_of r ue bearer) (λ d. if_up (is_of ue bearer other q) (on_uplink d (uplink pdu)) (tt, tt))
puts_up ue bearer r (confirm_input other q Dl pdu content) =
    of_model_up _ (model_of r ue bearer) (λ d. if_up (is_of ue bearer other q) (of_number (plain_way.number d.sn pdu) d) (number_up (plain_way.number d.sn pdu) d))
puts_up ue bearer r (radio_input other q Dl pdu content) = of_model_up _ (model_of r ue bearer) (change_up (change_by plain_way ue bearer r (radio_input other q Dl pdu content)))
puts_up ue bearer r (confirm_input other q Ul pdu content) = of_model_up _ (model_of r ue bearer) (change_up (change_by plain_way ue bearer r (confirm_input other q Ul pdu content)))
puts_up ue bearer r (control_input from m) = of_model_up _ (model_of r ue bearer) (change_up (change_by plain_way ue bearer r (control_input from m)))
puts_up ue bearer r (packet_input teid item) = of_model_up _ (model_of r ue bearer) (change_up (change_by plain_way ue bearer r (packet_input teid item)))
puts_up ue bearer r (offer_input u b p) = of_model_up _ (model_of r ue bearer) (change_up (change_by plain_way ue bearer r (offer_input u b p)))
puts_up ue bearer r tick_input = of_model_up _ (model_of r ue bearer) (change_up (change_by plain_way ue bearer r tick_input))
puts_up ue bearer r (order_input order) = of_model_up _ (model_of r ue bearer) (change_up (change_by plain_way ue bearer r (order_input order)))

-- ---- one put on the model

run_more : (u : up_models.Model) (os more : List up.ModelStep) → up.run u (os ++ more) ≡ up.run (up.run u os) more
unfolding up.run
run_more u [] more = refl
run_more u (o ∷ os) more = run_more (up.after u o) os more

abbrev with_put : up_models.Member → ℕ → up_models.Item → up_models.Member
with_put m teid item = record m { uplink = set m.uplink teid (m.uplink teid ++ item ∷ []) }

set_put : (f : ℕ → up_models.Member) (x q : ℕ) (item : up_models.Item) (y t : ℕ)
    → (set f x (with_put (f x) q item) y).uplink t ≡ (f y).uplink t ++ (if y == x && t == q then item ∷ [] else [])
set_put f x q item y t = by (y == x) refl (t == q) refl
  where
    by : (a : Bool) → (y == x) ≡ a → (b : Bool) → (t == q) ≡ b
        → (if a then with_put (f x) q item else f y).uplink t ≡ (f y).uplink t ++ (if a && b then item ∷ [] else [])
    by false e b k = sym (append-nil ((f y).uplink t))
    by true e true k =
        ap (λ (c : Bool). if c then (f x).uplink q ++ item ∷ [] else (f x).uplink t) k
        ∙ (λ i. (f (sym (eqb-true y x e) i)).uplink (sym (eqb-true t q k) i) ++ item ∷ [])
    by true e false k =
        ap (λ (c : Bool). if c then (f x).uplink q ++ item ∷ [] else (f x).uplink t) k
        ∙ ap (λ z. (f z).uplink t) (sym (eqb-true y x e)) ∙ sym (append-nil ((f y).uplink t))

-- all else of the model's contexts stays, and so does the terminal's place
pub record Stays (u v : up_models.Model) : Type 0 where
  pub station : v.station ≡ u.station
  pub there : (y : ℕ) → (v.members y).is_there ≡ (u.members y).is_there
  pub flags : (y : ℕ) → (v.members y).flags ≡ (u.members y).flags
  pub bearer : (y : ℕ) → (v.members y).bearer ≡ (u.members y).bearer
  pub forwarded : (y : ℕ) → (v.members y).forwarded ≡ (u.members y).forwarded

stays_as_is : (u : up_models.Model) → Stays u u
stays_as_is u = record { station = refl; there = λ y. refl; flags = λ y. refl; bearer = λ y. refl; forwarded = λ y. refl }

stays_later : (u v w : up_models.Model) → Stays u v → Stays v w → Stays u w
stays_later u v w p q = record {
  station = q.station ∙ p.station;
  there = λ y. q.there y ∙ p.there y;
  flags = λ y. q.flags y ∙ p.flags y;
  bearer = λ y. q.bearer y ∙ p.bearer y;
  forwarded = λ y. q.forwarded y ∙ p.forwarded y;
}

set_stays : {X : Type 0} (part : up_models.Member → X) (f : ℕ → up_models.Member) (x : ℕ) (m : up_models.Member) (y : ℕ) → part m ≡ part (f x)
    → part (set f x m y) ≡ part (f y)
set_stays part f x m y same = by (y == x) refl
  where
    by : (t : Bool) → (y == x) ≡ t → part (if t then m else f y) ≡ part (f y)
    by true e = same ∙ ap (λ z. part (f z)) (sym (eqb-true y x e))
    by false e = refl

order_stays : (u : up_models.Model) (x teid : ℕ) (load : Load Pdu) → Stays u (up.run u (order_of x u teid load))
unfolding up.run up.after
order_stays u x teid (uplink (packet_pdu count packet)) =
    let m : up_models.Member = with_put (u.members u.station) teid (up_models.numbered count packet) in record {
      station = refl;
      there = λ y. set_stays (λ k. k.is_there) u.members u.station m y refl;
      flags = λ y. set_stays (λ k. k.flags) u.members u.station m y refl;
      bearer = λ y. set_stays (λ k. k.bearer) u.members u.station m y refl;
      forwarded = λ y. set_stays (λ k. k.forwarded) u.members u.station m y refl;
    }
order_stays u x teid end_marker =
    let m : up_models.Member = with_put (u.members x) teid up_models.end_marker in record {
      station = refl;
      there = λ y. set_stays (λ k. k.is_there) u.members x m y refl;
      flags = λ y. set_stays (λ k. k.flags) u.members x m y refl;
      bearer = λ y. set_stays (λ k. k.bearer) u.members x m y refl;
      forwarded = λ y. set_stays (λ k. k.forwarded) u.members x m y refl;
    }
order_stays u x teid (uplink (report_pdu fmc bits)) = stays_as_is u
order_stays u x teid (fresh p) = stays_as_is u
order_stays u x teid (numbered sn count p) = stays_as_is u
order_stays u x teid (frame poll restart number pdu) = stays_as_is u
order_stays u x teid (status lost delivered) = stays_as_is u

one_stays : (u : up_models.Model) (p : OnTunnel) (w : Option Owned) → Stays u (up.run u (order_up u p w))
unfolding up.run
one_stays u p None = stays_as_is u
one_stays u p (Some w) = order_stays u w.context p.teid p.load

no_item : {X : Type 0} (t : Bool) (xs : List X) → xs ≡ xs ++ (if t then [] else [])
no_item true xs = sym (append-nil xs)
no_item false xs = sym (append-nil xs)

-- its item comes where the tunnel ends
order_puts : (u : up_models.Model) (x teid : ℕ) (load : Load Pdu) (y t : ℕ) → IsUpLoad load → IsAtStation u.station load x
    → ((up.run u (order_of x u teid load)).members y).uplink t ≡ (u.members y).uplink t ++ (if y == x && t == teid then up_item load else [])
unfolding up.run up.after
order_puts u x teid (uplink (packet_pdu count packet)) y t fits at =
    set_put u.members u.station teid (up_models.numbered count packet) y t
    ∙ ap (λ z. (u.members y).uplink t ++ (if y == z && t == teid then up_models.numbered count packet ∷ [] else [])) (sym at)
order_puts u x teid end_marker y t fits at = set_put u.members x teid up_models.end_marker y t
order_puts u x teid (uplink (report_pdu fmc bits)) y t fits at = no_item (y == x && t == teid) ((u.members y).uplink t)
order_puts u x teid (status lost delivered) y t fits at = no_item (y == x && t == teid) ((u.members y).uplink t)
order_puts u x teid (fresh p) y t fits at = absurd fits
order_puts u x teid (numbered sn count p) y t fits at = absurd fits
order_puts u x teid (frame poll restart number pdu) y t fits at = absurd fits

-- ---- all that a DU puts, on one tunnel of the bearer

module _ (n : Numbering) (ue : UeId) (bearer : BearerId) (units : PlainUnits) (owned : AreOwned units) where
  lead_again : (u v : up_models.Model) (ps : List OnTunnel) → Stays u v → AllLead n ue bearer units u.station ps → AllLead n ue bearer units v.station ps
  lead_again u v ps stays_so lead = subst (λ station. AllLead n ue bearer units station ps) (sym stays_so.station) lead

  abbrev after_puts_up : up_models.Model → List OnTunnel → up_models.Model
  after_puts_up u ps = up.run u (orders_up n ue bearer units u ps)

  pub all_stay : (u : up_models.Model) (ps : List OnTunnel) → Stays u (after_puts_up u ps)
  unfolding up.run orders_up
  all_stay u [] = stays_as_is u
  all_stay u (p ∷ ps) =
      let first : List up.ModelStep = order_up u p (owned_to n ue bearer units p) in
      let v : up_models.Model = up.run u first in
      subst (λ (w : up_models.Model). Stays u w) (sym (run_more u first (orders_up n ue bearer units v ps)))
      (stays_later u v (after_puts_up v ps) (one_stays u p (owned_to n ue bearer units p)) (all_stay v ps))

  module _ (end : TunnelEnd) (o : Owned) (is : owned_at n ue bearer units end ≡ Some o) where
    -- on an uplink
    one_put : o.kind ≡ f1u_uplink → (u : up_models.Model) (p : OnTunnel) → IsUpLoad p.load → (w : Option Owned) → owned_to n ue bearer units p ≡ w
        → LeadsUp u.station p.load w
        → ((up.run u (order_up u p w)).members o.context).uplink end.teid
        ≡ (u.members o.context).uplink end.teid ++ (if is_end end p.to p.teid then up_item p.load else [])
    unfolding up.run
    one_put kind u p fits None there lead = by (is_end end p.to p.teid) refl
      where
        by : (t : Bool) → is_end end p.to p.teid ≡ t → (u.members o.context).uplink end.teid ≡ (u.members o.context).uplink end.teid ++ (if t then up_item p.load else [])
        by true e = let both : None ≡ Some o = sym there ∙ owned_same n ue bearer units end p.to p.teid e ∙ is in absurd cc
        by false e = sym (append-nil ((u.members o.context).uplink end.teid))
    one_put kind u p fits (Some w) there lead =
        order_puts u w.context p.teid p.load o.context end.teid fits lead.1
        ∙ ap (λ (t : Bool). (u.members o.context).uplink end.teid ++ (if t then up_item p.load else []))
        (on_uplinks n ue bearer units owned end o is p.to p.teid w there kind lead.0)

    pub all_put : o.kind ≡ f1u_uplink → (u : up_models.Model) (ps : List OnTunnel) → AreUp ps → AllLead n ue bearer units u.station ps
        → ((after_puts_up u ps).members o.context).uplink end.teid ≡ (u.members o.context).uplink end.teid ++ items_on up_item end ps
    unfolding up.run orders_up
    all_put kind u [] fits lead = sym (append-nil ((u.members o.context).uplink end.teid))
    all_put kind u (p ∷ ps) fits lead =
        let first : List up.ModelStep = order_up u p (owned_to n ue bearer units p) in
        let v : up_models.Model = up.run u first in
        ap (λ (w : up_models.Model). (w.members o.context).uplink end.teid) (run_more u first (orders_up n ue bearer units v ps))
        ∙ all_put kind v ps fits.1 (lead_again u v ps (one_stays u p (owned_to n ue bearer units p)) lead.1)
        ∙ ap (λ (zs : List up_models.Item). zs ++ items_on up_item end ps) (one_put kind u p fits.0 (owned_to n ue bearer units p) refl lead.0)
        ∙ append_assoc ((u.members o.context).uplink end.teid) (if is_end end p.to p.teid then up_item p.load else []) (items_on up_item end ps)

    -- and nothing on any other
    pub none_put : (o.kind ≡ f1u_uplink → ⊥) → (station : ℕ) (ps : List OnTunnel) → AllLead n ue bearer units station ps
        → AllByRecursion (λ (p : OnTunnel). is_end end p.to p.teid ≡ false) ps
    none_put other station [] lead = tt
    none_put other station (p ∷ ps) lead = (by (owned_to n ue bearer units p) refl lead.0, none_put other station ps lead.1)
      where
        by : (w : Option Owned) → owned_to n ue bearer units p ≡ w → LeadsUp station p.load w → is_end end p.to p.teid ≡ false
        by None there h = unless (is_end end p.to p.teid) refl
          where
            unless : (t : Bool) → is_end end p.to p.teid ≡ t → t ≡ false
            unless false e = refl
            unless true e = let both : None ≡ Some o = sym there ∙ owned_same n ue bearer units end p.to p.teid e ∙ is in absurd cc
        by (Some w) there h = of_kinds n ue bearer units owned end o is p.to p.teid w there (λ same. other (sym same ∙ h.0))

-- ---- the step

module _ (reading : Reading) (n : Numbering) (ue : UeId) (bearer : BearerId) (sn : SnBits) (quota : ℕ) (s t : RunState) (gnb : Gnb) (number : ℕ)
    (cause : RunCause) (input : Input Token Pdu) (outputs : Outs) (v : DuRecord) (step : IsDuStep reading s t gnb number cause input outputs v)
    (sound : AreSound s t) (d : down_models.Model) (u : up_models.Model) (refined : Refines n ue bearer sn quota s d u)
    (lead : AllLead n ue bearer s.units u.station (puts_of ue bearer s.units gnb number input)) where
  abbrev ps : List OnTunnel
  ps = puts_of ue bearer s.units gnb number input

  abbrev pub later : up_models.Model
  later = up.run u (orders_up n ue bearer s.units u ps)

  units_then : t.units ≡ units_by (plain_world reading) cause (with_du s.units gnb number v)
  units_then =
      subst (HasUnits (plain_world reading) {X = RunLine (Message Token)} (units_by (plain_world reading) cause (with_du s.units gnb number v))) step.goes_on
      (act_units (plain_world reading) cause (map (written_put (sn_of s)) outputs) (with_du s.units gnb number v) s)

  ups_same : t.units.ups ≡ s.units.ups
  ups_same = ap (λ (w : PlainUnits). w.ups) units_then ∙ ups_stay (plain_world reading) cause (with_du s.units gnb number v)

  -- all that is put for the bearer
  listed : tunnels_put ue bearer outputs ≡ ps
  unfolding Puts
  listed =
      let r : DuRecord = du_of s.units gnb number in
      (subst (λ (a : Answer (Message Token) Pdu DuRecord). Puts ue bearer ps (of_model (carried_of (change_by plain_way ue bearer r input)) (model_of r ue bearer)) a)
      step.answers (input_puts plain_way ue bearer r input ((sound.owned.1 gnb number).1 ue))).0

  its_stay : Stays u later
  its_stay = all_stay n ue bearer s.units sound.owned u ps

  module _ (g : Gnb) (k teid : ℕ) (o : Owned) (items : List RunItem) (is : owned_on n ue bearer t.units (up_id g k) teid ≡ Some o)
      (there : standing t (end_of (up_id g k) teid) ≡ Some items) where
    abbrev end : TunnelEnd
    end = end_of (up_id g k) teid

    was : owned_at n ue bearer s.units end ≡ Some o
    was = sym (on_same n ue bearer s.units t.units ups_same (up_id g k) teid) ∙ is

    stood : (before : List RunItem) × (standing s end ≡ Some before)
    stood =
        some_standing (standing s end)
        (sound.standing_there.0 g k teid ∙ ap (λ (a : Option CuUpTunnel). is_some a) (found_on n ue bearer s.units g k teid o was).1)

    far : end.node ≡ node_of cause → ⊥
    far e = let other : up_id g k ≡ du_id gnb number = e ∙ step.node in absurd cc

    abbrev puts : List RunItem
    puts = put_there (sn_of s) end (count_of cause) outputs

    are : items ≡ stood.0 ++ puts
    are =
        items_are (sn_of s) end (node_of cause) (count_of cause) outputs (standing s end) (standing t end) stood.0 items far stood.1 there
        (acts_so (plain_world reading) end cause (map (written_put (sn_of s)) outputs) (with_du s.units gnb number v) s t step.lines step.goes_on
        ∙ ap (after_puts end (node_of cause) (count_of cause) (map (written_put (sn_of s)) outputs)) (takes_none cause end (standing s end) far))

    own_puts : AllByRecursion (IsOwn end ue bearer) outputs
    own_puts =
        let f = found_on n ue bearer t.units g k teid o is in
        own_from (sn_of s) t.units g k teid (count_of cause) ue bearer f.0 f.1 f.2 outputs
        (all_right (λ (item : RunItem). IsOwnAt t.units (up_id g k) teid item.key item.content.says) stood.0 puts
        (subst (AllByRecursion (λ (item : RunItem). IsOwnAt t.units (up_id g k) teid item.key item.content.says)) are (sound.own end items there)))

    downs_put : downs_of puts ≡ items_on item_of end ps
    downs_put = downs_written (sn_of s) end (count_of cause) outputs ∙ downs_listed end ue bearer outputs own_puts ∙ ap (items_on item_of end) listed

    ups_put : ups_of puts ≡ items_on up_item end ps
    ups_put = ups_written (sn_of s) end (count_of cause) outputs ∙ ups_listed end ue bearer outputs own_puts ∙ ap (items_on up_item end) listed

    quiet : (o.kind ≡ f1u_uplink → ⊥) → (downs_of puts ≡ []) × (ups_of puts ≡ [])
    quiet other =
        let none = none_put n ue bearer s.units sound.owned end o was other u.station ps lead in
        (downs_put ∙ none_on end item_of ps none, ups_put ∙ none_on end up_item ps none)

    abbrev Before : TunnelKind → Type 0
    Before kind = IsMirror kind (d.members o.context) (u.members o.context) teid stood.0

    kept : (kind : TunnelKind) → o.kind ≡ kind → (kind ≡ f1u_uplink → ⊥) → Before kind → IsMirror kind (d.members o.context) (u.members o.context) teid (stood.0 ++ puts)
    kept kind e other before =
        let none = quiet (λ h. other (sym e ∙ h)) in stays_so kind (d.members o.context) (u.members o.context) teid stood.0 puts before none.0 none.1

    of_kind : (kind : TunnelKind) → o.kind ≡ kind → Before kind → IsMirror kind (d.members o.context) (later.members o.context) teid (stood.0 ++ puts)
    of_kind n3 e before = kept n3 e (λ h. absurd cc) before
    of_kind forwarding_down e before = kept forwarding_down e (λ h. absurd cc) before
    of_kind forwarding_up e before = kept forwarding_up e (λ h. absurd cc) before ∙ sym (its_stay.forwarded o.context)
    of_kind f1u_uplink e before =
        ups_both stood.0 puts ∙ (λ i. before i ++ ups_put i)
        ∙ sym (all_put n ue bearer s.units sound.owned end o was e u ps (puts_up ue bearer (du_of s.units gnb number) input) lead)

    mirrors : IsMirror o.kind (d.members o.context) (later.members o.context) teid items
    mirrors =
        subst (λ (zs : List RunItem). IsMirror o.kind (d.members o.context) (later.members o.context) teid zs) (sym are)
        (of_kind o.kind refl (refined.mirrors end o stood.0 was stood.1))

  at_node : (node : NodeId) (teid : ℕ) (o : Owned) (items : List RunItem) → owned_on n ue bearer t.units node teid ≡ Some o
      → standing t (end_of node teid) ≡ Some items → IsMirror o.kind (d.members o.context) (later.members o.context) teid items
  at_node (up_id g k) teid o items is there = mirrors g k teid o items is there
  at_node (CuCp g) teid o items is there = absurd cc
  at_node (du_id g k) teid o items is there = absurd cc
  at_node Core teid o items is there = absurd cc
  at_node (Ue k) teid o items is there = absurd cc

  has_up : (x : ℕ) (p : Option CuUpModel) → ups.IsIn (u.members x) p → ups.IsIn (later.members x) p
  has_up x None h = its_stay.there x ∙ h
  has_up x (Some p) h = record {
    there = its_stay.there x ∙ h.there;
    flags = its_stay.flags x ∙ h.flags;
    bearer = ap said_up (its_stay.bearer x) ∙ h.bearer;
  }

  pub du_refined : Refines n ue bearer sn quota t d later
  du_refined =
      let same : contexts_of n ue bearer t.units ≡ contexts_of n ue bearer s.units = contexts_same n ue bearer s.units t.units ups_same in record {
        mirrors = λ end o items is there. at_node end.node end.teid o items is there;
        down = subst (λ (cs : Contexts). downs.Has sn quota d cs) (sym same) refined.down;
        up = subst (λ (cs : Contexts). ups.Has later cs) (sym same) (λ x. has_up x (contexts_of n ue bearer s.units x) (refined.up x));
      }

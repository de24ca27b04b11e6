-- The tunnels whose TEIDs are a terminal's: they stand alike in two states of runs in which its projection is the same, and on others
-- nothing of it stands.
use Rattle.std.proofs.Common.{◌≡◌, ◌≤◌, ℕ, ◌+◌, ◌==◌, Bool, true, false, cond, List, [], ◌∷◌, Option, Some, None, ◌⊎◌, inl, inr, refl, sym, ap, ◌∙◌, arith, eqb-true}
use Rattle.std.proofs.lemmas.Bool.{eq-eqb}
use Rattle.std.specs.Prelude.{◌≢◌, if◌then◌else◌, is_some, unwrap_or}
use Rattle.std.specs.Option.{option_map}
use Rattle.std.specs.List.{AllByRecursion}
use Rattle.std.specs.Ordering.{nat_cmp, eq_by_cmp}
use Rattle.gnb_types.specs.declared.names.NodeId.{NodeId}
use Rattle.gnb_types.specs.declared.names.NodeId.TheVariants.{CuCp, CuUp as up_id, Du as du_id, Core, Ue}
use Rattle.gnb_types.specs.declared.names.UeId.{UeId}
use Rattle.gnb_types.specs.declared.keys.TunnelEnd.{TunnelEnd}
use Rattle.gnb_types.specs.declared.keys.EntityKey.{EntityKey}
use Rattle.gnb_types.specs.Orders.{entity_cmp, tunnel_cmp}
use Rattle.gnb_types.proofs.OrderLemmas.{entity_total, entity_exact}
use Rattle.tables.specs.Tables.{find, at}
use Rattle.tables.proofs.TableLaws.{other_key}
use Rattle.unit_defs.specs.Ways.{Load, Pdu}
use Rattle.unit_defs.specs.CuUpRecords.{CuUpTunnel}
use Rattle.unit_defs.specs.Du.{DuTunnel}
use Rattle.transport_defs.specs.declared.Item.{Item}
use Rattle.transport_defs.specs.Links.{items_of}
use Rattle.run_defs.specs.Units.{cu_up_of, du_of}
use Rattle.run_defs.specs.Written.{Written}
use Rattle.proof_run_steps.specs.teids.Given.{below, GrowsTo, GiveOnce}
use Rattle.law_tunnels_are_owned.specs.open_tunnels.Open.{stands}
use Rattle.law_tunnels_are_owned.specs.owner_facts.Owned.{WereGiven}
use Rattle.law_terminals_are_isolated.specs.cu_up_projection.CuUps.{own_tunnel as up_own}
use Rattle.law_terminals_are_isolated.specs.du_projection.Dus.{own_tunnel as du_own}
use Rattle.law_tunnels_are_owned.specs.run_tunnels.Own.{IsOwnAt}
use Rattle.law_terminals_are_isolated.specs.frame_of_steps.Others.{items_on}
use Rattle.law_terminals_are_isolated.proofs.own_steps.Steps.{Sound}
use Rattle.law_terminals_are_isolated.specs.own_events.Events.{RunState}
use Rattle.law_terminals_are_isolated.specs.step_consistency.EqualStates.{stand, Agree}
use Rattle.law_terminals_are_isolated.proofs.step_consistency.Units.{RunUnits}

-- a TEID that is open as the terminal's
abbrev pub is_its : UeId → RunUnits → NodeId → ℕ → Bool
is_its ue u (up_id gnb number) teid = is_some (up_own ue (find nat_cmp (cu_up_of u gnb number).tunnels teid))
is_its ue u (du_id gnb number) teid = is_some (du_own ue (find nat_cmp (du_of u gnb number).tunnels teid))
is_its ue u node teid = false

abbrev pub opens_at : UeId → RunUnits → TunnelEnd → Bool
opens_at ue u end = is_its ue u end.node end.teid

module _ (ue : UeId) where
  pub its_equal : (u v : RunUnits) → Agree ue u v → (node : NodeId) (teid : ℕ) → is_its ue u node teid ≡ is_its ue v node teid
  its_equal u v h (up_id gnb number) teid = λ i. is_some ((h.tunnels gnb number i).tunnels teid)
  its_equal u v h (du_id gnb number) teid = λ i. is_some (((h.units i).dus gnb number).tunnels teid)
  its_equal u v h (CuCp gnb) teid = refl
  its_equal u v h Core teid = refl
  its_equal u v h (Ue n) teid = refl

  -- ---- one that is open later as the terminal's is open before as the terminal's, or not open

  module _ {X : Type 0} (owner_ue : X → UeId) (own : Option X → Option X) (its : (x : X) → owner_ue x ≡ ue → own (Some x) ≡ Some x)
      (none : own None ≡ None) where
    open_before : (next : ℕ) (ts : List (ℕ × X)) (later_next : ℕ) (later : List (ℕ × X)) (teid : ℕ) (x : X) → GrowsTo next ts later_next later
        → WereGiven next ts → find nat_cmp later teid ≡ Some x → owner_ue x ≡ ue
        → is_some (find nat_cmp ts teid) ≡ is_some (own (find nat_cmp ts teid))
    open_before next ts later_next later teid x grows given found is = by (grows.1 teid x found)
      where
        was : (o : Option X) → find nat_cmp ts teid ≡ o → below next ≤ teid → is_some o ≡ is_some (own o)
        was None e new = sym (ap is_some none)
        was (Some y) e new = let old : teid + 1 ≤ below next = given teid y e in absurd (omega (arith, old, new))

        by : (find nat_cmp ts teid ≡ Some x) ⊎ ((below next ≤ teid) × (teid + 1 ≤ below later_next))
            → is_some (find nat_cmp ts teid) ≡ is_some (own (find nat_cmp ts teid))
        by (inl e) = ap is_some e ∙ sym (ap (λ (o : Option X). is_some (own o)) e ∙ ap is_some (its x is))
        by (inr new) = was (find nat_cmp ts teid) refl new.0

  up_itself : (x : CuUpTunnel) → x.ue ≡ ue → up_own ue (Some x) ≡ Some x
  up_itself x is = ap (λ (b : Bool). if b then Some x else None) (eq-eqb x.ue.0 ue.0 (ap (λ (w : UeId). w.0) is))

  du_itself : (x : DuTunnel) → x.ue ≡ ue → du_own ue (Some x) ≡ Some x
  du_itself x is = ap (λ (b : Bool). if b then Some x else None) (eq-eqb x.ue.0 ue.0 (ap (λ (w : UeId). w.0) is))

  up_owner : (o : Option CuUpTunnel) → is_some (up_own ue o) ≡ true → (x : CuUpTunnel) × ((o ≡ Some x) × (x.ue ≡ ue))
  up_owner None e = absurd cc
  up_owner (Some x) e = by (x.ue.0 == ue.0) refl e
    where
      by : (b : Bool) → (x.ue.0 == ue.0) ≡ b → is_some (if b then Some x else None) ≡ true → (y : CuUpTunnel) × ((Some x ≡ Some y) × (y.ue ≡ ue))
      by true is e = (x, (refl, ap (λ (n : ℕ). record { 0 = n }) (eqb-true x.ue.0 ue.0 is)))
      by false is e = absurd cc

  du_owner : (o : Option DuTunnel) → is_some (du_own ue o) ≡ true → (x : DuTunnel) × ((o ≡ Some x) × (x.ue ≡ ue))
  du_owner None e = absurd cc
  du_owner (Some x) e = by (x.ue.0 == ue.0) refl e
    where
      by : (b : Bool) → (x.ue.0 == ue.0) ≡ b → is_some (if b then Some x else None) ≡ true → (y : DuTunnel) × ((Some x ≡ Some y) × (y.ue ≡ ue))
      by true is e = (x, (refl, ap (λ (n : ℕ). record { 0 = n }) (eqb-true x.ue.0 ue.0 is)))
      by false is e = absurd cc

  pub stands_before : (s : RunState) → Sound s → (w : RunUnits) → GiveOnce s.units w → (node : NodeId) (teid : ℕ) → is_its ue w node teid ≡ true
      → stands s node teid ≡ is_its ue s.units node teid
  stands_before s sound w gives (up_id gnb number) teid owned =
      let owner = up_owner (find nat_cmp (cu_up_of w gnb number).tunnels teid) owned in
      sound.standing.0 gnb number teid
      ∙ open_before (λ (x : CuUpTunnel). x.ue) (up_own ue) up_itself refl (cu_up_of s.units gnb number).next_teid (cu_up_of s.units gnb number).tunnels
      (cu_up_of w gnb number).next_teid (cu_up_of w gnb number).tunnels teid owner.0 (gives.0 gnb number) (sound.owned.0 gnb number).2 owner.1.0 owner.1.1
  stands_before s sound w gives (du_id gnb number) teid owned =
      let owner = du_owner (find nat_cmp (du_of w gnb number).tunnels teid) owned in
      sound.standing.1 gnb number teid
      ∙ open_before (λ (x : DuTunnel). x.ue) (du_own ue) du_itself refl (du_of s.units gnb number).next_teid (du_of s.units gnb number).tunnels
      (du_of w gnb number).next_teid (du_of w gnb number).tunnels teid owner.0 (gives.1 gnb number) (sound.owned.1 gnb number).2 owner.1.0 owner.1.1
  stands_before s sound w gives (CuCp gnb) teid owned = absurd cc
  stands_before s sound w gives Core teid owned = absurd cc
  stands_before s sound w gives (Ue n) teid owned = absurd cc

  -- ---- so it stands in both, or in neither, with the same items of the terminal

  same_stand : (key : EntityKey) (o p : Option (List (Item (Written (Load Pdu))))) → is_some o ≡ is_some p
      → items_of key (unwrap_or o []) ≡ items_of key (unwrap_or p []) → option_map (items_of key) o ≡ option_map (items_of key) p
  same_stand key None None there e = refl
  same_stand key (Some xs) (Some ys) there e = ap (λ (zs : List (Item (Written (Load Pdu)))). Some zs) e
  same_stand key None (Some ys) there e = absurd cc
  same_stand key (Some xs) None there e = absurd cc

  pub stand_equal : (s t : RunState) → Sound s → Sound t → Agree ue s.units t.units → (a b : RunUnits) → Agree ue a b → GiveOnce s.units a → GiveOnce t.units b
      → ((end : TunnelEnd) (key : EntityKey) → key.ue ≡ ue → items_on s end key ≡ items_on t end key)
      → (end : TunnelEnd) → opens_at ue a end ≡ true → (key : EntityKey) → key.ue ≡ ue → stand s.tunnels end key ≡ stand t.tunnels end key
  unfolding at
  stand_equal s t sound also h a b k gives too items end owned key its =
      same_stand key (find tunnel_cmp s.tunnels end) (find tunnel_cmp t.tunnels end)
      (stands_before s sound a gives end.node end.teid owned
      ∙ its_equal s.units t.units h end.node end.teid
      ∙ sym (stands_before t also b too end.node end.teid (sym (its_equal a b k end.node end.teid) ∙ owned)))
      (items end key its)

  -- ---- on others nothing of the terminal stands

  apart_keys : (a b : EntityKey) → a.ue ≢ b.ue → eq_by_cmp entity_cmp a b ≡ false
  apart_keys a b apart =
      other_key (record { total = entity_total; exact = entity_exact }) a b (λ e. apart (ap (λ (k : EntityKey). k.ue) e))

  none_of : (key : EntityKey) (items : List (Item (Written (Load Pdu)))) → AllByRecursion (λ (item : Item (Written (Load Pdu))). item.key.ue ≢ key.ue) items
      → items_of key items ≡ []
  none_of key [] all = refl
  none_of key (item ∷ items) all =
      ap (λ (b : Bool). cond b (item ∷ items_of key items) (items_of key items)) (apart_keys item.key key all.0) ∙ none_of key items all.1

  each_apart : (key : EntityKey) (u : RunUnits) (node : NodeId) (teid : ℕ) (items : List (Item (Written (Load Pdu))))
      → ((k : EntityKey) (load : Load Pdu) → IsOwnAt u node teid k load → k.ue ≢ key.ue)
      → AllByRecursion (λ (item : Item (Written (Load Pdu))). IsOwnAt u node teid item.key item.content.says) items
      → AllByRecursion (λ (item : Item (Written (Load Pdu))). item.key.ue ≢ key.ue) items
  each_apart key u node teid [] apart all = tt
  each_apart key u node teid (item ∷ items) apart all = (apart item.key item.content.says all.0, each_apart key u node teid items apart all.1)

  not_up : (x : CuUpTunnel) → is_some (up_own ue (Some x)) ≡ false → x.ue ≢ ue
  not_up x e is = true_not (sym (ap is_some (up_itself x is)) ∙ e)
    where
      true_not : true ≡ false → ⊥
      true_not h = absurd cc

  not_du : (x : DuTunnel) → is_some (du_own ue (Some x)) ≡ false → x.ue ≢ ue
  not_du x e is = true_not (sym (ap is_some (du_itself x is)) ∙ e)
    where
      true_not : true ≡ false → ⊥
      true_not h = absurd cc

  own_apart : (s : RunState) → Sound s → (key : EntityKey) → key.ue ≡ ue → (node : NodeId) (teid : ℕ) → is_its ue s.units node teid ≡ false
      → stands s node teid ≡ true → (k : EntityKey) (load : Load Pdu) → IsOwnAt s.units node teid k load → k.ue ≢ key.ue
  own_apart s sound key its (up_id gnb number) teid away there k load own same =
      by (find nat_cmp (cu_up_of s.units gnb number).tunnels teid) refl (sym there ∙ sound.standing.0 gnb number teid) away
    where
      by : (o : Option CuUpTunnel) → find nat_cmp (cu_up_of s.units gnb number).tunnels teid ≡ o → true ≡ is_some o → is_some (up_own ue o) ≡ false → ⊥
      by None e owned none = absurd cc
      by (Some x) e owned none = not_up x none (sym (own x e).0 ∙ same ∙ its)
  own_apart s sound key its (du_id gnb number) teid away there k load own same =
      by (find nat_cmp (du_of s.units gnb number).tunnels teid) refl (sym there ∙ sound.standing.1 gnb number teid) away
    where
      by : (o : Option DuTunnel) → find nat_cmp (du_of s.units gnb number).tunnels teid ≡ o → true ≡ is_some o → is_some (du_own ue o) ≡ false → ⊥
      by None e owned none = absurd cc
      by (Some x) e owned none = not_du x none (sym (own x e).0 ∙ same ∙ its)
  own_apart s sound key its (CuCp gnb) teid away there k load own same = own
  own_apart s sound key its Core teid away there k load own same = own
  own_apart s sound key its (Ue n) teid away there k load own same = own

  pub none_there : (s : RunState) → Sound s → (end : TunnelEnd) (key : EntityKey) → key.ue ≡ ue → is_its ue s.units end.node end.teid ≡ false
      → items_on s end key ≡ []
  unfolding at
  none_there s sound end key its away = by (find tunnel_cmp s.tunnels end) refl
    where
      by : (o : Option (List (Item (Written (Load Pdu))))) → find tunnel_cmp s.tunnels end ≡ o → items_of key (unwrap_or o []) ≡ []
      by None found = refl
      by (Some items) found =
          none_of key items
          (each_apart key s.units end.node end.teid items (own_apart s sound key its end.node end.teid away (ap is_some found)) (sound.tunnels end items found))

  -- ---- and so the same of the terminal stands on each tunnel

  out_of : (key : EntityKey) (o : Option (List (Item (Written (Load Pdu))))) → items_of key (unwrap_or o []) ≡ unwrap_or (option_map (items_of key) o) []
  out_of key None = refl
  out_of key (Some items) = refl

  pub items_equal : (s t : RunState) → Sound s → Sound t → Agree ue s.units t.units
      → ((end : TunnelEnd) → opens_at ue s.units end ≡ true → (key : EntityKey) → key.ue ≡ ue → stand s.tunnels end key ≡ stand t.tunnels end key)
      → (end : TunnelEnd) (key : EntityKey) → key.ue ≡ ue → items_on s end key ≡ items_on t end key
  unfolding at
  items_equal s t sound also h same end key its = by (is_its ue s.units end.node end.teid) refl
    where
      by : (b : Bool) → is_its ue s.units end.node end.teid ≡ b → items_on s end key ≡ items_on t end key
      by true owned =
          out_of key (find tunnel_cmp s.tunnels end)
          ∙ ap (λ (o : Option (List (Item (Written (Load Pdu))))). unwrap_or o []) (same end owned key its)
          ∙ sym (out_of key (find tunnel_cmp t.tunnels end))
      by false away =
          none_there s sound end key its away
          ∙ sym (none_there t also end key its (sym (its_equal s.units t.units h end.node end.teid) ∙ away))

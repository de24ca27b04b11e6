-- All radios of a terminal are lost, and it is connected in another epoch or in none.
use Rattle.std.proofs.Common.{◌≡◌, ◌==◌, ℕ, Bool, true, false, cond, ◌||◌, List, [], ◌∷◌, ◌++◌, Option, Some, None, refl, sym, ap, ◌∙◌, eqb-true, eq-eqb}
use Rattle.std.specs.Prelude.{if◌then◌else◌, is_some}
use Rattle.std.specs.Ordering.{eq_by_cmp}
use Rattle.std.specs.List.{AllByRecursion}
use Rattle.std.specs.Map.{lookup}
use Rattle.std.specs.BTreeMap.{is_at}
use Rattle.gnb_types.specs.declared.names.UeId.{UeId}
use Rattle.gnb_types.specs.declared.names.NodeId.{NodeId}
use Rattle.gnb_types.specs.declared.names.NodeId.TheVariants.{CuCp, CuUp, Du, Core, Ue}
use Rattle.gnb_types.specs.declared.keys.EntityKey.{EntityKey}
use Rattle.gnb_types.specs.declared.plans.Plan.{Plan}
use Rattle.gnb_types.specs.Orders.{ue_cmp, entity_cmp}
use Rattle.gnb_types.proofs.OrderLemmas.{ue_total, ue_exact, entity_total, entity_exact}
use Rattle.tables.specs.Tables.{find}
use Rattle.tables.proofs.TableLaws.{find-put-other, find-without, find-without-same, find-without-other}
use Rattle.transport_defs.specs.Links.{Radio, connect, emptied}
use Rattle.run_defs.specs.Said.{OnLinks}
use Rattle.run_defs.specs.States.{State, World, goes_on, ◌next◌, radio_of}
use Rattle.run_defs.specs.Units.{ue_of}
use Rattle.run_defs.specs.Steps.{radios_of, radio_lost, lose_each, lose_radios_of, lose_radios, same_epoch, epoch_on_air, epoch_now, connect_in, reconnect, reconnect_node}
use Rattle.law_downlink_scripts.proofs.wires.Links.{ties}
use Rattle.law_downlink_scripts.proofs.wires.Endings.{after_lines, as_lines, Goes, more_told, goes_map, then_line}
use Rattle.law_downlink_scripts.proofs.wires.Tunnels.{at_none}
use Rattle.law_downlink_scripts.proofs.wires.Radios.{uncarried, reconnected}
use Rattle.law_downlink_scripts.proofs.wires.Kept.{radio_at, AreSeated, radio_item, Kept, goes_lost}

abbrev is_among : EntityKey → List EntityKey → Bool
is_among q [] = false
is_among q (key ∷ keys) = eq_by_cmp entity_cmp q key || is_among q keys

-- a radio of the terminal that has an entry is one of those that are lost
entry_is_lost : {M C L P : Type 0} (world : World M C L P) (ue : UeId) (radios : List (EntityKey × Radio P)) (q : EntityKey) → q.ue ≡ ue
    → cond (is_among q (radios_of world ue radios)) None (find entity_cmp radios q) ≡ None
unfolding find
entry_is_lost world ue [] q of = refl
entry_is_lost {P = P} world ue (e ∷ es) q of =
    one (is_at (entity_cmp q) e.0) (e.0.ue.0 == ue.0) refl refl (entry_is_lost world ue es q of)
  where
    one : (t u : Bool) → is_at (entity_cmp q) e.0 ≡ t → e.0.ue.0 == ue.0 ≡ u
        → cond (is_among q (radios_of world ue es)) None (lookup (is_at (entity_cmp q)) es) ≡ None
        → cond (is_among q ((if u then e.0 ∷ [] else []) ++ radios_of world ue es)) None (cond t (Some e.1) (lookup (is_at (entity_cmp q)) es)) ≡ None
    one true true tie same rest =
        ap (λ (b : Bool). cond (b || is_among q (radios_of world ue es)) None (Some e.1)) tie
    one false true apart same rest =
        ap (λ (b : Bool). cond (b || is_among q (radios_of world ue es)) None (lookup (is_at (entity_cmp q)) es)) apart ∙ rest
    one true false tie other rest =
        let key : e.0 ≡ q = sym (entity_exact q e.0 (ties entity_cmp q e.0 tie)) in
        let number : e.0.ue.0 ≡ ue.0 = ap (λ (k : EntityKey). k.ue.0) key ∙ ap (λ (u : UeId). u.0) of in
        let same : e.0.ue.0 == ue.0 ≡ true = eq-eqb e.0.ue.0 ue.0 number in
        absurd cc
    one false false apart other rest = rest

all_of_terminal : {M C L P : Type 0} (world : World M C L P) (ue : UeId) (radios : List (EntityKey × Radio P))
    → AllByRecursion (λ (k : EntityKey). k.ue ≡ ue) (radios_of world ue radios)
all_of_terminal world ue [] = tt
all_of_terminal world ue (e ∷ es) = one (e.0.ue.0 == ue.0) refl (all_of_terminal world ue es)
  where
    one : (u : Bool) → e.0.ue.0 == ue.0 ≡ u → AllByRecursion (λ (k : EntityKey). k.ue ≡ ue) (radios_of world ue es)
        → AllByRecursion (λ (k : EntityKey). k.ue ≡ ue) ((if u then e.0 ∷ [] else []) ++ radios_of world ue es)
    one true same rest = let number : e.0.ue.0 ≡ ue.0 = eqb-true e.0.ue.0 ue.0 same in ((λ i. record { 0 = number i }), rest)
    one false other rest = rest

module _ {M C L P : Type 0} (world : World M C L P) where
  -- those radios have no entry now, and all else is as in s
  abbrev Without : State M C L P → List EntityKey → OnLinks M → State M C L P → Type 0
  Without s keys l t =
      Kept world l t × (t.connected ≡ s.connected) × (t.plans ≡ s.plans)
      × ((q : EntityKey) → find entity_cmp t.radios q ≡ cond (is_among q keys) None (find entity_cmp s.radios q))

  one_after_other : (a b : Bool) (x : Option (Radio P)) → cond b None (cond a None x) ≡ cond (a || b) None x
  one_after_other true true x = refl
  one_after_other true false x = refl
  one_after_other false b x = refl

  lost_each : (epoch : ℕ) (keys : List EntityKey) (on : OnLinks M) (s : State M C L P) → Kept world on s
      → AllByRecursion (λ (k : EntityKey). find ue_cmp s.connected k.ue ≡ Some epoch) keys
      → Goes (Without s keys) on (lose_each world epoch keys s)
  lost_each epoch [] on s k all = (tt, (k, refl, refl, λ q. refl))
  lost_each epoch (key ∷ keys) on s k all =
      let first = goes_lost world on s k epoch key all.0 in
      let lines = radio_lost world epoch key (radio_of s key).items in
      let s₁ : State M C L P = record s { radios = emptied s.radios key } in
      more_told as_lines (λ xs ys. refl) (Without s (key ∷ keys)) on lines (lose_each world epoch keys s₁) first.0
      (goes_map as_lines (Without s₁ keys) (Without s (key ∷ keys)) (after_lines on lines) (lose_each world epoch keys s₁)
      (λ l t w. (
        w.0,
        w.1,
        w.2,
        λ q. w.3 q ∙ ap (cond (is_among q keys) None) (find-without entity_total s.radios key q)
            ∙ one_after_other (eq_by_cmp entity_cmp q key) (is_among q keys) (find entity_cmp s.radios q),
      ))
      (lost_each epoch keys (after_lines on lines) s₁ first.1 all.1))

  -- nothing stands on any radio of the terminal
  abbrev pub Cleared : UeId → State M C L P → OnLinks M → State M C L P → Type 0
  Cleared ue s l t =
      Kept world l t × (t.connected ≡ s.connected) × (t.plans ≡ s.plans)
      × ((q : EntityKey) → q.ue ≡ ue → uncarried (radio_at t.radios q) ≡ [])

  all_connected : (connected : List (UeId × ℕ)) (ue : UeId) (epoch : ℕ) (keys : List EntityKey) → find ue_cmp connected ue ≡ Some epoch
      → AllByRecursion (λ (k : EntityKey). k.ue ≡ ue) keys
      → AllByRecursion (λ (k : EntityKey). find ue_cmp connected k.ue ≡ Some epoch) keys
  all_connected connected ue epoch [] is all = tt
  all_connected connected ue epoch (key ∷ keys) is all =
      (ap (find ue_cmp connected) all.0 ∙ is, all_connected connected ue epoch keys is all.1)

  pub goes_cleared : (ue : UeId) (on : OnLinks M) (s : State M C L P) → Kept world on s → Goes (Cleared ue s) on (lose_radios world ue s)
  unfolding lose_radios
  goes_cleared ue on s k = by (find ue_cmp s.connected ue) refl
    where
      by : (o : Option ℕ) → find ue_cmp s.connected ue ≡ o → Goes (Cleared ue s) on (lose_radios_of world ue o s)
      by None none = (tt, (k, refl, refl, λ q of. k.1.idle q (ap (find ue_cmp s.connected) of ∙ none)))
      by (Some epoch) is =
          goes_map as_lines (Without s (radios_of world ue s.radios)) (Cleared ue s) on (lose_each world epoch (radios_of world ue s.radios) s)
          (λ l t w. (
            w.0,
            w.1,
            w.2,
            λ q of. ap uncarried (at_none entity_cmp (record { items = []; carried = 0 }) t.radios q (w.3 q ∙ entry_is_lost world ue s.radios q of)),
          ))
          (lost_each epoch (radios_of world ue s.radios) on s k
          (all_connected s.connected ue epoch (radios_of world ue s.radios) is (all_of_terminal world ue s.radios)))

  -- ---- the terminal is connected in another epoch

  elsewhere : (connected : List (UeId × ℕ)) (ue : UeId) (epoch : Option ℕ) (u : UeId) → eq_by_cmp ue_cmp u ue ≡ false
      → find ue_cmp (connect connected ue epoch) u ≡ find ue_cmp connected u
  elsewhere connected ue None u apart = find-without-other ue_total connected ue u apart
  elsewhere connected ue (Some epoch) u apart = find-put-other ue_total connected ue epoch u apart

  seated_there : (connected : List (UeId × ℕ)) (plans : List (UeId × Plan)) (ue : UeId) (epoch : Option ℕ)
      → ((e : ℕ) → epoch ≡ Some e → find ue_cmp plans ue ≡ None → ⊥) → find ue_cmp plans ue ≡ None
      → find ue_cmp (connect connected ue epoch) ue ≡ None
  seated_there connected plans ue None has none = find-without-same ue_total connected ue
  seated_there connected plans ue (Some e) has none = absurd (has e refl none)

  pub seated_after : (connected : List (UeId × ℕ)) (plans : List (UeId × Plan)) (ue : UeId) (epoch : Option ℕ) → AreSeated connected plans
      → ((e : ℕ) → epoch ≡ Some e → find ue_cmp plans ue ≡ None → ⊥) → AreSeated (connect connected ue epoch) plans
  seated_after connected plans ue epoch seated has u none = by (eq_by_cmp ue_cmp u ue) refl
    where
      by : (t : Bool) → eq_by_cmp ue_cmp u ue ≡ t → find ue_cmp (connect connected ue epoch) u ≡ None
      by true tie =
          let same : u ≡ ue = ue_exact u ue (ties ue_cmp u ue tie) in
          ap (find ue_cmp (connect connected ue epoch)) same
          ∙ seated_there connected plans ue epoch has (ap (find ue_cmp plans) (sym same) ∙ none)
      by false apart = elsewhere connected ue epoch u apart ∙ seated u none

  pub kept_connected : (ue : UeId) (epoch : Option ℕ) (on : OnLinks M) (t : State M C L P) → Kept world on t
      → ((q : EntityKey) → q.ue ≡ ue → uncarried (radio_at t.radios q) ≡ [])
      → ((e : ℕ) → epoch ≡ Some e → find ue_cmp t.plans ue ≡ None → ⊥) → Kept world on (connect_in world ue epoch t)
  kept_connected ue epoch on t k clear has = (
    k.0,
    reconnected (radio_item world) on.items (radio_at t.radios) (find ue_cmp t.connected) _ ue k.1 clear (elsewhere t.connected ue epoch),
    k.2,
    seated_after t.connected t.plans ue epoch k.3 has,
  )

  -- one that is connected was attached
  on_air_seated : (s : State M C L P) (ue : UeId) (e : ℕ) → epoch_now world s ue ≡ Some e → find ue_cmp s.plans ue ≡ None → ⊥
  on_air_seated s ue e is none =
      let off : epoch_now world s ue ≡ None =
      ap (λ (o : Option Plan). if is_some o then epoch_on_air world (ue_of s.units ue) else None) none in
      absurd cc

  pub goes_reconnected : (ue : UeId) (on : OnLinks M) (s : State M C L P) → Kept world on s → Goes (Kept world) on (reconnect world ue s)
  goes_reconnected ue on s k = by (same_epoch world (find ue_cmp s.connected ue) (epoch_now world s ue))
    where
      by : (t : Bool) → Goes (Kept world) on (if t then goes_on s else (lose_radios world ue s next (λ t. goes_on (connect_in world ue (epoch_now world s ue) t))))
      by true = (tt, k)
      by false =
          then_line (Kept world) (Cleared ue s) on (lose_radios world ue s) (λ t. goes_on (connect_in world ue (epoch_now world s ue) t))
          (goes_cleared ue on s k)
          (λ l t c. (
            tt,
            kept_connected ue (epoch_now world s ue) l t c.0 c.3
                (λ e is none. on_air_seated s ue e is (ap (λ (plans : List (UeId × Plan)). find ue_cmp plans ue) (sym c.2) ∙ none)),
          ))

  pub goes_reconnected_node : (node : NodeId) (on : OnLinks M) (s : State M C L P) → Kept world on s
      → Goes (Kept world) on (reconnect_node world node s)
  goes_reconnected_node (Ue ue) on s k = goes_reconnected (record { 0 = ue }) on s k
  goes_reconnected_node (CuCp gnb) on s k = (tt, k)
  goes_reconnected_node (CuUp gnb number) on s k = (tt, k)
  goes_reconnected_node (Du gnb number) on s k = (tt, k)
  goes_reconnected_node Core on s k = (tt, k)

-- What an accepted event changes.
use Rattle.std.proofs.Common.{◌≡◌, ◌==◌, ◌≤◌, ℕ, Bool, true, false, cond, List, [], ◌∷◌, ◌++◌, Option, Some, None, refl, ap, sym, ◌∙◌, subst, true≢false, eqb-true, eq-eqb}
use Rattle.std.specs.Prelude.{slice_get, is_some}
use Rattle.std.proofs.lemmas.Grind.{flat_map-append}
use Rattle.std.specs.Ordering.{eq_by_cmp, is_eq}
use Rattle.std.specs.Cmp.{Equal-is, tied_itself, both_ways}
use Rattle.gnb_types.specs.declared.names.UeId.{UeId}
use Rattle.gnb_types.specs.declared.keys.EntityKey.{EntityKey}
use Rattle.gnb_types.specs.declared.plans.Plan.{Plan}
use Rattle.gnb_types.specs.Orders.{ue_cmp, entity_cmp}
use Rattle.gnb_types.proofs.OrderLemmas.{ue_total, ue_exact, entity_total}
use Rattle.link_defs.specs.Decoding.{Item as Says}
use Rattle.scenario_text.specs.declared.event.Event.{Event}
use Rattle.scenario_text.specs.declared.line.Link.{Link}
use Rattle.scenario_text.specs.declared.line.Item.{Item}
use Rattle.tables.specs.Tables.{find, put, at}
use Rattle.tables.proofs.TableLaws.{find-put}
use Rattle.transcript_defs.specs.Past.{plan_at, offer_at, plans, offered}
use Rattle.transcript_defs.specs.Packets.{LaidOut}
use Rattle.transcript_check.specs.declared.index.accepted.Accepted.{Accepted}
use Rattle.transcript_check.specs.inside.Accepted.{AreAccepted, AcceptsEvent, SetsPlan, AddsOffer, first_or, ReadsAs}
use Rattle.transcript_check.proofs.TableMore.{at_none, at_some, find_tied, put_changes}

-- ---- one event more

get_first : (xs ys : List Plan) → slice_get (xs ++ ys) 0 ≡ first_or (slice_get xs 0) (slice_get ys 0)
get_first [] ys = refl
get_first (x ∷ xs) ys = refl

append_none : {A : Type 0} (xs : List A) → xs ++ [] ≡ xs
append_none [] = refl
append_none (x ∷ xs) = ap (λ ys. x ∷ ys) (append_none xs)

pub accepts_event : (happened : List Event) (event : Event) (old new : Accepted) → AcceptsEvent event old new → AreAccepted happened old
    → AreAccepted (happened ++ event ∷ []) new
unfolding plans offered
accepts_event happened event old new accepts are = record {
  set = λ ue.
      accepts.set ue
      ∙ ap (λ (x : Option Plan). first_or x (slice_get (plan_at ue event) 0)) (are.set ue)
      ∙ sym (get_first (plans ue happened) (plan_at ue event))
      ∙ ap (λ (xs : List Plan). slice_get (plans ue happened ++ xs) 0) (sym (append_none (plan_at ue event)))
      ∙ ap (λ (xs : List Plan). slice_get xs 0) (sym (flat_map-append (plan_at ue) happened (event ∷ [])));
  offers = λ key.
      accepts.offers key
      ∙ ap (λ (xs : List (List ℕ)). xs ++ offer_at key event) (are.offers key)
      ∙ ap (λ (xs : List (List ℕ)). offered key happened ++ xs) (sym (append_none (offer_at key event)))
      ∙ sym (flat_map-append (offer_at key) happened (event ∷ []));
}

pub none_accepted : (accepted : Accepted) → accepted.plans ≡ [] → accepted.offers ≡ [] → AreAccepted [] accepted
unfolding plans offered find at
none_accepted accepted no_plans no_offers = record {
  set = λ ue. ap (λ (m : List (UeId × Plan)). find ue_cmp m ue) no_plans;
  offers = λ key. ap (λ (m : List (EntityKey × List (List ℕ))). at entity_cmp [] m key) no_offers;
}

-- ---- plans

same_ue : (a b : UeId) → eq_by_cmp ue_cmp a b ≡ (b.0 == a.0)
same_ue a b =
    both_ways (eq_by_cmp ue_cmp a b) (b.0 == a.0)
    (λ e. eq-eqb b.0 a.0 (sym (ap (λ (u : UeId). u.0) (ue_exact a b ((Equal-is (ue_cmp a b)).0 e)))))
    (λ e. let same : a ≡ b = ap (λ (n : ℕ). let u : UeId = record { 0 = n } in u) (sym (eqb-true b.0 a.0 e)) in
    subst (λ (u : UeId). eq_by_cmp ue_cmp a u ≡ true) same (ap is_eq (tied_itself ue_total a)))

module _ (plan : Plan) (old : List (UeId × Plan)) where
  put_one : is_some (find ue_cmp old plan.ue) ≡ false → (ue : UeId) (b : Bool) → eq_by_cmp ue_cmp ue plan.ue ≡ b
      → cond b (Some plan) (find ue_cmp old ue) ≡ first_or (find ue_cmp old ue) (cond b (Some plan) None)
  put_one none ue true tie =
      by (find ue_cmp old ue)
      (subst (λ (x : Option Plan). is_some x ≡ false) (sym (find_tied ue_total old ue plan.ue ((Equal-is (ue_cmp ue plan.ue)).0 tie))) none)
    where
      by : (x : Option Plan) → is_some x ≡ false → Some plan ≡ first_or x (Some plan)
      by None some = refl
      by (Some p) some = absurd (true≢false some)
  put_one none ue false tie = by (find ue_cmp old ue)
    where
      by : (x : Option Plan) → x ≡ first_or x None
      by None = refl
      by (Some p) = refl

  pub plan_put : (new : List (UeId × Plan)) → is_some (find ue_cmp old plan.ue) ≡ false → new ≡ put ue_cmp old plan.ue plan → SetsPlan plan old new
  plan_put new none becomes ue =
      ap (λ (m : List (UeId × Plan)). find ue_cmp m ue) becomes
      ∙ find-put ue_total old plan.ue plan ue
      ∙ put_one none ue (eq_by_cmp ue_cmp ue plan.ue) refl
      ∙ ap (λ (b : Bool). first_or (find ue_cmp old ue) (cond b (Some plan) None)) (same_ue ue plan.ue)

-- ---- offers

pub offer_first : (key : EntityKey) (packet : List ℕ) (old new : List (EntityKey × List (List ℕ))) (packets : List (List ℕ))
    → find entity_cmp old key ≡ None → packets ≡ packet ∷ [] → new ≡ put entity_cmp old key packets → AddsOffer key packet old new
offer_first key packet old new packets none is becomes other =
    ap (λ (m : List (EntityKey × List (List ℕ))). at entity_cmp [] m other) becomes
    ∙ put_changes entity_total (λ xs. xs ++ packet ∷ []) [] old key packets
    (is ∙ ap (λ (xs : List (List ℕ)). xs ++ packet ∷ []) (sym (at_none entity_cmp [] old key none))) other

pub offer_more : (key : EntityKey) (packet : List ℕ) (old : List (EntityKey × List (List ℕ))) (before packets : List (List ℕ))
    → find entity_cmp old key ≡ Some before → packets ≡ before ++ packet ∷ [] → AddsOffer key packet old (put entity_cmp old key packets)
offer_more key packet old before packets some is other =
    put_changes entity_total (λ xs. xs ++ packet ∷ []) [] old key packets
    (is ∙ ap (λ (xs : List (List ℕ)). xs ++ packet ∷ []) (sym (at_some entity_cmp [] old key before some))) other

-- ---- readings

module _ (happened : List Event) (accepted : Accepted) (link : Link) (item : Item) where
  pub reads_so : (plan : Plan) (says : Says) → Some plan ≡ find ue_cmp accepted.plans item.ue → item.bearer.0 ≤ plan.bearers
      → LaidOut link item.dir plan.sn says item.bytes → AreAccepted happened accepted → ReadsAs happened link item plan.sn says
  reads_so plan says found within laid are = record {
    reading = record { plan = plan; is_set = sym (found ∙ are.set item.ue); has_bearer = within; says = says; laid_out = laid };
    sn_is = refl;
    says_is = refl;
  }

-- What happens to a bearer is kept orders of its downlink, after which the model has what the CU-UPs have.
use Rattle.std.proofs.Common.{inl, inr, ◌≡◌, ◌≢◌, ℕ, ◌==◌, Bool, true, false, if◌then◌else◌, List, [], ◌∷◌, ◌++◌, Option, Some, None, refl, sym, ap, subst, ◌∙◌, eqb-true, arith}
use Rattle.std.specs.Prelude.{⊤}
use Rattle.gnb_types.specs.declared.names.SnBits.{SnBits}
use Rattle.gnb_types.specs.declared.names.UeId.{UeId}
use Rattle.gnb_types.specs.declared.names.BearerId.{BearerId}
use Rattle.pdcp_defs.specs.Receivers.{Delivery, is_duplicate, stored, deliver}
use Rattle.unit_defs.specs.CuUpRecords.{CuUpBearer, CuUpFlags, TunnelKind, f1u_uplink, forwarding_up}
use Rattle.unit_defs.specs.CuUpBearers.{with_uplink, switched, frozen_to, with_status, resumed, framed}
use Rattle.unit_defs.specs.CuUpItems.{took}
use Rattle.gnb_types.specs.declared.outputs.Tag.TheVariants.{Absent}
use Rattle.unit_defs.specs.Ways.{packet_content, Taken, numbered_item, uplink_item, end_item, Way, Answer, gives, spent}
use Rattle.bearer_defs.specs.chain_defs.Models.{Item, fresh, end_marker, Member, Model, set, new_member}
use Rattle.bearer_defs.specs.chain_defs.Orders.{ModelStep, offers, switches_path, makes, freezes, closes, arrives, fails, carries, handed, after, run}
use Rattle.bearer_defs.specs.chain_defs.Assumptions.{IsReady, IsAssumed, AreKept}
use Rattle.law_downlink_order.proofs.chain.Control.{target_apart}
use Rattle.law_downlink_order.proofs.chain.Frames.{apart, set_far}
use Rattle.proof_cu_up_orders.specs.context_orders.Orders.{CuUpModel, ContextStep, on_switch, on_freeze, on_status, on_resume, kept_in, begun, done, carried_out}
use Rattle.proof_cu_up_orders.specs.context_orders.Orders as ups
use Rattle.proof_cu_up_orders.specs.context_tests.Tests.{IsTested}
use Rattle.proof_cu_up_orders.specs.down_orders.Down.{down_of, item_orders, control_orders, IsAsked, IsOfUplink, Shows, new_model, ShowsFrozen}
use Rattle.proof_cu_up_orders.proofs.down_orders.Beside.{beside, made_down}
use Rattle.proof_cu_up_orders.proofs.down_orders.Control.{control_shows, freeze_shows}
use Rattle.proof_cu_up_orders.proofs.down_orders.Items.{item_one}
use Rattle.proof_cu_up_orders.specs.kept.Down.{ControlAssumes}
use Rattle.proof_cu_up_orders.proofs.kept.Down.{item_kept, control_kept, freeze_kept, end_is, end_kept}
use Rattle.proof_cu_up_orders.specs.bearer_orders.Happenings.{Beside, Happening, asks, down_by, up_by, Contexts, kept_of, context_after, contexts_after}
use Rattle.proof_cu_up_orders.specs.bearer_orders.Down.{hop_to, orders_of, orders_anew, orders_in, orders_by, IsIn, Has, AsksItem, Asks, AsksAnew, AsksIn, IsOthers, IsGiven, AsksBy, AllAsk, all_orders}

pub not_same : (y x : ℕ) → (y == x) ≡ false → y ≢ x
not_same y x e same = apart (subst (λ z. (y == z) ≡ true) same (grind arith)) e

-- ---- lists of orders

run_more : (s : Model) (os more : List ModelStep) → run s (os ++ more) ≡ run (run s os) more
unfolding run
run_more s [] more = refl
run_more s (o ∷ os) more = run_more (after s o) os more

kept_more : (sn : SnBits) (quota : ℕ) (s : Model) (os more : List ModelStep) → AreKept sn quota s os → AreKept sn quota (run s os) more
    → AreKept sn quota s (os ++ more)
unfolding AreKept run
kept_more sn quota s [] more h k = k
kept_more sn quota s (o ∷ os) more h k = (h.0, h.1, kept_more sn quota (after s o) os more h.2 k)

-- ---- a member that keeps what the bearer is

record IsLike (m n : Member) : Type 0 where
  pub there : n.is_there ≡ m.is_there
  pub flags : n.flags ≡ m.flags
  pub bearer : n.bearer ≡ m.bearer

like_same : (m n : Member) → n ≡ m → IsLike m n
like_same m n e = record { there = ap (λ k. k.is_there) e; flags = ap (λ k. k.flags) e; bearer = ap (λ k. k.bearer) e }

like_set : (f : ℕ → Member) (k : ℕ) (n : Member) → IsLike (f k) n → (y : ℕ) → IsLike (f y) (set f k n y)
like_set f k n l y = by (y == k) refl
  where
    by : (t : Bool) → (y == k) ≡ t → IsLike (f y) (if t then n else f y)
    by true e = subst (λ z. IsLike (f z) n) (sym (eqb-true y k e)) l
    by false e = record { there = refl; flags = refl; bearer = refl }

-- an item of the uplink is no order of the downlink
no_orders : {P : Type 0} (x : ℕ) (p : CuUpModel) (rest : List Item) (kind : TunnelKind) (item : Taken P) → IsOfUplink kind item → item_orders x p rest kind item ≡ []
no_orders x p rest f1u_uplink (uplink_item (packet_content count packet)) h = refl
no_orders x p rest f1u_uplink end_item h = refl
no_orders x p rest forwarding_up (numbered_item count packet) h = refl
no_orders x p rest forwarding_up end_item h = refl
no_orders x p rest kind item h = absurd h

module _ {M C P : Type 0} (way : Way M C P) (ue : UeId) (bearer : BearerId) (sn : SnBits) (quota : ℕ) where
  in_like : (m n : Member) → IsLike m n → (o : Option CuUpModel) → IsIn sn quota m o → IsIn sn quota n o
  in_like m n l None h = l.there ∙ h
  in_like m n l (Some p) (is, sn_is, quota_is) = (
    record { there = l.there ∙ is.there; flags = l.flags ∙ is.flags; bearer = ap (λ (b : CuUpBearer). down_of b) l.bearer ∙ is.bearer },
    sn_is,
    quota_is,
  )

  -- one context changes
  put_in : (s t : Model) (cs : Contexts) (x : ℕ) (o : Option CuUpModel) → Has sn quota s cs → IsIn sn quota (t.members x) o
      → ((y : ℕ) → y ≢ x → IsLike (s.members y) (t.members y)) → Has sn quota t (set cs x o)
  put_in s t cs x o has here others y = by (y == x) refl
    where
      by : (b : Bool) → (y == x) ≡ b → IsIn sn quota (t.members y) (if b then o else cs y)
      by true e = subst (λ z. IsIn sn quota (t.members z) o) (sym (eqb-true y x e)) here
      by false e = in_like (s.members y) (t.members y) (others y (not_same y x e)) (cs y) (has y)

  -- ---- rows leave the length of numbers and the quota

  abbrev AtKept : CuUpModel → Answer M P (Option CuUpModel) → Type 0
  AtKept p (gives outputs None) = ⊤
  AtKept p (gives outputs (Some q)) = (q.at.sn ≡ p.at.sn) × (q.at.quota ≡ p.at.quota)
  AtKept p (spent counter) = ⊤

  kept_at : (p q : CuUpModel) → q.at.sn ≡ p.at.sn → q.at.quota ≡ p.at.quota → (a : Answer M P CuUpBearer) → AtKept p (kept_in q a)
  kept_at p q e f (gives outputs b) = (e, f)
  kept_at p q e f (spent counter) = tt

  done_at : (p : CuUpModel) (order : ContextStep P) → AtKept p (done way order p)
  done_at p (ups.makes instance its_sn its_quota target teid) = (refl, refl)
  done_at p (ups.adds teid) = kept_at p p refl refl (with_uplink way teid p.bearer)
  done_at p (ups.switches du teid) = kept_at p (on_switch p) refl refl (switched way (on_switch p).at du teid p.bearer)
  done_at p (ups.freezes peer down up) = kept_at p (on_freeze p) refl refl (frozen_to way (on_freeze p).at peer down up p.bearer)
  done_at p (ups.knows status) = kept_at p (on_status p) refl refl (with_status way (on_status p).at status p.bearer)
  done_at p ups.resumes = kept_at p (on_resume p) refl refl (resumed way (on_resume p).at p.bearer)
  done_at p ups.releases = (refl, refl)
  done_at p ups.closes = tt
  done_at p (ups.takes kind teid item) = kept_at p p refl refl (took way p.at kind teid item p.bearer)
  done_at p ups.polls = kept_at p p refl refl (framed way p.at true false None Absent p.bearer)

  module _ (s : Model) (cs : Contexts) (has : Has sn quota s cs) (x : ℕ) where
    -- ---- a context that is there

    module _ (p : CuUpModel) (is : IsIn sn quota (s.members x) (Some p)) where
      -- what the row's answer says of the bearer is so in the model
      shown_in : (t : Model) (a : Answer M P (Option CuUpModel)) → IsGiven a → Shows way s t x a → AtKept p a
          → Has sn quota t (set cs x (kept_of (Some p) a))
      shown_in t (gives outputs None) given shown at = absurd shown
      shown_in t (gives outputs (Some q)) given shown at =
          let w = shown.went in
          put_in s t cs x (Some q) has (
            record {
              there = ap (λ k. k.is_there) w.here ∙ shown.is.there;
              flags = ap (λ k. k.flags) w.here ∙ shown.is.flags;
              bearer = ap (λ k. down_of k.bearer) w.here ∙ shown.is.bearer;
            },
            at.0 ∙ is.1,
            at.1 ∙ is.2,
          )
          (λ y far. record {
            there = ap (λ k. k.is_there) (w.others y far);
            flags = ap (λ k. k.flags) (w.others y far);
            bearer = ap (λ k. k.bearer) (w.others y far);
          })
      shown_in t (spent counter) given shown at = absurd given

      frozen_in : (t : Model) (to promised : ℕ) (a : Answer M P (Option CuUpModel)) → IsGiven a → ShowsFrozen s t x to promised a → AtKept p a
          → Has sn quota t (set cs x (kept_of (Some p) a))
      frozen_in t to promised (gives outputs None) given shown at = absurd shown
      frozen_in t to promised (gives outputs (Some q)) given shown at =
          let w = shown.froze in
          put_in s t cs x (Some q) has (
            record {
              there = ap (λ k. k.is_there) w.here ∙ shown.is.there;
              flags = ap (λ k. k.flags) w.here ∙ shown.is.flags;
              bearer = ap (λ k. down_of k.bearer) w.here ∙ shown.is.bearer;
            },
            at.0 ∙ is.1,
            at.1 ∙ is.2,
          )
          (λ y far. by_target y far (y == to) refl)
        where
          by_target : (y : ℕ) → y ≢ x → (b : Bool) → (y == to) ≡ b → IsLike (s.members y) (t.members y)
          by_target y far true e = subst (λ z. IsLike (s.members z) (t.members z)) (sym (eqb-true y to e)) (record {
            there = ap (λ k. k.is_there) shown.froze.target;
            flags = ap (λ k. k.flags) shown.froze.target;
            bearer = ap (λ k. k.bearer) shown.froze.target;
          })
          by_target y far false e = like_same (s.members y) (t.members y) (shown.froze.others y far (not_same y to e))
      frozen_in t to promised (spent counter) given shown at = absurd given

      here_kept : (os : List ModelStep) → AreKept p.at.sn p.at.quota s os → AreKept sn quota s os
      here_kept os h = subst (λ n. AreKept sn n s os) is.2 (subst (λ l. AreKept l p.at.quota s os) is.1 h)

      abbrev Comes : List ModelStep → ContextStep P → Type 0
      Comes os order = AreKept sn quota s os × Has sn quota (run s os) (set cs x (kept_of (Some p) (done way order p)))

      control_step : (b : Beside) (order : ContextStep P) → IsGiven (done way order p)
          → (p.at.flags.frozen ≡ true → p.at.flags.may_serve ≡ true) → IsTested b.final p order → IsAsked p order → ControlAssumes s x b.epoch order
          → Comes (control_orders x b.epoch p order) order
      control_step b order given known tested asked assumed = (
        here_kept (control_orders x b.epoch p order) (control_kept s x p is.0 known b.epoch b.final order tested asked assumed),
        shown_in (run s (control_orders x b.epoch p order)) (done way order p) given (control_shows way s x p is.0 b.epoch order asked) (done_at p order),
      )

      step_of : (b : Beside) (order : ContextStep P) → IsGiven (done way order p) → Asks s x b p order → Comes (orders_of x b p order) order
      unfolding AreKept run IsAssumed
      step_of b (ups.takes kind teid item) given (stands, passes, its) = by its
        where
          order : ContextStep P
          order = ups.takes kind teid item

          by : AsksItem s x b p kind item → Comes (item_orders x p b.left_down kind item) order
          by (inl ups_) = subst (λ os. Comes os order) (sym (no_orders x p b.left_down kind item ups_))
              (tt, shown_in s (done way order p) given (beside way s x p is.0 kind teid item ups_) (done_at p order))
          by (inr (fit, first, assumed)) = (
            here_kept (item_orders x p b.left_down kind item) (item_kept s x p is.0 stands kind item b.left_down fit passes first assumed),
            shown_in (run s (item_orders x p b.left_down kind item)) (done way order p) given
                (item_one way s x p is.0 stands kind teid item b.left_down fit) (done_at p order),
          )
      step_of b (ups.freezes peer down up) given (free, assumed) =
          let os : List ModelStep = freezes x b.to (hop_to peer down up) ∷ [] in (
            here_kept os (freeze_kept s x p is.0 free.0 free.3 b.to (hop_to peer down up) assumed),
            frozen_in (run s os) b.to p.bearer.sender.next (done way (ups.freezes peer down up) p) given
                (freeze_shows way s x p is.0 b.to peer down up
                (target_apart s x b.to (ap (λ (f : CuUpFlags). f.may_serve) is.0.flags ∙ free.3) assumed.2)) (done_at p (ups.freezes peer down up)),
          )
      step_of b ups.closes given assumed =
          let ended = end_is s x in (
            end_kept sn quota s x assumed,
            put_in s (run s (closes x ∷ [])) cs x None has (ap (λ k. k.is_there) ended.here)
                (λ y far. like_same (s.members y) ((run s (closes x ∷ [])).members y) (ended.others y far)),
          )
      step_of b (ups.makes instance its_sn its_quota target teid) given asked =
          (tt, put_in s s cs x (Some p) has is (λ y far. like_same (s.members y) (s.members y) refl))
      step_of b (ups.adds teid) given (known, tested, asked, assumed) = control_step b (ups.adds teid) given known tested asked assumed
      step_of b (ups.switches du teid) given (known, tested, asked, assumed) = control_step b (ups.switches du teid) given known tested asked assumed
      step_of b (ups.knows status) given (known, tested, asked, assumed) = control_step b (ups.knows status) given known tested asked assumed
      step_of b ups.resumes given (known, tested, asked, assumed) = control_step b ups.resumes given known tested asked assumed
      step_of b ups.releases given (known, tested, asked, assumed) = control_step b ups.releases given known tested asked assumed
      step_of b ups.polls given (known, tested, asked, assumed) = control_step b ups.polls given known tested asked assumed

    -- ---- there is none

    none_made : (absent : (s.members x).is_there ≡ false) → AreKept sn quota s [] × Has sn quota (run s []) (set cs x None)
    unfolding AreKept run
    none_made absent = (tt, put_in s s cs x None has absent (λ y far. like_same (s.members y) (s.members y) refl))

    step_anew : (absent : (s.members x).is_there ≡ false) (order : ContextStep P) → AsksAnew sn quota s x order
        → AreKept sn quota s (orders_anew x order) × Has sn quota (run s (orders_anew x order)) (set cs x (begun ue bearer order))
    unfolding AreKept IsReady run after
    step_anew absent (ups.makes instance its_sn its_quota target teid) (e, f, assumed) = (
      (absent, assumed, tt),
      put_in s (run s (makes x target teid ∷ [])) cs x (Some (new_model ue bearer instance its_sn its_quota target teid)) has
          (made_down s x ue bearer instance its_sn its_quota target teid, e, f)
          (λ y far. like_same (s.members y) (set s.members x (new_member target teid) y) (set_far s.members x (new_member target teid) y far)),
    )
    step_anew absent _ asked = none_made absent

    step_in : (b : Beside) (order : ContextStep P) (o : Option CuUpModel) → IsIn sn quota (s.members x) o → IsGiven (carried_out way ue bearer order o)
        → AsksIn sn quota s x b o order
        → AreKept sn quota s (orders_in x b o order) × Has sn quota (run s (orders_in x b o order)) (set cs x (kept_of o (carried_out way ue bearer order o)))
    step_in b order None is given asked = step_anew is order asked
    step_in b order (Some p) is given asked = step_of p is b order given asked

  -- ---- an order of others

  others_like : (s : Model) (o : ModelStep) → IsOthers o → (y : ℕ) → IsLike (s.members y) ((after s o).members y)
  unfolding after
  others_like s (offers packet) h y = like_set s.members s.path (record (s.members s.path) { n3 = (s.members s.path).n3 ++ fresh packet ∷ [] })
      (record { there = refl; flags = refl; bearer = refl }) y
  others_like s (switches_path to) h y = like_set s.members s.path (record (s.members s.path) { n3 = (s.members s.path).n3 ++ end_marker ∷ [] })
      (record { there = refl; flags = refl; bearer = refl }) y
  others_like s (arrives x) h y = like_same (s.members y) (s.members y) refl
  others_like s fails h y = like_same (s.members y) (s.members y) refl
  others_like s (carries count packet rest) h y = by (is_duplicate s.terminal count) (deliver (stored s.terminal count packet))
    where
      by : (b : Bool) (d : Delivery (List ℕ)) → IsLike (s.members y) ((handed (record s { air = rest }) b d).members y)
      by true d = record { there = refl; flags = refl; bearer = refl }
      by false d = record { there = refl; flags = refl; bearer = refl }
  others_like s o h y = absurd h

  step_by : (s : Model) (cs : Contexts) → Has sn quota s cs → (h : Happening P) → AsksBy way ue bearer sn quota s cs h
      → AreKept sn quota s (orders_by cs h) × Has sn quota (run s (orders_by cs h)) (context_after way ue bearer cs h)
  unfolding AreKept run
  step_by s cs has (asks x order b) (given, asked) = step_in s cs has x b order (cs x) (has x) given asked
  step_by s cs has (down_by o) (of_others, ready, assumed) =
      ((ready, assumed, tt), λ y. in_like (s.members y) ((after s o).members y) (others_like s o of_others y) (cs y) (has y))
  step_by s cs has (up_by o) asked = (tt, has)

  pub all_steps : (s : Model) (cs : Contexts) (hs : List (Happening P)) → Has sn quota s cs → AllAsk way ue bearer sn quota s cs hs
      → AreKept sn quota s (all_orders way ue bearer sn quota cs hs)
      × Has sn quota (run s (all_orders way ue bearer sn quota cs hs)) (contexts_after way ue bearer cs hs)
  unfolding AllAsk all_orders contexts_after AreKept run
  all_steps s cs [] has asked = (tt, has)
  all_steps s cs (h ∷ hs) has asked =
      let one = step_by s cs has h asked.0 in
      let next = context_after way ue bearer cs h in
      let more = all_steps (run s (orders_by cs h)) next hs one.1 asked.1 in
      let later = all_orders way ue bearer sn quota next hs in (
        kept_more sn quota s (orders_by cs h) later one.0 more.0,
        subst (λ t. Has sn quota t (contexts_after way ue bearer next hs)) (sym (run_more s (orders_by cs h) later)) more.1,
      )

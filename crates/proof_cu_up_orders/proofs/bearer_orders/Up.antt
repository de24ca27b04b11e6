-- What happens to a bearer is kept orders of its uplink, after which the model has what the CU-UPs have.
use Rattle.std.proofs.Common.{inl, inr, ◌≡◌, ◌≢◌, ℕ, ◌==◌, ◌&&◌, ◌||◌, Bool, true, false, if◌then◌else◌, List, [], ◌∷◌, ◌++◌, Option, Some, None, refl, sym, ap, subst, ◌∙◌, true≢false, eqb-true}
use Rattle.gnb_types.specs.declared.names.UeId.{UeId}
use Rattle.gnb_types.specs.declared.names.BearerId.{BearerId}
use Rattle.gnb_types.specs.declared.plans.SnStatus.{SnStatus}
use Rattle.unit_defs.specs.CuUpRecords.{CuUpBearer, CuUpFlags, TunnelKind, n3, f1u_uplink, forwarding_down, forwarding_up}
use Rattle.unit_defs.specs.CuUpBearers.{is_over}
use Rattle.unit_defs.specs.Ways.{packet_content, report_content, Taken, fresh_item, numbered_item, uplink_item, status_item, end_item, Way, Answer, gives, spent}
use Rattle.bearer_defs.specs.chain_defs.Models.{set}
use Rattle.bearer_defs.specs.uplink_defs.Models.{Item, numbered, end_marker, Member, Model, new_member}
use Rattle.bearer_defs.specs.uplink_defs.Orders.{ModelStep, offers, numbers, connects, leaves, arrives, carries, acknowledges, reports, marks, makes, freezes, knows, resumes, closes, discards, after, run}
use Rattle.bearer_defs.specs.uplink_defs.Assumptions.{IsReady, IsAssumed, AreKept}
use Rattle.law_downlink_order.proofs.chain.Frames.{apart, set_far}
use Rattle.proof_cu_up_orders.specs.context_orders.Orders.{CuUpModel, ContextStep, begun, done, carried_out}
use Rattle.proof_cu_up_orders.specs.context_orders.Orders as ups
use Rattle.proof_cu_up_orders.specs.context_tests.Tests.{IsTested}
use Rattle.law_uplink_order.specs.after_release.Silent.{AreSilent}
use Rattle.proof_cu_up_orders.specs.orders.Up.{up_of, IsUp, item_orders, control_orders, IsAsked, IsOfDownlink, Shows, new_model, ShowsFrozen}
use Rattle.proof_cu_up_orders.proofs.orders.Beside.{beside, polled, made_up}
use Rattle.proof_cu_up_orders.proofs.orders.Control.{control_shows, freeze_shows}
use Rattle.proof_cu_up_orders.proofs.orders.Items.{item_one}
use Rattle.proof_cu_up_orders.specs.kept.Up.{ControlAssumes, Ended}
use Rattle.proof_cu_up_orders.proofs.kept.Up.{item_kept, control_kept, freeze_kept, close_kept, end_is, discard_is, discard_kept}
use Rattle.proof_cu_up_orders.proofs.kept.Released.{silent_together}
use Rattle.proof_cu_up_orders.specs.bearer_orders.Happenings.{Beside, Happening, asks, down_by, up_by, Contexts, kept_of, context_after, contexts_after}
use Rattle.proof_cu_up_orders.specs.bearer_orders.Down.{hop_to, IsGiven}
use Rattle.proof_cu_up_orders.specs.bearer_orders.Up.{is_done, end_of, orders_of, orders_anew, orders_in, orders_by, IsIn, Has, AsksItem, Asks, AsksAnew, AsksIn, IsOthers, IsHushed, IsHushedIn, IsHushedBy, AsksBy, AllAsk, all_orders, AllHushed}
use Rattle.proof_cu_up_orders.proofs.bearer_orders.Down.{not_same}

-- ---- lists of orders

run_more : (s : Model) (os more : List ModelStep) → run s (os ++ more) ≡ run (run s os) more
unfolding run
run_more s [] more = refl
run_more s (o ∷ os) more = run_more (after s o) os more

kept_more : (s : Model) (os more : List ModelStep) → AreKept s os → AreKept (run s os) more → AreKept s (os ++ more)
unfolding AreKept run
kept_more s [] more h k = k
kept_more s (o ∷ os) more h k = (h.0, h.1, kept_more (after s o) os more h.2 k)

-- ---- a member that keeps what the bearer is

record IsLike (m n : Member) : Type 0 where
  pub there : n.is_there ≡ m.is_there
  pub flags : n.flags ≡ m.flags
  pub bearer : n.bearer ≡ m.bearer

like_same : (m n : Member) → n ≡ m → IsLike m n
like_same m n e = record { there = ap (λ k. k.is_there) e; flags = ap (λ k. k.flags) e; bearer = ap (λ k. k.bearer) e }

like_set : (f : ℕ → Member) (k : ℕ) (n : Member) → IsLike (f k) n → (y : ℕ) → IsLike (f y) (set f k n y)
like_set f k n l y = by (y == k) refl
  where
    by : (t : Bool) → (y == k) ≡ t → IsLike (f y) (if t then n else f y)
    by true e = subst (λ z. IsLike (f z) n) (sym (eqb-true y k e)) l
    by false e = record { there = refl; flags = refl; bearer = refl }

in_like : (m n : Member) → IsLike m n → (o : Option CuUpModel) → IsIn m o → IsIn n o
in_like m n l None h = l.there ∙ h
in_like m n l (Some p) is =
    record { there = l.there ∙ is.there; flags = l.flags ∙ is.flags; bearer = ap (λ (b : CuUpBearer). up_of b) l.bearer ∙ is.bearer }

-- one context changes
put_in : (s t : Model) (cs : Contexts) (x : ℕ) (o : Option CuUpModel) → Has s cs → IsIn (t.members x) o
    → ((y : ℕ) → y ≢ x → IsLike (s.members y) (t.members y)) → Has t (set cs x o)
put_in s t cs x o has here others y = by (y == x) refl
  where
    by : (b : Bool) → (y == x) ≡ b → IsIn (t.members y) (if b then o else cs y)
    by true e = subst (λ z. IsIn (t.members z) o) (sym (eqb-true y x e)) here
    by false e = in_like (s.members y) (t.members y) (others y (not_same y x e)) (cs y) (has y)

-- an item of the downlink is no order of the uplink
no_orders : {P : Type 0} (x : ℕ) (rest : List Item) (kind : TunnelKind) (teid : ℕ) (item : Taken P) → IsOfDownlink kind item
    → item_orders x rest kind teid item ≡ []
no_orders x rest n3 teid (fresh_item packet) h = refl
no_orders x rest n3 teid end_item h = refl
no_orders x rest forwarding_down teid (fresh_item packet) h = refl
no_orders x rest forwarding_down teid (numbered_item count packet) h = refl
no_orders x rest forwarding_down teid end_item h = refl
no_orders x rest f1u_uplink teid (uplink_item (report_content fmc bits)) h = refl
no_orders x rest f1u_uplink teid (status_item lost delivered) h = refl
no_orders x rest kind teid item h = absurd h

done_over : (r o : Bool) → r && o ≡ true → (r ≡ true) × (o ≡ true)
done_over true true e = (refl, refl)
done_over true false e = absurd cc
done_over false o e = absurd cc

module _ {M C P : Type 0} (way : Way M C P) (ue : UeId) (bearer : BearerId) where
  module _ (s : Model) (cs : Contexts) (has : Has s cs) (x : ℕ) where
    -- ---- a context that is there

    module _ (p : CuUpModel) (is : IsUp (s.members x) p) where
      shown_in : (t : Model) (a : Answer M P (Option CuUpModel)) → IsGiven a → Shows s t x a → Has t (set cs x (kept_of (Some p) a))
      shown_in t (gives outputs None) given shown = absurd shown
      shown_in t (gives outputs (Some q)) given shown =
          let w = shown.went in
          put_in s t cs x (Some q) has
          (record {
            there = ap (λ k. k.is_there) w.here ∙ shown.is.there;
            flags = ap (λ k. k.flags) w.here ∙ shown.is.flags;
            bearer = ap (λ k. up_of k.bearer) w.here ∙ shown.is.bearer;
          })
          (λ y far. record {
            there = ap (λ k. k.is_there) (w.others y far);
            flags = ap (λ k. k.flags) (w.others y far);
            bearer = ap (λ k. k.bearer) (w.others y far);
          })
      shown_in t (spent counter) given shown = absurd given

      frozen_in : (t : Model) (to promised : ℕ) (a : Answer M P (Option CuUpModel)) → IsGiven a → ShowsFrozen s t x to promised a
          → Has t (set cs x (kept_of (Some p) a))
      frozen_in t to promised (gives outputs None) given shown = absurd shown
      frozen_in t to promised (gives outputs (Some q)) given shown =
          let w = shown.froze in
          put_in s t cs x (Some q) has
          (record {
            there = ap (λ k. k.is_there) w.here ∙ shown.is.there;
            flags = ap (λ k. k.flags) w.here ∙ shown.is.flags;
            bearer = ap (λ k. up_of k.bearer) w.here ∙ shown.is.bearer;
          })
          (λ y far. by_target y far (y == to) refl)
        where
          by_target : (y : ℕ) → y ≢ x → (b : Bool) → (y == to) ≡ b → IsLike (s.members y) (t.members y)
          by_target y far true e = subst (λ z. IsLike (s.members z) (t.members z)) (sym (eqb-true y to e)) (record {
            there = ap (λ k. k.is_there) shown.froze.target;
            flags = ap (λ k. k.flags) shown.froze.target;
            bearer = ap (λ k. k.bearer) shown.froze.target;
          })
          by_target y far false e = like_same (s.members y) (t.members y) (shown.froze.others y far (not_same y to e))
      frozen_in t to promised (spent counter) given shown = absurd given

      abbrev Comes : List ModelStep → ContextStep P → Type 0
      Comes os order = AreKept s os × Has (run s os) (set cs x (kept_of (Some p) (done way order p)))

      control_step : (b : Beside) (order : ContextStep P) → IsGiven (done way order p) → IsTested b.final p order → IsAsked p order → ControlAssumes s x p order
          → Comes (control_orders x p order) order
      control_step b order given tested asked assumed = (
        control_kept s x p is b.final order tested assumed,
        shown_in (run s (control_orders x p order)) (done way order p) given (control_shows way s x p is order asked),
      )

      ended_in : (t : Model) → Ended s t x → Has t (set cs x None)
      ended_in t ended = put_in s t cs x None has (ap (λ k. k.is_there) ended.here) (λ y far. like_same (s.members y) (t.members y) (ended.others y far))

      step_of : (b : Beside) (order : ContextStep P) → IsGiven (done way order p) → Asks s x b p order → Comes (orders_of x b p order) order
      unfolding AreKept run IsAssumed
      step_of b (ups.takes kind teid item) given (stands, passes, its) = by its
        where
          order : ContextStep P
          order = ups.takes kind teid item

          by : AsksItem s x b p kind teid item → Comes (item_orders x b.left_up kind teid item) order
          by (inl downs) = subst (λ os. Comes os order) (sym (no_orders x b.left_up kind teid item downs))
              (tt, shown_in s (done way order p) given (beside way s x p is kind teid item downs))
          by (inr (fit, first)) = (
            item_kept s x p is kind teid item b.left_up fit passes first,
            shown_in (run s (item_orders x b.left_up kind teid item)) (done way order p) given
                (item_one way s x p is stands kind teid item b.left_up fit),
          )
      step_of b (ups.freezes peer down up) given (free, assumed) =
          let os : List ModelStep = freezes x b.to (hop_to peer down up) ∷ [] in
          let status : (s.members x).flags.may_serve ≡ true = ap (λ (f : CuUpFlags). f.may_serve) is.flags ∙ free.3 in (
            freeze_kept s x p is free.3 free.2 b.to (hop_to peer down up) assumed,
            frozen_in (run s os) b.to p.bearer.receiver.deliv (done way (ups.freezes peer down up) p) given
                (freeze_shows way s x p is b.to peer down up
                (λ same. apart status (subst (λ y. (s.members y).flags.may_serve ≡ false) same assumed.1.status))),
          )
      step_of b ups.closes given assumed = by (is_done p) refl
        where
          by : (d : Bool) → is_done p ≡ d → Comes (end_of x d ∷ []) ups.closes
          by true e = (close_kept s x p is (done_over p.at.flags.released (is_over p.at.flags p.bearer) e), ended_in (run s (closes x ∷ [])) (end_is s x))
          by false e = (discard_kept s x (assumed e), ended_in (run s (discards x ∷ [])) (discard_is s x))
      step_of b (ups.makes instance sn quota target teid) given asked =
          (tt, put_in s s cs x (Some p) has is (λ y far. like_same (s.members y) (s.members y) refl))
      step_of b ups.polls given asked = (tt, shown_in s (done way ups.polls p) given (polled way s x p is))
      step_of b (ups.adds teid) given (tested, asked, assumed) = control_step b (ups.adds teid) given tested asked assumed
      step_of b (ups.switches du teid) given (tested, asked, assumed) = control_step b (ups.switches du teid) given tested asked assumed
      step_of b (ups.knows status) given (tested, asked, assumed) = control_step b (ups.knows status) given tested asked assumed
      step_of b ups.resumes given (tested, asked, assumed) = control_step b ups.resumes given tested asked assumed
      step_of b ups.releases given (tested, asked, assumed) = control_step b ups.releases given tested asked assumed

    -- ---- there is none

    none_made : (absent : (s.members x).is_there ≡ false) → AreKept s [] × Has (run s []) (set cs x None)
    unfolding AreKept run
    none_made absent = (tt, put_in s s cs x None has absent (λ y far. like_same (s.members y) (s.members y) refl))

    step_anew : (absent : (s.members x).is_there ≡ false) (order : ContextStep P) → AsksAnew s x order
        → AreKept s (orders_anew x order) × Has (run s (orders_anew x order)) (set cs x (begun ue bearer order))
    unfolding AreKept IsReady run after
    step_anew absent (ups.makes instance sn quota target teid) (e, assumed) = (
      (absent, assumed, tt),
      put_in s (run s (makes x teid ∷ [])) cs x (Some (new_model ue bearer instance sn quota target teid)) has
          (subst (λ t. IsUp (set s.members x (new_member true teid) x) (new_model ue bearer instance sn quota t teid)) (sym e)
          (made_up s x ue bearer instance sn quota teid))
          (λ y far. like_same (s.members y) (set s.members x (new_member true teid) y) (set_far s.members x (new_member true teid) y far)),
    )
    step_anew absent _ asked = none_made absent

    step_in : (b : Beside) (order : ContextStep P) (o : Option CuUpModel) → IsIn (s.members x) o → IsGiven (carried_out way ue bearer order o) → AsksIn s x b o order
        → AreKept s (orders_in x b o order) × Has (run s (orders_in x b o order)) (set cs x (kept_of o (carried_out way ue bearer order o)))
    step_in b order None is given asked = step_anew is order asked
    step_in b order (Some p) is given asked = step_of p is b order given asked

  -- ---- an order of others

  others_like : (s : Model) (o : ModelStep) → IsOthers o → (y : ℕ) → IsLike (s.members y) ((after s o).members y)
  unfolding after
  others_like s (carries teid count packet rest) h y =
      let m = s.members s.station in
      like_set s.members s.station (record m { uplink = set m.uplink teid (m.uplink teid ++ numbered count packet ∷ []) })
      (record { there = refl; flags = refl; bearer = refl }) y
  others_like s (marks x teid) h y =
      let m = s.members x in
      like_set s.members x (record m { uplink = set m.uplink teid (m.uplink teid ++ end_marker ∷ []) })
      (record { there = refl; flags = refl; bearer = refl }) y
  others_like s (offers packet) h y = like_same (s.members y) (s.members y) refl
  others_like s (numbers packet rest) h y = like_same (s.members y) (s.members y) refl
  others_like s connects h y = like_same (s.members y) (s.members y) refl
  others_like s leaves h y = like_same (s.members y) (s.members y) refl
  others_like s (arrives x) h y = like_same (s.members y) (s.members y) refl
  others_like s (acknowledges count rest) h y = like_same (s.members y) (s.members y) refl
  others_like s (reports fmc bits) h y = like_same (s.members y) (s.members y) refl
  others_like s o h y = absurd h

  step_by : (s : Model) (cs : Contexts) → Has s cs → (h : Happening P) → AsksBy way ue bearer s cs h
      → AreKept s (orders_by cs h) × Has (run s (orders_by cs h)) (context_after way ue bearer cs h)
  unfolding AreKept run
  step_by s cs has (asks x order b) (given, asked) = step_in s cs has x b order (cs x) (has x) given asked
  step_by s cs has (down_by o) asked = (tt, has)
  step_by s cs has (up_by o) (of_others, ready, assumed) =
      ((ready, assumed, tt), λ y. in_like (s.members y) ((after s o).members y) (others_like s o of_others y) (cs y) (has y))

  pub all_steps : (s : Model) (cs : Contexts) (hs : List (Happening P)) → Has s cs → AllAsk way ue bearer s cs hs
      → AreKept s (all_orders way ue bearer cs hs) × Has (run s (all_orders way ue bearer cs hs)) (contexts_after way ue bearer cs hs)
  unfolding AllAsk all_orders contexts_after AreKept run
  all_steps s cs [] has asked = (tt, has)
  all_steps s cs (h ∷ hs) has asked =
      let one = step_by s cs has h asked.0 in
      let next = context_after way ue bearer cs h in
      let more = all_steps (run s (orders_by cs h)) next hs one.1 asked.1 in
      let later = all_orders way ue bearer next hs in (
        kept_more s (orders_by cs h) later one.0 more.0,
        subst (λ t. Has t (contexts_after way ue bearer next hs)) (sym (run_more s (orders_by cs h) later)) more.1,
      )

  -- ---- nothing is delivered

  status_silent : (s : Model) (x : ℕ) (status : SnStatus) (a : Bool) → a ≡ false → AreSilent s (knows x status ∷ (if a then resumes x ∷ [] else []))
  unfolding AreSilent
  status_silent s x status true e = absurd (true≢false e)
  status_silent s x status false e = (tt, tt)

  end_silent : (s : Model) (x : ℕ) (d : Bool) → AreSilent s (end_of x d ∷ [])
  unfolding AreSilent
  end_silent s x true = (tt, tt)
  end_silent s x false = (tt, tt)

  module _ (s : Model) (x : ℕ) (b : Beside) (p : CuUpModel) (is : IsUp (s.members x) p) where
    flags_are : (p.at.flags.frozen || p.at.flags.released) ≡ true → ((s.members x).flags.frozen || (s.members x).flags.released) ≡ true
    flags_are h = ap (λ f. f.frozen || f.released) is.flags ∙ h

    item_silent : (kind : TunnelKind) (teid : ℕ) (item : Taken P) → (p.at.flags.frozen || p.at.flags.released) ≡ true
        → AreSilent s (item_orders x b.left_up kind teid item)
    unfolding AreSilent
    item_silent f1u_uplink teid (uplink_item (packet_content (Some count) packet)) h = (flags_are h, tt)
    item_silent f1u_uplink teid end_item h = (tt, tt)
    item_silent forwarding_up teid (numbered_item (Some count) packet) h = (flags_are h, tt)
    item_silent forwarding_up teid end_item h = (tt, tt)
    item_silent kind teid item h = tt

    silent_of : (order : ContextStep P) → IsHushed p order → AreSilent s (orders_of x b p order)
    unfolding AreSilent
    silent_of (ups.takes kind teid item) h = item_silent kind teid item h
    silent_of (ups.freezes peer down up) h = (tt, tt)
    silent_of ups.closes h = end_silent s x (is_done p)
    silent_of (ups.makes instance sn quota target teid) h = tt
    silent_of ups.polls h = tt
    silent_of (ups.adds teid) h = (tt, tt)
    silent_of (ups.switches du teid) h = absurd h
    silent_of (ups.knows status) h = status_silent s x status p.at.flags.arrived h
    silent_of ups.resumes h = absurd h
    silent_of ups.releases h = (tt, tt)

  silent_anew : (s : Model) (x : ℕ) (order : ContextStep P) → AreSilent s (orders_anew x order)
  unfolding AreSilent
  silent_anew s x (ups.makes instance sn quota target teid) = (tt, tt)
  silent_anew s x _ = tt

  silent_in : (s : Model) (x : ℕ) (b : Beside) (order : ContextStep P) (o : Option CuUpModel) → IsIn (s.members x) o → IsHushedIn o order
      → AreSilent s (orders_in x b o order)
  silent_in s x b order None is h = silent_anew s x order
  silent_in s x b order (Some p) is h = silent_of s x b p is order h

  others_silent : (s : Model) (o : ModelStep) → IsOthers o → AreSilent s (o ∷ [])
  unfolding AreSilent
  others_silent s (offers packet) h = (tt, tt)
  others_silent s (numbers packet rest) h = (tt, tt)
  others_silent s connects h = (tt, tt)
  others_silent s leaves h = (tt, tt)
  others_silent s (arrives x) h = (tt, tt)
  others_silent s (carries teid count packet rest) h = (tt, tt)
  others_silent s (acknowledges count rest) h = (tt, tt)
  others_silent s (reports fmc bits) h = (tt, tt)
  others_silent s (marks x teid) h = (tt, tt)
  others_silent s o h = absurd h

  silent_by : (s : Model) (cs : Contexts) → Has s cs → (h : Happening P) → AsksBy way ue bearer s cs h → IsHushedBy cs h → AreSilent s (orders_by cs h)
  unfolding AreSilent
  silent_by s cs has (asks x order b) asked hush = silent_in s x b order (cs x) (has x) hush
  silent_by s cs has (down_by o) asked hush = tt
  silent_by s cs has (up_by o) asked hush = others_silent s o asked.0

  pub all_silent : (s : Model) (cs : Contexts) (hs : List (Happening P)) → Has s cs → AllAsk way ue bearer s cs hs → AllHushed way ue bearer cs hs
      → AreSilent s (all_orders way ue bearer cs hs)
  unfolding AllAsk all_orders AllHushed AreSilent
  all_silent s cs [] has asked hush = tt
  all_silent s cs (h ∷ hs) has asked hush =
      let next = context_after way ue bearer cs h in
      silent_together s (orders_by cs h) (all_orders way ue bearer next hs) (silent_by s cs has h asked.0 hush.0)
      (all_silent (run s (orders_by cs h)) next hs (step_by s cs has h asked.0).1 asked.1 hush.1)

-- a released context is asked nothing by which it delivers
pub released_hushed : {P : Type 0} (s : Model) (x : ℕ) (b : Beside) (p : CuUpModel) → p.at.flags.released ≡ true → (order : ContextStep P) → Asks s x b p order → IsHushed p order
released_hushed s x b p released (ups.takes kind teid item) asked = or_true p.at.flags.frozen p.at.flags.released released
  where
    or_true : (f r : Bool) → r ≡ true → f || r ≡ true
    or_true true r e = refl
    or_true false r e = e
released_hushed s x b p released (ups.switches du teid) asked = absurd (true≢false (sym released ∙ asked.0))
released_hushed s x b p released (ups.knows status) asked = by p.at.flags.arrived refl
  where
    by : (a : Bool) → p.at.flags.arrived ≡ a → a ≡ false
    by true e = absurd (true≢false (sym released ∙ (asked.1 e).1))
    by false e = refl
released_hushed s x b p released ups.resumes asked = absurd (true≢false (sym released ∙ asked.0.1))
released_hushed s x b p released _ asked = tt

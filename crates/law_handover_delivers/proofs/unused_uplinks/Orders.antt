-- An uplink tunnel on which a context has nothing: every order leaves it so, but one that puts there.
use Rattle.std.proofs.Common.{◌≡◌, ◌==◌, ℕ, Bool, true, false, List, [], ◌∷◌, ◌++◌, Option, Some, None, refl, sym, ap, ◌∙◌, eqb-true}
use Rattle.std.specs.Prelude.{if◌then◌else◌, nat_lt}
use Rattle.std.specs.List.{AllByRecursion}
use Rattle.pdcp_defs.specs.Receivers.{Delivery, is_duplicate, stored, deliver}
use Rattle.bearer_defs.specs.chain_defs.Models.{set}
use Rattle.bearer_defs.specs.chain_defs.Orders.{frozen}
use Rattle.unit_defs.specs.CuUpRecords.{SourceHop}
use Rattle.unit_defs.specs.CuUpBearers.{thawed}
use Rattle.bearer_defs.specs.uplink_defs.Models.{Item, numbered, end_marker, Source, uplink_tunnel, forwarding, Member, Model, new_member, no_member, items_at, with_rest}
use Rattle.bearer_defs.specs.uplink_defs.Orders.{ModelStep, offers, numbers, connects, leaves, arrives, carries, acknowledges, reports, marks, makes, adds, freezes, knows, switches, resumes, releases, closes, discards, takes, ends_uplink, ends_hop, late, changed, put_on, passed, handed, stored_at, new_at, late_at, taken_at, stores, without_uplink, is_up_over, with_ended, ended_if, ended_at, after, run}
use Rattle.bearer_defs.specs.uplink_defs.Assumptions.{IsReady, AreKept}

clash : {b : Bool} {X : Type 0} → b ≡ true → b ≡ false → X
clash h k = absurd (let bad : true ≡ false = sym h ∙ k in cc)

abbrev pub IsEmpty : Member → ℕ → Type 0
IsEmpty m teid = m.uplink teid ≡ []

-- what is empty there is so here
abbrev Fewer : Member → Member → Type 0
Fewer m k = (teid : ℕ) → IsEmpty m teid → IsEmpty k teid

abbrev pub Keeps : Model → Model → Type 0
Keeps s t = (y : ℕ) → Fewer (s.members y) (t.members y)

-- ---- one context changes

changed_keeps : (s : Model) (x : ℕ) (m : Member) → Fewer (s.members x) m → Keeps s (changed s x m)
changed_keeps s x m fewer y teid is = by (y == x) refl
  where
    by : (t : Bool) → (y == x) ≡ t → IsEmpty (if t then m else s.members y) teid
    by true e = fewer teid (sym (ap (λ (z : ℕ). (s.members z).uplink teid) (eqb-true y x e)) ∙ is)
    by false e = is

again_keeps : (s v : Model) → Keeps s v → (x : ℕ) (m : Member) → Fewer (s.members x) m → Keeps s (changed v x m)
again_keeps s v keeps x m fewer y teid is = by (y == x) refl
  where
    by : (t : Bool) → (y == x) ≡ t → IsEmpty (if t then m else v.members y) teid
    by true e = fewer teid (sym (ap (λ (z : ℕ). (s.members z).uplink teid) (eqb-true y x e)) ∙ is)
    by false e = keeps y teid is

put_keeps : (s : Model) (x : ℕ) (items : List Item) → Keeps s (put_on s x items)
put_keeps s x items = changed_keeps s x (record (s.members x) { forwarded = (s.members x).forwarded ++ items }) (λ teid is. is)

passed_keeps : (s : Model) (x : ℕ) (m : Member) (items : List Item) → Fewer (s.members x) m → Keeps s (passed s x m items)
passed_keeps s x m items fewer y teid is = put_keeps (changed s x m) m.next_hop items y teid (changed_keeps s x m fewer y teid is)

handed_keeps : (s : Model) (x : ℕ) (m : Member) (d : Delivery (List ℕ)) → Fewer (s.members x) m → Keeps s (handed s x m d)
handed_keeps s x m d fewer = changed_keeps s x (record m { bearer = record m.bearer { receiver = d.after } }) fewer

-- ---- an item is taken

left_fewer : (m : Member) (from : Source) (item : Item) (rest : List Item) → items_at m from ≡ item ∷ rest → Fewer m (with_rest m from rest)
left_fewer m forwarding item rest stands teid is = is
left_fewer m (uplink_tunnel q) item rest stands teid is = by (teid == q) refl
  where
    by : (t : Bool) → (teid == q) ≡ t → (if t then rest else m.uplink teid) ≡ []
    by false e = is
    by true e = let bad : [] ≡ item ∷ rest = sym is ∙ ap m.uplink (eqb-true teid q e) ∙ stands in absurd cc

module _ (s : Model) (x : ℕ) (m : Member) (fewer : Fewer (s.members x) m) where
  late_keeps : (count : ℕ) (packet : List ℕ) (t : Bool) → Keeps s (late_at s x m count packet t)
  late_keeps count packet true = changed_keeps s x m fewer
  late_keeps count packet false = passed_keeps s x m (numbered count packet ∷ []) fewer

  stored_keeps : (count : ℕ) (packet : List ℕ) (t : Bool) → Keeps s (stored_at s x m count packet t)
  stored_keeps count packet true = passed_keeps s x (stores m count packet) (numbered count packet ∷ []) fewer
  stored_keeps count packet false = handed_keeps s x m (deliver (stored m.bearer.receiver count packet)) fewer

  new_keeps : (count : ℕ) (packet : List ℕ) (t : Bool) → Keeps s (new_at s x m count packet t)
  new_keeps count packet true = changed_keeps s x m fewer
  new_keeps count packet false = stored_keeps count packet m.flags.frozen

  taken_keeps : (count : ℕ) (packet : List ℕ) (t : Bool) → Keeps s (taken_at s x m count packet t)
  taken_keeps count packet true = late_keeps count packet (nat_lt count m.bearer.receiver.deliv)
  taken_keeps count packet false = new_keeps count packet (is_duplicate m.bearer.receiver count)

  ended_by : (hop : SourceHop) (t : Bool) → Keeps s (ended_if s x m hop t)
  ended_by hop true = passed_keeps s x (with_ended m hop) (end_marker ∷ []) fewer
  ended_by hop false = changed_keeps s x m fewer

  ended_keeps : (hop : Option SourceHop) → Keeps s (ended_at s x m hop)
  ended_keeps None = changed_keeps s x m fewer
  ended_keeps (Some hop) = ended_by hop (is_up_over m hop)

-- ---- an order that puts nothing on an uplink

abbrev pub PutsNone : ModelStep → Type 0
PutsNone (carries teid count packet rest) = ⊥
PutsNone (marks x teid) = ⊥
PutsNone order = Unit {0}

order_keeps : (s : Model) (o : ModelStep) → PutsNone o → IsReady s o → Keeps s (after s o)
unfolding after IsReady
order_keeps s (carries teid count packet rest) none ready = absurd none
order_keeps s (marks x teid) none ready = absurd none
order_keeps s (offers packet) none ready = λ y teid is. is
order_keeps s (numbers packet rest) none ready = λ y teid is. is
order_keeps s connects none ready = λ y teid is. is
order_keeps s leaves none ready = λ y teid is. is
order_keeps s (arrives x) none ready = λ y teid is. is
order_keeps s (acknowledges count rest) none ready = λ y teid is. is
order_keeps s (reports fmc bits) none ready = λ y teid is. is
order_keeps s (makes x teid) none ready = changed_keeps s x (new_member true teid) (λ q is. refl)
order_keeps s (adds x teid) none ready = changed_keeps s x _ (λ q is. is)
order_keeps s (freezes x to hop) none ready =
    let m : Member = s.members x in
    let t : Member = s.members to in
    let fed : Member = record t { forwarded = t.forwarded ++ late m.bearer; promised = m.bearer.receiver.deliv } in
    again_keeps s (changed s to fed) (changed_keeps s to fed (λ q e. e)) x (record m {
      flags = record m.flags { frozen = true };
      bearer = frozen m.bearer (record hop { up_ended = false });
      next_hop = to;
    }) (λ q e. e)
order_keeps s (knows x status) none ready = changed_keeps s x _ (λ q is. is)
order_keeps s (switches x) none ready =
    let m : Member = s.members x in
    handed_keeps s x (record m { flags = record m.flags { frozen = false; arrived = true }; bearer = thawed m.bearer }) (deliver m.bearer.receiver)
    (λ q is. is)
order_keeps s (resumes x) none ready =
    let m : Member = s.members x in
    handed_keeps s x (record m { flags = record m.flags { frozen = false }; bearer = thawed m.bearer }) (deliver m.bearer.receiver) (λ q is. is)
order_keeps s (releases x) none ready = changed_keeps s x _ (λ q is. is)
order_keeps s (closes x) none ready = changed_keeps s x no_member (λ q is. refl)
order_keeps s (discards x) none ready = changed_keeps s x no_member (λ q is. refl)
order_keeps s (takes x from count packet rest) none ready =
    let m = with_rest (s.members x) from rest in
    taken_keeps s x m (left_fewer (s.members x) from (numbered count packet) rest ready.stands) count packet m.flags.released
order_keeps s (ends_uplink x teid rest) none ready =
    let m = without_uplink (with_rest (s.members x) (uplink_tunnel teid) rest) teid in
    ended_keeps s x m (left_fewer (s.members x) (uplink_tunnel teid) end_marker rest ready.stands) m.bearer.hop
order_keeps s (ends_hop x rest) none ready =
    let m = with_rest (s.members x) forwarding rest in
    ended_keeps s x (record m { bearer = record m.bearer { up_ended = true } }) (λ q is. is) m.bearer.hop

pub all_keep : (s : Model) (os : List ModelStep) → AllByRecursion PutsNone os → AreKept s os → Keeps s (run s os)
unfolding run AreKept
all_keep s [] none kept = λ y teid is. is
all_keep s (o ∷ os) none kept = λ y teid is. all_keep (after s o) os none.1 kept.2 y teid (order_keeps s o none.0 kept.0 y teid is)

-- ---- one that puts on another uplink

pub put_empty : (f : ℕ → Member) (x q : ℕ) (items : List Item) (y teid : ℕ) → (y ≡ x → teid ≡ q → ⊥) → IsEmpty (f y) teid
    → IsEmpty (set f x (record (f x) { uplink = set (f x).uplink q items }) y) teid
put_empty f x q items y teid apart is = by (y == x) refl (teid == q) refl
  where
    by : (t : Bool) → (y == x) ≡ t → (b : Bool) → (teid == q) ≡ b
        → (if t then record (f x) { uplink = set (f x).uplink q items } else f y).uplink teid ≡ []
    by false e b k = is
    by true e true k = absurd (apart (eqb-true y x e) (eqb-true teid q k))
    by true e false k =
        ap (λ (b : Bool). if b then items else (f x).uplink teid) k ∙ sym (ap (λ (z : ℕ). (f z).uplink teid) (eqb-true y x e)) ∙ is

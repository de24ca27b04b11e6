-- Queues by link: what a change of one queue leaves, and what a line makes of them.
use Rattle.std.proofs.Common.{◌≡◌, ◌<◌, ◌-◌, ◌+◌, ◌==◌, ◌&&◌, ℕ, suc, Bool, true, cond, List, [], ◌∷◌, ◌++◌, drop, Some, None, refl, ap, sym, ◌∙◌, subst, arith, eqb-true, eq-eqb}
use Rattle.std.proofs.Math.Seq.{drop-nil}
use Rattle.std.specs.declared.cmp.Ordering.{Ordering}
use Rattle.std.specs.declared.cmp.Ordering.TheVariants.{Less, Equal, Greater}
use Rattle.std.specs.Ordering.{eq_by_cmp, is_eq, ordering_then, nat_cmp}
use Rattle.std.specs.Cmp.{IsTotalOrder, Equal-is, tied_itself, both_ways, nat_cmp_total}
use Rattle.std.proofs.lemmas.Map.Lookups.{exact_unsigned}
use Rattle.gnb_types.specs.Orders.{node_cmp, entity_cmp}
use Rattle.scenario_text.specs.declared.line.Link.{Link}
use Rattle.scenario_text.specs.declared.line.Link.TheVariants.{Tunnel, Radio}
use Rattle.scenario_text.specs.declared.line.Item.{Item}
use Rattle.tables.specs.Tables.{find, put, without, at}
use Rattle.tables.proofs.TableLaws.{at-without}
use Rattle.transcript_defs.specs.declared.line.TextLine.{TextLine}
use Rattle.transcript_defs.specs.Past.{same_link, same_entity, standing, after_line}
use Rattle.transcript_check.specs.declared.index.queues.LinkKey.{LinkKey}
use Rattle.transcript_check.specs.contracts.index.queues.LinkKeyOrd.TheImpl.Laws as key
use Rattle.transcript_check.proofs.TableMore.{at_none, at_some, put_changes, none_changes}
use Rattle.transcript_check.specs.inside.Queues.{link_key, link_cmp, queue_on, Changes, FollowsLine, AreQueues}

-- ---- keys

pub link_total : IsTotalOrder link_cmp
link_total = key.total-law

then_eq : (r s : Ordering) → is_eq (ordering_then r s) ≡ is_eq r && is_eq s
then_eq Less s = refl
then_eq Equal s = refl
then_eq Greater s = refl

same_number : (m n : ℕ) → is_eq (nat_cmp m n) ≡ (m == n)
same_number m n =
    both_ways (is_eq (nat_cmp m n)) (m == n) (λ e. eq-eqb m n (exact_unsigned m n ((Equal-is (nat_cmp m n)).0 e)))
    (λ e. subst (λ (k : ℕ). is_eq (nat_cmp m k) ≡ true) (eqb-true m n e) (ap is_eq (tied_itself nat_cmp_total m)))

pub ties : (a b : Link) → eq_by_cmp link_cmp (link_key a) (link_key b) ≡ same_link a b
ties (Tunnel a m) (Tunnel b n) = then_eq (node_cmp a b) (nat_cmp m n) ∙ ap (λ (t : Bool). is_eq (node_cmp a b) && t) (same_number m n)
ties (Tunnel a m) (Radio u c d e) = refl
ties (Radio u c d e) (Tunnel b n) = refl
ties (Radio u b d e) (Radio v c f g) =
    then_eq (entity_cmp (record { ue = u; bearer = b; dir = d }) (record { ue = v; bearer = c; dir = f })) (nat_cmp e g)
    ∙ ap (λ (t : Bool). same_entity (record { ue = u; bearer = b; dir = d }) (record { ue = v; bearer = c; dir = f }) && t) (same_number e g)

-- ---- changes

module _ (link : Link) (f : List Item → List Item) (old : List (LinkKey × List Item)) where
  by_links : (other : Link) (x : List Item) → x ≡ cond (eq_by_cmp link_cmp (link_key other) (link_key link)) (f (queue_on old other)) (queue_on old other)
      → x ≡ cond (same_link other link) (f (queue_on old other)) (queue_on old other)
  by_links other x is = is ∙ ap (λ (b : Bool). cond b (f (queue_on old other)) (queue_on old other)) (ties other link)

  pub queue_put : (v : List Item) → v ≡ f (queue_on old link) → Changes link f old (put link_cmp old (link_key link) v)
  queue_put v is other =
      by_links other (queue_on (put link_cmp old (link_key link) v) other) (put_changes link_total f [] old (link_key link) v is (link_key other))

  pub queue_kept : find link_cmp old (link_key link) ≡ None → f [] ≡ [] → Changes link f old old
  queue_kept none same other = by_links other (queue_on old other) (none_changes link_total f [] old (link_key link) none same (link_key other))

pub without_changes : (link : Link) (old : List (LinkKey × List Item)) → Changes link (λ items. []) old (without link_cmp old (link_key link))
without_changes link old other =
    at-without link_total [] old (link_key link) (link_key other)
    ∙ ap (λ (b : Bool). cond b [] (queue_on old other)) (ties other link)

pub put_absent : (link : Link) (item : Item) (old new : List (LinkKey × List Item)) (key : LinkKey) (queue : List Item)
    → key ≡ link_key link → find link_cmp old key ≡ None → queue ≡ [] ++ item ∷ [] → new ≡ put link_cmp old key queue
    → Changes link (λ items. items ++ item ∷ []) old new
put_absent link item old new key queue is none holds becomes =
    let absent : find link_cmp old (link_key link) ≡ None = subst (λ (k : LinkKey). find link_cmp old k ≡ None) is none in
    subst (λ (m : List (LinkKey × List Item)). Changes link (λ items. items ++ item ∷ []) old m)
    (ap (λ (k : LinkKey). put link_cmp old k queue) (sym is) ∙ sym becomes)
    (queue_put link (λ items. items ++ item ∷ []) old queue
    (holds ∙ ap (λ (items : List Item). items ++ item ∷ []) (sym (at_none link_cmp [] old (link_key link) absent))))

pub put_present : (link : Link) (f : List Item → List Item) (old : List (LinkKey × List Item)) (key : LinkKey) (before queue : List Item)
    → key ≡ link_key link → find link_cmp old key ≡ Some before → queue ≡ f before → Changes link f old (put link_cmp old key queue)
put_present link f old key before queue is some holds =
    let there : find link_cmp old (link_key link) ≡ Some before = subst (λ (k : LinkKey). find link_cmp old k ≡ Some before) is some in
    subst (λ (k : LinkKey). Changes link f old (put link_cmp old k queue)) (sym is)
    (queue_put link f old queue (holds ∙ ap f (sym (at_some link_cmp [] old (link_key link) before there))))

pub take_absent : (link : Link) (f : List Item → List Item) (old : List (LinkKey × List Item)) (key : LinkKey)
    → key ≡ link_key link → find link_cmp old key ≡ None → f [] ≡ [] → Changes link f old old
take_absent link f old key is none same =
    queue_kept link f old (subst (λ (k : LinkKey). find link_cmp old k ≡ None) is none) same

pub emptied : (link : Link) (old new : List (LinkKey × List Item)) (key : LinkKey) → key ≡ link_key link → new ≡ without link_cmp old key
    → Changes link (λ items. []) old new
emptied link old new key is becomes =
    subst (λ (m : List (LinkKey × List Item)). Changes link (λ items. []) old m)
    (ap (λ (k : LinkKey). without link_cmp old k) (sym is) ∙ sym becomes) (without_changes link old)

pub none_stand : (new : List (LinkKey × List Item)) → new ≡ [] → AreQueues [] new
unfolding at find standing
none_stand new is link = ap (λ (m : List (LinkKey × List Item)). queue_on m link) is

-- ---- the oldest items are dropped

pub dropped_more : {A : Type 0} (n i : ℕ) (old new all : List A) (x : A) → i < n → drop (n - i) old ≡ all → old ≡ x ∷ new
    → drop (n - (i + 1)) new ≡ all
dropped_more {A} n i old new all x less holds is =
    let step : n - i ≡ suc (n - (i + 1)) = omega arith in
    sym (ap (λ (m : ℕ). drop m old) step ∙ ap (drop (suc (n - (i + 1)))) is) ∙ holds

pub dropped_all : {A : Type 0} (n : ℕ) (old new all : List A) → drop n old ≡ all → (old ≡ []) × (new ≡ []) → new ≡ all
dropped_all n old new all holds empty = empty.1 ∙ sym (drop-nil n) ∙ sym (ap (drop n) empty.0) ∙ holds

-- ---- a line

pub follows_queues : (past : List TextLine) (line : TextLine) (old new : List (LinkKey × List Item)) → FollowsLine line old new → AreQueues past old
    → AreQueues (line ∷ past) new
unfolding standing
follows_queues past line old new follows holds link = follows link ∙ ap (after_line link line) (holds link)

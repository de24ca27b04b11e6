-- Answers of a CU-UP as one bearer sees them: by cases, one after another; of the bearers of a context, of one of them, and of a
-- context that is made or ends.
use Rattle.std.proofs.Common.{◌≡◌, ◌<◌, ℕ, ◌+◌, zero, suc, Bool, true, false, cond, not, ◌&&◌, ◌||◌, List, [], ◌∷◌, ◌++◌, map, Option, Some, None, refl, sym, ap, subst, ◌∙◌, arith}
use Rattle.std.specs.Prelude.{if◌then◌else◌}
use Rattle.std.specs.Ordering.{eq_by_cmp}
use Rattle.std.specs.declared.cmp.Ordering.TheVariants.{Less}
use Rattle.std.specs.Cmp.{nat_cmp_is}
use Rattle.std.specs.Option.{option_map}
use Rattle.std.specs.List.{AllByRecursion, flat_map}
use Rattle.std.specs.List.Sorted.{IsStrictlySortedBy}
use Rattle.std.specs.Map.{lookup, keys_of}
use Rattle.std.specs.BTreeMap.{is_at}
use Rattle.std.proofs.lemmas.List.{append-nil}
use Rattle.std.proofs.lemmas.List.Elements.{filter-append}
use Rattle.gnb_types.specs.declared.names.UeId.{UeId}
use Rattle.gnb_types.specs.declared.names.BearerId.{BearerId}
use Rattle.gnb_types.specs.declared.names.SnBits.{SnBits}
use Rattle.gnb_types.specs.declared.keys.Channel.{Channel}
use Rattle.gnb_types.specs.Orders.{ue_cmp, bearer_cmp}
use Rattle.gnb_types.proofs.OrderLemmas.{ue_total, bearer_total}
use Rattle.tables.specs.Tables.{find, put, without, map_values, IsSorted}
use Rattle.tables.proofs.TableLaws.{find-put, find-put-same, find-put-other, find-without, find-without-same, find-without-other, sorted-put, find-mapped}
use Rattle.message_types.specs.declared.e1.E1Message.{E1Message}
use Rattle.unit_defs.specs.Ways.{e1, opened, closed, Output, Way, Answer, gives, spent, with_outputs, ◌then◌, nothing}
use Rattle.unit_defs.specs.Transactions.{replied}
use Rattle.unit_defs.specs.CuUpRecords.{CuUpBearer, CuUpContext, CuUp, CuUpTunnel}
use Rattle.unit_defs.specs.CuUpBearers.{made, teids_of_bearer, released, open_teids}
use Rattle.unit_defs.specs.CuUp.{context_of, with_context, with_transactions, bearers_from, bearers_made, UpStep, steps, stops, answer_with, ended, ended_if_over, end_where_over, replies, entries_of, opened_of, new_context, with_new, as_released, with_bearer}
use Rattle.proof_unit_steps.specs.tunnel_frames.OneTunnel.{BearersInOrder}
use Rattle.proof_unit_steps.proofs.tunnel_frames.Contexts.{Bearers}
use Rattle.proof_cu_up_orders.specs.context_orders.Orders.{CuUpModel, model_with, model_of_bearer, model_in, model_of, ContextStep, releases, closes, kept_in, begun, done, carried_out, carried}
use Rattle.proof_cu_up_orders.specs.context_orders.Inputs.{only_if, ends, closes_if, new_teid, makes_with}
use Rattle.proof_cu_up_orders.specs.context_orders.Shown.{is_on, on_bearer, Comes}
use Rattle.proof_cu_up_orders.proofs.context_orders.Others.{Off, off_both, off_replied, off_closed}
use Rattle.proof_cu_up_orders.proofs.context_orders.Bearers.{Given, Turned, StepIs, StepOff}

-- ---- contexts keep their bearers in order

module _ {M C : Type 0} where
  pub order_put : (r : CuUp M C) (u : UeId) (c : CuUpContext) → BearersInOrder r → IsSorted bearer_cmp c.bearers → BearersInOrder (with_context u r c)
  order_put r u c order sorted v x there = by (eq_by_cmp ue_cmp v u) (sym (find-put ue_total r.contexts u c v) ∙ there)
    where
      by : (t : Bool) → cond t (Some c) (find ue_cmp r.contexts v) ≡ Some x → IsSorted bearer_cmp x.bearers
      by true e = let same : c ≡ x = cc in subst (λ (y : CuUpContext). IsSorted bearer_cmp y.bearers) same sorted
      by false e = order v x e

  pub order_without : (r : CuUp M C) (u : UeId) → BearersInOrder r → (v : UeId) (x : CuUpContext)
      → find ue_cmp (without ue_cmp r.contexts u) v ≡ Some x → IsSorted bearer_cmp x.bearers
  order_without r u order v x there = by (eq_by_cmp ue_cmp v u) (sym (find-without ue_total r.contexts u v) ∙ there)
    where
      by : (t : Bool) → cond t None (find ue_cmp r.contexts v) ≡ Some x → IsSorted bearer_cmp x.bearers
      by true e = absurd cc
      by false e = order v x e

same_keys : (bs es : Bearers) → keys_of bs ≡ keys_of es → IsSorted bearer_cmp es → IsSorted bearer_cmp bs
same_keys bs es e sorted = subst (λ (ks : List BearerId). IsStrictlySortedBy bearer_cmp ks) (sym e) sorted

-- ---- the bearers of a new context, in order

above : (i j count : ℕ) → i < j → AllByRecursion (λ (y : BearerId). bearer_cmp (record { 0 = i }) y ≡ Less) (bearers_from j count)
above i j zero below = tt
above i j (suc count) below = (sym (nat_cmp_is i j Less below), above i (j + 1) count (omega arith))

from_sorted : (i count : ℕ) → IsStrictlySortedBy bearer_cmp (bearers_from i count)
unfolding IsStrictlySortedBy
from_sorted i zero = tt
from_sorted i (suc count) = (above i (i + 1) count (omega arith), from_sorted (i + 1) count)

made_keys : (target : Bool) (next : ℕ) (bs : List BearerId) → keys_of (bearers_made target next bs) ≡ bs
made_keys target next [] = refl
made_keys target next (b ∷ bs) = ap (λ (ks : List BearerId). b ∷ ks) (made_keys target (next + teids_of_bearer target) bs)

pub made_sorted : (target : Bool) (next count : ℕ) → IsSorted bearer_cmp (bearers_made target next (bearers_from 1 count))
made_sorted target next count =
    subst (λ (ks : List BearerId). IsStrictlySortedBy bearer_cmp ks) (sym (made_keys target next (bearers_from 1 count))) (from_sorted 1 count)

module _ {M C P : Type 0} (way : Way M C P) where
  pub made_found : (target : Bool) (next : ℕ) (bs : List BearerId) (bearer : BearerId)
      → find bearer_cmp (bearers_made target next bs) bearer ≡ option_map (made target) (new_teid way target next bs bearer)
  unfolding find
  made_found target next [] bearer = refl
  made_found target next (b ∷ bs) bearer = by (is_at (bearer_cmp bearer) b) (made_found target (next + teids_of_bearer target) bs bearer)
    where
      later : ℕ
      later = next + teids_of_bearer target

      by : (t : Bool) → lookup (is_at (bearer_cmp bearer)) (bearers_made target later bs) ≡ option_map (made target) (new_teid way target later bs bearer)
          → cond t (Some (made target next)) (lookup (is_at (bearer_cmp bearer)) (bearers_made target later bs))
          ≡ option_map (made target) (if t then Some next else new_teid way target later bs bearer)
      by true h = refl
      by false h = h

released_are : (es : Bearers) → map (λ e. (e.0, released e.1)) es ≡ map_values released es
unfolding map_values
released_are [] = refl
released_are (e ∷ es) = ap (λ (xs : Bearers). (e.0, released e.1) ∷ xs) (released_are es)

released_keys : (es : Bearers) → keys_of (map (λ e. (e.0, released e.1)) es) ≡ keys_of es
released_keys [] = refl
released_keys (e ∷ es) = ap (λ (ks : List BearerId). e.0 ∷ ks) (released_keys es)

module _ {M C P : Type 0} (way : Way M C P) (ue : UeId) (bearer : BearerId) where
  abbrev Record : Type 0
  Record = CuUp M C

  abbrev Model : Type 0
  Model = Option CuUpModel

  abbrev Outputs : Type 0
  Outputs = List (Output M P)

  abbrev pub at_bearer : Record → Model
  at_bearer r = model_of r ue bearer

  -- what the orders do is what the bearer sees of the answer; and the contexts stay in order
  abbrev pub Does : Answer M P Model → Answer M P Record → Type 0
  Does orders (gives outputs s) = Comes ue bearer outputs s orders × BearersInOrder s
  Does orders (spent counter) = Unit {0}

  -- nothing is asked of the bearer
  abbrev pub Keeps : Record → Answer M P Record → Type 0
  Keeps r a = Does (nothing (at_bearer r)) a

  pub keeps : (r : Record) (reason : Output M P) → is_on ue bearer reason ≡ false → BearersInOrder r → Keeps r (gives (reason ∷ []) r)
  keeps r reason off order = ((ap (λ (t : Bool). cond t (reason ∷ []) []) off, refl), order)

  pub keeps_if : (r : Record) (t : Bool) (x y : Answer M P Record) → Keeps r x → Keeps r y → Keeps r (if t then x else y)
  keeps_if r true x y p q = p
  keeps_if r false x y p q = q

  -- ---- by cases

  pub both_if : (p : Model) (t : Bool) (xs ys : List (ContextStep P)) (x y : Answer M P Record) → Does (carried way ue bearer xs p) x
      → Does (carried way ue bearer ys p) y → Does (carried way ue bearer (if t then xs else ys) p) (if t then x else y)
  both_if p true xs ys x y h k = h
  both_if p false xs ys x y h k = k

  pub unless : (p : Model) (t : Bool) (xs : List (ContextStep P)) (x y : Answer M P Record) → Does (nothing p) y → Does (carried way ue bearer xs p) x
      → Does (carried way ue bearer (only_if way (not t) xs) p) (if t then y else x)
  unless p true xs x y h k = h
  unless p false xs x y h k = k

  pub unless_two : (p : Model) (t u : Bool) (xs : List (ContextStep P)) (x y z : Answer M P Record) → Does (nothing p) y → Does (nothing p) z
      → Does (carried way ue bearer xs p) x → Does (carried way ue bearer (only_if way (not (t || u)) xs) p) (if t then y else (if u then z else x))
  unless_two p true u xs x y z h i k = h
  unless_two p false true xs x y z h i k = i
  unless_two p false false xs x y z h i k = k

  pub unless_and : (p : Model) (t u : Bool) (xs : List (ContextStep P)) (x y z : Answer M P Record) → Does (nothing p) y → Does (nothing p) z
      → Does (carried way ue bearer xs p) x → Does (carried way ue bearer (only_if way (not t && u) xs) p) (if t then y else (if not u then z else x))
  unless_and p true u xs x y z h i k = h
  unless_and p false false xs x y z h i k = i
  unless_and p false true xs x y z h i k = k

  -- ---- one after another

  joined : (os more ks ms : Outputs) → on_bearer ue bearer os ≡ on_bearer ue bearer ks → on_bearer ue bearer more ≡ on_bearer ue bearer ms
      → on_bearer ue bearer (os ++ more) ≡ on_bearer ue bearer (ks ++ ms)
  joined os more ks ms p q = filter-append (is_on ue bearer) os more ∙ (λ i. p i ++ q i) ∙ sym (filter-append (is_on ue bearer) ks ms)

  pub does_at : (k : Answer M P Model) (l : Model → Answer M P Model) (os : Outputs) (r : Record) (a : Answer M P Record) → Does k (gives os r)
      → Does (l (at_bearer r)) a → Does (k then l) (with_outputs os a)
  does_at (spent c) l os r a h d = absurd h.0
  does_at (gives ks p) l os r a h d = by a (l p) (subst (λ (q : Model). Does (l q) a) h.0.1 d)
    where
      by : (b : Answer M P Record) (m : Answer M P Model) → Does m b → Does (with_outputs ks m) (with_outputs os b)
      by (spent c) m g = tt
      by (gives more s) (spent c) g = absurd g.0
      by (gives more s) (gives ms t) g = ((joined os more ks ms h.0.0 g.0.0, g.0.1), g.1)

  -- nothing is put out first
  pub does_first : (k : Answer M P Model) (l : Model → Answer M P Model) (r : Record) (a : Answer M P Record) → Does k (gives [] r)
      → Does (l (at_bearer r)) a → Does (k then l) a
  does_first k l r (spent c) h d = tt
  does_first k l r (gives more s) h d = does_at k l [] r (gives more s) h d

  pub does_then : (k : Answer M P Model) (l : Model → Answer M P Model) (a : Answer M P Record) (f : Record → Answer M P Record) → Does k a
      → ((r : Record) → BearersInOrder r → Does (l (at_bearer r)) (f r)) → Does (k then l) (a then f)
  does_then k l (spent c) f h q = tt
  does_then k l (gives os r) f h q = does_at k l os r (f r) h (q r h.1)

  -- a last step that asks nothing of the bearer
  pub then_keeps : (k : Answer M P Model) (a : Answer M P Record) (f : Record → Answer M P Record) → Does k a
      → ((r : Record) → BearersInOrder r → Keeps r (f r)) → Does k (a then f)
  then_keeps k (spent c) f h q = tt
  then_keeps (spent c) (gives os r) f h q = absurd h.0
  then_keeps (gives ks p) (gives os r) f h q = by (f r) (q r h.1)
    where
      by : (b : Answer M P Record) → Keeps r b → Does (gives ks p) (with_outputs os b)
      by (spent c) g = tt
      by (gives more s) g =
          ((joined os more ks [] h.0.0 g.0.0 ∙ ap (λ (zs : Outputs). on_bearer ue bearer zs) (append-nil ks), g.0.1 ∙ h.0.1), g.1)

  -- and a first one
  pub off_first : (k : Answer M P Model) (os : Outputs) (a : Answer M P Record) → on_bearer ue bearer os ≡ [] → Does k a → Does k (with_outputs os a)
  off_first k os (spent c) none h = tt
  off_first (spent c) os (gives more s) none h = absurd h.0
  off_first (gives ks p) os (gives more s) none h = ((joined os more [] ks none h.0.0, h.0.1), h.1)

  pub off_then_does : {S : Type 0} (k : Answer M P Model) (a : Answer M P S) (f : S → Answer M P Record) → Off way ue bearer a
      → ((s : S) → Does k (f s)) → Does k (a then f)
  off_then_does k (spent c) f none q = tt
  off_then_does k (gives os s) f none q = off_first k os (f s) none (q s)

  pub one_order : (o : ContextStep P) (p : Model) (a : Answer M P Record) → Does (carried_out way ue bearer o p) a → Does (carried way ue bearer (o ∷ []) p) a
  one_order o p (spent c) h = tt
  one_order o p (gives os s) h = by (carried_out way ue bearer o p) h
    where
      by : (k : Answer M P Model) → Does k (gives os s) → Does (k then carried way ue bearer []) (gives os s)
      by (spent c) g = absurd g.0
      by (gives ks q) g = ((g.0.0 ∙ ap (λ (zs : Outputs). on_bearer ue bearer zs) (sym (append-nil ks)), g.0.1), g.1)

  pub replies_keep : (ch : Channel) (m : E1Message) (r : Record) → BearersInOrder r → Keeps r (replies way ch m r)
  replies_keep ch m r order =
      off_then_does (nothing (at_bearer r)) (replied way r.transactions ch (e1 m)) (λ t. nothing (with_transactions r t))
      (off_replied way ue bearer r.transactions ch (e1 m)) (λ t. ((refl, refl), order))

  -- ---- the bearers of a context

  -- what a row of the bearer gives, where the context is as it says
  given_here : (o : ContextStep P) (c d : CuUpContext) (s : Record) (os : Outputs) (found : Option CuUpBearer) (row : CuUpBearer → Answer M P CuUpBearer)
      → at_bearer s ≡ model_of_bearer ue d bearer found → BearersInOrder s → begun ue bearer o ≡ None
      → ((x : CuUpBearer) → done way o (model_with ue c bearer x) ≡ kept_in (model_with ue d bearer x) (row x)) → (q : Option CuUpBearer)
      → Turned way ue bearer row os found q → Does (carried_out way ue bearer o (model_of_bearer ue c bearer q)) (gives os s)
  given_here o c d s os found row is order none does None t =
      ((t.1, is ∙ ap (model_of_bearer ue d bearer) t.0 ∙ sym none), order)
  given_here o c d s os found row is order none does (Some x) t = subst (λ (k : Answer M P Model). Does k (gives os s)) (sym (does x)) (by (row x) t)
    where
      by : (a : Answer M P CuUpBearer) → Given way ue bearer os found a → Does (kept_in (model_with ue d bearer x) a) (gives os s)
      by (gives ys y) g = ((g.1, is ∙ ap (model_of_bearer ue d bearer) g.0), order)
      by (spent c) g = absurd g

  pub answer_here : (r : Record) (c d : CuUpContext) (s : UpStep way) (row : CuUpBearer → Answer M P CuUpBearer) (o : ContextStep P) → context_of r ue ≡ Some c
      → BearersInOrder r → StepIs way ue bearer row c.bearers s → begun ue bearer o ≡ None
      → ((x : CuUpBearer) → done way o (model_with ue c bearer x) ≡ kept_in (model_with ue d bearer x) (row x))
      → Does (carried way ue bearer (o ∷ []) (at_bearer r)) (answer_with way r ue d s)
  answer_here r c d (stops k) row o is order h none does = tt
  answer_here r c d (steps os bs) row o is order h none does =
      one_order o (at_bearer r) (gives os s)
      (subst (λ (q : Option CuUpContext). Does (carried_out way ue bearer o (model_in ue bearer q)) (gives os s)) (sym is)
      (given_here o c d s os (find bearer_cmp bs bearer) row now_found (order_put r ue now order (same_keys bs c.bearers h.1 (order ue c is))) none does
      (find bearer_cmp c.bearers bearer) h.0))
    where
      now : CuUpContext
      now = record d { bearers = bs }

      s : Record
      s = with_context ue r now

      now_found : at_bearer s ≡ model_of_bearer ue d bearer (find bearer_cmp bs bearer)
      now_found = ap (model_in ue bearer) (find-put-same ue_total r.contexts ue now) ∙ by (find bearer_cmp bs bearer)
        where
          by : (q : Option CuUpBearer) → model_of_bearer ue now bearer q ≡ model_of_bearer ue d bearer q
          by None = refl
          by (Some x) = refl

  module _ (u : UeId) (other : eq_by_cmp ue_cmp ue u ≡ false) where
    pub put_off : (r : Record) (c : CuUpContext) → at_bearer (with_context u r c) ≡ at_bearer r
    put_off r c = ap (model_in ue bearer) (find-put-other ue_total r.contexts u c ue other)

    pub answer_off : (r : Record) (c d : CuUpContext) (s : UpStep way) → context_of r u ≡ Some c → BearersInOrder r → StepOff way ue bearer c.bearers s
        → Keeps r (answer_with way r u d s)
    answer_off r c d (stops k) is order h = tt
    answer_off r c d (steps os bs) is order h =
        ((h.0, put_off r (record d { bearers = bs })), order_put r u (record d { bearers = bs }) order (same_keys bs c.bearers h.1 (order u c is)))

  -- ---- a context ends

  off_closings : (es : Bearers) → on_bearer {M = M} {P = P} ue bearer (flat_map (λ e. map (λ teid. closed teid) (open_teids e.1)) es) ≡ []
  off_closings [] = refl
  off_closings (e ∷ es) =
      off_both way ue bearer (map (λ teid. closed teid) (open_teids e.1)) (flat_map (λ e. map (λ teid. closed teid) (open_teids e.1)) es)
      (off_closed way ue bearer (open_teids e.1)) (off_closings es)

  close_is : (p : Model) → carried_out way ue bearer closes p ≡ nothing None
  close_is None = refl
  close_is (Some p) = refl

  pub closed_here : (r : Record) (c : CuUpContext) → BearersInOrder r → Does (carried way ue bearer (closes ∷ []) (at_bearer r)) (ended way r ue c)
  unfolding ended
  closed_here r c order =
      let it : Does (nothing None) (ended way r ue c) =
      ((off_closings c.bearers, ap (model_in ue bearer) (find-without-same ue_total r.contexts ue)), order_without r ue order) in
      one_order closes (at_bearer r) (ended way r ue c) (subst (λ (k : Answer M P Model). Does k (ended way r ue c)) (sym (close_is (at_bearer r))) it)

  pub over_here : (r : Record) (c : CuUpContext) → context_of r ue ≡ Some c → BearersInOrder r
      → Does (carried way ue bearer (closes_if way c) (at_bearer r)) (end_where_over way ue r)
  unfolding end_where_over
  over_here r c is order =
      subst (λ (o : Option CuUpContext). Does (carried way ue bearer (closes_if way c) (at_bearer r)) (ended_if_over way ue r o)) (sym is)
      (both_if (at_bearer r) (ends way c) (closes ∷ []) [] (ended way r ue c) (nothing r) (closed_here r c order) ((refl, refl), order))

  pub over_off : (u : UeId) → eq_by_cmp ue_cmp ue u ≡ false → (r : Record) → BearersInOrder r → Keeps r (end_where_over way u r)
  unfolding end_where_over ended
  over_off u other r order = by (context_of r u)
    where
      by : (o : Option CuUpContext) → Keeps r (ended_if_over way u r o)
      by None = ((refl, refl), order)
      by (Some c) = keeps_if r (ends way c) (ended way r u c) (nothing r) (
        (off_closings c.bearers, ap (model_in ue bearer) (find-without-other ue_total r.contexts u ue other)),
        order_without r u order,
      ) ((refl, refl), order)

  pub ended_off : (u : UeId) → eq_by_cmp ue_cmp ue u ≡ false → (r : Record) (c : CuUpContext) → BearersInOrder r → Keeps r (ended way r u c)
  unfolding ended
  ended_off u other r c order =
      ((off_closings c.bearers, ap (model_in ue bearer) (find-without-other ue_total r.contexts u ue other)), order_without r u order)

  -- ---- a context is released

  released_found : (c : CuUpContext) → find bearer_cmp (map (λ e. (e.0, released e.1)) c.bearers) bearer ≡ option_map released (find bearer_cmp c.bearers bearer)
  released_found c =
      ap (λ (es : Bearers). find bearer_cmp es bearer) (released_are c.bearers) ∙ find-mapped bearer_cmp released c.bearers bearer

  pub released_sorted : (r : Record) (u : UeId) (c : CuUpContext) → context_of r u ≡ Some c → BearersInOrder r
      → BearersInOrder (with_context u r (as_released way c))
  released_sorted r u c is order =
      order_put r u (as_released way c) order (same_keys (as_released way c).bearers c.bearers (released_keys c.bearers) (order u c is))

  pub release_here : (r : Record) (c : CuUpContext) → context_of r ue ≡ Some c → BearersInOrder r
      → Does (carried_out way ue bearer releases (at_bearer r)) (gives [] (with_context ue r (as_released way c)))
  release_here r c is order =
      subst (λ (q : Option CuUpContext). Does (carried_out way ue bearer releases (model_in ue bearer q)) (gives [] s)) (sym is)
      (by (find bearer_cmp c.bearers bearer) refl)
    where
      s : Record
      s = with_context ue r (as_released way c)

      found : (o : Option CuUpBearer) → find bearer_cmp c.bearers bearer ≡ o
          → at_bearer s ≡ model_of_bearer ue (as_released way c) bearer (option_map released o)
      found o there =
          ap (model_in ue bearer) (find-put-same ue_total r.contexts ue (as_released way c))
          ∙ ap (model_of_bearer ue (as_released way c) bearer) (released_found c ∙ ap (option_map released) there)

      by : (o : Option CuUpBearer) → find bearer_cmp c.bearers bearer ≡ o
          → Does (carried_out way ue bearer releases (model_of_bearer ue c bearer o)) (gives [] s)
      by None there = ((refl, found None there), released_sorted r ue c is order)
      by (Some x) there = ((refl, found (Some x) there), released_sorted r ue c is order)

  -- ---- a context is made

  off_opened : (ts : List (ℕ × CuUpTunnel)) → on_bearer {M = M} {P = P} ue bearer (map (λ t. opened t.0) ts) ≡ []
  off_opened [] = refl
  off_opened (t ∷ ts) = off_opened ts

  off_openings : (es : Bearers) → on_bearer ue bearer (flat_map (opened_of way) es) ≡ []
  off_openings [] = refl
  off_openings (e ∷ es) =
      off_both way ue bearer (opened_of way e) (flat_map (opened_of way) es) (off_opened (entries_of (record { 0 = 0 }) 0 e)) (off_openings es)

  pub new_here : (r : Record) (teids : ℕ) (sn : SnBits) (quota : ℕ) (target : Bool) (count : ℕ) → context_of r ue ≡ None → BearersInOrder r
      → Does (carried way ue bearer (makes_with way r.next_teid sn quota target (new_teid way target r.next_teid (bearers_from 1 count) bearer)) (at_bearer r))
      (with_new way ue r teids (new_context way r sn quota target count))
  new_here r teids sn quota target count is order =
      subst (λ (q : Option CuUpContext). Does (carried way ue bearer
      (makes_with way r.next_teid sn quota target (new_teid way target r.next_teid (bearers_from 1 count) bearer)) (model_in ue bearer q))
      (with_new way ue r teids c)) (sym is) (by (new_teid way target r.next_teid (bearers_from 1 count) bearer) refl)
    where
      c : CuUpContext
      c = new_context way r sn quota target count

      found : (o : Option ℕ) → new_teid way target r.next_teid (bearers_from 1 count) bearer ≡ o
          → model_in ue bearer (find ue_cmp (put ue_cmp r.contexts ue c) ue) ≡ model_of_bearer ue c bearer (option_map (made target) o)
      found o there =
          ap (model_in ue bearer) (find-put-same ue_total r.contexts ue c)
          ∙ ap (model_of_bearer ue c bearer) (made_found way target r.next_teid (bearers_from 1 count) bearer ∙ ap (option_map (made target)) there)

      sorted : BearersInOrder (with_context ue r c)
      sorted = order_put r ue c order (made_sorted target r.next_teid count)

      by : (o : Option ℕ) → new_teid way target r.next_teid (bearers_from 1 count) bearer ≡ o
          → Does (carried way ue bearer (makes_with way r.next_teid sn quota target o) None) (with_new way ue r teids c)
      by None there = ((off_openings c.bearers, found None there), sorted)
      by (Some teid) there = ((off_openings c.bearers, found (Some teid) there), sorted)

  pub new_off : (u : UeId) → eq_by_cmp ue_cmp ue u ≡ false → (r : Record) (teids : ℕ) (sn : SnBits) (quota : ℕ) (target : Bool) (count : ℕ) → BearersInOrder r
      → Keeps r (with_new way u r teids (new_context way r sn quota target count))
  new_off u other r teids sn quota target count order =
      let c = new_context way r sn quota target count in
      ((off_openings c.bearers, put_off u other r c), order_put r u c order (made_sorted target r.next_teid count))

  -- ---- one bearer of a context

  put_sorted : (r : Record) (u : UeId) (c : CuUpContext) (b : BearerId) (y : CuUpBearer) → context_of r u ≡ Some c → BearersInOrder r
      → BearersInOrder (with_context u r (record c { bearers = put bearer_cmp c.bearers b y }))
  put_sorted r u c b y is order =
      order_put r u (record c { bearers = put bearer_cmp c.bearers b y }) order (sorted-put bearer_total c.bearers b y (order u c is))

  pub bearer_here : (r : Record) (c : CuUpContext) (x : CuUpBearer) (o : ContextStep P) (a : Answer M P CuUpBearer) → context_of r ue ≡ Some c
      → find bearer_cmp c.bearers bearer ≡ Some x → BearersInOrder r → done way o (model_with ue c bearer x) ≡ kept_in (model_with ue c bearer x) a
      → Does (carried_out way ue bearer o (at_bearer r)) (with_bearer way r ue c bearer a)
  bearer_here r c x o (spent k) is there order does = tt
  bearer_here r c x o (gives os y) is there order does =
      subst (λ (p : Model). Does (carried_out way ue bearer o p) (with_bearer way r ue c bearer (gives os y)))
      (sym (ap (model_in ue bearer) is ∙ ap (model_of_bearer ue c bearer) there))
      (subst (λ (k : Answer M P Model). Does k (with_bearer way r ue c bearer (gives os y))) (sym does) (
        (
          refl,
          ap (model_in ue bearer) (find-put-same ue_total r.contexts ue now)
              ∙ ap (model_of_bearer ue now bearer) (find-put-same bearer_total c.bearers bearer y),
        ),
        put_sorted r ue c bearer y is order,
      ))
    where
      now : CuUpContext
      now = record c { bearers = put bearer_cmp c.bearers bearer y }

  pub bearer_beside : (r : Record) (c : CuUpContext) (b : BearerId) (a : Answer M P CuUpBearer) → eq_by_cmp bearer_cmp bearer b ≡ false
      → context_of r ue ≡ Some c → BearersInOrder r → Off way ue bearer a → Keeps r (with_bearer way r ue c b a)
  bearer_beside r c b (spent k) other is order off = tt
  bearer_beside r c b (gives os y) other is order off = (
    (
      off,
      ap (model_in ue bearer) (find-put-same ue_total r.contexts ue now)
          ∙ ap (model_of_bearer ue now bearer) (find-put-other bearer_total c.bearers b y bearer other)
          ∙ by (find bearer_cmp c.bearers bearer) ∙ ap (model_in ue bearer) (sym is),
    ),
    put_sorted r ue c b y is order,
  )
    where
      now : CuUpContext
      now = record c { bearers = put bearer_cmp c.bearers b y }

      by : (q : Option CuUpBearer) → model_of_bearer ue now bearer q ≡ model_of_bearer ue c bearer q
      by None = refl
      by (Some x) = refl

  pub bearer_off : (u : UeId) → eq_by_cmp ue_cmp ue u ≡ false → (r : Record) (c : CuUpContext) (b : BearerId) (a : Answer M P CuUpBearer)
      → context_of r u ≡ Some c → BearersInOrder r → Off way ue bearer a → Keeps r (with_bearer way r u c b a)
  bearer_off u other r c b (spent k) is order off = tt
  bearer_off u other r c b (gives os y) is order off =
      ((off, put_off u other r (record c { bearers = put bearer_cmp c.bearers b y })), put_sorted r u c b y is order)

-- What is asked, one step after another: a setup is asked; a reply closes its request, and what waits longest is put; a tick.
use Rattle.std.proofs.Common.{inl, inr, ◌≡◌, ℕ, Bool, true, false, List, Option, Some, None, refl, sym, ap, ◌∙◌, subst}
use Rattle.std.specs.Prelude.{if◌then◌else◌}
use Rattle.std.specs.List.{AllByRecursion}
use Rattle.gnb_types.specs.declared.keys.Channel.{Channel}
use Rattle.gnb_types.specs.declared.reasons.DropReason.TheVariants.{Stale}
use Rattle.gnb_types.specs.Orders.{channel_cmp}
use Rattle.tables.specs.Tables.{IsSorted}
use Rattle.message_types.specs.declared.f1.F1.TheVariants as f1s
use Rattle.message_types.specs.declared.e1.E1Message.TheVariants as e1s
use Rattle.transaction_defs.specs.Callers.{Opened, opened_at, is_awaited, is_last, one_less, close, after_tick}
use Rattle.transaction_defs.specs.Callees.{Verdict, new, again, stale, verdict, taken, kept_reply}
use Rattle.unit_defs.specs.Ways.{Message, f1, e1, Way, Answer, gives, spent, ◌then◌, nothing, drops}
use Rattle.unit_defs.specs.Transactions.{with_instance, Waiting, Transactions, Asked, waits_at, ask, advance, answered_again, request_by, on_request, on_reply}
use Rattle.law_requests_act_once.specs.channel.Ends.{same_channel, Asking, asking_at}
use Rattle.law_requests_act_once.specs.channel.Exactly.{IfGives}
use Rattle.law_requests_act_once.proofs.channel.Keys.{channel_told}
use Rattle.law_requests_act_once.proofs.channel.Projections.{Asks, closed_asks}
use Rattle.law_requests_act_once.proofs.channel.Ticks.{aged_in, opened_after_tick}
use Rattle.law_requests_act_once.proofs.cu_cp_deadlines.Changes.{begun_on, Becomes, IsNext, ask_becomes, advance_becomes}
use Rattle.law_requests_act_once.proofs.cu_cp_deadlines.Says.{all_push}
use Rattle.law_requests_act_once.specs.unit_setups.Setups.{IsSetup, SpellsSetup, AsksForSetup, Grows, GoesOn}

-- an instance makes no other request of it
setup_instance : {C : Type 0} (n : ℕ) (m : Message C) → IsSetup m → IsSetup (with_instance n m)
unfolding with_instance
setup_instance n (f1 (f1s.F1SetupRequest instance name)) is = tt
setup_instance n (e1 (e1s.E1SetupRequest instance name)) is = tt
setup_instance n m is = absurd is

module _ {M C P : Type 0} (way : Way M C P) where
  grows_same : (a b : Asking M C) → b ≡ a → Grows way a b
  grows_same a b same = subst (λ (x : Asking M C). Grows way a x) (sym same) (record { setups = λ s. s; one_more = inl refl })

  pub goes_same : (t u : Transactions M C) → ((c : Channel) → asking_at u c ≡ asking_at t c) → GoesOn way t u
  goes_same t u same c = grows_same (asking_at t c) (asking_at u c) (same c)

  goes_by : (t u : Transactions M C) (c : Channel) (a : Asking M C) → Asks t u c a → Grows way (asking_at t c) a → GoesOn way t u
  goes_by t u c a asks grows k = by (same_channel k c) refl
    where
      by : (b : Bool) → same_channel k c ≡ b → Grows way (asking_at t k) (asking_at u k)
      by true e =
          subst (λ (q : Channel). Grows way (asking_at t q) (asking_at u q)) (sym (channel_told k c e))
          (subst (λ (x : Asking M C). Grows way (asking_at t c) x) (sym asks.here) grows)
      by false e = grows_same (asking_at t k) (asking_at u k) (asks.apart k e)

  begun_grows : (a : Asking M C) (w : Waiting C) (n : ℕ) (x : M) (ws : List (Waiting C)) → IsNext way a.last w n x
      → (AsksForSetup way a → IsSetup w.message × AllByRecursion (λ (v : Waiting C). IsSetup v.message) ws) → Grows way a (begun_on w n x ws)
  begun_grows a w n x ws is setups = record {
    setups = λ s. (
      λ o e y f. let same : x ≡ y = cc in (with_instance n w.message, setup_instance n w.message (setups s).0, sym same ∙ is.1),
      (setups s).1,
    );
    one_more = inr (is.0, _, refl);
  }

  pub ask_goes : (t : Transactions M C) (c : Channel) (w : Waiting C) → IsSetup w.message → IfGives (λ a. GoesOn way t a.transactions) (ask way t c w)
  unfolding waits_at
  ask_goes t c w is = by (ask way t c w) (ask_becomes way t c (λ x i. Grows way (asking_at t c) x) w (record { setups = λ s. s; one_more = inl refl })
      (record { setups = λ s. (s.0, all_push (λ (v : Waiting C). IsSetup v.message) (waits_at t c) w s.1 is); one_more = inl refl })
      (λ n x z. begun_grows (asking_at t c) w n x (waits_at t c) z (λ s. (is, s.1))))
    where
      by : (x : Answer M P (Asked M C)) → IfGives (λ a. Becomes way t c (λ x i. Grows way (asking_at t c) x) a) x → IfGives (λ a. GoesOn way t a.transactions) x
      by (gives os a) z = goes_by t a.transactions c z.asking z.asks z.fits
      by (spent k) z = tt

  -- the reply closes its request, and what waits longest is put
  closed_then : (t u : Transactions M C) (c : Channel) → GoesOn way (record t { caller = close t.caller c }) u → GoesOn way t u
  unfolding waits_at
  closed_then t u c goes k = by (same_channel k c) refl
    where
      shut : Transactions M C
      shut = record t { caller = close t.caller c }

      a : Asks t shut c (record (asking_at t c) { opened = None })
      a = closed_asks t c

      from_shut : Grows way (record (asking_at t c) { opened = None }) (asking_at u c) → Grows way (asking_at t c) (asking_at u c)
      from_shut grows = record { setups = λ s. grows.setups ((λ o e. absurd cc), s.1); one_more = grows.one_more }

      by : (b : Bool) → same_channel k c ≡ b → Grows way (asking_at t k) (asking_at u k)
      by true e =
          subst (λ (q : Channel). Grows way (asking_at t q) (asking_at u q)) (sym (channel_told k c e))
          (from_shut (subst (λ (x : Asking M C). Grows way x (asking_at u c)) a.here (goes c)))
      by false e = subst (λ (x : Asking M C). Grows way x (asking_at u k)) (a.apart k e) (goes k)

  advance_goes : (t : Transactions M C) (c : Channel) → IfGives (λ a. GoesOn way t a.transactions) (advance way t c)
  unfolding waits_at
  advance_goes t c = by (advance way t c) (advance_becomes way t c (λ x i. Grows way (asking_at t c) x) (record { setups = λ s. s; one_more = inl refl })
      (λ w ws is. (
        record { setups = λ s. (s.0, (subst (λ (vs : List (Waiting C)). AllByRecursion (λ (v : Waiting C). IsSetup v.message) vs) is s.1).1); one_more = inl refl },
        λ n x z. begun_grows (asking_at t c) w n x ws z (λ s. subst (λ (vs : List (Waiting C)). AllByRecursion (λ (v : Waiting C). IsSetup v.message) vs) is s.1),
      )))
    where
      by : (x : Answer M P (Asked M C)) → IfGives (λ a. Becomes way t c (λ x i. Grows way (asking_at t c) x) a) x → IfGives (λ a. GoesOn way t a.transactions) x
      by (gives os a) z = goes_by t a.transactions c z.asking z.asks z.fits
      by (spent k) z = tt

  -- ---- a tick

  pub ticked_goes : (t : Transactions M C) → IsSorted channel_cmp t.caller.opened → GoesOn way t (record t { caller = after_tick t.caller })
  unfolding waits_at after_tick
  ticked_goes t sorted c = record {
    setups = λ s. ((λ o e x f. s_open s.0 o x (sym (opened_after_tick t.caller c sorted) ∙ e) f), s.1);
    one_more = inl refl;
  }
    where
      aged : (o q : Opened M) (last : Bool) → (if last then None else Some (record o { deadline = one_less o.deadline })) ≡ Some q → q.request ≡ o.request
      aged o q true e = absurd cc
      aged o q false e = let same : record o { deadline = one_less o.deadline } ≡ q = cc in ap (λ (x : Opened M). x.request) (sym same)

      by : (p : Option (Opened M)) → opened_at t.caller c ≡ p → (q : Opened M) → aged_in p ≡ Some q → (o : Opened M) × (opened_at t.caller c ≡ Some o) × (q.request ≡ o.request)
      by None is q e = absurd cc
      by (Some o) is q e = (o, is, aged o q (is_last o.deadline) e)

      s_open : ((o : Opened M) → opened_at t.caller c ≡ Some o → (x : M) → o.request ≡ Some x → SpellsSetup way x) → (q : Opened M) (x : M)
          → aged_in (opened_at t.caller c) ≡ Some q → q.request ≡ Some x → SpellsSetup way x
      s_open s q x e f = let was = by (opened_at t.caller c) refl q e in s was.0 was.1 x (sym was.2 ∙ f)

  -- ---- what a unit keeps then

  module _ {R : Type 0} (kept : R → Transactions M C) (t : Transactions M C) where
    abbrev pub Goes : Answer M P R → Type 0
    Goes a = IfGives (λ r. GoesOn way t (kept r)) a

    pub asked_goes : (x : Answer M P (Asked M C)) (f : Asked M C → R) → ((a : Asked M C) → kept (f a) ≡ a.transactions)
        → IfGives (λ a. GoesOn way t a.transactions) x → Goes (x then (λ a. nothing (f a)))
    asked_goes (gives os a) f keeps goes = subst (λ (u : Transactions M C). GoesOn way t u) (sym (keeps a)) goes
    asked_goes (spent k) f keeps goes = tt

    pub reply_goes : (same : R) → kept same ≡ t → (c : Channel) (i : ℕ) (f : Asked M C → R) → ((a : Asked M C) → kept (f a) ≡ a.transactions)
        → Goes (on_reply way same t c i (advance way (record t { caller = close t.caller c }) c then (λ a. nothing (f a))))
    unfolding on_reply
    reply_goes same is c i f keeps = by (is_awaited t.caller c i)
      where
        shut : Transactions M C
        shut = record t { caller = close t.caller c }

        closes : (x : Answer M P (Asked M C)) → IfGives (λ a. GoesOn way shut a.transactions) x → IfGives (λ a. GoesOn way t a.transactions) x
        closes (gives os a) goes = closed_then t a.transactions c goes
        closes (spent k) goes = tt

        by : (b : Bool) → Goes (if b then advance way shut c then (λ a. nothing (f a)) else drops Stale same)
        by true = asked_goes (advance way shut c) f keeps (closes (advance way shut c) (advance_goes shut c))
        by false = goes_same t (kept same) (λ k. ap (λ (u : Transactions M C). asking_at u k) is)

    pub request_goes : (same : R) → kept same ≡ t → (c : Channel) (i : ℕ) (row : Transactions M C → Answer M P R)
        → Goes (row (record t { callee = taken t.callee c i })) → Goes (on_request way same t c i row)
    unfolding on_request
    request_goes same is c i row made = by (verdict t.callee c i)
      where
        whole : GoesOn way t (kept same)
        whole = goes_same t (kept same) (λ k. ap (λ (u : Transactions M C). asking_at u k) is)

        kept_again : (y : Option M) → Goes (answered_again way same c y)
        kept_again None = whole
        kept_again (Some y) = whole

        by : (v : Verdict) → Goes (request_by way same t c i row v)
        by new = made
        by again = kept_again (kept_reply t.callee c)
        by stale = whole

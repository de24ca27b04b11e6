-- What each word of requests and replies changes: the ends at its own key, and nothing at any other.
use Rattle.std.proofs.Common.{◌≡◌, ℕ, Bool, false, cond, List, [], ◌∷◌, Option, Some, None, refl, sym, ap, ◌∙◌, subst}
use Rattle.std.specs.Prelude.{unwrap_or}
use Rattle.std.proofs.lemmas.Bool.{eq-eqb}
use Rattle.gnb_types.specs.declared.keys.Channel.{Channel}
use Rattle.gnb_types.specs.Orders.{channel_cmp}
use Rattle.gnb_types.proofs.OrderLemmas.{channel_total}
use Rattle.tables.specs.Tables.{find, put, without, at, IsSorted}
use Rattle.tables.proofs.TableLaws.{find-put-same, find-put-other, find-without-same, find-without-other, sorted-put, sorted-without}
use Rattle.transaction_defs.specs.Callers.{Opened, Caller, opened_at, keep_request, with_request, close}
use Rattle.transaction_defs.specs.Callees.{Kept, Callee, kept_at, taken, keep, with_reply, keep_for, is_newest, newest, newest_in}
use Rattle.unit_defs.specs.Transactions.{Waiting, Transactions, waits_at, with_waiting}
use Rattle.law_requests_act_once.specs.channel.Ends.{same_channel, Asking, asking_at, Answering, answering_at, answering_in}

-- u is t, but for what is asked at c, which is a
pub record Asks {M C : Type 0} (t u : Transactions M C) (c : Channel) (a : Asking M C) : Type 0 where
  pub here : asking_at u c ≡ a
  pub apart : (k : Channel) → same_channel k c ≡ false → asking_at u k ≡ asking_at t k
  pub callee : u.callee ≡ t.callee
  pub sorted : IsSorted channel_cmp t.caller.opened → IsSorted channel_cmp u.caller.opened

-- u is t, but for what is answered at c, which is b
pub record Tells {M C : Type 0} (t u : Transactions M C) (c : Channel) (b : Answering M) : Type 0 where
  pub here : answering_at u c ≡ b
  pub apart : (k : Channel) → same_channel k c ≡ false → answering_at u k ≡ answering_at t k
  pub caller : u.caller ≡ t.caller
  pub waiting : u.waiting ≡ t.waiting

abbrev pub new_opened : {M : Type 0} → Option ℕ → ℕ → Option M → Opened M
new_opened deadline instance request = record { instance = instance; deadline = deadline; request = request }

module _ {X : Type 0} (d : X) (m : List (Channel × X)) (c : Channel) where
  at_put_here : (v : X) → at channel_cmp d (put channel_cmp m c v) c ≡ v
  unfolding at
  at_put_here v = ap (λ (x : Option X). unwrap_or x d) (find-put-same channel_total m c v)

  at_put_apart : (v : X) (k : Channel) → same_channel k c ≡ false → at channel_cmp d (put channel_cmp m c v) k ≡ at channel_cmp d m k
  unfolding at
  at_put_apart v k other = ap (λ (x : Option X). unwrap_or x d) (find-put-other channel_total m c v k other)

  at_without_here : at channel_cmp d (without channel_cmp m c) c ≡ d
  unfolding at
  at_without_here = ap (λ (x : Option X). unwrap_or x d) (find-without-same channel_total m c)

  at_without_apart : (k : Channel) → same_channel k c ≡ false → at channel_cmp d (without channel_cmp m c) k ≡ at channel_cmp d m k
  unfolding at
  at_without_apart k other = ap (λ (x : Option X). unwrap_or x d) (find-without-other channel_total m c k other)

module _ {M C : Type 0} where
  -- ---- at the initiator

  abbrev pub begun_at : Transactions M C → Channel → Option ℕ → ℕ → Transactions M C
  begun_at t c deadline instance = record t {
    caller = record {
      last = put channel_cmp t.caller.last c instance;
      opened = put channel_cmp t.caller.opened c (record { instance = instance; deadline = deadline; request = None });
    };
  }

  abbrev pub begun_and_kept : Transactions M C → Channel → Option ℕ → ℕ → M → Transactions M C
  begun_and_kept t c deadline instance x = record t { caller = keep_request (begun_at t c deadline instance).caller c x }

  kept_as : (t : Transactions M C) (c : Channel) (deadline : Option ℕ) (n : ℕ) (x : M)
      → keep_request (begun_at t c deadline n).caller c x
      ≡ record {
        last = put channel_cmp t.caller.last c n;
        opened = put channel_cmp (put channel_cmp t.caller.opened c (new_opened deadline n None)) c (new_opened deadline n (Some x));
      }
  unfolding keep_request opened_at
  kept_as t c deadline n x =
      ap (with_request (begun_at t c deadline n).caller c x) (find-put-same channel_total t.caller.opened c (new_opened deadline n None))

  abbrev pub begun_asking : Transactions M C → Channel → Option ℕ → ℕ → M → Asking M C
  begun_asking t c deadline n x = record { last = n; opened = Some (new_opened deadline n (Some x)); waits = waits_at t c }

  pub begun_asks : (t : Transactions M C) (c : Channel) (deadline : Option ℕ) (n : ℕ) (x : M)
      → Asks t (begun_and_kept t c deadline n x) c (begun_asking t c deadline n x)
  unfolding opened_at waits_at
  begun_asks t c deadline n x = record { here = here; apart = apart; callee = refl; sorted = sorted }
    where
      is : keep_request (begun_at t c deadline n).caller c x ≡ record {
        last = put channel_cmp t.caller.last c n;
        opened = put channel_cmp (put channel_cmp t.caller.opened c (new_opened deadline n None)) c (new_opened deadline n (Some x));
      }
      is = kept_as t c deadline n x

      here : asking_at (begun_and_kept t c deadline n x) c ≡ begun_asking t c deadline n x
      here = λ i. record {
        last = (ap (λ (r : Caller M). at channel_cmp 0 r.last c) is ∙ at_put_here 0 t.caller.last c n) i;
        opened = (ap (λ (r : Caller M). find channel_cmp r.opened c) is
            ∙ find-put-same channel_total (put channel_cmp t.caller.opened c (new_opened deadline n None)) c (new_opened deadline n (Some x))) i;
        waits = at channel_cmp [] t.waiting c;
      }

      apart : (k : Channel) → same_channel k c ≡ false → asking_at (begun_and_kept t c deadline n x) k ≡ asking_at t k
      apart k other = λ i. record {
        last = (ap (λ (r : Caller M). at channel_cmp 0 r.last k) is ∙ at_put_apart 0 t.caller.last c n k other) i;
        opened = (ap (λ (r : Caller M). find channel_cmp r.opened k) is
            ∙ find-put-other channel_total (put channel_cmp t.caller.opened c (new_opened deadline n None)) c (new_opened deadline n (Some x)) k other
            ∙ find-put-other channel_total t.caller.opened c (new_opened deadline n None) k other) i;
        waits = at channel_cmp [] t.waiting k;
      }

      sorted : IsSorted channel_cmp t.caller.opened → IsSorted channel_cmp (begun_and_kept t c deadline n x).caller.opened
      sorted s = subst (λ (r : Caller M). IsSorted channel_cmp r.opened) (sym is)
          (sorted-put channel_total (put channel_cmp t.caller.opened c (new_opened deadline n None)) c (new_opened deadline n (Some x))
          (sorted-put channel_total t.caller.opened c (new_opened deadline n None) s))

  pub waiting_asks : (t : Transactions M C) (c : Channel) (ws : List (Waiting C))
      → Asks t (with_waiting t c ws) c (record (asking_at t c) { waits = ws })
  unfolding with_waiting waits_at
  waiting_asks t c [] = record {
    here = λ i. record (asking_at t c) { waits = at_without_here [] t.waiting c i };
    apart = λ k other i. record (asking_at t k) { waits = at_without_apart [] t.waiting c k other i };
    callee = refl;
    sorted = λ s. s;
  }
  waiting_asks t c (w ∷ ws) = record {
    here = λ i. record (asking_at t c) { waits = at_put_here [] t.waiting c (w ∷ ws) i };
    apart = λ k other i. record (asking_at t k) { waits = at_put_apart [] t.waiting c (w ∷ ws) k other i };
    callee = refl;
    sorted = λ s. s;
  }

  abbrev pub closed_at : Transactions M C → Channel → Transactions M C
  closed_at t c = record t { caller = close t.caller c }

  pub closed_asks : (t : Transactions M C) (c : Channel) → Asks t (closed_at t c) c (record (asking_at t c) { opened = None })
  unfolding close opened_at waits_at
  closed_asks t c = record {
    here = λ i. record (asking_at t c) { opened = find-without-same channel_total t.caller.opened c i };
    apart = λ k other i. record (asking_at t k) { opened = find-without-other channel_total t.caller.opened c k other i };
    callee = refl;
    sorted = λ s. sorted-without channel_total t.caller.opened c s;
  }

  -- one after another at the same key
  pub asks_then : {t u v : Transactions M C} {c : Channel} {a b : Asking M C} → Asks t u c a → Asks u v c b → Asks t v c b
  asks_then p q = record {
    here = q.here;
    apart = λ k other. q.apart k other ∙ p.apart k other;
    callee = q.callee ∙ p.callee;
    sorted = λ s. q.sorted (p.sorted s);
  }

  pub asks_nothing : (t : Transactions M C) (c : Channel) → Asks t t c (asking_at t c)
  asks_nothing t c = record { here = refl; apart = λ k other. refl; callee = refl; sorted = λ s. s }

  -- ---- at the responder

  pub taken_tells : (t : Transactions M C) (c : Channel) (i : ℕ)
      → Tells t (record t { callee = taken t.callee c i }) c (record { newest = i; kept = None })
  unfolding taken kept_at
  taken_tells t c i = record {
    here = ap answering_in (find-put-same channel_total t.callee c (record { instance = i; reply = None }));
    apart = λ k other. ap answering_in (find-put-other channel_total t.callee c (record { instance = i; reply = None }) k other);
    caller = refl;
    waiting = refl;
  }

  -- the reply of the newest instance
  pub kept_tells : (t : Transactions M C) (c : Channel) (i : ℕ) (y : M) → newest t.callee c ≡ Some i
      → Tells t (record t { callee = keep t.callee c y }) c (record { newest = i; kept = Some y })
  unfolding newest keep kept_at
  kept_tells t c i y is = by (find channel_cmp t.callee c) refl is
    where
      by : (k : Option (Kept M)) → find channel_cmp t.callee c ≡ k → newest_in k ≡ Some i
          → Tells t (record t { callee = with_reply t.callee c y k }) c (record { newest = i; kept = Some y })
      by None found none = absurd cc
      by (Some k) found some =
          let same : k.instance ≡ i = cc in
          record {
            here = ap answering_in (find-put-same channel_total t.callee c (record k { reply = Some y })) ∙ (λ j. record { newest = same j; kept = Some y });
            apart = λ q other. ap answering_in (find-put-other channel_total t.callee c (record k { reply = Some y }) q other);
            caller = refl;
            waiting = refl;
          }

  kept_late_is : (t : Transactions M C) (c : Channel) (i : ℕ) (y : M) → newest t.callee c ≡ Some i → keep_for t.callee c i y ≡ keep t.callee c y
  unfolding keep_for
  kept_late_is t c i y is =
      ap (λ (n : Option ℕ). cond (is_newest n i) (keep t.callee c y) t.callee) is
      ∙ ap (λ (b : Bool). cond b (keep t.callee c y) t.callee) (eq-eqb i i refl)

  pub kept_late_tells : (t : Transactions M C) (c : Channel) (i : ℕ) (y : M) → newest t.callee c ≡ Some i
      → Tells t (record t { callee = keep_for t.callee c i y }) c (record { newest = i; kept = Some y })
  kept_late_tells t c i y is =
      subst (λ (e : Callee M). Tells t (record t { callee = e }) c (record { newest = i; kept = Some y })) (sym (kept_late_is t c i y is))
      (kept_tells t c i y is)

-- What may be named may be named later; what a unit's contexts name of its own tunnels may be.
use Rattle.std.proofs.Common.{◌≡◌, ◌≤◌, ◌==◌, ℕ, ◌+◌, Bool, true, false, cond, ◌&&◌, ◌||◌, List, [], ◌∷◌, Option, Some, None, ◌⊎◌, inl, inr, refl, sym, ap, ◌∙◌, arith, eq-eqb}
use Rattle.std.proofs.lemmas.Bool.{and_parts}
use Rattle.std.specs.Prelude.{nat_lt, unwrap_or}
use Rattle.std.specs.Ordering.{nat_cmp}
use Rattle.std.specs.List.{AllByRecursion}
use Rattle.std.specs.BTreeMap.{is_at}
use Rattle.std.specs.Map.{keys_of}
use Rattle.std.proofs.lemmas.Map.Keys.{sorted_tail}
use Rattle.gnb_types.specs.declared.names.Gnb.{Gnb}
use Rattle.gnb_types.specs.declared.names.Gnb.TheVariants.{A, B}
use Rattle.gnb_types.specs.declared.names.NodeId.TheVariants.{CuUp as up_id, Du as du_id}
use Rattle.gnb_types.specs.declared.names.BearerId.{BearerId}
use Rattle.gnb_types.specs.Orders.{node_cmp, bearer_cmp}
use Rattle.message_types.specs.declared.rrc.Token.{Token}
use Rattle.scenario_text.specs.declared.event.Event.{Event}
use Rattle.tables.specs.Tables.{find, IsSorted, at}
use Rattle.unit_defs.specs.Ways.{Message, Pdu, Load}
use Rattle.unit_defs.specs.CuUpRecords.{TunnelKind, n3, f1u_uplink, forwarding_down, forwarding_up, CuUpBearer, CuUpTunnel, CuUp}
use Rattle.unit_defs.specs.CuUpBearers.{is_one_of}
use Rattle.unit_defs.specs.CuUp.{new_cu_up}
use Rattle.unit_defs.specs.Du.{DuTunnel, Du, new_du}
use Rattle.run_defs.specs.Units.{Units, new_units, cu_up_of, du_of}
use Rattle.run_defs.specs.States.{State, new_state}
use Rattle.run_defs.specs.Runs.{Reading, plain_world}
use Rattle.run_defs.specs.Written.{Written}
use Rattle.proof_run_steps.specs.steps.Reached.{reached}
use Rattle.proof_run_steps.specs.teids.Given.{below, GrowsTo, GiveOnce}
use Rattle.proof_run_steps.proofs.teids.Runs.{given_once}
use Rattle.law_tunnels_are_owned.specs.owner_facts.Owned.{ends_of, has_such, has_end, up_context_names, cu_up_names, is_downlink, du_context_names, du_names, CuUpOwns, DuOwns, AreOwned}
use Rattle.law_tunnels_are_owned.proofs.owner_facts.Found.{has_later, has_first}
use Rattle.law_tunnels_are_owned.proofs.tunnel_owners.Placed.{first_owned}
use Rattle.law_tunnels_are_owned.proofs.tunnel_owners.Runs.{owned_later}
use Rattle.proof_unit_steps.specs.tunnel_names.Names.{by_book}
use Rattle.proof_unit_steps.specs.tunnels.Units.{Each, BearerHolds, CuUpHolds, DuHolds, NoneIsFree}
use Rattle.law_tunnels_are_owned.specs.tunnel_book.Book.{is_kind, is_up_owner, is_du_owner, all_such, may_be, book_of, Keeps, HasItsOwn}

both_true : (a b : Bool) → a ≡ true → b ≡ true → a && b ≡ true
both_true true b p q = q
both_true false b p q = absurd cc

or_right : (a b : Bool) → b ≡ true → a || b ≡ true
or_right true b p = refl
or_right false b p = p

less_true : (a b : ℕ) → a + 1 ≤ b → nat_lt a b ≡ true
less_true a b h = grind arith

less_is : (a b : ℕ) → nat_lt a b ≡ true → a + 1 ≤ b
less_is a b h = grind arith

-- ---- later

module _ {X : Type 0} (test : X → Bool) where
  later_may : (n : ℕ) (ts : List (ℕ × X)) (m : ℕ) (us : List (ℕ × X)) (teid : ℕ) → GrowsTo n ts m us → may_be test n ts teid ≡ true → may_be test m us teid ≡ true
  later_may n ts m us teid grows h = both_true (nat_lt teid (below m)) _ (less_true teid (below m) (omega (arith, given, grows.0))) (by (find nat_cmp us teid) refl)
    where
      parts : (nat_lt teid (below n) ≡ true) × (all_such test (find nat_cmp ts teid) ≡ true)
      parts = and_parts (nat_lt teid (below n)) (all_such test (find nat_cmp ts teid)) h

      given : teid + 1 ≤ below n
      given = less_is teid (below n) parts.0

      from : (x : X) → (find nat_cmp ts teid ≡ Some x) ⊎ ((below n ≤ teid) × (teid + 1 ≤ below m)) → test x ≡ true
      from x (inl there) = sym (ap (all_such test) there) ∙ parts.1
      from x (inr new) = let low = new.0 in absurd (omega (arith, low, given))

      by : (o : Option X) → find nat_cmp us teid ≡ o → all_such test o ≡ true
      by None e = refl
      by (Some x) e = from x (grows.1 teid x e)

module _ {M C : Type 0} where
  pub books_keep : (u v : Units M C) → GiveOnce u v → Keeps (book_of u) (book_of v)
  books_keep u v once = record {
    up = λ g n kind ue bearer teid h.
        later_may (is_up_owner kind ue bearer) (cu_up_of u g n).next_teid (cu_up_of u g n).tunnels (cu_up_of v g n).next_teid (cu_up_of v g n).tunnels teid (once.0 g n) h;
    du = λ g n ue bearer teid h.
        later_may (is_du_owner ue bearer) (du_of u g n).next_teid (du_of u g n).tunnels (du_of v g n).next_teid (du_of v g n).tunnels teid (once.1 g n) h;
  }

-- ---- a unit's own tunnels

-- what is open as this owner's may be named so
module _ {X : Type 0} (test : X → Bool) where
  open_may : (n : ℕ) (ts : List (ℕ × X)) (teid : ℕ) (owner : X) → find nat_cmp ts teid ≡ Some owner → teid + 1 ≤ below n → test owner ≡ true
      → may_be test n ts teid ≡ true
  open_may n ts teid owner there given h = both_true (nat_lt teid (below n)) _ (less_true teid (below n) given) (ap (all_such test) there ∙ h)

same_kind : (kind : TunnelKind) → is_kind kind kind ≡ true
same_kind n3 = refl
same_kind f1u_uplink = refl
same_kind forwarding_down = refl
same_kind forwarding_up = refl

all_of : (Q : ℕ → Type 0) (teids : List ℕ) → ((teid : ℕ) → is_one_of teids teid ≡ true → Q teid) → AllByRecursion Q teids
all_of Q [] each = tt
all_of Q (t ∷ ts) each =
    (each t (ap (λ (b : Bool). b || is_one_of ts t) (eq-eqb t t refl)), all_of Q ts (λ teid h. each teid (or_right (t == teid) (is_one_of ts teid) h)))

-- the bearers of a context, which are in ascending order
module _ {X : Type 0} (test : ℕ → X → Bool) where
  each_found : (R : BearerId → ℕ → Type 0) (es : List (BearerId × X)) → IsSorted bearer_cmp es
      → ((k : BearerId) (q : ℕ) → has_such (test q) (find bearer_cmp es k) ≡ true → R k q)
      → Each (λ k x. (q : ℕ) → test q x ≡ true → R k q) es
  each_found R [] sorted named = tt
  each_found R (e ∷ es) sorted named = (
    λ q h. named e.0 q (has_first (test q) e es ∙ h),
    each_found R es (sorted_tail bearer_cmp e.0 (keys_of es) sorted) (λ k q h. named k q (has_later (test q) e es k sorted h)),
  )

each_mapped : {X : Type 0} (Q R : BearerId → X → Type 0) (es : List (BearerId × X)) → ((k : BearerId) (x : X) → Q k x → R k x) → Each Q es → Each R es
each_mapped Q R [] f all = tt
each_mapped Q R (e ∷ es) f all = (f e.0 e.1 all.0, each_mapped Q R es f all.1)

each_both : {X : Type 0} (Q R : BearerId → X → Type 0) (es : List (BearerId × X)) → Each Q es → Each R es → Each (λ k x. Q k x × R k x) es
each_both Q R [] p q = tt
each_both Q R (e ∷ es) p q = ((p.0, q.0), each_both Q R es p.1 q.1)

module _ {M C : Type 0} (units : Units M C) (gnb : Gnb) (number : ℕ) where
  pub up_holds : CuUpOwns (cu_up_of units gnb number) → CuUpHolds (by_book (book_of units)) gnb number (cu_up_of units gnb number)
  up_holds p ue c there =
      each_mapped (λ k b. (Ends n3 k b × Ends f1u_uplink k b) × (Ends forwarding_down k b × Ends forwarding_up k b))
      (BearerHolds (by_book (book_of units)) gnb number ue) c.bearers
      (λ k b h. record {
        paths = all_of (May n3 k) (ends_of n3 b) h.0.0;
        uplinks = all_of (May f1u_uplink k) (ends_of f1u_uplink b) h.0.1;
        down = all_of (May forwarding_down k) (ends_of forwarding_down b) h.1.0;
        up = all_of (May forwarding_up k) (ends_of forwarding_up b) h.1.1;
      })
      (each_both (λ k b. Ends n3 k b × Ends f1u_uplink k b) (λ k b. Ends forwarding_down k b × Ends forwarding_up k b) c.bearers
      (each_both (Ends n3) (Ends f1u_uplink) c.bearers (of_kind n3) (of_kind f1u_uplink))
      (each_both (Ends forwarding_down) (Ends forwarding_up) c.bearers (of_kind forwarding_down) (of_kind forwarding_up)))
    where
      May : TunnelKind → BearerId → ℕ → Type 0
      May kind k q = (book_of units).up gnb number kind ue k q ≡ true

      Ends : TunnelKind → BearerId → CuUpBearer → Type 0
      Ends kind k b = (q : ℕ) → is_one_of (ends_of kind b) q ≡ true → May kind k q

      may : (kind : TunnelKind) (k : BearerId) (q : ℕ) → has_end kind q (find bearer_cmp c.bearers k) ≡ true → May kind k q
      may kind k q h =
          let owner : CuUpTunnel = record { ue = ue; bearer = k; kind = kind; context = c.instance } in
          let named : cu_up_names (cu_up_of units gnb number).contexts owner q ≡ true =
          ap (up_context_names owner q) there ∙ both_true (c.instance == c.instance) _ (eq-eqb c.instance c.instance refl) h in
          let open_there : find nat_cmp (cu_up_of units gnb number).tunnels q ≡ Some owner = p.0.stands q owner named in
          open_may (is_up_owner kind ue k) (cu_up_of units gnb number).next_teid (cu_up_of units gnb number).tunnels q owner open_there (p.2 q owner open_there)
          (both_true (ue.0 == ue.0 && k.0 == k.0) _ (both_true (ue.0 == ue.0) _ (eq-eqb ue.0 ue.0 refl) (eq-eqb k.0 k.0 refl)) (same_kind kind))

      of_kind : (kind : TunnelKind) → Each (Ends kind) c.bearers
      of_kind kind = each_found (λ q b. is_one_of (ends_of kind b) q) (May kind) c.bearers (p.1 ue c there) (may kind)

  pub du_holds : DuOwns (du_of units gnb number) → DuHolds (by_book (book_of units)) gnb number (du_of units gnb number)
  du_holds p ue c there =
      each_mapped (λ k b. (q : ℕ) → (b.downlink == q) ≡ true → May k q) (λ k b. May k b.downlink) c.bearers
      (λ k b h. h b.downlink (eq-eqb b.downlink b.downlink refl)) (each_found (λ q b. b.downlink == q) May c.bearers (p.1 ue c there) may)
    where
      May : BearerId → ℕ → Type 0
      May k q = (book_of units).du gnb number ue k q ≡ true

      may : (k : BearerId) (q : ℕ) → is_downlink q (find bearer_cmp c.bearers k) ≡ true → May k q
      may k q h =
          let owner : DuTunnel = record { ue = ue; bearer = k } in
          let named : du_names (du_of units gnb number).contexts owner q ≡ true = ap (du_context_names owner q) there ∙ h in
          let open_there : find nat_cmp (du_of units gnb number).tunnels q ≡ Some owner = p.0.stands q owner named in
          open_may (is_du_owner ue k) (du_of units gnb number).next_teid (du_of units gnb number).tunnels q owner open_there (p.2 q owner open_there)
          (both_true (ue.0 == ue.0) _ (eq-eqb ue.0 ue.0 refl) (eq-eqb k.0 k.0 refl))

-- ---- TEID 0

module _ (M C : Type 0) where
  abbrev Up : Type 0
  Up = CuUp M C

  abbrev Node : Type 0
  Node = Du M C

  abbrev UpFree : Up → Type 0
  UpFree r = (test : CuUpTunnel → Bool) → may_be test r.next_teid r.tunnels 0 ≡ true

  abbrev DuFree : Node → Type 0
  DuFree r = (test : DuTunnel → Bool) → may_be test r.next_teid r.tunnels 0 ≡ true

  up_free : (g : Gnb) (k : ℕ) → UpFree (cu_up_of (new_units {M = M} {C = C}) g k)
  unfolding at find
  up_free g k =
      by (is_at (node_cmp (up_id g k)) (up_id A 1)) (is_at (node_cmp (up_id g k)) (up_id A 2)) (is_at (node_cmp (up_id g k)) (up_id B 1))
      (is_at (node_cmp (up_id g k)) (up_id B 2))
    where
      by : (a b c d : Bool) → UpFree (unwrap_or (cond a (Some (new_cu_up A 1)) (cond b (Some (new_cu_up A 2)) (cond c (Some (new_cu_up B 1))
          (cond d (Some (new_cu_up B 2)) None)))) (new_cu_up g k))
      by true b c d = λ test. refl
      by false true c d = λ test. refl
      by false false true d = λ test. refl
      by false false false true = λ test. refl
      by false false false false = λ test. refl

  du_free : (g : Gnb) (k : ℕ) → DuFree (du_of (new_units {M = M} {C = C}) g k)
  unfolding at find
  du_free g k =
      by (is_at (node_cmp (du_id g k)) (du_id A 1)) (is_at (node_cmp (du_id g k)) (du_id A 2)) (is_at (node_cmp (du_id g k)) (du_id B 1))
      (is_at (node_cmp (du_id g k)) (du_id B 2))
    where
      by : (a b c d : Bool) → DuFree (unwrap_or (cond a (Some (new_du A 1)) (cond b (Some (new_du A 2)) (cond c (Some (new_du B 1))
          (cond d (Some (new_du B 2)) None)))) (new_du g k))
      by true b c d = λ test. refl
      by false true c d = λ test. refl
      by false false true d = λ test. refl
      by false false false true = λ test. refl
      by false false false false = λ test. refl

first_free : (M C : Type 0) → NoneIsFree (by_book (book_of (new_units {M = M} {C = C})))
first_free M C = record {
  up = λ g n kind ue bearer. up_free M C g n (is_up_owner kind ue bearer);
  du = λ g n ue bearer. du_free M C g n (is_du_owner ue bearer);
}

-- ---- in a run

pub holds_own : (M C : Type 0) (units : Units M C) → AreOwned units → GiveOnce new_units units → HasItsOwn units
holds_own M C units owned once =
    let kept : Keeps (book_of new_units) (book_of units) = books_keep new_units units once in record {
      ups = λ g n. up_holds units g n (owned.0 g n);
      dus = λ g n. du_holds units g n (owned.1 g n);
      none = record {
        up = λ g n kind ue bearer. kept.up g n kind ue bearer 0 ((first_free M C).up g n kind ue bearer);
        du = λ g n ue bearer. kept.du g n ue bearer 0 ((first_free M C).du g n ue bearer);
      };
    }

module _ (reading : Reading) (events : List Event) where
  pub kept_in_run : (s t : State (Message Token) Token (Written (Load Pdu)) (Written Pdu)) → reached (plain_world reading) events s ≡ Some t
      → Keeps (book_of s.units) (book_of t.units)
  kept_in_run s t there = books_keep s.units t.units (given_once reading events s t there)

  pub own_in_run : (t : State (Message Token) Token (Written (Load Pdu)) (Written Pdu)) → reached (plain_world reading) events new_state ≡ Some t → HasItsOwn t.units
  own_in_run t there = holds_own (Message Token) Token t.units (owned_later reading events new_state t there (first_owned (Message Token) Token)) (given_once reading events new_state t there)

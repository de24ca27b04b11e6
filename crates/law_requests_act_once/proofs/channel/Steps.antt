-- What each kind of order does to a channel on which all holds.
use Rattle.std.proofs.Common.{arith, inl, inr, ◌≡◌, ◌<◌, ◌≤◌, ◌⊎◌, ℕ, ◌+◌, ◌-◌, true, false, List, [], ◌∷◌, Option, Some, None, refl, sym, ap, ◌∙◌, subst}
use Rattle.std.proofs.lemmas.Bool.{cases_lt}
use Rattle.transaction_defs.specs.Callers.{Opened}
use Rattle.unit_defs.specs.Transactions.{Waiting}
use Rattle.law_requests_act_once.specs.channel.Replies.{Talk}
use Rattle.law_requests_act_once.specs.channel.Ends.{Act, Ends, Note, asked, told, top, InOrder, Once}

-- C is B, and what o adds to it
pub record Grows {M : Type 0} (B : Note M → Type 0) (o : Option (Note M)) (C : Note M → Type 0) : Type 0 where
  pub stays : (n : Note M) → B n → C n
  pub new : (n : Note M) → o ≡ Some n → C n
  pub only : (n : Note M) → C n → B n ⊎ (o ≡ Some n)

module _ {M C P : Type 0} (talk : Talk M C P) where
  pub grown_order : {B D : Note M → Type 0} {o : Option (Note M)} (acts : List (Act M)) → Grows B o D → InOrder talk B acts → InOrder talk D acts
  grown_order [] g order = tt
  grown_order (a ∷ acts) g order = (order.0, order.1, g.stays (asked a.instance a.message) order.2, grown_order acts g order.3)

  back : {B D : Note M → Type 0} → Grows B None D → (n : Note M) → D n → B n
  back {B} {D} g n d = by (g.only n d)
    where
      by : B n ⊎ (None ≡ Some n) → B n
      by (inl b) = b
      by (inr e) = absurd cc

  -- nothing new was put
  pub once_same : {B D : Note M → Type 0} {s : Ends M C} → Grows B None D → Once talk s B → Once talk s D
  once_same {s = s} g k = record {
    one_request = λ i x y a b. k.one_request i x y (back g (asked i x) a) (back g (asked i y) b);
    given = λ i x a. k.given i x (back g (asked i x) a);
    was_put = λ i low high. let w = k.was_put i low high in (w.0, g.stays (asked i w.0) w.1);
    opened = λ o e. let w = k.opened o e in (w.0, (w.1.0, w.1.1, g.stays (asked o.instance w.1.0) w.1.2));
    unexpired = k.unexpired;
    taken = k.taken;
    one_reply = λ i x y a b. k.one_reply i x y (back g (told i x) a) (back g (told i y) b);
    after_taken = λ i x a. k.after_taken i x (back g (told i x) a);
    answers = λ i x y a b. k.answers i x y (back g (asked i x) a) (back g (told i y) b);
    kept_was_put = λ y e. g.stays (told s.answering.newest y) (k.kept_was_put y e);
    put_is_kept = λ y b. k.put_is_kept y (back g (told s.answering.newest y) b);
    closed = λ e f. let w = k.closed e f in (w.0, λ low. let v = w.1 low in (v.0, g.stays (told s.asking.last v.0) v.1));
    overtakes = λ i x low a none. k.overtakes i x low (back g (asked (i + 1) x) a) (λ y t. none y (g.stays (told i y) t));
    acts = grown_order s.acts g k.acts;
    newest_act = k.newest_act;
  }

  -- ---- a request is put, with the next instance

  abbrev pub begun : Ends M C → M → Option ℕ → List (Waiting C) → Ends M C
  begun s x deadline ws = record s {
    asking = record {
      last = s.asking.last + 1;
      opened = Some (record { instance = s.asking.last + 1; deadline = deadline; request = Some x });
      waits = ws;
    };
    expired = false;
  }

  told_back : {B D : Note M → Type 0} {n : ℕ} {x : M} → Grows B (Some (asked n x)) D → (i : ℕ) (y : M) → D (told i y) → B (told i y)
  told_back {B} {D} {n} {x} g i y d = by (g.only (told i y) d)
    where
      by : B (told i y) ⊎ (Some (asked n x) ≡ Some (told i y)) → B (told i y)
      by (inl b) = b
      by (inr e) = absurd cc

  asked_back : {B D : Note M → Type 0} {n : ℕ} {x : M} → Grows B (Some (asked n x)) D → (i : ℕ) (y : M) → D (asked i y)
      → B (asked i y) ⊎ ((n ≡ i) × (x ≡ y))
  asked_back {B} {D} {n} {x} g i y d = by (g.only (asked i y) d)
    where
      by : B (asked i y) ⊎ (Some (asked n x) ≡ Some (asked i y)) → B (asked i y) ⊎ ((n ≡ i) × (x ≡ y))
      by (inl b) = inl b
      by (inr e) = inr (cc, cc)

  module _ {B D : Note M → Type 0} {s : Ends M C} {x : M} (k : Once talk s B) (g : Grows B (Some (asked (s.asking.last + 1) x)) D) where
    one_with_new : (i : ℕ) (y z : M) → B (asked i y) ⊎ ((s.asking.last + 1 ≡ i) × (x ≡ y))
        → B (asked i z) ⊎ ((s.asking.last + 1 ≡ i) × (x ≡ z)) → y ≡ z
    one_with_new i y z (inl p) (inl q) = k.one_request i y z p q
    one_with_new i y z (inl p) (inr e) = let w = k.given i y p in absurd (omega arith)
    one_with_new i y z (inr e) (inl q) = let w = k.given i z q in absurd (omega arith)
    one_with_new i y z (inr e) (inr f) = sym e.1 ∙ f.1

    given_with_new : (i : ℕ) (y : M) → B (asked i y) ⊎ ((s.asking.last + 1 ≡ i) × (x ≡ y)) → (0 < i) × (i ≤ s.asking.last + 1)
    given_with_new i y (inl p) = let w = k.given i y p in (w.0, omega arith)
    given_with_new i y (inr e) = let h : s.asking.last + 1 ≡ i = e.0 in (omega arith, omega arith)

    put_with_new : (i : ℕ) → 0 < i → i ≤ s.asking.last + 1 → (y : M) × D (asked i y)
    put_with_new i low high = by (cases_lt s.asking.last i)
      where
        by : (s.asking.last < i) ⊎ (i ≤ s.asking.last) → (y : M) × D (asked i y)
        by (inl past) = let h : s.asking.last + 1 ≡ i = omega arith in (x, subst (λ (n : ℕ). D (asked n x)) h (g.new (asked (s.asking.last + 1) x) refl))
        by (inr within) = let w = k.was_put i low within in (w.0, g.stays (asked i w.0) w.1)

    overtakes_with_new : (talk.overtakes x ≡ true) ⊎ ((s.asking.opened ≡ None) × (s.expired ≡ false))
        → (i : ℕ) (y : M) → 0 < i → B (asked (i + 1) y) ⊎ ((s.asking.last + 1 ≡ i + 1) × (x ≡ y)) → ((z : M) → B (told i z) → ⊥)
        → talk.overtakes y ≡ true
    overtakes_with_new may i y low (inl p) none = k.overtakes i y low p none
    overtakes_with_new (inl o) i y low (inr e) none = ap talk.overtakes (sym e.1) ∙ o
    overtakes_with_new (inr c) i y low (inr e) none =
        let h : s.asking.last + 1 ≡ i + 1 = e.0 in
        let same : s.asking.last ≡ i = omega arith in
        let w = (k.closed c.0 c.1).1 (omega arith) in
        absurd (none w.0 (subst (λ (n : ℕ). B (told n w.0)) same w.1))

    -- a cancel, or any request where none is open and none expired
    pub once_begun : (deadline : Option ℕ) (ws : List (Waiting C))
        → (talk.overtakes x ≡ true) ⊎ ((s.asking.opened ≡ None) × (s.expired ≡ false)) → Once talk (begun s x deadline ws) D
    once_begun deadline ws may = record {
      one_request = λ i y z a b. one_with_new i y z (asked_back g i y a) (asked_back g i z b);
      given = λ i y a. given_with_new i y (asked_back g i y a);
      was_put = put_with_new;
      opened = λ o e.
          let n : s.asking.last + 1 ≡ o.instance = cc in
          (sym n, (x, cc, subst (λ (n : ℕ). D (asked n x)) n (g.new (asked (s.asking.last + 1) x) refl)));
      unexpired = λ o e. refl;
      taken = let w = k.taken in omega arith;
      one_reply = λ i y z a b. k.one_reply i y z (told_back g i y a) (told_back g i z b);
      after_taken = λ i y a. k.after_taken i y (told_back g i y a);
      answers = λ i y z a b. answered i y z (asked_back g i y a) (told_back g i z b);
      kept_was_put = λ y e. g.stays (told s.answering.newest y) (k.kept_was_put y e);
      put_is_kept = λ y b. k.put_is_kept y (told_back g s.answering.newest y b);
      closed = λ e f. absurd cc;
      overtakes = λ i y low a none. overtakes_with_new may i y low (asked_back g (i + 1) y a) (λ z t. none z (g.stays (told i z) t));
      acts = grown_order s.acts g k.acts;
      newest_act = k.newest_act;
    }
      where
        answered : (i : ℕ) (y z : M) → B (asked i y) ⊎ ((s.asking.last + 1 ≡ i) × (x ≡ y)) → B (told i z) → talk.answers y z ≡ true
        answered i y z (inl p) b = k.answers i y z p b
        answered i y z (inr e) b =
            let h : s.asking.last + 1 ≡ i = e.0 in
            let w = k.after_taken i z b in let v = k.taken in absurd (omega arith)

  -- ---- what the initiator does without putting a message

  module _ {B : Note M → Type 0} {s : Ends M C} (k : Once talk s B) where
    -- other requests wait
    pub once_waiting : (ws : List (Waiting C)) → Once talk (record s { asking = record s.asking { waits = ws } }) B
    once_waiting ws = record {
      one_request = k.one_request;
      given = k.given;
      was_put = k.was_put;
      opened = k.opened;
      unexpired = k.unexpired;
      taken = k.taken;
      one_reply = k.one_reply;
      after_taken = k.after_taken;
      answers = k.answers;
      kept_was_put = k.kept_was_put;
      put_is_kept = k.put_is_kept;
      closed = k.closed;
      overtakes = k.overtakes;
      acts = k.acts;
      newest_act = k.newest_act;
    }

    -- a reply to the open request was put
    pub once_closed : (o : Opened M) (y : M) → s.asking.opened ≡ Some o → B (told o.instance y)
        → Once talk (record s { asking = record s.asking { opened = None } }) B
    once_closed o y is b = record {
      one_request = k.one_request;
      given = k.given;
      was_put = k.was_put;
      opened = λ q e. absurd cc;
      unexpired = λ q e. absurd cc;
      taken = k.taken;
      one_reply = k.one_reply;
      after_taken = k.after_taken;
      answers = k.answers;
      kept_was_put = k.kept_was_put;
      put_is_kept = k.put_is_kept;
      closed = λ e f.
          let n = (k.opened o is).0 in
          let m : o.instance ≡ s.asking.last = n in
          let w = k.after_taken o.instance y b in
          let v = k.taken in
          (omega arith, λ low. (y, subst (λ (n : ℕ). B (told n y)) m b));
      overtakes = k.overtakes;
      acts = k.acts;
      newest_act = k.newest_act;
    }

    -- its deadline is nearer
    pub once_aged : (o : Opened M) (deadline : Option ℕ) → s.asking.opened ≡ Some o
        → Once talk (record s { asking = record s.asking { opened = Some (record o { deadline = deadline }) } }) B
    once_aged o deadline is = record {
      one_request = k.one_request;
      given = k.given;
      was_put = k.was_put;
      opened = λ q e.
          let w = k.opened o is in
          let n : o.instance ≡ q.instance = cc in
          let same : o.request ≡ q.request = cc in
          (sym n ∙ w.0, (w.1.0, sym same ∙ w.1.1, subst (λ (n : ℕ). B (asked n w.1.0)) n w.1.2));
      unexpired = λ q e. k.unexpired o is;
      taken = k.taken;
      one_reply = k.one_reply;
      after_taken = k.after_taken;
      answers = k.answers;
      kept_was_put = k.kept_was_put;
      put_is_kept = k.put_is_kept;
      closed = λ e f. absurd cc;
      overtakes = k.overtakes;
      acts = k.acts;
      newest_act = k.newest_act;
    }

    -- it expired
    pub once_expired : Once talk (record s { asking = record s.asking { opened = None }; expired = true }) B
    once_expired = record {
      one_request = k.one_request;
      given = k.given;
      was_put = k.was_put;
      opened = λ q e. absurd cc;
      unexpired = λ q e. absurd cc;
      taken = k.taken;
      one_reply = k.one_reply;
      after_taken = k.after_taken;
      answers = k.answers;
      kept_was_put = k.kept_was_put;
      put_is_kept = k.put_is_kept;
      closed = λ e f. absurd cc;
      overtakes = k.overtakes;
      acts = k.acts;
      newest_act = k.newest_act;
    }

    -- ---- a request is taken

    abbrev pub took : ℕ → M → Ends M C
    took i x = record s { answering = record { newest = i; kept = None }; acts = record { instance = i; message = x } ∷ s.acts }

    next_or_cancel : (i : ℕ) (x : M) → s.answering.newest < i → B (asked i x) → (i ≡ top talk s.acts + 1) ⊎ (talk.overtakes x ≡ true)
    next_or_cancel i x above b = by (cases_lt (s.answering.newest + 1) i)
      where
        by : (s.answering.newest + 1 < i) ⊎ (i ≤ s.answering.newest + 1) → (i ≡ top talk s.acts + 1) ⊎ (talk.overtakes x ≡ true)
        by (inl past) =
            let h : i ≡ i - 1 + 1 = omega arith in
            inr (k.overtakes (i - 1) x (omega arith) (subst (λ (n : ℕ). B (asked n x)) h b)
            (λ y t. let w = k.after_taken (i - 1) y t in absurd (omega arith)))
        by (inr near) = let h = k.newest_act in let g : top talk s.acts ≡ s.answering.newest = h in inl (omega arith)

    pub once_taken : (i : ℕ) (x : M) → s.answering.newest < i → B (asked i x) → Once talk (took i x) B
    once_taken i x above b = record {
      one_request = k.one_request;
      given = k.given;
      was_put = k.was_put;
      opened = k.opened;
      unexpired = k.unexpired;
      taken = (k.given i x b).1;
      one_reply = k.one_reply;
      after_taken = λ j y t. let w = k.after_taken j y t in (w.0, omega arith);
      answers = k.answers;
      kept_was_put = λ y e. absurd cc;
      put_is_kept = λ y t. let w = k.after_taken i y t in absurd (omega arith);
      closed = λ e f.
          let w = (k.closed e f).0 in
          let v : s.answering.newest ≡ s.asking.last = w in
          let u = k.given i x b in absurd (omega arith);
      overtakes = k.overtakes;
      acts = (let h : top talk s.acts ≡ s.answering.newest = k.newest_act in omega arith, next_or_cancel i x above b, b, k.acts);
      newest_act = refl;
    }

  -- ---- the newest request is answered

  abbrev pub answered_with : Ends M C → M → Ends M C
  answered_with s y = record s { answering = record { newest = s.answering.newest; kept = Some y } }

  module _ {B D : Note M → Type 0} {s : Ends M C} {y : M} (k : Once talk s B) (g : Grows B (Some (told s.answering.newest y)) D)
      (free : s.answering.kept ≡ None) (x : M) (of : B (asked s.answering.newest x)) (fits : talk.answers x y ≡ true) where
    asks_back : (i : ℕ) (z : M) → D (asked i z) → B (asked i z)
    asks_back i z d = by (g.only (asked i z) d)
      where
        by : B (asked i z) ⊎ (Some (told s.answering.newest y) ≡ Some (asked i z)) → B (asked i z)
        by (inl b) = b
        by (inr e) = absurd cc

    tells_back : (i : ℕ) (z : M) → D (told i z) → B (told i z) ⊎ ((s.answering.newest ≡ i) × (y ≡ z))
    tells_back i z d = by (g.only (told i z) d)
      where
        by : B (told i z) ⊎ (Some (told s.answering.newest y) ≡ Some (told i z)) → B (told i z) ⊎ ((s.answering.newest ≡ i) × (y ≡ z))
        by (inl b) = inl b
        by (inr e) = inr (cc, cc)

    -- none was put before
    was_free : (i : ℕ) (z : M) → s.answering.newest ≡ i → B (told i z) → ⊥
    was_free i z e b = let h = k.put_is_kept z (subst (λ (n : ℕ). B (told n z)) (sym e) b) in absurd cc

    one_told : (i : ℕ) (z w : M) → B (told i z) ⊎ ((s.answering.newest ≡ i) × (y ≡ z)) → B (told i w) ⊎ ((s.answering.newest ≡ i) × (y ≡ w)) → z ≡ w
    one_told i z w (inl p) (inl q) = k.one_reply i z w p q
    one_told i z w (inl p) (inr e) = absurd (was_free i z e.0 p)
    one_told i z w (inr e) (inl q) = absurd (was_free i w e.0 q)
    one_told i z w (inr e) (inr f) = sym e.1 ∙ f.1

    told_taken : (i : ℕ) (z : M) → B (told i z) ⊎ ((s.answering.newest ≡ i) × (y ≡ z)) → (0 < i) × (i ≤ s.answering.newest)
    told_taken i z (inl p) = k.after_taken i z p
    told_taken i z (inr e) = let h : s.answering.newest ≡ i = e.0 in let w = k.given s.answering.newest x of in (omega arith, omega arith)

    told_answers : (i : ℕ) (w z : M) → B (asked i w) → B (told i z) ⊎ ((s.answering.newest ≡ i) × (y ≡ z)) → talk.answers w z ≡ true
    told_answers i w z a (inl p) = k.answers i w z a p
    told_answers i w z a (inr e) =
        let same : w ≡ x = k.one_request i w x a (subst (λ (n : ℕ). B (asked n x)) e.0 of) in
        ap (λ (v : M). talk.answers v z) same ∙ ap (talk.answers x) (sym e.1) ∙ fits

    told_kept : (z : M) → B (told s.answering.newest z) ⊎ ((s.answering.newest ≡ s.answering.newest) × (y ≡ z)) → Some y ≡ Some z
    told_kept z (inl p) = absurd (was_free s.answering.newest z refl p)
    told_kept z (inr e) = ap Some e.1

    pub once_answered : Once talk (answered_with s y) D
    once_answered = record {
      one_request = λ i v w a b. k.one_request i v w (asks_back i v a) (asks_back i w b);
      given = λ i v a. k.given i v (asks_back i v a);
      was_put = λ i low high. let w = k.was_put i low high in (w.0, g.stays (asked i w.0) w.1);
      opened = λ o e. let w = k.opened o e in (w.0, (w.1.0, w.1.1, g.stays (asked o.instance w.1.0) w.1.2));
      unexpired = k.unexpired;
      taken = k.taken;
      one_reply = λ i v w a b. one_told i v w (tells_back i v a) (tells_back i w b);
      after_taken = λ i v a. told_taken i v (tells_back i v a);
      answers = λ i v w a b. told_answers i v w (asks_back i v a) (tells_back i w b);
      kept_was_put = λ v e. let h : y ≡ v = cc in subst (λ (q : M). D (told s.answering.newest q)) h (g.new (told s.answering.newest y) refl);
      put_is_kept = λ v d. told_kept v (tells_back s.answering.newest v d);
      closed = λ e f. let w = k.closed e f in (w.0, λ low. let v = w.1 low in (v.0, g.stays (told s.asking.last v.0) v.1));
      overtakes = λ i v low a none. k.overtakes i v low (asks_back (i + 1) v a) (λ z t. none z (g.stays (told i z) t));
      acts = grown_order s.acts g k.acts;
      newest_act = k.newest_act;
    }

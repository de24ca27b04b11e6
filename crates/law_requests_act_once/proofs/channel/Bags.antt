-- A message more that was put: on its channel it is new, on each other one nothing changes.
use Rattle.std.proofs.Common.{inl, inr, ◌≡◌, ◌⊎◌, ℕ, List, [], ◌∷◌, ◌++◌, Some, None, sym, ap, ◌∙◌, subst}
use Rattle.std.proofs.lemmas.List.{append-nil}
use Rattle.std.specs.List.{Contains}
use Rattle.std.proofs.lemmas.List.Elements.{Contains-append_left, Contains-push, Contains-push_cases}
use Rattle.unit_defs.specs.Transactions.{request, reply, transfer}
use Rattle.law_requests_act_once.specs.channel.Replies.{Talk}
use Rattle.law_requests_act_once.specs.channel.Ends.{Route, Sent, sent_on, Note, asked, told, Put}
use Rattle.law_requests_act_once.proofs.channel.Steps.{Grows}

module _ {M C P : Type 0} (talk : Talk M C P) (bag : List (Sent M)) where
  stays_put : (l : Sent M) (r : Route) (n : Note M) → Put talk bag r n → Put talk (bag ++ l ∷ []) r n
  stays_put l r (asked i x) p = (p.0, Contains-append_left bag (l ∷ []) (sent_on talk r.from r.to p.0 x) p.1, p.2)
  stays_put l r (told i x) p = (p.0, Contains-append_left bag (l ∷ []) (sent_on talk r.to r.from p.0 x) p.1, p.2)

  -- nothing was added at all
  pub grows_none : (r : Route) → Grows (Put talk bag r) None (Put talk (bag ++ []) r)
  grows_none r = record {
    stays = λ n p. subst (λ (b : List (Sent M)). Put talk b r n) (sym (append-nil bag)) p;
    new = λ n e. absurd cc;
    only = λ n p. inl (subst (λ (b : List (Sent M)). Put talk b r n) (append-nil bag) p);
  }

  module _ (q : Route) (i : ℕ) (x : M) where
    abbrev pub request_on : Sent M
    request_on = sent_on talk q.from q.to q.ue x

    abbrev pub reply_on : Sent M
    reply_on = sent_on talk q.to q.from q.ue x

    -- a request
    pub request_grows : talk.kind x ≡ request q.ue i → Grows (Put talk bag q) (Some (asked i x)) (Put talk (bag ++ request_on ∷ []) q)
    request_grows is = record { stays = stays_put request_on q; new = new; only = only }
      where
        new : (n : Note M) → Some (asked i x) ≡ Some n → Put talk (bag ++ request_on ∷ []) q n
        new (asked j y) e =
            let same : x ≡ y = cc in
            let at : i ≡ j = cc in (
              q.ue,
              subst (λ (z : M). Contains (bag ++ request_on ∷ []) (sent_on talk q.from q.to q.ue z)) same (Contains-push bag request_on),
              ap talk.kind (sym same) ∙ is ∙ ap (request q.ue) at,
            )
        new (told j y) e = absurd cc

        of_asked : (j u : ℕ) (y : M) → talk.kind y ≡ request q.ue j
            → Contains bag (sent_on talk q.from q.to u y) ⊎ (request_on ≡ sent_on talk q.from q.to u y)
            → Put talk bag q (asked j y) ⊎ (Some (asked i x) ≡ Some (asked j y))
        of_asked j u y k (inl c) = inl (u, c, k)
        of_asked j u y k (inr e) =
            let same : x ≡ y = ap (λ (l : Sent M). l.message) e in
            let kinds : request q.ue i ≡ request q.ue j = sym is ∙ ap talk.kind same ∙ k in
            let at : i ≡ j = cc in
            inr (λ t. Some (asked (at t) (same t)))

        of_told : (j u : ℕ) (y : M) → talk.kind y ≡ reply q.ue j
            → Contains bag (sent_on talk q.to q.from u y) ⊎ (request_on ≡ sent_on talk q.to q.from u y)
            → Put talk bag q (told j y) ⊎ (Some (asked i x) ≡ Some (told j y))
        of_told j u y k (inl c) = inl (u, c, k)
        of_told j u y k (inr e) =
            let same : x ≡ y = ap (λ (l : Sent M). l.message) e in
            let kinds : request q.ue i ≡ reply q.ue j = sym is ∙ ap talk.kind same ∙ k in
            absurd cc

        only : (n : Note M) → Put talk (bag ++ request_on ∷ []) q n → Put talk bag q n ⊎ (Some (asked i x) ≡ Some n)
        only (asked j y) p = of_asked j p.0 y p.2 (Contains-push_cases bag request_on (sent_on talk q.from q.to p.0 y) p.1)
        only (told j y) p = of_told j p.0 y p.2 (Contains-push_cases bag request_on (sent_on talk q.to q.from p.0 y) p.1)

    pub request_elsewhere : talk.kind x ≡ request q.ue i → (r : Route) → (r ≡ q → ⊥)
        → Grows (Put talk bag r) None (Put talk (bag ++ request_on ∷ []) r)
    request_elsewhere is r other = record { stays = stays_put request_on r; new = λ n e. absurd cc; only = only }
      where
        of_asked : (j u : ℕ) (y : M) → talk.kind y ≡ request r.ue j
            → Contains bag (sent_on talk r.from r.to u y) ⊎ (request_on ≡ sent_on talk r.from r.to u y)
            → Put talk bag r (asked j y) ⊎ (None ≡ Some (asked j y))
        of_asked j u y k (inl c) = inl (u, c, k)
        of_asked j u y k (inr e) =
            let same : x ≡ y = ap (λ (l : Sent M). l.message) e in
            let kinds : request q.ue i ≡ request r.ue j = sym is ∙ ap talk.kind same ∙ k in
            let ues : q.ue ≡ r.ue = cc in
            absurd (other (λ t. record { from = sym (ap (λ (l : Sent M). l.from) e) t; to = sym (ap (λ (l : Sent M). l.to) e) t; ue = sym ues t }))

        of_told : (j u : ℕ) (y : M) → talk.kind y ≡ reply r.ue j
            → Contains bag (sent_on talk r.to r.from u y) ⊎ (request_on ≡ sent_on talk r.to r.from u y)
            → Put talk bag r (told j y) ⊎ (None ≡ Some (told j y))
        of_told j u y k (inl c) = inl (u, c, k)
        of_told j u y k (inr e) =
            let same : x ≡ y = ap (λ (l : Sent M). l.message) e in
            let kinds : request q.ue i ≡ reply r.ue j = sym is ∙ ap talk.kind same ∙ k in
            absurd cc

        only : (n : Note M) → Put talk (bag ++ request_on ∷ []) r n → Put talk bag r n ⊎ (None ≡ Some n)
        only (asked j y) p = of_asked j p.0 y p.2 (Contains-push_cases bag request_on (sent_on talk r.from r.to p.0 y) p.1)
        only (told j y) p = of_told j p.0 y p.2 (Contains-push_cases bag request_on (sent_on talk r.to r.from p.0 y) p.1)

    -- a reply
    pub reply_grows : talk.kind x ≡ reply q.ue i → Grows (Put talk bag q) (Some (told i x)) (Put talk (bag ++ reply_on ∷ []) q)
    reply_grows is = record { stays = stays_put reply_on q; new = new; only = only }
      where
        new : (n : Note M) → Some (told i x) ≡ Some n → Put talk (bag ++ reply_on ∷ []) q n
        new (told j y) e =
            let same : x ≡ y = cc in
            let at : i ≡ j = cc in (
              q.ue,
              subst (λ (z : M). Contains (bag ++ reply_on ∷ []) (sent_on talk q.to q.from q.ue z)) same (Contains-push bag reply_on),
              ap talk.kind (sym same) ∙ is ∙ ap (reply q.ue) at,
            )
        new (asked j y) e = absurd cc

        of_told : (j u : ℕ) (y : M) → talk.kind y ≡ reply q.ue j
            → Contains bag (sent_on talk q.to q.from u y) ⊎ (reply_on ≡ sent_on talk q.to q.from u y)
            → Put talk bag q (told j y) ⊎ (Some (told i x) ≡ Some (told j y))
        of_told j u y k (inl c) = inl (u, c, k)
        of_told j u y k (inr e) =
            let same : x ≡ y = ap (λ (l : Sent M). l.message) e in
            let kinds : reply q.ue i ≡ reply q.ue j = sym is ∙ ap talk.kind same ∙ k in
            let at : i ≡ j = cc in
            inr (λ t. Some (told (at t) (same t)))

        of_asked : (j u : ℕ) (y : M) → talk.kind y ≡ request q.ue j
            → Contains bag (sent_on talk q.from q.to u y) ⊎ (reply_on ≡ sent_on talk q.from q.to u y)
            → Put talk bag q (asked j y) ⊎ (Some (told i x) ≡ Some (asked j y))
        of_asked j u y k (inl c) = inl (u, c, k)
        of_asked j u y k (inr e) =
            let same : x ≡ y = ap (λ (l : Sent M). l.message) e in
            let kinds : reply q.ue i ≡ request q.ue j = sym is ∙ ap talk.kind same ∙ k in
            absurd cc

        only : (n : Note M) → Put talk (bag ++ reply_on ∷ []) q n → Put talk bag q n ⊎ (Some (told i x) ≡ Some n)
        only (asked j y) p = of_asked j p.0 y p.2 (Contains-push_cases bag reply_on (sent_on talk q.from q.to p.0 y) p.1)
        only (told j y) p = of_told j p.0 y p.2 (Contains-push_cases bag reply_on (sent_on talk q.to q.from p.0 y) p.1)

    pub reply_elsewhere : talk.kind x ≡ reply q.ue i → (r : Route) → (r ≡ q → ⊥)
        → Grows (Put talk bag r) None (Put talk (bag ++ reply_on ∷ []) r)
    reply_elsewhere is r other = record { stays = stays_put reply_on r; new = λ n e. absurd cc; only = only }
      where
        of_told : (j u : ℕ) (y : M) → talk.kind y ≡ reply r.ue j
            → Contains bag (sent_on talk r.to r.from u y) ⊎ (reply_on ≡ sent_on talk r.to r.from u y)
            → Put talk bag r (told j y) ⊎ (None ≡ Some (told j y))
        of_told j u y k (inl c) = inl (u, c, k)
        of_told j u y k (inr e) =
            let same : x ≡ y = ap (λ (l : Sent M). l.message) e in
            let kinds : reply q.ue i ≡ reply r.ue j = sym is ∙ ap talk.kind same ∙ k in
            let ues : q.ue ≡ r.ue = cc in
            absurd (other (λ t. record { from = sym (ap (λ (l : Sent M). l.to) e) t; to = sym (ap (λ (l : Sent M). l.from) e) t; ue = sym ues t }))

        of_asked : (j u : ℕ) (y : M) → talk.kind y ≡ request r.ue j
            → Contains bag (sent_on talk r.from r.to u y) ⊎ (reply_on ≡ sent_on talk r.from r.to u y)
            → Put talk bag r (asked j y) ⊎ (None ≡ Some (asked j y))
        of_asked j u y k (inl c) = inl (u, c, k)
        of_asked j u y k (inr e) =
            let same : x ≡ y = ap (λ (l : Sent M). l.message) e in
            let kinds : reply q.ue i ≡ request r.ue j = sym is ∙ ap talk.kind same ∙ k in
            absurd cc

        only : (n : Note M) → Put talk (bag ++ reply_on ∷ []) r n → Put talk bag r n ⊎ (None ≡ Some n)
        only (asked j y) p = of_asked j p.0 y p.2 (Contains-push_cases bag reply_on (sent_on talk r.from r.to p.0 y) p.1)
        only (told j y) p = of_told j p.0 y p.2 (Contains-push_cases bag reply_on (sent_on talk r.to r.from p.0 y) p.1)

  -- a message that is neither is on no channel
  pub transfer_grows : (l : Sent M) (v : ℕ) → talk.kind l.message ≡ transfer v → (r : Route) → Grows (Put talk bag r) None (Put talk (bag ++ l ∷ []) r)
  transfer_grows l v is r = record { stays = stays_put l r; new = λ n e. absurd cc; only = only }
    where
      of_asked : (j u : ℕ) (y : M) → talk.kind y ≡ request r.ue j
          → Contains bag (sent_on talk r.from r.to u y) ⊎ (l ≡ sent_on talk r.from r.to u y) → Put talk bag r (asked j y) ⊎ (None ≡ Some (asked j y))
      of_asked j u y k (inl c) = inl (u, c, k)
      of_asked j u y k (inr e) = let kinds : transfer v ≡ request r.ue j = sym is ∙ ap (λ (m : Sent M). talk.kind m.message) e ∙ k in absurd cc

      of_told : (j u : ℕ) (y : M) → talk.kind y ≡ reply r.ue j
          → Contains bag (sent_on talk r.to r.from u y) ⊎ (l ≡ sent_on talk r.to r.from u y) → Put talk bag r (told j y) ⊎ (None ≡ Some (told j y))
      of_told j u y k (inl c) = inl (u, c, k)
      of_told j u y k (inr e) = let kinds : transfer v ≡ reply r.ue j = sym is ∙ ap (λ (m : Sent M). talk.kind m.message) e ∙ k in absurd cc

      only : (n : Note M) → Put talk (bag ++ l ∷ []) r n → Put talk bag r n ⊎ (None ≡ Some n)
      only (asked j y) p = of_asked j p.0 y p.2 (Contains-push_cases bag l (sent_on talk r.from r.to p.0 y) p.1)
      only (told j y) p = of_told j p.0 y p.2 (Contains-push_cases bag l (sent_on talk r.to r.from p.0 y) p.1)

  -- what was put before is put again
  pub again : {B D : Note M → Type 0} (n : Note M) → B n → Grows B (Some n) D → Grows B None D
  again {B} {D} n b g = record { stays = g.stays; new = λ m e. absurd cc; only = λ m d. inl (by m (g.only m d)) }
    where
      by : (m : Note M) → B m ⊎ (Some n ≡ Some m) → B m
      by m (inl p) = p
      by m (inr e) = let same : n ≡ m = cc in subst B same b

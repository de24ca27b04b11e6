-- What waits, over plain values: taken, and added to.
use Rattle.std.proofs.Common.{◌≡◌, ℕ, ◌==◌, true, false, List, [], ◌∷◌, ◌++◌, length, Option, Some, None, refl, sym, ap, ◌∙◌}
use Rattle.std.specs.Prelude.{unwrap_or}
use Rattle.gnb_types.specs.declared.keys.Channel.{Channel}
use Rattle.gnb_types.specs.Orders.{channel_cmp}
use Rattle.gnb_types.proofs.OrderLemmas.{channel_total}
use Rattle.tables.specs.Tables.{find, put, without, at}
use Rattle.transaction_defs.specs.Callers.{Caller}
use Rattle.transaction_defs.specs.Callees.{Callee}
use Rattle.unit_defs.specs.Transactions.{Waiting, waits_at, waiting_then, with_waiting}
use Rattle.unit_requests.specs.Requests.{Kept, TakesWaiting}
use Rattle.unit_requests.proofs.Waits.{length_empty, waiting_then-append, waiting_then-put, without-put}

abbrev Waits : Type 0
Waits = List (Waiting (List ℕ))

module _ (caller : Caller (List ℕ)) (table : List (Channel × Waits)) (callee : Callee (List ℕ)) (t : Kept) (c : Channel)
    (seen : record { caller = caller; waiting = table; callee = callee } ≡ t) where
  abbrev whole : List (Channel × Waits) → Kept
  whole m = record { caller = caller; waiting = m; callee = callee }

  stands : waits_at (whole table) c ≡ unwrap_or (find channel_cmp table c) []
  unfolding waits_at at
  stands = refl

  pub waits_as : (o : Option Waits) → find channel_cmp table c ≡ o → waits_at t c ≡ unwrap_or o []
  waits_as o is =
      ap (λ (s : Kept). waits_at s c) (sym seen) ∙ stands ∙ ap (λ (x : Option Waits). unwrap_or x []) is

  then_here : (ws : Waits) → whole (waiting_then table c ws) ≡ with_waiting (whole table) c ws
  unfolding with_waiting
  then_here ws = refl

  pub then_waits : (ws : Waits) → whole (waiting_then table c ws) ≡ with_waiting t c ws
  then_waits ws = then_here ws ∙ ap (λ (s : Kept). with_waiting s c ws) seen

  -- nothing waits
  pub takes_none : None ≡ find channel_cmp table c → TakesWaiting t c (whole table) None
  takes_none none = (waits_as None (sym none), seen)

  pub takes_nothing : (queue rest : Waits) → Some queue ≡ find channel_cmp table c → (queue ≡ []) × (rest ≡ []) → put channel_cmp table c queue ≡ table
      → TakesWaiting t c (whole (put channel_cmp table c rest)) None
  takes_nothing queue rest found empty same = (
    waits_as (Some queue) (sym found) ∙ empty.0,
    ap (λ (ws : Waits). whole (put channel_cmp table c ws)) (empty.1 ∙ sym empty.0) ∙ ap whole same ∙ seen,
  )

  -- one waits, and others after it
  pub takes_one : (queue rest : Waits) (w : Waiting (List ℕ)) → Some queue ≡ find channel_cmp table c → queue ≡ w ∷ rest → (length rest == 0) ≡ false
      → TakesWaiting t c (whole (put channel_cmp table c rest)) (Some w)
  takes_one queue rest w found is some = (
    rest,
    waits_as (Some queue) (sym found) ∙ is,
    ap whole (sym (waiting_then-put table c rest some)) ∙ then_waits rest,
  )

  -- the last one
  pub takes_last : (queue rest : Waits) (w : Waiting (List ℕ)) (m : List (Channel × Waits)) → Some queue ≡ find channel_cmp table c → queue ≡ w ∷ rest
      → (length rest == 0) ≡ true → m ≡ without channel_cmp (put channel_cmp table c rest) c → TakesWaiting t c (whole m) (Some w)
  takes_last queue rest w m found is none m_is = (
    [],
    waits_as (Some queue) (sym found) ∙ is ∙ ap (λ (ws : Waits). w ∷ ws) (length_empty rest none),
    ap whole (m_is ∙ without-put channel_total table c rest) ∙ then_waits [],
  )

  -- one more waits
  pub waits_more : (queue more : Waits) (w : Waiting (List ℕ)) → Some queue ≡ find channel_cmp table c → more ≡ queue ++ w ∷ []
      → whole (put channel_cmp table c more) ≡ with_waiting t c (waits_at t c ++ w ∷ [])
  waits_more queue more w found is =
      ap (λ (ws : Waits). whole (put channel_cmp table c ws)) is
      ∙ ap whole (sym (waiting_then-append table c queue w))
      ∙ then_waits (queue ++ w ∷ [])
      ∙ ap (λ (ws : Waits). with_waiting t c (ws ++ w ∷ [])) (sym (waits_as (Some queue) (sym found)))

  pub waits_first : (queue more : Waits) (w : Waiting (List ℕ)) (m : List (Channel × Waits)) → None ≡ find channel_cmp table c → queue ≡ []
      → more ≡ queue ++ w ∷ [] → m ≡ put channel_cmp table c more → whole m ≡ with_waiting t c (waits_at t c ++ w ∷ [])
  waits_first queue more w m none empty is m_is =
      ap whole (m_is ∙ ap (λ (ws : Waits). put channel_cmp table c ws) (is ∙ ap (λ (ws : Waits). ws ++ w ∷ []) empty))
      ∙ then_waits (w ∷ [])
      ∙ ap (λ (ws : Waits). with_waiting t c (ws ++ w ∷ [])) (sym (waits_as None (sym none)))

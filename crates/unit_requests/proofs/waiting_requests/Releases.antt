-- A release that waits first, given up: over plain values.
use Rattle.std.proofs.Common.{◌≡◌, ℕ, ◌==◌, Bool, true, false, cond, not, List, [], ◌∷◌, length, Option, Some, None, refl, sym, ap, ◌∙◌}
use Rattle.std.specs.declared.cmp.Ordering.{Ordering}
use Rattle.std.specs.List.{filter}
use Rattle.std.specs.Map.{lookup}
use Rattle.std.specs.BTreeMap.{is_at}
use Rattle.gnb_types.specs.declared.keys.Channel.{Channel}
use Rattle.gnb_types.specs.Orders.{channel_cmp}
use Rattle.gnb_types.proofs.OrderLemmas.{channel_total}
use Rattle.tables.specs.Queues.{first_item, TakesFirst}
use Rattle.tables.specs.Tables.{find, put, without}
use Rattle.transaction_defs.specs.Callers.{Caller}
use Rattle.transaction_defs.specs.Callees.{Callee}
use Rattle.unit_defs.specs.Transactions.{Waiting, waits_at, with_waiting}
use Rattle.unit_defs.specs.CuCp.{is_cu_up_release, without_release}
use Rattle.unit_defs.specs.octet_defs.Codec.{Codec, octet_way}
use Rattle.unit_requests.specs.Requests.{Kept}
use Rattle.unit_requests.proofs.Waits.{length_empty, waiting_then-put, without-put}
use Rattle.unit_requests.proofs.WaitSteps.{waits_as, then_waits}

abbrev Waits : Type 0
Waits = List (Waiting (List ℕ))

module _ (codec : Codec) where
  pub none_is_first : (queue : Waits) → None ≡ first_item queue → queue ≡ without_release (octet_way codec) queue
  none_is_first [] none = refl
  none_is_first (w ∷ ws) none = cc

  pub other_is_first : (queue : Waits) (w : Waiting (List ℕ)) → Some w ≡ first_item queue → is_cu_up_release (octet_way codec) w.message ≡ false
      → queue ≡ without_release (octet_way codec) queue
  other_is_first [] w first other = refl
  other_is_first (v ∷ vs) w first other =
      let same : w ≡ v = cc in
      sym (ap (λ (b : Bool). cond b vs (v ∷ vs)) (ap (λ (u : Waiting (List ℕ)). is_cu_up_release (octet_way codec) u.message) (sym same) ∙ other))

  pub release_is_first : (queue rest : Waits) (w : Waiting (List ℕ)) (taken : Option (Waiting (List ℕ))) → Some w ≡ first_item queue
      → is_cu_up_release (octet_way codec) w.message ≡ true → TakesFirst queue rest taken → rest ≡ without_release (octet_way codec) queue
  release_is_first [] rest w taken first release takes = cc
  release_is_first (v ∷ vs) rest w None first release takes = let e = takes.0 in cc
  release_is_first (v ∷ vs) rest w (Some x) first release takes =
      let same : w ≡ v = cc in
      let rest_is : vs ≡ rest = cc in
      sym rest_is
      ∙ sym (ap (λ (b : Bool). cond b vs (v ∷ vs)) (ap (λ (u : Waiting (List ℕ)). is_cu_up_release (octet_way codec) u.message) (sym same) ∙ release))

module _ {K X : Type 0} (R : K → K → Ordering) (k : K) where
  absent_one : (b : Bool) (e : K × X) (es : List (K × X)) → None ≡ cond b (Some e.1) (lookup (is_at (R k)) es)
      → (None ≡ lookup (is_at (R k)) es → filter (λ f. not (is_at (R k) f.0)) es ≡ es)
      → cond (not b) (e ∷ filter (λ f. not (is_at (R k) f.0)) es) (filter (λ f. not (is_at (R k) f.0)) es) ≡ e ∷ es
  absent_one true e es none again = cc
  absent_one false e es none again = ap (λ (fs : List (K × X)). e ∷ fs) (again none)

  -- to take out a key that has no entry changes nothing
  without-absent : (es : List (K × X)) → None ≡ find R es k → without R es k ≡ es
  unfolding find without
  without-absent [] none = refl
  without-absent (e ∷ es) none = absent_one (is_at (R k) e.0) e es none (without-absent es)

module _ (codec : Codec) (caller : Caller (List ℕ)) (table : List (Channel × Waits)) (callee : Callee (List ℕ)) (t : Kept) (c : Channel)
    (seen : record { caller = caller; waiting = table; callee = callee } ≡ t) where
  abbrev whole : List (Channel × Waits) → Kept
  whole m = record { caller = caller; waiting = m; callee = callee }

  abbrev given_up : Waits → Kept
  given_up ws = with_waiting t c (without_release (octet_way codec) ws)

  pub nothing_waits : None ≡ find channel_cmp table c → whole table ≡ given_up (waits_at t c)
  nothing_waits none =
      ap whole (sym (without-absent channel_cmp c table none))
      ∙ then_waits caller table callee t c seen []
      ∙ ap given_up (sym (waits_as caller table callee t c seen None (sym none)))

  module _ (queue rest : Waits) (found : Some queue ≡ find channel_cmp table c) (is : rest ≡ without_release (octet_way codec) queue) where
    rest_is : with_waiting t c rest ≡ given_up (waits_at t c)
    rest_is = ap (λ (ws : Waits). with_waiting t c ws) is ∙ ap given_up (sym (waits_as caller table callee t c seen (Some queue) (sym found)))

    pub others_wait : (length rest == 0) ≡ false → whole (put channel_cmp table c rest) ≡ given_up (waits_at t c)
    others_wait some = ap whole (sym (waiting_then-put table c rest some)) ∙ then_waits caller table callee t c seen rest ∙ rest_is

    pub none_waits : (m : List (Channel × Waits)) → (length rest == 0) ≡ true → m ≡ without channel_cmp (put channel_cmp table c rest) c
        → whole m ≡ given_up (waits_at t c)
    none_waits m none m_is =
        ap whole (m_is ∙ without-put channel_total table c rest)
        ∙ then_waits caller table callee t c seen []
        ∙ ap (λ (ws : Waits). with_waiting t c ws) (sym (length_empty rest none))
        ∙ rest_is

-- Where nothing more is delivered, what was delivered stays a prefix of what is offered.
use Rattle.std.proofs.Common.{◌≡◌, ℕ, zero, suc, ◌+◌, Bool, true, false, ◌||◌, nat_lt, List, [], ◌∷◌, ◌++◌, length, take, Option, Some, None, refl, sym, ap, subst, ◌∙◌, true≢false, arith}
use Rattle.std.specs.List.{enumerate_from}
use Rattle.gnb_types.specs.declared.names.SnBits.{SnBits}
use Rattle.pdcp_defs.specs.Receivers.{is_duplicate}
use Rattle.unit_defs.specs.CuUpRecords.{SourceHop}
use Rattle.bearer_defs.specs.chain_defs.Models as down_models
use Rattle.bearer_defs.specs.chain_defs.Orders as down
use Rattle.bearer_defs.specs.chain_defs.Assumptions as down_assumptions
use Rattle.bearer_defs.specs.uplink_defs.Models.{Model, Member, initial, uplink_tunnel, forwarding, with_rest}
use Rattle.bearer_defs.specs.uplink_defs.Orders as up
use Rattle.bearer_defs.specs.uplink_defs.Assumptions.{AreKept}
use Rattle.law_downlink_order.specs.chain.Words as down_words
use Rattle.law_downlink_order.proofs.chain.Laws as down_laws
use Rattle.law_uplink_order.specs.uplink.Words.{DeliversInOrder}
use Rattle.law_uplink_order.proofs.uplink.Laws.{delivers_in_order}
use Rattle.law_uplink_order.specs.after_release.Silent.{TakesNone, TakeNone, IsSilent, AreSilent}

-- ---- a prefix of a list is one of a longer list

still_first : (k n : ℕ) (xs ys : List (List ℕ)) → length (enumerate_from k (take n xs)) ≡ n
    → enumerate_from k (take n (xs ++ ys)) ≡ enumerate_from k (take n xs)
still_first k zero xs ys h = refl
still_first k (suc n) [] ys h = absurd cc
still_first k (suc n) (x ∷ xs) ys h = ap (λ es. (k, x) ∷ es) (still_first (k + 1) n xs ys (omega arith))

still_prefix : (before after : List (ℕ × List ℕ)) (xs ys : List (List ℕ)) → after ≡ before
    → before ≡ enumerate_from 0 (take (length before) xs) → after ≡ enumerate_from 0 (take (length after) (xs ++ ys))
still_prefix before after xs ys same h =
    same ∙ h ∙ sym (still_first 0 (length before) xs ys (ap length (sym h)))
    ∙ ap (λ (es : List (ℕ × List ℕ)). enumerate_from 0 (take (length es) (xs ++ ys))) (sym same)

-- ---- the downlink

down_stays : (s : down_models.Model) (o : down.ModelStep) → TakesNone o → (down.after s o).delivered ≡ s.delivered
unfolding down.after
down_stays s (down.carries count packet rest) h = absurd h
down_stays s _ h = refl

down_stay : (s : down_models.Model) (os : List down.ModelStep) → TakeNone os → (down.run s os).delivered ≡ s.delivered
unfolding down.run TakeNone
down_stay s [] h = refl
down_stay s (o ∷ os) h = down_stay (down.after s o) os h.1 ∙ down_stays s o h.0

down_run : (s : down_models.Model) (os more : List down.ModelStep) → down.run s (os ++ more) ≡ down.run (down.run s os) more
unfolding down.run
down_run s [] more = refl
down_run s (o ∷ os) more = down_run (down.after s o) os more

down_offers : (os more : List down.ModelStep) → down.offers_in (os ++ more) ≡ down.offers_in os ++ down.offers_in more
unfolding down.offers_in
down_offers [] more = refl
down_offers (down.offers packet ∷ os) more = ap (λ ps. packet ∷ ps) (down_offers os more)
down_offers (_ ∷ os) more = down_offers os more

module _ (sn : SnBits) (quota first teid : ℕ) (os more : List down.ModelStep) where
  pub down_same : TakeNone more → (down.run (down_models.initial first teid) (os ++ more)).delivered ≡ (down.run (down_models.initial first teid) os).delivered
  down_same none = ap (λ (s : down_models.Model). s.delivered) (down_run (down_models.initial first teid) os more)
      ∙ down_stay (down.run (down_models.initial first teid) os) more none

  pub down_prefix : down_assumptions.AreKept sn quota (down_models.initial first teid) os → TakeNone more
      → down_words.DeliversInOrder (down.offers_in (os ++ more)) (down.run (down_models.initial first teid) (os ++ more))
  unfolding down_words.DeliversInOrder
  down_prefix kept none =
      subst (λ ps. down_words.DeliversInOrder ps (down.run (down_models.initial first teid) (os ++ more))) (sym (down_offers os more))
      (still_prefix (down.run (down_models.initial first teid) os).delivered (down.run (down_models.initial first teid) (os ++ more)).delivered
      (down.offers_in os) (down.offers_in more) (down_same none) (down_laws.delivers_in_order sn quota first teid os kept))

-- ---- the uplink

module _ (s : Model) (x : ℕ) where
  module _ (m : Member) (count : ℕ) (packet : List ℕ) where
    stored_by : (f : Bool) → f ≡ true → (up.stored_at s x m count packet f).delivered ≡ s.delivered
    stored_by true h = refl
    stored_by false h = absurd (true≢false (sym h))

    new_by : (t : Bool) → m.flags.frozen ≡ true → (up.new_at s x m count packet t).delivered ≡ s.delivered
    new_by true h = refl
    new_by false h = stored_by m.flags.frozen h

    late_by : (l : Bool) → (up.late_at s x m count packet l).delivered ≡ s.delivered
    late_by true = refl
    late_by false = refl

    one_is : (f : Bool) → (f || false) ≡ true → f ≡ true
    one_is true h = refl
    one_is false h = h

    taken_by : (r : Bool) → (m.flags.frozen || r) ≡ true → (up.taken_at s x m count packet r).delivered ≡ s.delivered
    taken_by true h = late_by (nat_lt count m.bearer.receiver.deliv)
    taken_by false h = new_by (is_duplicate m.bearer.receiver count) (one_is m.flags.frozen h)

  ended_if_by : (m : Member) (hop : SourceHop) (t : Bool) → (up.ended_if s x m hop t).delivered ≡ s.delivered
  ended_if_by m hop true = refl
  ended_if_by m hop false = refl

  ended_by : (m : Member) (hop : Option SourceHop) → (up.ended_at s x m hop).delivered ≡ s.delivered
  ended_by m None = refl
  ended_by m (Some hop) = ended_if_by m hop (up.is_up_over m hop)

up_stays : (s : Model) (o : up.ModelStep) → IsSilent s o → (up.after s o).delivered ≡ s.delivered
unfolding up.after
up_stays s (up.switches x) h = absurd h
up_stays s (up.resumes x) h = absurd h
up_stays s (up.takes x from count packet rest) h =
    taken_by s x (with_rest (s.members x) from rest) count packet (s.members x).flags.released h
up_stays s (up.ends_uplink x teid rest) h =
    let m = up.without_uplink (with_rest (s.members x) (uplink_tunnel teid) rest) teid in
    ended_by s x m m.bearer.hop
up_stays s (up.ends_hop x rest) h =
    let m = with_rest (s.members x) forwarding rest in
    ended_by s x (record m { bearer = record m.bearer { up_ended = true } }) m.bearer.hop
up_stays s _ h = refl

up_stay : (s : Model) (os : List up.ModelStep) → AreSilent s os → (up.run s os).delivered ≡ s.delivered
unfolding up.run AreSilent
up_stay s [] h = refl
up_stay s (o ∷ os) h = up_stay (up.after s o) os h.1 ∙ up_stays s o h.0

up_run : (s : Model) (os more : List up.ModelStep) → up.run s (os ++ more) ≡ up.run (up.run s os) more
unfolding up.run
up_run s [] more = refl
up_run s (o ∷ os) more = up_run (up.after s o) os more

up_offers : (os more : List up.ModelStep) → up.offers_in (os ++ more) ≡ up.offers_in os ++ up.offers_in more
unfolding up.offers_in
up_offers [] more = refl
up_offers (up.offers packet ∷ os) more = ap (λ ps. packet ∷ ps) (up_offers os more)
up_offers (_ ∷ os) more = up_offers os more

module _ (first teid : ℕ) (os more : List up.ModelStep) where
  pub up_same : AreSilent (up.run (initial first teid) os) more → (up.run (initial first teid) (os ++ more)).delivered ≡ (up.run (initial first teid) os).delivered
  up_same silent = ap (λ (s : Model). s.delivered) (up_run (initial first teid) os more) ∙ up_stay (up.run (initial first teid) os) more silent

  pub up_prefix : AreKept (initial first teid) os → AreSilent (up.run (initial first teid) os) more
      → DeliversInOrder (up.offers_in (os ++ more)) (up.run (initial first teid) (os ++ more))
  unfolding DeliversInOrder
  up_prefix kept silent =
      subst (λ ps. DeliversInOrder ps (up.run (initial first teid) (os ++ more))) (sym (up_offers os more))
      (still_prefix (up.run (initial first teid) os).delivered (up.run (initial first teid) (os ++ more)).delivered
      (up.offers_in os) (up.offers_in more) (up_same silent) (delivers_in_order first teid os kept))

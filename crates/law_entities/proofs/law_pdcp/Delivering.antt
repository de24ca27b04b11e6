-- What is handed up one by one.
use Rattle.std.proofs.Common.{◌≡◌, ℕ, ◌+◌, ◌==◌, Bool, true, false, cond, List, [], ◌∷◌, Option, Some, None, refl, sym, ap, ◌∙◌}
use Rattle.pdcp_defs.specs.Receivers.{Receiver, Delivery, deliver, deliver_from, with_packet}
use Rattle.pdcp_entities.specs.Entities.{first_at, advanced}

module _ {X : Type 0} where
  step_from : (deliv : ℕ) (es : List (ℕ × X)) (e : ℕ × X) → first_at deliv es ≡ Some e
      → deliver_from deliv es ≡ with_packet e (deliver (advanced (record { deliv = deliv; stored = es })))
  unfolding deliver
  step_from deliv [] e h = cc
  step_from deliv (x ∷ es) e h = by (x.0 == deliv) refl h
    where
      by : (b : Bool) → (x.0 == deliv) ≡ b → cond b (Some x) None ≡ Some e
          → cond b (with_packet x (deliver_from (deliv + 1) es)) (record { packets = []; after = record { deliv = deliv; stored = x ∷ es } })
          ≡ with_packet e (deliver_from (deliv + 1) es)
      by true is h = let same : x ≡ e = cc in ap (λ y. with_packet y (deliver_from (deliv + 1) es)) same
      by false is h = cc

  none_from : (deliv : ℕ) (es : List (ℕ × X)) → first_at deliv es ≡ None
      → deliver_from deliv es ≡ record { packets = []; after = record { deliv = deliv; stored = es } }
  none_from deliv [] h = refl
  none_from deliv (x ∷ es) h = by (x.0 == deliv) h
    where
      by : (b : Bool) → cond b (Some x) None ≡ None
          → cond b (with_packet x (deliver_from (deliv + 1) es)) (record { packets = []; after = record { deliv = deliv; stored = x ∷ es } })
          ≡ record { packets = []; after = record { deliv = deliv; stored = x ∷ es } }
      by true h = cc
      by false h = refl

  pub one_by_one : (r : Receiver X) (e : ℕ × X) → first_at r.deliv r.stored ≡ Some e → deliver r ≡ with_packet e (deliver (advanced r))
  unfolding deliver
  one_by_one r e h = step_from r.deliv r.stored e h

  pub nothing_more : (r : Receiver X) → first_at r.deliv r.stored ≡ None → deliver r ≡ record { packets = []; after = r }
  unfolding deliver
  nothing_more r h = none_from r.deliv r.stored h

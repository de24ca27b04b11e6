-- What is always so of a bearer, and that a released context is frozen, is what its rows ask for.
use Rattle.std.proofs.Common.{◌≡◌, Bool, true, false, Option, Some, None, refl, sym, ap, ◌∙◌, true≢false}
use Rattle.std.specs.Prelude.{is_some}
use Rattle.unit_defs.specs.CuUpRecords.{SourceHop}
use Rattle.proof_cu_up_orders.specs.context_orders.Orders.{CuUpModel}
use Rattle.proof_cu_up_orders.specs.context_stands.Stands.{Stands}

module _ (p : CuUpModel) (stands : Stands p) where
  pub has_hop : p.at.flags.frozen ≡ true → (h : SourceHop) × (p.bearer.hop ≡ Some h)
  has_hop f = by p.bearer.hop refl
    where
      by : (o : Option SourceHop) → p.bearer.hop ≡ o → (h : SourceHop) × (p.bearer.hop ≡ Some h)
      by None e = absurd (true≢false (sym (sym (ap (λ (o : Option SourceHop). is_some o) e) ∙ stands.hop ∙ f)))
      by (Some h) e = (h, e)

  pub has_none : p.at.flags.frozen ≡ false → p.bearer.hop ≡ None
  has_none f = by p.bearer.hop refl
    where
      by : (o : Option SourceHop) → p.bearer.hop ≡ o → p.bearer.hop ≡ None
      by None e = e
      by (Some h) e = absurd (true≢false (sym (ap (λ (o : Option SourceHop). is_some o) e) ∙ stands.hop ∙ f))

  pub serves : (p.at.flags.released ≡ true → p.at.flags.frozen ≡ true) → p.at.flags.frozen ≡ false → p.at.flags.released ≡ false
  serves assumed f = by p.at.flags.released refl
    where
      by : (r : Bool) → p.at.flags.released ≡ r → r ≡ false
      by true e = absurd (true≢false (sym (assumed e) ∙ f))
      by false e = refl

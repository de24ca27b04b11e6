use Rattle.std.proofs.Common.{◌≡◌, ℕ, ◌≤◌, ◌^◌, min, arith}
use Rattle.aper_defs.specs.Bits.{closed, octet_count}
use Rattle.aper_defs.specs.Layouts.{layout}
use Rattle.aper_values.specs.types.Types.{tree}
use Rattle.aper_values.specs.Views.{view}
use Rattle.aper_fields.proofs.widths.EndLemmas.{ends_at}
use Rattle.proof_aper.proofs.answers.NumberFacts.{at_most, is_at_most}
use Rattle.aper.proofs.value_checks.fits_open.Goals as goal

pub returns : goal.returns
returns c =
    λ p. let t = tree c.args.m.now c.args.id.number in
    let v = view c.args.value.now in
    let n : ℕ = octet_count (closed p (layout p t v)) in
    let count : ℕ = c.octet_count.result in
    let is : count ≡ min n (2 ^ 64) =
    c.octet_count.ensures p (layout p t v) (ends_at 0 c.in-Some.end (λ q. layout q t v) p (c.in-Some.ensures {u = tt}).1) in (
      λ h. (let few = at_most count 16383 h in (let fits : n ≤ 16383 = omega (arith, is, few) in fits)),
      λ (h : n ≤ 16383). is_at_most count 16383 (omega (arith, is, h)),
    )

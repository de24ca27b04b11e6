use Rattle.std.proofs.Common.{◌≡◌, ℕ, List, sym, subst, rules}
use Rattle.aper_defs.specs.Values.{Value, raw}
use Rattle.aper_values.specs.Views.{view}
use Rattle.aper_values.specs.declared.value.Value.{the_lemmas}
use Rattle.aper.specs.measuring.Measured.{RawMeasured}
use Rattle.aper.proofs.measuring.contents.raw_end.Goals as goal

pub returns-in-Raw : goal.returns-in-Raw
returns-in-Raw c =
    let seen : view c.args.value.now ≡ raw c.in-Raw.octets = rw c.in-Raw.is (search (rules, the_lemmas)) in
    subst (λ (v : Value). RawMeasured v c.args.place c.octets_end.result) (sym seen)
    (subst (λ (os : List ℕ). RawMeasured (raw os) c.args.place c.octets_end.result) c.as_slice.ensures c.octets_end.ensures)

use Rattle.std.proofs.Common.{◌≡◌, ℕ, List, sym, subst, rules}
use Rattle.aper_defs.specs.Trees.{octet_string}
use Rattle.aper_defs.specs.Values.{Value, octets}
use Rattle.aper_values.specs.Views.{view}
use Rattle.aper_values.specs.declared.value.Value.{the_lemmas}
use Rattle.aper.specs.measuring.Measured.{ValueMeasured}
use Rattle.aper.proofs.measuring.simple.octet_string_end.Goals as goal

pub returns-in-Octets : goal.returns-in-Octets
returns-in-Octets c =
    let seen : view c.args.value.now ≡ octets c.in-Octets.octets = rw c.in-Octets.is (search (rules, the_lemmas)) in
    subst (λ (v : Value). ValueMeasured (octet_string c.args.size) v c.args.place c.octets_end.result) (sym seen)
    (subst (λ (os : List ℕ). ValueMeasured (octet_string c.args.size) (octets os) c.args.place c.octets_end.result) c.as_slice.ensures
    c.octets_end.ensures)

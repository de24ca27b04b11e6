use Rattle.std.proofs.Common.{ℕ, min, ap, ◌∙◌}
use Rattle.aper_values.specs.types.Types.{tree}
use Rattle.aper_values.specs.Views.{view}
use Rattle.aper.proofs.measures.Wholes.{tells_length}
use Rattle.aper.proofs.value_checks.spelled_length.Goals as goal

pub returns : goal.returns
returns c =
    c.min.ensures ∙ ap (λ (n : ℕ). min c.octet_count.result n) c.from.ensures
    ∙ tells_length (tree c.args.m.now c.args.id.number) (view c.args.value.now) c.in-Some.end c.octet_count.result
    (c.in-Some.ensures {u = tt}) c.octet_count.ensures

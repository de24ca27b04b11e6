use Rattle.std.proofs.Common.{◌≡◌, [], ap}
use Rattle.std.proofs.lemmas.Result.{IfOk-weaker}
use Rattle.bits_core.specs.Writing.{Written}
use Rattle.aper_defs.specs.Trees.{Tree}
use Rattle.aper_defs.specs.Values.{Value as SeenValue}
use Rattle.aper_defs.specs.Spelling.{Spells}
use Rattle.aper_values.specs.types.Types.{tree}
use Rattle.aper_values.specs.Views.{view}
use Rattle.aper.proofs.encoding.Open.{Completes, spelled_by}
use Rattle.aper.proofs.encoding.encode.Goals as goal

pub returns : goal.returns
returns c =
    let type : Tree = tree c.args.m.now c.args.id.number in
    let v : SeenValue = view c.args.value.now in
    let none : c.new-out.result.bits ≡ [] = ap (λ (w : Written). w.bits) c.new-out.ensures in
    IfOk-weaker c.completed.result (λ octets. Completes c.put_value.new.out octets) (λ octets. Spells type v octets)
    (λ octets all. spelled_by c.new-out.result c.put_value.new.out type v octets none c.in_ok-put_value.ensures.follows all
    c.requires.member c.requires.short) c.completed.ensures

use Rattle.std.proofs.Common.{Some, sym, ap, ◌∙◌, subst, true≢false}
use Rattle.std.specs.Prelude.{IsSome}
use Rattle.std.specs.Option.{option_map}
use Rattle.packet_pool.specs.inside.Regions.{octets_at}
use Rattle.packet_pool.specs.inside.Contents.{stored_from, stored_in}
use Rattle.packet_pool.proofs.contents.octets.Goals as goal

pub returns-in-Some : goal.returns-in-Some
unfolding stored_in
returns-in-Some c =
    ap (λ o. option_map (λ packet. packet.bytes) (stored_from (octets_at c.args.region.now.blocks c.args.block) o)) (sym c.in-Some.ensures)
    ∙ ap Some (sym c.read.ensures)

pub returns-in-None : goal.returns-in-None
returns-in-None c = absurd (true≢false (sym (subst IsSome (sym c.in-None.ensures) c.requires.stored)))

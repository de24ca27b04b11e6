use Rattle.std.proofs.Common.{◌≡◌, ◌+◌, length, refl, sym, ap, ◌∙◌, ℕ}
use Rattle.bits_core.specs.Bits.{bits_of}
use Rattle.aper_defs.specs.Fields.{extent, opening}
use Rattle.aper_fields.proofs.Followed.{put_ok, answer_put, grown}
use Rattle.aper_fields.proofs.lengths.put_extent.Goals as goal

pub returns-clause-follows : goal.returns-clause-follows
returns-clause-follows c = put_ok c.put_bits.result c.args.out.now c.put_bits.new.self (bits_of c.extent_width.result c.extent_number.result) _ c.put_bits.ensures
    (λ is bounds. answer_put c.args.out.now c.put_bits.new.self c.extent_width.result c.extent_number.result (extent bounds) c.args.count is
    (sym c.extent_width.ensures) (sym c.extent_number.ensures))

pub returns-clause-opens : goal.returns-clause-opens
returns-clause-opens c = put_ok c.put_bits.result c.args.out.now c.put_bits.new.self (bits_of c.extent_width.result c.extent_number.result) _ c.put_bits.ensures
    (λ is. answer_put c.args.out.now c.put_bits.new.self c.extent_width.result c.extent_number.result opening c.args.count is
    (sym c.extent_width.ensures) (sym c.extent_number.ensures))

pub returns-clause-moves : goal.returns-clause-moves
returns-clause-moves c = put_ok c.put_bits.result c.args.out.now c.put_bits.new.self (bits_of c.extent_width.result c.extent_number.result) _ c.put_bits.ensures
    (λ is. grown c.args.out.now c.put_bits.new.self c.extent_width.result c.extent_number.result is
    ∙ ap (λ (n : ℕ). length c.args.out.now.bits + n) c.extent_width.ensures)

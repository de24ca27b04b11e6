use Rattle.std.proofs.Common.{arith}
use Rattle.um.proofs.um_pdcp.StoredLemmas.{few}
use Rattle.um.proofs.um_pdcp.rx.UmRx.stored.Goals as goal

pub overflow_cast-result : goal.overflow_cast-result
overflow_cast-result c =
    let most = few c.self.inside.stored c.len.ensures.ordered c.self.invariant.stored in
    omega (arith, most, c.len.ensures.len)

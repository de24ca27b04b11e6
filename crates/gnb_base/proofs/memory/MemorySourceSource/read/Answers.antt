use Rattle.std.proofs.Common.{arith, sym, ap, length, drop}
use Rattle.std.proofs.lemmas.List.{length-drop}
use Rattle.gnb_base.specs.InMemory.{InMemory}
use Rattle.gnb_base.proofs.MemoryLemmas.{gave_from}
use Rattle.gnb_base.proofs.memory.MemorySourceSource.read.Goals as goal

pub returns-clause-bytes : goal.returns-clause-bytes
returns-clause-bytes c =
    gave_from _ c.self.inside.bytes.items c.deref-2.result.now c.copy_from_slice.new.self (drop c.min-count.result c.args.buf.now)
    c.self.inside.given c.min-count.result c.min.result c.self.inside.piece (length c.args.buf.now)
    (sym (ap (λ (s : InMemory). s.bytes) c.self.view_is)) c.deref-2.ensures.value c.copy_from_slice.ensures.after c.min-count.ensures c.min.ensures (omega arith)
    (omega (arith, length-drop c.min-count.result c.args.buf.now))

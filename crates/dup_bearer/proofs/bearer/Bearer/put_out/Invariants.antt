use Rattle.std.proofs.Common.{◌≡◌, ◌++◌, map}
use Rattle.std.specs.List.{AllByRecursion}
use Rattle.std.specs.Vec.Iter.{into_iter_items}
use Rattle.dup_defs.specs.dup_run_defs.Run.{goes_on, put_line, with_puts}
use Rattle.dup_bearer.specs.dup_pdcp.Entity.{IsPut, puts_of_code}
use Rattle.dup_bearer.specs.Bearers.{with_run}
use Rattle.dup_bearer.proofs.bearer.Bearer.put_out.Given as goal

-- what stands on legs and is printed, and what is put from here on, is all
abbrev pub invariant-loop-put : goal.invariant-loop-put
invariant-loop-put l = record {
  all : goes_on (l.lines ++ map (put_line l.initial.self.sn) (puts_of_code l.initial.self.sn (into_iter_items l.put-iterator)))
      (with_puts (puts_of_code l.initial.self.sn (into_iter_items l.put-iterator)) l.self.run)
      ≡ goes_on (l.initial.lines ++ map (put_line l.initial.self.sn) (puts_of_code l.initial.self.sn (into_iter_items l.initial.put-iterator)))
      (with_puts (puts_of_code l.initial.self.sn (into_iter_items l.initial.put-iterator)) l.initial.self.run);
  are : AllByRecursion (IsPut l.initial.self.sn) (into_iter_items l.put-iterator);
  same : l.self ≡ with_run l.initial.self l.self.run;
}

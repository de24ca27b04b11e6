use Rattle.std.proofs.Common.{List, ap, get_or}
use Rattle.std.proofs.lemmas.Option.{slice_get-get_or}
use Rattle.asn1_syntax.specs.declared.assignments.assignment.Assignment.{Assignment}
use Rattle.asn1_module.proofs.judgement.fault_at.Goals as goal

pub returns : goal.returns
returns c =
    let here = ap (λ (xs : List Assignment). get_or xs c.args.number c.index-as_slice-number.result) c.as_slice.ensures in
    record {
      assignment = get_or c.args.syntax.now.assignments c.args.number c.index-as_slice-number.result;
      there = slice_get-get_or c.args.syntax.now.assignments c.args.number c.index-as_slice-number.result c.requires;
      is = ap (λ (a : Assignment). record { place = a.place; reason = c.args.reason }) here;
    }

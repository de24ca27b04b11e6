use Rattle.asn1_syntax.specs.declared.types.fault.ReadError.{ReadError}
use Rattle.asn1_syntax.specs.types.inside.Reading.{Fails}
use Rattle.asn1_syntax.specs.assignments.inside.Module.{syntax_of}
use Rattle.std.proofs.Common.{subst, sym, refl, ◌≡◌, Err}
use Rattle.asn1_defs.specs.Judgement.{Judged}
use Rattle.asn1_defs.specs.Readings.{HasFault, in_text, in_module}
use Rattle.proof_asn1.proofs.reading.Readings.{is_text_of, is_first_wrong}
use Rattle.asn1_module.proofs.TypeCount.{types_bounded}
use Rattle.asn1_module.proofs.RowLinks.{linked}
use Rattle.asn1_module.proofs.Facts.{sound_of}
use Rattle.asn1_module.proofs.module.read_module.Goals as goal

pub refused-requires-in-Some : goal.refused-requires-in-Some
refused-requires-in-Some c = in_module (is_text_of c.args.text.now c.in-Ok.syntax c.in-Ok.ensures) (subst (Judged c.in-Ok.syntax) c.in-Some.is c.in_ok-fault.ensures)

pub invariant_of-result : goal.invariant_of-result
invariant_of-result c = (
  record {
    text = c.args.text.now;
    is = is_text_of c.args.text.now c.in-Ok.syntax c.in-Ok.ensures;
    types = types_bounded c.args.text.now c.in-Ok.syntax c.in-Ok.ensures;
    linked = linked c.args.text.now c.in-Ok.syntax c.in-Ok.ensures;
    sound = sound_of c.in-Ok.syntax (subst (Judged c.in-Ok.syntax) c.in-None.is c.in_ok-fault.ensures);
  },
  c.in_ok-targets.ensures,
)

pub refused-requires : goal.refused-requires
refused-requires c =
    let told : syntax_of c.args.text.now ≡ Err c.in-Err-Fault.fault = subst (λ (e : ReadError). Fails e (syntax_of c.args.text.now)) c.in-Err-Fault.field-0-is c.in-Err-Fault.ensures in
    subst (HasFault c.args.text.now) (sym c.in-Err-Fault.fault-is) (in_text (is_first_wrong c.args.text.now c.in-Err-Fault.fault told))

pub returns-in-None : goal.returns-in-None
returns-in-None c = record {
  is = is_text_of c.args.text.now c.in-Ok.syntax c.in-Ok.ensures;
  sound = subst (Judged c.in-Ok.syntax) c.in-None.is c.in_ok-fault.ensures;
  ends = refl;
}

-- Which texts are read as which module, and what is wrong with the others: what `read_module` promises.
use Rattle.std.specs.Prelude.{◌≡◌, ℕ, List, take, Some, None}
use Rattle.asn1_syntax.specs.declared.types.fault.Fault.{Fault}
use Rattle.asn1_syntax.specs.declared.types.fault.ModuleReason.{ModuleReason}
use Rattle.asn1_syntax.specs.declared.assignments.assignment.Syntax.{Syntax}
use Rattle.asn1_defs.specs.Texts.{IsTextOf, IsFirstWrong}
use Rattle.asn1_defs.specs.Positions.{line_after, column_after}
use Rattle.asn1_defs.specs.Judgement.{Judged}

-- The front of that many octets of the text is this module's, its names refer to what they should, none reaches itself, and none
-- nests too deep.
pub record Reads (text : List ℕ) (octets : ℕ) (m : Syntax) : Type 0 where
  pub is : IsTextOf text m
  pub sound : Judged m None
  pub ends : octets ≡ m.end

-- The first fault of a text: its first wrong item; or else the first fault of the module whose text it is.
pub data HasFault (text : List ℕ) (fault : Fault) : Type 0 where
  in_text : IsFirstWrong text fault → HasFault text fault
  in_module : {m : Syntax} → IsTextOf text m → Judged m (Some fault) → HasFault text fault

-- no front of the text is a module, and this is why
pub record WrongText (text : List ℕ) (line column : ℕ) (reason : ModuleReason) : Type 0 where
  pub fault : Fault
  pub first : HasFault text fault
  pub line-is : line ≡ line_after (take fault.place text)
  pub column-is : column ≡ column_after (take fault.place text)
  pub reason-is : reason ≡ fault.reason

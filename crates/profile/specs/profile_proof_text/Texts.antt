-- Texts of the profile: what is read of them is a module of its types alone.
use Rattle.std.specs.Prelude.{◌≡◌, ℕ, List, length, true}
use Rattle.asn1_tokens.specs.Words.{is_text}
use Rattle.asn1_syntax.specs.declared.assignments.assignment.Syntax.{Syntax}
use Rattle.asn1_defs.specs.Texts.{IsTextOf}
use Rattle.asn1_defs.specs.Targets.{type_ids}
use Rattle.asn1_defs.specs.Judgement.{IsSound}
use Rattle.message_defs.specs.profile_defs.Forms.{Form}
use Rattle.message_defs.specs.profile_defs.Profile.{module_name}
use Rattle.message_defs.specs.profile_defs.Agreement.{Agrees}

-- the text is that of a module which agrees with these types, has the profile's name and as many types, and with which nothing is wrong
pub record IsProfileText (types : List Form) (text : List ℕ) : Type 0 where
  pub m : Syntax
  pub is : IsTextOf text m
  pub sound : IsSound m
  pub agrees : Agrees types m
  pub name : is_text m.name module_name ≡ true
  pub count : length (type_ids m.assignments) ≡ 53

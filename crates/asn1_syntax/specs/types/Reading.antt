-- Items that are left to read: what stands first, and why it can't stand there.
use Rattle.std.specs.Prelude.{List, Bool, false}
use Rattle.asn1_tokens.specs.declared.token.Word.{Word}
use Rattle.asn1_tokens.specs.declared.token.Sign.{Sign}
use Rattle.asn1_tokens.specs.declared.token.Token.{Token}
use Rattle.asn1_tokens.specs.declared.token.Token.TheVariants as tokens
use Rattle.asn1_tokens.specs.Words.{is_word, is_sign}
use Rattle.asn1_tokens.specs.Stream.{Placed, first_token}
use Rattle.asn1_syntax.specs.declared.types.fault.ModuleReason.{ModuleReason}
use Rattle.asn1_syntax.specs.declared.types.fault.ModuleReason.TheVariants as reasons

-- the items that are left
abbrev pub Left : Type 0
Left = List Placed

-- why an item can't stand where it stands
abbrev pub reason_of : Token → ModuleReason
reason_of tokens.OutOfProfile = reasons.OutOfProfile
reason_of tokens.Nothing = reasons.Token
reason_of tokens.EndOfText = reasons.Truncated
reason_of (tokens.Upper name) = reasons.Form
reason_of (tokens.Lower name) = reasons.Form
reason_of (tokens.Word word) = reasons.Form
reason_of (tokens.Number value) = reasons.Form
reason_of (tokens.Sign sign) = reasons.Form

abbrev pub is_word_token : Word → Token → Bool
is_word_token word (tokens.Word found) = is_word found word
is_word_token word tokens.OutOfProfile = false
is_word_token word tokens.Nothing = false
is_word_token word tokens.EndOfText = false
is_word_token word (tokens.Upper name) = false
is_word_token word (tokens.Lower name) = false
is_word_token word (tokens.Number value) = false
is_word_token word (tokens.Sign sign) = false

abbrev pub is_sign_token : Sign → Token → Bool
is_sign_token sign (tokens.Sign found) = is_sign found sign
is_sign_token sign tokens.OutOfProfile = false
is_sign_token sign tokens.Nothing = false
is_sign_token sign tokens.EndOfText = false
is_sign_token sign (tokens.Upper name) = false
is_sign_token sign (tokens.Lower name) = false
is_sign_token sign (tokens.Number value) = false
is_sign_token sign (tokens.Word word) = false

abbrev pub begins_with : Word → Left → Bool
begins_with word ts = is_word_token word (first_token ts)

abbrev pub begins_with_sign : Sign → Left → Bool
begins_with_sign sign ts = is_sign_token sign (first_token ts)

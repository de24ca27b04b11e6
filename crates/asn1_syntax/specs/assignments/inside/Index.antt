-- Internal: what noting a name does to an index of names.
use Rattle.std.specs.Prelude.{ℕ, List, Option, Some, None, if◌then◌else◌}
use Rattle.asn1_tokens.specs.Words.{is_text}

-- what a name's number is once this name is noted with this one
abbrev pub noted : List ℕ → ℕ → List ℕ → Option ℕ → Option ℕ
noted name number other (Some old) = Some old
noted name number other None = if is_text name other then Some number else None

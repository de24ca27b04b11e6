-- Codecs of the same messages.
use Rattle.std.specs.Prelude.{◌≡◌}
use Rattle.unit_defs.specs.octet_defs.Codec.{Codec}

-- the second spells and reads control messages and tokens as the first
abbrev pub HasMessagesOf : Codec → Codec → Type 0
HasMessagesOf given codec = (codec.encode ≡ given.encode) × (codec.read ≡ given.read) × (codec.read_token ≡ given.read_token)

-- Internal: the words of a line before its octets, with the blank after them.
use Rattle.std.specs.Prelude.{ℕ, List, ◌++◌, codes}
use Rattle.std.specs.Fmt.{decimal}

abbrev pub message_words : List ℕ → ℕ → ℕ → List ℕ
message_words word number count = word ++ codes " #" ++ decimal number ++ codes " " ++ decimal count ++ codes " "

abbrev pub delivery_words : ℕ → List ℕ
delivery_words count = codes "deliver " ++ decimal count ++ codes " "

-- Which names are reserved words (X.680, 12.38), and which of ASN.1's the profile leaves out.
use Rattle.std.specs.Prelude.{ℕ, ◌==◌, List, [], ◌∷◌, Bool, Option, Some, None, if◌then◌else◌, codes, nat_eq, ◌||◌}
use Rattle.std.specs.Cmp.Lexicographic.{pointwise}
use Rattle.asn1_tokens.specs.declared.token.Word.{Word}
use Rattle.asn1_tokens.specs.declared.token.Word.TheVariants as words
use Rattle.asn1_tokens.specs.declared.token.Sign.{Sign}
use Rattle.asn1_tokens.specs.declared.token.Sign.TheVariants as signs

-- a word's number, by which words are told apart
abbrev pub word_number : Word → ℕ
word_number words.Definitions = 0
word_number words.Automatic = 1
word_number words.Tags = 2
word_number words.Begin = 3
word_number words.End = 4
word_number words.Boolean = 5
word_number words.Integer = 6
word_number words.Enumerated = 7
word_number words.Bit = 8
word_number words.Octet = 9
word_number words.String = 10
word_number words.PrintableString = 11
word_number words.Sequence = 12
word_number words.Choice = 13
word_number words.Of = 14
word_number words.Size = 15
word_number words.Optional = 16
word_number words.ProtocolIeContainer = 17
word_number words.ProtocolPdu = 18
word_number words.ProtocolIes = 19
word_number words.ElementaryProcedure = 20
word_number words.Id = 21
word_number words.Criticality = 22
word_number words.Type = 23
word_number words.Presence = 24
word_number words.Initiating = 25
word_number words.Message = 26
word_number words.Successful = 27
word_number words.Unsuccessful = 28
word_number words.Outcome = 29
word_number words.Procedure = 30
word_number words.Code = 31

-- all words, in the order of their numbers
abbrev pub all_words : List Word
all_words =
    words.Definitions ∷ words.Automatic ∷ words.Tags ∷ words.Begin ∷ words.End ∷ words.Boolean ∷ words.Integer ∷ words.Enumerated ∷
    words.Bit ∷ words.Octet ∷ words.String ∷ words.PrintableString ∷ words.Sequence ∷ words.Choice ∷ words.Of ∷ words.Size ∷ words.Optional
    ∷ words.ProtocolIeContainer ∷ words.ProtocolPdu ∷ words.ProtocolIes ∷ words.ElementaryProcedure ∷ words.Id ∷ words.Criticality ∷
    words.Type ∷ words.Presence ∷ words.Initiating ∷ words.Message ∷ words.Successful ∷ words.Unsuccessful ∷ words.Outcome ∷
    words.Procedure ∷ words.Code ∷ []

abbrev pub is_word : Word → Word → Bool
is_word a b = word_number a == word_number b

abbrev pub sign_number : Sign → ℕ
sign_number signs.Assignment = 0
sign_number signs.Ellipsis = 1
sign_number signs.Range = 2
sign_number signs.LeftBrace = 3
sign_number signs.RightBrace = 4
sign_number signs.LeftParenthesis = 5
sign_number signs.RightParenthesis = 6
sign_number signs.Comma = 7
sign_number signs.Bar = 8

abbrev pub is_sign : Sign → Sign → Bool
is_sign a b = sign_number a == sign_number b

-- two texts are the same
unfoldable pub is_text : List ℕ → List ℕ → Bool
is_text = pointwise nat_eq

-- the words round a module
unfoldable pub module_word : List ℕ → Option Word
module_word name =
    if is_text name (codes "DEFINITIONS") then Some words.Definitions else (
    if is_text name (codes "AUTOMATIC") then Some words.Automatic else (
    if is_text name (codes "TAGS") then Some words.Tags else (
    if is_text name (codes "BEGIN") then Some words.Begin else (
    if is_text name (codes "END") then Some words.End else (
    None)))))

-- the words of types without parts
unfoldable pub simple_type_word : List ℕ → Option Word
simple_type_word name =
    if is_text name (codes "BOOLEAN") then Some words.Boolean else (
    if is_text name (codes "INTEGER") then Some words.Integer else (
    if is_text name (codes "ENUMERATED") then Some words.Enumerated else (
    if is_text name (codes "BIT") then Some words.Bit else (
    if is_text name (codes "OCTET") then Some words.Octet else (
    if is_text name (codes "STRING") then Some words.String else (
    if is_text name (codes "PrintableString") then Some words.PrintableString else (
    None)))))))

-- the words of types with parts
unfoldable pub part_type_word : List ℕ → Option Word
part_type_word name =
    if is_text name (codes "SEQUENCE") then Some words.Sequence else (
    if is_text name (codes "CHOICE") then Some words.Choice else (
    if is_text name (codes "OF") then Some words.Of else (
    if is_text name (codes "SIZE") then Some words.Size else (
    if is_text name (codes "OPTIONAL") then Some words.Optional else (
    if is_text name (codes "ProtocolIE-Container") then Some words.ProtocolIeContainer else (
    if is_text name (codes "Protocol-PDU") then Some words.ProtocolPdu else (
    None)))))))

-- the words of object sets and of IE rows
unfoldable pub set_word : List ℕ → Option Word
set_word name =
    if is_text name (codes "PROTOCOL-IES") then Some words.ProtocolIes else (
    if is_text name (codes "ELEMENTARY-PROCEDURE") then Some words.ElementaryProcedure else (
    if is_text name (codes "ID") then Some words.Id else (
    if is_text name (codes "CRITICALITY") then Some words.Criticality else (
    if is_text name (codes "TYPE") then Some words.Type else (
    if is_text name (codes "PRESENCE") then Some words.Presence else (
    None))))))

-- the words of procedure rows
unfoldable pub procedure_word : List ℕ → Option Word
procedure_word name =
    if is_text name (codes "INITIATING") then Some words.Initiating else (
    if is_text name (codes "MESSAGE") then Some words.Message else (
    if is_text name (codes "SUCCESSFUL") then Some words.Successful else (
    if is_text name (codes "UNSUCCESSFUL") then Some words.Unsuccessful else (
    if is_text name (codes "OUTCOME") then Some words.Outcome else (
    if is_text name (codes "PROCEDURE") then Some words.Procedure else (
    if is_text name (codes "CODE") then Some words.Code else (
    None)))))))

-- the first of these that there is
abbrev pub or_else : Option Word → Option Word → Option Word
or_else None other = other
or_else (Some word) other = Some word

-- the word that a name is, if it is one
unfoldable pub word_of : List ℕ → Option Word
word_of name = or_else (module_word name) (or_else (simple_type_word name) (or_else (part_type_word name) (or_else (set_word name) (procedure_word name))))

-- the words of ASN.1 that the profile leaves out
unfoldable pub is_left_out : List ℕ → Bool
is_left_out name =
    is_text name (codes "REAL") || is_text name (codes "SET") || is_text name (codes "DEFAULT") || is_text name (codes "IMPORTS") || is_text name (codes "EXPORTS") || is_text name (codes "EXPLICIT") || is_text name (codes "IMPLICIT") || is_text name (codes "CLASS") || is_text name (codes "NULL")

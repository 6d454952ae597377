-- What lines are made of: a value after the words before it (profile).
use Rattle.std.specs.Prelude.{ℕ, ◌==◌, List, ◌++◌, codes, encode_utf8, if◌then◌else◌}
use Rattle.std.specs.Fmt.{decimal}
use Rattle.std.specs.List.{flat_map}
use Rattle.metrics_text.specs.declared.word.Word.{Word}
use Rattle.metrics_text.specs.declared.word.Word.TheVariants as word

-- what is between the parts of a line
unfoldable pub word_text : Word → List ℕ
word_text word.Help = codes "# HELP "
word_text word.Type = codes "\n# TYPE "
word_text word.Space = codes " "
word_text word.EndOfLine = codes "\n"
word_text word.Class = codes "{class=\""
word_text word.ResType = codes "\",type=\""
word_text word.Role = codes "\",role=\""
word_text word.Status = codes "\",status=\""
word_text word.Unit = codes "{unit=\""
word_text word.Volume = codes "\",volume=\""
word_text word.Received = codes "{direction=\"received"
word_text word.Sent = codes "{direction=\"sent"
word_text word.OfVolume = codes "{volume=\""
word_text word.EndOfLabels = codes "\"} "
word_text word.Point = codes "."

unfoldable pub number_after : Word → ℕ → List ℕ
number_after before n = word_text before ++ decimal n

-- the value of a metric, with the end of its line
unfoldable pub value_after : Word → ℕ → List ℕ
value_after before n = number_after before n ++ word_text word.EndOfLine

-- a byte in the value of a label: a line feed, a quotation mark and a backslash have a backslash before them (Prometheus' text format,
-- "Comments, help text, and type information"), and each other byte is the character of its number
abbrev pub escaped : ℕ → List ℕ
escaped byte =
    if byte == 10 then codes "\\n"
    else if byte == 34 then codes "\\\""
    else if byte == 92 then codes "\\\\"
    else encode_utf8 byte

unfoldable pub label_after : Word → (label : List ℕ) → List ℕ
label_after before label = word_text before ++ flat_map escaped label

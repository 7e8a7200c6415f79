-- What is said on standard error where there is no answer. Assumes nothing.
--     error_text e        the text of an error
use Rattle.std.specs.Prelude.{ℕ, List, ◌++◌, codes}
use Rattle.sheets.specs.declared.error.SheetError.{SheetError}
use Rattle.sheets.specs.declared.error.SheetError.TheVariants.{NoMemory, NotBuilt}
use Rattle.request.specs.Requests.{kind_word}

abbrev pub error_text : SheetError → List ℕ
error_text NoMemory = codes "out of memory"
error_text (NotBuilt k) = codes "drawings of the kind " ++ kind_word k ++ codes " are not built yet"

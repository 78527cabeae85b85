-- What the functions that write lines find in spectra: cited by them only.
use Rattle.std.specs.Prelude.{ℕ, Bool, List, [], ◌∷◌, ℤ, pos, length, get_or}
use Rattle.integer.specs.First.{first_where}
use Rattle.integer.specs.Tab.{nth}
use Rattle.integer.specs.Differ.{differ}
use Rattle.writing.specs.Writing.{line_of}
use Rattle.report_lines.specs.ReportLines.{label_word}

unfoldable pub spectral_label_line : List ℤ → List ℕ → ℕ → List ℕ
spectral_label_line sound labels i = line_of label_word (pos (get_or labels i 0) ∷ nth sound (get_or labels i 0) ∷ [])

unfoldable pub differ_at : List ℤ → List ℤ → List ℕ → ℕ → Bool
differ_at sound faulted labels i = differ (nth sound (get_or labels i 0)) (nth faulted (get_or labels i 0))

unfoldable pub spectral_covering : List ℤ → List ℤ → List ℕ → ℕ
spectral_covering sound faulted labels = get_or labels (first_where (differ_at sound faulted labels) (length labels)) 0

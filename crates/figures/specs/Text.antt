-- How the figures of a refusal are written.
use Rattle.std.specs.Prelude.{ℕ, List, ◌++◌, codes, decimal}
use Rattle.figures.specs.declared.Figures.{Figures}

-- The number and the two values, as in `(refused 41 2 0)`.
abbrev pub figures_text : Figures → List ℕ
figures_text f = codes "(refused " ++ (decimal f.number ++ (codes " " ++ (decimal f.first ++ (codes " " ++ (decimal f.second ++ codes ")")))))

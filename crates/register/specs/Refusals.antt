-- The number and the two values of each refusal.
use Rattle.std.specs.Prelude.{ℕ}
use Rattle.expression.specs.declared.fault.TableFault.{TableFault}
use Rattle.expression.specs.declared.fault.TableFault.TheVariants.{Empty, TooLong, Breaks, Unfinished, NoMemory}
use Rattle.figures.specs.declared.Figures.{Figures}
use Rattle.register.specs.declared.refusal.Refusal.{Refusal}
use Rattle.register.specs.declared.refusal.Refusal.TheVariants as refusal

abbrev told : ℕ → ℕ → Figures
told n a = record { number = n; first = a; second = 0 }

abbrev pub figures : Refusal → Figures
figures (refusal.Table Empty) = told 41 0
figures (refusal.Table TooLong) = told 41 255
figures (refusal.Table (Breaks i)) = told 41 i
figures (refusal.Table (Unfinished n)) = told 41 n
figures (refusal.Table NoMemory) = told 1 0
figures refusal.Full = told 42 0
figures refusal.NoMemory = told 1 0

-- A fault of a table as a refusal. Want of memory is one case, wherever it came.
abbrev pub refused_table : TableFault → Refusal
refused_table Empty = refusal.Table Empty
refused_table TooLong = refusal.Table TooLong
refused_table (Breaks i) = refusal.Table (Breaks i)
refused_table (Unfinished n) = refusal.Table (Unfinished n)
refused_table NoMemory = refusal.NoMemory

-- Want of memory.
abbrev pub no_memory : Refusal
no_memory = refusal.NoMemory

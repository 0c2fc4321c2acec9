-- What a print does to an output: its line lies behind what was printed, and the rest of the text is as it was.
use Rattle.std.specs.Prelude.{ℕ, ◌+◌, ◌≤◌, ◌≡◌, List, length}
use Rattle.report.specs.declared.Output.{Output}
use Rattle.report.specs.Text.{Put}

abbrev pub HasRoom : Output → List ℕ → Type 0
HasRoom out line = out.at + length line ≤ length out.text.now

-- the text is the one that was lent at first
pub record Prints (out : Output) (line : List ℕ) (out' : Output) : Type 0 where
  pub same_reference : out'.text.ghost_name ≡ out.text.ghost_name
  pub put : Put out.text.now out.at line out'.text.now out'.at

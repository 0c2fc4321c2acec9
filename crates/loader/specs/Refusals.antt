-- The numbers of the code's refusals.
use Rattle.std.specs.Prelude.{ℕ, Result, Ok, Err}
use Rattle.loader.specs.declared.refusal.Refusal.{Refusal}
use Rattle.loader.specs.declared.refusal.Refusal.TheVariants.{ImageTooLong, UndefinedByte, PastEnd, NameByte, TooManyInstructions, TooManyLabels, NoStart, Native, NoRoom}

abbrev pub number_of : Refusal → ℕ
number_of ImageTooLong = 1
number_of UndefinedByte = 2
number_of PastEnd = 3
number_of NameByte = 4
number_of TooManyInstructions = 5
number_of TooManyLabels = 6
number_of NoStart = 7
number_of Native = 8
number_of NoRoom = 10

-- an answer of the code with the number for the refusal
abbrev pub numbered : {A : Type 0} → Result A Refusal → Result A ℕ
numbered (Ok x) = Ok x
numbered (Err e) = Err (number_of e)
